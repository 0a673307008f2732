-- Laws of the places of a table: where a train is found.
-- Assumes nothing.
use Rattle.std.specs.Prelude.{Option, None, Some, is_some}
use Prim.Native.Nat.{ℕ, zero, suc, ◌+◌, ◌≤◌, ◌<◌}
use mathlib.Core.Bool.{false}
use mathlib.Core.List.{List, [], ◌∷◌}
use mathlib.Core.Path.{◌≡◌, refl, sym, ap, ◌∙◌}
use native.Mathlib.Omega.{arith}
use lib.Dec.{eqb}
use lib.ListN.{length, get_or, set, length-take}
use lib.Seq.{get_or-take, get_or-set_same, set-get_or, take-set-lt}
use Rattle.logic.proofs.Tests.{by_test}
use Rattle.train.specs.declared.Train.{Train}
use Rattle.table.specs.declared.Table.{Table}
use Rattle.table.specs.declared.Change.TheVariants.{Put}
use Rattle.table.specs.Table.{blank_train, on_line, place_in, place_of, train_at, limit_at, changed}

-- ---- what was found

abbrev Among : ℕ → ℕ → Option ℕ → Type 0
Among first past (Some i) = (first ≤ i) × (i < past)
Among first past None = Unit {0}

wider : (first past : ℕ) (f : Option ℕ) → Among (suc first) past f → Among first past f
wider first past (Some i) h = (omega arith, h.1)
wider first past None h = tt

place_among : (xs : List Train) (id i : ℕ) → Among i (i + length xs) (place_in xs id i)
unfolding place_in
place_among [] id i = tt
place_among (x ∷ xs) id i =
    by_test (eqb x.id id)
    (λ e. rw (e, place_in) (omega arith, omega arith))
    (λ e.
    let same : i + length (x ∷ xs) ≡ suc i + length xs = omega arith in
    rw (e, place_in, same) (wider i (suc i + length xs) (place_in xs id (suc i)) (place_among xs id (suc i))))

-- a train that was found is on the line
pub found_among : (t : Table) (id i : ℕ) → place_of t id ≡ Some i → i < length (on_line t)
unfolding place_of
found_among t id i e =
    let h : Among 0 (0 + length (on_line t)) (Some i) = rw e at (place_among (on_line t) id 0) in
    omega (arith, h.1)

pub found_below : (t : Table) (id i : ℕ) → place_of t id ≡ Some i → i < t.count
found_below t id i e =
    let h = found_among t id i e in
    let n = length-take t.count t.trains in
    omega arith

pub not_found : (f : Option ℕ) → is_some f ≡ false → f ≡ None
not_found (Some i) e = let z : ◌≡◌ {A = ℕ} 0 1 = cc in absurd (omega arith)
not_found None e = refl

-- place, limit and record of a train that was found
pub record FoundAt (t : Table) (o : Option ℕ) (i : ℕ) (limit : Option ℕ) (x : Train) : Type 0 where
  pub place : o ≡ Some i
  pub limited : limit ≡ limit_at t i
  pub here : x ≡ train_at t i

-- ---- another record of the same train

-- the search sees ids only
place_same : (xs : List Train) (k id i : ℕ) (y : Train) → y.id ≡ (get_or xs k blank_train).id → place_in (set xs k y) id i ≡ place_in xs id i
unfolding place_in
place_same [] k id i y e = refl
place_same (x ∷ xs) zero id i y e = rw e
place_same (x ∷ xs) (suc k) id i y e = rw (place_same xs k id (suc i) y e)

-- so each train is found where it was
pub still_found : (t : Table) (i : ℕ) (y : Train) → i < t.count → y.id ≡ (train_at t i).id → (id : ℕ) → place_of (changed t (Put i y)) id ≡ place_of t id
unfolding place_of
still_found t i y below same id =
    let here : y.id ≡ (get_or (on_line t) i blank_train).id =
    same ∙ ap (λ (u : Train). u.id) (sym (get_or-take t.count t.trains i blank_train below)) in
    rw (take-set-lt t.count t.trains i y below) (place_same (on_line t) i id 0 y here)

-- and what was put at its place stands there
pub still_there : (t : Table) (id i : ℕ) (y : Train) → place_of t id ≡ Some i → train_at (changed t (Put i y)) i ≡ y
still_there t id i y found =
    let below = found_among t id i found in
    let size = length-take t.count t.trains in
    get_or-set_same t.trains i y blank_train (omega arith)

-- the record that stands at a place, put there again
pub put_same : (t : Table) (i : ℕ) (x : Train) → x ≡ train_at t i → changed t (Put i x) ≡ t
put_same t i x here = rw (ap (set t.trains i) here ∙ set-get_or t.trains i blank_train)
