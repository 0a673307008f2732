-- Which train an id names: what the search for it says of the trains told.
-- Assumes nothing.
use Rattle.std.specs.Prelude.{Option, None, Some}
use Prim.Native.Nat.{ℕ, zero, suc, ◌+◌}
use mathlib.Core.Bool.{true, false}
use mathlib.Core.List.{List, [], ◌∷◌, map}
use mathlib.Core.Path.{◌≡◌, sym, ◌∙◌}
use native.Mathlib.Omega.{arith}
use lib.Dec.{eqb}
use borrow.Author.Tests.{eqb-true, eqb-false}
use Rattle.logic.proofs.Tests.{by_test}
use Rattle.table.specs.Table.{place_in}
use Rattle.safety.specs.History.{Told}
use Rattle.safety.specs.Claim.{record_of}

-- no train has this id
abbrev pub Absent : ℕ → List Told → Type 0
Absent id [] = Unit {0}
Absent id (x ∷ xs) = (x.entry.id ≡ id → ⊥) × Absent id xs

-- the first train that has it is at place i
abbrev pub IsAt : ℕ → List Told → ℕ → Type 0
IsAt id [] i = ⊥
IsAt id (x ∷ xs) zero = x.entry.id ≡ id
IsAt id (x ∷ xs) (suc i) = (x.entry.id ≡ id → ⊥) × IsAt id xs i

-- ---- the search

abbrev placed : ℕ → List Told → ℕ → Option ℕ
placed id xs n = place_in (map record_of xs) id n

place_here : (id : ℕ) (x : Told) (xs : List Told) (n : ℕ) → eqb x.entry.id id ≡ true → placed id (x ∷ xs) n ≡ Some n
unfolding place_in record_of
place_here id x xs n e = rw e

place_next : (id : ℕ) (x : Told) (xs : List Told) (n : ℕ) → eqb x.entry.id id ≡ false → placed id (x ∷ xs) n ≡ placed id xs (suc n)
unfolding place_in record_of
place_next id x xs n e = rw e

pub missing : (id : ℕ) (xs : List Told) (n : ℕ) → placed id xs n ≡ None → Absent id xs
missing id [] n e = tt
missing id (x ∷ xs) n e =
    by_test (eqb x.entry.id id)
    (λ q. let z : ◌≡◌ {A = ℕ} 0 1 = cc (place_here id x xs n q) in absurd (omega arith))
    (λ q. (eqb-false _ _ q, missing id xs (suc n) (sym (place_next id x xs n q) ∙ e)))

pub found : (id : ℕ) (xs : List Told) (n i : ℕ) → placed id xs n ≡ Some i → (j : ℕ) × (i ≡ n + j) × IsAt id xs j
unfolding place_in
found id [] n i e = let z : ◌≡◌ {A = ℕ} 0 1 = cc in absurd (omega arith)
found id (x ∷ xs) n i e =
    by_test (eqb x.entry.id id)
    (λ q. let same : n ≡ i = cc (place_here id x xs n q) in (0, omega arith, eqb-true _ _ q))
    (λ q.
    let (j, place, at) = found id xs (suc n) i (sym (place_next id x xs n q) ∙ e) in
    (suc j, omega arith, (eqb-false _ _ q, at)))
