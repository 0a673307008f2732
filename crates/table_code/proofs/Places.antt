-- The places of a table, as the code walks them: the search for a train, and how the others move up.
-- Assumes nothing.
use Rattle.std.proofs.Common.{◌≡◌, ℕ, zero, suc, min, ◌-◌, ◌<◌, List, [], ◌∷◌, ◌++◌, take, drop, set, get_or, length, sym, ◌∙◌, arith, zero-add, length-take-le, drop-cons, eqb, refl, add-one}
use Rattle.std.proofs.lemmas.List.{take_min, drop_min, set_at}
use Rattle.std.proofs.lemmas.Iterator.Adapters.{position_from-zero}
use Rattle.std.specs.List.{position, position_from, copy_within}
use Rattle.train.specs.declared.Train.{Train}
use Rattle.table.specs.declared.Table.{Table}
use Rattle.table.specs.Table.{on_line, place_in, place_of}

-- ---- the search

-- the library's word for a search that begins at place i
placed_from : (l : List Train) (id i : ℕ) → place_in l id i ≡ position_from (λ x. eqb x.id id) i l
unfolding place_in
placed_from [] id i = refl
placed_from (x ∷ l) id i = rw (placed_from l id (suc i), add-one i)

-- the library's word for a search finds the place
pub place_sought : (t : Table) (id : ℕ) → position (λ x. eqb x.id id) (on_line t) ≡ place_of t id
unfolding place_of
place_sought t id = position_from-zero (λ x. eqb x.id id) (on_line t) ∙ sym (placed_from (on_line t) id 0)

-- ---- moving up

-- of n elements, those that l has: the first gone, the others one place nearer the front, and b at the place of the last
pub first_gone : {X : Type 0} (l : List X) (n k : ℕ) (b : X) → 0 < n → 0 < length l → k ≡ min n (length l)
    → set (copy_within l 1 k 0) (k - 1) b ≡ drop 1 (take n l) ++ (b ∷ drop n l)
first_gone [] n k b some room e = absurd (omega arith)
first_gone (x ∷ xs) zero k b some room e = absurd (omega arith)
first_gone (x ∷ xs) (suc m) k b some room e =
    let same : k - 1 ≡ min m (length xs) = omega arith in
    rw (zero-add (k - 1), drop-cons (x ∷ xs) (k - 1) x (omega arith))
    (set_at (take (k - 1) xs) (get_or (x ∷ xs) (k - 1) x) (drop (k - 1) xs) b (k - 1) (length-take-le (k - 1) xs (omega arith))
    ∙ rw (same, take_min m xs, drop_min m xs))
