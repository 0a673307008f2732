-- What the search of a list has found, said a second time: in places and ids. Apart from the laws that rest on it (Sentences), so that a wrong
-- search is refused here.
-- Assumes nothing.
use Rattle.std.specs.Prelude.{Option, None, Some}
use Prim.Native.Nat.{ℕ, zero, suc, ◌+◌, ◌<◌}
use mathlib.Core.List.{List, [], ◌∷◌}
use mathlib.Core.Path.{◌≡◌}
use native.Mathlib.Omega.{arith}
use lib.Dec.{eqb}
use lib.ListN.{length, get_or}
use borrow.Author.Tests.{eqb-true, eqb-false}
use Rattle.logic.proofs.Tests.{by_test}
use Rattle.train.specs.declared.Train.{Train}
use Rattle.table.specs.Table.{blank_train, place_in}

abbrev pub id_at : List Train → ℕ → ℕ
id_at xs j = (get_or xs j blank_train).id

-- what the search of a list, whose first train is at place n, has found
abbrev pub Seen : List Train → ℕ → ℕ → Option ℕ → Type 0
Seen xs id n None = (j : ℕ) → j < length xs → id_at xs j ≡ id → ⊥
Seen xs id n (Some i) = (j : ℕ) × (i ≡ n + j) × (j < length xs) × (id_at xs j ≡ id) × ((m : ℕ) → m < j → id_at xs m ≡ id → ⊥)

further : (x : Train) (xs : List Train) (id n : ℕ) (f : Option ℕ) → (x.id ≡ id → ⊥) → Seen xs id (suc n) f → Seen (x ∷ xs) id n f
further x xs id n None other h = λ j below. go j below
  where
    go : (j : ℕ) → j < length (x ∷ xs) → id_at (x ∷ xs) j ≡ id → ⊥
    go zero below = other
    go (suc j) below = h j (omega arith)
further x xs id n (Some i) other (j, place, below, here, first) = (suc j, omega arith, omega arith, here, go)
  where
    go : (m : ℕ) → m < suc j → id_at (x ∷ xs) m ≡ id → ⊥
    go zero before = other
    go (suc m) before = first m (omega arith)

pub seen : (xs : List Train) (id n : ℕ) → Seen xs id n (place_in xs id n)
unfolding place_in
seen [] id n = λ j below. absurd (omega arith)
seen (x ∷ xs) id n =
    by_test (eqb x.id id)
    (λ e. rw (e, place_in) (0, omega arith, omega arith, eqb-true _ _ e, λ m before. absurd (omega arith)))
    (λ e. rw (e, place_in) (further x xs id n (place_in xs id (suc n)) (eqb-false _ _ e) (seen xs id (suc n))))
