-- A table's rule holds at each of its entries by one test, which the checker computes over the whole table.
-- Assumes nothing.
use Prim.Native.Nat.{ℕ, zero, suc, ◌+◌, ◌<◌}
use mathlib.Core.Bool.{Bool, true, ◌&&◌}
use mathlib.Core.List.{List, [], ◌∷◌}
use mathlib.Core.Path.{◌≡◌, ◌∙◌, ap}
use native.Mathlib.Nat.{add-zero, zero-add, add-suc, suc-add}
use native.Mathlib.Omega.{arith}
use lib.Dec.{eqb}
use lib.ListN.{length, get_or}
use borrow.Author.Tests.{eqb-true}
use Rattle.logic.proofs.Tests.{both}

-- each entry is what the rule f gives for its place, counted from i
abbrev pub follows : (ℕ → ℕ) → ℕ → List ℕ → Bool
follows f i [] = true
follows f i (x ∷ xs) = eqb x (f i) && follows f (suc i) xs

from : (f : ℕ → ℕ) (i : ℕ) (xs : List ℕ) → follows f i xs ≡ true → (k : ℕ) → k < length xs → get_or xs k 0 ≡ f (i + k)
from f i [] e k h = absurd (omega arith)
from f i (x ∷ xs) e zero h = eqb-true x (f i) (both _ _ e).0 ∙ rw add-zero
from f i (x ∷ xs) e (suc k) h = from f (suc i) xs (both (eqb x (f i)) _ e).1 k (omega arith) ∙ rw (suc-add, add-suc)

pub entry_follows : (f : ℕ → ℕ) (xs : List ℕ) → follows f 0 xs ≡ true → (k : ℕ) → k < length xs → get_or xs k 0 ≡ f k
entry_follows f xs e k h = from f 0 xs e k h ∙ ap f (zero-add k)
