-- Laws of the ranges.
-- Assumes nothing.
use Prim.Native.Nat.{ℕ, ◌≤◌}
use mathlib.Core.Bool.{true}
use mathlib.Core.Logic.{◌↔◌}
use mathlib.Core.Path.{◌≡◌}
use lib.Dec.{leb}
use borrow.Author.Tests.{leb-true, le-leb}
use Rattle.logic.proofs.Tests.{both}
use Rattle.ranges.specs.Ranges.{between}

pub between_both : (low high n : ℕ) → between low high n ≡ true → (low ≤ n) × (n ≤ high)
unfolding between
between_both low high n e =
    let tests = both (leb low n) (leb n high) e in
    (leb-true _ _ tests.0, leb-true _ _ tests.1)

-- and every number in the range passes
pub between_exactly : (low high n : ℕ) → (between low high n ≡ true) ↔ ((low ≤ n) × (n ≤ high))
unfolding between
between_exactly low high n = (between_both low high n, λ h. rw (le-leb low n h.0, le-leb n high h.1))
