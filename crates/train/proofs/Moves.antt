-- When a train moves, in numbers. Apart from the laws that rest on it (Usual, Sentences), so that a wrong test is refused here.
-- Assumes nothing.
use Prim.Native.Nat.{◌<◌}
use mathlib.Core.Bool.{true}
use mathlib.Core.Logic.{◌↔◌}
use mathlib.Core.Path.{◌≡◌}
use native.Mathlib.Omega.{arith}
use borrow.Author.Tests.{ne_eqb, eqb-false, not-true}
use Rattle.brake.specs.declared.Figures.{Figures}
use Rattle.motion.specs.declared.Motion.{Motion}
use Rattle.motion.specs.Motion.{stands}
use Rattle.train.specs.Report.{moves}

-- document 02, (ii): a train moves until a report has speed 0
pub moves_exactly : (k : Figures) (m : Motion) → (moves k m ≡ true) ↔ (0 < m.speed)
unfolding moves stands
moves_exactly k m = (only, exactly)
  where
    only : moves k m ≡ true → 0 < m.speed
    only e = let moving = eqb-false m.speed 0 (not-true _ e) in omega arith

    exactly : 0 < m.speed → moves k m ≡ true
    exactly h = rw (ne_eqb m.speed 0 (omega arith))
