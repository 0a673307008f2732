-- The bounds within which motion is worked out, so that no sum overflows 64 bits. Document 01 has the ranges only.
use Rattle.std.specs.Prelude.{ℕ, ◌+◌, ◌≤◌, Bool, ◌&&◌, leb}
use Rattle.ranges.specs.Ranges.{greatest_line_end, greatest_ceiling, greatest_traction}
use Rattle.brake.specs.declared.Figures.{Figures}
use Rattle.brake.specs.Consist.{Sound, greatest_full}
use Rattle.motion.specs.declared.Motion.{Motion}

-- No report leaves a higher speed: on flat track the ceiling holds while braking too.
abbrev pub greatest_speed : ℕ
greatest_speed = greatest_ceiling

-- the bounds of a train and a cap as a test, for a record of which nothing is known (proofs/Bounds: bounds_tested, bounds_hold)
unfoldable pub in_bounds : Figures → Motion → ℕ → Bool
in_bounds k m c =
    leb 1 k.growth && leb k.growth k.full && leb k.full greatest_full && leb m.level k.full
    && leb m.head greatest_line_end && leb m.speed greatest_speed && leb c greatest_traction

-- ---- words of inner contracts

-- What the code may take for granted. A report brings its speed from outside. It is used only where the record passes `in_bounds`, the report is
-- within the worst case of the last order, and the motion after it passes `in_bounds` too (train/specs/Report: computable, allowed,
-- report_allowed). A report within that worst case keeps these bounds (proofs/Orders: within_report, within_bounded).

-- a level that the brake can have
pub record Level (k : Figures) (b : ℕ) : Type 0 where
  pub figures : Sound k
  pub level : b ≤ k.full

-- a train that brakes at speed v and level b; it may have gained a cap on top
pub record Braking (k : Figures) (v b : ℕ) : Type 0 where
  pub figures : Sound k
  pub speed : v ≤ greatest_speed + greatest_traction
  pub level : b ≤ k.full

-- a train that drives at speed v with cap c
pub record Driving (k : Figures) (v c : ℕ) : Type 0 where
  pub figures : Sound k
  pub speed : v ≤ greatest_speed
  pub cap : c ≤ greatest_traction

-- a train on some line, and a cap
pub record Bounded (k : Figures) (m : Motion) (c : ℕ) : Type 0 where
  pub figures : Sound k
  pub head : m.head ≤ greatest_line_end
  pub speed : m.speed ≤ greatest_speed
  pub level : m.level ≤ k.full
  pub cap : c ≤ greatest_traction
