-- A run of braked cycles, summed up by its speeds: each cycle but the last goes as far as the speeds at its start and its end together.
-- Assumes nothing.
use Prim.Native.Nat.{ℕ, ◌+◌, ◌*◌, ◌≤◌}
use mathlib.Core.Bool.{false}
use mathlib.Core.Path.{◌≡◌}
use native.Mathlib.Omega.{arith}
use Rattle.brake.specs.declared.Figures.{Figures}
use Rattle.motion.specs.Motion.{brake_speed, next_level, stands, stopping_distance}
use Rattle.motion.specs.Bounds.{Braking}
use Rattle.motion.proofs.Cycles.{travel_speeds}
use Rattle.motion.proofs.Runs.{stop_cycle}
use Rattle.motion.proofs.Bounds.{braking_on}

-- cycles that brought a train from speed v and level b to this speed and level; speeds is the sum of the speeds at their starts
pub record Summed (k : Figures) (v b speeds speed level : ℕ) : Type 0 where
  pub start : Braking k v b
  pub here : Braking k speed level
  pub left : 2 * speeds + speed + stopping_distance k speed level ≡ v + stopping_distance k v b
  pub covers : v ≤ 2 * speeds + speed

-- one cycle more, which is not the last
pub summed_on : {k : Figures} {v b speeds speed level after next : ℕ} → Summed k v b speeds speed level
    → stands k (brake_speed k speed level) (next_level k level) ≡ false → after ≡ brake_speed k speed level → next ≡ next_level k level
    → Summed k v b (speeds + speed) after next
summed_on {k = k} {speed = speed} {level = level} s moves slower harder =
    let travel = travel_speeds k speed level moves in
    let cycle = stop_cycle k speed level s.here.figures in
    let left = s.left in
    let covers = s.covers in
    rw (slower, harder) (record { start = s.start; here = braking_on k speed level s.here; left = omega arith; covers = omega arith })
