-- Domination: of two trains at the same level, the one that is no further on and no faster stays so, cycle by cycle.
-- Assumes nothing.
use Prim.Native.Nat.{ℕ, ◌≤◌}
use mathlib.Core.Bool.{true}
use mathlib.Core.Path.{◌≡◌, refl, ap}
use native.Mathlib.Omega.{arith}
use Rattle.brake.specs.declared.Figures.{Figures}
use Rattle.brake.specs.Consist.{Sound}
use Rattle.motion.specs.declared.Motion.{Motion}
use Rattle.motion.specs.declared.Order.{Order}
use Rattle.motion.specs.declared.Order.TheVariants.{Drive, Brake}
use Rattle.motion.specs.Motion.{stands, stopping_distance}
use Rattle.motion.specs.Orders.{worst_case, stopping_place, reach}
use Rattle.motion.proofs.Cycles.{drive_travel_mono, drive_speed_mono}
use Rattle.motion.proofs.Runs.{stop_stands, stop_cycle, stop_mono}

pub record NoWorse (m m' : Motion) : Type 0 where
  pub head : m.head ≤ m'.head
  pub speed : m.speed ≤ m'.speed
  pub level : m.level ≡ m'.level

-- it lasts where one drives with a smaller cap
pub no_worse_drive : (k : Figures) (m m' : Motion) {c c' : ℕ} → NoWorse m m' → c ≤ c' → NoWorse (worst_case k m (Drive c)) (worst_case k m' (Drive c'))
no_worse_drive k m m' h g =
    let travel = drive_travel_mono k h.speed g in
    record { head = omega arith; speed = drive_speed_mono k h.speed g; level = refl }

-- so it stops no further on
pub no_worse_stop : (k : Figures) (m m' : Motion) → Sound k → NoWorse m m' → stopping_place k m ≤ stopping_place k m'
unfolding stopping_place
no_worse_stop k m m' s h =
    let distance = stop_mono k m.level s h.speed in
    let same = ap (stopping_distance k m'.speed) h.level in
    omega arith

-- ---- reach

-- the reach of a brake is where the train stops if it brakes from here on
pub reach_brake : (k : Figures) (m : Motion) → Sound k → reach k m Brake ≡ stopping_place k m
unfolding stopping_place
reach_brake k m s = let cycle = stop_cycle k m.speed m.level s in omega arith

-- head ≤ reach
pub head_reach : (k : Figures) (m : Motion) (o : Order) → m.head ≤ reach k m o
unfolding stopping_place
head_reach k m (Drive c) = omega arith
head_reach k m Brake = omega arith

-- the worst case of the coming cycle lies within the reach
pub worst_reach : (k : Figures) (m : Motion) (o : Order) → Sound k → (worst_case k m o).head ≤ reach k m o
worst_reach k m o s = rw (reach_brake k (worst_case k m o) s) at (head_reach k (worst_case k m o) Brake)

-- a train that stands goes no further while it brakes
pub reach_stands : (k : Figures) (m : Motion) → Sound k → stands k m.speed m.level ≡ true → reach k m Brake ≡ m.head
unfolding stopping_place
reach_stands k m s e =
    let stopped = stop_stands k m.speed m.level e in
    let place = reach_brake k m s in
    omega arith

-- a report no worse than the worst case, and then brake: the reach does not grow
pub brake_keeps : (k : Figures) (m : Motion) (o : Order) (m' : Motion) → Sound k → NoWorse m' (worst_case k m o) → reach k m' Brake ≤ reach k m o
brake_keeps k m o m' s h = rw (reach_brake k m' s) (no_worse_stop k m' (worst_case k m o) s h)
