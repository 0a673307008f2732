-- Bounds that braking and driving keep, and the sums that fit by them.
-- Assumes nothing.
use Prim.Native.Nat.{ℕ, ◌+◌, ◌*◌, ◌≤◌}
use mathlib.Core.Bool.{true}
use mathlib.Core.Path.{◌≡◌, ◌∙◌}
use native.Mathlib.Nat.{mul-le-mul, le_trans}
use native.Mathlib.Omega.{arith}
use lib.Dec.{leb}
use borrow.Author.Tests.{le-leb, leb-true}
use Rattle.brake.specs.declared.Figures.{Figures}
use Rattle.brake.specs.Consist.{greatest_full}
use Rattle.logic.proofs.Tests.{both}
use Rattle.motion.specs.declared.Motion.{Motion}
use Rattle.motion.specs.declared.Order.{Order}
use Rattle.motion.specs.declared.Order.TheVariants.{Drive, Brake}
use Rattle.motion.specs.Motion.{brake_travel, brake_speed, next_level, drive_travel, drive_speed, enough_cycles, stopping_distance}
use Rattle.motion.specs.Orders.{order_cap, worst_case}
use Rattle.ranges.specs.Ranges.{greatest_line_end, greatest_ceiling, greatest_traction}
use Rattle.motion.specs.Bounds.{greatest_speed, Braking, Driving, Bounded, in_bounds}
use Rattle.motion.proofs.Cycles.{travel_le, speed_le, level_le}
use Rattle.motion.proofs.Runs.{stop_le}

-- braking keeps what braking takes for granted
pub braking_on : (k : Figures) (v b : ℕ) → Braking k v b → Braking k (brake_speed k v b) (next_level k b)
braking_on k v b h =
    let slower = speed_le k v b in
    record { figures = h.figures; speed = omega arith; level = level_le k b }

-- no run is longer, and no stopping distance
abbrev most_cycles : ℕ
most_cycles = greatest_speed + greatest_traction + 1

abbrev pub longest_stop : ℕ
longest_stop = most_cycles * (most_cycles + 1)

pub stop_fits : (k : Figures) (v b : ℕ) → Braking k v b → stopping_distance k v b ≤ longest_stop
unfolding enough_cycles
stop_fits k v b h =
    let few : enough_cycles k v b ≤ most_cycles = omega arith in
    le_trans (stop_le k v b h.figures) (mul-le-mul {m₂ = most_cycles + 1} few (omega arith))

-- ---- the test

pub bounded_cap : {k : Figures} {m : Motion} {c d : ℕ} → Bounded k m c → d ≤ c → Bounded k m d
bounded_cap h g = record { figures = h.figures; head = h.head; speed = h.speed; level = h.level; cap = omega arith }

-- what the test has found, and the converse
pub bounds_tested : (k : Figures) (m : Motion) (c : ℕ) → in_bounds k m c ≡ true → Bounded k m c
unfolding in_bounds
bounds_tested k m c e =
    let six = both _ (leb c greatest_traction) e in
    let five = both _ (leb m.speed greatest_speed) six.0 in
    let four = both _ (leb m.head greatest_line_end) five.0 in
    let three = both _ (leb m.level k.full) four.0 in
    let two = both _ (leb k.full greatest_full) three.0 in
    let one = both (leb 1 k.growth) (leb k.growth k.full) two.0 in
    record {
      figures = record { growth_positive = leb-true _ _ one.0; growth_within = leb-true _ _ one.1; full_within = leb-true _ _ two.1 };
      head = leb-true _ _ four.1;
      speed = leb-true _ _ five.1;
      level = leb-true _ _ three.1;
      cap = leb-true _ _ six.1;
    }

-- all but the cap is within: the cap decides
pub bounds_cap : (k : Figures) (m : Motion) (c : ℕ) → Bounded k m 0 → in_bounds k m c ≡ leb c greatest_traction
unfolding in_bounds
bounds_cap k m c b =
    rw (
      le-leb 1 k.growth b.figures.growth_positive,
      le-leb k.growth k.full b.figures.growth_within,
      le-leb k.full greatest_full b.figures.full_within,
      le-leb m.level k.full b.level,
      le-leb m.head greatest_line_end b.head,
      le-leb m.speed greatest_speed b.speed,
    )

pub bounds_hold : (k : Figures) (m : Motion) (c : ℕ) → Bounded k m c → in_bounds k m c ≡ true
bounds_hold k m c b = bounds_cap k m c (bounded_cap b (omega arith)) ∙ le-leb c greatest_traction b.cap

-- ---- a bounded train under an order

pub braking : {k : Figures} {m : Motion} {c : ℕ} → Bounded k m c → Braking k m.speed m.level
braking h = record { figures = h.figures; speed = omega arith; level = h.level }

pub driving : {k : Figures} {m : Motion} {c : ℕ} → Bounded k m c → Driving k m.speed c
driving h = record { figures = h.figures; speed = h.speed; cap = h.cap }

-- a cycle takes the head no further
abbrev pub longest_cycle : ℕ
longest_cycle = 2 * greatest_speed + greatest_traction

pub drive_travel_fits : (k : Figures) (v c : ℕ) → Driving k v c → drive_travel k v c ≤ longest_cycle
unfolding drive_travel
drive_travel_fits k v c h = omega arith

pub brake_travel_fits : (k : Figures) (m : Motion) {c : ℕ} → Bounded k m c → brake_travel k m.speed m.level ≤ longest_cycle
brake_travel_fits k m h = let t = travel_le k m.speed m.level in omega arith

-- the worst case of its order
pub worst_head : (k : Figures) (m : Motion) (o : Order) → Bounded k m (order_cap o) → (worst_case k m o).head ≤ greatest_line_end + longest_cycle
worst_head k m (Drive c) h = let t = drive_travel_fits k m.speed c (driving h) in omega arith
worst_head k m Brake h = let t = brake_travel_fits k m h in omega arith

pub worst_braking : (k : Figures) (m : Motion) (o : Order) → Bounded k m (order_cap o) → Braking k (worst_case k m o).speed (worst_case k m o).level
unfolding drive_speed
worst_braking k m (Drive c) h = record { figures = h.figures; speed = omega arith; level = omega arith }
worst_braking k m Brake h = braking_on k m.speed m.level (braking h)

-- ---- the speed bound

-- The speed that no train exceeds at a level of its brake, on a line with this ceiling. Flat track never adds speed to a
-- braked train, so the level does not matter.
unfoldable pub speed_bound : Figures → ℕ → ℕ → ℕ
speed_bound k ceiling level = ceiling

pub bound_ceiling : (k : Figures) (ceiling level v : ℕ) → v ≤ ceiling → v ≤ speed_bound k ceiling level
unfolding speed_bound
bound_ceiling k ceiling level v h = h

pub bound_brake : (k : Figures) (ceiling level v : ℕ) → v ≤ speed_bound k ceiling level → brake_speed k v level ≤ speed_bound k ceiling (next_level k level)
unfolding speed_bound
bound_brake k ceiling level v h = le_trans (speed_le k v level) h

pub bound_fits : (k : Figures) (ceiling level v : ℕ) → ceiling ≤ greatest_ceiling → v ≤ speed_bound k ceiling level → v ≤ greatest_speed
unfolding speed_bound
bound_fits k ceiling level v h b = le_trans b h
