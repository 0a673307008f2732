-- Document 01, "Orders", and document 02, (ii) and (vi): a report at the end of a cycle, the order that it gets, the mark of a penalty brake,
-- and what becomes of a pending call back.
use Rattle.std.specs.Prelude.{ℕ, Bool, true, false, not, cond, ◌&&◌, ◌||◌, leb, ltb}
use Rattle.brake.specs.declared.Figures.{Figures}
use Rattle.motion.specs.declared.Motion.{Motion}
use Rattle.motion.specs.declared.Order.{Order}
use Rattle.motion.specs.declared.Order.TheVariants.{Brake}
use Rattle.motion.specs.Motion.{stands}
use Rattle.motion.specs.Orders.{order_cap, is_brake, worst_case, reach, order_for}
use Rattle.motion.specs.Bounds.{in_bounds}
use Rattle.calls.specs.declared.Reading.{Reading}
use Rattle.train.specs.declared.Settings.{Settings}
use Rattle.train.specs.declared.Authority.{Authority}
use Rattle.train.specs.declared.Train.{Train}
use Rattle.train.specs.Record.{ending_at, is_pending, same}

-- worst case of a train's last order
abbrev pub worst_of : Train → Motion
worst_of x = worst_case x.figures x.motion x.order

-- reach of a train under its last order
abbrev pub reach_of : Train → ℕ
reach_of x = reach x.figures x.motion x.order

-- A report is allowed if the head is not behind the last one nor beyond the worst case of the last order, and the speed is at
-- most that worst case.
unfoldable pub allowed : Train → Reading → Bool
allowed x r = leb x.motion.head r.head && leb r.head (worst_of x).head && leb r.speed (worst_of x).speed

-- the motion then: a brake starts at the level found after the last cycle
abbrev pub motion_after : Train → Reading → Motion
motion_after x r = record { head = r.head; speed = r.speed; level = (worst_of x).level }

-- the place that orders are worked out against: the end of authority, or the place that a pending call back wants
abbrev pub goal_of : Train → ℕ
goal_of x = x.authority.goal

-- a train that does not stand moves
unfoldable pub moves : Figures → Motion → Bool
moves k m = not (stands k m.speed m.level)

-- Brake, whatever the track: marked and still moving, or held.
unfoldable pub must_brake : Train → Motion → Bool
must_brake x m = (x.marks.penalty && moves x.figures m) || x.marks.held

-- Otherwise drive with the greatest cap, or brake where there is none.
unfoldable pub order_after : Settings → Train → Motion → Order
order_after σ x m = elim (must_brake x m) [ true ↦ Brake | false ↦ order_for x.figures σ.maxima (goal_of x) m ]

-- a brake order to a moving train: a penalty brake
unfoldable pub is_penalty : Figures → Motion → Order → Bool
is_penalty k m o = is_brake o && moves k m

-- A pending call back after a report's order with reach r: once the reach is at or before the place that it wants, the end moves there; of a
-- train that stands with its head past that place, the end becomes the head. Either ends the call back.
unfoldable pub settled : Authority → Bool → ℕ → ℕ → Authority
settled a standing head r =
    cond (is_pending a)
    (cond (leb r a.goal) (ending_at a a.goal) (cond (standing && ltb a.goal head) (ending_at a head) a))
    a

-- the record with this motion and order; a penalty brake marks it, and any other order takes the mark away
abbrev pub ordered : Train → Motion → Order → Train
ordered x m o =
    same x m o (settled x.authority (stands x.figures m.speed m.level) m.head (reach x.figures m o))
    (record { held = x.marks.held; penalty = is_penalty x.figures m o })

-- the record after an accepted report
unfoldable pub reported : Settings → Train → Reading → Train
reported σ x r = ordered x (motion_after x r) (order_after σ x (motion_after x r))

-- The record is one that motion can be worked out from. No list of calls leaves another (safety/proofs/Bounds: always_computable).
unfoldable pub computable : Train → Bool
computable x = in_bounds x.figures x.motion (order_cap x.order)

-- What a report is judged by. On a table that calls left this is `allowed` (safety/proofs/Bounds: report_judged); the rest keeps
-- sums within 64 bits on any other table.
unfoldable pub report_allowed : Settings → Train → Reading → Bool
report_allowed σ x r = computable x && allowed x r && in_bounds x.figures (motion_after x r) σ.maxima.traction
