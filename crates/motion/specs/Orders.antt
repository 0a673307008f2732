-- Document 01, "Orders": what an order o allows a train with figures k and motion m, and which order it gets on a line with
-- maxima l.
use Rattle.std.specs.Prelude.{ℕ, zero, suc, ◌+◌, Bool, true, false, ◌&&◌, leb}
use Rattle.brake.specs.declared.Figures.{Figures}
use Rattle.motion.specs.declared.Motion.{Motion}
use Rattle.motion.specs.declared.Maxima.{Maxima}
use Rattle.motion.specs.declared.Order.{Order}
use Rattle.motion.specs.declared.Order.TheVariants.{Drive, Brake}
use Rattle.motion.specs.Motion.{drive_travel, drive_speed, released_level, brake_travel, brake_speed, next_level, stopping_distance}

-- an order as an answer gives it: 1 drive or 2 brake, and the cap, 0 with brake
abbrev pub order_number : Order → ℕ
order_number (Drive c) = 1
order_number Brake = 2

abbrev pub order_cap : Order → ℕ
order_cap (Drive c) = c
order_cap Brake = 0

-- whether an order is brake
abbrev pub is_brake : Order → Bool
is_brake (Drive c) = false
is_brake Brake = true

-- worst case of an order: head, speed and level at the end of the coming cycle
abbrev pub worst_case : Figures → Motion → Order → Motion
worst_case k m (Drive c) =
    record { head = m.head + drive_travel k m.speed c; speed = drive_speed k m.speed c; level = released_level }
worst_case k m Brake =
    record { head = m.head + brake_travel k m.speed m.level; speed = brake_speed k m.speed m.level; level = next_level k m.level }

-- where a train that only brakes from here on stops
unfoldable pub stopping_place : Figures → Motion → ℕ
stopping_place k m = m.head + stopping_distance k m.speed m.level

-- reach
abbrev pub reach : Figures → Motion → Order → ℕ
reach k m o = stopping_place k (worst_case k m o)

-- the reach of cap c is at most the goal: the place that orders are worked out against, the end of authority
abbrev pub keeps_goal : Figures → ℕ → Motion → ℕ → Bool
keeps_goal k goal m c = leb (reach k m (Drive c)) goal

-- cap c may be given: v + c is at most V, and the reach is at most the goal
unfoldable pub cap_fits : Figures → Maxima → ℕ → Motion → ℕ → Bool
cap_fits k l goal m c = leb (drive_speed k m.speed c) l.ceiling && keeps_goal k goal m c

-- drive with the greatest cap from 0 to n that passes a test, looked for from n downwards; no such cap: brake
unfoldable pub greatest : (ℕ → Bool) → ℕ → Order
greatest passes zero = elim (passes 0) [ true ↦ Drive 0 | false ↦ Brake ]
greatest passes (suc n) = elim (passes (suc n)) [ true ↦ Drive (suc n) | false ↦ greatest passes n ]

-- the order that the goal allows
unfoldable pub order_for : Figures → Maxima → ℕ → Motion → Order
order_for k l goal m = greatest (cap_fits k l goal m) l.traction
