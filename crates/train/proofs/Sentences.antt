-- Document 01, "Line and consist" and "Orders", said a second time of one train: in numbers and in the fields of its record, where the
-- definitions test and choose. A wrong definition is refused here, whatever the code.
-- Assumes nothing.
use Rattle.std.specs.Prelude.{None, Some}
use Prim.Native.Nat.{ℕ, ◌+◌, ◌*◌, ◌≤◌, ◌<◌}
use mathlib.Core.Bool.{true, false}
use mathlib.Core.Logic.{◌⊎◌, ◌↔◌}
use mathlib.Core.Path.{◌≡◌, refl, ap}
use Rattle.logic.proofs.Tests.{both}
use Rattle.ranges.specs.Ranges.{line_end_in_range, safety_in_range, ceiling_in_range, traction_in_range}
use Rattle.ranges.proofs.Sentences.{line_end, safety_distance, speed_ceiling, greatest_traction_lem}
use Rattle.motion.specs.declared.Motion.{Motion}
use Rattle.motion.specs.declared.Order.{Order}
use Rattle.motion.specs.declared.Order.TheVariants.{Drive, Brake}
use Rattle.motion.specs.Motion.{brake_travel, brake_speed, next_level, drive_travel, drive_speed, stopping_distance}
use Rattle.motion.specs.Orders.{is_brake, worst_case, reach}
use Rattle.motion.proofs.Sentences.{brake_tested}
use Rattle.motion.proofs.OrderSentences.{GreatestCap, drive_exactly, brake_at_zero}
use Rattle.brake.specs.declared.Figures.{Figures}
use Rattle.brake.specs.Consist.{Sound}
use Rattle.calls.specs.declared.Opening.{Opening}
use Rattle.calls.specs.declared.Entry.{Entry}
use Rattle.calls.specs.declared.Reading.{Reading}
use Rattle.train.specs.declared.Settings.{Settings}
use Rattle.train.specs.declared.Authority.{Authority}
use Rattle.train.specs.declared.Marks.{Marks}
use Rattle.train.specs.declared.Train.{Train}
use Rattle.train.specs.Ranges.{settings_in_range}
use Rattle.train.specs.Record.{fresh_authority, ending_at, entering, same}
use Rattle.train.specs.Track.{steps_of, limit_behind}
use Rattle.train.specs.Report.{reach_of, allowed, motion_after, moves, order_after, is_penalty, ordered}
use Rattle.train.proofs.Track.{InLimit, limit_first, in_behind, behind_in}
use Rattle.train.proofs.Moves.{moves_exactly}
use Rattle.train.proofs.Usual.{as_usual}
use Rattle.train.proofs.Records.{within_worst, held_brakes, penalty_brakes, free_order}

-- ---- the settings

-- "line end 1 to 2,000,000,000,000; safety distance 0 to 20,000,000,000; speed ceiling V 1 to 40,000,000; greatest traction A 1 to 100,000"
pub record Offers (o : Opening) : Type 0 where
  pub end : (1 ≤ o.end) × (o.end ≤ 2000000000000)
  pub safety : (0 ≤ o.safety) × (o.safety ≤ 20000000000)
  pub ceiling : (1 ≤ o.ceiling) × (o.ceiling ≤ 40000000)
  pub traction : (1 ≤ o.traction) × (o.traction ≤ 100000)

pub settings_exactly : (o : Opening) → (settings_in_range o ≡ true) ↔ Offers o
unfolding settings_in_range
settings_exactly o = (only, exactly)
  where
    only : settings_in_range o ≡ true → Offers o
    only e =
        let three = both _ (traction_in_range o.traction) e in
        let two = both _ (ceiling_in_range o.ceiling) three.0 in
        let one = both (line_end_in_range o.end) (safety_in_range o.safety) two.0 in
        record {
          end = (line_end o.end).0 one.0;
          safety = (safety_distance o.safety).0 one.1;
          ceiling = (speed_ceiling o.ceiling).0 two.1;
          traction = (greatest_traction_lem o.traction).0 three.1;
        }

    exactly : Offers o → settings_in_range o ≡ true
    exactly f =
        rw ((line_end o.end).1 f.end, (safety_distance o.safety).1 f.safety, (speed_ceiling o.ceiling).1 f.ceiling, (greatest_traction_lem o.traction).1 f.traction)

-- ---- the limit

-- "for the first train it is the line end"
pub limit_of_the_first : (σ : Settings) (place : ℕ) → InLimit (limit_behind σ None) place ↔ (place ≤ σ.end)
limit_of_the_first σ place = rw (limit_first σ) ((λ h. h), (λ h. h))

-- "the rear of the train ahead minus the safety distance"; "a train's rear is its head minus its length"; "1 ft is 6,096,000"
pub limit_behind_lem : (σ : Settings) (a : Train) (place : ℕ)
    → InLimit (limit_behind σ (Some a)) place ↔ (place + σ.safety + 6096000 * a.length ≤ a.motion.head)
unfolding steps_of
limit_behind_lem σ a place = (in_behind σ a place, behind_in σ a place)

-- ---- the authority

-- "end = head ... and a starting request number for this stay"
pub fresh_authority_lem : (h s : ℕ) → fresh_authority h s ≡ record { end = h; goal = h; start = s; number = s; length = 0 }
fresh_authority_lem h s = refl

-- another end, where orders aim too, and nothing else
pub another_end : (a : Authority) (place : ℕ) → ending_at a place ≡ record { end = place; goal = place; start = a.start; number = a.number; length = a.length }
another_end a place = refl

-- ---- the record

-- Enter: "standing; end = head, order brake, level B, not held, and a starting request number for this stay"; "Length is the entered one"
pub entered : (e : Entry) (k : Figures) → entering e k
    ≡ record {
      id = e.id;
      length = e.length;
      figures = k;
      motion = record { head = e.head; speed = 0; level = k.full };
      order = Brake;
      authority = record { end = e.head; goal = e.head; start = e.start; number = e.start; length = 0 };
      marks = record { held = false; penalty = false };
    }
entered e k = refl

-- id, length and figures stay those of the entering
pub same_train : (x : Train) (m : Motion) (o : Order) (a : Authority) (ms : Marks) → same x m o a ms
    ≡ record { id = x.id; length = x.length; figures = x.figures; motion = m; order = o; authority = a; marks = ms }
same_train x m o a ms = refl

-- ---- reports

-- What an order allows a report. "It is allowed if the head is not behind the last one nor beyond the worst case of the last order, and the
-- speed is at most that worst case": driven with cap c, it travels 2×v + c and ends at v + c; braked, it travels and ends as a braked cycle.
abbrev pub Allows : Figures → Motion → Order → Reading → Type 0
Allows k m (Drive c) r = (m.head ≤ r.head) × (r.head ≤ m.head + (2 * m.speed + c)) × (r.speed ≤ m.speed + c)
Allows k m Brake r = (m.head ≤ r.head) × (r.head ≤ m.head + brake_travel k m.speed m.level) × (r.speed ≤ brake_speed k m.speed m.level)

pub report_exactly : (x : Train) (r : Reading) → (allowed x r ≡ true) ↔ Allows x.figures x.motion x.order r
unfolding drive_travel drive_speed
report_exactly x r = (λ e. only x.figures x.motion x.order ((within_worst x r).0 e), λ so. (within_worst x r).1 (exactly x.figures x.motion x.order so))
  where
    only : (k : Figures) (m : Motion) (o : Order)
        → (m.head ≤ r.head) × (r.head ≤ (worst_case k m o).head) × (r.speed ≤ (worst_case k m o).speed) → Allows k m o r
    only k m (Drive c) h = h
    only k m Brake h = h

    exactly : (k : Figures) (m : Motion) (o : Order)
        → Allows k m o r → (m.head ≤ r.head) × (r.head ≤ (worst_case k m o).head) × (r.speed ≤ (worst_case k m o).speed)
    exactly k m (Drive c) h = h
    exactly k m Brake h = h

-- "A brake order starts at the level found after the last cycle: 0 after a driven one, the next level after a braked one"
abbrev pub level_found : Figures → Motion → Order → ℕ
level_found k m (Drive c) = 0
level_found k m Brake = next_level k m.level

pub motion_found : (x : Train) (r : Reading) → motion_after x r ≡ record { head = r.head; speed = r.speed; level = level_found x.figures x.motion x.order }
motion_found x r = ap (λ (level : ℕ). record { head = r.head; speed = r.speed; level = level }) (found x.figures x.motion x.order)
  where
    found : (k : Figures) (m : Motion) (o : Order) → (worst_case k m o).level ≡ level_found k m o
    found k m (Drive c) = refl
    found k m Brake = refl

-- "Reach is the worst-case head ... under that order": the train's own, in its last motion (motion/proofs/OrderSentences: reach_driven, reach_braked)
pub reach_under : (x : Train) → reach_of x ≡ reach x.figures x.motion x.order
reach_under x = refl

-- ---- orders

module _ (σ : Settings) (x : Train) (m : Motion) where
  -- "a brake order, once given to a moving train, is repeated at each report"; "a marked train gets brake": whatever its track, held or not
  pub penalty_order : x.marks.penalty ≡ true → 0 < m.speed → order_after σ x m ≡ Brake
  penalty_order marked moving = penalty_brakes σ x m marked ((moves_exactly x.figures m).1 moving)

  -- "Held: brake."
  pub held_order : x.marks.held ≡ true → order_after σ x m ≡ Brake
  held_order = held_brakes σ x m

  -- "demand 2's rules for the greatest cap and for brake hold for unmarked trains"; "until one with speed 0 is accepted, whose own order is
  -- worked out as usual"
  module _ (free : x.marks.held ≡ false) (unmarked : (x.marks.penalty ≡ false) ⊎ (m.speed ≡ 0)) where
    -- "Otherwise drive with the greatest cap c from 0 to A where v + c is at most V and the reach is at most the end of authority."
    -- Document 02, (vi): "Orders are then worked out against the wanted place, which stands for the end in demand 2's rules".
    pub free_drives : (c : ℕ) → (order_after σ x m ≡ Drive c) ↔ GreatestCap x.figures σ.maxima x.authority.goal m c
    free_drives c = rw (free_order σ x m (as_usual σ x m free unmarked)) (drive_exactly x.figures σ.maxima x.authority.goal m c)

    -- "No such c: brake."
    pub free_brakes : Sound x.figures → (order_after σ x m ≡ Brake)
        ↔ ((σ.maxima.ceiling < m.speed) ⊎ (x.authority.goal < m.head + 2 * m.speed + stopping_distance x.figures m.speed 0))
    free_brakes s = rw (free_order σ x m (as_usual σ x m free unmarked)) (brake_at_zero x.figures σ.maxima x.authority.goal m s)

-- ---- the mark

-- "The train record gains a mark for this": brake to a moving train sets it, and no other order leaves it
pub mark_exactly : (x : Train) (m : Motion) (o : Order) → ((ordered x m o).marks.penalty ≡ true) ↔ ((o ≡ Brake) × (0 < m.speed))
unfolding is_penalty
mark_exactly x m o = (only, exactly)
  where
    only : (ordered x m o).marks.penalty ≡ true → (o ≡ Brake) × (0 < m.speed)
    only e = let (braked, moving) = both (is_brake o) (moves x.figures m) e in (brake_tested o braked, (moves_exactly x.figures m).0 moving)

    exactly : (o ≡ Brake) × (0 < m.speed) → (ordered x m o).marks.penalty ≡ true
    exactly (braked, moving) = rw (braked, (moves_exactly x.figures m).1 moving)
