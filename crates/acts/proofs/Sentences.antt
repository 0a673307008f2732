-- Document 01, "Authorities" and "What is turned down", and document 02, (vi), said a second time of one train: in numbers and in the fields
-- of its record, where the definitions test and choose. A wrong definition is refused here, whatever the code.
-- Assumes nothing.
use Rattle.std.specs.Prelude.{None, Option, Result, Err, Ok}
use Rattle.calls.specs.declared.Refusal.{Refusal}
use Rattle.calls.specs.declared.Values.{Values}
use Prim.Native.Nat.{ℕ, ◌+◌, ◌≤◌, ◌<◌}
use mathlib.Core.Bool.{true, false, ◌&&◌}
use mathlib.Core.Logic.{◌⊎◌, inl, inr, ◌↔◌}
use mathlib.Core.Path.{◌≡◌, refl, sym, subst, ◌∙◌}
use native.Mathlib.Omega.{arith}
use lib.Dec.{leb, ltb, eqb}
use borrow.Author.Tests.{le-leb, lt-leb, lt-ltb, le-ltb, eq-eqb, eqb-true, leb-false, ltb-false, not-false}
use Rattle.logic.proofs.Tests.{by_test, both, neither}
use Rattle.ranges.proofs.Ranges.{between_exactly}
use Rattle.motion.specs.declared.Motion.{Motion}
use Rattle.motion.specs.declared.Order.TheVariants.{Brake}
use Rattle.motion.specs.Motion.{stands}
use Rattle.motion.specs.Orders.{is_brake, reach}
use Rattle.motion.proofs.Sentences.{brake_tested}
use Rattle.motion.proofs.Domination.{head_reach}
use Rattle.calls.specs.declared.Reading.{Reading}
use Rattle.calls.specs.declared.Extension.{Extension}
use Rattle.calls.specs.declared.Act.{Act}
use Rattle.calls.specs.declared.Act.TheVariants.{Report, Extend, CallBack, Hold, Lift}
use Rattle.calls.specs.declared.Refusal.TheVariants.{NotAllowed, BadRequest, OldNumber, OtherLength, NoTrack, BadPlace, Pending}
use Rattle.calls.specs.declared.Values.TheVariants.{Ordered, Extended, Zeros}
use Rattle.calls.specs.Checks.{first_of}
use Rattle.calls.proofs.Checks.{passed}
use Rattle.train.specs.declared.Settings.{Settings}
use Rattle.train.specs.declared.Authority.{Authority}
use Rattle.train.specs.declared.Train.{Train}
use Rattle.train.specs.Record.{same}
use Rattle.train.specs.Report.{reach_of, order_after, is_penalty, settled, reported, computable, report_allowed}
use Rattle.acts.specs.Acts.{request_in_range, is_old, is_repeat, extended, called_back, call_back_allowed, may_leave}
use Rattle.acts.specs.Decide.{decide, verdict}
use Rattle.train.proofs.Track.{InLimit, limit_within, limit_beyond}
use Rattle.train.proofs.Records.{report_passed}
use Rattle.train.proofs.Sentences.{Allows, report_exactly, level_found, motion_found, penalty_order}
use Rattle.train.proofs.Pending.{settled_numbers}
use Rattle.acts.proofs.Forms.{WellFormed, well_formed, ranged}
use Rattle.acts.proofs.CallBacks.{call_back_between, call_back_tested}
use Rattle.acts.proofs.Verdicts.{report_refused, report_taken, extend_bad, extend_old, extend_other, extend_repeat, extend_pending, extend_beyond, extend_new, call_back_refused, call_back_taken}

-- ---- reports

module _ (σ : Settings) (limit : Option ℕ) (x : Train) (r : Reading) where
  abbrev report : Result (Values × Train) Refusal
  report = verdict (decide σ limit x (Report r))

  -- 9 "report not allowed"
  pub report_9 : (Allows x.figures x.motion x.order r → ⊥) → report ≡ Err NotAllowed
  report_9 out =
      by_test (report_allowed σ x r) (λ e. absurd (out ((report_exactly x r).0 (report_passed σ x r e).allows))) (λ e. report_refused σ x r e)

  -- "A report gives head and speed at the end of a cycle"; the level is the one found after the last cycle. The record gets them, the order and
  -- the mark that they make; the answer that order and its reach. The order is worked out first, against the authority as it was; what it makes
  -- of a pending call back is said in train/proofs/Pending.
  abbrev pub AnsweredBy : Motion → Type 0
  AnsweredBy m =
      let o = order_after σ x m in
      report
      ≡ Ok (
        Ordered o (reach x.figures m o),
        same x m o (settled x.authority (stands x.figures m.speed m.level) m.head (reach x.figures m o))
            (record { held = x.marks.held; penalty = is_penalty x.figures m o }),
      )

  pub report_answered : report_allowed σ x r ≡ true
      → AnsweredBy (record { head = r.head; speed = r.speed; level = level_found x.figures x.motion x.order })
  unfolding reported
  report_answered e = subst AnsweredBy (motion_found x r) (report_taken σ x r e)

-- ---- extend

module _ (σ : Settings) (limit : Option ℕ) (x : Train) (q : Extension) where
  abbrev extension : Result (Values × Train) Refusal
  extension = verdict (decide σ limit x (Extend q))

  abbrev mine : Authority
  mine = x.authority

  -- 10 "request number or length out of range"
  pub extension_10 : (WellFormed σ q → ⊥) → extension ≡ Err BadRequest
  extension_10 out = by_test (request_in_range σ q) (λ e. absurd (out (well_formed σ q e))) (λ e. extend_bad σ x limit q e)

  module _ (a : WellFormed σ q) where
    -- 11 "number at or below the starting number, or below the last accepted"
    pub extension_11 : (q.number ≤ mine.start) ⊎ (q.number < mine.number) → extension ≡ Err OldNumber
    unfolding is_old
    extension_11 h = extend_old σ x limit q (ranged σ q a) (old h)
      where
        old : (q.number ≤ mine.start) ⊎ (q.number < mine.number) → is_old mine q ≡ true
        old (inl low) = rw (le-leb _ _ low)
        old (inr low) = by_test (leb q.number mine.start) (λ e. rw e) (λ e. rw (e, lt-ltb _ _ low))

    module _ (above : mine.start < q.number) where
      fresh : mine.number ≤ q.number → is_old mine q ≡ false
      unfolding is_old
      fresh h = rw (lt-leb _ _ above, le-ltb _ _ h)

      -- 12 "last accepted number with another length"
      pub extension_12 : q.number ≡ mine.number → (q.length ≡ mine.length → ⊥) → extension ≡ Err OtherLength
      extension_12 e other = extend_other σ x limit q (ranged σ q a) (fresh (omega arith)) e other

      -- "The last accepted number with the same length changes nothing and is answered with the end of now"
      pub extension_repeated : q.number ≡ mine.number → q.length ≡ mine.length → extension ≡ Ok ((Extended mine.end true), x)
      extension_repeated e f = extend_repeat σ x limit q (ranged σ q a) (fresh (omega arith)) e f

      module _ (new : mine.number < q.number) where
        -- 17 "a new extension while a call back is pending ... before 13": whatever the limit
        pub extension_17 : (mine.goal ≡ mine.end → ⊥) → extension ≡ Err Pending
        extension_17 pending = extend_pending σ x limit q (ranged σ q a) (fresh (omega arith)) (λ e. omega arith) pending

        module _ (free : mine.goal ≡ mine.end) where
          -- 13 "new end beyond the limit"
          pub extension_13 : (InLimit limit (mine.end + q.length) → ⊥) → extension ≡ Err NoTrack
          extension_13 far =
              extend_beyond σ x limit q (ranged σ q a) (fresh (omega arith)) (λ e. omega arith) free (limit_beyond limit _ far)

          -- "A new number (above the last accepted or starting one) adds the length if the new end is within the limit."
          pub extension_taken : InLimit limit (mine.end + q.length)
              → let longer : Authority =
              record { end = mine.end + q.length; goal = mine.end + q.length; start = mine.start; number = q.number; length = q.length } in
              extension ≡ Ok ((Extended (mine.end + q.length) false), (same x x.motion x.order longer x.marks))
          extension_taken near =
              extend_new σ x limit q (ranged σ q a) (fresh (omega arith)) (λ e. omega arith) free (limit_within limit _ near)

  -- what an accepted extension has passed and leaves: its number and length are the last accepted ones
  pub record Accepts : Type 0 where
    pub formed : WellFormed σ q
    pub above : mine.start < q.number
    pub onward : mine.number ≤ q.number
    pub start : (extended x q).authority.start ≡ mine.start
    pub number : (extended x q).authority.number ≡ q.number
    pub length : (extended x q).authority.length ≡ q.length

  pub extension_accepted : first_of (decide σ limit x (Extend q)).checks ≡ None → Accepts
  unfolding is_old is_repeat extended
  extension_accepted e =
      let range = passed _ _ _ e in
      let old = passed _ _ _ range.1 in
      let other = passed _ _ _ old.1 in
      let two = neither (leb q.number mine.start) (ltb q.number mine.number) old.0 in
      let (start, number, length) : ((extended x q).authority.start ≡ mine.start) × ((extended x q).authority.number ≡ q.number) × ((extended x q).authority.length ≡ q.length) =
      by_test (eqb q.number mine.number)
      (λ repeat. rw repeat (refl, sym (eqb-true _ _ repeat), sym (eqb-true _ _ (not-false _ (rw repeat at other.0)))))
      (λ new. rw new (refl, refl, refl)) in
      record {
        formed = well_formed σ q (not-false _ range.0);
        above = leb-false _ _ two.0;
        onward = ltb-false _ _ two.1;
        start = start;
        number = number;
        length = length;
      }

-- ---- call back

module _ (σ : Settings) (limit : Option ℕ) (x : Train) (place : ℕ) where
  abbrev calling : Result (Values × Train) Refusal
  calling = verdict (decide σ limit x (CallBack place))

  -- "the end becomes a named place from reach to end, both included", whatever was pending
  pub call_back_moves : computable x ≡ true → reach x.figures x.motion x.order ≤ place → place ≤ x.authority.end
      → let nearer : Authority = record { end = place; goal = place; start = x.authority.start; number = x.authority.number; length = x.authority.length } in
      calling ≡ Ok (Zeros, (same x x.motion x.order nearer x.marks))
  unfolding called_back
  call_back_moves computes low high =
      let ahead = head_reach x.figures x.motion x.order in
      call_back_taken x place (call_back_tested x place computes ∙ (between_exactly _ _ place).1 (omega arith, high)) ∙ (rw (le-leb _ _ low))

  -- "A call back from the train's head up to just short of its reach is now taken as pending"; "a newer call back ... replaces this one": the
  -- place is wanted, whatever was pending, and the end stays
  pub call_back_pends : computable x ≡ true → x.motion.head ≤ place → place < reach x.figures x.motion x.order → place ≤ x.authority.end
      → let waiting : Authority = record { end = x.authority.end; goal = place; start = x.authority.start; number = x.authority.number; length = x.authority.length } in
      calling ≡ Ok (Zeros, (same x x.motion x.order waiting x.marks))
  unfolding called_back
  call_back_pends computes low short high =
      call_back_taken x place (call_back_tested x place computes ∙ (between_exactly _ _ place).1 (low, high)) ∙ (rw (lt-leb _ _ short))

  -- 14 "a place behind the head or beyond the end"
  pub call_back_14 : (place < x.motion.head) ⊎ (x.authority.end < place) → calling ≡ Err BadPlace
  call_back_14 h = by_test (call_back_allowed x place) (λ e. absurd (out (call_back_between x place e) h)) (λ e. call_back_refused x place e)
    where
      out : (x.motion.head ≤ place) × (place ≤ x.authority.end) → (place < x.motion.head) ⊎ (x.authority.end < place) → ⊥
      out ends (inl low) = omega arith
      out ends (inr high) = omega arith

-- ---- hold and lift

-- "the emergency message from the next report on, and its withdrawal": always taken, and its mark alone; the order already given stays
pub hold_marks : (σ : Settings) (limit : Option ℕ) (x : Train)
    → verdict (decide σ limit x Hold) ≡ Ok (Zeros, (same x x.motion x.order x.authority (record { held = true; penalty = x.marks.penalty })))
unfolding first_of
hold_marks σ limit x = refl

pub lift_unmarks : (σ : Settings) (limit : Option ℕ) (x : Train)
    → verdict (decide σ limit x Lift) ≡ Ok (Zeros, (same x x.motion x.order x.authority (record { held = false; penalty = x.marks.penalty })))
unfolding first_of
lift_unmarks σ limit x = refl

-- ---- a penalty brake

-- document 02, (ii): "Lifting a hold does not shorten it"
pub lift_brakes_on : (σ : Settings) (limit : Option ℕ) (x : Train) (m : Motion) → x.marks.penalty ≡ true → 0 < m.speed
    → order_after σ (decide σ limit x Lift).after m ≡ Brake
lift_brakes_on σ limit x m = penalty_order σ (decide σ limit x Lift).after m

-- nor does any act but a report, whatever it does to the authority
pub penalty_stays : (σ : Settings) (limit : Option ℕ) (x : Train) (a : Act) → ((r : Reading) → a ≡ Report r → ⊥)
    → (decide σ limit x a).after.marks.penalty ≡ x.marks.penalty
unfolding extended called_back
penalty_stays σ limit x (Report r) other = absurd (other r refl)
penalty_stays σ limit x (Extend q) other = by_test (is_repeat x.authority q) (λ e. rw e) (λ e. rw e)
penalty_stays σ limit x (CallBack place) other = refl
penalty_stays σ limit x Hold other = refl
penalty_stays σ limit x Lift other = refl

-- ---- take off

-- "the first train, standing under brake (last accepted or entering speed 0, last order brake)"
pub leaves_exactly : (i : ℕ) (x : Train) → (may_leave i x ≡ true) ↔ ((i ≡ 0) × (x.motion.speed ≡ 0) × (x.order ≡ Brake))
unfolding may_leave stands
leaves_exactly i x = (only, exactly)
  where
    only : may_leave i x ≡ true → (i ≡ 0) × (x.motion.speed ≡ 0) × (x.order ≡ Brake)
    only e =
        let last = both (eqb i 0 && eqb x.motion.speed 0) (is_brake x.order) e in
        let first = both (eqb i 0) (eqb x.motion.speed 0) last.0 in
        (eqb-true _ _ first.0, eqb-true _ _ first.1, brake_tested x.order last.1)

    exactly : (i ≡ 0) × (x.motion.speed ≡ 0) × (x.order ≡ Brake) → may_leave i x ≡ true
    exactly (first, standing, braked) = rw (eq-eqb _ _ first, eq-eqb _ _ standing, braked)

-- ---- what every act leaves

-- No act renames a train or moves its starting number, and only an extension moves the last accepted number and its length.
pub record Leaves (a : Act) (x y : Train) : Type 0 where
  pub id : y.id ≡ x.id
  pub start : y.authority.start ≡ x.authority.start
  pub numbers : ((q : Extension) × (a ≡ Extend q) × (y ≡ extended x q)) ⊎ ((y.authority.number ≡ x.authority.number) × (y.authority.length ≡ x.authority.length))

pub act_leaves : (σ : Settings) (limit : Option ℕ) (x : Train) (a : Act) → Leaves a x (decide σ limit x a).after
unfolding reported extended called_back
act_leaves σ limit x (Report r) =
    let same = settled_numbers x.authority _ _ _ in record { id = refl; start = same.start; numbers = inr (same.number, same.length) }
act_leaves σ limit x (Extend q) =
    let (id, start) : ((extended x q).id ≡ x.id) × ((extended x q).authority.start ≡ x.authority.start) =
    by_test (is_repeat x.authority q) (λ e. rw e (refl, refl)) (λ e. rw e (refl, refl)) in
    record { id = id; start = start; numbers = inl (q, refl, refl) }
act_leaves σ limit x (CallBack place) =
    by_test (leb (reach_of x) place)
    (λ e. rw e (record { id = refl; start = refl; numbers = inr (refl, refl) }))
    (λ e. rw e (record { id = refl; start = refl; numbers = inr (refl, refl) }))
act_leaves σ limit x Hold = record { id = refl; start = refl; numbers = inr (refl, refl) }
act_leaves σ limit x Lift = record { id = refl; start = refl; numbers = inr (refl, refl) }
