-- Laws of the settings and of one train record: what an opening and an entering give, what a report is judged by, and the order that it
-- gets.
-- Assumes nothing.
use Prim.Native.Nat.{◌≤◌}
use mathlib.Core.Bool.{true, false, ◌&&◌}
use mathlib.Core.Logic.{inl, inr, ◌↔◌}
use mathlib.Core.Path.{◌≡◌, refl}
use lib.Dec.{leb}
use borrow.Author.Tests.{le-leb, leb-true}
use Rattle.logic.proofs.Tests.{by_test, both}
use Rattle.brake.specs.Consist.{figures_of}
use Rattle.motion.specs.declared.Motion.{Motion}
use Rattle.motion.specs.declared.Order.TheVariants.{Brake}
use Rattle.motion.specs.Orders.{order_cap, order_for}
use Rattle.motion.specs.Bounds.{Bounded}
use Rattle.motion.proofs.Bounds.{bounds_tested}
use Rattle.motion.proofs.Orders.{MayOrder}
use Rattle.calls.specs.declared.Opening.{Opening}
use Rattle.calls.specs.declared.Entry.{Entry}
use Rattle.calls.specs.declared.Reading.{Reading}
use Rattle.train.specs.declared.Settings.{Settings}
use Rattle.train.specs.declared.Train.{Train}
use Rattle.train.specs.Ranges.{settings_of, WorksWith}
use Rattle.train.specs.Record.{figures_for}
use Rattle.train.specs.Report.{worst_of, allowed, motion_after, goal_of, moves, must_brake, order_after, computable, report_allowed}

-- the table works with the numbers that were opened
pub settings_given : (o : Opening) → WorksWith o (settings_of o)
settings_given o = record { end = refl; safety = refl; ceiling = refl; traction = refl }

-- an entering train's figures are those of its own load class and length
pub figures_entered : (σ : Settings) (e : Entry) → figures_for σ e ≡ figures_of e.load e.length
figures_entered σ e = refl

-- ---- a report

-- a report is allowed where it is within the worst case of the last order
pub within_worst : (x : Train) (r : Reading)
    → (allowed x r ≡ true) ↔ ((x.motion.head ≤ r.head) × (r.head ≤ (worst_of x).head) × (r.speed ≤ (worst_of x).speed))
unfolding allowed
within_worst x r = (only, exactly)
  where
    only : allowed x r ≡ true → (x.motion.head ≤ r.head) × (r.head ≤ (worst_of x).head) × (r.speed ≤ (worst_of x).speed)
    only e =
        let last = both (leb x.motion.head r.head && leb r.head (worst_of x).head) (leb r.speed (worst_of x).speed) e in
        let first = both (leb x.motion.head r.head) (leb r.head (worst_of x).head) last.0 in
        (leb-true _ _ first.0, leb-true _ _ first.1, leb-true _ _ last.1)

    exactly : (x.motion.head ≤ r.head) × (r.head ≤ (worst_of x).head) × (r.speed ≤ (worst_of x).speed) → allowed x r ≡ true
    exactly (onward, near, slow) = rw (le-leb _ _ onward, le-leb _ _ near, le-leb _ _ slow)

pub computable_bounded : (x : Train) → computable x ≡ true → Bounded x.figures x.motion (order_cap x.order)
unfolding computable
computable_bounded x e = bounds_tested _ _ _ e

-- what a report that is taken has passed
pub record Passed (σ : Settings) (x : Train) (r : Reading) : Type 0 where
  pub computes : computable x ≡ true
  pub allows : allowed x r ≡ true
  pub bounded : Bounded x.figures (motion_after x r) σ.maxima.traction

pub report_passed : (σ : Settings) (x : Train) (r : Reading) → report_allowed σ x r ≡ true → Passed σ x r
unfolding report_allowed
report_passed σ x r e =
    let outer = both (computable x && allowed x r) _ e in
    let inner = both (computable x) (allowed x r) outer.0 in
    record { computes = inner.0; allows = inner.1; bounded = bounds_tested _ _ _ outer.1 }

-- Brake, whatever the track.
pub must_brake_lem : (σ : Settings) (x : Train) (m : Motion) → must_brake x m ≡ true → order_after σ x m ≡ Brake
unfolding order_after
must_brake_lem σ x m e = rw (e, order_after)

-- Otherwise: what the rule gives against the goal.
pub free_order : (σ : Settings) (x : Train) (m : Motion) → must_brake x m ≡ false → order_after σ x m ≡ order_for x.figures σ.maxima (goal_of x) m
unfolding order_after
free_order σ x m e = rw (e, order_after)

pub may_order : (σ : Settings) (x : Train) (m : Motion) → MayOrder x.figures σ.maxima (goal_of x) m (order_after σ x m)
may_order σ x m = by_test (must_brake x m) (λ e. inl (must_brake_lem σ x m e)) (λ e. inr (free_order σ x m e))

-- marked and still moving
pub penalty_brakes : (σ : Settings) (x : Train) (m : Motion) → x.marks.penalty ≡ true → moves x.figures m ≡ true → order_after σ x m ≡ Brake
unfolding must_brake
penalty_brakes σ x m e moving = must_brake_lem σ x m (rw (e, moving))

-- held
pub held_brakes : (σ : Settings) (x : Train) (m : Motion) → x.marks.held ≡ true → order_after σ x m ≡ Brake
unfolding must_brake
held_brakes σ x m e = must_brake_lem σ x m (by_test (x.marks.penalty && moves x.figures m) (λ f. rw f) (λ f. rw (f, e)))
