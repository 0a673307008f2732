-- The invariant of one train's record on the line: at its entering, after a report, and where motion and order stay.
-- Assumes nothing.
use Rattle.std.specs.Prelude.{Option, ℕ}
use Prim.Native.Nat.{◌≤◌}
use mathlib.Core.Bool.{true}
use mathlib.Core.Logic.{by_cases}
use mathlib.Core.Path.{◌≡◌, refl}
use native.Mathlib.Decide.{ℕ_discrete}
use native.Mathlib.Nat.{le_refl, le_trans}
use native.Mathlib.Omega.{arith}
use Rattle.brake.specs.declared.Figures.{Figures}
use Rattle.brake.specs.Consist.{Sound}
use Rattle.motion.specs.declared.Order.TheVariants.{Brake}
use Rattle.motion.specs.Motion.{stands}
use Rattle.motion.specs.Orders.{reach}
use Rattle.motion.proofs.Cycles.{full_stands}
use Rattle.motion.proofs.Domination.{head_reach, reach_stands}
use Rattle.motion.proofs.Orders.{order_keeps, Within, within_entering, within_report}
use Rattle.calls.specs.declared.Entry.{Entry}
use Rattle.calls.specs.declared.Reading.{Reading}
use Rattle.train.specs.declared.Settings.{Settings}
use Rattle.train.specs.declared.Authority.{Authority}
use Rattle.train.specs.declared.Marks.{Marks}
use Rattle.train.specs.declared.Train.{Train}
use Rattle.train.specs.Record.{entering, same}
use Rattle.train.specs.Track.{steps_of}
use Rattle.train.specs.Report.{reach_of, allowed, motion_after, goal_of, order_after, reported}
use Rattle.train.proofs.Records.{may_order}
use Rattle.train.proofs.Track.{InLimit, limit_below}
use Rattle.train.proofs.Pending.{Aims, settled_aims, stopped_past, pending_brakes}
use Rattle.train.proofs.Checks.{allowed_head, allowed_no_worse}

-- a train that stands under brake, with this authority: no call back is pending
abbrev pub AtRest : Train → Authority → Type 0
AtRest x a = x.order ≡ Brake → x.motion.speed ≡ 0 → a.goal ≡ a.end

-- A train with this limit: its rear is on the line, its end within the limit, its reach and the place that a call back wants within its end.
-- Its figures and its motion are such as the laws of motion ask for.
pub record Guarded (σ : Settings) (limit : Option ℕ) (x : Train) : Type 0 where
  pub figures : Sound x.figures
  pub rear_on_line : steps_of x.length ≤ x.motion.head
  pub end_in_limit : InLimit limit x.authority.end
  pub aims : Aims (reach_of x) x.authority
  -- at a stand under brake no call back is pending
  pub at_rest : AtRest x x.authority
  pub within : Within x.figures σ.maxima x.motion x.order

pub guarded_head : (σ : Settings) (limit : Option ℕ) (x : Train) → Guarded σ limit x → x.motion.head ≤ x.authority.end
guarded_head σ limit x g = le_trans (head_reach x.figures x.motion x.order) g.aims.reach

pub guarded_entering : (σ : Settings) (limit : Option ℕ) (e : Entry) (k : Figures)
    → Sound k → steps_of e.length ≤ e.head → InLimit limit e.head → Guarded σ limit (entering e k)
guarded_entering σ limit e k sound long limited =
    let x = entering e k in
    let place = reach_stands k x.motion sound (full_stands k) in
    record {
      figures = sound;
      rear_on_line = long;
      end_in_limit = limited;
      aims = record { reach = omega arith; goal = le_refl _; short = λ pending. absurd (pending refl) };
      at_rest = λ braked standing. refl;
      within = within_entering k σ.maxima x.motion refl refl;
    }

-- ---- acts

module _ (σ : Settings) (limit : Option ℕ) (x : Train) (g : Guarded σ limit x) where
  -- the end does not move forward
  pub report_aims : (r : Reading) → allowed x r ≡ true → let y = reported σ x r in (y.authority.end ≤ x.authority.end) × Aims (reach_of y) y.authority
  unfolding reported
  report_aims r e =
      let k = x.figures in
      let m = motion_after x r in
      let o = order_after σ x m in
      let better = allowed_no_worse x r e in
      let reached = order_keeps k σ.maxima x.motion x.order m o (goal_of x) x.authority.end g.figures better g.aims.reach g.aims.goal (may_order σ x m) in
      settled_aims x.authority (stands k m.speed m.level) m.head (reach k m o) g.aims.goal (head_reach k m o) reached (stopped_past σ x m g.figures)

  pub guarded_report : (r : Reading) → allowed x r ≡ true → Guarded σ limit (reported σ x r)
  unfolding reported
  guarded_report r e =
      let m = motion_after x r in
      let (nearer, aims) = report_aims r e in
      record {
        figures = g.figures;
        rear_on_line = le_trans g.rear_on_line (allowed_head x r e);
        end_in_limit = limit_below limit nearer g.end_in_limit;
        aims = aims;
        at_rest = rests;
        within = within_report x.figures σ.maxima x.motion x.order m (order_after σ x m) (goal_of x) g.within (allowed_no_worse x r e) (may_order σ x m);
      }
    where
      rests : AtRest (reported σ x r) (reported σ x r).authority
      rests braked standing =
          by_cases (ℕ_discrete (reported σ x r).authority.goal (reported σ x r).authority.end)
          (λ done. done)
          (λ pending. let moving = (pending_brakes σ x (motion_after x r) g.figures pending).1 in absurd (omega arith))

  -- the other acts leave motion and order as they are
  pub guarded_still : (a : Authority) (s : Marks) → InLimit limit a.end → Aims (reach_of x) a → AtRest x a → Guarded σ limit (same x x.motion x.order a s)
  guarded_still a s limited aims rests =
      record { figures = g.figures; rear_on_line = g.rear_on_line; end_in_limit = limited; aims = aims; at_rest = rests; within = g.within }
