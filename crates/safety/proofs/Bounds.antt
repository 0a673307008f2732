-- On every table that calls left, each train's record is within the bounds that the code tests, so these tests alter no answer.
-- Assumes nothing.
use Rattle.std.specs.Prelude.{Option, Ok}
use Prim.Native.Nat.{ℕ, zero, suc, ◌≤◌, ◌<◌}
use mathlib.Core.Bool.{true}
use mathlib.Core.Logic.{inl}
use mathlib.Core.List.{List, [], ◌∷◌}
use mathlib.Core.Path.{◌≡◌, refl, ◌∙◌}
use native.Mathlib.Omega.{arith}
use lib.ListN.{length}
use borrow.Author.Tests.{le-leb}
use Rattle.logic.proofs.Tests.{by_test}
use Rattle.motion.specs.declared.Order.TheVariants.{Brake}
use Rattle.motion.specs.Orders.{order_cap}
use Rattle.ranges.specs.Ranges.{greatest_line_end, greatest_ceiling, greatest_traction}
use Rattle.motion.specs.Bounds.{in_bounds}
use Rattle.motion.proofs.Bounds.{bounds_cap, bounds_hold}
use Rattle.motion.proofs.Domination.{worst_reach}
use Rattle.motion.proofs.Orders.{within_report, within_bounded}
use Rattle.calls.specs.declared.Opening.{Opening}
use Rattle.calls.specs.declared.Reading.{Reading}
use Rattle.train.specs.declared.Settings.{Settings}
use Rattle.train.proofs.Track.{InLimit, limit_first}
use Rattle.train.specs.declared.Train.{Train}
use Rattle.table.specs.declared.Table.{Table}
use Rattle.calls.specs.declared.Values.TheVariants.{Zeros}
use Rattle.ranges.specs.Ranges.{between}
use Rattle.train.specs.Ranges.{settings_in_range, WorksWith}
use Rattle.table.specs.Table.{train_at, limit_at}
use Rattle.train.specs.Report.{allowed, motion_after, computable, report_allowed}
use Rattle.acts.specs.Acts.{call_back_allowed}
use Rattle.line.specs.Step.{outcome, open_step}
use Rattle.line.proofs.Steps.{open_made}
use Rattle.train.proofs.Checks.{allowed_no_worse}
use Rattle.train.proofs.Sentences.{settings_exactly}
use Rattle.acts.proofs.CallBacks.{call_back_tested}
use Rattle.safety.specs.History.{Deed, history, after, Told, told}
use Rattle.safety.specs.Claim.{record_of}
use Rattle.safety.proofs.Train.{Guarded, guarded_head}
use Rattle.safety.proofs.Acts.{Steady}
use Rattle.safety.proofs.Line.{Lined, first_limit, behind, limit_in, lined_at, Wider, wider_end}
use Rattle.safety.proofs.Tables.{agrees_count, agrees_train, agrees_limit}
use Rattle.safety.proofs.Calls.{agrees}

-- ---- one train

pub record InRange (σ : Settings) : Type 0 where
  pub end : σ.end ≤ greatest_line_end
  pub ceiling : σ.maxima.ceiling ≤ greatest_ceiling
  pub traction : σ.maxima.traction ≤ greatest_traction

ranges : (o : Opening) (σ : Settings) → WorksWith o σ → settings_in_range o ≡ true → InRange σ
ranges o σ works e =
    let f = (settings_exactly o).0 e in
    record { end = rw works.end f.end.1; ceiling = rw works.ceiling f.ceiling.1; traction = rw works.traction f.traction.1 }

-- a train on the line with this limit, whose end is on it too
pub record OnTrack (σ : Settings) (limit : Option ℕ) (x : Train) : Type 0 where
  pub guarded : Guarded σ limit x
  pub end : x.authority.end ≤ σ.end

module _ (σ : Settings) (ρ : InRange σ) (limit : Option ℕ) (x : Train) (t : OnTrack σ limit x) where
  track_computable : computable x ≡ true
  unfolding computable
  track_computable =
      let g = t.guarded in
      let head = guarded_head σ limit x g in
      bounds_hold x.figures x.motion (order_cap x.order)
      (within_bounded x.figures σ.maxima x.motion x.order g.figures ρ.ceiling ρ.traction (omega arith) g.within)

  -- whatever an allowed report gives is within the bounds too
  track_after : (r : Reading) → allowed x r ≡ true → in_bounds x.figures (motion_after x r) σ.maxima.traction ≡ true
  track_after r e =
      let g = t.guarded in
      let m = motion_after x r in
      let better = allowed_no_worse x r e in
      let worst = worst_reach x.figures x.motion x.order g.figures in
      let reach = g.aims.reach in
      let within = within_report x.figures σ.maxima x.motion x.order m Brake 0 g.within better (inl refl) in
      let bounded = within_bounded x.figures σ.maxima m Brake g.figures ρ.ceiling ρ.traction (omega arith) within in
      bounds_cap x.figures m σ.maxima.traction bounded ∙ le-leb _ _ ρ.traction

  track_report : (r : Reading) → report_allowed σ x r ≡ allowed x r
  unfolding report_allowed
  track_report r =
      by_test (allowed x r)
      (λ e. rw (track_computable, e, track_after r e))
      (λ e. rw (track_computable, e))

  track_call_back : (place : ℕ) → call_back_allowed x place ≡ between x.motion.head x.authority.end place
  track_call_back place = call_back_tested x place track_computable

-- ---- all trains

-- no limit lies beyond the line end
limits_in_line : (σ : Settings) (limit : Option ℕ) (xs : List Told) (i : ℕ) → Wider limit (first_limit σ) → Lined σ limit xs → i ≤ length xs
    → Wider (limit_in σ limit xs i) (first_limit σ)
limits_in_line σ limit xs zero wider l h = wider
limits_in_line σ limit [] (suc i) wider l h = absurd (omega arith)
limits_in_line σ limit (x ∷ xs) (suc i) wider l h =
    let g = l.0.guarded in
    limits_in_line σ (behind σ x) xs i (wider_end σ _ (record_of x) g (rw (limit_first σ) at (wider _ g.end_in_limit))) l.2 (omega arith)

module _ (o : Opening) (t : Table) (opened : open_step o ≡ outcome (Ok Zeros) t) (ds : List Deed) where
  abbrev left : Table
  left = after t ds

  -- a place within the limit at place i is on the line
  pub limit_on_line : (i : ℕ) → i ≤ left.count → (place : ℕ) → InLimit (limit_at left i) place → place ≤ left.settings.end
  limit_on_line i h place limited =
      let l = told o (history t ds) in
      let A = agrees o t opened ds in
      let count = agrees_count o l left A in
      let here = rw (agrees_limit o l left A i h) at limited in
      rw (limit_first left.settings) at (limits_in_line left.settings _ l.trains i (λ place limit. limit) A.lined (omega arith) place here)

  -- the train at place i is one that the history tells of
  pub record Tells (i : ℕ) : Type 0 where
    pub train : Told
    pub here : train_at left i ≡ record_of train
    pub steady : Steady left.settings (limit_at left i) train

  pub tells : (i : ℕ) → i < left.count → Tells i
  tells i h =
      let l = told o (history t ds) in
      let A = agrees o t opened ds in
      let count = agrees_count o l left A in
      let p = lined_at left.settings _ l.trains i A.lined (omega arith) in
      record {
        train = p.train;
        here = agrees_train o l left A i h ∙ p.here;
        steady = rw (agrees_limit o l left A i (omega arith)) p.steady;
      }

  pub track : (i : ℕ) → i < left.count → OnTrack left.settings (limit_at left i) (train_at left i)
  track i h =
      let p = tells i h in
      let g : Guarded left.settings (limit_at left i) (train_at left i) = rw p.here p.steady.guarded in
      record { guarded = g; end = limit_on_line i (omega arith) _ g.end_in_limit }

  pub left_ranges : InRange left.settings
  left_ranges = ranges o left.settings (agrees o t opened ds).settings (open_made o t opened).0

  pub always_computable : (i : ℕ) → i < left.count → computable (train_at left i) ≡ true
  always_computable i h = track_computable left.settings left_ranges _ (train_at left i) (track i h)

  pub report_judged : (i : ℕ) → i < left.count → (r : Reading) → report_allowed left.settings (train_at left i) r ≡ allowed (train_at left i) r
  report_judged i h = track_report left.settings left_ranges _ (train_at left i) (track i h)

  pub call_back_judged : (i : ℕ) → i < left.count → (place : ℕ)
      → call_back_allowed (train_at left i) place ≡ between (train_at left i).motion.head (train_at left i).authority.end place
  call_back_judged i h = track_call_back left.settings left_ranges _ (train_at left i) (track i h)
