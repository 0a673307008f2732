-- An accepted act of a train: its record is what the history tells, the invariant holds on, and what the act gives is within bounds.
-- Assumes nothing.
use Rattle.std.specs.Prelude.{Option, None, Some, option_map, unwrap_or, is_some, Ok}
use Prim.Native.Nat.{ℕ, zero, suc, ◌+◌, ◌≤◌, ◌<◌}
use mathlib.Core.Bool.{Bool, true, false, cond, not, ◌&&◌}
use mathlib.Core.Logic.{by_cases}
use mathlib.Core.Path.{◌≡◌, refl, sym, ap, ◌∙◌, subst}
use native.Mathlib.Decide.{ℕ_discrete}
use native.Mathlib.Nat.{le_refl}
use native.Mathlib.Omega.{arith}
use lib.Dec.{leb, eqb}
use borrow.Author.Tests.{not-false, eq-eqb, ne_eqb, lt-ltb, le-ltb, leb-true, leb-false}
use Rattle.logic.proofs.Tests.{by_test}
use Rattle.brake.specs.declared.Figures.{Figures}
use Rattle.brake.specs.Consist.{figures_of}
use Rattle.motion.specs.declared.Motion.{Motion}
use Rattle.motion.specs.declared.Order.{Order}
use Rattle.motion.specs.declared.Order.TheVariants.{Drive, Brake}
use Rattle.motion.specs.Motion.{stands}
use Rattle.motion.specs.Orders.{order_cap, is_brake, worst_case, reach}
use Rattle.motion.proofs.Domination.{NoWorse, reach_stands}
use Rattle.motion.proofs.Slowing.{Slowed, slowed_start, slowed_brake}
use Rattle.calls.specs.declared.Reading.{Reading}
use Rattle.calls.specs.declared.Extension.{Extension}
use Rattle.calls.specs.declared.Act.{Act}
use Rattle.calls.specs.declared.Act.TheVariants.{Report, Extend, CallBack, Hold, Lift}
use Rattle.calls.specs.declared.Values.{Values}
use Rattle.calls.specs.declared.Values.TheVariants.{Entered, Ordered, Extended, Zeros}
use Rattle.calls.specs.Answers.{numbers_of}
use Rattle.calls.specs.Checks.{first_of}
use Rattle.calls.proofs.Checks.{passed}
use Rattle.train.specs.declared.Settings.{Settings}
use Rattle.train.specs.declared.Authority.{Authority}
use Rattle.train.specs.declared.Train.{Train}
use Rattle.train.specs.Track.{within_limit}
use Rattle.train.specs.Record.{ending_at, wanting, is_pending}
use Rattle.train.specs.Report.{reach_of, allowed, motion_after, moves, order_after, is_penalty, settled, reported}
use Rattle.acts.specs.Acts.{is_repeat, granted, extended, called_back}
use Rattle.acts.specs.Decide.{Ruling, decide}
use Rattle.train.proofs.Records.{held_brakes, penalty_brakes}
use Rattle.train.proofs.Track.{InLimit, limit_tested, limit_below}
use Rattle.train.proofs.Pending.{Aims}
use Rattle.train.proofs.Checks.{report_allowed_lem, allowed_head, allowed_no_worse}
use Rattle.acts.proofs.Checks.{call_back_allowed_lem}
use Rattle.safety.specs.History.{Counts, Told, level_after, order_in, braked_after, longer, done_by, still, told_act}
use Rattle.safety.specs.Claim.{record_of}
use Rattle.safety.proofs.Train.{AtRest, Guarded, guarded_report, guarded_still}

-- ---- the invariant of a train that the history tells of

-- Held, or braked while moving, with reports since: the first of them ordered the brake, and each of the n others ended a braked cycle.
abbrev pub Slowing : Settings → Train → Option ℕ → Type 0
Slowing σ x None = Unit {0}
Slowing σ x (Some zero) = Unit {0}
Slowing σ x (Some (suc n)) = (x.order ≡ Brake) × Slowed x.figures σ.maxima.ceiling n x.motion

pub record Steady (σ : Settings) (limit : Option ℕ) (x : Told) : Type 0 where
  pub consist : figures_of x.entry.load x.entry.length ≡ Some x.figures
  pub guarded : Guarded σ limit (record_of x)
  pub held_slows : Slowing σ (record_of x) x.now.counts.held
  pub braked_slows : Slowing σ (record_of x) x.now.counts.braked

-- ---- the record that a report tells of

-- the order is read back from the answer
order_told : (o : Order) (r : ℕ) → order_in (numbers_of (Ok (Ordered o r))) ≡ o
order_told (Drive c) r = refl
order_told Brake r = refl

level_worst : (k : Figures) (m : Motion) (o : Order) → level_after k o m.level ≡ (worst_case k m o).level
level_worst k m (Drive c) = refl
level_worst k m Brake = refl

-- a report leaves the mark of a hold
still_held : (n : Option ℕ) → is_some (option_map suc n) ≡ is_some n
still_held None = refl
still_held (Some n) = refl

-- what becomes of a pending call back: the history tells it by a place short of the end
done_settled : (r : ℕ) (standing : Bool) (head : ℕ) (a : Authority) → a.goal ≤ a.end → done_by r standing head a ≡ settled a standing head r
unfolding done_by settled is_pending
done_settled r standing head a within =
    by_cases (ℕ_discrete a.goal a.end)
    (λ same. rw (eq-eqb a.goal a.end same, le-ltb a.goal a.end (omega arith)))
    (λ pending. rw (ne_eqb a.goal a.end pending, lt-ltb a.goal a.end (omega arith)))

-- ---- an accepted act

-- what an act gives, of a train with this limit
abbrev pub Within : Settings → Option ℕ → Values → Type 0
Within σ limit (Entered full growth e) = ⊥
Within σ limit (Ordered o r) = (order_cap o ≤ σ.maxima.traction) × InLimit limit r
Within σ limit (Extended e repeat) = InLimit limit e
Within σ limit Zeros = Unit {0}

module _ (σ : Settings) (limit : Option ℕ) (x : Told) (steady : Steady σ limit x) where
  abbrev pub ruling_on : Act → Ruling
  ruling_on = decide σ limit (record_of x)

  abbrev pub after_act : Act → Told
  after_act a = record { entry = x.entry; figures = x.figures; now = told_act x.figures x.now (numbers_of (Ok (ruling_on a).gives)) a }

  pub record Acted (a : Act) : Type 0 where
    pub told : record_of (after_act a) ≡ (ruling_on a).after
    pub keeps : Steady σ limit (after_act a)
    -- the head never goes back: the train behind relies on it
    pub onward : x.now.last.head ≤ (after_act a).now.last.head
    pub within : Within σ limit (ruling_on a).gives

  -- ---- a report

  module _ (r : Reading) (e : allowed (record_of x) r ≡ true) where
    abbrev m : Motion
    m = motion_after (record_of x) r

    abbrev given : Order
    given = order_after σ (record_of x) m

    -- one more, where it orders the brake
    slowing_brake : (n : ℕ) → Slowing σ (record_of x) (Some n) → given ≡ Brake → Slowing σ (reported σ (record_of x) r) (Some (suc n))
    unfolding reported record_of
    slowing_brake zero slow brakes =
        (brakes, slowed_start x.figures σ.maxima.ceiling m (guarded_report σ limit (record_of x) steady.guarded r e).within.speed)
    slowing_brake (suc n) (brake, slowed) brakes =
        let k = x.figures in
        let braked = subst (λ (o : Order). NoWorse m (worst_case k (record_of x).motion o)) brake (allowed_no_worse (record_of x) r e) in
        (brakes, slowed_brake k σ.maxima.ceiling n (record_of x).motion m steady.guarded.figures slowed braked)

    held_report : (c : Option ℕ) → x.now.counts.held ≡ c → Slowing σ (reported σ (record_of x) r) (option_map suc c)
    unfolding record_of
    held_report None held = tt
    held_report (Some n) held =
        slowing_brake n (subst (Slowing σ (record_of x)) held steady.held_slows) (held_brakes σ (record_of x) m (rw held))

    -- braked while moving, it gets no other order while it moves
    braked_on : (n : ℕ) (c : ℕ) → x.now.counts.braked ≡ Some n → stands x.figures m.speed m.level ≡ false → given ≡ Drive c → ⊥
    unfolding record_of moves
    braked_on n c braked moving drives =
        let same : Drive c ≡ Brake = sym drives ∙ penalty_brakes σ (record_of x) m (rw braked) (rw moving) in
        let z : ◌≡◌ {A = ℕ} 0 1 = cc in
        omega arith

    -- the count then, where the train stands or not and gets the order o: it tells the mark, and the train slows down
    record Counted (standing : Bool) (o : Order) : Type 0 where
      mark : is_some (braked_after standing o x.now.counts.braked) ≡ is_brake o && not standing
      slows : Slowing σ (reported σ (record_of x) r) (braked_after standing o x.now.counts.braked)

    braked_report : (standing : Bool) (o : Order) → stands x.figures m.speed m.level ≡ standing → given ≡ o → Counted standing o
    braked_report true (Drive c) stood drives = record { mark = refl; slows = tt }
    braked_report true Brake stood brakes = record { mark = refl; slows = tt }
    braked_report false Brake moving brakes = record { mark = refl; slows = go x.now.counts.braked refl }
      where
        go : (c : Option ℕ) → x.now.counts.braked ≡ c → Slowing σ (reported σ (record_of x) r) (Some (suc (unwrap_or c 0)))
        go None braked = slowing_brake 0 tt brakes
        go (Some n) braked = slowing_brake n (subst (Slowing σ (record_of x)) braked steady.braked_slows) brakes
    braked_report false (Drive c) moving drives = go x.now.counts.braked refl
      where
        go : (n : Option ℕ) → x.now.counts.braked ≡ n → Counted false (Drive c)
        go None braked = record { mark = rw braked; slows = rw braked tt }
        go (Some n) braked = absurd (braked_on n c braked moving drives)

  -- ---- where motion and order stay

  abbrev stays : Authority → Counts → Told
  stays a n = record { entry = x.entry; figures = x.figures; now = still x.now a n }

  steady_still : (a : Authority) (c : Option ℕ) → InLimit limit a.end → Aims (reach_of (record_of x)) a → AtRest (record_of x) a → Slowing σ (record_of x) c
      → Steady σ limit (stays a (record { held = c; braked = x.now.counts.braked }))
  unfolding record_of
  steady_still a c limited aims rests slow =
      record {
        consist = steady.consist;
        guarded = guarded_still σ limit (record_of x) steady.guarded a _ limited aims rests;
        held_slows = go c slow;
        braked_slows = go x.now.counts.braked steady.braked_slows;
      }
    where
      go : (n : Option ℕ) → Slowing σ (record_of x) n → Slowing σ (record_of (stays a (record { held = c; braked = x.now.counts.braked }))) n
      go None slow = tt
      go (Some zero) slow = tt
      go (Some (suc n)) slow = slow

  -- held already, a train goes on slowing; held now, it has had no report
  slowing_hold : (n : Option ℕ) → Slowing σ (record_of x) n → Slowing σ (record_of x) (Some (unwrap_or n 0))
  slowing_hold None slow = tt
  slowing_hold (Some n) slow = slow

  -- b says whether an extension is a repeat
  extended_end : (q : Extension) (b : Bool) → not b && not (within_limit limit (x.now.authority.end + q.length)) ≡ false
      → let a = cond b x.now.authority (granted x.now.authority q) in
      InLimit limit a.end × Aims (reach_of (record_of x)) a × AtRest (record_of x) a
  unfolding record_of
  extended_end q true e = (steady.guarded.end_in_limit, steady.guarded.aims, steady.guarded.at_rest)
  extended_end q false e =
      let reached = steady.guarded.aims.reach in
      (limit_tested limit _ (not-false _ e), record { reach = omega arith; goal = le_refl _; short = λ pending. absurd (pending refl) }, λ braked standing. refl)

  -- a train that stands under brake reaches no further than its head
  wanted_moving : (p : ℕ) → (record_of x).motion.head ≤ p → p < reach_of (record_of x) → AtRest (record_of x) (wanting x.now.authority p)
  unfolding record_of stands
  wanted_moving p behind short braked standing =
      let m = (record_of x).motion in
      let here = reach_stands x.figures m steady.guarded.figures (eq-eqb m.speed 0 standing) in
      let under = ap (reach x.figures m) braked in
      absurd (omega arith)

  -- ---- any act

  pub act_kept : (a : Act) → first_of (ruling_on a).checks ≡ None → Acted a
  unfolding record_of told_act moves is_penalty reported extended is_repeat called_back
  act_kept (Report r) e =
      let allows = report_allowed_lem σ (record_of x) r (passed _ _ _ e).0 in
      let m = motion_after (record_of x) r in
      let given = order_after σ (record_of x) m in
      let level = level_worst x.figures (record_of x).motion x.now.order in
      let count = braked_report r allows (stands x.figures m.speed m.level) given refl refl in
      let done = done_settled (reach x.figures m given) (stands x.figures m.speed m.level) m.head x.now.authority steady.guarded.aims.goal in
      let same : record_of (after_act (Report r)) ≡ reported σ (record_of x) r = rw (order_told, level, still_held x.now.counts.held, count.mark, done) in
      let g = guarded_report σ limit (record_of x) steady.guarded r allows in
      record {
        told = same;
        keeps = record { consist = steady.consist; guarded = rw same g; held_slows = rw same (held_report r allows x.now.counts.held refl); braked_slows = rw (same, order_told, level) count.slows };
        onward = allowed_head (record_of x) r allows;
        within = (g.within.cap, limit_below limit g.aims.reach g.end_in_limit);
      }
  act_kept (Extend q) e =
      let last = passed _ _ _ (passed _ _ _ (passed _ _ _ (passed _ _ _ (passed _ _ _ e).1).1).1).1 in
      let a = longer x.now.authority q in
      let (limited, aims, rests) = extended_end q (eqb q.number x.now.authority.number) last.0 in
      let same : record_of (after_act (Extend q)) ≡ extended (record_of x) q = by_test (eqb q.number x.now.authority.number) (λ e. rw e) (λ e. rw e) in
      record {
        told = same;
        keeps = steady_still a x.now.counts.held limited aims rests steady.held_slows;
        onward = le_refl _;
        within = subst (λ (y : Train). InLimit limit y.authority.end) same limited;
      }
  act_kept (CallBack p) e =
      let (behind, high) = call_back_allowed_lem (record_of x) p (passed _ _ _ e).0 in
      let g = steady.guarded in
      by_test (leb (reach_of (record_of x)) p)
      (λ far.
      let moved = steady_still (ending_at x.now.authority p) x.now.counts.held (limit_below limit high g.end_in_limit) (record { reach = leb-true _ _ far; goal = le_refl _; short = λ pending. absurd (pending refl) }) (λ braked standing. refl) steady.held_slows in
      record { told = rw far; keeps = rw far moved; onward = le_refl _; within = tt })
      (λ short.
      let waits = steady_still (wanting x.now.authority p) x.now.counts.held g.end_in_limit (record { reach = g.aims.reach; goal = high; short = λ pending. leb-false _ _ short }) (wanted_moving p behind (leb-false _ _ short)) steady.held_slows in
      record { told = rw short; keeps = rw short waits; onward = le_refl _; within = tt })
  act_kept Hold e =
      let g = steady.guarded in
      record {
        told = refl;
        keeps = steady_still x.now.authority (Some (unwrap_or x.now.counts.held 0)) g.end_in_limit g.aims g.at_rest (slowing_hold x.now.counts.held steady.held_slows);
        onward = le_refl _;
        within = tt;
      }
  act_kept Lift e =
      let g = steady.guarded in
      record { told = refl; keeps = steady_still x.now.authority None g.end_in_limit g.aims g.at_rest tt; onward = le_refl _; within = tt }
