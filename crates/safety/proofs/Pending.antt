-- Document 02, (vi), over every list of deeds: what a pending call back leaves as it is, and when it ends. `step` is what a call comes to by a
-- caller with the right; one without it leaves the table (line/proofs/Rights: call_16).
-- Assumes nothing.
use Rattle.std.specs.Prelude.{Option, None, Some, Ok, Err}
use Prim.Native.Nat.{ℕ, zero, suc, ◌+◌, ◌≤◌, ◌<◌}
use mathlib.Core.Bool.{true}
use mathlib.Core.List.{List, [], ◌∷◌, ◌++◌}
use mathlib.Core.Logic.{by_cases, ◌⊎◌, inl, inr}
use mathlib.Core.Path.{◌≡◌, refl, sym, ap, subst, ◌∙◌}
use native.Mathlib.Decide.{ℕ_discrete, dec_le}
use native.Mathlib.Nat.{le_refl}
use native.Mathlib.Omega.{arith}
use lib.Dec.{leb}
use borrow.Author.Tests.{eqb-true}
use Rattle.logic.proofs.Tests.{by_test}
use Rattle.logic.proofs.Rounding.{RoundedUp}
use Rattle.brake.specs.Consist.{Sound}
use Rattle.motion.specs.declared.Motion.{Motion}
use Rattle.motion.specs.declared.Order.{Order}
use Rattle.motion.specs.declared.Order.TheVariants.{Brake}
use Rattle.motion.specs.Motion.{stands}
use Rattle.motion.specs.Orders.{worst_case, reach}
use Rattle.motion.specs.Count.{cycles_to_stand}
use Rattle.motion.proofs.Domination.{NoWorse}
use Rattle.motion.proofs.Slowing.{Slowed, slowed_start, slowed_brake, slowed_stands}
use Rattle.motion.proofs.OrderSentences.{cycles_counted}
use Rattle.calls.specs.declared.Opening.{Opening}
use Rattle.calls.specs.declared.Reading.{Reading}
use Rattle.calls.specs.declared.Act.{Act}
use Rattle.calls.specs.declared.Act.TheVariants.{Report, Extend, CallBack, Hold, Lift}
use Rattle.calls.specs.declared.Call.TheVariants.{Enter, Own, TakeOff}
use Rattle.calls.specs.declared.Ask.{Ask}
use Rattle.calls.specs.declared.Ask.TheVariants.{Open, OnTable}
use Rattle.calls.specs.declared.Request.{Request}
use Rattle.calls.specs.declared.Refusal.{Refusal}
use Rattle.calls.specs.declared.Refusal.TheVariants.{NotLeaving}
use Rattle.calls.specs.declared.Values.TheVariants.{Zeros}
use Rattle.calls.specs.Answers.{numbers_of}
use Rattle.calls.specs.Requests.{request}
use Rattle.calls.specs.Checks.{first_of}
use Rattle.calls.proofs.Checks.{passed}
use Rattle.train.specs.declared.Settings.{Settings}
use Rattle.train.specs.declared.Train.{Train}
use Rattle.train.specs.Report.{reach_of, allowed, motion_after, reported}
use Rattle.train.proofs.Checks.{report_allowed_lem, allowed_no_worse}
use Rattle.train.proofs.Pending.{pending_brakes}
use Rattle.acts.specs.Acts.{is_repeat, extended, called_back}
use Rattle.acts.specs.Decide.{decide, verdict_by}
use Rattle.acts.proofs.Checks.{call_back_allowed_lem}
use Rattle.table.specs.declared.Table.{Table}
use Rattle.table.specs.declared.Change.TheVariants.{Put}
use Rattle.table.specs.Table.{place_of, train_at, limit_at, changed}
use Rattle.table.proofs.Places.{found_below, still_found, still_there}
use Rattle.line.specs.Decide.{ruling_at}
use Rattle.line.specs.declared.Outcome.{Outcome}
use Rattle.line.specs.Step.{outcome, requested, open_step}
use Rattle.line.proofs.Steps.{step}
use Rattle.line.proofs.Rules.{own_step, take_off_15}
use Rattle.line.proofs.Stays.{Holds, Keeps, still_holds, request_taken, own_accepted}
use Rattle.safety.specs.History.{Deed, made, tried, done, Event, history, after, is_accepted}
use Rattle.safety.proofs.Train.{Guarded, report_aims, guarded_report}
use Rattle.safety.proofs.Calls.{agrees}
use Rattle.safety.proofs.Bounds.{track}
use Rattle.safety.proofs.Repeats.{Takes, takes}

-- what n reports in a row, after each of which a call back is pending, come to: the train moves under brake, and has slowed down
abbrev Braking : ℕ → ℕ → Train → Type 0
Braking ceiling zero x = Unit {0}
Braking ceiling (suc n) x = (x.order ≡ Brake) × (0 < x.motion.speed) × Slowed x.figures ceiling n x.motion

-- a call back of the train is pending
abbrev pub Waiting : ℕ → Table → Type 0
Waiting id t = Holds (λ (x : Train). x.authority.goal ≡ x.authority.end → ⊥) id t

module _ (o : Opening) (t : Table) (opened : open_step o ≡ outcome (Ok Zeros) t) (ds : List Deed) where
  abbrev now : Table
  now = after t ds

  module _ (id i : ℕ) (found : place_of now id ≡ Some i) where
    abbrev x : Train
    x = train_at now i

    abbrev limit : Option ℕ
    limit = limit_at now i

    guarded : Guarded now.settings limit x
    guarded = (track o t opened ds i (found_below now id i found)).guarded

    -- the wanted place is at or before the end, and the end itself where no call back is pending; while one is, the reach is past the place
    pub goal_within_end : x.authority.goal ≤ x.authority.end
    goal_within_end = guarded.aims.goal

    pub pending_short : (x.authority.goal ≡ x.authority.end → ⊥) → x.authority.goal < reach x.figures x.motion x.order
    pending_short = guarded.aims.short

    -- the train is not taken off meanwhile: it does not stand under brake
    pub pending_stays : (x.authority.goal ≡ x.authority.end → ⊥) → step now (TakeOff id) ≡ outcome (Err NotLeaving) now
    pending_stays pending = take_off_15 now id i found (λ leaves. pending (guarded.at_rest leaves.2 leaves.1))

    -- the train's record after an act of it, whether it was taken or not
    abbrev then : Act → Train
    then a = train_at (step now (Own id a)).table i

    acted : (Q : Train → Type 0) (a : Act) → Q x → (first_of (decide now.settings limit x a).checks ≡ None → Q (decide now.settings limit x a).after) → Q (then a)
    acted Q a stays goes = go (first_of (decide now.settings limit x a).checks) refl
      where
        go : (f : Option Refusal) → first_of (decide now.settings limit x a).checks ≡ f → Q (then a)
        go None e = rw (own_step now id i found a _ (ap (λ (f : Option Refusal). verdict_by f (decide now.settings limit x a)) e), still_there now id i (decide now.settings limit x a).after found) (goes e)
        go (Some r) e = rw (own_step now id i found a _ (ap (λ (f : Option Refusal). verdict_by f (decide now.settings limit x a)) e)) stays

    -- no report and no call back moves the end forward
    pub report_not_forward : (r : Reading) → (then (Report r)).authority.end ≤ x.authority.end
    report_not_forward r = acted (λ (y : Train). y.authority.end ≤ x.authority.end) (Report r) (le_refl _)
        (λ e. (report_aims now.settings limit x guarded r (report_allowed_lem now.settings x r (passed _ _ _ e).0)).0)

    pub call_back_not_forward : (place : ℕ) → (then (CallBack place)).authority.end ≤ x.authority.end
    unfolding called_back
    call_back_not_forward place =
        acted (λ (y : Train). y.authority.end ≤ x.authority.end) (CallBack place) (le_refl _)
        (λ e. by_test (leb (reach_of x) place) (λ far. rw far (call_back_allowed_lem x place (passed _ _ _ e).0).1) (λ short. rw short (le_refl _)))

    -- a report that was taken
    module _ (r : Reading) (taken : (numbers_of (step now (Own id (Report r))).answer).number ≡ 0) where
      below : i < now.count
      below = found_below now id i found

      abbrev m : Motion
      m = motion_after x r

      table_then : (step now (Own id (Report r))).table ≡ changed now (Put i (reported now.settings x r))
      table_then =
          let a = own_accepted now id (Report r) taken in
          let here : a.place ≡ i = cc a.found in
          a.table ∙ ap (λ (p : ℕ). changed now (Put p (ruling_at now (Report r) p).after)) here

      reads : then (Report r) ≡ reported now.settings x r
      reads = ap (λ (u : Table). train_at u i) table_then ∙ still_there now id i (reported now.settings x r) found

      found_then : place_of (step now (Own id (Report r))).table id ≡ Some i
      unfolding reported
      found_then = ap (λ (u : Table). place_of u id) table_then ∙ still_found now i (reported now.settings x r) below refl id ∙ found

      allows : allowed x r ≡ true
      allows =
          let a = own_accepted now id (Report r) taken in
          let here : a.place ≡ i = cc a.found in
          report_allowed_lem now.settings x r (passed _ _ _ (subst (λ (p : ℕ). first_of (ruling_at now (Report r) p).checks ≡ None) here a.passes)).0

      -- pending after it: it was answered with brake, and the train moves
      pub pending_on : ((then (Report r)).authority.goal ≡ (then (Report r)).authority.end → ⊥)
          → ((then (Report r)).order ≡ Brake) × (0 < (then (Report r)).motion.speed)
      unfolding reported
      pending_on pending =
          subst (λ (y : Train). (y.authority.goal ≡ y.authority.end → ⊥) → (y.order ≡ Brake) × (0 < y.motion.speed)) (sym reads)
          (pending_brakes now.settings x (motion_after x r) guarded.figures) pending

      -- so one with speed 0 ends it
      pub stand_ends : r.speed ≡ 0 → (then (Report r)).authority.goal ≡ (then (Report r)).authority.end
      unfolding reported
      stand_ends standing =
          by_cases (ℕ_discrete (then (Report r)).authority.goal (then (Report r)).authority.end)
          (λ done. done)
          (λ pending.
          let moving = (pending_on pending).1 in
          let speed : (then (Report r)).motion.speed ≡ r.speed = ap (λ (y : Train). y.motion.speed) reads in
          absurd (omega arith))

      -- one more, where it is pending on
      braking_on : (n : ℕ) → Braking now.settings.maxima.ceiling n x → Waiting id (step now (Own id (Report r))).table
          → Holds (Braking now.settings.maxima.ceiling (suc n)) id (step now (Own id (Report r))).table
      unfolding reported
      braking_on n brakes waiting =
          let here : waiting.place ≡ i = cc (waiting.found, found_then) in
          let (brake, moving) = pending_on (subst (λ (p : ℕ). (train_at (step now (Own id (Report r))).table p).authority.goal ≡ (train_at (step now (Own id (Report r))).table p).authority.end → ⊥) here waiting.so) in
          record {
            place = i;
            found = found_then;
            so = (brake, moving, subst (λ (y : Train). Slowed y.figures now.settings.maxima.ceiling n y.motion) (sym reads) (go n brakes));
          }
        where
          go : (n : ℕ) → Braking now.settings.maxima.ceiling n x → Slowed x.figures now.settings.maxima.ceiling n m
          go zero brakes = slowed_start x.figures _ m (guarded_report now.settings limit x guarded r allows).within.speed
          go (suc n) (brake, moving, slowed) =
              slowed_brake x.figures _ n x.motion m guarded.figures slowed
              (subst (λ (given : Order). NoWorse m (worst_case x.figures x.motion given)) brake (allowed_no_worse x r allows))

-- ---- how long one is pending

-- no act but a report touches motion and order
braking_act : (ceiling n : ℕ) (σ : Settings) (limit : Option ℕ) (x : Train) (a : Act) → ((r : Reading) → a ≡ Report r → ⊥)
    → Braking ceiling n x → Braking ceiling n (decide σ limit x a).after
unfolding extended called_back
braking_act ceiling zero σ limit x a other brakes = tt
braking_act ceiling (suc n) σ limit x (Report r) other brakes = absurd (other r refl)
braking_act ceiling (suc n) σ limit x (Extend q) other brakes = by_test (is_repeat x.authority q) (λ e. rw e brakes) (λ e. rw e brakes)
braking_act ceiling (suc n) σ limit x (CallBack place) other brakes = brakes
braking_act ceiling (suc n) σ limit x Hold other brakes = brakes
braking_act ceiling (suc n) σ limit x Lift other brakes = brakes

-- the event is a report of the train that was accepted
abbrev pub Reported : ℕ → Event → Type 0
Reported id e = (r : Reading) × Takes (OnTable (Own id (Report r))) e

-- n of the events are
abbrev pub Reports : ℕ → ℕ → List Event → Type 0
Reports id n [] = n ≡ 0
Reports id n (e ∷ es) = ((m : ℕ) × (n ≡ suc m) × Reported id e × Reports id m es) ⊎ ((Reported id e → ⊥) × Reports id n es)

-- and it is pending after each of the deeds
abbrev pub Waits : ℕ → Table → List Deed → Type 0
Waits id t [] = Unit {0}
Waits id t (d ∷ ds) = Waiting id (done t d).table × Waits id (done t d).table ds

after_both : (t : Table) (before since : List Deed) → after t (before ++ since) ≡ after (after t before) since
unfolding after
after_both t [] since = refl
after_both t (d ∷ before) since = after_both (done t d).table before since

follows : (t : Table) (before : List Deed) (u : Table) (d : Deed) → u ≡ after t before → (done u d).table ≡ after t (before ++ (d ∷ []))
unfolding after
follows t before u d is = ap (λ (w : Table). (done w d).table) is ∙ sym (after_both t before (d ∷ []))

-- a deed on the table u, with its answer
abbrev event_of : Table → Deed → Event
event_of u d = record { deed = d; answer = numbers_of (done u d).answer }

module _ (o : Opening) (t : Table) (opened : open_step o ≡ outcome (Ok Zeros) t) (id : ℕ) where
  -- a deed that is no accepted report of the train leaves what its reports have come to
  abbrev Another : ℕ → Deed → Table → Type 0
  Another n d u =
      Waiting id u → (Reported id (event_of u d) → ⊥) → Holds (Braking o.ceiling n) id u → Holds (Braking o.ceiling n) id (done u d).table

  another : (before : List Deed) (n : ℕ) (d : Deed) → Another n d (after t before)
  another before n (tried r) waiting other h = h
  another before n (made r) waiting other h = still_holds (Braking o.ceiling n) id u (agrees o t opened before).sized h r (keeps r.ask refl)
    where
      u : Table
      u = after t before

      keeps : (a : Ask) → r.ask ≡ a → Keeps (Braking o.ceiling n) id (numbers_of (requested true u r).answer).number a
      keeps (Open p) asks = tt
      keeps (OnTable (Enter p)) asks = tt
      keeps (OnTable (Own j a)) asks = λ mine taken σ limit x passes.
          braking_act o.ceiling n σ limit x a
          (λ q is. other (q, takes (event_of u (made r)) r _ refl (asks ∙ ap (λ (k : ℕ). OnTable (Own k a)) mine ∙ ap (λ (b : Act). OnTable (Own id b)) is) taken))
      keeps (OnTable (TakeOff j)) asks = λ mine taken.
          let steps = request_taken u r (TakeOff id) (asks ∙ ap (λ (k : ℕ). OnTable (TakeOff k)) mine) taken in
          let stays = pending_stays o t opened before id waiting.place waiting.found waiting.so in
          let number = ap (λ (w : Outcome). (numbers_of w.answer).number) (steps ∙ stays) in
          absurd (omega arith)

  -- an accepted report of it, after which the call back is pending still, is one more
  abbrev OneMore : ℕ → Deed → Table → Type 0
  OneMore n d u =
      Reported id (event_of u d) → Waiting id (done u d).table → Holds (Braking o.ceiling n) id u → Holds (Braking o.ceiling (suc n)) id (done u d).table

  one_more : (before : List Deed) (n : ℕ) (d : Deed) → OneMore n d (after t before)
  unfolding is_accepted
  one_more before n d (r, (caller, is, ok)) waiting h =
      subst (λ (b : Deed). is_accepted (event_of u b) ≡ true → Waiting id (done u b).table → Holds (Braking o.ceiling (suc n)) id (done u b).table)
      (sym is) reports ok waiting
    where
      u : Table
      u = after t before

      q : Request
      q = request caller (OnTable (Own id (Report r)))

      reports : is_accepted (event_of u (made q)) ≡ true → Waiting id (requested true u q).table → Holds (Braking o.ceiling (suc n)) id (requested true u q).table
      reports ok =
          let taken = eqb-true _ 0 ok in
          let steps = request_taken u q (Own id (Report r)) refl taken in
          subst (λ (w : Outcome). Waiting id w.table → Holds (Braking o.ceiling (suc n)) id w.table) (sym steps)
          (subst (λ (c : ℕ). Braking c n (train_at u h.place) → Waiting id (step u (Own id (Report r))).table → Holds (Braking c (suc n)) id (step u (Own id (Report r))).table)
          (agrees o t opened before).settings.ceiling
          (braking_on o t opened before id h.place h.found r (ap (λ (w : Outcome). (numbers_of w.answer).number) (sym steps) ∙ taken) n) h.so)

  -- so many reports, and the train slows down all along
  slows : (since before : List Deed) (u : Table) → u ≡ after t before → (k n : ℕ) → Holds (Braking o.ceiling k) id u → Waiting id u
      → Waits id u since → Reports id n (history u since) → Holds (Braking o.ceiling (k + n)) id (after u since)
  unfolding history after
  slows [] before u is k n h now waits reports =
      let same : k ≡ k + n = omega arith in subst (λ (l : ℕ). Holds (Braking o.ceiling l) id u) same h
  slows (d ∷ since) before u is k n h now (waiting, waits) (inl (m, more, reported, reports)) =
      let same : suc k + m ≡ k + n = omega arith in
      subst (λ (l : ℕ). Holds (Braking o.ceiling l) id (after (done u d).table since)) same
      (slows since (before ++ (d ∷ [])) (done u d).table (follows t before u d is) (suc k) m (subst (OneMore k d) (sym is) (one_more before k d) reported waiting h) waiting waits reports)
  slows (d ∷ since) before u is k n h now (waiting, waits) (inr (other, reports)) =
      slows since (before ++ (d ∷ [])) (done u d).table (follows t before u d is) k n (subst (Another k d) (sym is) (another before k d) now other h) waiting waits reports

  -- Where a call back of the train is pending, and after each of the deeds `since` one is, the same or a newer one: its accepted reports among them,
  -- n, are fewer than "1 + B/j + V/B ..., both quotients rounded up".
  pub pending_ends : (before since : List Deed)
      → let now = after t before in
      let then = after now since in
      Waiting id now → Waits id now since → (n : ℕ) → Reports id n (history now since)
      → (i p q : ℕ) → place_of then id ≡ Some i → RoundedUp p (train_at then i).figures.full (train_at then i).figures.growth
      → RoundedUp q o.ceiling (train_at then i).figures.full → n < 1 + p + q
  unfolding stands
  pending_ends before since waiting waits n reports i p q there growing slowing =
      let h = slows since before now refl 0 n (record { place = waiting.place; found = waiting.found; so = tt }) waiting waits reports in
      let here : h.place ≡ i = cc (h.found, there) in
      let same : 0 + n ≡ n = omega arith in
      go n (subst (λ (l : ℕ). Braking o.ceiling l x) same (subst (λ (j : ℕ). Braking o.ceiling (0 + n) (train_at then j)) here h.so))
    where
      now : Table
      now = after t before

      then : Table
      then = after now since

      x : Train
      x = train_at then i

      sound : Sound x.figures
      sound =
          subst (λ (u : Table). place_of u id ≡ Some i → Sound (train_at u i).figures) (after_both t before since)
          (λ found. (track o t opened (before ++ since) i (found_below _ id i found)).guarded.figures) there

      go : (n : ℕ) → Braking o.ceiling n x → n < 1 + p + q
      go zero brakes = omega arith
      go (suc m) (brake, moving, slowed) =
          let cycles = cycles_counted x.figures o.ceiling p q sound growing slowing in
          by_cases (dec_le (cycles_to_stand x.figures o.ceiling) m)
          (λ enough. let stood = eqb-true x.motion.speed 0 (slowed_stands x.figures o.ceiling m x.motion sound enough slowed) in absurd (omega arith))
          (λ fewer. omega arith)
