-- Laws of one call: any call at once, and what each of its checks leads to. Whoever cites these opens neither `decide_on` nor the lists of
-- checks.
-- Assumes nothing.
use Rattle.std.specs.Prelude.{Option, None, Some, Ok, Result, Err}
use Prim.Native.Nat.{ℕ, ◌≤◌, ◌<◌}
use mathlib.Core.Bool.{Bool, true, false, not, ◌&&◌}
use mathlib.Core.List.{[], ◌∷◌}
use mathlib.Core.Path.{◌≡◌, refl, sym, ap, ◌∙◌}
use native.Mathlib.Omega.{arith}
use lib.ListN.{length, length-take}
use lib.Dec.{leb}
use borrow.Author.Tests.{le-leb, lt-leb, leb-true, leb-false, not-false}
use Rattle.logic.proofs.Tests.{by_test, both}
use Rattle.ranges.specs.Ranges.{id_in_range, start_in_range}
use Rattle.brake.specs.declared.Figures.{Figures}
use Rattle.calls.specs.declared.Opening.{Opening}
use Rattle.calls.specs.declared.Entry.{Entry}
use Rattle.calls.specs.declared.Act.{Act}
use Rattle.calls.specs.declared.Call.{Call}
use Rattle.calls.specs.declared.Call.TheVariants.{Enter, Own, TakeOff}
use Rattle.calls.specs.declared.Ask.{Ask}
use Rattle.calls.specs.declared.Ask.TheVariants.{Open, OnTable}
use Rattle.calls.specs.declared.Request.{Request}
use Rattle.calls.specs.declared.Refusal.{Refusal}
use Rattle.calls.specs.declared.Refusal.TheVariants.{OutOfTurn, BadSetting, BadEntry, OnLine, LineFull, BadHead, NoTrain, NotLeaving, NoRight}
use Rattle.calls.specs.declared.Values.{Values}
use Rattle.calls.specs.declared.Values.TheVariants.{Entered, Zeros}
use Rattle.calls.specs.Checks.{check, first_of}
use Rattle.calls.specs.Requests.{request}
use Rattle.rights.specs.Rights.{may_ask}
use Rattle.calls.proofs.Checks.{passed}
use Rattle.train.specs.declared.Train.{Train}
use Rattle.train.specs.Ranges.{settings_in_range, settings_of}
use Rattle.train.specs.Record.{figures_for, entering}
use Rattle.train.specs.Track.{steps_of, within_limit}
use Rattle.train.proofs.Track.{InLimit, limit_tested}
use Rattle.acts.specs.Acts.{may_leave}
use Rattle.acts.specs.Decide.{Ruling, decide, verdict_by, verdict}
use Rattle.table.specs.declared.Table.{Table}
use Rattle.table.specs.declared.Change.{Change}
use Rattle.table.specs.declared.Change.TheVariants.{Put, Add, DropFirst, Anew}
use Rattle.table.specs.Table.{places, empty_table, place_of, train_at, limit_at, Fits}
use Rattle.table.proofs.Places.{found_among, found_below, not_found, FoundAt}
use Rattle.line.specs.declared.Decision.{Decision}
use Rattle.line.specs.declared.Outcome.{Outcome}
use Rattle.line.specs.Decide.{refused, accepted, judged, open_decision, enter_checks, enter_decision, ruling_at, act_decision, take_off_decision, named, decide_on, out_of_turn, decided}
use Rattle.line.specs.Step.{outcome, carried_out, open_step}

-- what a call but open comes to by a caller with the right (Rights: call_rightful)
unfoldable pub step : Table → Call → Outcome
step t c = carried_out t (decide_on t (OnTable c))

-- ---- any call: refused, or accepted with all checks passed

-- accepted: no check applies
judged_any : (o : Option Refusal) (v : Values) (c : Change) (P : Decision → Type 0) → ((r : Refusal) → P (refused r)) → (o ≡ None → P (accepted v c))
    → P (judged o v c)
judged_any None v c P refuses accepts = accepts refl
judged_any (Some r) v c P refuses accepts = refuses r

named_any : (f : Option ℕ) (d : ℕ → Decision) (P : Decision → Type 0) → ((r : Refusal) → P (refused r)) → ((i : ℕ) → f ≡ Some i → P (d i)) → P (named f d)
named_any None d P refuses accepts = refuses NoTrain
named_any (Some i) d P refuses accepts = accepts i refl

-- a train that may enter, with figures k: its id is not on the line, there is a free place, its rear is on the line and its head within the limit
pub record Admitted (t : Table) (e : Entry) (k : Figures) : Type 0 where
  pub figures : figures_for t.settings e ≡ Some k
  pub absent : place_of t e.id ≡ None
  pub room : t.count < places
  pub long : steps_of e.length ≤ e.head
  pub near : InLimit (limit_at t t.count) e.head

-- an accepted entering has passed its checks
admitted : (t : Table) (e : Entry) (k : Figures) → figures_for t.settings e ≡ Some k → first_of (enter_checks t e k) ≡ None → Admitted t e k
admitted t e k given passes =
    let known = passed _ _ _ (passed _ _ _ passes).1 in
    let full = passed _ _ _ known.1 in
    let head = both (leb (steps_of e.length) e.head) _ (not-false _ (passed _ _ _ full.1).0) in
    record {
      figures = given;
      absent = not_found (place_of t e.id) known.0;
      room = leb-false places t.count full.0;
      long = leb-true _ _ head.0;
      near = limit_tested (limit_at t t.count) e.head head.1;
    }

-- what has to be shown of each call and its decision, so that it holds of every one
pub record Any (t : Table) (P : Call → Decision → Type 0) : Type 0 where
  pub refuses : (c : Call) (r : Refusal) → P c (refused r)
  pub enters : (e : Entry) (k : Figures) → Admitted t e k → P (Enter e) (accepted (Entered k.full k.growth e.head) (Add (entering e k)))
  pub acts : (id i : ℕ) (a : Act) → place_of t id ≡ Some i → first_of (ruling_at t a i).checks ≡ None
      → P (Own id a) (accepted (ruling_at t a i).gives (Put i (ruling_at t a i).after))
  pub leaves : (id i : ℕ) → place_of t id ≡ Some i → may_leave i (train_at t i) ≡ true → P (TakeOff id) (accepted Zeros DropFirst)

pub any_call : (t : Table) (P : Call → Decision → Type 0) → Any t P → (c : Call) → P c (decide_on t (OnTable c))
unfolding decide_on enter_decision act_decision take_off_decision
any_call t P any (Enter e) = go (figures_for t.settings e) refl
  where
    go : (f : Option Figures) → figures_for t.settings e ≡ f → P (Enter e) (enter_decision t e f)
    go None q = any.refuses _ BadEntry
    go (Some k) q = judged_any (first_of (enter_checks t e k)) _ _ (P (Enter e)) (any.refuses _) (λ passes. any.enters e k (admitted t e k q passes))
any_call t P any (Own id a) =
    named_any (place_of t id) _ (P (Own id a)) (any.refuses _)
    (λ i q. judged_any (first_of (ruling_at t a i).checks) _ _ (P (Own id a)) (any.refuses _) (any.acts id i a q))
any_call t P any (TakeOff id) =
    named_any (place_of t id) _ (P (TakeOff id)) (any.refuses _)
    (λ i q.
    judged_any (first_of (check (not (may_leave i (train_at t i))) NotLeaving ∷ [])) _ _ (P (TakeOff id)) (any.refuses _)
    (λ e. any.leaves id i q (not-false _ (passed _ NotLeaving [] e).0)))

-- the table has the place that the change needs
call_fits : (t : Table) → length t.trains ≡ places → (c : Call) → Fits t (decide_on t (OnTable c)).change
call_fits t size =
    any_call t (λ c d. Fits t d.change)
    (record {
      refuses = λ c r. tt;
      enters = λ e k a. a.room;
      acts = λ id i a q passes. let among = found_among t id i q in let all = length-take t.count t.trains in omega arith;
      leaves = λ id i q may. let below = found_below t id i q in omega arith;
    })

-- ---- any request on an opened line: refused, or what its call comes to

pub any_request : (t : Table) (P : Request → Decision → Type 0) → ((r : Request) (why : Refusal) → P r (refused why))
    → ((r : Request) (c : Call) → r.ask ≡ OnTable c → P r (decide_on t (OnTable c))) → (r : Request) → P r (decided true t r)
unfolding decided
any_request t P refuses does r = go r.ask refl
  where
    go : (a : Ask) → r.ask ≡ a → P r (decided true t (request r.caller a))
    go (Open o) e = refuses r OutOfTurn
    go (OnTable c) e = by_test (may_ask r.caller (OnTable c)) (λ may. rw may (does r c e)) (λ lacks. rw lacks (refuses r NoRight))

-- ---- open

pub open_taken : (o : Opening) → settings_in_range o ≡ true → open_decision o ≡ accepted Zeros (Anew o)
unfolding open_decision first_of
open_taken o e = rw (e, open_decision)

pub open_refused : (o : Opening) → settings_in_range o ≡ false → open_decision o ≡ refused BadSetting
unfolding open_decision first_of
open_refused o e = rw (e, open_decision)

open_fits : (t : Table) (o : Opening) → Fits t (open_decision o).change
open_fits t o = by_test (settings_in_range o) (λ e. rw (open_taken o e) tt) (λ e. rw (open_refused o e) tt)

pub decided_fits : (opened : Bool) (t : Table) → length t.trains ≡ places → (r : Request) → Fits t (decided opened t r).change
unfolding decide_on decided
decided_fits opened t size r =
    by_test (out_of_turn opened r.ask) (λ e. rw e tt)
    (λ e. by_test (may_ask r.caller r.ask) (λ may. rw (e, may) (fits r.ask)) (λ lacks. rw (e, lacks) tt))
  where
    fits : (a : Ask) → Fits t (decide_on t a).change
    fits (Open o) = open_fits t o
    fits (OnTable c) = call_fits t size c

-- what an accepted opening has passed, and made
pub open_made : (o : Opening) (t : Table) → open_step o ≡ outcome (Ok Zeros) t → (settings_in_range o ≡ true) × (t ≡ empty_table (settings_of o))
unfolding open_step
open_made o t opened =
    by_test (settings_in_range o)
    (λ e. (e, ap (λ (u : Outcome). u.table) (sym opened) ∙ rw (open_taken o e)))
    (λ e.
    let no = sym (ap (λ (d : Decision). d.answer) (open_refused o e)) ∙ ap (λ (u : Outcome). u.answer) opened in
    let z : ◌≡◌ {A = ℕ} 0 1 = cc in absurd (omega arith))

-- ---- enter

module _ (t : Table) (e : Entry) where
  pub enter_unfit : figures_for t.settings e ≡ None → decide_on t (OnTable (Enter e)) ≡ refused BadEntry
  unfolding decide_on enter_decision
  enter_unfit f = ap (enter_decision t e) f

  pub enter_fit : (k : Figures) → figures_for t.settings e ≡ Some k → decide_on t (OnTable (Enter e)) ≡ enter_decision t e (Some k)
  unfolding decide_on
  enter_fit k f = ap (enter_decision t e) f

  -- whatever the consist
  pub enter_bad : (id_in_range e.id && start_in_range e.start) ≡ false → decide_on t (OnTable (Enter e)) ≡ refused BadEntry
  unfolding decide_on enter_decision first_of
  enter_bad a = go (figures_for t.settings e)
    where
      go : (f : Option Figures) → enter_decision t e f ≡ refused BadEntry
      go None = refl
      go (Some k) = rw (a, enter_decision)

  module _ (k : Figures) where
    module _ (a : (id_in_range e.id && start_in_range e.start) ≡ true) where
      pub enter_known : (i : ℕ) → place_of t e.id ≡ Some i → enter_decision t e (Some k) ≡ refused OnLine
      unfolding enter_decision first_of
      enter_known i b = rw (a, b, enter_decision)

      module _ (b : place_of t e.id ≡ None) where
        pub enter_full : places ≤ t.count → enter_decision t e (Some k) ≡ refused LineFull
        unfolding enter_decision first_of
        enter_full c = rw (a, b, le-leb places t.count c, enter_decision)

        module _ (c : t.count < places) where
          pub enter_short : e.head < steps_of e.length → enter_decision t e (Some k) ≡ refused BadHead
          unfolding enter_decision first_of
          enter_short d = rw (a, b, lt-leb places t.count c, lt-leb (steps_of e.length) e.head d, enter_decision)

          pub enter_beyond : steps_of e.length ≤ e.head → within_limit (limit_at t t.count) e.head ≡ false → enter_decision t e (Some k) ≡ refused BadHead
          unfolding enter_decision first_of
          enter_beyond d f = rw (a, b, lt-leb places t.count c, le-leb (steps_of e.length) e.head d, f, enter_decision)

          pub enter_taken : steps_of e.length ≤ e.head → within_limit (limit_at t t.count) e.head ≡ true
              → enter_decision t e (Some k) ≡ accepted (Entered k.full k.growth e.head) (Add (entering e k))
          unfolding enter_decision first_of
          enter_taken d f = rw (a, b, lt-leb places t.count c, le-leb (steps_of e.length) e.head d, f, enter_decision)

-- ---- no such train

pub own_unknown : (t : Table) (id : ℕ) (a : Act) → place_of t id ≡ None → decide_on t (OnTable (Own id a)) ≡ refused NoTrain
unfolding decide_on
own_unknown t id a e = ap (λ (o : Option ℕ). named o (act_decision t a)) e

pub take_off_unknown : (t : Table) (id : ℕ) → place_of t id ≡ None → decide_on t (OnTable (TakeOff id)) ≡ refused NoTrain
unfolding decide_on
take_off_unknown t id e = ap (λ (o : Option ℕ). named o (take_off_decision t)) e

-- ---- the train x, found at place i

-- what the verdict on an act of the train at place i decides
abbrev pub placed : ℕ → Result (Values × Train) Refusal → Decision
placed i (Err r) = refused r
placed i (Ok (v, y)) = accepted v (Put i y)

placed_judged : (i : ℕ) (o : Option Refusal) (d : Ruling) → judged o d.gives (Put i d.after) ≡ placed i (verdict_by o d)
placed_judged i None d = refl
placed_judged i (Some r) d = refl

module _ (t : Table) (id i : ℕ) (limit : Option ℕ) (x : Train) (f : FoundAt t (place_of t id) i limit x) where
  pub own_found : (a : Act) → decide_on t (OnTable (Own id a)) ≡ placed i (verdict (decide t.settings limit x a))
  unfolding decide_on act_decision
  own_found a =
      ap (λ (o : Option ℕ). named o (act_decision t a)) f.place
      ∙ placed_judged i (first_of (ruling_at t a i).checks) (ruling_at t a i)
      ∙ ap (λ (l : Option ℕ). placed i (verdict (decide t.settings l (train_at t i) a))) (sym f.limited)
      ∙ ap (λ (y : Train). placed i (verdict (decide t.settings limit y a))) (sym f.here)

  take_off_found : decide_on t (OnTable (TakeOff id)) ≡ take_off_decision t i
  unfolding decide_on
  take_off_found = ap (λ (o : Option ℕ). named o (take_off_decision t)) f.place

  pub take_off_refused : may_leave i x ≡ false → decide_on t (OnTable (TakeOff id)) ≡ refused NotLeaving
  unfolding take_off_decision first_of
  take_off_refused e = take_off_found ∙ (rw (← f.here, e, take_off_decision))

  pub take_off_taken : may_leave i x ≡ true → decide_on t (OnTable (TakeOff id)) ≡ accepted Zeros DropFirst
  unfolding take_off_decision first_of
  take_off_taken e = take_off_found ∙ (rw (← f.here, e, take_off_decision))
