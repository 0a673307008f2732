-- Every deed, refused or not, keeps the invariant of a table under its history; so every list of deeds does.
-- Assumes nothing.
use Rattle.std.specs.Prelude.{None, Some, Result, Ok, Err}
use Prim.Native.Nat.{ℕ}
use mathlib.Core.Bool.{true}
use mathlib.Core.List.{List, [], ◌∷◌, map, foldl, map-append}
use mathlib.Core.Path.{◌≡◌, refl, sym, ◌∙◌, subst}
use native.Mathlib.Nat.{le_refl}
use native.Mathlib.Omega.{arith}
use lib.ListN.{length}
use borrow.Author.Tests.{eq-eqb}
use Rattle.logic.proofs.Tests.{by_test}
use Rattle.brake.specs.declared.Figures.{Figures}
use Rattle.brake.proofs.Consist.{given_sound}
use Rattle.calls.specs.declared.Opening.{Opening}
use Rattle.calls.specs.declared.Entry.{Entry}
use Rattle.calls.specs.declared.Act.{Act}
use Rattle.calls.specs.declared.Call.{Call}
use Rattle.calls.specs.declared.Call.TheVariants.{Enter, Own, TakeOff}
use Rattle.calls.specs.declared.Ask.TheVariants.{OnTable}
use Rattle.calls.specs.declared.Request.{Request}
use Rattle.calls.specs.declared.Refusal.{Refusal}
use Rattle.calls.specs.declared.Values.{Values}
use Rattle.calls.specs.declared.Values.TheVariants.{Entered, Zeros}
use Rattle.calls.specs.declared.Numbers.{Numbers}
use Rattle.calls.specs.Answers.{numbers_of}
use Rattle.calls.specs.Checks.{first_of}
use Rattle.calls.proofs.Answers.{accepted_0, refusal_not_0}
use Rattle.train.specs.Ranges.{settings_of, WorksWith}
use Rattle.train.specs.Record.{entering}
use Rattle.acts.specs.Acts.{may_leave}
use Rattle.train.proofs.Records.{settings_given, figures_entered}
use Rattle.acts.proofs.Checks.{first_leaves}
use Rattle.table.specs.declared.Table.{Table}
use Rattle.table.specs.declared.Change.TheVariants.{Put, Add, DropFirst}
use Rattle.table.specs.Table.{empty_table, on_line, place_of, train_at}
use Rattle.table.proofs.Places.{found_below}
use Rattle.table.proofs.Trains.{Sized, sized_empty, line_with, sized_with, line_last, sized_last, line_without_first, sized_without_first}
use Rattle.line.specs.declared.Decision.{Decision}
use Rattle.line.specs.Decide.{refused, accepted, ruling_at, decided}
use Rattle.line.specs.Step.{outcome, carried_out, open_step}
use Rattle.line.specs.Preview.{previewed}
use Rattle.line.proofs.Steps.{Admitted, any_call, any_request, open_made}
use Rattle.safety.specs.History.{Deed, made, tried, done, Event, history, after, is_accepted, Told, told_entering, Line, opened, with_trains, told_call, told_by, told}
use Rattle.safety.specs.Claim.{record_of}
use Rattle.safety.proofs.Train.{guarded_entering}
use Rattle.safety.proofs.Acts.{Steady}
use Rattle.safety.proofs.Finding.{IsAt}
use Rattle.safety.proofs.Line.{Lined, limit_in, first_limit, lined_act, lined_enter, lined_off}
use Rattle.safety.proofs.Tables.{Agrees, agrees_count, agrees_train, agrees_limit, agrees_absent, agrees_place}

abbrev pub event : Request → Result Values Refusal → Event
event r a = record { deed = made r; answer = numbers_of a }

module _ (l : Line) (r : Request) where
  told_refused : (why : Refusal) → told_by l (event r (Err why)) ≡ l
  unfolding told_by is_accepted
  told_refused why = rw (refusal_not_0 why)

  told_accepted : (c : Call) (v : Values) → r.ask ≡ OnTable c → told_by l (event r (Ok v)) ≡ told_call l (numbers_of (Ok v)) (OnTable c)
  unfolding told_by is_accepted
  told_accepted c v asks = rw (eq-eqb _ 0 (accepted_0 v), asks)

-- document 02, (v): a preview counts nowhere, whatever it is answered
pub tried_tells : (l : Line) (r : Request) (n : Numbers) → told_by l (record { deed = tried r; answer = n }) ≡ l
unfolding told_by
tried_tells l r n = by_test (is_accepted (record { deed = tried r; answer = n })) (λ e. rw e) (λ e. rw e)

module _ (o : Opening) (l : Line) (t : Table) (A : Agrees o l t) where
  abbrev xs : List Told
  xs = l.trains

  -- the invariant after a request
  abbrev Next : Request → Decision → Type 0
  Next r d = Agrees o (told_by l (event r d.answer)) (carried_out t d).table

  next_refused : (r : Request) (why : Refusal) → Next r (refused why)
  next_refused r why = rw (told_refused l r why) A

  -- other trains ys on the same line, and the table u with them
  next_trains : (u : Table) (ys : List Told) → u.settings ≡ t.settings → Sized u → on_line u ≡ map record_of ys
      → Lined u.settings (first_limit u.settings) ys → Agrees o (with_trains l ys) u
  next_trains u ys same sized trains lined =
      record { opening = A.opening; settings = subst (WorksWith o) (sym same) A.settings; sized = sized; trains = trains; lined = lined }

  -- after one that asks for the call c
  abbrev Does : Call → Decision → Type 0
  Does c d = (r : Request) → r.ask ≡ OnTable c → Next r d

  -- ---- an act

  next_act : (id i : ℕ) (a : Act) → place_of t id ≡ Some i → first_of (ruling_at t a i).checks ≡ None
      → Does (Own id a) (accepted (ruling_at t a i).gives (Put i (ruling_at t a i).after))
  unfolding told_call
  next_act id i a f e r asks =
      let below = found_below t id i f in
      let limit = agrees_limit o l t A i (omega arith) in
      let here = agrees_train o l t A i below in
      let passes = rw (limit, here) at e in
      let (lined, same) = lined_act t.settings id a _ xs i A.lined (agrees_place o l t A id i f) passes in
      let now = told_accepted l r (Own id a) (ruling_at t a i).gives asks in
      rw now
      (next_trains _ _ refl (sized_with t i _ A.sized)
      (rw (line_with t i (ruling_at t a i).after below, A.trains, limit, here) (sym same)) (rw (limit, here) lined))

  -- ---- an entering

  next_enter : (e : Entry) (k : Figures) → Admitted t e k → Does (Enter e) (accepted (Entered k.full k.growth e.head) (Add (entering e k)))
  unfolding told_call record_of
  next_enter e k a r asks =
      let absent = agrees_absent o l t A e.id a.absent in
      let limit = rw (agrees_limit o l t A t.count (le_refl _), agrees_count o l t A) at a.near in
      let v = Entered k.full k.growth e.head in
      let now = told_accepted l r (Enter e) v asks in
      let new = told_entering e (numbers_of (Ok v)) in
      let steady : Steady t.settings (limit_in t.settings (first_limit t.settings) xs (length xs)) new =
      record { consist = sym (figures_entered t.settings e) ∙ a.figures; guarded = guarded_entering _ _ e k (given_sound e.load e.length k a.figures) a.long limit; held_slows = tt; braked_slows = tt } in
      rw now
      (next_trains _ _ refl (sized_last t _ A.sized a.room)
      (rw (line_last t (entering e k) A.sized a.room, A.trains, map-append)) (lined_enter t.settings _ xs new A.lined absent steady))

  -- ---- a taking off

  next_off : (id i : ℕ) → place_of t id ≡ Some i → may_leave i (train_at t i) ≡ true → Does (TakeOff id) (accepted Zeros DropFirst)
  unfolding told_call
  next_off id i f may r asks =
      let place = subst (IsAt id xs) (first_leaves i (train_at t i) may) (agrees_place o l t A id i f) in
      let (lined, same) = lined_off t.settings id xs A.lined place in
      let now = told_accepted l r (TakeOff id) Zeros asks in
      rw now
      (next_trains _ _ refl (sized_without_first t A.sized (let below = found_below t id i f in omega arith))
      (rw (line_without_first t A.sized, A.trains) (sym same)) lined)

  -- ---- any request

  next_request : (r : Request) → Next r (decided true t r)
  next_request =
      any_request t Next next_refused
      (λ r c asks.
      any_call t Does
      (record { refuses = λ c why r asks. next_refused r why; enters = next_enter; acts = next_act; leaves = next_off }) c r asks)

  -- ---- any deed

  next_deed : (d : Deed) → Agrees o (told_by l (record { deed = d; answer = numbers_of (done t d).answer })) (done t d).table
  next_deed (made r) = next_request r
  next_deed (tried r) = rw (tried_tells l r (numbers_of (previewed t r).answer)) A

-- ---- every list of deeds

agrees_list : (o : Opening) (ds : List Deed) (l : Line) (t : Table) → Agrees o l t → Agrees o (foldl told_by l (history t ds)) (after t ds)
unfolding history after
agrees_list o [] l t A = A
agrees_list o (d ∷ ds) l t A = agrees_list o ds _ _ (next_deed o l t A d)

-- on the table that an accepted opening made
pub agrees : (o : Opening) (t : Table) → open_step o ≡ outcome (Ok Zeros) t → (ds : List Deed)
    → Agrees o (told o (history t ds)) (after t ds)
unfolding told
agrees o t opens ds =
    let σ = settings_of o in
    rw (open_made o t opens).1
    (agrees_list o ds (opened o) (empty_table σ) (record { opening = refl; settings = settings_given o; sized = sized_empty σ; trains = refl; lined = tt }))
