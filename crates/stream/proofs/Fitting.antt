-- Every answer of a session fits the columns of its output line, so that the line shows it whole. Assumes nothing.
use Rattle.std.specs.Prelude.{None, Some, Option, Result, Ok, Err}
use Rattle.calls.specs.declared.Request.{Request}
use Prim.Native.Nat.{ℕ, ◌≤◌}
use mathlib.Core.Path.{◌≡◌, sym, subst}
use mathlib.Core.Bool.{Bool, true, false}
use mathlib.Core.Logic.{◌⊎◌, inl, inr}
use mathlib.Core.List.{List, [], ◌∷◌}
use native.Mathlib.Nat.{le_refl, le_trans}
use native.Mathlib.Omega.{arith}
use lib.Dec.{eqb}
use Rattle.logic.proofs.Tests.{by_test}
use Rattle.ranges.specs.Ranges.{greatest_line_end, greatest_traction}
use Rattle.brake.specs.declared.Figures.{Figures}
use Rattle.brake.proofs.Consist.{given_sound}
use Rattle.motion.specs.declared.Order.{Order}
use Rattle.motion.specs.declared.Order.TheVariants.{Drive, Brake}
use Rattle.motion.specs.Orders.{order_cap}
use Rattle.calls.specs.declared.Opening.{Opening}
use Rattle.calls.specs.declared.Entry.{Entry}
use Rattle.calls.specs.declared.Act.{Act}
use Rattle.calls.specs.declared.Call.{Call}
use Rattle.calls.specs.declared.Ask.{Ask}
use Rattle.calls.specs.declared.Ask.TheVariants.{Open, OnTable}
use Rattle.calls.specs.declared.Refusal.{Refusal}
use Rattle.calls.specs.declared.Refusal.TheVariants.{BadSetting, NoRight}
use Rattle.calls.specs.declared.Values.{Values}
use Rattle.calls.specs.declared.Values.TheVariants.{Entered, Ordered, Extended, Zeros}
use Rattle.calls.specs.declared.Numbers.{Numbers}
use Rattle.calls.specs.Answers.{numbers_of}
use Rattle.calls.specs.Checks.{first_of}
use Rattle.calls.specs.Requests.{request}
use Rattle.rights.specs.Rights.{dispatcher, may_ask}
use Rattle.calls.proofs.Answers.{refusal_range}
use Rattle.train.specs.Ranges.{settings_in_range}
use Rattle.train.proofs.Track.{InLimit}
use Rattle.table.specs.declared.Table.{Table}
use Rattle.table.specs.Table.{place_of, limit_at}
use Rattle.table.proofs.Places.{found_below}
use Rattle.line.specs.Decide.{open_decision, ruling_at, decide_on, decided}
use Rattle.line.specs.Step.{outcome, open_step}
use Rattle.line.proofs.Steps.{Admitted, any_call, any_request, open_taken, open_refused}
use Rattle.safety.specs.History as History
use Rattle.safety.proofs.Acts.{Within, ruling_on, act_kept}
use Rattle.safety.proofs.Bounds.{limit_on_line, tells, left_ranges}
use Rattle.wire.specs.Format.{answer_columns, numbers_in, line_read, answer_text}
use Rattle.wire.proofs.RoundTrip.{Fits, answer_read}
use Rattle.stream.specs.declared.Session.{Session}
use Rattle.stream.specs.Session.{session, closed, line_decision, answered}
use Rattle.stream.specs.Input.{after}
use Rattle.stream.specs.Demand3.{deeds_in, Opened}
use Rattle.stream.proofs.Safe.{session_safe}

-- ---- answers

-- the four numbers of an answer, in the order of its columns
abbrev pub shown_by : Numbers → List ℕ
shown_by a = a.number ∷ a.first ∷ a.second ∷ a.third ∷ []

abbrev Shown : Result Values Refusal → Type 0
Shown a = Fits answer_columns (shown_by (numbers_of a))

-- the answer to every line in the state s
abbrev AllShown : Session → Type 0
AllShown s = (r : Option Request) → Shown (line_decision s r).answer

refused_shown : (r : Refusal) → Shown (Err r)
refused_shown r = let range = refusal_range r in omega arith

ordered_shown : (o : Order) (r : ℕ) → order_cap o ≤ greatest_traction → r ≤ greatest_line_end → Shown (Ok (Ordered o r))
ordered_shown (Drive c) r h k = omega arith
ordered_shown Brake r h k = omega arith

extended_shown : (e : ℕ) (repeat : Bool) → e ≤ greatest_line_end → Shown (Ok (Extended e repeat))
extended_shown e true h = omega arith
extended_shown e false h = omega arith

-- ---- a call on a table that calls left

module _ (o : Opening) (t : Table) (opened : open_step o ≡ outcome (Ok Zeros) t) (ds : List History.Deed) where
  abbrev left : Table
  left = History.after t ds

  -- a place within the limit of the train at place i, or of one that enters there
  limit_fits : (i : ℕ) → i ≤ left.count → (place : ℕ) → InLimit (limit_at left i) place → place ≤ greatest_line_end
  limit_fits i h place limited = le_trans (limit_on_line o t opened ds i h place limited) (left_ranges o t opened ds).end

  enter_shown : (e : Entry) (k : Figures) → Admitted left e k → Shown (Ok (Entered k.full k.growth e.head))
  enter_shown e k a =
      let head = limit_fits left.count (le_refl _) e.head a.near in
      let sound = given_sound e.load e.length k a.figures in
      omega arith

  -- what an act gives is bounded by the settings and the limit
  within_shown : (i : ℕ) → i ≤ left.count → (v : Values) → Within left.settings (limit_at left i) v → Shown (Ok v)
  within_shown i h (Entered full growth e) w = absurd w
  within_shown i h (Ordered o r) w = ordered_shown o r (le_trans w.0 (left_ranges _ t opened ds).traction) (limit_fits i h r w.1)
  within_shown i h (Extended e repeat) w = extended_shown e repeat (limit_fits i h e w)
  within_shown i h Zeros w = omega arith

  act_shown : (id i : ℕ) (a : Act) → place_of left id ≡ Some i → first_of (ruling_at left a i).checks ≡ None → Shown (Ok (ruling_at left a i).gives)
  act_shown id i a q e =
      let below = found_below left id i q in
      let p = tells o t opened ds i below in
      let kept = act_kept left.settings (limit_at left i) p.train p.steady a (rw p.here at e) in
      rw p.here (within_shown i (omega arith) (ruling_on left.settings (limit_at left i) p.train p.steady a).gives kept.within)

  call_shown : (c : Call) → Shown (decide_on left (OnTable c)).answer
  call_shown =
      any_call left (λ c d. Shown d.answer)
      (record { refuses = λ c r. refused_shown r; enters = enter_shown; acts = act_shown; leaves = λ id i q may. omega arith })

  opened_shown : AllShown (session true left)
  unfolding line_decision
  opened_shown (Some r) = any_request left (λ r d. Shown d.answer) (λ r why. refused_shown why) (λ r c asks. call_shown c) r
  opened_shown None = omega arith

-- ---- a line

opening_shown : (o : Opening) → Shown (open_decision o).answer
opening_shown o =
    by_test (settings_in_range o)
    (λ ok. rw (open_taken o ok) (omega arith))
    (λ bad. rw (open_refused o bad) (refused_shown BadSetting))

closed_shown : AllShown closed
unfolding line_decision decided decide_on may_ask
closed_shown (Some r) = go r.ask
  where
    go : (a : Ask) → Shown (line_decision closed (Some (request r.caller a))).answer
    go (Open o) = by_test (eqb r.caller dispatcher) (λ right. rw right (opening_shown o)) (λ lacks. rw lacks (refused_shown NoRight))
    go (OnTable c) = omega arith
closed_shown None = omega arith

all_shown : (ls : List (List ℕ)) → (after closed ls ≡ closed) ⊎ Opened ls → AllShown (after closed ls)
all_shown ls (inl e) = subst AllShown (sym e) closed_shown
all_shown ls (inr o) = subst AllShown (sym o.now) (opened_shown o.given o.table o.accepted (deeds_in o.since))

-- the answer to the line l after the lines ls
abbrev pub answer_after : List (List ℕ) → List ℕ → Numbers
answer_after ls l = (answered (after closed ls) l).answer

-- Whatever the lines, every number of an answer fits its columns.
pub answers_fit : (ls : List (List ℕ)) (l : List ℕ) → Fits answer_columns (shown_by (answer_after ls l))
answers_fit ls l = all_shown ls (session_safe ls) (line_read l)

-- So an output line, read by its columns, gives the four numbers of the answer.
pub answer_shown : (ls : List (List ℕ)) (l : List ℕ) → numbers_in answer_columns (answer_text (answer_after ls l)) ≡ Some (shown_by (answer_after ls l))
answer_shown ls l = answer_read (answer_after ls l) (answers_fit ls l)
