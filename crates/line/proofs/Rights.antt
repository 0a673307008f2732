-- Document 02, (iii), in its words: what a caller without the right learns, and that no right is lost.
-- Assumes nothing.
use Rattle.std.specs.Prelude.{Option, None, Some, Ok, Err}
use Rattle.brake.specs.declared.Figures.{Figures}
use Prim.Native.Nat.{ℕ}
use mathlib.Core.Bool.{Bool, true, false, not}
use mathlib.Core.List.{List}
use mathlib.Core.Path.{◌≡◌, refl, sym, ap, ◌∙◌}
use native.Mathlib.Omega.{arith}
use lib.Dec.{eqb}
use borrow.Author.Tests.{eq-eqb, not-true}
use Rattle.logic.proofs.Tests.{by_test, not_both}
use Rattle.calls.specs.declared.Opening.{Opening}
use Rattle.calls.specs.declared.Act.{Act}
use Rattle.calls.specs.declared.Act.TheVariants.{Report, Extend, CallBack, Hold, Lift}
use Rattle.calls.specs.declared.Call.{Call}
use Rattle.calls.specs.declared.Call.TheVariants.{Enter, Own, TakeOff}
use Rattle.calls.specs.declared.Ask.{Ask}
use Rattle.calls.specs.declared.Ask.TheVariants.{Open, OnTable}
use Rattle.calls.specs.declared.Request.{Request}
use Rattle.calls.specs.declared.Refusal.{Refusal}
use Rattle.calls.specs.declared.Refusal.TheVariants.{NoRight}
use Rattle.calls.specs.declared.Values.{Values}
use Rattle.calls.specs.declared.Values.TheVariants.{Zeros}
use Rattle.calls.specs.Answers.{refusal_number, numbers_of}
use Rattle.calls.specs.Checks.{Check, first_of}
use Rattle.calls.specs.Requests.{request}
use Rattle.rights.specs.Rights.{may_ask}
use Rattle.calls.proofs.Answers.{accepted_0}
use Rattle.calls.proofs.Checks.{each, refused_by}
use Rattle.rights.proofs.Callers.{Right}
use Rattle.rights.proofs.Rights.{right_exactly, no_right}
use Rattle.train.specs.Record.{figures_for}
use Rattle.table.specs.declared.Table.{Table}
use Rattle.table.specs.declared.Change.{Change}
use Rattle.table.specs.Table.{place_of}
use Rattle.line.specs.declared.Outcome.{Outcome}
use Rattle.line.specs.Decide.{judged, open_decision, enter_checks, enter_decision, ruling_at, act_decision, take_off_decision, named, decide_on, out_of_turn, decided}
use Rattle.line.specs.Step.{outcome, requested, no_table, open_step}
use Rattle.line.proofs.Steps.{step}

-- ---- without the right

-- 16 "caller without the right", and the table stays: whatever the table is, and whatever else is wrong
pub call_16 : (n : ℕ) (c : Call) → (Right n (OnTable c) → ⊥) → (t : Table) → requested true t (request n (OnTable c)) ≡ outcome (Err NoRight) t
unfolding decided
call_16 n c lacks t = rw (no_right n (OnTable c) lacks)

pub open_16 : (n : ℕ) (o : Opening) → (Right n (Open o) → ⊥) → (t : Table) → requested false t (request n (Open o)) ≡ outcome (Err NoRight) t
unfolding decided
open_16 n o lacks t = rw (no_right n (Open o) lacks)

-- "A caller without the right learns the same, be the train on the line or not": on any two tables
pub learns_the_same : (r : Request) → (Right r.caller r.ask → ⊥) → (opened : Bool) (t u : Table) → (decided opened t r).answer ≡ (decided opened u r).answer
unfolding decided
learns_the_same r lacks opened t u = by_test (out_of_turn opened r.ask) (λ e. rw e) (λ e. rw (e, no_right r.caller r.ask lacks))

-- ---- with the right

-- the call is answered as document 01 says, and does what it says
pub call_rightful : (n : ℕ) (c : Call) → Right n (OnTable c) → (t : Table) → requested true t (request n (OnTable c)) ≡ step t c
unfolding decided step
call_rightful n c has t = rw ((right_exactly n (OnTable c)).1 has)

pub open_rightful : (n : ℕ) (o : Opening) → Right n (Open o) → requested false no_table (request n (Open o)) ≡ open_step o
unfolding decided decide_on open_step
open_rightful n o has = rw ((right_exactly n (Open o)).1 has)

-- an accepted opening: its caller had the right, and it did what an opening does
pub opened_by : (n : ℕ) (o : Opening) (t : Table) → requested false no_table (request n (Open o)) ≡ outcome (Ok Zeros) t
    → Right n (Open o) × (open_step o ≡ outcome (Ok Zeros) t)
opened_by n o t opened =
    by_test (may_ask n (Open o))
    (λ may. let has = (right_exactly n (Open o)).0 may in (has, sym (open_rightful n o has) ∙ opened))
    (λ lacks.
    let turned_away = sym (open_16 n o (λ has. not_both ((right_exactly n (Open o)).1 has) lacks) no_table) ∙ opened in
    let number : ◌≡◌ {A = ℕ} 16 0 = ap (λ (u : Outcome). (numbers_of u.answer).number) turned_away in absurd (omega arith))

-- ---- 16 for want of the right alone

abbrev not16 : Refusal → Bool
not16 r = not (eqb (refusal_number r) 16)

judged_16 : (cs : List Check) (v : Values) (c : Change) → each not16 cs ≡ true → (numbers_of (judged (first_of cs) v c).answer).number ≡ 16 → ⊥
judged_16 cs v c others = go (first_of cs) refl
  where
    go : (o : Option Refusal) → first_of cs ≡ o → (numbers_of (judged o v c).answer).number ≡ 16 → ⊥
    go None e = λ is. let accepts = accepted_0 v in omega arith
    go (Some r) e = λ is. not_both (eq-eqb (refusal_number r) 16 is) (not-true _ (refused_by not16 cs others r e))

act_16 : (t : Table) (i : ℕ) (a : Act) → each not16 (ruling_at t a i).checks ≡ true
act_16 t i (Report r) = refl
act_16 t i (Extend q) = refl
act_16 t i (CallBack p) = refl
act_16 t i Hold = refl
act_16 t i Lift = refl

ask_16 : (t : Table) (a : Ask) → (numbers_of (decide_on t a).answer).number ≡ 16 → ⊥
unfolding decide_on open_decision enter_decision act_decision take_off_decision
ask_16 t (Open o) = judged_16 _ _ _ refl
ask_16 t (OnTable (Enter e)) = go (figures_for t.settings e)
  where
    go : (f : Option Figures) → (numbers_of (enter_decision t e f).answer).number ≡ 16 → ⊥
    go None = λ is. omega arith
    go (Some k) = judged_16 (enter_checks t e k) _ _ refl
ask_16 t (OnTable (Own id a)) = go (place_of t id)
  where
    go : (f : Option ℕ) → (numbers_of (named f (act_decision t a)).answer).number ≡ 16 → ⊥
    go None = λ is. omega arith
    go (Some i) = judged_16 _ _ _ (act_16 t i a)
ask_16 t (OnTable (TakeOff id)) = go (place_of t id)
  where
    go : (f : Option ℕ) → (numbers_of (named f (take_off_decision t)).answer).number ≡ 16 → ⊥
    go None = λ is. omega arith
    go (Some i) = judged_16 _ _ _ refl

-- a caller with the right is never answered 16
pub never_16 : (opened : Bool) (t : Table) (r : Request) → Right r.caller r.ask → (numbers_of (decided opened t r).answer).number ≡ 16 → ⊥
unfolding decided
never_16 opened t r has =
    let may = (right_exactly r.caller r.ask).1 has in
    by_test (out_of_turn opened r.ask) (λ e. rw (may, e) (λ is. omega arith)) (λ e. rw (may, e) (ask_16 t r.ask))
