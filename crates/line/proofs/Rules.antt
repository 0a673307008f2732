-- What document 01 says of the calls, in its words: which are taken, exactly, and what each leaves. In numbers and in the fields of records.
-- `step` and `open_decision` are what a call comes to by a caller with the right (Rights: call_rightful, open_rightful).
-- Assumes nothing.
use Rattle.std.specs.Prelude.{None, Some, Option, Result, Ok, Err}
use Prim.Native.Nat.{ℕ, ◌*◌, ◌≤◌, ◌<◌}
use mathlib.Core.Bool.{Bool, true, false, ◌&&◌}
use mathlib.Core.Logic.{by_cases, ◌⊎◌, inl, inr}
use mathlib.Core.Path.{◌≡◌, refl, ap, ◌∙◌}
use native.Mathlib.Decide.{dec_le}
use native.Mathlib.Omega.{arith}
use Rattle.logic.proofs.Tests.{by_test, both}
use Rattle.ranges.specs.Ranges.{id_in_range, start_in_range}
use Rattle.ranges.proofs.Sentences.{train_id, starting_number}
use Rattle.brake.specs.declared.Figures.{Figures}
use Rattle.brake.proofs.Sentences.{PerCar, loaded, empty, unknown, Described, figures_exactly, no_figures_exactly}
use Rattle.motion.specs.declared.Order.TheVariants.{Brake}
use Rattle.calls.specs.declared.Opening.{Opening}
use Rattle.calls.specs.declared.Entry.{Entry}
use Rattle.calls.specs.declared.Act.{Act}
use Rattle.calls.specs.declared.Call.{Call}
use Rattle.calls.specs.declared.Call.TheVariants.{Enter, Own, TakeOff}
use Rattle.calls.specs.declared.Ask.{Ask}
use Rattle.calls.specs.declared.Ask.TheVariants.{Open, OnTable}
use Rattle.calls.specs.declared.Request.{Request}
use Rattle.calls.specs.declared.Refusal.{Refusal}
use Rattle.calls.specs.declared.Refusal.TheVariants.{OutOfTurn, BadSetting, BadEntry, OnLine, LineFull, BadHead, NoTrain, NotLeaving}
use Rattle.calls.specs.declared.Values.{Values}
use Rattle.calls.specs.declared.Values.TheVariants.{Entered, Zeros}
use Rattle.calls.specs.Answers.{numbers_of}
use Rattle.calls.specs.Requests.{request}
use Rattle.calls.proofs.Answers.{accepted_0}
use Rattle.rights.specs.Rights.{may_ask}
use Rattle.train.specs.declared.Train.{Train}
use Rattle.train.specs.Ranges.{settings_in_range, WorksWith}
use Rattle.train.specs.Record.{figures_for}
use Rattle.train.specs.Track.{steps_of}
use Rattle.acts.specs.Acts.{may_leave}
use Rattle.acts.specs.Decide.{decide, verdict}
use Rattle.train.proofs.Track.{InLimit, limit_beyond, limit_within}
use Rattle.train.proofs.Records.{settings_given}
use Rattle.train.proofs.Sentences.{Offers, settings_exactly}
use Rattle.acts.proofs.Sentences.{leaves_exactly}
use Rattle.table.specs.declared.Table.{Table}
use Rattle.table.specs.declared.Change.{Change}
use Rattle.table.specs.declared.Change.TheVariants.{Stay, Add, DropFirst, Anew}
use Rattle.table.specs.Table.{place_of, train_at, limit_at, changed}
use Rattle.table.proofs.Places.{FoundAt}
use Rattle.line.specs.declared.Decision.{Decision}
use Rattle.line.specs.Decide.{refused, accepted, open_decision, enter_decision, ruling_at, decide_on, out_of_turn, decided}
use Rattle.line.specs.Step.{outcome, carried_out, requested, open_step}
use Rattle.line.proofs.Steps.{step, any_call, open_taken, open_refused, open_made, enter_unfit, enter_fit, enter_bad, enter_known, enter_full, enter_short, enter_beyond, enter_taken, own_unknown, take_off_unknown, placed, own_found, take_off_refused, take_off_taken}

-- ---- what these laws speak with

pub outcome_made : (a : Result Values Refusal) (t : Table) → outcome a t ≡ record { answer = a; table = t }
outcome_made a t = refl

pub refused_made : (r : Refusal) → refused r ≡ record { answer = Err r; change = Stay }
refused_made r = refl

pub accepted_made : (v : Values) (c : Change) → accepted v c ≡ record { answer = Ok v; change = c }
accepted_made v c = refl

-- ---- a refusal gives its number and zeros, and the whole table stays

-- an answer that accepts, or a refusal that changes nothing
abbrev pub Kept : Decision → Type 0
Kept d = ((numbers_of d.answer).number ≡ 0) ⊎ ((numbers_of d.answer ≡ record { number = (numbers_of d.answer).number; first = 0; second = 0; third = 0 }) × (d.change ≡ Stay))

module _ (opened : Bool) (t : Table) (r : Request) where
  -- before an accepted opening and after one, whoever calls
  pub decision_kept : Kept (decided opened t r)
  unfolding decided decide_on
  decision_kept =
      by_test (out_of_turn opened r.ask)
      (λ e. rw e (inr (refl, refl)))
      (λ e. by_test (may_ask r.caller r.ask) (λ may. rw (e, may) (rightful r.ask)) (λ lacks. rw (e, lacks) (inr (refl, refl))))
    where
      on_table : (c : Call) → Kept (decide_on t (OnTable c))
      on_table =
          any_call t (λ c d. Kept d)
          (record {
            refuses = λ c r. inr (refl, refl);
            enters = λ e k a. inl refl;
            acts = λ id i a q passes. inl (accepted_0 (ruling_at t a i).gives);
            leaves = λ id i q may. inl refl;
          })

      rightful : (a : Ask) → Kept (decide_on t a)
      rightful (Open o) = by_test (settings_in_range o) (λ e. rw (open_taken o e) (inl refl)) (λ e. rw (open_refused o e) (inr (refl, refl)))
      rightful (OnTable c) = on_table c

  pub refusal_keeps : let n = numbers_of (requested opened t r).answer in (n.number ≡ 0 → ⊥)
      → (n ≡ record { number = n.number; first = 0; second = 0; third = 0 }) × ((requested opened t r).table ≡ t)
  refusal_keeps refuses = keeps (decided opened t r) decision_kept refuses
    where
      keeps : (d : Decision) → Kept d → ((numbers_of d.answer).number ≡ 0 → ⊥)
          → (numbers_of d.answer ≡ record { number = (numbers_of d.answer).number; first = 0; second = 0; third = 0 }) × (changed t d.change ≡ t)
      keeps d (inl e) refuses = absurd (refuses e)
      keeps d (inr (zeros, stays)) refuses = (zeros, ap (changed t) stays)

-- ---- out of turn

-- 2 "call before an accepted opening", whoever calls
pub call_2 : (t : Table) (n : ℕ) (c : Call) → decided false t (request n (OnTable c)) ≡ refused OutOfTurn
unfolding decided
call_2 t n c = refl

-- 2 "or an opening after one"
pub open_2 : (t : Table) (n : ℕ) (o : Opening) → decided true t (request n (Open o)) ≡ refused OutOfTurn
unfolding decided
open_2 t n o = refl

-- ---- open

-- 3 "a setting out of range"
pub open_3 : (o : Opening) → (Offers o → ⊥) → open_decision o ≡ refused BadSetting
open_3 o out = by_test (settings_in_range o) (λ e. absurd (out ((settings_exactly o).0 e))) (λ e. open_refused o e)

-- "makes a new table with these settings and no train"
pub open_accepted : (o : Opening) → Offers o → open_decision o ≡ accepted Zeros (Anew o)
open_accepted o f = open_taken o ((settings_exactly o).1 f)

pub opened_with : (o : Opening) (t : Table) → open_step o ≡ outcome (Ok Zeros) t → Offers o × WorksWith o t.settings × (t.count ≡ 0)
opened_with o t opened = let made = open_made o t opened in rw made.1 ((settings_exactly o).0 made.0, settings_given o, refl)

-- ---- enter

-- "train id 1 to 65,535; length 1 to 10,000 ft; starting number may be 0"; load classes 1, 2, 3
pub record Enters (e : Entry) : Type 0 where
  pub id : (1 ≤ e.id) × (e.id ≤ 65535)
  pub length : (1 ≤ e.length) × (e.length ≤ 10000)
  pub load : (1 ≤ e.load) × (e.load ≤ 3)
  pub start : e.start ≤ 4294967295

class_listed : {load force mass : ℕ} → PerCar load force mass → (1 ≤ load) × (load ≤ 3)
class_listed loaded = (omega arith, omega arith)
class_listed empty = (omega arith, omega arith)
class_listed unknown = (omega arith, omega arith)

module _ (t : Table) (e : Entry) where
  entered : (d : Decision) → decide_on t (OnTable (Enter e)) ≡ d → step t (Enter e) ≡ carried_out t d
  unfolding step
  entered d q = ap (carried_out t) q

  -- 4 "id, length, load class or starting number out of range"
  pub enter_4 : (Enters e → ⊥) → step t (Enter e) ≡ outcome (Err BadEntry) t
  enter_4 out = go (figures_for t.settings e) refl
    where
      go : (f : Option Figures) → figures_for t.settings e ≡ f → step t (Enter e) ≡ outcome (Err BadEntry) t
      go None f = entered _ (enter_unfit t e f)
      go (Some k) f =
          by_test (id_in_range e.id && start_in_range e.start)
          (λ ranged.
          let tests = both (id_in_range e.id) (start_in_range e.start) ranged in
          let d = (figures_exactly e.load e.length k).0 f in
          absurd (out (record { id = (train_id e.id).0 tests.0; length = (d.shortest, d.longest); load = class_listed d.per_car; start = ((starting_number e.start).0 tests.1).1 })))
          (λ bad. entered _ (enter_bad t e bad))

  module _ (r : Enters e) where
    ranged : (id_in_range e.id && start_in_range e.start) ≡ true
    ranged = rw ((train_id e.id).1 r.id, (starting_number e.start).1 (omega arith, r.start))

    -- whatever its figures, and it has some
    whatever_figures : (d : Decision) → ((k : Figures) → enter_decision t e (Some k) ≡ d) → step t (Enter e) ≡ carried_out t d
    whatever_figures d q = go (figures_for t.settings e) refl
      where
        go : (f : Option Figures) → figures_for t.settings e ≡ f → step t (Enter e) ≡ carried_out t d
        go None f = absurd ((no_figures_exactly e.load e.length).0 f (r.length.0, r.length.1, r.load.0, r.load.1))
        go (Some k) f = entered d (enter_fit t e k f ∙ q k)

    -- 5 "id on the line already"
    pub enter_5 : (i : ℕ) → place_of t e.id ≡ Some i → step t (Enter e) ≡ outcome (Err OnLine) t
    enter_5 i known = whatever_figures _ (λ k. enter_known t e k ranged i known)

    module _ (absent : place_of t e.id ≡ None) where
      -- 6 "32 trains on the line"
      pub enter_6 : 32 ≤ t.count → step t (Enter e) ≡ outcome (Err LineFull) t
      enter_6 full = whatever_figures _ (λ k. enter_full t e k ranged absent full)

      module _ (free : t.count < 32) where
        -- 7 "entering head not in its range": "the head must be at least the length and at most the limit"
        pub enter_7 : (e.head < 6096000 * e.length) ⊎ (InLimit (limit_at t t.count) e.head → ⊥) → step t (Enter e) ≡ outcome (Err BadHead) t
        unfolding steps_of
        enter_7 (inl short) = whatever_figures _ (λ k. enter_short t e k ranged absent free short)
        enter_7 (inr far) =
            by_cases (dec_le (6096000 * e.length) e.head)
            (λ long. whatever_figures _ (λ k. enter_beyond t e k ranged absent free long (limit_beyond (limit_at t t.count) e.head far)))
            (λ short. whatever_figures _ (λ k. enter_short t e k ranged absent free (omega arith)))

        -- "behind the last train, standing; end = head, order brake, level B, not held, and a starting request number for this stay"
        pub enter_accepted : (k : Figures) → Described e.load e.length k → 6096000 * e.length ≤ e.head → InLimit (limit_at t t.count) e.head
            → let x : Train =
            record {
              id = e.id;
              length = e.length;
              figures = k;
              motion = record { head = e.head; speed = 0; level = k.full };
              order = Brake;
              authority = record { end = e.head; goal = e.head; start = e.start; number = e.start; length = 0 };
              marks = record { held = false; penalty = false };
            } in
            step t (Enter e) ≡ outcome (Ok (Entered k.full k.growth e.head)) (changed t (Add x))
        unfolding steps_of
        enter_accepted k d long near =
            entered _
            (enter_fit t e k ((figures_exactly e.load e.length k).1 d)
            ∙ enter_taken t e k ranged absent free long (limit_within (limit_at t t.count) e.head near))

-- ---- a call that names a train

-- 8 "no such train"
pub own_8 : (t : Table) (id : ℕ) (a : Act) → place_of t id ≡ None → step t (Own id a) ≡ outcome (Err NoTrain) t
unfolding step
own_8 t id a none_found = ap (carried_out t) (own_unknown t id a none_found)

pub take_off_8 : (t : Table) (id : ℕ) → place_of t id ≡ None → step t (TakeOff id) ≡ outcome (Err NoTrain) t
unfolding step
take_off_8 t id none_found = ap (carried_out t) (take_off_unknown t id none_found)

module _ (t : Table) (id i : ℕ) (found : place_of t id ≡ Some i) where
  at_place : FoundAt t (place_of t id) i (limit_at t i) (train_at t i)
  at_place = record { place = found; limited = refl; here = refl }

  -- an act is answered by its verdict on the record at that place
  pub own_step : (a : Act) (v : Result (Values × Train) Refusal) → verdict (decide t.settings (limit_at t i) (train_at t i) a) ≡ v → step t (Own id a) ≡ carried_out t (placed i v)
  unfolding step
  own_step a v e = ap (carried_out t) (own_found t id i _ _ at_place a) ∙ ap (λ (w : Result (Values × Train) Refusal). carried_out t (placed i w)) e

  -- 15 "train not first, or not standing under brake"
  pub take_off_15 : ((i ≡ 0) × ((train_at t i).motion.speed ≡ 0) × ((train_at t i).order ≡ Brake) → ⊥) → step t (TakeOff id) ≡ outcome (Err NotLeaving) t
  unfolding step
  take_off_15 not_so =
      by_test (may_leave i (train_at t i))
      (λ e. absurd (not_so ((leaves_exactly i (train_at t i)).0 e)))
      (λ e. ap (carried_out t) (take_off_refused t id i _ _ at_place e))

  -- "the first train, standing under brake"
  pub take_off_accepted : i ≡ 0 → (train_at t i).motion.speed ≡ 0 → (train_at t i).order ≡ Brake → step t (TakeOff id) ≡ outcome (Ok Zeros) (changed t DropFirst)
  unfolding step
  take_off_accepted first standing braked =
      ap (carried_out t) (take_off_taken t id i _ _ at_place ((leaves_exactly i (train_at t i)).1 (first, standing, braked)))
