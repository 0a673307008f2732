-- Document 01, "Authorities" and "What is turned down", and document 02, (iii): a request on a table is decided. The decision is the
-- answer and what changes in the table, for every table and every number.
use Rattle.std.specs.Prelude.{ℕ, Bool, cond, not, ◌&&◌, List, [], ◌∷◌, leb, Option, None, Some, is_some, Ok, Err}
use Rattle.ranges.specs.Ranges.{id_in_range, start_in_range}
use Rattle.brake.specs.declared.Figures.{Figures}
use Rattle.calls.specs.declared.Opening.{Opening}
use Rattle.calls.specs.declared.Entry.{Entry}
use Rattle.calls.specs.declared.Act.{Act}
use Rattle.calls.specs.declared.Call.TheVariants.{Enter, Own, TakeOff}
use Rattle.calls.specs.declared.Ask.{Ask}
use Rattle.calls.specs.declared.Ask.TheVariants.{Open, OnTable}
use Rattle.calls.specs.declared.Request.{Request}
use Rattle.calls.specs.declared.Refusal.{Refusal}
use Rattle.calls.specs.declared.Refusal.TheVariants.{OutOfTurn, BadSetting, BadEntry, OnLine, LineFull, BadHead, NoTrain, NotLeaving, NoRight}
use Rattle.calls.specs.declared.Values.{Values}
use Rattle.calls.specs.declared.Values.TheVariants.{Entered, Zeros}
use Rattle.calls.specs.Checks.{Check, check, first_of}
use Rattle.rights.specs.Rights.{may_ask}
use Rattle.train.specs.Ranges.{settings_in_range}
use Rattle.train.specs.Record.{figures_for, entering}
use Rattle.train.specs.Track.{steps_of, within_limit}
use Rattle.acts.specs.Acts.{may_leave}
use Rattle.acts.specs.Decide.{Ruling, decide}
use Rattle.table.specs.declared.Table.{Table}
use Rattle.table.specs.declared.Change.{Change}
use Rattle.table.specs.declared.Change.TheVariants.{Stay, Put, Add, DropFirst, Anew}
use Rattle.table.specs.Table.{places, place_of, train_at, limit_at}
use Rattle.line.specs.declared.Decision.{Decision}

-- A refusal gives its number and zeros; the whole table stays.
abbrev pub refused : Refusal → Decision
refused r = record { answer = Err r; change = Stay }

abbrev pub accepted : Values → Change → Decision
accepted v c = record { answer = Ok v; change = c }

-- the first check that applies is the answer; where none does, the call is accepted
abbrev pub judged : Option Refusal → Values → Change → Decision
judged None v c = accepted v c
judged (Some r) v c = refused r

-- Open: 3, and a new table with no train
unfoldable pub open_decision : Opening → Decision
open_decision o = judged (first_of (check (not (settings_in_range o)) BadSetting ∷ [])) Zeros (Anew o)

-- Enter, with figures k: 4, 5, 6, 7. Length and load class out of range are 4 too: they have no figures.
abbrev pub enter_checks : Table → Entry → Figures → List Check
enter_checks t e k =
    check (not (id_in_range e.id && start_in_range e.start)) BadEntry
    ∷ check (is_some (place_of t e.id)) OnLine
    ∷ check (leb places t.count) LineFull
    ∷ check (not (leb (steps_of e.length) e.head && within_limit (limit_at t t.count) e.head)) BadHead
    ∷ []

unfoldable pub enter_decision : Table → Entry → Option Figures → Decision
enter_decision t e None = refused BadEntry
enter_decision t e (Some k) = judged (first_of (enter_checks t e k)) (Entered k.full k.growth e.head) (Add (entering e k))

-- what an act of the train at place i comes to
abbrev pub ruling_at : Table → Act → ℕ → Ruling
ruling_at t a i = decide t.settings (limit_at t i) (train_at t i) a

-- Report, extend, call back, hold, lift
unfoldable pub act_decision : Table → Act → ℕ → Decision
act_decision t a i = judged (first_of (ruling_at t a i).checks) (ruling_at t a i).gives (Put i (ruling_at t a i).after)

-- Take off: 15
unfoldable pub take_off_decision : Table → ℕ → Decision
take_off_decision t i = judged (first_of (check (not (may_leave i (train_at t i))) NotLeaving ∷ [])) Zeros DropFirst

-- a call that names a train: 8, or what is decided of the train at its place
abbrev pub named : Option ℕ → (ℕ → Decision) → Decision
named None d = refused NoTrain
named (Some i) d = d i

-- what is asked of a table
unfoldable pub decide_on : Table → Ask → Decision
decide_on t (Open o) = open_decision o
decide_on t (OnTable (Enter e)) = enter_decision t e (figures_for t.settings e)
decide_on t (OnTable (Own id a)) = named (place_of t id) (act_decision t a)
decide_on t (OnTable (TakeOff id)) = named (place_of t id) (take_off_decision t)

-- 2 call before an accepted opening, or an opening after one
abbrev pub out_of_turn : Bool → Ask → Bool
out_of_turn opened (Open o) = opened
out_of_turn opened (OnTable c) = not opened

-- a request, before an accepted opening or after one: 2, 16 caller without the right, then what is asked
unfoldable pub decided : Bool → Table → Request → Decision
decided opened t r =
    cond (out_of_turn opened r.ask) (refused OutOfTurn)
    (cond (may_ask r.caller r.ask) (decide_on t r.ask) (refused NoRight))
