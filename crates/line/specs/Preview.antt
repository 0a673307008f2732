-- Document 02, (v): what would happen. A preview gives the answer that the call would get on a copy of the table, and the record of the train
-- that it names as the copy would hold it. A decision has both, so no table is copied, and none comes back.
use Rattle.std.specs.Prelude.{Bool, true, false}
use Rattle.calls.specs.declared.Ask.{Ask}
use Rattle.calls.specs.declared.Ask.TheVariants.{Open, OnTable}
use Rattle.calls.specs.declared.Request.{Request}
use Rattle.train.specs.declared.Train.{Train}
use Rattle.table.specs.declared.Table.{Table}
use Rattle.table.specs.declared.Change.{Change}
use Rattle.table.specs.declared.Change.TheVariants.{Stay, Put, Add, DropFirst, Anew}
use Rattle.table.specs.Table.{blank_train}
use Rattle.line.specs.declared.Decision.{Decision}
use Rattle.line.specs.declared.Shown.{Shown}
use Rattle.line.specs.Decide.{decided}

-- the record that a change leaves of the train that was named
abbrev pub shown_by : Change → Train
-- a refused call shows zeros, drive with cap 0 as the order
shown_by Stay = blank_train
shown_by (Put i x) = x
shown_by (Add x) = x
-- and so do a taking off and a call naming no train
shown_by DropFirst = blank_train
shown_by (Anew o) = blank_train

abbrev pub shown : Decision → Shown
shown d = record { answer = d.answer; train = shown_by d.change }

-- whether an opening has to come before what is asked
abbrev pub needs_opening : Ask → Bool
needs_opening (Open o) = false
needs_opening (OnTable c) = true

-- A preview of a request, by its caller's right. None comes out of turn: an opening makes a table of its own, and is tried as the first one,
-- whatever table there is; any other call is tried on the table t.
abbrev pub previewed : Table → Request → Shown
previewed t r = shown (decided (needs_opening r.ask) t r)
