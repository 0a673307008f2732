-- Decide, then change: the answer and the table after it.
use Rattle.std.specs.Prelude.{Bool, Result}
use Rattle.calls.specs.declared.Refusal.{Refusal}
use Rattle.calls.specs.declared.Values.{Values}
use Rattle.calls.specs.declared.Opening.{Opening}
use Rattle.calls.specs.declared.Request.{Request}
use Rattle.train.specs.Ranges.{settings_of}
use Rattle.table.specs.declared.Table.{Table}
use Rattle.table.specs.Table.{empty_table, changed}
use Rattle.line.specs.declared.Decision.{Decision}
use Rattle.line.specs.declared.Outcome.{Outcome}
use Rattle.line.specs.Decide.{open_decision, decided}

abbrev pub outcome : Result Values Refusal → Table → Outcome
outcome a t = record { answer = a; table = t }

abbrev pub carried_out : Table → Decision → Outcome
carried_out t d = outcome d.answer (changed t d.change)

-- a request, before an accepted opening or after one
abbrev pub requested : Bool → Table → Request → Outcome
requested opened t r = carried_out t (decided opened t r)

-- An opening takes no table. Refused, it makes none: zeros stand for one.
abbrev pub no_table : Table
no_table = empty_table (settings_of (record { end = 0; safety = 0; ceiling = 0; traction = 0 }))

-- what an opening comes to, by the dispatcher
unfoldable pub open_step : Opening → Outcome
open_step o = carried_out no_table (open_decision o)
