-- Document 01, "What is turned down" and "The session program": one line of a session, its answer and the state after it.
use Rattle.std.specs.Prelude.{Bool, false, ◌||◌, ℕ, List, eqb, Option, Some, None}
use Rattle.calls.specs.declared.Request.{Request}
use Rattle.calls.specs.declared.Refusal.TheVariants.{BadLine}
use Rattle.calls.specs.Answers.{numbers_of}
use Rattle.table.specs.declared.Table.{Table}
use Rattle.table.specs.Table.{changed}
use Rattle.line.specs.declared.Decision.{Decision}
use Rattle.line.specs.Decide.{refused, decided}
use Rattle.line.specs.Step.{no_table}
use Rattle.wire.specs.Format.{line_read}
use Rattle.stream.specs.declared.Session.{Session}
use Rattle.stream.specs.declared.Reply.{Reply}

-- The state between lines: opened or not, and the table. Before an accepted opening there is none: zeros stand for it.
abbrev pub session : Bool → Table → Session
session o t = record { opened = o; table = t }

abbrev pub closed : Session
closed = session false no_table

-- what is decided of a line: 1 line unreadable, then what is decided of its request
unfoldable pub line_decision : Session → Option Request → Decision
line_decision s (Some r) = decided s.opened s.table r
line_decision s None = refused BadLine

-- Answer 0 is acceptance: from then on the session is open. A refusal changes nothing.
abbrev pub replied : Session → Decision → Reply
replied s d =
    let n = numbers_of d.answer in
    record { answer = n; session = session (s.opened || eqb n.number 0) (changed s.table d.change) }

-- the answer to a line without its line feed
abbrev pub answered : Session → List ℕ → Reply
answered s line = replied s (line_decision s (line_read line))
