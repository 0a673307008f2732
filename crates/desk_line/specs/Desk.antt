-- A line at the desk: what it asks, what is shown of it, and the state after it. Its columns are those of a line of the session.
use Rattle.std.specs.Prelude.{ℕ, ◌-◌, not, cond, ◌&&◌, List, [], ◌∷◌, leb, set, Option, None, Some, option_map, option_and_then}
use Rattle.calls.specs.declared.Request.{Request}
use Rattle.calls.specs.declared.Refusal.TheVariants.{BadLine, OutOfTurn}
use Rattle.calls.specs.Requests.{at, request_of}
use Rattle.line.specs.declared.Shown.{Shown}
use Rattle.line.specs.Decide.{refused, decided}
use Rattle.line.specs.Preview.{shown, needs_opening, previewed}
use Rattle.wire.specs.Format.{row_in}
use Rattle.stream.specs.declared.Session.{Session}
use Rattle.stream.specs.Session.{replied}
use Rattle.desk_line.specs.declared.DeskAsk.{DeskAsk}
use Rattle.desk_line.specs.declared.DeskAsk.TheVariants.{Made, Tried}
use Rattle.desk_line.specs.declared.DeskReply.{DeskReply}

-- ---- what a line asks

-- the calls of the desk: codes 1 to 8 are the session's
abbrev pub desk_call : List ℕ → Option Request
desk_call row = request_of row

-- code 50 + c previews call c
unfoldable pub desk_ask : List ℕ → Option DeskAsk
desk_ask row = cond (leb 50 (at row 0)) (option_map Tried (desk_call (set row 0 (at row 0 - 50)))) (option_map Made (desk_call row))

-- a line without its line feed; some ask nothing
unfoldable pub desk_read : List ℕ → Option DeskAsk
desk_read line = option_and_then desk_ask (row_in line)

-- ---- what it comes to

-- the answer, and the record of the train that it names
unfoldable pub shown_at : Session → Option DeskAsk → Shown
shown_at s (Some (Made r)) = shown (decided s.opened s.table r)
-- 2: before an accepted opening there is no table to try a call on
shown_at s (Some (Tried r)) = cond (not s.opened && needs_opening r.ask) (shown (refused OutOfTurn)) (previewed s.table r)
-- 1
shown_at s None = shown (refused BadLine)

-- the state after it: only a request that is made changes it
unfoldable pub left_at : Session → Option DeskAsk → Session
left_at s (Some (Made r)) = (replied s (decided s.opened s.table r)).session
left_at s (Some (Tried r)) = s
left_at s None = s

abbrev pub desk_answered : Session → List ℕ → DeskReply
desk_answered s line = record { shown = shown_at s (desk_read line); session = left_at s (desk_read line) }

-- the state after lines, each answered in the state that the one before it left
unfoldable pub desk_after : Session → List (List ℕ) → Session
desk_after s [] = s
desk_after s (l ∷ ls) = desk_after (desk_answered s l).session ls
