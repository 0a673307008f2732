-- What the desk writes for a line: the session's columns, and then the record that is shown.
use Rattle.std.specs.Prelude.{ℕ, ◌+◌, Bool, cond, List, [], ◌∷◌, ◌++◌, leb, length, replicate}
use Rattle.motion.specs.Orders.{order_number, order_cap}
use Rattle.calls.specs.Answers.{numbers_of}
use Rattle.train.specs.declared.Train.{Train}
use Rattle.line.specs.declared.Shown.{Shown}
use Rattle.wire.specs.Format.{total, answer_width, text_of, answer_text}
use Rattle.stream.specs.declared.Session.{Session}
use Rattle.stream.specs.Input.{over}
use Rattle.desk_line.specs.Desk.{desk_answered}

-- a mark as a number
abbrev pub mark_number : Bool → ℕ
mark_number b = cond b 1 0

-- id, length, B, j, head, speed, level, 1 drive or 2 brake, cap (0 with brake), end, starting number, last number, its length, held, penalty,
-- and the place that a pending call back wants, or the end where none is pending
abbrev pub record_numbers : Train → List ℕ
record_numbers x =
    x.id
    ∷ x.length
    ∷ x.figures.full
    ∷ x.figures.growth
    ∷ x.motion.head
    ∷ x.motion.speed
    ∷ x.motion.level
    ∷ order_number x.order
    ∷ order_cap x.order
    ∷ x.authority.end
    ∷ x.authority.start
    ∷ x.authority.number
    ∷ x.authority.length
    ∷ mark_number x.marks.held
    ∷ mark_number x.marks.penalty
    ∷ x.authority.goal
    ∷ []

-- each in 14 columns
abbrev pub record_columns : List ℕ
record_columns = replicate 16 14

-- an output line, with its line feed
unfoldable pub desk_line : Shown → List ℕ
desk_line w = (answer_text (numbers_of w.answer) ++ text_of record_columns (record_numbers w.train)) ++ (10 ∷ [])

-- for each input line one output line
unfoldable pub desk_answers : Session → List (List ℕ) → List ℕ
desk_answers s [] = []
desk_answers s (l ∷ ls) = desk_line (desk_answered s l).shown ++ desk_answers (desk_answered s l).session ls

-- ---- in a buffer

-- so a line has 269 bytes
abbrev pub desk_width : ℕ
desk_width = answer_width + total record_columns + 1

-- room in the buffer out for it
abbrev pub desk_room : List ℕ → Bool
desk_room out = leb desk_width (length out)

-- out with that line written over its first bytes; without room it stays
abbrev pub desk_written : Shown → List ℕ → List ℕ
desk_written w out = cond (desk_room out) (over (desk_line w) out) out
