-- Document 01, "The session program": a whole input and its output. Then the same where the input comes in pieces.
use Rattle.std.specs.Prelude.{ℕ, ◌+◌, ◌/◌, ◌≡◌, Bool, cond, List, [], ◌∷◌, ◌++◌, eqb, leb, length, take, drop, Option, Some, None, is_some, IfSome}
use Rattle.calls.specs.declared.Numbers.{Numbers}
use Rattle.calls.specs.Answers.{numbers}
use Rattle.wire.specs.Format.{call_width, answer_width, answer_text}
use Rattle.stream.specs.declared.Session.{Session}
use Rattle.stream.specs.declared.Stream.{Stream}
use Rattle.stream.specs.Session.{closed, answered}

-- ---- the whole input

-- its lines, each without its line feed, where the bytes `begun` came before it
unfoldable pub lines : List ℕ → List ℕ → List (List ℕ)
lines begun [] = []
lines begun (b ∷ bs) = cond (eqb b 10) (begun ∷ lines [] bs) (lines (begun ++ (b ∷ [])) bs)

-- what stands after its last line feed
unfoldable pub rest : List ℕ → List ℕ → List ℕ
rest begun [] = begun
rest begun (b ∷ bs) = cond (eqb b 10) (rest [] bs) (rest (begun ++ (b ∷ [])) bs)

-- the state after lines, each answered in the state that the one before it left
unfoldable pub after : Session → List (List ℕ) → Session
after s [] = s
after s (l ∷ ls) = after (answered s l).session ls

unfoldable pub output_line : Numbers → List ℕ
output_line a = answer_text a ++ (10 ∷ [])

-- for each input line one output line
unfoldable pub answers : Session → List (List ℕ) → List ℕ
answers s [] = []
answers s (l ∷ ls) = output_line (answered s l).answer ++ answers (answered s l).session ls

-- a last line without its line feed is answer 1; nothing after the last line feed is no line
unfoldable pub last_answer : List ℕ → List ℕ
last_answer [] = []
last_answer (b ∷ bs) = output_line (numbers 1 0 0 0)

-- all that a session writes on an input
abbrev pub output : List ℕ → List ℕ
output input = answers closed (lines [] input) ++ last_answer (rest [] input)

-- ---- in pieces

-- the line that has begun: the bytes since the last line feed
abbrev pub begun : Stream → List ℕ
begun x = take x.count x.bytes

-- only the first are kept, one more than a call's line has: a longer line is unreadable, whatever follows
abbrev pub kept_width : ℕ
kept_width = call_width + 1

abbrev pub kept : List ℕ → List ℕ
kept l = take kept_width l

-- an output line with its line feed
abbrev pub output_width : ℕ
output_width = answer_width + 1

-- room for an output line for each byte of the piece, since each may be a line feed
unfoldable pub has_room : List ℕ → List ℕ → Bool
has_room piece out = leb (length piece) (length out / output_width)

-- the bytes w written over the first of out
abbrev pub over : List ℕ → List ℕ → List ℕ
over w out = w ++ drop (length w) out

-- the answers to the lines that a piece ends, from the stream x on
abbrev pub answers_to : Stream → List ℕ → List ℕ
answers_to x piece = answers x.session (lines (begun x) piece)

-- A turn: a piece of the input takes the stream x to the stream y.
pub record Turn (x : Stream) (piece : List ℕ) (y : Stream) : Type 0 where
  pub session : y.session ≡ after x.session (lines (begun x) piece)
  pub begins : begun y ≡ kept (rest (begun x) piece)

-- Taken: the lines that the piece ends are answered, in n bytes; out holds their output lines, and after these what it held before.
pub record Taken (x : Stream) (piece out : List ℕ) (n : ℕ) (y : Stream) (now : List ℕ) : Type 0 where
  pub turn : Turn x piece y
  pub written : now ≡ over (answers_to x piece) out
  pub count : n ≡ length (answers_to x piece)

-- Not taken, for want of room: nothing is altered, neither the stream nor out.
pub record Left (x : Stream) (out : List ℕ) (y : Stream) (now : List ℕ) : Type 0 where
  pub stream : y ≡ x
  pub written : now ≡ out

abbrev pub TakenOrLeft : Option ℕ → Stream → List ℕ → List ℕ → Stream → List ℕ → Type 0
TakenOrLeft (Some n) x piece out y now = Taken x piece out n y now
TakenOrLeft None x piece out y now = Left x out y now

-- What `feed` promises of the stream x, a piece of the input and the buffer out before it, of what it gives back, and of the stream y and the
-- buffer after it. It gives the number of bytes that were written, or nothing where the piece is not taken.
pub record FeedPromise (x : Stream) (piece out : List ℕ) (r : Option ℕ) (y : Stream) (now : List ℕ) : Type 0 where
  pub taken : is_some r ≡ has_room piece out
  pub so : TakenOrLeft r x piece out y now

-- What `finish` writes where the end of the input is taken.
abbrev pub last_written : Bool → Stream → List ℕ
last_written taken x = cond taken (last_answer (begun x)) []

-- What `finish` promises of the stream x, the buffer out before and after it, and what it gives back: the number of bytes that were written.
-- Without room for the answer to a last line the end of the input is not taken, and nothing is altered.
pub record FinishPromise (x : Stream) (out : List ℕ) (r : Option ℕ) (now : List ℕ) : Type 0 where
  pub taken : is_some r ≡ leb (length (last_answer (begun x))) (length out)
  pub written : now ≡ over (last_written (is_some r) x) out
  pub count : IfSome r (λ n. n ≡ length (last_answer (begun x)))

-- Turn after turn from the stream x on: the bytes that were taken in, the stream after them, and all that was answered.
pub data Turns (x : Stream) : List ℕ → Stream → List ℕ → Type 0 where
  no_turns : Turns x [] x []
  more : {input : List ℕ} {y : Stream} {w piece : List ℕ} {z : Stream} → Turns x input y w → Turn y piece z
      → Turns x (input ++ piece) z (w ++ answers_to y piece)
