-- What the program does with its input. No contract can say which bytes `read` gives. So these speak of some input, of as many bytes as
-- were read.
use Rattle.std.specs.Prelude.{ℕ, zero, suc, ◌+◌, ◌^◌, ◌≤◌, ◌≡◌, Bool, true, false, List, [], ◌++◌, length, take, Option, Some, None, IfSome, IsSome, unwrap_or}
use Rattle.stream.specs.declared.Stream.{Stream}
use Rattle.stream.specs.Session.{closed}
use Rattle.stream.specs.Input.{lines, after, output, begun, answers_to, Turn, Turns}
use Rattle.session.specs.declared.TheConstants.{PIECE}
use Rattle.session.specs.declared.Stop.{Stop}
use Rattle.session.specs.declared.Stop.TheVariants.{Ended, NotRead, NotWritten, Full}

-- Turns took in as many bytes as were read, and led from the stream x to the stream y.
pub record TookIn (x : Stream) (read : ℕ) (y : Stream) : Type 0 where
  pub input : List ℕ
  pub answered : List ℕ
  pub turns : Turns x input y answered
  pub count : length input ≡ read

-- It is full only where the count of bytes has no room for a piece more.
abbrev pub Stopped : Stop → ℕ → Type 0
Stopped how read = how ≡ Full → 2 ^ 64 ≤ read + PIECE

-- A whole session: the turns began at a start, and led to the state after the lines of the input. Where the input ended, what they
-- answered and the last bytes after it are its output, also where those could not be written. Where it has not ended, there are no last bytes: a
-- line that has begun is not answered. That it stopped at the end is told only where the input ended.
pub record Whole (read : ℕ) (how : Stop) (last : Option (List ℕ)) : Type 0 where
  pub x : Stream
  pub y : Stream
  pub session : x.session ≡ closed
  pub begins : begun x ≡ []
  pub took : TookIn x read y
  pub state : y.session ≡ after closed (lines [] took.input)
  pub all : IfSome last (λ l. took.answered ++ l ≡ output took.input)
  pub told : how ≡ Ended → IsSome last

-- ---- words of inner contracts

-- One read: it takes the stream x to the stream y, and the answers to the lines that it ends stand at the front of out. One that failed
-- took in nothing.
pub record ReadOnce (x : Stream) (read : Option ℕ) (answered : ℕ) (y : Stream) (piece out : List ℕ) : Type 0 where
  pub within : unwrap_or read 0 ≤ length piece
  pub turn : Turn x (take (unwrap_or read 0) piece) y
  pub room : answered ≤ length out
  pub answers : take answered out ≡ answers_to x (take (unwrap_or read 0) piece)

-- What follows a turn: a stop where the read failed, where it came to the end of the input, or where the answers were not written.
abbrev pub next_after : Option ℕ → Bool → Option Stop
next_after None written = Some NotRead
next_after (Some zero) written = Some Ended
next_after (Some (suc n)) false = Some NotWritten
next_after (Some (suc n)) true = None

-- What follows the last answer: the stop at the end of the input, where it was written.
abbrev pub stop_after_last : Bool → Stop
stop_after_last true = Ended
stop_after_last false = NotWritten
