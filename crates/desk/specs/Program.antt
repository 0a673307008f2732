-- What the desk does with a piece of its input.
use Rattle.std.specs.Prelude.{ℕ, ◌≤◌, ◌≡◌, List}
use Rattle.stream.specs.declared.Stream.{Stream}
use Rattle.stream.specs.Input.{lines, rest, begun, kept_width, kept}
use Rattle.desk_line.specs.Desk.{desk_after}

-- A piece of the input takes the stream x to the stream y: the state is the one after the lines that the piece ends, and of the line that has
-- begun the first bytes are kept, as in the session.
pub record DeskTurn (x : Stream) (piece : List ℕ) (y : Stream) : Type 0 where
  pub session : y.session ≡ desk_after x.session (lines (begun x) piece)
  pub begins : begun y ≡ kept (rest (begun x) piece)
  pub bounded : y.count ≤ kept_width
