-- `stream_code::feed` meets its contract.
use Rattle.std.proofs.Common.{refl, sym}
use borrow.Author.Tests.{le-leb, lt-leb}
use Rattle.stream.specs.Input.{has_room}
use Rattle.stream_code.proofs.feed.Goals as goal

pub returns-then-out-piece : goal.returns-then-out-piece
unfolding has_room
returns-then-out-piece c = record { taken = sym (lt-leb _ _ c.if-out-piece.true); so = record { stream = refl; written = refl } }

pub returns : goal.returns
unfolding has_room
returns c = record { taken = sym (le-leb _ _ c.if-out-piece.false); so = c.feed_all.ensures }
