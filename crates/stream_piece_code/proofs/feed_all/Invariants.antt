use Rattle.std.proofs.Common.{length}
use Rattle.stream_piece_code.proofs.Feeding.{Feeding}
use Rattle.stream_piece_code.proofs.feed_all.Given as goal

abbrev pub invariant-loop-part : goal.invariant-loop-part
invariant-loop-part l = Feeding l.fn.x l.fn.piece l.fn.out l.x l.out l.at l.rest

abbrev pub decreases-loop-part : goal.decreases-loop-part
decreases-loop-part l = length l.rest
