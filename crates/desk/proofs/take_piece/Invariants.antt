use lib.ListN.{length}
use Rattle.desk.proofs.Turns.{Taking}
use Rattle.desk.proofs.take_piece.Given as goal

abbrev pub invariant-loop-part : goal.invariant-loop-part
invariant-loop-part l = Taking l.fn.x l.piece l.x l.rest

abbrev pub decreases-loop-part : goal.decreases-loop-part
decreases-loop-part l = length l.rest
