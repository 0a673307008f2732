-- `desk::take_piece` meets its contract. What a turn of its loop does is a law in Turns.
use mathlib.Core.Path.{refl}
use Rattle.desk.proofs.Turns.{none_taken, line_answered, piece_taken}
use Rattle.desk.proofs.take_piece.Goals as goal

pub loop-part-init : goal.loop-part-init
loop-part-init c = record { taken = _; all = refl; turn = none_taken c.args.x.now c.requires }

pub loop-part-preserved : goal.loop-part-preserved
loop-part-preserved c =
    line_answered _ _ _ _ c.loop-part.invariant _ _ _ _ c.in-Some.ensures c.push_all-n.ensures.0 c.push_all-n.ensures.1 _ c.take_line-so_far.ensures

pub returns : goal.returns
returns c = piece_taken _ _ _ _ c.loop-part.invariant _ _ c.in_default.ensures c.push_all-x.ensures.0 c.push_all-x.ensures.1
