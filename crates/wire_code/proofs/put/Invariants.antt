use Rattle.wire_code.proofs.Texts.{Writing}
use Rattle.wire_code.proofs.put.Given as goal

abbrev pub invariant-loop-i : goal.invariant-loop-i
invariant-loop-i l = Writing l.width l.n l.field l.i l.rest
