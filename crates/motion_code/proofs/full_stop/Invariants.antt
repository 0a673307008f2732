use Rattle.motion.specs.Motion.{enough_cycles}
use Rattle.motion_code.proofs.Summing.{Summed}
use Rattle.motion_code.proofs.full_stop.Given as goal

abbrev pub invariant-loop-speeds : goal.invariant-loop-speeds
invariant-loop-speeds l = Summed l.k l.v l.k.full l.speeds l.speed l.k.full

abbrev pub decreases-loop-speeds : goal.decreases-loop-speeds
decreases-loop-speeds l = enough_cycles l.k l.speed l.k.full
