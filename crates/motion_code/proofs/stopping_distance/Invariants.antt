use Rattle.motion.specs.Motion.{enough_cycles}
use Rattle.motion_code.proofs.Summing.{Summed}
use Rattle.motion_code.proofs.stopping_distance.Given as goal

abbrev pub invariant-loop-speeds : goal.invariant-loop-speeds
invariant-loop-speeds l = Summed l.k l.v l.b l.speeds l.speed l.level

abbrev pub decreases-loop-speeds : goal.decreases-loop-speeds
decreases-loop-speeds l = enough_cycles l.k l.speed l.level
