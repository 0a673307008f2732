use Rattle.motion_code.proofs.Summing.{Summed}
use Rattle.caps.specs.Levels.{level_entry}
use Rattle.caps_code.proofs.stop_read.Given as goal

abbrev pub invariant-loop-level : goal.invariant-loop-level
invariant-loop-level l = Summed l.k l.v 0 l.speeds l.speed (level_entry l.k l.level-index)
