-- `caps_code::stop_read` meets its contract: the level read in each cycle is the brake's, and the run is summed up by its speeds.
use native.Mathlib.Omega.{arith}
use Rattle.motion_code.proofs.Summing.{summed_on}
use Rattle.caps.proofs.Levels.{entry_next}
use Rattle.caps_code.proofs.stop_read.Goals as goal

pub loop-level-preserved : goal.loop-level-preserved
loop-level-preserved c =
    let l = c.loop-level in
    let read = c.requires.1.entry l.level-index (omega arith) in
    summed_on l.invariant (cc) (cc) (entry_next c.args.k l.level-index)
