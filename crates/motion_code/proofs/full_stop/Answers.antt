-- `motion_code::full_stop` meets its contract: full brake stays full, and the run is summed up by its speeds.
use mathlib.Core.Path.{sym}
use native.Mathlib.Omega.{arith}
use Rattle.motion.proofs.Sentences.{level_full}
use Rattle.motion_code.proofs.Summing.{summed_on}
use Rattle.motion_code.proofs.full_stop.Goals as goal

pub loop-speeds-preserved : goal.loop-speeds-preserved
loop-speeds-preserved c =
    summed_on c.loop-speeds.invariant (cc) c.brake_speed-speed.ensures (sym (level_full c.args.k c.args.k.full (omega arith)))
