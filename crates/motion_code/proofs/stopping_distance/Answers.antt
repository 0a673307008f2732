-- `motion_code::stopping_distance` meets its contract: while the level grows the run is summed up by its speeds, and what is left from full brake
-- on is `full_stop`'s.
use mathlib.Core.Path.{sym}
use native.Mathlib.Omega.{arith}
use Rattle.motion.proofs.Sentences.{level_grows, level_full}
use Rattle.motion_code.proofs.Summing.{summed_on}
use Rattle.motion_code.proofs.stopping_distance.Goals as goal

pub loop-speeds-preserved : goal.loop-speeds-preserved
loop-speeds-preserved c =
    summed_on c.loop-speeds.invariant (cc) c.brake_speed-speed.ensures (sym (level_grows c.args.k c.loop-speeds.level (omega arith)))

pub returns-then-k-level : goal.returns-then-k-level
returns-then-k-level c =
    let l = c.loop-speeds in
    let full = summed_on l.invariant (cc) c.brake_speed-speed.ensures (sym (level_full c.args.k l.level (omega arith))) in
    omega (arith, full.left)
