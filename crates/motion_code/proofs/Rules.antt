-- Lemmas that the check tries by itself where a function names them: `#[tactic(auto, using(..))]` in src/.
use Rattle.motion.proofs.Sentences.{level_grows, level_full}
use Rattle.motion.proofs.Cycles.{travel_speeds, moved_before}
use Rattle.motion.proofs.Runs.{stop_stands, stop_cycle, fewer}
use Rattle.motion.proofs.Bounds.{braking_on, stop_fits, worst_head, worst_braking}

-- of a run, summed up cycle by cycle
pub ruleset summing = (travel_speeds, stop_cycle, stop_stands, stop_fits, braking_on, level_grows, level_full, fewer, moved_before)

-- of the worst case of an order, and the stop after it
pub ruleset reaching = (worst_head, worst_braking, stop_fits)
