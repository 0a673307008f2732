-- Lemmas that the check tries by itself where a function names them: `#[tactic(auto, using(..))]` in src/.
use Rattle.motion.proofs.Runs.{stop_stands, stop_cycle}
use Rattle.motion.proofs.Bounds.{drive_travel_fits, stop_fits}
use Rattle.motion.proofs.Orders.{reach_mono}
use Rattle.caps.proofs.Levels.{entry_none, read_stop}
use Rattle.caps_code.proofs.Trials.{drive_speed_fits, fewer_above, fewer_below, trials_most}

-- of a run whose levels are read from the list
pub ruleset reading = (entry_none, read_stop, stop_stands, stop_cycle, stop_fits)

-- of a trial, which reads it
pub ruleset trying = (drive_travel_fits, drive_speed_fits, read_stop, stop_fits)

-- of a search whose two ends close in
pub ruleset closing = (reach_mono, fewer_above, fewer_below, trials_most)
