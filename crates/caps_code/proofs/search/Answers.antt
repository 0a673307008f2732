-- `caps_code::search` meets its contract: what is listed goes as far as the run from the cap high, and so as far as that of any cap below it.
use native.Mathlib.Omega.{arith}
use Rattle.caps_code.proofs.Trials.{listed_below}
use Rattle.caps_code.proofs.search.Goals as goal

pub trial-kept-requires : goal.trial-kept-requires
trial-kept-requires c =
    let train = c.args.train in
    let listed = rw c.drive_speed-fastest.ensures at c.list_levels-n.ensures.listed in
    (omega arith, listed_below train.motion.speed train.bounded.figures (omega arith) listed)
