-- `caps_code::close_in` meets its contract: low keeps the goal, high does not, and the two close in until one follows the other.
-- The measure is the number of trials that are left: at most 25 (Trials: trials_most).
use Prim.Native.Nat.{◌≤◌}
use native.Mathlib.Omega.{arith}
use Rattle.motion.proofs.Orders.{reach_mono}
use Rattle.caps_code.proofs.Trials.{listed_below, found}
use Rattle.caps_code.proofs.close_in.Goals as goal

pub trial-tried-requires : goal.trial-tried-requires
trial-tried-requires c =
    let train = c.args.train in
    let below : c.next_cap-c.result ≤ c.args.start.high = omega (arith, c.next_cap-c.ensures.below, c.loop-gap.invariant.within) in
    (omega (arith, c.requires.0.below.cap), listed_below train.motion.speed train.bounded.figures below c.requires.1)

-- the cap after low is high, which does not keep the goal
pub returns : goal.returns
returns c = grind (arith, reach_mono, found)
