use Prim.Native.Nat.{ℕ, ◌+◌, ◌-◌, ◌≤◌}
use Rattle.motion_code.specs.declared.Vehicle.{Vehicle}
use Rattle.caps_code.specs.declared.Gap.{Gap}
use Rattle.caps_code.specs.Search.{Closing}
use Rattle.caps_code.proofs.Trials.{trials_left}
use Rattle.caps_code.proofs.close_in.Given as goal

pub record Between (train : Vehicle) (goal : ℕ) (start gap : Gap) (trials : ℕ) : Type 0 where
  pub sides : Closing train goal gap
  pub within : gap.high ≤ start.high
  pub few : trials + trials_left trials (gap.high - gap.low - 1) ≤ 25

abbrev pub invariant-loop-gap : goal.invariant-loop-gap
invariant-loop-gap l = Between l.train l.goal l.initial.gap l.gap l.trials

abbrev pub decreases-loop-gap : goal.decreases-loop-gap
decreases-loop-gap l = trials_left l.trials (l.gap.high - l.gap.low - 1)
