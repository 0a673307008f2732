use Rattle.std.proofs.Common.{◌-◌}
use Rattle.session.specs.Program.{TookIn}
use Rattle.session.proofs.run.Given as goal

-- the turns so far took in the bytes that are counted
abbrev pub invariant-loop-read : goal.invariant-loop-read
invariant-loop-read l = TookIn l.fn.x l.read l.x

abbrev pub decreases-loop-read : goal.decreases-loop-read
decreases-loop-read l = 18446744073709551615 - l.read
