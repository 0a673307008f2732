-- `train_code::vehicle_of` meets its contract: the test that a record is computable is that of the bounds.
use native.Mathlib.Omega.{arith}
use Rattle.motion.proofs.Bounds.{bounded_cap}
use Rattle.train.proofs.Records.{computable_bounded}
use Rattle.train_code.proofs.vehicle_of.Goals as goal

pub invariant_of-result : goal.invariant_of-result
invariant_of-result c = record { bounded = bounded_cap (computable_bounded _ c.requires) (omega arith) }

pub returns-clause-cap : goal.returns-clause-cap
returns-clause-cap c = (computable_bounded _ c.requires).cap
