-- Which places a call back may name, in numbers. Apart from the laws that rest on it (Sentences), so that a wrong test is refused here.
-- Assumes nothing.
use Prim.Native.Nat.{ℕ, ◌≤◌}
use mathlib.Core.Bool.{true}
use mathlib.Core.Path.{◌≡◌}
use Rattle.logic.proofs.Tests.{both}
use Rattle.ranges.specs.Ranges.{between}
use Rattle.ranges.proofs.Ranges.{between_exactly}
use Rattle.train.specs.declared.Train.{Train}
use Rattle.train.specs.Report.{computable}
use Rattle.acts.specs.Acts.{call_back_allowed}

pub call_back_between : (x : Train) (place : ℕ) → call_back_allowed x place ≡ true → (x.motion.head ≤ place) × (place ≤ x.authority.end)
unfolding call_back_allowed
call_back_between x place e = (between_exactly x.motion.head x.authority.end place).0 (both (computable x) _ e).1

pub call_back_computes : (x : Train) (place : ℕ) → call_back_allowed x place ≡ true → computable x ≡ true
unfolding call_back_allowed
call_back_computes x place e = (both (computable x) _ e).0

pub call_back_tested : (x : Train) (place : ℕ) → computable x ≡ true → call_back_allowed x place ≡ between x.motion.head x.authority.end place
unfolding call_back_allowed
call_back_tested x place e = rw e
