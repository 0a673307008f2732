-- What the checks of an accepted call say of the train that it names.
-- Assumes nothing.
use Prim.Native.Nat.{ℕ, ◌≤◌}
use mathlib.Core.Bool.{true, false, not}
use mathlib.Core.Path.{◌≡◌}
use borrow.Author.Tests.{not-false}
use Rattle.train.specs.declared.Train.{Train}
use Rattle.acts.specs.Acts.{call_back_allowed, may_leave}
use Rattle.acts.proofs.CallBacks.{call_back_between}
use Rattle.acts.proofs.Sentences.{leaves_exactly}

pub call_back_allowed_lem : (x : Train) (place : ℕ) → not (call_back_allowed x place) ≡ false → (x.motion.head ≤ place) × (place ≤ x.authority.end)
call_back_allowed_lem x place e = call_back_between x place (not-false _ e)

pub first_leaves : (i : ℕ) (x : Train) → may_leave i x ≡ true → i ≡ 0
first_leaves i x e = ((leaves_exactly i x).0 e).0
