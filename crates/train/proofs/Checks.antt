-- What the check of an accepted report says of the train.
-- Assumes nothing.
use Prim.Native.Nat.{◌≤◌}
use mathlib.Core.Bool.{true, false, not}
use mathlib.Core.Path.{◌≡◌, refl}
use borrow.Author.Tests.{not-false}
use Rattle.motion.proofs.Domination.{NoWorse}
use Rattle.calls.specs.declared.Reading.{Reading}
use Rattle.train.specs.declared.Settings.{Settings}
use Rattle.train.specs.declared.Train.{Train}
use Rattle.train.specs.Report.{worst_of, allowed, motion_after, report_allowed}
use Rattle.train.proofs.Records.{within_worst, report_passed}

pub report_allowed_lem : (σ : Settings) (x : Train) (r : Reading) → not (report_allowed σ x r) ≡ false → allowed x r ≡ true
report_allowed_lem σ x r e = (report_passed σ x r (not-false _ e)).allows

module _ (x : Train) (r : Reading) (e : allowed x r ≡ true) where
  pub allowed_head : x.motion.head ≤ r.head
  allowed_head = ((within_worst x r).0 e).0

  pub allowed_no_worse : NoWorse (motion_after x r) (worst_of x)
  allowed_no_worse = let (onward, near, slow) = (within_worst x r).0 e in record { head = near; speed = slow; level = refl }
