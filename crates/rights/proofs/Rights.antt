-- Document 02, (iii), said a second time, by caller and in numbers: who may call what, and nobody else. A right that is given or lost in the
-- definition and in the code alike is refused here.
-- Assumes nothing.
use Prim.Native.Nat.{ℕ, ◌<◌}
use mathlib.Core.Bool.{true, false}
use mathlib.Core.Logic.{◌↔◌}
use mathlib.Core.Path.{◌≡◌, refl, sym, subst}
use native.Mathlib.Omega.{arith}
use lib.Dec.{eqb}
use borrow.Author.Tests.{eq-eqb, eqb-true}
use Rattle.logic.proofs.Tests.{by_test}
use Rattle.ranges.proofs.Sentences.{train_id}
use Rattle.calls.specs.declared.Act.TheVariants.{Report, Extend, CallBack, Hold, Lift}
use Rattle.calls.specs.declared.Call.TheVariants.{Enter, Own, TakeOff}
use Rattle.calls.specs.declared.Ask.{Ask}
use Rattle.calls.specs.declared.Ask.TheVariants.{Open, OnTable}
use Rattle.rights.specs.Rights.{may_ask}
use Rattle.rights.proofs.Callers.{Right, reports, extends, opens, calls_back, holds, lifts, enters, takes_off, itself}

-- the one caller with this number
only : (m n : ℕ) (a : Ask) → Right m a → (eqb n m ≡ true) → Right n a
only m n a right e = subst (λ (k : ℕ). Right k a) (sym (eqb-true n m e)) right

has : (n : ℕ) (a : Ask) → may_ask n a ≡ true → Right n a
unfolding may_ask
has n (Open o) = only 0 n _ opens
has n (OnTable (Enter e)) = only 70000 n _ enters
has n (OnTable (Own id (Report r))) = itself id n _ reports
has n (OnTable (Own id (Extend q))) = itself id n _ extends
has n (OnTable (Own id (CallBack p))) = only 0 n _ calls_back
has n (OnTable (Own id Hold)) = only 0 n _ holds
has n (OnTable (Own id Lift)) = only 0 n _ lifts
has n (OnTable (TakeOff id)) = only 70000 n _ takes_off

may : (n : ℕ) (a : Ask) → Right n a → may_ask n a ≡ true
unfolding may_ask
may n a (reports low high) = rw ((train_id n).1 (low, high), eq-eqb n n refl)
may n a (extends low high) = rw ((train_id n).1 (low, high), eq-eqb n n refl)
may n a opens = refl
may n a calls_back = refl
may n a holds = refl
may n a lifts = refl
may n a enters = refl
may n a takes_off = refl

pub right_exactly : (n : ℕ) (a : Ask) → (may_ask n a ≡ true) ↔ Right n a
right_exactly n a = (has n a, may n a)

pub no_right : (n : ℕ) (a : Ask) → (Right n a → ⊥) → may_ask n a ≡ false
no_right n a lacks = by_test (may_ask n a) (λ e. absurd (lacks (has n a e))) (λ e. e)

-- any other number has no right to anything
pub nobody : (n : ℕ) → 65535 < n → (n ≡ 70000 → ⊥) → (a : Ask) → Right n a → ⊥
nobody n above other a (reports low high) = omega arith
nobody n above other a (extends low high) = omega arith
nobody n above other a opens = omega arith
nobody n above other a calls_back = omega arith
nobody n above other a holds = omega arith
nobody n above other a lifts = omega arith
nobody n above other a enters = other refl
nobody n above other a takes_off = other refl
