-- Document 02, (iii), by caller and in numbers: who has which right, and that a train's own number lies in the range of ids. Apart from the laws
-- that rest on it (Rights), so that a wrong test is refused here.
-- Assumes nothing.
use Prim.Native.Nat.{ℕ, ◌≤◌}
use mathlib.Core.Bool.{true}
use mathlib.Core.Path.{◌≡◌, sym, subst}
use native.Mathlib.Omega.{arith}
use borrow.Author.Tests.{eqb-true}
use Rattle.logic.proofs.Tests.{both}
use Rattle.ranges.specs.Ranges.{id_in_range}
use Rattle.ranges.proofs.Sentences.{train_id}
use Rattle.calls.specs.declared.Opening.{Opening}
use Rattle.calls.specs.declared.Entry.{Entry}
use Rattle.calls.specs.declared.Reading.{Reading}
use Rattle.calls.specs.declared.Extension.{Extension}
use Rattle.calls.specs.declared.Act.TheVariants.{Report, Extend, CallBack, Hold, Lift}
use Rattle.calls.specs.declared.Call.TheVariants.{Enter, Own, TakeOff}
use Rattle.calls.specs.declared.Ask.{Ask}
use Rattle.calls.specs.declared.Ask.TheVariants.{Open, OnTable}
use Rattle.rights.specs.Rights.{is_train}

-- the caller with this number has the right to what is asked
pub data Right : ℕ → Ask → Type 0 where
  -- "1 to 65535 the train of that id": "A train may report and extend for itself only"
  reports : {id : ℕ} {r : Reading} → 1 ≤ id → id ≤ 65535 → Right id (OnTable (Own id (Report r)))
  extends : {id : ℕ} {q : Extension} → 1 ≤ id → id ≤ 65535 → Right id (OnTable (Own id (Extend q)))
  -- "0 dispatcher": "the dispatcher opens, calls back, holds and lifts"
  opens : {o : Opening} → Right 0 (Open o)
  calls_back : {id place : ℕ} → Right 0 (OnTable (Own id (CallBack place)))
  holds : {id : ℕ} → Right 0 (OnTable (Own id Hold))
  lifts : {id : ℕ} → Right 0 (OnTable (Own id Lift))
  -- "70000 yard": "the yard enters and takes off"
  enters : {e : Entry} → Right 70000 (OnTable (Enter e))
  takes_off : {id : ℕ} → Right 70000 (OnTable (TakeOff id))

-- the train of this id
pub itself : (id n : ℕ) (a : Ask) → (1 ≤ id → id ≤ 65535 → Right id a) → is_train id n ≡ true → Right n a
itself id n a right e =
    let tests = both (id_in_range n) _ e in
    let same : n ≡ id = eqb-true n id tests.1 in
    let range = (train_id n).0 tests.0 in
    subst (λ (m : ℕ). Right m a) (sym same) (right (omega arith) (omega arith))
