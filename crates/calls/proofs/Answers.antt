-- Which answers accept, and the numbers of the refusals.
-- Assumes nothing.
use Rattle.std.specs.Prelude.{Ok}
use Prim.Native.Nat.{◌≤◌}
use mathlib.Core.Bool.{false}
use mathlib.Core.Path.{◌≡◌, refl}
use native.Mathlib.Omega.{arith}
use lib.Dec.{eqb}
use borrow.Author.Tests.{ne_eqb}
use Rattle.calls.specs.declared.Refusal.{Refusal}
use Rattle.calls.specs.declared.Refusal.TheVariants.{BadLine, OutOfTurn, BadSetting, BadEntry, OnLine, LineFull, BadHead, NoTrain, NotAllowed, BadRequest, OldNumber, OtherLength, NoTrack, BadPlace, NotLeaving, NoRight, Pending}
use Rattle.calls.specs.declared.Values.{Values}
use Rattle.calls.specs.declared.Values.TheVariants.{Entered, Ordered, Extended, Zeros}
use Rattle.calls.specs.Answers.{refusal_number, numbers_of}

pub accepted_0 : (v : Values) → (numbers_of (Ok v)).number ≡ 0
accepted_0 (Entered full growth end) = refl
accepted_0 (Ordered o r) = refl
accepted_0 (Extended end repeat) = refl
accepted_0 Zeros = refl

pub refusal_range : (r : Refusal) → (1 ≤ refusal_number r) × (refusal_number r ≤ 17)
refusal_range BadLine = omega arith
refusal_range OutOfTurn = omega arith
refusal_range BadSetting = omega arith
refusal_range BadEntry = omega arith
refusal_range OnLine = omega arith
refusal_range LineFull = omega arith
refusal_range BadHead = omega arith
refusal_range NoTrain = omega arith
refusal_range NotAllowed = omega arith
refusal_range BadRequest = omega arith
refusal_range OldNumber = omega arith
refusal_range OtherLength = omega arith
refusal_range NoTrack = omega arith
refusal_range BadPlace = omega arith
refusal_range NotLeaving = omega arith
refusal_range NoRight = omega arith
refusal_range Pending = omega arith

-- so none has the number of acceptance
pub refusal_not_0 : (r : Refusal) → eqb (refusal_number r) 0 ≡ false
refusal_not_0 r = let range = refusal_range r in ne_eqb (refusal_number r) 0 (λ e. omega arith)
