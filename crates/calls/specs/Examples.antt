-- Worked values: the refusals beside document 01's numbers, and document 02's. What the definitions give equals what stands here
-- (proofs/Examples: answered).
use Rattle.std.specs.Prelude.{ℕ, List, [], ◌∷◌, Result, Err}
use Rattle.calls.specs.declared.Values.{Values}
use Rattle.calls.specs.declared.Refusal.{Refusal}
use Rattle.calls.specs.declared.Refusal.TheVariants.{BadLine, OutOfTurn, BadSetting, BadEntry, OnLine, LineFull, BadHead, NoTrain, NotAllowed, BadRequest, OldNumber, OtherLength, NoTrack, BadPlace, NotLeaving, NoRight, Pending}
use Rattle.calls.specs.declared.Numbers.{Numbers}

pub record Answered : Type 0 where
  pub answer : Result Values Refusal
  pub printed : Numbers

-- a refusal gives its number and zeros
abbrev pub refusal : Refusal → ℕ → Answered
refusal r n = record { answer = Err r; printed = record { number = n; first = 0; second = 0; third = 0 } }

abbrev pub answers : List Answered
answers =
    -- line unreadable; call before an accepted opening, or an opening after one
    refusal BadLine 1
    ∷ refusal OutOfTurn 2
    -- a setting out of range
    ∷ refusal BadSetting 3
    -- id, length, load class or starting number out of range; id on the line already; 32 trains on the line; entering head not in
    -- its range
    ∷ refusal BadEntry 4
    ∷ refusal OnLine 5
    ∷ refusal LineFull 6
    ∷ refusal BadHead 7
    -- no such train
    ∷ refusal NoTrain 8
    -- report not allowed; request number or length out of range; number at or below the starting number, or below the last accepted;
    -- last accepted number with another length; new end beyond the limit
    ∷ refusal NotAllowed 9
    ∷ refusal BadRequest 10
    ∷ refusal OldNumber 11
    ∷ refusal OtherLength 12
    ∷ refusal NoTrack 13
    -- place behind the head or beyond the end
    ∷ refusal BadPlace 14
    -- train not first, or not standing under brake
    ∷ refusal NotLeaving 15
    -- caller without the right
    ∷ refusal NoRight 16
    -- a new extension while a call back is pending
    ∷ refusal Pending 17
    ∷ []
