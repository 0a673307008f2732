-- Document 01, "What is turned down" and "The session program": the number and the three values of each answer.
use Rattle.std.specs.Prelude.{ℕ, cond, Result, Ok, Err}
use Rattle.calls.specs.declared.Values.{Values}
use Rattle.motion.specs.Orders.{order_number, order_cap}
use Rattle.calls.specs.declared.Refusal.{Refusal}
use Rattle.calls.specs.declared.Refusal.TheVariants.{BadLine, OutOfTurn, BadSetting, BadEntry, OnLine, LineFull, BadHead, NoTrain, NotAllowed, BadRequest, OldNumber, OtherLength, NoTrack, BadPlace, NotLeaving, NoRight, Pending}
use Rattle.calls.specs.declared.Values.TheVariants.{Entered, Ordered, Extended, Zeros}
use Rattle.calls.specs.declared.Numbers.{Numbers}

abbrev pub refusal_number : Refusal → ℕ
-- the typist of the input: line unreadable
refusal_number BadLine = 1
-- call before an accepted opening, or an opening after one
refusal_number OutOfTurn = 2
-- the owner of the line: a setting out of range
refusal_number BadSetting = 3
-- the yard: id, length, load class or starting number out of range
refusal_number BadEntry = 4
-- id on the line already
refusal_number OnLine = 5
-- 32 trains on the line
refusal_number LineFull = 6
-- entering head not in its range
refusal_number BadHead = 7
-- any caller naming a train: no such train
refusal_number NoTrain = 8
-- the train: report not allowed
refusal_number NotAllowed = 9
-- request number or length out of range
refusal_number BadRequest = 10
-- number at or below the starting number, or below the last accepted
refusal_number OldNumber = 11
-- last accepted number with another length
refusal_number OtherLength = 12
-- new end beyond the limit
refusal_number NoTrack = 13
-- the dispatcher: place behind the head or beyond the end
refusal_number BadPlace = 14
-- the yard: train not first, or not standing under brake
refusal_number NotLeaving = 15
-- any caller: caller without the right
refusal_number NoRight = 16
-- the train: a new extension while a call back is pending
refusal_number Pending = 17

abbrev pub numbers : ℕ → ℕ → ℕ → ℕ → Numbers
numbers n a b c = record { number = n; first = a; second = b; third = c }

-- Answer 0 is acceptance; a refusal gives its number and zeros.
abbrev pub numbers_of : Result Values Refusal → Numbers
-- enter: B, j, end
numbers_of (Ok (Entered full growth end)) = numbers 0 full growth end
-- report: 1 drive or 2 brake, cap (0 with brake), reach
numbers_of (Ok (Ordered o r)) = numbers 0 (order_number o) (order_cap o) r
-- extend: end, 1 for a repeat
numbers_of (Ok (Extended end repeat)) = numbers 0 end (cond repeat 1 0) 0
-- the rest: zeros
numbers_of (Ok Zeros) = numbers 0 0 0 0
numbers_of (Err r) = numbers (refusal_number r) 0 0 0
