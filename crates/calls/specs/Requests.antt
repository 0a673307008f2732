-- Document 01, "The session program", and document 02, (iii): the codes of the calls and the numbers that each has, in a row with the code
-- first and the caller last.
use Rattle.std.specs.Prelude.{ℕ, Bool, true, cond, ◌&&◌, List, [], ◌∷◌, eqb, get_or, take, drop, Option, Some, None}
use Rattle.calls.specs.declared.Opening.{Opening}
use Rattle.calls.specs.declared.Entry.{Entry}
use Rattle.calls.specs.declared.Reading.{Reading}
use Rattle.calls.specs.declared.Extension.{Extension}
use Rattle.calls.specs.declared.Act.TheVariants.{Report, Extend, CallBack, Hold, Lift}
use Rattle.calls.specs.declared.Call.TheVariants.{Enter, Own, TakeOff}
use Rattle.calls.specs.declared.Ask.{Ask}
use Rattle.calls.specs.declared.Ask.TheVariants.{Open, OnTable}
use Rattle.calls.specs.declared.Request.{Request}

abbrev pub at : List ℕ → ℕ → ℕ
at row i = get_or row i 0

unfoldable pub all_zero : List ℕ → Bool
all_zero [] = true
all_zero (n ∷ ns) = eqb n 0 && all_zero ns

-- the numbers from place n on are 0
abbrev pub zero_from : ℕ → List ℕ → Bool
zero_from n row = all_zero (drop n row)

abbrev pub request : ℕ → Ask → Request
request n a = record { caller = n; ask = a }

-- the caller stands after the code and the five numbers of a call
abbrev pub caller_place : ℕ
caller_place = 6

-- a request that uses the numbers before place n: unused numbers are 0
unfoldable pub read_as : ℕ → List ℕ → Ask → Option Request
read_as n row a = cond (zero_from n (take caller_place row)) (Some (request (at row caller_place) a)) None

-- line end, safety distance, V, A
abbrev pub opening_in : List ℕ → Opening
opening_in row = record { end = at row 1; safety = at row 2; ceiling = at row 3; traction = at row 4 }

-- id, head, length, load, starting number
abbrev pub entry_in : List ℕ → Entry
entry_in row = record { id = at row 1; head = at row 2; length = at row 3; load = at row 4; start = at row 5 }

-- after the id: head, speed
abbrev pub reading_in : List ℕ → Reading
reading_in row = record { head = at row 2; speed = at row 3 }

-- after the id: number, length
abbrev pub extension_in : List ℕ → Extension
extension_in row = record { number = at row 2; length = at row 3 }

-- 1 open, 2 enter, 3 report, 4 extend, 5 call back (id, place), 6 hold, 7 lift, 8 take off (id); any other code is unreadable
unfoldable pub request_of : List ℕ → Option Request
request_of row =
    cond (eqb (at row 0) 1) (read_as 5 row (Open (opening_in row)))
    (cond (eqb (at row 0) 2) (read_as 6 row (OnTable (Enter (entry_in row))))
    (cond (eqb (at row 0) 3) (read_as 4 row (OnTable (Own (at row 1) (Report (reading_in row)))))
    (cond (eqb (at row 0) 4) (read_as 4 row (OnTable (Own (at row 1) (Extend (extension_in row)))))
    (cond (eqb (at row 0) 5) (read_as 3 row (OnTable (Own (at row 1) (CallBack (at row 2)))))
    (cond (eqb (at row 0) 6) (read_as 2 row (OnTable (Own (at row 1) Hold)))
    (cond (eqb (at row 0) 7) (read_as 2 row (OnTable (Own (at row 1) Lift)))
    (cond (eqb (at row 0) 8) (read_as 2 row (OnTable (TakeOff (at row 1))))
    None)))))))
