-- Document 01, "The session program", and document 02, (iii), said a second time, for every number: what each row of numbers asks, and what
-- each accepted answer prints. Rows, requests and answers are written out. A wrong definition is refused here, whatever the code.
-- Assumes nothing.
use Rattle.std.specs.Prelude.{Some, None, Ok}
use Prim.Native.Nat.{ℕ, ◌≤◌, ◌<◌}
use mathlib.Core.Bool.{true, false, cond}
use mathlib.Core.List.{List, [], ◌∷◌}
use mathlib.Core.Logic.{◌⊎◌, inl, inr}
use mathlib.Core.Path.{◌≡◌, refl, ◌∙◌}
use native.Mathlib.Omega.{arith}
use lib.Dec.{eqb}
use borrow.Author.Tests.{eq-eqb, ne_eqb, eqb-true}
use Rattle.logic.proofs.Tests.{by_test, both}
use Rattle.motion.specs.declared.Order.TheVariants.{Drive, Brake}
use Rattle.calls.specs.declared.Act.TheVariants.{Report, Extend, CallBack, Hold, Lift}
use Rattle.calls.specs.declared.Call.TheVariants.{Enter, Own, TakeOff}
use Rattle.calls.specs.declared.Ask.{Ask}
use Rattle.calls.specs.declared.Ask.TheVariants.{Open, OnTable}
use Rattle.calls.specs.declared.Request.{Request}
use Rattle.calls.specs.declared.Values.TheVariants.{Entered, Ordered, Extended, Zeros}
use Rattle.calls.specs.Answers.{numbers, numbers_of}
use Rattle.calls.specs.Requests.{all_zero, request, read_as, request_of}

-- ---- what the laws of other crates speak with

pub request_made : (n : ℕ) (a : Ask) → request n a ≡ record { caller = n; ask = a }
request_made n a = refl

pub numbers_made : (n a b c : ℕ) → numbers n a b c ≡ record { number = n; first = a; second = b; third = c }
numbers_made n a b c = refl

-- ---- rows

-- each of these numbers is 0
abbrev pub AllZero : List ℕ → Type 0
AllZero [] = Unit {0}
AllZero (n ∷ ns) = (n ≡ 0) × AllZero ns

-- "Unused numbers are 0": a row is read as r where they are, and otherwise it is unreadable. The caller is none of them.
pub record ReadWhere (unused row : List ℕ) (r : Request) : Type 0 where
  pub zeros : AllZero unused → request_of row ≡ Some r
  pub others : (AllZero unused → ⊥) → request_of row ≡ None

all_zero_lem : (ns : List ℕ) → AllZero ns → all_zero ns ≡ true
unfolding all_zero
all_zero_lem [] z = refl
all_zero_lem (n ∷ ns) (z, zs) = rw (eq-eqb n 0 z, all_zero_lem ns zs)

zero_all : (ns : List ℕ) → all_zero ns ≡ true → AllZero ns
unfolding all_zero
zero_all [] e = tt
zero_all (n ∷ ns) e = let two = both (eqb n 0) (all_zero ns) e in (eqb-true n 0 two.0, zero_all ns two.1)

read_where : (unused row : List ℕ) (r : Request) → request_of row ≡ cond (all_zero unused) (Some r) None → ReadWhere unused row r
read_where unused row r e =
    record {
      zeros = λ z. e ∙ rw (all_zero_lem unused z);
      others = λ out. by_test (all_zero unused) (λ t. absurd (out (zero_all unused t))) (λ f. e ∙ rw f);
    }

-- a code, five numbers and the caller n
module _ (a b c d e n : ℕ) where
  -- "1 open (line end, safety distance, V, A)"
  pub open_row : ReadWhere (e ∷ []) (1 ∷ a ∷ b ∷ c ∷ d ∷ e ∷ n ∷ [])
      (record { caller = n; ask = Open (record { end = a; safety = b; ceiling = c; traction = d }) })
  unfolding request_of read_as
  open_row = read_where _ _ _ refl

  -- "2 enter (id, head, length, load, starting number)"
  pub enter_row : ReadWhere [] (2 ∷ a ∷ b ∷ c ∷ d ∷ e ∷ n ∷ [])
      (record { caller = n; ask = OnTable (Enter (record { id = a; head = b; length = c; load = d; start = e })) })
  unfolding request_of read_as
  enter_row = read_where _ _ _ refl

  -- "3 report (id, head, speed)"
  pub report_row : ReadWhere (d ∷ e ∷ []) (3 ∷ a ∷ b ∷ c ∷ d ∷ e ∷ n ∷ [])
      (record { caller = n; ask = OnTable (Own a (Report (record { head = b; speed = c }))) })
  unfolding request_of read_as
  report_row = read_where _ _ _ refl

  -- "4 extend (id, number, length)"
  pub extend_row : ReadWhere (d ∷ e ∷ []) (4 ∷ a ∷ b ∷ c ∷ d ∷ e ∷ n ∷ [])
      (record { caller = n; ask = OnTable (Own a (Extend (record { number = b; length = c }))) })
  unfolding request_of read_as
  extend_row = read_where _ _ _ refl

  -- "5 call back (id, place)"
  pub call_back_row : ReadWhere (c ∷ d ∷ e ∷ []) (5 ∷ a ∷ b ∷ c ∷ d ∷ e ∷ n ∷ []) (record { caller = n; ask = OnTable (Own a (CallBack b)) })
  unfolding request_of read_as
  call_back_row = read_where _ _ _ refl

  -- "6 hold, 7 lift, 8 take off (id)"
  pub hold_row : ReadWhere (b ∷ c ∷ d ∷ e ∷ []) (6 ∷ a ∷ b ∷ c ∷ d ∷ e ∷ n ∷ []) (record { caller = n; ask = OnTable (Own a Hold) })
  unfolding request_of read_as
  hold_row = read_where _ _ _ refl

  pub lift_row : ReadWhere (b ∷ c ∷ d ∷ e ∷ []) (7 ∷ a ∷ b ∷ c ∷ d ∷ e ∷ n ∷ []) (record { caller = n; ask = OnTable (Own a Lift) })
  unfolding request_of read_as
  lift_row = read_where _ _ _ refl

  pub take_off_row : ReadWhere (b ∷ c ∷ d ∷ e ∷ []) (8 ∷ a ∷ b ∷ c ∷ d ∷ e ∷ n ∷ []) (record { caller = n; ask = OnTable (TakeOff a) })
  unfolding request_of read_as
  take_off_row = read_where _ _ _ refl

  -- "Any other code ... is answer 1"
  pub other_row : (code : ℕ) → (code < 1) ⊎ (8 < code) → request_of (code ∷ a ∷ b ∷ c ∷ d ∷ e ∷ n ∷ []) ≡ None
  unfolding request_of
  other_row code out =
      rw (
        ne_eqb code 1 (other 1 (omega arith) (omega arith) out),
        ne_eqb code 2 (other 2 (omega arith) (omega arith) out),
        ne_eqb code 3 (other 3 (omega arith) (omega arith) out),
        ne_eqb code 4 (other 4 (omega arith) (omega arith) out),
        ne_eqb code 5 (other 5 (omega arith) (omega arith) out),
        ne_eqb code 6 (other 6 (omega arith) (omega arith) out),
        ne_eqb code 7 (other 7 (omega arith) (omega arith) out),
        ne_eqb code 8 (other 8 (omega arith) (omega arith) out),
      )
    where
      other : (k : ℕ) → 1 ≤ k → k ≤ 8 → (code < 1) ⊎ (8 < code) → code ≡ k → ⊥
      other k low high (inl none) is = omega arith
      other k low high (inr beyond) is = omega arith

-- ---- answers

-- "Enter gives B, j and end"
pub entered_answer : (full growth end : ℕ) → numbers_of (Ok (Entered full growth end)) ≡ record { number = 0; first = full; second = growth; third = end }
entered_answer full growth end = refl

-- "report gives 1 drive or 2 brake, cap (0 with brake), reach"
pub driven_answer : (c reach : ℕ) → numbers_of (Ok (Ordered (Drive c) reach)) ≡ record { number = 0; first = 1; second = c; third = reach }
driven_answer c reach = refl

pub braked_answer : (reach : ℕ) → numbers_of (Ok (Ordered Brake reach)) ≡ record { number = 0; first = 2; second = 0; third = reach }
braked_answer reach = refl

-- "extend gives end, 1 for a repeat, 0"
pub extended_answer : (end : ℕ) → numbers_of (Ok (Extended end false)) ≡ record { number = 0; first = end; second = 0; third = 0 }
extended_answer end = refl

pub repeated_answer : (end : ℕ) → numbers_of (Ok (Extended end true)) ≡ record { number = 0; first = end; second = 1; third = 0 }
repeated_answer end = refl

-- "the rest zeros"
pub zeros_answer : numbers_of (Ok Zeros) ≡ record { number = 0; first = 0; second = 0; third = 0 }
zeros_answer = refl
