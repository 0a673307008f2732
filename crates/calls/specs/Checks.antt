-- Document 01, "What is turned down": the checks of a call, in the order in which they run.
use Rattle.std.specs.Prelude.{Bool, cond, List, [], ◌∷◌, Option, None, Some}
use Rattle.calls.specs.declared.Refusal.{Refusal}

-- whether a check applies, and what it turns the call down with
pub record Check : Type 0 where
  pub applies : Bool
  pub refusal : Refusal

abbrev pub check : Bool → Refusal → Check
check b r = record { applies = b; refusal = r }

-- the first that applies is the answer; where none does, the call is accepted
unfoldable pub first_of : List Check → Option Refusal
first_of [] = None
first_of (c ∷ cs) = cond c.applies (Some c.refusal) (first_of cs)
