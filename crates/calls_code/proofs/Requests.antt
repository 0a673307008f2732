-- A row's unused numbers, one by one. Assumes nothing.
use Rattle.std.specs.Prelude.{Option, None, Some}
use Prim.Native.Nat.{ℕ, zero, suc, ◌≤◌, ◌<◌}
use native.Mathlib.Nat.{le_of_suc-le-suc}
use native.Mathlib.Omega.{arith}
use mathlib.Core.Bool.{Bool, true, cond, ◌&&◌}
use mathlib.Core.List.{List, [], ◌∷◌}
use mathlib.Core.Path.{◌≡◌, refl}
use lib.Dec.{eqb}
use Rattle.calls.specs.declared.Ask.{Ask}
use Rattle.calls.specs.declared.Request.{Request}
use Rattle.calls.specs.Requests.{at, all_zero, zero_from, caller_place, request, read_as}
use lib.ListN.{take}

pub zero_next : (k i : ℕ) (row : List ℕ) → i < k → zero_from i (take k row) ≡ eqb (at row i) 0 && zero_from (suc i) (take k row)
unfolding all_zero
zero_next zero i row h = absurd (omega arith)
zero_next (suc k) zero [] h = refl
zero_next (suc k) zero (n ∷ row) h = refl
zero_next (suc k) (suc i) [] h = refl
zero_next (suc k) (suc i) (n ∷ row) h = zero_next k i row (le_of_suc-le-suc h)

pub zero_end : (k i : ℕ) (row : List ℕ) → k ≤ i → zero_from i (take k row) ≡ true
unfolding all_zero
zero_end zero zero row h = refl
zero_end zero (suc i) row h = refl
zero_end (suc k) zero row h = absurd (omega arith)
zero_end (suc k) (suc i) [] h = refl
zero_end (suc k) (suc i) (n ∷ row) h = zero_end k i row (le_of_suc-le-suc h)

-- what a row asks that uses the numbers before place n
module _ (row : List ℕ) (a : Ask) where
  abbrev made : Bool → Option Request
  made zeros = cond zeros (Some (request (at row caller_place) a)) None

  pub read_6 : read_as 6 row a ≡ made true
  unfolding read_as
  read_6 = rw (zero_end 6 6 row (omega arith))

  pub read_5 : read_as 5 row a ≡ made (eqb (at row 5) 0 && true)
  unfolding read_as
  read_5 = rw (zero_next 6 5 row (omega arith), zero_end 6 6 row (omega arith))

  pub read_4 : read_as 4 row a ≡ made (eqb (at row 4) 0 && (eqb (at row 5) 0 && true))
  unfolding read_as
  read_4 = rw (zero_next 6 4 row (omega arith), zero_next 6 5 row (omega arith), zero_end 6 6 row (omega arith))

  pub read_3 : read_as 3 row a ≡ made (eqb (at row 3) 0 && (eqb (at row 4) 0 && (eqb (at row 5) 0 && true)))
  unfolding read_as
  read_3 = rw (zero_next 6 3 row (omega arith), zero_next 6 4 row (omega arith), zero_next 6 5 row (omega arith), zero_end 6 6 row (omega arith))

  pub read_2 : read_as 2 row a ≡ made (eqb (at row 2) 0 && (eqb (at row 3) 0 && (eqb (at row 4) 0 && (eqb (at row 5) 0 && true))))
  unfolding read_as
  read_2 = rw (zero_next 6 2 row (omega arith), zero_next 6 3 row (omega arith), zero_next 6 4 row (omega arith), zero_next 6 5 row (omega arith), zero_end 6 6 row (omega arith))

pub ruleset row_steps = (read_2, read_3, read_4, read_5, read_6)
