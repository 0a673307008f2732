-- The invariant of a table under what the history tells, and how to read the table by the trains told.
-- Assumes nothing.
use Rattle.std.specs.Prelude.{None, Some, Option}
use Prim.Native.Nat.{ℕ, zero, suc, ◌≤◌, ◌<◌}
use mathlib.Core.List.{List, [], ◌∷◌, map}
use mathlib.Core.Path.{◌≡◌, refl, sym, ◌∙◌, ap, subst}
use native.Mathlib.Omega.{arith}
use lib.ListN.{length, get_or, length-map}
use Rattle.calls.specs.declared.Opening.{Opening}
use Rattle.train.specs.declared.Settings.{Settings}
use Rattle.train.specs.declared.Train.{Train}
use Rattle.train.specs.Ranges.{WorksWith}
use Rattle.train.specs.Track.{limit_behind}
use Rattle.table.specs.declared.Table.{Table}
use Rattle.table.specs.Table.{blank_train, on_line, place_of, train_at, ahead_of, limit_at}
use Rattle.table.proofs.Trains.{Sized, line_length, train_on_line}
use Rattle.safety.specs.History.{Told, Line}
use Rattle.safety.specs.Claim.{record_of}
use Rattle.safety.proofs.Finding.{Absent, IsAt, missing, found}
use Rattle.safety.proofs.Line.{Lined, first_limit, behind, limit_in}

-- of the line that o opened the history tells l, and the table is t
pub record Agrees (o : Opening) (l : Line) (t : Table) : Type 0 where
  pub opening : l.opening ≡ o
  pub settings : WorksWith o t.settings
  pub sized : Sized t
  pub trains : on_line t ≡ map record_of l.trains
  pub lined : Lined t.settings (first_limit t.settings) l.trains

limit_next : (σ : Settings) (limit : Option ℕ) (xs : List Told) (i : ℕ) → i < length xs
    → limit_behind σ (Some (get_or (map record_of xs) i blank_train)) ≡ limit_in σ limit xs (suc i)
limit_next σ limit [] i h = absurd (omega arith)
limit_next σ limit (x ∷ xs) zero h = refl
limit_next σ limit (x ∷ xs) (suc i) h = limit_next σ (behind σ x) xs i (omega arith)

module _ (o : Opening) (l : Line) (t : Table) (A : Agrees o l t) where
  abbrev xs : List Told
  xs = l.trains

  pub agrees_count : t.count ≡ length xs
  agrees_count = sym (line_length t A.sized) ∙ ap length A.trains ∙ length-map xs record_of

  pub agrees_train : (i : ℕ) → i < t.count → train_at t i ≡ get_or (map record_of xs) i blank_train
  agrees_train i h = train_on_line t i h ∙ ap (λ (ys : List Train). get_or ys i blank_train) A.trains

  pub agrees_limit : (i : ℕ) → i ≤ t.count → limit_at t i ≡ limit_in t.settings (first_limit t.settings) xs i
  unfolding ahead_of
  agrees_limit zero h = refl
  agrees_limit (suc i) h =
      let count = agrees_count in
      ap (λ (x : Train). limit_behind t.settings (Some x)) (agrees_train i h) ∙ limit_next t.settings _ xs i (omega arith)

  pub agrees_absent : (id : ℕ) → place_of t id ≡ None → Absent id xs
  unfolding place_of
  agrees_absent id e = missing id xs 0 (rw A.trains at e)

  pub agrees_place : (id i : ℕ) → place_of t id ≡ Some i → IsAt id xs i
  unfolding place_of
  agrees_place id i e =
      let (j, same, place) = found id xs 0 i (rw A.trains at e) in
      subst (IsAt id xs) (omega arith) place
