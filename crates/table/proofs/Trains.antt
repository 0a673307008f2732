-- The array of 32 places against the list of trains on the line: what is read at a place, and what an accepted call makes of both.
-- Assumes nothing.
use Prim.Native.Nat.{ℕ, ◌-◌, ◌≤◌, ◌<◌}
use mathlib.Core.List.{[], ◌∷◌, ◌++◌}
use mathlib.Core.Path.{◌≡◌, refl, sym, ◌∙◌}
use native.Mathlib.Numerals.{add-one}
use native.Mathlib.Omega.{arith}
use lib.ListN.{length, get_or, set, drop, length-append, length-drop, length-set}
use lib.Seq.{length-take-le, get_or-take, take-set-lt, take-suc-set, take_at}
use Rattle.train.specs.declared.Settings.{Settings}
use Rattle.train.specs.declared.Train.{Train}
use Rattle.table.specs.declared.Table.{Table}
use Rattle.table.specs.declared.Change.TheVariants.{Put, Add, DropFirst}
use Rattle.table.specs.Table.{blank_train, places, empty_table, on_line, train_at, changed}

-- every place is there, and no more are in use
pub record Sized (t : Table) : Type 0 where
  pub size : length t.trains ≡ places
  pub count : t.count ≤ places

pub sized_empty : (σ : Settings) → Sized (empty_table σ)
sized_empty σ = record { size = refl; count = omega arith }

pub line_length : (t : Table) → Sized t → length (on_line t) ≡ t.count
line_length t z = length-take-le t.count t.trains (omega arith)

pub train_on_line : (t : Table) (i : ℕ) → i < t.count → train_at t i ≡ get_or (on_line t) i blank_train
train_on_line t i h = sym (get_or-take t.count t.trains i blank_train h)

-- ---- another record at a place

pub line_with : (t : Table) (i : ℕ) (x : Train) → i < t.count → on_line (changed t (Put i x)) ≡ set (on_line t) i x
line_with t i x h = take-set-lt t.count t.trains i x h

pub sized_with : (t : Table) (i : ℕ) (x : Train) → Sized t → Sized (changed t (Put i x))
sized_with t i x z = record { size = length-set t.trains i x ∙ z.size; count = z.count }

-- ---- one more

pub line_last : (t : Table) (x : Train) → Sized t → t.count < places → on_line (changed t (Add x)) ≡ on_line t ++ (x ∷ [])
line_last t x z h = rw (add-one t.count) (take-suc-set t.trains t.count x (omega arith))

pub sized_last : (t : Table) (x : Train) → Sized t → t.count < places → Sized (changed t (Add x))
sized_last t x z h = record { size = length-set t.trains t.count x ∙ z.size; count = omega arith }

-- ---- the first gone

module _ (t : Table) (z : Sized t) where
  pub moved : length (drop 1 (on_line t)) ≡ t.count - 1
  moved = let line = line_length t z in let dropped = length-drop 1 (on_line t) in omega arith

  pub line_without_first : on_line (changed t DropFirst) ≡ drop 1 (on_line t)
  line_without_first = take_at (drop 1 (on_line t)) _ (t.count - 1) moved

  pub sized_without_first : 0 < t.count → Sized (changed t DropFirst)
  sized_without_first some =
      let joined = length-append (drop 1 (on_line t)) (blank_train ∷ drop t.count t.trains) in
      let spare = length-drop t.count t.trains in
      let line = moved in
      record { size = omega arith; count = omega arith }
