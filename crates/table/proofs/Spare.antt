-- The spare places, those behind the last train: a new table has them blank, and every change leaves them blank. So a table that the last train
-- has left is a new one, place by place: nothing of the trains that were there is kept.
-- Assumes nothing.
use Prim.Native.Nat.{ℕ, suc, ◌+◌, ◌-◌, ◌<◌}
use mathlib.Core.List.{List, ◌∷◌}
use mathlib.Core.Path.{◌≡◌, refl, sym, ap, ◌∙◌}
use native.Mathlib.Omega.{arith}
use lib.ListN.{drop, replicate}
use lib.Seq.{drop-set-lt, drop-drop, drop_at}
use Rattle.calls.specs.declared.Opening.{Opening}
use Rattle.train.specs.declared.Train.{Train}
use Rattle.train.specs.Ranges.{settings_of}
use Rattle.table.specs.declared.Table.{Table}
use Rattle.table.specs.declared.Change.TheVariants.{Put, Add, DropFirst, Anew}
use Rattle.table.specs.Table.{blank_train, on_line, changed}
use Rattle.table.proofs.Trains.{Sized, sized_empty, sized_with, sized_last, moved, sized_without_first}

-- every place is there, and behind the last train each is blank
pub record Tidy (t : Table) : Type 0 where
  pub sized : Sized t
  pub spare : drop t.count t.trains ≡ replicate (32 - t.count) blank_train

-- a new table, whatever table was there
pub tidy_anew : (t : Table) (o : Opening) → Tidy (changed t (Anew o))
tidy_anew t o = record { sized = sized_empty (settings_of o); spare = refl }

pub tidy_with : (t : Table) (i : ℕ) (x : Train) → Tidy t → i < t.count → Tidy (changed t (Put i x))
tidy_with t i x tidy below =
    record { sized = sized_with t i x tidy.sized; spare = drop-set-lt t.count t.trains i x below ∙ tidy.spare }

pub tidy_last : (t : Table) (x : Train) → Tidy t → t.count < 32 → Tidy (changed t (Add x))
tidy_last t x tidy free =
    let fewer : 32 - t.count ≡ suc (32 - (t.count + 1)) = omega arith in
    record {
      sized = sized_last t x tidy.sized free;
      spare =
          drop-set-lt (t.count + 1) t.trains t.count x (omega arith)
          ∙ sym (drop-drop 1 t.count t.trains)
          ∙ ap (drop 1) (tidy.spare ∙ ap (λ (n : ℕ). replicate n blank_train) fewer);
    }

pub tidy_without_first : (t : Table) → Tidy t → 0 < t.count → Tidy (changed t DropFirst)
tidy_without_first t tidy some =
    let within = tidy.sized.count in
    let more : suc (32 - t.count) ≡ 32 - (t.count - 1) = omega arith in
    record {
      sized = sized_without_first t tidy.sized some;
      spare =
          drop_at (drop 1 (on_line t)) _ (t.count - 1) (moved t tidy.sized)
          ∙ ap (λ (xs : List Train). blank_train ∷ xs) tidy.spare
          ∙ ap (λ (n : ℕ). replicate n blank_train) more;
    }

-- with no train on it
pub emptied : (t : Table) → Tidy t → t.count ≡ 0 → t ≡ record { trains = replicate 32 blank_train; settings = t.settings; count = 0 }
emptied t tidy none = let all = rw none at tidy.spare in λ z. record { trains = all z; settings = t.settings; count = none z }
