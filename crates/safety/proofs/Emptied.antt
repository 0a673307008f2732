-- A line that its trains have left. Whatever was called since its opening, its table is the one that the opening made, spare places included: so
-- what is called from then on is answered as on a line just opened.
-- Assumes nothing.
use Rattle.std.specs.Prelude.{Ok}
use mathlib.Core.Bool.{true}
use mathlib.Core.List.{List, [], ◌∷◌}
use mathlib.Core.Path.{◌≡◌, refl, sym, ap, subst, ◌∙◌}
use lib.ListN.{length}
use Rattle.calls.specs.declared.Opening.{Opening}
use Rattle.calls.specs.declared.Values.TheVariants.{Zeros}
use Rattle.train.specs.Ranges.{settings_of}
use Rattle.table.specs.declared.Table.{Table}
use Rattle.table.specs.Table.{empty_table}
use Rattle.table.proofs.Spare.{Tidy, tidy_anew, emptied}
use Rattle.line.specs.Step.{outcome, requested, open_step}
use Rattle.line.proofs.Steps.{open_made}
use Rattle.line.proofs.Stays.{tidy_request, settings_request}
use Rattle.safety.specs.History.{Deed, made, tried, history, after, told}
use Rattle.safety.proofs.Demand3.{demand_3}

-- what every deed keeps
tidy_after : (ds : List Deed) (t : Table) → Tidy t → Tidy (after t ds) × ((after t ds).settings ≡ t.settings)
unfolding after
tidy_after [] t tidy = (tidy, refl)
tidy_after (made r ∷ ds) t tidy =
    let (now, same) = tidy_after ds (requested true t r).table (tidy_request t tidy r) in (now, same ∙ settings_request t r)
tidy_after (tried r ∷ ds) t tidy = tidy_after ds t tidy

-- on the table that an accepted opening made, whatever is called, by whomever
module _ (o : Opening) (t : Table) (opened : open_step o ≡ outcome (Ok Zeros) t) (ds : List Deed) where
  new : t ≡ empty_table (settings_of o)
  new = (open_made o t opened).1

  -- where no train is on the line, the whole table is the one that was opened
  pub emptied_line : (after t ds).count ≡ 0 → after t ds ≡ t
  emptied_line none =
      let (tidy, same) = tidy_after ds t (subst Tidy (sym new) (tidy_anew t o)) in
      emptied (after t ds) tidy none ∙ ap empty_table (same ∙ ap (λ (u : Table). u.settings) new) ∙ sym new

  -- the same by calls and answers alone: the trains that entered were taken off
  pub emptied_told : (told o (history t ds)).trains ≡ [] → after t ds ≡ t
  emptied_told none = emptied_line ((demand_3 o t opened ds).count ∙ ap length none)
