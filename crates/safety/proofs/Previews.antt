-- Document 02, (v), over every list of deeds: "The real table stays untouched". With its previews or without them a list leaves the same table,
-- and tells the same of the line.
-- Assumes nothing.
use Prim.Native.Nat.{ℕ}
use mathlib.Core.Bool.{true}
use mathlib.Core.List.{List, [], ◌∷◌, foldl}
use mathlib.Core.Path.{◌≡◌, refl, ap, ◌∙◌}
use Rattle.calls.specs.declared.Opening.{Opening}
use Rattle.calls.specs.declared.Call.{Call}
use Rattle.calls.specs.declared.Ask.TheVariants.{OnTable}
use Rattle.calls.specs.Answers.{numbers_of}
use Rattle.calls.specs.Requests.{request}
use Rattle.table.specs.declared.Table.{Table}
use Rattle.line.specs.Step.{requested}
use Rattle.line.specs.Preview.{previewed}
use Rattle.line.proofs.Previews.{preview_answers}
use Rattle.safety.specs.History.{Deed, made, tried, done, history, after, Line, opened, told_by, told}
use Rattle.safety.proofs.Calls.{event, tried_tells}

-- a call that is tried where it stands in the list gets the answer that it would get there if it were made
pub tried_answered : (t : Table) (n : ℕ) (c : Call) → (done t (tried (request n (OnTable c)))).answer ≡ (done t (made (request n (OnTable c)))).answer
tried_answered t n c = preview_answers t n c

-- the deeds of a list that are made
abbrev pub without_previews : List Deed → List Deed
without_previews [] = []
without_previews (made r ∷ ds) = made r ∷ without_previews ds
without_previews (tried r ∷ ds) = without_previews ds

pub previews_leave : (ds : List Deed) (t : Table) → after t ds ≡ after t (without_previews ds)
unfolding after
previews_leave [] t = refl
previews_leave (made r ∷ ds) t = previews_leave ds (requested true t r).table
previews_leave (tried r ∷ ds) t = previews_leave ds t

told_alike : (ds : List Deed) (t : Table) (l : Line) → foldl told_by l (history t ds) ≡ foldl told_by l (history t (without_previews ds))
unfolding history
told_alike [] t l = refl
told_alike (made r ∷ ds) t l = told_alike ds (requested true t r).table (told_by l (event r (requested true t r).answer))
told_alike (tried r ∷ ds) t l =
    ap (λ (m : Line). foldl told_by m (history t ds)) (tried_tells l r (numbers_of (previewed t r).answer)) ∙ told_alike ds t l

pub previews_tell_nothing : (o : Opening) (t : Table) (ds : List Deed) → told o (history t ds) ≡ told o (history t (without_previews ds))
unfolding told
previews_tell_nothing o t ds = told_alike ds t (opened o)
