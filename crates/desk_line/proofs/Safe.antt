-- Demand 3 at the desk: what its lines do since an opening was accepted is a list of deeds, previews among them, so the theorem holds of it.
-- Assumes nothing.
use Rattle.std.specs.Prelude.{Option, None, Some, Ok}
use Prim.Native.Nat.{ℕ}
use mathlib.Core.Bool.{true}
use mathlib.Core.List.{List, [], ◌∷◌, ◌++◌, map}
use mathlib.Core.Path.{◌≡◌, refl, ap}
use Rattle.calls.specs.declared.Opening.{Opening}
use Rattle.calls.specs.declared.Values.TheVariants.{Zeros}
use Rattle.table.specs.declared.Table.{Table}
use Rattle.line.specs.Step.{outcome, requested, open_step}
use Rattle.safety.specs.History.{made, tried, Event, history, after}
use Rattle.safety.specs.Claim.{Demand3}
use Rattle.safety.proofs.Demand3.{demand_3}
use Rattle.stream.specs.declared.Session.{Session}
use Rattle.stream.specs.Session.{session}
use Rattle.desk_line.specs.declared.DeskAsk.{DeskAsk}
use Rattle.desk_line.specs.declared.DeskAsk.TheVariants.{Made, Tried}
use Rattle.desk_line.specs.Desk.{desk_read, shown_at, left_at, desk_after}
use Rattle.desk_line.specs.Demand3.{deed_at, deeds_at, event_at, events_at}

-- the lines ls leave what their deeds leave, and these get the answers of a history
abbrev pub Follows : Table → List (List ℕ) → Type 0
Follows t ls = (desk_after (session true t) ls ≡ session true (after t (deeds_at ls))) × (events_at (session true t) ls ≡ history t (deeds_at ls))

follows : (t : Table) (ls : List (List ℕ)) → Follows t ls
unfolding shown_at left_at desk_after after history
follows t [] = (refl, refl)
follows t (l ∷ ls) = go (desk_read l) (λ u. follows u ls)
  where
    s : Session
    s = session true t

    go : (a : Option DeskAsk) → ((u : Table) → Follows u ls)
        → (desk_after (left_at s a) ls ≡ session true (after t (deed_at a ++ deeds_at ls))) × (map (event_at s a) (deed_at a) ++ events_at (left_at s a) ls ≡ history t (deed_at a ++ deeds_at ls))
    go (Some (Made r)) next = let f = next (requested true t r).table in (f.0, ap (λ (es : List Event). event_at s (Some (Made r)) (made r) ∷ es) f.1)
    go (Some (Tried r)) next = let f = next t in (f.0, ap (λ (es : List Event). event_at s (Some (Tried r)) (tried r) ∷ es) f.1)
    go None next = next t

-- Whatever lines follow an accepted opening: the table is what their deeds left, their answers are that history, and demand 3 holds of it.
pub desk_safe : (o : Opening) (t : Table) → open_step o ≡ outcome (Ok Zeros) t → (ls : List (List ℕ)) → Follows t ls × Demand3 o t (deeds_at ls)
desk_safe o t opened ls = (follows t ls, demand_3 o t opened (deeds_at ls))
