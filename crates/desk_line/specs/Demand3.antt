-- Demand 3 at the desk: what its lines do on the table of an accepted opening, with the answers that they get.
use Rattle.std.specs.Prelude.{ℕ, List, [], ◌∷◌, ◌++◌, map, Option, None, Some}
use Rattle.calls.specs.Answers.{numbers_of}
use Rattle.safety.specs.History.{Deed, made, tried, Event}
use Rattle.stream.specs.declared.Session.{Session}
use Rattle.desk_line.specs.declared.DeskAsk.{DeskAsk}
use Rattle.desk_line.specs.declared.DeskAsk.TheVariants.{Made, Tried}
use Rattle.desk_line.specs.Desk.{desk_read, shown_at, desk_answered}

-- what a line does
abbrev pub deed_at : Option DeskAsk → List Deed
deed_at (Some (Made r)) = made r ∷ []
deed_at (Some (Tried r)) = tried r ∷ []
deed_at None = []

abbrev pub deeds_at : List (List ℕ) → List Deed
deeds_at [] = []
deeds_at (l ∷ ls) = deed_at (desk_read l) ++ deeds_at ls

-- the same with the answers that the desk gives them
abbrev pub event_at : Session → Option DeskAsk → Deed → Event
event_at s a d = record { deed = d; answer = numbers_of (shown_at s a).answer }

abbrev pub events_at : Session → List (List ℕ) → List Event
events_at s [] = []
events_at s (l ∷ ls) = map (event_at s (desk_read l)) (deed_at (desk_read l)) ++ events_at (desk_answered s l).session ls
