-- Demand 3 about a session: the requests that its lines make on the table of the accepted opening, with the answers that they get. It speaks
-- of what is read and written: the events are the requests as they were read and the answers as they were given.
use Rattle.std.specs.Prelude.{ℕ, ◌≡◌, true, List, [], ◌∷◌, ◌++◌, map, Option, Some, None, Ok}
use Rattle.calls.specs.declared.Request.{Request}
use Rattle.calls.specs.declared.Opening.{Opening}
use Rattle.calls.specs.declared.Ask.TheVariants.{Open}
use Rattle.calls.specs.declared.Values.TheVariants.{Zeros}
use Rattle.calls.specs.Requests.{request}
use Rattle.rights.specs.Rights.{dispatcher}
use Rattle.table.specs.declared.Table.{Table}
use Rattle.line.specs.Step.{outcome, open_step}
use Rattle.safety.specs.History.{Deed, made, Event, history}
use Rattle.safety.specs.History as History
use Rattle.safety.specs.Claim.{Demand3}
use Rattle.wire.specs.Format.{line_read}
use Rattle.stream.specs.declared.Session.{Session}
use Rattle.stream.specs.Session.{session, closed, answered}
use Rattle.stream.specs.Input.{after}

-- what a line does: it makes the request that is read from it; an unreadable line does nothing
abbrev pub deed_in : Option Request → List Deed
deed_in (Some r) = made r ∷ []
deed_in None = []

unfoldable pub deeds_in : List (List ℕ) → List Deed
deeds_in [] = []
deeds_in (l ∷ ls) = deed_in (line_read l) ++ deeds_in ls

-- the same with the answers that the session gives them
unfoldable pub events_in : Session → List (List ℕ) → List Event
events_in s [] = []
events_in s (l ∷ ls) =
    map (λ (d : Deed). record { deed = d; answer = (answered s l).answer }) (deed_in (line_read l)) ++ events_in (answered s l).session ls

-- The lines ls have an accepted opening in them, the dispatcher's. The table is what the requests since then left; the events since then, as
-- read and as answered, are that history; and demand 3 holds of it.
pub record Opened (ls : List (List ℕ)) : Type 0 where
  pub earlier : List (List ℕ)
  pub line : List ℕ
  pub since : List (List ℕ)
  pub given : Opening
  pub table : Table
  pub all : ls ≡ earlier ++ (line ∷ since)
  pub not_yet : after closed earlier ≡ closed
  pub opening : line_read line ≡ Some (request dispatcher (Open given))
  pub accepted : open_step given ≡ outcome (Ok Zeros) table
  pub opens : (answered closed line).session ≡ session true table
  pub now : after closed ls ≡ session true (History.after table (deeds_in since))
  pub events : events_in (session true table) since ≡ history table (deeds_in since)
  pub demand : Demand3 given table (deeds_in since)
