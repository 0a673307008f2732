-- A session whose line has no train on it goes on as one that has read the opening line alone: the same state, and so the same answers to whatever
-- comes next. Who keeps the lines of a session, to replay them, may then keep that one in place of all.
-- Assumes nothing.
use Prim.Native.Nat.{ℕ}
use mathlib.Core.Path.{◌≡◌, sym, ap, ◌∙◌}
use mathlib.Core.Bool.{true}
use mathlib.Core.List.{List, [], ◌∷◌}
use Rattle.safety.specs.History.{told}
use Rattle.safety.proofs.Emptied.{emptied_told}
use Rattle.stream.specs.declared.Session.{Session}
use Rattle.stream.specs.Session.{session, closed}
use Rattle.stream.specs.Input.{after, answers}
use Rattle.stream.specs.Demand3.{deeds_in, events_in, Opened}

-- lines with an accepted opening among them, since which, by what they ask and what they are answered, every train that entered was taken off
module _ (ls : List (List ℕ)) (w : Opened ls) (none : (told w.given (events_in (session true w.table) w.since)).trains ≡ []) where
  pub emptied_session : after closed ls ≡ after closed (w.line ∷ [])
  unfolding after
  emptied_session =
      let all_left = rw w.events at none in
      w.now ∙ ap (session true) (emptied_told w.given w.table w.accepted (deeds_in w.since) all_left) ∙ sym w.opens

  -- whatever lines follow
  pub same_answers : (more : List (List ℕ)) → answers (after closed ls) more ≡ answers (after closed (w.line ∷ [])) more
  same_answers more = ap (λ (s : Session). answers s more) emptied_session
