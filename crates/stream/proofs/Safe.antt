-- Demand 3 holds of what a session does, whatever lines it is given. Assumes nothing.
use Rattle.std.specs.Prelude.{Option, Some, None}
use Rattle.calls.specs.declared.Request.{Request}
use Prim.Native.Nat.{ℕ}
use mathlib.Core.Path.{◌≡◌, refl, ap, ◌∙◌}
use mathlib.Core.Bool.{true}
use mathlib.Core.Logic.{◌⊎◌, inl, inr}
use mathlib.Core.List.{List, [], ◌∷◌, ◌++◌, map}
use lib.Dec.{eqb}
use borrow.Author.Tests.{eqb-true}
use Rattle.logic.proofs.Tests.{by_test}
use Rattle.calls.specs.declared.Opening.{Opening}
use Rattle.calls.specs.declared.Ask.{Ask}
use Rattle.calls.specs.declared.Ask.TheVariants.{Open, OnTable}
use Rattle.calls.specs.Requests.{request}
use Rattle.rights.specs.Rights.{dispatcher, may_ask}
use Rattle.train.specs.Ranges.{settings_in_range, settings_of}
use Rattle.table.specs.declared.Table.{Table}
use Rattle.table.specs.Table.{empty_table}
use Rattle.line.specs.declared.Decision.{Decision}
use Rattle.line.specs.Decide.{open_decision, decide_on, decided}
use Rattle.line.specs.Step.{carried_out, requested, no_table, open_step}
use Rattle.line.proofs.Steps.{open_taken, open_refused}
use Rattle.safety.specs.History.{Deed, Event, history, told}
use Rattle.safety.specs.History as History
use Rattle.safety.proofs.Calls.{event}
use Rattle.safety.proofs.Demand3.{demand_3}
use Rattle.safety.proofs.Plain.{Plainly, TableOf, claimed, tabled}
use Rattle.wire.specs.Format.{line_read}
use Rattle.stream.specs.declared.Session.{Session}
use Rattle.stream.specs.declared.Reply.{Reply}
use Rattle.stream.specs.Session.{session, closed, line_decision, replied, answered}
use Rattle.stream.specs.Input.{after}
use Rattle.stream.specs.Demand3.{deed_in, deeds_in, events_in, Opened}

-- the reply to what was read
abbrev pub replied_to : Session → Option Request → Reply
replied_to s r = replied s (line_decision s r)

-- ---- since the opening

-- the lines ls leave what their requests leave, and these get the answers of a history
abbrev Follows : Table → List (List ℕ) → Type 0
Follows t ls = (after (session true t) ls ≡ session true (History.after t (deeds_in ls))) × (events_in (session true t) ls ≡ history t (deeds_in ls))

follows : (t : Table) (ls : List (List ℕ)) → Follows t ls
unfolding after line_decision deeds_in events_in History.after history
follows t [] = (refl, refl)
follows t (l ∷ ls) = go (line_read l) (λ u. follows u ls)
  where
    go : (r : Option Request) → ((u : Table) → Follows u ls)
        → (after (replied_to (session true t) r).session ls ≡ session true (History.after t (deed_in r ++ deeds_in ls)))
        × (map (λ (d : Deed). record { deed = d; answer = (replied_to (session true t) r).answer }) (deed_in r) ++ events_in (replied_to (session true t) r).session ls ≡ history t (deed_in r ++ deeds_in ls))
    go (Some r) next =
        let f = next (requested true t r).table in (f.0, ap (λ (es : List Event). event r (requested true t r).answer ∷ es) f.1)
    go None next = next t

-- ---- before it

abbrev Safe : List (List ℕ) → Type 0
Safe ls = (after closed ls ≡ closed) ⊎ Opened ls

module _ (l : List ℕ) (ls : List (List ℕ)) where
  leaves : (r : Option Request) → line_read l ≡ r → (answered closed l).session ≡ (replied_to closed r).session
  leaves r e = ap (λ (q : Option Request). (replied_to closed q).session) e

  -- a line that opens nothing alters nothing
  safe_skip : (answered closed l).session ≡ closed → Safe ls → Safe (l ∷ ls)
  unfolding after
  safe_skip e (inl none) = inl (ap (λ (s : Session). after s ls) e ∙ none)
  safe_skip e (inr o) =
      inr (record {
        earlier = l ∷ o.earlier;
        line = o.line;
        since = o.since;
        given = o.given;
        table = o.table;
        all = ap (λ (ms : List (List ℕ)). l ∷ ms) o.all;
        not_yet = ap (λ (s : Session). after s o.earlier) e ∙ o.not_yet;
        opening = o.opening;
        accepted = o.accepted;
        opens = o.opens;
        now = ap (λ (s : Session). after s ls) e ∙ o.now;
        events = o.events;
        demand = o.demand;
      })

  module _ (o : Opening) (read : line_read l ≡ Some (request 0 (Open o))) where
    opening_leaves : (d : Decision) → open_decision o ≡ d → (answered closed l).session ≡ (replied closed d).session
    unfolding line_decision decided decide_on may_ask
    opening_leaves d e = leaves (Some (request 0 (Open o))) read ∙ ap (λ (v : Decision). (replied closed v).session) e

    safe_opened : settings_in_range o ≡ true → Opened (l ∷ ls)
    unfolding after open_step
    safe_opened ok =
        let t = empty_table (settings_of o) in
        let opens = opening_leaves _ (open_taken o ok) in
        let accepted = ap (carried_out no_table) (open_taken o ok) in
        let f = follows t ls in
        record {
          earlier = [];
          line = l;
          since = ls;
          given = o;
          table = t;
          all = refl;
          not_yet = refl;
          opening = read;
          accepted = accepted;
          opens = opens;
          now = ap (λ (s : Session). after s ls) opens ∙ f.0;
          events = f.1;
          demand = demand_3 o t accepted (deeds_in ls);
        }

    safe_opening : Safe ls → Safe (l ∷ ls)
    safe_opening next =
        by_test (settings_in_range o)
        (λ ok. inr (safe_opened ok))
        (λ bad. safe_skip (opening_leaves _ (open_refused o bad)) next)

  safe_line : (r : Option Request) → line_read l ≡ r → Safe ls → Safe (l ∷ ls)
  unfolding line_decision decided may_ask
  safe_line (Some r) e = go r.ask refl
    where
      -- the state after it
      by_asks : (a : Ask) → r.ask ≡ a → (answered closed l).session ≡ (replied_to closed (Some (request r.caller a))).session
      by_asks a q = leaves (Some r) e ∙ ap (λ (a : Ask). (replied_to closed (Some (request r.caller a))).session) q

      go : (a : Ask) → r.ask ≡ a → Safe ls → Safe (l ∷ ls)
      go (Open o) q =
          by_test (eqb r.caller dispatcher)
          (λ right. safe_opening o (e ∙ ap (λ (a : Ask). Some (request r.caller a)) q ∙ ap (λ (n : ℕ). Some (request n (Open o))) (eqb-true r.caller 0 right)))
          (λ lacks. safe_skip (by_asks (Open o) q ∙ rw lacks))
      go (OnTable c) q = safe_skip (by_asks (OnTable c) q)
  safe_line None e = safe_skip (leaves None e)

-- Whatever lines a session is given: no opening among them was accepted, and the session is as at the start; or one was, what followed
-- is a history on the table that it made, and demand 3 holds of that history.
pub session_safe : (ls : List (List ℕ)) → (after closed ls ≡ closed) ⊎ Opened ls
unfolding after
session_safe [] = inl refl
session_safe (l ∷ ls) = safe_line l ls (line_read l) refl (session_safe ls)

-- In the second case, in numbers and fields (safety/proofs/Plain): of the trains that the lines since the opening tell of, by what they ask and
-- by what they are answered, and of the table of the session after all lines.
pub session_plainly : (ls : List (List ℕ)) (w : Opened ls) → let xs = (told w.given (events_in (session true w.table) w.since)).trains in
    Plainly w.given xs × TableOf w.given xs (after closed ls).table × ((after closed ls).opened ≡ true)
session_plainly ls w =
    rw (w.events, w.now) (claimed w.given w.table (deeds_in w.since) w.demand, tabled w.given w.table (deeds_in w.since) w.demand, refl)
