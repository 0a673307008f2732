-- Document 02, (v), in its words, on every table, for every caller and call: what a preview answers, and which record it shows.
-- Assumes nothing.
use Rattle.std.specs.Prelude.{Some, Err}
use Prim.Native.Nat.{ℕ}
use mathlib.Core.Bool.{true, false}
use mathlib.Core.Logic.{inl, inr}
use mathlib.Core.Path.{◌≡◌, refl, sym, ap, subst, ◌∙◌}
use native.Mathlib.Omega.{arith}
use lib.ListN.{length}
use Rattle.logic.proofs.Tests.{by_test}
use Rattle.brake.specs.declared.Figures.{Figures}
use Rattle.calls.specs.declared.Opening.{Opening}
use Rattle.calls.specs.declared.Entry.{Entry}
use Rattle.calls.specs.declared.Act.{Act}
use Rattle.calls.specs.declared.Call.{Call}
use Rattle.calls.specs.declared.Call.TheVariants.{Enter, Own, TakeOff}
use Rattle.calls.specs.declared.Ask.{Ask}
use Rattle.calls.specs.declared.Ask.TheVariants.{Open, OnTable}
use Rattle.calls.specs.declared.Request.{Request}
use Rattle.calls.specs.declared.Refusal.{Refusal}
use Rattle.calls.specs.declared.Refusal.TheVariants.{NoRight}
use Rattle.calls.specs.Answers.{numbers_of}
use Rattle.calls.specs.Requests.{request}
use Rattle.calls.proofs.Answers.{refusal_range}
use Rattle.rights.specs.Rights.{may_ask}
use Rattle.rights.proofs.Callers.{Right, opens}
use Rattle.rights.proofs.Rights.{no_right}
use Rattle.train.specs.declared.Train.{Train}
use Rattle.train.specs.Record.{entering}
use Rattle.train.specs.Ranges.{settings_in_range}
use Rattle.train.proofs.Sentences.{Offers}
use Rattle.acts.proofs.Sentences.{act_leaves}
use Rattle.table.specs.declared.Table.{Table}
use Rattle.table.specs.declared.Change.TheVariants.{Put, Add}
use Rattle.table.specs.Table.{place_of, train_at, changed}
use Rattle.table.proofs.Places.{found_below, still_found, still_there}
use Rattle.table.proofs.Trains.{Sized, sized_last}
use Rattle.table.proofs.Sentences.{zero_record, found_exactly, absent_exactly, add_leaves, add_last}
use Rattle.line.specs.declared.Decision.{Decision}
use Rattle.line.specs.Decide.{refused, ruling_at, decide_on, out_of_turn, decided}
use Rattle.line.specs.Step.{requested, no_table}
use Rattle.line.specs.Preview.{needs_opening, previewed}
use Rattle.line.proofs.Steps.{Admitted, any_call, any_request, open_taken, open_refused}
use Rattle.line.proofs.Rules.{Kept, decision_kept, open_3, open_accepted}
use Rattle.line.proofs.Stays.{Holds}
use Rattle.line.proofs.Showing.{Shows}

-- ---- "answers exactly what the call would answer on a copy of the table"

pub preview_answers : (t : Table) (n : ℕ) (c : Call) → (previewed t (request n (OnTable c))).answer ≡ (requested true t (request n (OnTable c))).answer
preview_answers t n c = refl

-- an opening has no table: whatever table there is, it is answered as the first one
pub preview_opens : (t : Table) (n : ℕ) (o : Opening) → (previewed t (request n (Open o))).answer ≡ (requested false no_table (request n (Open o))).answer
unfolding decided decide_on
preview_opens t n o = refl

-- that is 16, 3 or 0, and never 2
module _ (t : Table) (o : Opening) where
  pub preview_opens_16 : (n : ℕ) → (n ≡ 0 → ⊥) → numbers_of (previewed t (request n (Open o))).answer ≡ record { number = 16; first = 0; second = 0; third = 0 }
  unfolding decided
  preview_opens_16 n other = rw (no_right n (Open o) (λ has. other (only n has)))
    where
      only : (n : ℕ) → Right n (Open o) → n ≡ 0
      only n opens = refl

  pub preview_opens_3 : (Offers o → ⊥) → numbers_of (previewed t (request 0 (Open o))).answer ≡ record { number = 3; first = 0; second = 0; third = 0 }
  unfolding decided decide_on may_ask
  preview_opens_3 out = rw (open_3 o out)

  pub preview_opens_0 : Offers o → numbers_of (previewed t (request 0 (Open o))).answer ≡ record { number = 0; first = 0; second = 0; third = 0 }
  unfolding decided decide_on may_ask
  preview_opens_0 offers = rw (open_accepted o offers)

-- ---- "and shows the named train's record as the copy would hold it"

-- a table with its 32 places: every table has them
module _ (t : Table) (size : length t.trains ≡ 32) where
  shows_refused : (c : Call) (why : Refusal) → Shows t c (refused why)
  shows_refused (Enter e) why = λ zero. let range = refusal_range why in absurd (omega arith)
  shows_refused (Own id a) why = λ zero. let range = refusal_range why in absurd (omega arith)
  shows_refused (TakeOff id) why = refl

  entered : (e : Entry) (k : Figures) → Admitted t e k → Holds (λ (x : Train). x ≡ entering e k) e.id (changed t (Add (entering e k)))
  entered e k a =
      let x = entering e k in
      let free = a.room in
      let sized : Sized t = record { size = size; count = omega arith } in
      let absent = (absent_exactly t sized e.id).0 a.absent in
      let last = add_last t x sized free in
      record {
        place = t.count;
        found =
            (found_exactly (changed t (Add x)) (sized_last t x sized free) e.id t.count).1
            (record {
              below = omega arith;
              here = ap (λ (y : Train). y.id) last;
              none_ahead = λ j before same. absent j before (ap (λ (y : Train). y.id) (sym (add_leaves t x j before)) ∙ same);
            });
        so = last;
      }

  acted : (id i : ℕ) (a : Act) → place_of t id ≡ Some i → Holds (λ (x : Train). x ≡ (ruling_at t a i).after) id (changed t (Put i (ruling_at t a i).after))
  acted id i a f =
      let y = (ruling_at t a i).after in
      record {
        place = i;
        found = still_found t i y (found_below t id i f) (act_leaves t.settings _ (train_at t i) a).id id ∙ f;
        so = still_there t id i y f;
      }

  call_shows : (c : Call) → Shows t c (decide_on t (OnTable c))
  call_shows =
      any_call t (Shows t)
      (record {
        refuses = shows_refused;
        enters = λ e k a zero. entered e k a;
        acts = λ id i a f passes zero. acted id i a f;
        leaves = λ id i f may. refl;
      })

  -- by any caller
  abbrev ShowsFor : Ask → Decision → Type 0
  ShowsFor (Open o) d = Unit {0}
  ShowsFor (OnTable c) d = Shows t c d

  request_shows : (r : Request) → ShowsFor r.ask (decided true t r)
  request_shows =
      any_request t (λ r d. ShowsFor r.ask d) (λ r why. go r.ask why)
      (λ r c asks. subst (λ (a : Ask). ShowsFor a (decide_on t (OnTable c))) (sym asks) (call_shows c))
    where
      go : (a : Ask) (why : Refusal) → ShowsFor a (refused why)
      go (Open o) why = tt
      go (OnTable c) why = shows_refused c why

  -- an accepted entering, and any accepted act: the train with this id is found in the table after the call, and its record there is the one shown
  pub preview_enters : (n : ℕ) (e : Entry) → let r = request n (OnTable (Enter e)) in
      (numbers_of (previewed t r).answer).number ≡ 0 → Holds (λ (x : Train). x ≡ (previewed t r).train) e.id (requested true t r).table
  preview_enters n e = request_shows (request n (OnTable (Enter e)))

  pub preview_acts : (n id : ℕ) (a : Act) → let r = request n (OnTable (Own id a)) in
      (numbers_of (previewed t r).answer).number ≡ 0 → Holds (λ (x : Train). x ≡ (previewed t r).train) id (requested true t r).table
  preview_acts n id a = request_shows (request n (OnTable (Own id a)))

  -- "a taking off ... shows zeros, drive with cap 0 as the order", accepted or not
  pub preview_takes_off : (n id : ℕ) → (previewed t (request n (OnTable (TakeOff id)))).train ≡ zero_record
  preview_takes_off n id = request_shows (request n (OnTable (TakeOff id)))

module _ (t : Table) where
  -- and "a refused call", whatever it is
  pub preview_refused : (r : Request) → ((numbers_of (previewed t r).answer).number ≡ 0 → ⊥) → (previewed t r).train ≡ zero_record
  preview_refused r refuses = go (decision_kept (needs_opening r.ask) t r)
    where
      go : Kept (decided (needs_opening r.ask) t r) → (previewed t r).train ≡ zero_record
      go (inl zero) = absurd (refuses zero)
      go (inr (zeros, stays)) = rw stays refl

  -- and "a call naming no train"
  pub preview_names_none : (n : ℕ) (o : Opening) → (previewed t (request n (Open o))).train ≡ zero_record
  unfolding decided decide_on
  preview_names_none n o =
      by_test (may_ask n (Open o))
      (λ may. rw may (by_test (settings_in_range o) (λ e. rw (open_taken o e)) (λ e. rw (open_refused o e))))
      (λ lacks. rw lacks)

-- ---- "rights are judged as in the real call"

-- no preview comes out of turn
in_turn : (a : Ask) → out_of_turn (needs_opening a) a ≡ false
in_turn (Open o) = refl
in_turn (OnTable c) = refl

module _ (r : Request) (lacks : Right r.caller r.ask → ⊥) where
  -- without the right it is 16 and zeros, whatever the table
  pub preview_16 : (t : Table) → previewed t r ≡ record { answer = Err NoRight; train = zero_record }
  unfolding decided
  preview_16 t = rw (in_turn r.ask, no_right r.caller r.ask lacks)

  -- so he learns the same on any two tables
  pub preview_learns_the_same : (t u : Table) → previewed t r ≡ previewed u r
  preview_learns_the_same t u = preview_16 t ∙ sym (preview_16 u)
