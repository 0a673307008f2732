-- What stays true of a train on the line, whatever is called: a property of its record that its own acts keep.
-- Assumes nothing.
use Rattle.std.specs.Prelude.{None, Some, Option}
use Prim.Native.Nat.{ℕ, zero, suc, ◌<◌}
use mathlib.Core.Bool.{true}
use mathlib.Core.Logic.{by_cases}
use mathlib.Core.Path.{◌≡◌, refl, sym, ap, ◌∙◌, subst}
use native.Mathlib.Decide.{ℕ_discrete}
use native.Mathlib.Omega.{arith}
use Rattle.brake.specs.declared.Figures.{Figures}
use Rattle.calls.specs.declared.Opening.{Opening}
use Rattle.calls.specs.declared.Entry.{Entry}
use Rattle.calls.specs.declared.Act.{Act}
use Rattle.calls.specs.declared.Call.{Call}
use Rattle.calls.specs.declared.Call.TheVariants.{Enter, Own, TakeOff}
use Rattle.calls.specs.declared.Ask.{Ask}
use Rattle.calls.specs.declared.Ask.TheVariants.{Open, OnTable}
use Rattle.calls.specs.declared.Request.{Request}
use Rattle.calls.specs.declared.Refusal.{Refusal}
use Rattle.calls.specs.Answers.{numbers_of}
use Rattle.calls.specs.Checks.{first_of}
use Rattle.calls.proofs.Answers.{accepted_0, refusal_range}
use Rattle.train.specs.declared.Train.{Train}
use Rattle.train.specs.declared.Settings.{Settings}
use Rattle.train.specs.Ranges.{WorksWith}
use Rattle.train.specs.Record.{entering}
use Rattle.acts.specs.Acts.{may_leave}
use Rattle.acts.specs.Decide.{decide}
use Rattle.acts.proofs.Sentences.{leaves_exactly, act_leaves}
use Rattle.table.specs.declared.Table.{Table}
use Rattle.table.specs.declared.Change.TheVariants.{Put, Add, DropFirst}
use Rattle.table.specs.Table.{places, place_of, train_at, changed}
use Rattle.table.proofs.Places.{found_below, still_found, still_there}
use Rattle.table.proofs.Trains.{Sized, sized_with, sized_last, sized_without_first}
use Rattle.table.proofs.Spare.{Tidy, tidy_with, tidy_last, tidy_without_first}
use Rattle.table.proofs.Sentences.{FirstWith, found_exactly, put_leaves, add_leaves, drop_leaves}
use Rattle.line.specs.declared.Decision.{Decision}
use Rattle.line.specs.Decide.{refused, ruling_at, decide_on}
use Rattle.line.specs.Step.{carried_out, requested}
use Rattle.line.proofs.Steps.{step, any_call, any_request}

-- ---- the table has its 32 places, and no more are in use

pub sized_step : (t : Table) → Sized t → (c : Call) → Sized (step t c).table
unfolding step
sized_step t sized =
    any_call t (λ c d. Sized (changed t d.change))
    (record {
      refuses = λ c r. sized;
      enters = λ e k a. sized_last t (entering e k) sized a.room;
      acts = λ j p a f q. sized_with t p _ sized;
      leaves = λ j p f may. let below = found_below t j p f in sized_without_first t sized (omega arith);
    })

pub sized_request : (t : Table) → Sized t → (r : Request) → Sized (requested true t r).table
unfolding step
sized_request t sized = any_request t (λ r d. Sized (changed t d.change)) (λ r why. sized) (λ r c asks. sized_step t sized c)

-- ---- and those behind the last train are blank

tidy_step : (t : Table) → Tidy t → (c : Call) → Tidy (step t c).table
unfolding step
tidy_step t tidy =
    any_call t (λ c d. Tidy (changed t d.change))
    (record {
      refuses = λ c r. tidy;
      enters = λ e k a. tidy_last t (entering e k) tidy a.room;
      acts = λ j p a f q. tidy_with t p _ tidy (found_below t j p f);
      leaves = λ j p f may. let below = found_below t j p f in tidy_without_first t tidy (omega arith);
    })

pub tidy_request : (t : Table) → Tidy t → (r : Request) → Tidy (requested true t r).table
unfolding step
tidy_request t tidy = any_request t (λ r d. Tidy (changed t d.change)) (λ r why. tidy) (λ r c asks. tidy_step t tidy c)

-- ---- the settings stay

settings_step : (t : Table) (c : Call) → (step t c).table.settings ≡ t.settings
unfolding step
settings_step t =
    any_call t (λ c d. (changed t d.change).settings ≡ t.settings)
    (record { refuses = λ c r. refl; enters = λ e k a. refl; acts = λ j p a f q. refl; leaves = λ j p f may. refl })

pub settings_request : (t : Table) (r : Request) → (requested true t r).table.settings ≡ t.settings
unfolding step
settings_request t = any_request t (λ r d. (changed t d.change).settings ≡ t.settings) (λ r why. refl) (λ r c asks. settings_step t c)

-- and with them the numbers that were opened
pub works_step : (o : Opening) (t : Table) → WorksWith o t.settings → (c : Call) → WorksWith o (step t c).table.settings
works_step o t works c = subst (WorksWith o) (sym (settings_step t c)) works

pub works_request : (o : Opening) (t : Table) → WorksWith o t.settings → (r : Request) → WorksWith o (requested true t r).table.settings
works_request o t works r = subst (WorksWith o) (sym (settings_request t r)) works

-- ---- an accepted act

-- the train that acted, at its place; it passed its checks, and its record there is another
pub record Acted (t : Table) (id : ℕ) (a : Act) (u : Table) : Type 0 where
  pub place : ℕ
  pub found : place_of t id ≡ Some place
  pub passes : first_of (ruling_at t a place).checks ≡ None
  pub table : u ≡ changed t (Put place (ruling_at t a place).after)

pub own_accepted : (t : Table) (id : ℕ) (a : Act) → (numbers_of (step t (Own id a)).answer).number ≡ 0 → Acted t id a (step t (Own id a)).table
unfolding step
own_accepted t id a =
    any_call t Shows
    (record {
      refuses = refuses;
      enters = λ e k a. tt;
      acts = λ j p a f q zero. record { place = p; found = f; passes = q; table = refl };
      leaves = λ j p f may. tt;
    }) (Own id a)
  where
    Shows : Call → Decision → Type 0
    Shows (Enter e) d = Unit {0}
    Shows (Own j a) d = (numbers_of d.answer).number ≡ 0 → Acted t j a (changed t d.change)
    Shows (TakeOff j) d = Unit {0}

    refuses : (c : Call) (r : Refusal) → Shows c (refused r)
    refuses (Enter e) r = tt
    refuses (Own j a) r = λ zero. let range = refusal_range r in absurd (omega arith)
    refuses (TakeOff j) r = tt

-- an accepted request is the step of the call that it asks for
pub request_taken : (t : Table) (r : Request) (c : Call) → r.ask ≡ OnTable c → (numbers_of (requested true t r).answer).number ≡ 0 → requested true t r ≡ step t c
unfolding step
request_taken t r c =
    any_request t Shows (λ q why asks taken. let range = refusal_range why in absurd (omega arith)) does r
  where
    Shows : Request → Decision → Type 0
    Shows q d = q.ask ≡ OnTable c → (numbers_of d.answer).number ≡ 0 → carried_out t d ≡ carried_out t (decide_on t (OnTable c))

    does : (q : Request) (e : Call) → q.ask ≡ OnTable e → Shows q (decide_on t (OnTable e))
    does q e asks same taken = ap (λ (a : Ask). carried_out t (decide_on t a)) (sym asks ∙ same)

-- ---- one train

-- the train with this id is on the line, and its record has the property Q
pub record Holds (Q : Train → Type 0) (id : ℕ) (t : Table) : Type 0 where
  pub place : ℕ
  pub found : place_of t id ≡ Some place
  pub so : Q (train_at t place)

-- what is asked, with this answer number, does not take it off, and if it is an accepted act of it, keeps the property
abbrev pub Keeps : (Train → Type 0) → ℕ → ℕ → Ask → Type 0
Keeps Q id n (Open o) = Unit {0}
Keeps Q id n (OnTable (Enter e)) = Unit {0}
Keeps Q id n (OnTable (Own j a)) =
    j ≡ id → n ≡ 0 → (σ : Settings) (limit : Option ℕ) (x : Train) → first_of (decide σ limit x a).checks ≡ None → Q x → Q (decide σ limit x a).after
Keeps Q id n (OnTable (TakeOff j)) = j ≡ id → n ≡ 0 → ⊥

module _ (Q : Train → Type 0) (id : ℕ) (t : Table) (sized : Sized t) (h : Holds Q id t) where
  abbrev i : ℕ
  i = h.place

  first : FirstWith t sized id i
  first = (found_exactly t sized id i).0 h.found

  after_enter : (e : Entry) (k : Figures) → t.count < places → Holds Q id (changed t (Add (entering e k)))
  after_enter e k free =
      let x = entering e k in
      let below = first.below in
      let there = add_leaves t x in
      record {
        place = i;
        found =
            (found_exactly (changed t (Add x)) (sized_last t x sized free) id i).1
            (record {
              below = omega arith;
              here = ap (λ (y : Train). y.id) (there i below) ∙ first.here;
              none_ahead = λ j before e. first.none_ahead j before (ap (λ (y : Train). y.id) (sym (there j (omega arith))) ∙ e);
            });
        so = subst Q (sym (there i below)) h.so;
      }

  after_act_lem : (j p : ℕ) (a : Act) → place_of t j ≡ Some p → first_of (ruling_at t a p).checks ≡ None → Keeps Q id 0 (OnTable (Own j a)) → Holds Q id (changed t (Put p (ruling_at t a p).after))
  after_act_lem j p a f q keeps =
      let y = (ruling_at t a p).after in
      let same = (act_leaves t.settings _ (train_at t p) a).id in
      record {
        place = i;
        found = still_found t p y (found_below t j p f) same id ∙ h.found;
        so =
            by_cases (ℕ_discrete i p)
            (λ e.
            let mine : j ≡ id = sym ((found_exactly t sized j p).0 f).here ∙ ap (λ (n : ℕ). (train_at t n).id) (sym e) ∙ first.here in
            subst Q (sym (still_there t j p y f) ∙ ap (λ (n : ℕ). train_at (changed t (Put p y)) n) (sym e)) (keeps mine refl _ _ _ q (subst (λ (n : ℕ). Q (train_at t n)) e h.so)))
            (λ e. subst Q (sym (put_leaves t p i y e)) h.so);
      }

  -- the train that leaves is the first, and another
  after_off : (j p : ℕ) → place_of t j ≡ Some p → may_leave p (train_at t p) ≡ true → (j ≡ id → ⊥) → Holds Q id (changed t DropFirst)
  after_off j p f may other = go i refl
    where
      at_front : p ≡ 0
      at_front = ((leaves_exactly p (train_at t p)).0 may).0

      go : (n : ℕ) → i ≡ n → Holds Q id (changed t DropFirst)
      go zero e = absurd (other (sym ((found_exactly t sized j p).0 f).here ∙ ap (λ (n : ℕ). (train_at t n).id) (at_front ∙ sym e) ∙ first.here))
      go (suc n) e =
          let below : suc n < t.count = subst (λ (m : ℕ). m < t.count) e first.below in
          let there = drop_leaves t sized in
          record {
            place = n;
            found =
                (found_exactly (changed t DropFirst) (sized_without_first t sized (omega arith)) id n).1
                (record {
                  below = omega arith;
                  here = ap (λ (y : Train). y.id) (there n below) ∙ ap (λ (m : ℕ). (train_at t m).id) (sym e) ∙ first.here;
                  none_ahead = λ m before q. first.none_ahead (suc m) (omega arith) (ap (λ (y : Train). y.id) (sym (there m (omega arith))) ∙ q);
                });
            so = subst Q (ap (λ (m : ℕ). train_at t m) e ∙ sym (there n below)) h.so;
          }

  after_call : (c : Call) → Keeps Q id (numbers_of (step t c).answer).number (OnTable c) → Holds Q id (step t c).table
  unfolding step
  after_call =
      any_call t (λ c d. Keeps Q id (numbers_of d.answer).number (OnTable c) → Holds Q id (changed t d.change))
      (record {
        refuses = λ c r keeps. h;
        enters = λ e k a keeps. after_enter e k a.room;
        acts = λ j p a f q keeps.
            after_act_lem j p a f q (subst (λ (n : ℕ). Keeps Q id n (OnTable (Own j a))) (accepted_0 (ruling_at t a p).gives) keeps);
        leaves = λ j p f may off. after_off j p f may (λ mine. off mine refl);
      })

  -- after any request that keeps it
  pub still_holds : (r : Request) → Keeps Q id (numbers_of (requested true t r).answer).number r.ask → Holds Q id (requested true t r).table
  unfolding step
  still_holds =
      any_request t (λ r d. Keeps Q id (numbers_of d.answer).number r.ask → Holds Q id (changed t d.change)) (λ r why keeps. h)
      (λ r c asks keeps. after_call c (subst (Keeps Q id (numbers_of (step t c).answer).number) asks keeps))
