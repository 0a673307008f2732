-- Repeats, over every list of deeds: "the repeat of an accepted one in the same stay adds none". `step` is what a call comes to by a caller with
-- the right; one without it leaves the table too (line/proofs/Rights: call_16).
-- Assumes nothing.
use Rattle.std.specs.Prelude.{Some, Ok, Err}
use Prim.Native.Nat.{ℕ, ◌≤◌, ◌<◌}
use mathlib.Core.Bool.{true}
use mathlib.Core.List.{List, [], ◌∷◌}
use mathlib.Core.Logic.{◌⊎◌, inl, inr}
use mathlib.Core.Path.{◌≡◌, refl, sym, ap, subst, ◌∙◌}
use native.Mathlib.Omega.{arith}
use borrow.Author.Tests.{eq-eqb}
use Rattle.calls.specs.declared.Opening.{Opening}
use Rattle.calls.specs.declared.Extension.{Extension}
use Rattle.calls.specs.declared.Act.{Act}
use Rattle.calls.specs.declared.Act.TheVariants.{Extend}
use Rattle.calls.specs.declared.Call.TheVariants.{Enter, Own, TakeOff}
use Rattle.calls.specs.declared.Ask.{Ask}
use Rattle.calls.specs.declared.Ask.TheVariants.{Open, OnTable}
use Rattle.calls.specs.declared.Request.{Request}
use Rattle.calls.specs.declared.Refusal.{Refusal}
use Rattle.calls.specs.declared.Values.TheVariants.{Extended, Zeros}
use Rattle.calls.specs.Answers.{numbers_of}
use Rattle.calls.specs.Requests.{request}
use Rattle.train.specs.declared.Train.{Train}
use Rattle.train.specs.Ranges.{WorksWith}
use Rattle.acts.specs.Acts.{is_repeat, extended}
use Rattle.acts.specs.Decide.{decide, verdict}
use Rattle.acts.proofs.Used.{extension_used, number_onward}
use Rattle.acts.proofs.Forms.{WellFormed}
use Rattle.acts.proofs.Sentences.{extension_repeated, extension_accepted, Leaves, act_leaves}
use Rattle.table.specs.declared.Table.{Table}
use Rattle.table.specs.Table.{place_of, train_at, limit_at}
use Rattle.table.proofs.Places.{found_below, still_found, still_there, put_same}
use Rattle.table.proofs.Trains.{Sized}
use Rattle.line.specs.Decide.{ruling_at}
use Rattle.line.specs.Step.{outcome, requested, open_step}
use Rattle.line.proofs.Steps.{step}
use Rattle.line.proofs.Rules.{own_step}
use Rattle.line.proofs.Stays.{Holds, Keeps, still_holds, sized_step, sized_request, works_step, works_request, own_accepted}
use Rattle.safety.specs.History.{Deed, made, tried, Event, history, after, is_accepted}
use Rattle.safety.proofs.Calls.{agrees}

-- ---- what stays true over a list of deeds

-- a deed with this answer number keeps it
abbrev KeepsBy : (Train → Type 0) → ℕ → ℕ → Deed → Type 0
KeepsBy Q id n (made r) = Keeps Q id n r.ask
KeepsBy Q id n (tried r) = Unit {0}

-- an event's deed keeps it where a request, if it is one, does
kept_by : (Q : Train → Type 0) (id : ℕ) (e : Event) → ((r : Request) → e.deed ≡ made r → Keeps Q id e.answer.number r.ask)
    → KeepsBy Q id e.answer.number e.deed
kept_by Q id e keeps = go e.deed refl
  where
    go : (d : Deed) → e.deed ≡ d → KeepsBy Q id e.answer.number d
    go (made r) is = keeps r is
    go (tried r) is = tt

-- each of them keeps it
abbrev KeepsAll : (Train → Type 0) → ℕ → List Event → Type 0
KeepsAll Q id [] = Unit {0}
KeepsAll Q id (e ∷ es) = KeepsBy Q id e.answer.number e.deed × KeepsAll Q id es

lasts : (Q : Train → Type 0) (id : ℕ) (ds : List Deed) (t : Table) → Sized t → Holds Q id t → KeepsAll Q id (history t ds) → Holds Q id (after t ds)
unfolding history after
lasts Q id [] t sized h keeps = h
lasts Q id (made r ∷ ds) t sized h keeps =
    lasts Q id ds (requested true t r).table (sized_request t sized r) (still_holds Q id t sized h r keeps.0) keeps.1
lasts Q id (tried r ∷ ds) t sized h keeps = lasts Q id ds t sized h keeps.1

-- ---- the present stay

-- the event is an accepted request that asks a, whoever called
abbrev pub Takes : Ask → Event → Type 0
Takes a e = (caller : ℕ) × (e.deed ≡ made (request caller a)) × (is_accepted e ≡ true)

pub takes : (e : Event) (r : Request) (a : Ask) → e.deed ≡ made r → r.ask ≡ a → e.answer.number ≡ 0 → Takes a e
unfolding is_accepted
takes e r a is asks zero = (r.caller, is ∙ ap (λ (b : Ask). made (request r.caller b)) asks, eq-eqb _ 0 zero)

-- no event takes the train off
abbrev pub Stays : ℕ → List Event → Type 0
Stays id [] = Unit {0}
Stays id (e ∷ es) = (Takes (OnTable (TakeOff id)) e → ⊥) × Stays id es

-- the number n has been accepted in this stay, at the latest as the last one
abbrev Used : ℕ → Train → Type 0
Used n x = (x.authority.start < n) × (n ≤ x.authority.number)

module _ (id n : ℕ) where
  used_kept : (c : Ask) (m : ℕ) → (c ≡ OnTable (TakeOff id) → m ≡ 0 → ⊥) → Keeps (Used n) id m c
  used_kept (Open o) m off = tt
  used_kept (OnTable (Enter e)) m off = tt
  used_kept (OnTable (Own j a)) m off = λ mine zero σ limit x passes used.
      let start = (act_leaves σ limit x a).start in
      let onward = number_onward σ limit x a passes in
      let above = used.0 in
      let within = used.1 in
      (omega arith, omega arith)
  used_kept (OnTable (TakeOff j)) m off = λ mine. off (ap (λ (k : ℕ). OnTable (TakeOff k)) mine)

  used_all : (es : List Event) → Stays id es → KeepsAll (Used n) id es
  used_all [] stays = tt
  used_all (e ∷ es) stays =
      (kept_by (Used n) id e (λ r is. used_kept r.ask e.answer.number (λ asks zero. stays.0 (takes e r _ is asks zero))), used_all es stays.1)

-- an extension with a number that was accepted in this stay leaves the whole table
used_leaves : (t : Table) (id : ℕ) (q : Extension) → Holds (Used q.number) id t → (step t (Own id (Extend q))).table ≡ t
used_leaves t id q h = go (extension_used t.settings (limit_at t i) x q h.so.0 h.so.1)
  where
    i : ℕ
    i = h.place

    x : Train
    x = train_at t i

    go : ((r : Refusal) × (verdict (decide t.settings (limit_at t i) x (Extend q)) ≡ Err r))
        ⊎ (verdict (decide t.settings (limit_at t i) x (Extend q)) ≡ Ok ((Extended x.authority.end true), x))
        → (step t (Own id (Extend q))).table ≡ t
    go (inl (r, e)) = rw (own_step t id i h.found (Extend q) _ e)
    go (inr e) = rw (own_step t id i h.found (Extend q) _ e) (put_same t i x refl)

-- ---- the last accepted extension

-- no event is an accepted extension of the train with another number
abbrev pub NoOther : ℕ → ℕ → List Event → Type 0
NoOther id n [] = Unit {0}
NoOther id n (e ∷ es) = ((p : Extension) → Takes (OnTable (Own id (Extend p))) e → p.number ≡ n) × NoOther id n es

-- q is the last accepted one
abbrev Last : Extension → Train → Type 0
Last q x = (x.authority.start < q.number) × (x.authority.number ≡ q.number) × (x.authority.length ≡ q.length)

module _ (id : ℕ) (q : Extension) where
  last_act : (x y : Train) (a : Act) → Leaves a x y → ((p : Extension) → a ≡ Extend p → p.number ≡ q.number) → Last q x → Last q y
  unfolding extended is_repeat
  last_act x y a leaves same last = go leaves.numbers
    where
      go : ((p : Extension) × (a ≡ Extend p) × (y ≡ extended x p)) ⊎ ((y.authority.number ≡ x.authority.number) × (y.authority.length ≡ x.authority.length)) → Last q y
      go (inl (p, e, again)) =
          let repeat : p.number ≡ x.authority.number = same p e ∙ sym last.1 in
          let unmoved : y ≡ x = again ∙ (rw (eq-eqb p.number x.authority.number repeat)) in
          subst (Last q) (sym unmoved) last
      go (inr (number, length)) = (rw leaves.start last.0, number ∙ last.1, length ∙ last.2)

  last_kept : (c : Ask) (m : ℕ) → (c ≡ OnTable (TakeOff id) → m ≡ 0 → ⊥)
      → ((p : Extension) → c ≡ OnTable (Own id (Extend p)) → m ≡ 0 → p.number ≡ q.number) → Keeps (Last q) id m c
  last_kept (Open o) m off same = tt
  last_kept (OnTable (Enter e)) m off same = tt
  last_kept (OnTable (Own j a)) m off same = λ mine zero σ limit x passes last.
      last_act x (decide σ limit x a).after a (act_leaves σ limit x a) (λ p e. same p (ap (λ (k : ℕ). OnTable (Own k a)) mine ∙ ap (λ (b : Act). OnTable (Own id b)) e) zero) last
  last_kept (OnTable (TakeOff j)) m off same = λ mine. off (ap (λ (k : ℕ). OnTable (TakeOff k)) mine)

  last_all : (es : List Event) → Stays id es → NoOther id q.number es → KeepsAll (Last q) id es
  last_all [] stays other = tt
  last_all (e ∷ es) stays other = (
    kept_by (Last q) id e
        (λ r is. last_kept r.ask e.answer.number (λ asks zero. stays.0 (takes e r _ is asks zero)) (λ p asks zero. other.0 p (takes e r _ is asks zero))),
    last_all es stays.1 other.1,
  )

works_after : (o : Opening) (ds : List Deed) (t : Table) → WorksWith o t.settings → WorksWith o (after t ds).settings
unfolding after
works_after o [] t works = works
works_after o (made r ∷ ds) t works = works_after o ds (requested true t r).table (works_request o t works r)
works_after o (tried r ∷ ds) t works = works_after o ds t works

-- ---- over every list of deeds

-- on the line that an accepted opening made, after the calls `before`, the extension q of the train is called and accepted
module _ (o : Opening) (t : Table) (opened : open_step o ≡ outcome (Ok Zeros) t) (before : List Deed) (id : ℕ) (q : Extension)
    (accepted : (numbers_of (step (after t before) (Own id (Extend q))).answer).number ≡ 0) where
  abbrev then : Table
  then = after t before

  abbrev granted : Table
  granted = (step then (Own id (Extend q))).table

  sized : Sized granted
  sized = sized_step then (agrees o t opened before).sized (Own id (Extend q))

  formed : WellFormed then.settings q
  formed = let a = own_accepted then id (Extend q) accepted in (extension_accepted then.settings (limit_at then a.place) (train_at then a.place) q a.passes).formed

  last_now : Holds (Last q) id granted
  last_now =
      let a = own_accepted then id (Extend q) accepted in
      let x = train_at then a.place in
      let y = (ruling_at then (Extend q) a.place).after in
      let p = extension_accepted then.settings (limit_at then a.place) x q a.passes in
      let here = still_there then id a.place y a.found in
      subst (Holds (Last q) id) (sym a.table)
      (record {
        place = a.place;
        found = still_found then a.place y (found_below then id a.place a.found) (act_leaves then.settings (limit_at then a.place) x (Extend q)).id id ∙ a.found;
        so = subst (Last q) (sym here) (rw p.start p.above, p.number, p.length);
      })

  used_now : Holds (Used q.number) id granted
  used_now =
      let h = last_now in
      let above = h.so.0 in
      let number = h.so.1 in
      record { place = h.place; found = h.found; so = (above, omega arith) }

  -- whatever was called since, in the same stay
  module _ (since : List Deed) (stays : Stays id (history granted since)) where
    abbrev now : Table
    now = after granted since

    -- the same number, with any length, leaves the whole table
    pub repeat_adds_none : (p : Extension) → p.number ≡ q.number → (step now (Own id (Extend p))).table ≡ now
    repeat_adds_none p same =
        used_leaves now id p
        (subst (λ (n : ℕ). Holds (Used n) id now) (sym same)
        (lasts (Used q.number) id since granted sized used_now (used_all id q.number (history granted since) stays)))

    -- the line end is still the one that was opened
    still_formed : WellFormed now.settings q
    still_formed =
        let works = (agrees o t opened before).settings in
        let end = (works_after o since granted (works_step o then works (Own id (Extend q)))).end ∙ sym works.end in
        record {
          number_least = formed.number_least;
          number_most = formed.number_most;
          length_least = formed.length_least;
          length_most = rw end formed.length_most;
        }

    -- as the last accepted one, with its length, it is answered with the end of now and 1
    pub last_repeated : NoOther id q.number (history granted since) → (i : ℕ) → place_of now id ≡ Some i
        → step now (Own id (Extend q)) ≡ outcome (Ok (Extended (train_at now i).authority.end true)) now
    last_repeated other i found =
        let h = lasts (Last q) id since granted sized last_now (last_all id q (history granted since) stays other) in
        let here : h.place ≡ i = cc h.found in
        let (above, number, length) = subst (λ (n : ℕ). Last q (train_at now n)) here h.so in
        own_step now id i found (Extend q) _
        (extension_repeated now.settings (limit_at now i) (train_at now i) q still_formed above (sym number) (sym length))
        ∙ ap (outcome (Ok (Extended (train_at now i).authority.end true))) (put_same now i (train_at now i) refl)
