-- Which train an id names, what a change leaves at each place, and the limit there, said a second time: in places, ids and sums.
-- Assumes nothing.
use Rattle.std.specs.Prelude.{Option, None, Some}
use Prim.Native.Nat.{ℕ, suc, ◌+◌, ◌-◌, ◌*◌, ◌≤◌, ◌<◌}
use mathlib.Core.Bool.{false}
use mathlib.Core.List.{List}
use mathlib.Core.Logic.{by_cases, ◌↔◌}
use mathlib.Core.Path.{◌≡◌, refl, sym, ap, ◌∙◌, subst}
use native.Mathlib.Decide.{dec_lt}
use native.Mathlib.Omega.{arith}
use lib.ListN.{get_or}
use lib.Seq.{get_or-set_same, get_or-set_other, get_or-drop}
use Rattle.motion.specs.declared.Order.TheVariants.{Drive}
use Rattle.calls.specs.declared.Opening.{Opening}
use Rattle.train.specs.declared.Train.{Train}
use Rattle.train.specs.Ranges.{WorksWith}
use Rattle.train.proofs.Records.{settings_given}
use Rattle.train.proofs.Track.{InLimit}
use Rattle.train.proofs.Sentences.{limit_of_the_first, limit_behind_lem}
use Rattle.table.specs.declared.Table.{Table}
use Rattle.table.specs.declared.Change.TheVariants.{Put, Add, DropFirst, Anew}
use Rattle.table.specs.Table.{blank_train, on_line, place_of, train_at, ahead_of, limit_at, changed}
use Rattle.table.proofs.Seen.{id_at, Seen, seen}
use Rattle.table.proofs.Trains.{Sized, line_length, train_on_line, line_without_first}

-- ---- a place without a train

-- document 02, (v): "zeros, drive with cap 0 as the order"
abbrev pub zero_record : Train
zero_record =
    record {
      id = 0;
      length = 0;
      figures = record { full = 0; growth = 0 };
      motion = record { head = 0; speed = 0; level = 0 };
      order = Drive 0;
      authority = record { end = 0; goal = 0; start = 0; number = 0; length = 0 };
      marks = record { held = false; penalty = false };
    }

pub blank_zeros : blank_train ≡ zero_record
blank_zeros = refl

-- ---- on the line

module _ (t : Table) (sized : Sized t) (id : ℕ) where
  -- the train at place i, and none ahead of it, has this id
  pub record FirstWith (i : ℕ) : Type 0 where
    pub below : i < t.count
    pub here : (train_at t i).id ≡ id
    pub none_ahead : (j : ℕ) → j < i → (train_at t j).id ≡ id → ⊥

  abbrev Without : Type 0
  Without = (j : ℕ) → j < t.count → (train_at t j).id ≡ id → ⊥

  here_on_line : (j : ℕ) → j < t.count → id_at (on_line t) j ≡ (train_at t j).id
  here_on_line j below = ap (λ (x : Train). x.id) (sym (train_on_line t j below))

  first_with : (i : ℕ) → place_of t id ≡ Some i → FirstWith i
  unfolding place_of
  first_with i e =
      let (j, place, below, here, first) = subst (Seen (on_line t) id 0) e (seen (on_line t) id 0) in
      let all = line_length t sized in
      let same : j ≡ i = omega arith in
      let within_count : i < t.count = omega arith in
      record {
        below = within_count;
        here = sym (here_on_line i within_count) ∙ (rw (← same) here);
        none_ahead = λ m before e. first m (omega arith) (here_on_line m (omega arith) ∙ e);
      }

  without : place_of t id ≡ None → Without
  unfolding place_of
  without e j below here =
      let all = line_length t sized in
      subst (Seen (on_line t) id 0) e (seen (on_line t) id 0) j (omega arith) (here_on_line j below ∙ here)

  one_first : (i j : ℕ) → FirstWith i → FirstWith j → i ≡ j
  one_first i j a b =
      by_cases (dec_lt i j)
      (λ h. absurd (b.none_ahead i h a.here))
      (λ h. by_cases (dec_lt j i) (λ k. absurd (a.none_ahead j k b.here)) (λ k. omega arith))

  pub found_exactly : (i : ℕ) → (place_of t id ≡ Some i) ↔ FirstWith i
  found_exactly i = (first_with i, λ a. go a (place_of t id) refl)
    where
      go : FirstWith i → (f : Option ℕ) → place_of t id ≡ f → f ≡ Some i
      go a None e = absurd (without e i a.below a.here)
      go a (Some j) e = ap (λ (n : ℕ). Some n) (one_first j i (first_with j e) a)

  pub absent_exactly : (place_of t id ≡ None) ↔ Without
  absent_exactly = (without, λ h. go h (place_of t id) refl)
    where
      go : Without → (f : Option ℕ) → place_of t id ≡ f → f ≡ None
      go h None e = refl
      go h (Some i) e = let a = first_with i e in absurd (h i a.below a.here)

-- ---- what a change leaves at each place, how many trains, and with which settings

pub record Leaves (count : ℕ) (before after : Table) : Type 0 where
  pub trains : after.count ≡ count
  pub settings : after.settings ≡ before.settings

-- another record at place i (Places: still_there), and all others as they were
pub put_leaves : (t : Table) (i j : ℕ) (x : Train) → (j ≡ i → ⊥) → train_at (changed t (Put i x)) j ≡ train_at t j
put_leaves t i j x other = get_or-set_other t.trains i j x blank_train other

pub put_as_many : (t : Table) (i : ℕ) (x : Train) → Leaves t.count t (changed t (Put i x))
put_as_many t i x = record { trains = refl; settings = refl }

-- "behind the last train"
pub add_leaves : (t : Table) (x : Train) (j : ℕ) → j < t.count → train_at (changed t (Add x)) j ≡ train_at t j
add_leaves t x j below = get_or-set_other t.trains t.count j x blank_train (λ e. omega arith)

pub add_last : (t : Table) (x : Train) → Sized t → t.count < 32 → train_at (changed t (Add x)) t.count ≡ x
add_last t x sized free = let size = sized.size in get_or-set_same t.trains t.count x blank_train (omega arith)

pub add_one_more : (t : Table) (x : Train) → Leaves (t.count + 1) t (changed t (Add x))
add_one_more t x = record { trains = refl; settings = refl }

-- the others one place nearer the front
pub drop_leaves : (t : Table) → Sized t → (j : ℕ) → suc j < t.count → train_at (changed t DropFirst) j ≡ train_at t (suc j)
drop_leaves t sized j below =
    let next : 1 + j ≡ suc j = omega arith in
    train_on_line (changed t DropFirst) j (omega arith)
    ∙ ap (λ (xs : List Train). get_or xs j blank_train) (line_without_first t sized)
    ∙ get_or-drop 1 (on_line t) j blank_train
    ∙ ap (λ (n : ℕ). get_or (on_line t) n blank_train) next
    ∙ sym (train_on_line t (suc j) below)

pub drop_one_fewer : (t : Table) → Leaves (t.count - 1) t (changed t DropFirst)
drop_one_fewer t = record { trains = refl; settings = refl }

-- "makes a new table with these settings and no train", whatever table was there
pub anew_leaves : (t : Table) (o : Opening) → WorksWith o (changed t (Anew o)).settings × ((changed t (Anew o)).count ≡ 0)
anew_leaves t o = (settings_given o, refl)

-- ---- the limit of each place

-- "for the first train it is the line end"
pub limit_in_front : (t : Table) (place : ℕ) → InLimit (limit_at t 0) place ↔ (place ≤ t.settings.end)
unfolding ahead_of
limit_in_front t place = limit_of_the_first t.settings place

-- "the rear of the train ahead minus the safety distance"
pub limit_further_back : (t : Table) (j place : ℕ)
    → InLimit (limit_at t (suc j)) place ↔ (place + t.settings.safety + 6096000 * (train_at t j).length ≤ (train_at t j).motion.head)
unfolding ahead_of
limit_further_back t j place = limit_behind_lem t.settings (train_at t j) place
