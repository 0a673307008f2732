-- A search and a moving up, one place at a time. No function walks so any more: these are laws of the table's words.
-- Assumes nothing.
use Rattle.std.specs.Prelude.{None, Some}
use Prim.Native.Nat.{ℕ, zero, suc, min, ◌+◌, ◌-◌, ◌≤◌, ◌<◌}
use mathlib.Core.List.{List, [], ◌∷◌, ◌++◌}
use mathlib.Core.Logic.{◌⊎◌, inl, inr, ⊎_elim, by_cases}
use native.Mathlib.Decide.{dec_le}
use mathlib.Core.Path.{◌≡◌, refl, sym, ap, ◌∙◌}
use native.Mathlib.Numerals.{add-one}
use native.Mathlib.Omega.{arith}
use lib.ListN.{length, take, drop, get_or, set, length-append, length-take, length-drop, drop_of_length-le}
use lib.Seq.{drop-cons, get_or-take, get_or-drop, get_or-append-add, take-nil, take-suc, take_all, set_at, append_snoc, length-take-le}
use borrow.Author.Tests.{eq-eqb, ne_eqb}
use Rattle.train.specs.declared.Train.{Train}
use Rattle.table.specs.declared.Table.{Table}
use Rattle.table.specs.declared.Change.TheVariants.{DropFirst}
use Rattle.table.specs.Table.{places, blank_train, on_line, place_in, place_of, train_at, ahead_of, changed}

-- ---- the search, from place i on

module _ (t : Table) (id i : ℕ) (size : length t.trains ≡ 32) where
  pub find_end : (t.count ≤ i) ⊎ (32 ≤ i) → place_in (drop i (on_line t)) id i ≡ None
  unfolding place_in
  find_end h =
      let past : length (on_line t) ≤ i = simp length-take (⊎_elim (λ a. omega arith) (λ a. omega arith) h) in
      rw (drop_of_length-le (on_line t) past)

  module _ (a : i < t.count) (b : i < 32) where
    from_place : drop i (on_line t) ≡ train_at t i ∷ drop (i + 1) (on_line t)
    from_place =
        let h : i < length (on_line t) = simp length-take (omega arith) in
        drop-cons (on_line t) i blank_train h ∙ (rw (get_or-take t.count t.trains i blank_train a, add-one))

    pub find_here : (train_at t i).id ≡ id → place_in (drop i (on_line t)) id i ≡ Some i
    unfolding place_in
    find_here e = rw (from_place, eq-eqb _ _ e)

    pub find_next : ((train_at t i).id ≡ id → ⊥) → place_in (drop i (on_line t)) id i ≡ place_in (drop (i + 1) (on_line t)) id (i + 1)
    unfolding place_in
    find_next e = rw (from_place, ne_eqb _ _ e, add-one)

-- ---- the train ahead of a place

pub ahead_first : (t : Table) (i : ℕ) → i ≡ 0 → ahead_of t i ≡ None
unfolding ahead_of
ahead_first t i e = rw e

pub ahead_behind : (t : Table) (i : ℕ) → (i ≡ 0 → ⊥) → ahead_of t i ≡ Some (train_at t (i - 1))
unfolding ahead_of
ahead_behind t zero h = absurd (h refl)
ahead_behind t (suc i) h = let e : suc i - 1 ≡ i = omega arith in rw e

-- ---- a search that has ended

-- A search for the train with this id has ended at place i, where a is the record ahead and x the record there: no train before place i has
-- the id, and the train there has it, if there is one.
pub record Ended (t : Table) (id i : ℕ) (a x : Train) : Type 0 where
  pub within : i ≤ min t.count places
  pub before : place_of t id ≡ place_in (drop i (on_line t)) id i
  pub here : i < min t.count places → (train_at t i).id ≡ id
  pub ahead : 0 < i → a ≡ train_at t (i - 1)
  pub there : i < min t.count places → x ≡ train_at t i

-- it has, where the train at place i has the id or there is none; j and k are the places of which the records are taken
pub search_ended : (t : Table) (id i j k : ℕ) → i ≤ min t.count 32 → place_of t id ≡ place_in (drop i (on_line t)) id i
    → (i < min t.count 32 → (train_at t i).id ≡ id) → j ≡ i - 1 → k ≡ min i 31 → Ended t id i (train_at t j) (train_at t k)
search_ended t id i j k within before here ahead there =
    record {
      within = within;
      before = before;
      here = here;
      ahead = λ h. ap (train_at t) ahead;
      there = λ h. let same : k ≡ i = omega arith in ap (train_at t) same;
    }

module _ (t : Table) (id i : ℕ) (a x : Train) (size : length t.trains ≡ 32) (e : Ended t id i a x) where
  -- at a train on the line: it is the one that was sought
  pub ended_here : i < min t.count 32 → place_of t id ≡ Some i
  ended_here h = e.before ∙ find_here t id i size (omega arith) (omega arith) (e.here h)

  -- behind all of them: no train has the id
  pub ended_behind : min t.count 32 ≤ i → place_of t id ≡ None
  ended_behind h = e.before ∙ find_end t id i size (by_cases (dec_le t.count i) (λ l. inl l) (λ l. inr (omega arith)))

-- ---- moving up

-- the first i records moved up, and the rest as they were
abbrev pub up_to : List Train → ℕ → List Train
up_to l i = take i (drop 1 l) ++ drop i l

drop_take : (k : ℕ) (l : List Train) → drop 1 (take (suc k) l) ≡ take k (drop 1 l)
drop_take k [] = sym (take-nil k)
drop_take k (x ∷ l) = refl

module _ (l : List Train) (size : length l ≡ 32) where
  behind_long : length (drop 1 l) ≡ 31
  behind_long = simp (length-drop) (omega arith)

  -- one record more
  up_next : (i : ℕ) → i < 31 → set (up_to l i) i (get_or l (i + 1) blank_train) ≡ up_to l (i + 1)
  up_next i h =
      let k = behind_long in
      let next : get_or (drop 1 l) i blank_train ≡ get_or l (i + 1) blank_train = get_or-drop 1 l i blank_train ∙ ap (λ (n : ℕ). get_or l n blank_train) (omega arith) in
      rw (← next, add-one, drop-cons l i blank_train (omega arith), take-suc (drop 1 l) i blank_train (omega arith))
      (set_at (take i (drop 1 l)) (get_or l i blank_train) (drop (suc i) l) (get_or (drop 1 l) i blank_train) i (length-take-le i (drop 1 l) (omega arith))
      ∙ sym (append_snoc (take i (drop 1 l)) (get_or (drop 1 l) i blank_train) (drop (suc i) l)))

  -- the next one is still where it was
  up_behind : (i : ℕ) → i < 31 → get_or (up_to l i) (i + 1) blank_train ≡ get_or l (i + 1) blank_train
  up_behind i h =
      let k = behind_long in
      let first : length (take i (drop 1 l)) ≡ i = length-take-le i (drop 1 l) (omega arith) in
      ap (λ (n : ℕ). get_or (up_to l i) (n + 1) blank_train) (sym first)
      ∙ get_or-append-add (take i (drop 1 l)) (drop i l) 1 blank_train
      ∙ get_or-drop i l 1 blank_train

  -- there are as many
  up_long : (i : ℕ) → i ≤ 31 → length (up_to l i) ≡ 32
  up_long i h =
      let k = behind_long in
      let first : length (take i (drop 1 l)) ≡ i = length-take-le i (drop 1 l) (omega arith) in
      let rest = length-drop i l in
      length-append (take i (drop 1 l)) (drop i l) ∙ omega arith

  -- of n trains, 32 at most have a place; i is that of the last one
  module _ (n i : ℕ) (last : suc i ≡ min n 32) where
    all_taken : take n l ≡ take (suc i) l
    all_taken =
        by_cases (dec_le n 32)
        (λ h. let same : n ≡ suc i = omega arith in ap (λ (k : ℕ). take k l) same)
        (λ h. take_all n l (omega arith) ∙ sym (take_all (suc i) l (omega arith)))

    all_dropped : drop n l ≡ drop (suc i) l
    all_dropped =
        by_cases (dec_le n 32)
        (λ h. let same : n ≡ suc i = omega arith in ap (λ (k : ℕ). drop k l) same)
        (λ h. drop_of_length-le l {i = n} (omega arith) ∙ sym (drop_of_length-le l {i = suc i} (omega arith)))

    -- and a blank record there
    up_last : set (up_to l i) i blank_train ≡ drop 1 (take n l) ++ (blank_train ∷ drop n l)
    up_last =
        rw (all_taken, all_dropped, drop_take i l, drop-cons l i blank_train (omega arith))
        (set_at (take i (drop 1 l)) (get_or l i blank_train) (drop (suc i) l) blank_train i (length-take-le i (drop 1 l) (omega (arith, behind_long))))

-- ---- moving up in a table, where it stands

abbrev pub moved_up : Table → ℕ → Table
moved_up t i = record { trains = up_to t.trains i; settings = t.settings; count = t.count }

module _ (t : Table) (size : length t.trains ≡ 32) where
  -- the record behind place i, put there
  pub moved_on : (u : Table) (i : ℕ) → i < 31 → u ≡ moved_up t i
      → record { trains = set u.trains i (get_or u.trains (i + 1) blank_train); settings = u.settings; count = u.count } ≡ moved_up t (i + 1)
  moved_on u i h e =
      ap (λ (v : Table). record { trains = set v.trains i (get_or v.trains (i + 1) blank_train); settings = v.settings; count = v.count }) e
      ∙ ap (λ (l : List Train). record { trains = l; settings = t.settings; count = t.count })
      (ap (set (up_to t.trains i) i) (up_behind t.trains size i h) ∙ up_next t.trains size i h)

  -- all moved up, and a blank record at the place of the last
  pub moved_all : (u : Table) (i last : ℕ) (b : Train) → 0 < t.count → i ≡ last → last ≡ min t.count 32 - 1 → u ≡ moved_up t i → b ≡ blank_train
      → record { trains = set u.trains last b; settings = u.settings; count = t.count - 1 } ≡ changed t DropFirst
  moved_all u i last b some_train same there e f =
      ap (λ (v : Table). record { trains = set v.trains last b; settings = v.settings; count = t.count - 1 }) (e ∙ ap (moved_up t) same)
      ∙ ap (λ (l : List Train). record { trains = l; settings = t.settings; count = t.count - 1 })
      (ap (set (up_to t.trains last) last) f ∙ up_last t.trains size t.count last (omega arith))

  -- a table that is moving up has all its places
  pub moved_long : (u : Table) (i : ℕ) → i ≤ 31 → u ≡ moved_up t i → length u.trains ≡ 32
  moved_long u i h e = ap (λ (v : Table). length v.trains) e ∙ up_long t.trains size i h
