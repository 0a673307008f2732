-- Document 02, (iv), said a second time: the list in products, as far as it is B and from there on; and that it holds the levels which the
-- brake has cycle by cycle, so that stop travel read from it is stop travel.
-- Assumes nothing.
use Rattle.std.specs.Prelude.{Some}
use Prim.Native.Nat.{ℕ, zero, suc, ◌+◌, ◌-◌, ◌*◌, ◌≤◌, ◌<◌}
use mathlib.Core.List.{List, [], ◌∷◌}
use mathlib.Core.Logic.{by_cases}
use mathlib.Core.Path.{◌≡◌, refl, sym, ◌∙◌, ap}
use native.Mathlib.Decide.{dec_lt}
use native.Mathlib.Nat.{mul-le-mul_left, mul-le-mul_right, lt_of_mul-lt-mul_right}
use native.Mathlib.Omega.{arith}
use lib.ListN.{length, get_or, length-append, get_or-append}
use lib.Seq.{get_or_at}
use borrow.Author.Tests.{eq-eqb}
use Rattle.brake.specs.declared.Figures.{Figures}
use Rattle.brake.specs.Consist.{Sound, figures_of}
use Rattle.brake.proofs.Consist.{cycles_most, given_sound}
use Rattle.brake.proofs.Sentences.{PerCar, loaded, empty, unknown, cycles_described, figures_exactly}
use Rattle.logic.proofs.Rounding.{RoundedDown, RoundedUp, ceil_le, rounded_up, rounded_once}
use Rattle.logic.proofs.Tests.{by_test}
use Rattle.motion.specs.Motion.{brake_speed, next_level, stands, Cycle, braked_cycle, first_cycles, enough_cycles, braked_run, total_travel, stopping_distance}
use Rattle.motion.specs.Count.{cycles_to_full}
use Rattle.motion.proofs.Runs.{run_stands, run_moves}
use Rattle.caps.specs.Levels.{level_entry, first_entries, level_list, entry_of, read_cycles, stop_read}

-- ---- the entries

-- "entry k, counted from 0, is the lesser of k×j and B"
pub entry_grown : (k : Figures) (i : ℕ) → i * k.growth ≤ k.full → level_entry k i ≡ i * k.growth
unfolding level_entry
entry_grown k i h = omega arith

pub entry_full : (k : Figures) (i : ℕ) → k.full ≤ i * k.growth → level_entry k i ≡ k.full
unfolding level_entry
entry_full k i h = omega arith

-- "up to the first B": entry n is B, where n is B/j, rounded up, and none before it is
pub entry_first : (k : Figures) (n : ℕ) → RoundedUp n k.full k.growth → (level_entry k n ≡ k.full) × ((i : ℕ) → i < n → level_entry k i < k.full)
entry_first k n up = (
  entry_full k n up.enough,
  λ i h.
      let before = mul-le-mul_right k.growth h in
      let no_more = up.no_more in
      let less : i * k.growth < k.full = omega arith in
      rw (entry_grown k i (omega arith)) less,
)

-- "which then repeats"
pub entry_repeats : (k : Figures) (n i : ℕ) → level_entry k n ≡ k.full → n ≤ i → level_entry k i ≡ k.full
unfolding level_entry
entry_repeats k n i e h = let more = mul-le-mul_right k.growth h in omega arith

-- ---- how a list is read

-- what stands there
pub read_within : (list : List ℕ) (i : ℕ) → i < length list → entry_of list i ≡ get_or list i 0
unfolding entry_of
read_within list i h = ap (λ (place : ℕ). get_or list place 0) (omega arith)

-- past its end the last one
pub read_past : (list : List ℕ) (i : ℕ) → length list ≤ i → entry_of list i ≡ get_or list (length list - 1) 0
unfolding entry_of
read_past list i h = ap (λ (place : ℕ). get_or list place 0) (omega arith)

-- ---- the list

first_length : (k : Figures) (n : ℕ) → length (first_entries k n) ≡ n
unfolding first_entries
first_length k zero = refl
first_length k (suc n) = length-append (first_entries k n) (level_entry k n ∷ []) ∙ let before = first_length k n in omega arith

first_entry : (k : Figures) (n i : ℕ) → i < n → get_or (first_entries k n) i 0 ≡ level_entry k i
unfolding first_entries
first_entry k zero i h = absurd (omega arith)
first_entry k (suc n) i h =
    let size = first_length k n in
    by_cases (dec_lt i n)
    (λ before. get_or-append (first_entries k n) _ 0 i (omega arith) ∙ first_entry k n i before)
    (λ last. let e : i ≡ n = omega arith in rw e (get_or_at (first_entries k n) (level_entry k n) [] 0 n size))

-- an entry of it is that of its place
list_entry : (k : Figures) (i : ℕ) → i < length (level_list k) → get_or (level_list k) i 0 ≡ level_entry k i
unfolding level_list
list_entry k i h = first_entry k _ i (rw first_length at h)

module _ (k : Figures) (s : Sound k) where
  -- it has n + 1 entries, where n is B/j, rounded up
  pub list_length : (n : ℕ) → RoundedUp n k.full k.growth → length (level_list k) ≡ n + 1
  unfolding level_list
  list_length n up = first_length k _ ∙ ap (λ (m : ℕ). m + 1) (rounded_once n _ _ s.growth_positive up)

  -- the last is B, and none before it is
  pub list_first : (n : ℕ) → RoundedUp n k.full k.growth → (get_or (level_list k) n 0 ≡ k.full) × ((i : ℕ) → i < n → get_or (level_list k) i 0 < k.full)
  list_first n up =
      let size = list_length n up in
      let first = entry_first k n up in
      (list_entry k n (omega arith) ∙ first.0, λ i h. rw (list_entry k i (omega arith)) (first.1 i h))

  to_full : RoundedUp (cycles_to_full k) k.full k.growth
  to_full = rounded_up k.full k.growth s.growth_positive

  -- entry i is i×j, while that is at most B
  pub list_grown : (i : ℕ) → i * k.growth ≤ k.full → get_or (level_list k) i 0 ≡ i * k.growth
  list_grown i h =
      let within : i < cycles_to_full k + 1 = lt_of_mul-lt-mul_right k.growth (omega (arith, to_full.enough, s.growth_positive)) in
      list_entry k i (omega (arith, list_length _ to_full)) ∙ entry_grown k i h

  -- where entry i is B, it goes no further
  pub list_ends : (i : ℕ) → level_entry k i ≡ k.full → length (level_list k) ≤ i + 1
  unfolding level_entry
  list_ends i e = let last = ceil_le {a = k.full} i s.growth_positive (omega arith) in omega (arith, list_length _ to_full)

  -- "the first B, which then repeats": past its end too, B is read
  pub list_repeats : (i : ℕ) → length (level_list k) ≤ i → entry_of (level_list k) i ≡ k.full
  list_repeats i h =
      let last : length (level_list k) - 1 ≡ cycles_to_full k = omega (arith, list_length _ to_full) in
      read_past (level_list k) i h ∙ rw last (list_first _ to_full).0

  -- so what is read is the entry, in the list and past its end
  entry_read : (i : ℕ) → entry_of (level_list k) i ≡ level_entry k i
  entry_read i =
      by_cases (dec_lt i (length (level_list k)))
      (λ within. read_within (level_list k) i within ∙ list_entry k i within)
      (λ past. list_repeats i (omega arith) ∙ sym (entry_repeats k _ i (entry_first k _ to_full).0 (omega (arith, list_length _ to_full))))

-- ---- the brake's levels

-- a brake that builds up from nothing starts at entry 0
pub entry_none : (k : Figures) → level_entry k 0 ≡ 0
unfolding level_entry
entry_none k = omega arith

-- and after each braked cycle has the next one
pub entry_next : (k : Figures) (i : ℕ) → level_entry k (i + 1) ≡ next_level k (level_entry k i)
unfolding level_entry next_level
entry_next k i = omega arith

-- so the cycles read from the list are the cycles of the brake
read_cycles_lem : (k : Figures) → Sound k → (n v i : ℕ) → read_cycles n k (level_list k) v i ≡ first_cycles n k v (level_entry k i)
unfolding read_cycles first_cycles
read_cycles_lem k s zero v i = refl
read_cycles_lem k s (suc n) v i =
    by_test (stands k v (level_entry k i))
    (λ e. rw (read_cycles, entry_read k s i, e, first_cycles))
    (λ e.
    rw (read_cycles, entry_read k s i, e, entry_read k s i, first_cycles, sym (entry_next k i))
    (ap (λ (cs : List Cycle). braked_cycle k v (level_entry k i) ∷ cs) (read_cycles_lem k s n (brake_speed k v (level_entry k i)) (i + 1))))

-- "Stop travel from level 0 read from this list equals the definition at every speed"
pub read_stop : (k : Figures) → Sound k → (v : ℕ) → stop_read k (level_list k) v ≡ stopping_distance k v 0
unfolding stop_read stopping_distance braked_run
read_stop k s v = ap total_travel (read_cycles_lem k s (enough_cycles k v 0) v 0 ∙ ap (first_cycles (enough_cycles k v 0) k v) (entry_none k))

-- ---- a consist's list

-- B is at least 87,021, whatever the class; with no more than 1,961 cycles it is within 1,990 growths
full_bounds : {load force mass : ℕ} (full growth : ℕ) → PerCar load force mass → RoundedDown full (force * 980665) mass → full < (growth + 1) * 1961
    → (87021 ≤ full) × (full ≤ 1990 * growth)
full_bounds full growth loaded b h = (omega (arith, b.next_exceeds), omega (arith, b.within, b.next_exceeds))
full_bounds full growth empty b h = (omega (arith, b.next_exceeds), omega (arith, b.within, b.next_exceeds))
full_bounds full growth unknown b h = (omega (arith, b.next_exceeds), omega (arith, b.within, b.next_exceeds))

-- what holds of every consist's B and j
record Built (k : Figures) : Type 0 where
  sound : Sound k
  full_least : 87021 ≤ k.full
  growth_least : 44 ≤ k.growth
  growths_most : k.full ≤ 1990 * k.growth

built : (load l : ℕ) (k : Figures) → figures_of load l ≡ Some k → Built k
built load l k e =
    let d = (figures_exactly load l k).0 e in
    let few : d.cycles ≤ 1961 = rw (cycles_described d) at (cycles_most l d.longest) in
    let more : (k.growth + 1) * d.cycles ≤ (k.growth + 1) * 1961 = mul-le-mul_left (k.growth + 1) few in
    let full = full_bounds k.full k.growth d.per_car d.full_brake_lem (omega (arith, d.growth.next_exceeds)) in
    record { sound = given_sound load l k e; full_least = full.0; growth_least = omega (arith, d.growth.next_exceeds); growths_most = full.1 }

-- entry 1,990 is B, so its list has 1,991 entries at most
pub list_within : (load l : ℕ) (k : Figures) → figures_of load l ≡ Some k → (level_entry k 1990 ≡ k.full) × (length (level_list k) ≤ 1991)
list_within load l k e =
    let figures = built load l k e in
    let full = entry_full k 1990 figures.growths_most in
    (full, list_ends k figures.sound 1990 full)

-- ---- slow trains

-- i + (i + 1) + .., n numbers in all
sum_from : ℕ → ℕ → ℕ
sum_from i zero = 0
sum_from i (suc n) = i + sum_from (i + 1) n

module _ (k : Figures) (b : Built k) where
  -- 44×1,977 is at most 87,021
  entry_least : (i : ℕ) → i ≤ 1977 → 44 * i ≤ level_entry k i
  unfolding level_entry
  entry_least i h = let more = mul-le-mul_left i b.growth_least in omega arith

  -- so n entries from entry i on stop a train whose speed is at most 44 times the sum of their places
  run_within : (n i v : ℕ) → i + n ≤ 1977 → v ≤ 44 * sum_from i n → length (braked_run k v (level_entry k i)) ≤ n
  unfolding sum_from stands brake_speed
  run_within zero i v h slow = rw (run_stands k v (level_entry k i) (eq-eqb v 0 (omega arith))) (omega arith)
  run_within (suc n) i v h slow =
      by_test (stands k v (level_entry k i))
      (λ e. rw (run_stands k v (level_entry k i) e) (omega arith))
      (λ e.
      let least = entry_least i (omega arith) in
      let rest = run_within n (i + 1) (brake_speed k v (level_entry k i)) (omega arith) (omega arith) in
      rw (run_moves k v (level_entry k i) b.sound e, sym (entry_next k i)) (omega arith))

-- from 1,250,000 µm/s on down, no consist's run reads more than 240 entries
pub slow_run : (load l : ℕ) (k : Figures) (v : ℕ) → figures_of load l ≡ Some k → v ≤ 1250000 → length (braked_run k v 0) ≤ 240
unfolding sum_from
slow_run load l k v e slow = rw (entry_none k) at (run_within k (built load l k e) 240 0 v (omega arith) (omega arith))
