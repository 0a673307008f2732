-- Document 01, "Line and consist", and document 02, (i), said a second time: in products and comparisons, where the definitions divide and choose.
-- A definition that is wrong, with code that follows it, is refused here.
-- Assumes nothing.
use Rattle.std.specs.Prelude.{Option, Some, None}
use Rattle.std.proofs.lemmas.Option.{none-some, some_pair_parts}
use Prim.Native.Nat.{ℕ, ◌+◌, ◌*◌, ◌/◌, ◌≤◌}
use mathlib.Core.Bool.{true}
use mathlib.Core.Logic.{by_cases, ◌↔◌}
use mathlib.Core.Path.{◌≡◌, refl, ◌∙◌, sym, subst}
use native.Mathlib.Decide.{ℕ_discrete}
use native.Mathlib.Nat.{le_trans, mul-le-mul, mul-le-mul_left, le-div_iff_mul-le, div-eq_of_lt-le}
use native.Mathlib.Omega.{arith}
use lib.Dec.{lit<}
use Rattle.brake.specs.declared.Figures.{Figures}
use Rattle.brake.specs.Consist.{car_of, full_brake, application_time, application_cycles, sheet_entry, entry_for, brake_cycles, figures_with, figures_of}
use Rattle.brake.proofs.Consist.{car_loaded, car_empty, car_unknown, car_none, car_bounds, formula_positive, cycles_positive, figures_out, figures_none, figures_given}
use Rattle.logic.proofs.Tests.{by_test}
use Rattle.logic.proofs.Rounding.{RoundedDown, RoundedUp, ceil_mono, rounded_down, rounded_up, rounded_once}
use Rattle.ranges.specs.Ranges.{length_in_range}
use Rattle.ranges.proofs.Sentences.{train_length}

-- "The load class alone decides force and mass per car: 1 loaded, 35,750 and 263,000; 2 empty, 10,575 and 64,000; 3 unknown,
-- 23,338 and 263,000."
pub data PerCar : ℕ → ℕ → ℕ → Type 0 where
  loaded : PerCar 1 35750 263000
  empty : PerCar 2 10575 64000
  unknown : PerCar 3 23338 263000

-- what document 01 says of figures k for this load class and length
pub record Described (load l : ℕ) (k : Figures) : Type 0 where
  pub force : ℕ
  pub mass : ℕ
  pub entry : ℕ
  pub cycles : ℕ
  -- "length: 1 to 10,000 ft"
  pub shortest : 1 ≤ l
  pub longest : l ≤ 10000
  pub per_car : PerCar load force mass
  -- "Full brake B = force × 980,665 / mass, rounded down."
  pub full_brake_lem : RoundedDown k.full (force * 980665) mass
  -- "a length takes the entry of the next multiple of 20 at or above it"
  pub multiple : RoundedUp entry l 20
  -- "Each entry equals the formula at its multiple": "application time in nanoseconds for length l in feet is 12,220,000,000 + 15,600,000×l +
  -- 278×l². Cycles are that divided by 100,000,000, rounded up."
  pub application : RoundedUp cycles (12220000000 + 15600000 * (20 * entry) + 278 * (20 * entry * (20 * entry))) 100000000
  -- "Growth j is B divided by the cycles, rounded down."
  pub growth : RoundedDown k.growth k.full cycles

listed : (load force mass : ℕ) → car_of load ≡ Some (force, mass) → PerCar load force mass
listed load force mass e =
    by_cases (ℕ_discrete load 1)
    (λ one. let car = some_pair_parts force 35750 mass 263000 (sym e ∙ car_loaded load one) in rw (one, car.0, car.1) loaded)
    (λ a. by_cases (ℕ_discrete load 2)
    (λ two. let car = some_pair_parts force 10575 mass 64000 (sym e ∙ car_empty load two) in rw (two, car.0, car.1) empty)
    (λ b. by_cases (ℕ_discrete load 3)
    (λ three. let car = some_pair_parts force 23338 mass 263000 (sym e ∙ car_unknown load three) in rw (three, car.0, car.1) unknown)
    (λ c. absurd (none-some (force, mass) (sym (car_none load a b c) ∙ e)))))

rated : {load force mass : ℕ} → PerCar load force mass → car_of load ≡ Some (force, mass)
rated loaded = car_loaded 1 refl
rated empty = car_empty 2 refl
rated unknown = car_unknown 3 refl

-- what a car of the list and a length in range give
given : {load l force mass : ℕ} → 1 ≤ l → l ≤ 10000 → PerCar load force mass → figures_of load l ≡ Some (figures_with force mass l)
given {load} {l} shortest longest car = figures_given load l ((train_length l).1 (shortest, longest)) (rated car)

described : (load l force mass : ℕ) → car_of load ≡ Some (force, mass) → length_in_range l ≡ true → Described load l (figures_with force mass l)
unfolding figures_with full_brake brake_cycles entry_for sheet_entry application_cycles application_time
described load l force mass car within =
    let ends = (train_length l).0 within in
    record {
      force = force;
      mass = mass;
      entry = entry_for l;
      cycles = brake_cycles l;
      shortest = ends.0;
      longest = ends.1;
      per_car = listed load force mass car;
      full_brake_lem = rounded_down (force * 980665) mass (car_bounds load car).mass_positive;
      multiple = rounded_up l 20 (lit< tt);
      application = rounded_up (application_time (20 * entry_for l)) 100000000 (lit< tt);
      growth = rounded_down (full_brake force mass) (brake_cycles l) (cycles_positive l);
    }

pub cycles_described : {load l : ℕ} {k : Figures} (d : Described load l k) → brake_cycles l ≡ d.cycles
unfolding brake_cycles entry_for sheet_entry application_cycles application_time
cycles_described {l = l} d =
    rw (rounded_once d.entry l 20 (lit< tt) d.multiple)
    (rounded_once d.cycles (application_time (20 * d.entry)) 100000000 (lit< tt) d.application)

-- a consist is given the figures that these sentences describe, and no others
pub figures_exactly : (load l : ℕ) (k : Figures) → (figures_of load l ≡ Some k) ↔ Described load l k
unfolding figures_with full_brake
figures_exactly load l k = (found (car_of load) refl, only)
  where
    found : (car : Option (ℕ × ℕ)) → car_of load ≡ car → figures_of load l ≡ Some k → Described load l k
    found None none e = let nothing = figures_none load l none in let z : ◌≡◌ {A = ℕ} 0 1 = cc in absurd (omega arith)
    found (Some (force, mass)) car e =
        by_test (length_in_range l)
        (λ within.
        let same : figures_with force mass l ≡ k = cc (figures_given load l within car) in
        subst (Described load l) same (described load l force mass car within))
        (λ out. let nothing = figures_out load l out in let z : ◌≡◌ {A = ℕ} 0 1 = cc in absurd (omega arith))

    only : Described load l k → figures_of load l ≡ Some k
    only d =
        let cycles = cycles_described d in
        let full : full_brake d.force d.mass ≡ k.full = div-eq_of_lt-le d.mass d.full_brake_lem.within d.full_brake_lem.next_exceeds in
        let growth : full_brake d.force d.mass / brake_cycles l ≡ k.growth =
        rw (full, cycles) (div-eq_of_lt-le d.cycles d.growth.within d.growth.next_exceeds) in
        given d.shortest d.longest d.per_car ∙ (λ z. Some (record { full = full z; growth = growth z }))

-- "Lengths 0 and 10,001 and classes 0 and 4 are 4": a consist has no figures exactly where its length or its load class is out of range
pub no_figures_exactly : (load l : ℕ) → (figures_of load l ≡ None) ↔ (¬ ((1 ≤ l) × (l ≤ 10000) × (1 ≤ load) × (load ≤ 3)))
no_figures_exactly load l = (only, out)
  where
    has_figures : {n force mass : ℕ} → figures_of load l ≡ None → 1 ≤ l → l ≤ 10000 → load ≡ n → PerCar n force mass → ⊥
    has_figures none shortest longest class car = let some = given shortest longest car in let z : ◌≡◌ {A = ℕ} 0 1 = cc in omega arith

    only : figures_of load l ≡ None → ¬ ((1 ≤ l) × (l ≤ 10000) × (1 ≤ load) × (load ≤ 3))
    only none (shortest, longest, least, most) =
        by_cases (ℕ_discrete load 1)
        (λ one. has_figures none shortest longest one loaded)
        (λ a. by_cases (ℕ_discrete load 2)
        (λ two. has_figures none shortest longest two empty)
        (λ b. has_figures none shortest longest (omega arith) unknown))

    out : ¬ ((1 ≤ l) × (l ≤ 10000) × (1 ≤ load) × (load ≤ 3)) → figures_of load l ≡ None
    out h =
        by_test (length_in_range l)
        (λ within.
        let ends = (train_length l).0 within in
        let no_class : ¬ ((1 ≤ load) × (load ≤ 3)) = λ class. h (ends.0, ends.1, class.0, class.1) in
        figures_none load l (car_none load (λ e. no_class (omega arith)) (λ e. no_class (omega arith)) (λ e. no_class (omega arith))))
        (λ outside. figures_out load l outside)

-- ---- the sheet beside the formula

-- "so no train gets fewer cycles than the formula"
pub no_fewer_cycles : (l : ℕ) → application_cycles l ≤ brake_cycles l
unfolding brake_cycles entry_for sheet_entry application_cycles application_time
no_fewer_cycles l =
    let above : l ≤ 20 * entry_for l = omega (arith, rounded_up l 20 (lit< tt)) in
    let squares = mul-le-mul above above in
    ceil_mono (lit< tt) (omega arith)

-- nor a quicker brake: its level grows by no more than the formula would give
pub no_quicker_brake : (load l : ℕ) (k : Figures) → figures_of load l ≡ Some k → k.growth ≤ k.full / application_cycles l
no_quicker_brake load l k e =
    let d = (figures_exactly load l k).0 e in
    let few : application_cycles l ≤ d.cycles = rw (cycles_described d) at (no_fewer_cycles l) in
    (le-div_iff_mul-le (formula_positive l)).1 (le_trans (mul-le-mul_left k.growth few) d.growth.within)
