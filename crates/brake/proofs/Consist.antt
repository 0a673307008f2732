-- Laws of the brake figures.
-- Assumes nothing.
use Rattle.std.specs.Prelude.{Option, Some, None}
use Prim.Native.Nat.{ℕ, ◌+◌, ◌*◌, ◌≤◌, ◌<◌}
use mathlib.Core.Bool.{true, false}
use mathlib.Core.Logic.{by_cases}
use mathlib.Core.Path.{◌≡◌, refl, sym, ◌∙◌, ap, subst}
use native.Mathlib.Decide.{ℕ_discrete}
use native.Mathlib.Nat.{mul-le-mul, mul-le-mul_left, le-div_iff_mul-le, div-lt_iff_lt-mul}
use native.Mathlib.Omega.{arith}
use lib.Dec.{T, leb, lit≤, lit<}
use borrow.Author.Tests.{ne_eqb}
use Rattle.brake.specs.declared.Figures.{Figures}
use Rattle.brake.specs.Consist.{greatest_full, Sound, car_of, full_brake, application_time, application_cycles, sheet_entry, entry_for, brake_cycles, figures_with, figures_by, figures_of}
use Rattle.logic.specs.Rounding.{ceil_div}
use Rattle.logic.proofs.Tests.{by_test}
use Rattle.logic.proofs.Rounding.{ceil_le, ceil_positive}
use Rattle.ranges.specs.Ranges.{greatest_length, length_in_range}
use Rattle.ranges.proofs.Ranges.{between_both}

-- ---- length

pub length_within : (l : ℕ) → length_in_range l ≡ true → l ≤ greatest_length
length_within l e = (between_both 1 greatest_length l e).1

-- ---- load class

pub car_loaded : (n : ℕ) → n ≡ 1 → car_of n ≡ Some (35750, 263000)
unfolding car_of
car_loaded n e = rw e refl

pub car_empty : (n : ℕ) → n ≡ 2 → car_of n ≡ Some (10575, 64000)
unfolding car_of
car_empty n e = rw e refl

pub car_unknown : (n : ℕ) → n ≡ 3 → car_of n ≡ Some (23338, 263000)
unfolding car_of
car_unknown n e = rw e refl

pub car_none : (n : ℕ) → (n ≡ 1 → ⊥) → (n ≡ 2 → ⊥) → (n ≡ 3 → ⊥) → car_of n ≡ None
unfolding car_of
car_none n a b c = rw (ne_eqb n 1 a, ne_eqb n 2 b, ne_eqb n 3 c, car_of)

-- bounds of a car that some load class has
pub record Car (force mass : ℕ) : Type 0 where
  pub force_within : force ≤ 35750
  pub mass_positive : 1 ≤ mass
  pub full_least : 87021 ≤ full_brake force mass
  pub full_most : full_brake force mass ≤ greatest_full

computed : (force mass : ℕ) → T (leb force 35750) → T (leb 1 mass) → T (leb 87021 (full_brake force mass)) → T (leb (full_brake force mass) greatest_full) → Car force mass
computed force mass a b c d = record { force_within = lit≤ a; mass_positive = lit≤ b; full_least = lit≤ c; full_most = lit≤ d }

abbrev IsCar : Option (ℕ × ℕ) → Type 0
IsCar (Some (force, mass)) = Car force mass
IsCar None = Unit {0}

is_car : (n : ℕ) → IsCar (car_of n)
unfolding full_brake
is_car n =
    by_cases (ℕ_discrete n 1)
    (λ e. subst IsCar (sym (car_loaded n e)) (computed 35750 263000 tt tt tt tt))
    (λ a. by_cases (ℕ_discrete n 2)
    (λ e. subst IsCar (sym (car_empty n e)) (computed 10575 64000 tt tt tt tt))
    (λ b. by_cases (ℕ_discrete n 3)
    (λ e. subst IsCar (sym (car_unknown n e)) (computed 23338 263000 tt tt tt tt))
    (λ c. subst IsCar (sym (car_none n a b c)) tt)))

pub car_bounds : (n : ℕ) {force mass : ℕ} → car_of n ≡ Some (force, mass) → Car force mass
car_bounds n e = subst IsCar e (is_car n)

-- ---- cycles

formula_most : (l : ℕ) → l ≤ greatest_length → application_cycles l ≤ 1961
unfolding application_cycles application_time
formula_most l h = let m = mul-le-mul h h in ceil_le 1961 (lit< tt) (omega arith)

pub formula_positive : (l : ℕ) → 1 ≤ application_cycles l
unfolding application_cycles application_time
formula_positive l = ceil_positive (omega arith) (lit< tt)

entry_within : (l : ℕ) → l ≤ greatest_length → entry_for l ≤ 500
unfolding entry_for ceil_div
entry_within l h = omega arith

pub cycles_most : (l : ℕ) → l ≤ greatest_length → brake_cycles l ≤ 1961
unfolding brake_cycles sheet_entry
cycles_most l h = formula_most (20 * entry_for l) (omega (arith, entry_within l h))

pub cycles_positive : (l : ℕ) → 1 ≤ brake_cycles l
unfolding brake_cycles sheet_entry
cycles_positive l = formula_positive (20 * entry_for l)

-- ---- figures

pub figures_out : (load l : ℕ) → length_in_range l ≡ false → figures_of load l ≡ None
unfolding figures_of
figures_out load l e = rw (e, figures_of)

figures_in : (load l : ℕ) → length_in_range l ≡ true → figures_of load l ≡ figures_by (car_of load) l
unfolding figures_of
figures_in load l e = rw (e, figures_of)

pub figures_none : (load l : ℕ) → car_of load ≡ None → figures_of load l ≡ None
unfolding figures_by
figures_none load l e =
    by_test (length_in_range l)
    (λ t. figures_in load l t ∙ ap (λ (f : Option (ℕ × ℕ)). figures_by f l) e)
    (λ t. figures_out load l t)

pub figures_given : (load l : ℕ) {force mass : ℕ} → length_in_range l ≡ true → car_of load ≡ Some (force, mass) → figures_of load l ≡ Some (figures_with force mass l)
unfolding figures_by
figures_given load l t e = figures_in load l t ∙ ap (λ (f : Option (ℕ × ℕ)). figures_by f l) e

sound_with : (force mass l : ℕ) → Car force mass → l ≤ greatest_length → Sound (figures_with force mass l)
unfolding figures_with
sound_with force mass l car h =
    let most = cycles_most l h in
    let positive = cycles_positive l in
    record {
      growth_positive = (le-div_iff_mul-le positive).1 (omega arith);
      -- whichever way it is rounded
      growth_within =
          let once = mul-le-mul_left (full_brake force mass) positive in
          let below : (figures_with force mass l).growth < full_brake force mass + 1 = (div-lt_iff_lt-mul positive).1 (omega arith) in
          omega arith;
      full_within = car.full_most;
    }

sound_by : (f : Option (ℕ × ℕ)) (l : ℕ) (k : Figures) → IsCar f → l ≤ greatest_length → figures_by f l ≡ Some k → Sound k
unfolding figures_by
sound_by None l k car h e = let z : ◌≡◌ {A = ℕ} 0 1 = cc in absurd (omega arith)
sound_by (Some (force, mass)) l k car h e = let q : figures_with force mass l ≡ k = cc in subst Sound q (sound_with force mass l car h)

-- whatever figures a consist is given, they are sound: 1 ≤ j ≤ B, and B within its greatest
pub given_sound : (load l : ℕ) (k : Figures) → figures_of load l ≡ Some k → Sound k
given_sound load l k e =
    by_test (length_in_range l)
    (λ t. sound_by (car_of load) l k (is_car load) (length_within l t) (sym (figures_in load l t) ∙ e))
    (λ t. let z : ◌≡◌ {A = ℕ} 0 1 = cc (figures_out load l t) in absurd (omega arith))

pub given_length : (load l : ℕ) (k : Figures) → figures_of load l ≡ Some k → l ≤ greatest_length
given_length load l k e =
    by_test (length_in_range l)
    (λ t. length_within l t)
    (λ t. let z : ◌≡◌ {A = ℕ} 0 1 = cc (figures_out load l t) in absurd (omega arith))
