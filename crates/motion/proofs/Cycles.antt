-- Laws of one cycle.
-- Assumes nothing.
use Prim.Native.Nat.{ℕ, ◌+◌, ◌-◌, ◌*◌, ◌≤◌, ◌<◌}
use mathlib.Core.Bool.{true, false}
use mathlib.Core.Logic.{by_cases}
use mathlib.Core.Path.{◌≡◌, refl, sym, ◌∙◌}
use native.Mathlib.Decide.{dec_le}
use native.Mathlib.Nat.{mul-le-mul, mul-le-mul_left, le_trans}
use native.Mathlib.Omega.{arith}
use lib.Dec.{leb}
use borrow.Author.Tests.{le-leb, lt-leb, leb-false, eqb-true, eq-eqb, ne_eqb}
use Rattle.brake.specs.declared.Figures.{Figures}
use Rattle.logic.specs.Rounding.{ceil_div}
use Rattle.logic.proofs.Rounding.{ceil_le, ceil_mono, rounded_once}
use Rattle.logic.proofs.Tests.{by_test, not_both}
use Rattle.motion.specs.Motion.{brake_travel, brake_speed, next_level, drive_travel, drive_speed, stands}
use Rattle.motion.proofs.Sentences.{braked_on, braked_last}

-- ---- a braked cycle

pub travel_on : (k : Figures) (v b : ℕ) → b ≤ v → brake_travel k v b ≡ 2 * v - b
travel_on k v b h = let on = (braked_on k v b h).0 in omega arith

pub travel_last : (k : Figures) (v b : ℕ) → v < b → brake_travel k v b ≡ ceil_div (v * v) b
travel_last k v b h = sym (rounded_once _ _ _ (omega arith) (braked_last k v b h).0)

travel_last_le : (k : Figures) (v b : ℕ) → v < b → brake_travel k v b ≤ v
travel_last_le k v b h = rw (travel_last k v b h) (ceil_le v (omega arith) (mul-le-mul_left v (omega arith)))

pub travel_le : (k : Figures) (v b : ℕ) → brake_travel k v b ≤ 2 * v
travel_le k v b =
    by_cases (dec_le b v)
    (λ on. rw (travel_on k v b on) (omega arith))
    (λ last. le_trans (travel_last_le k v b (omega arith)) (omega arith))

pub travel_mono : (k : Figures) {v v' : ℕ} (b : ℕ) → v ≤ v' → brake_travel k v b ≤ brake_travel k v' b
travel_mono k {v} {v'} b h =
    by_cases (dec_le b v)
    (λ on. rw (travel_on k v b on, travel_on k v' b (le_trans on h)) (omega arith))
    (λ last. by_cases (dec_le b v')
    (λ on. rw (travel_on k v' b on) (le_trans (travel_last_le k v b (omega arith)) (omega arith)))
    (λ last'. rw (travel_last k v b (omega arith), travel_last k v' b (omega arith)) (ceil_mono (omega arith) (mul-le-mul h h))))

pub speed_mono : (k : Figures) {v v' : ℕ} (b : ℕ) → v ≤ v' → brake_speed k v b ≤ brake_speed k v' b
unfolding brake_speed
speed_mono k b h = omega arith

pub speed_le : (k : Figures) (v b : ℕ) → brake_speed k v b ≤ v
unfolding brake_speed
speed_le k v b = omega arith

pub level_le : (k : Figures) (b : ℕ) → next_level k b ≤ k.full
unfolding next_level
level_le k b = omega arith

-- ---- a driven cycle

pub drive_travel_mono : (k : Figures) {v v' c c' : ℕ} → v ≤ v' → c ≤ c' → drive_travel k v c ≤ drive_travel k v' c'
unfolding drive_travel
drive_travel_mono k h g = omega arith

pub drive_speed_mono : (k : Figures) {v v' c c' : ℕ} → v ≤ v' → c ≤ c' → drive_speed k v c ≤ drive_speed k v' c'
unfolding drive_speed
drive_speed_mono k h g = omega arith

-- each unit of the cap adds one
pub drive_speed_gain : (k : Figures) (v c : ℕ) → drive_speed k v c ≡ drive_speed k v 0 + c
unfolding drive_speed
drive_speed_gain k v c = omega arith

-- ---- standing

-- without speed, under full brake, a train stands
pub full_stands : (k : Figures) → stands k 0 k.full ≡ true
unfolding stands
full_stands k = refl

-- whoever is no faster than a standing train stands
pub stands_mono : (k : Figures) {v v' : ℕ} (b : ℕ) → v ≤ v' → stands k v' b ≡ true → stands k v b ≡ true
unfolding stands
stands_mono k {v} {v'} b h e = let z = eqb-true v' 0 e in eq-eqb v 0 (omega arith)

-- a braked cycle does not move a standing train
pub travel_stands : (k : Figures) (v b : ℕ) → stands k v b ≡ true → brake_travel k v b ≡ 0
unfolding stands
travel_stands k v b e =
    let z = eqb-true v 0 e in
    let t = travel_le k v b in
    omega arith

-- and leaves it standing
pub stays : (k : Figures) (v b : ℕ) → stands k v b ≡ true → stands k (brake_speed k v b) (next_level k b) ≡ true
unfolding stands brake_speed
stays k v b e = let z = eqb-true v 0 e in eq-eqb (v - b) 0 (omega arith)

-- so a train that moves after a braked cycle moved before it
pub moved_before : (k : Figures) (v b : ℕ) → stands k (brake_speed k v b) (next_level k b) ≡ false → stands k v b ≡ false
moved_before k v b e = by_test (stands k v b) (λ t. absurd (not_both (stays k v b t) e)) (λ f. f)

-- it stands after the cycle that takes off all its speed
pub last_stands : (k : Figures) (v b : ℕ) → stands k (brake_speed k v b) (next_level k b) ≡ leb v b
unfolding stands brake_speed
last_stands k v b =
    by_cases (dec_le v b)
    (λ last. eq-eqb (v - b) 0 (omega arith) ∙ sym (le-leb v b last))
    (λ on. ne_eqb (v - b) 0 (omega arith) ∙ sym (lt-leb v b (omega arith)))

-- a cycle that is not the last goes as far as its two speeds together
pub travel_speeds : (k : Figures) (v b : ℕ) → stands k (brake_speed k v b) (next_level k b) ≡ false → brake_travel k v b ≡ v + brake_speed k v b
travel_speeds k v b e =
    let faster = leb-false v b (sym (last_stands k v b) ∙ e) in
    let on = braked_on k v b (omega arith) in
    omega arith
