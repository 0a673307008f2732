-- Laws of the run of braked cycles and its total, the stopping distance. Whoever cites these opens no definition.
-- Assumes nothing.
use Prim.Native.Nat.{ℕ, zero, suc, ◌+◌, ◌*◌, ◌≤◌, ◌<◌}
use mathlib.Core.Bool.{true, false}
use mathlib.Core.List.{List, [], ◌∷◌}
use mathlib.Core.Path.{◌≡◌, refl, sym, ◌∙◌, ap}
use native.Mathlib.Nat.{mul-le-mul_left, mul-le-mul_right, le_refl}
use native.Mathlib.Decide.{le_ind}
use native.Mathlib.Omega.{arith}
use lib.ListN.{length}
use borrow.Author.Tests.{eqb-false}
use Rattle.brake.specs.declared.Figures.{Figures}
use Rattle.brake.specs.Consist.{Sound}
use Rattle.logic.proofs.Tests.{by_test}
use Rattle.motion.specs.Motion.{brake_travel, brake_speed, next_level, stands, Cycle, braked_cycle, first_cycles, enough_cycles, braked_run, total_travel, stopping_distance}
use Rattle.motion.proofs.Cycles.{travel_le, travel_mono, speed_mono, stands_mono, travel_stands, stays}

-- a moving train's braked cycle leaves fewer cycles to go
pub fewer : (k : Figures) (v b : ℕ) → Sound k → stands k v b ≡ false → enough_cycles k (brake_speed k v b) (next_level k b) < enough_cycles k v b
unfolding stands enough_cycles brake_speed next_level
fewer k v b s e =
    let moving : ¬ (v ≡ 0) = eqb-false v 0 e in
    omega arith

first_stands : (n : ℕ) (k : Figures) (v b : ℕ) → stands k v b ≡ true → first_cycles n k v b ≡ []
unfolding first_cycles
first_stands zero k v b e = refl
first_stands (suc n) k v b e = rw (e, first_cycles)

first_moves : (n : ℕ) (k : Figures) (v b : ℕ) → stands k v b ≡ false
    → first_cycles (suc n) k v b ≡ braked_cycle k v b ∷ first_cycles n k (brake_speed k v b) (next_level k b)
unfolding first_cycles
first_moves n k v b e = rw (e, first_cycles)

-- one cycle more than enough changes nothing
first_enough : (n : ℕ) (k : Figures) (v b : ℕ) → Sound k → enough_cycles k v b ≤ n → first_cycles (suc n) k v b ≡ first_cycles n k v b
first_enough zero k v b s h =
    by_test (stands k v b)
    (λ e. first_stands 1 k v b e ∙ sym (first_stands 0 k v b e))
    (λ e. let f = fewer k v b s e in absurd (omega arith))
first_enough (suc n) k v b s h =
    by_test (stands k v b)
    (λ e. first_stands (suc (suc n)) k v b e ∙ sym (first_stands (suc n) k v b e))
    (λ e. let f = fewer k v b s e in
    first_moves (suc n) k v b e
    ∙ ap (λ (cs : List Cycle). braked_cycle k v b ∷ cs) (first_enough n k (brake_speed k v b) (next_level k b) s (omega arith))
    ∙ sym (first_moves n k v b e))

-- ---- the run: what it is, and the induction by which every other law is proved

-- however many cycles are allowed, if they are enough they are the run
pub run_enough : (n : ℕ) (k : Figures) (v b : ℕ) → Sound k → enough_cycles k v b ≤ n → first_cycles n k v b ≡ braked_run k v b
unfolding braked_run
run_enough n k v b s h =
    le_ind (λ n. first_cycles n k v b ≡ first_cycles (enough_cycles k v b) k v b)
    refl
    (λ n h same. first_enough n k v b s h ∙ same)
    n h

pub run_stands : (k : Figures) (v b : ℕ) → stands k v b ≡ true → braked_run k v b ≡ []
unfolding braked_run
run_stands k v b e = first_stands (enough_cycles k v b) k v b e

pub run_moves : (k : Figures) (v b : ℕ) → Sound k → stands k v b ≡ false
    → braked_run k v b ≡ braked_cycle k v b ∷ braked_run k (brake_speed k v b) (next_level k b)
run_moves k v b s e =
    let f = fewer k v b s e in
    sym (run_enough (suc (enough_cycles k v b)) k v b s (omega arith))
    ∙ first_moves (enough_cycles k v b) k v b e
    ∙ ap (λ (cs : List Cycle). braked_cycle k v b ∷ cs) (run_enough (enough_cycles k v b) k (brake_speed k v b) (next_level k b) s (omega arith))

module _ (k : Figures) (s : Sound k) (P : ℕ → ℕ → Type 0)
    (standing : (v b : ℕ) → stands k v b ≡ true → P v b)
    (moving : (v b : ℕ) → stands k v b ≡ false → P (brake_speed k v b) (next_level k b) → P v b) where
  within : (n v b : ℕ) → enough_cycles k v b ≤ n → P v b
  within zero v b h = by_test (stands k v b) (λ e. standing v b e) (λ e. let f = fewer k v b s e in absurd (omega arith))
  within (suc n) v b h =
      by_test (stands k v b)
      (λ e. standing v b e)
      (λ e. let f = fewer k v b s e in moving v b e (within n (brake_speed k v b) (next_level k b) (omega arith)))

  pub run_induction : (v b : ℕ) → P v b
  run_induction v b = within (enough_cycles k v b) v b (le_refl _)

-- at the same level, who is no faster stands within as many cycles
pub run_mono : (k : Figures) {v v' : ℕ} (b : ℕ) → Sound k → v ≤ v' → length (braked_run k v b) ≤ length (braked_run k v' b)
run_mono k {v} {v'} b s h =
    run_induction k s (λ v' b. (v : ℕ) → v ≤ v' → length (braked_run k v b) ≤ length (braked_run k v' b))
    (λ v' b e v h. rw (run_stands k v b (stands_mono k b h e)) (omega arith))
    (λ v' b e after v h.
    by_test (stands k v b)
    (λ t. rw (run_stands k v b t) (omega arith))
    (λ f. rw (run_moves k v b s f, run_moves k v' b s e) (let rest = after (brake_speed k v b) (speed_mono k b h) in omega arith)))
    v' b v h

-- ---- the stopping distance

pub stop_stands : (k : Figures) (v b : ℕ) → stands k v b ≡ true → stopping_distance k v b ≡ 0
unfolding stopping_distance total_travel
stop_stands k v b e = ap total_travel (run_stands k v b e)

pub stop_moves : (k : Figures) (v b : ℕ) → Sound k → stands k v b ≡ false
    → stopping_distance k v b ≡ brake_travel k v b + stopping_distance k (brake_speed k v b) (next_level k b)
unfolding stopping_distance total_travel braked_cycle
stop_moves k v b s e = ap total_travel (run_moves k v b s e)

-- a braked cycle and what is left after it, moving or not
pub stop_cycle : (k : Figures) (v b : ℕ) → Sound k → brake_travel k v b + stopping_distance k (brake_speed k v b) (next_level k b) ≡ stopping_distance k v b
stop_cycle k v b s =
    by_test (stands k v b)
    (λ e.
    let still = travel_stands k v b e in
    let before = stop_stands k v b e in
    let after = stop_stands k (brake_speed k v b) (next_level k b) (stays k v b e) in
    omega arith)
    (λ e. sym (stop_moves k v b s e))

-- at the same level, who is no faster stops no later
pub stop_mono : (k : Figures) {v v' : ℕ} (b : ℕ) → Sound k → v ≤ v' → stopping_distance k v b ≤ stopping_distance k v' b
stop_mono k {v} {v'} b s h =
    run_induction k s (λ v' b. (v : ℕ) → v ≤ v' → stopping_distance k v b ≤ stopping_distance k v' b)
    (λ v' b e v h. let stopped = stop_stands k v b (stands_mono k b h e) in omega arith)
    (λ v' b e after v h.
    let slower = stop_cycle k v b s in
    let faster = stop_cycle k v' b s in
    let rest = after (brake_speed k v b) (speed_mono k b h) in
    let travel = travel_mono k b h in
    omega arith)
    v' b v h

-- so long a run has no more than this to go
pub stop_le : (k : Figures) (v b : ℕ) → Sound k → stopping_distance k v b ≤ enough_cycles k v b * (enough_cycles k v b + 1)
unfolding enough_cycles
stop_le k v b s =
    run_induction k s (λ v b. stopping_distance k v b ≤ enough_cycles k v b * (enough_cycles k v b + 1))
    (λ v b e. let stopped = stop_stands k v b e in omega arith)
    (λ v b e after.
    let moved = stop_moves k v b s e in
    let travel = travel_le k v b in
    let x = enough_cycles k (brake_speed k v b) (next_level k b) in
    let y = enough_cycles k v b in
    let less : x + 1 ≤ y = let f = fewer k v b s e in omega arith in
    let m : x * (x + 1) ≤ x * y = mul-le-mul_left x less in
    let n : (x + 1) * y ≤ y * y = mul-le-mul_right y less in
    omega arith)
    v b
