-- A train that only brakes slows down in time.
-- Assumes nothing.
use Prim.Native.Nat.{ℕ, suc, ◌-◌, ◌*◌, ◌≤◌, min}
use mathlib.Core.Bool.{true}
use mathlib.Core.Logic.{by_cases}
use mathlib.Core.Path.{◌≡◌}
use native.Mathlib.Decide.{dec_le}
use native.Mathlib.Nat.{mul-le-mul_right}
use native.Mathlib.Omega.{arith}
use borrow.Author.Tests.{eq-eqb}
use Rattle.brake.specs.declared.Figures.{Figures}
use Rattle.logic.specs.Rounding.{ceil_div}
use Rattle.brake.specs.Consist.{Sound}
use Rattle.logic.proofs.Rounding.{ceil_ge}
use Rattle.motion.specs.declared.Motion.{Motion}
use Rattle.motion.specs.declared.Order.TheVariants.{Brake}
use Rattle.motion.specs.Motion.{brake_speed, next_level, stands}
use Rattle.motion.specs.Orders.{worst_case}
use Rattle.motion.specs.Count.{cycles_to_full, cycles_to_stand}
use Rattle.motion.proofs.Bounds.{speed_bound}
use Rattle.motion.proofs.Domination.{NoWorse}

-- what n braked cycles come to: the level has grown n times, and from full brake on each cycle has taken off B
pub record Slowed (k : Figures) (ceiling n : ℕ) (m : Motion) : Type 0 where
  pub grown : min (n * k.growth) k.full ≤ m.level
  pub slowed : m.speed ≤ ceiling - (n - cycles_to_full k) * k.full

pub slowed_start : (k : Figures) (ceiling : ℕ) (m : Motion) → m.speed ≤ speed_bound k ceiling m.level → Slowed k ceiling 0 m
unfolding speed_bound
slowed_start k ceiling m h =
    let none : 0 - cycles_to_full k ≡ 0 = omega arith in
    record { grown = omega arith; slowed = rw none (omega arith) }

-- one braked cycle more, or a report no worse than it
pub slowed_brake : (k : Figures) (ceiling n : ℕ) (m m' : Motion) → Sound k → Slowed k ceiling n m → NoWorse m' (worst_case k m Brake) → Slowed k ceiling (suc n) m'
unfolding brake_speed next_level
slowed_brake k ceiling n m m' s p h =
    record {
      grown = omega arith;
      slowed =
          by_cases (dec_le (cycles_to_full k) n)
          (λ built.
          let enough = ceil_ge k.full s.growth_positive in
          let r = mul-le-mul_right k.growth built in
          let full : k.full ≤ m.level = omega arith in
          let one_more : suc n - cycles_to_full k ≡ suc (n - cycles_to_full k) = omega arith in
          rw one_more (omega arith))
          (λ building.
          let none : n - cycles_to_full k ≡ 0 = omega arith in
          let still_none : suc n - cycles_to_full k ≡ 0 = omega arith in
          let start : m.speed ≤ ceiling - 0 * k.full = rw none at p.slowed in
          rw still_none (omega arith));
    }

-- after so many, the train stands
pub slowed_stands : (k : Figures) (ceiling n : ℕ) (m : Motion) → Sound k → cycles_to_stand k ceiling ≤ n → Slowed k ceiling n m → stands k m.speed m.level ≡ true
unfolding cycles_to_stand stands
slowed_stands k ceiling n m s h p =
    let enough = ceil_ge ceiling {b = k.full} (omega arith) in
    let r : ceil_div ceiling k.full * k.full ≤ (n - cycles_to_full k) * k.full = mul-le-mul_right k.full (omega arith) in
    eq-eqb m.speed 0 (omega arith)
