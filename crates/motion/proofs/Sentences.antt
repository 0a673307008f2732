-- Document 01, "Worst-case motion", said a second time: each cycle in sums and products, where the definitions subtract, divide and
-- choose. A wrong definition is refused here, whatever the code. The laws of one cycle rest on these (Cycles); stop
-- travel and orders are in OrderSentences.
-- Assumes nothing.
use Prim.Native.Nat.{ℕ, ◌+◌, ◌*◌, ◌≤◌, ◌<◌}
use mathlib.Core.Bool.{true}
use mathlib.Core.Path.{◌≡◌, refl}
use native.Mathlib.Omega.{arith}
use borrow.Author.Tests.{le-leb, lt-leb}
use Rattle.brake.specs.declared.Figures.{Figures}
use Rattle.logic.proofs.Rounding.{RoundedUp, rounded_up}
use Rattle.motion.specs.declared.Motion.{Motion}
use Rattle.motion.specs.declared.Order.{Order}
use Rattle.motion.specs.declared.Order.TheVariants.{Drive, Brake}
use Rattle.motion.specs.Motion.{brake_travel, brake_speed, next_level, drive_travel, drive_speed}
use Rattle.motion.specs.Orders.{is_brake, worst_case}

-- "In a braked cycle at speed v and level b: if v is at least b, the train travels 2×v − b and ends at v − b"
pub braked_on : (k : Figures) (v b : ℕ) → b ≤ v → (brake_travel k v b + b ≡ v + v) × (brake_speed k v b + b ≡ v)
unfolding brake_travel brake_speed
braked_on k v b h = rw (le-leb b v h, brake_travel) (omega arith, omega arith)

-- "otherwise it travels v²/b rounded up and ends at 0"
pub braked_last : (k : Figures) (v b : ℕ) → v < b → RoundedUp (brake_travel k v b) (v * v) b × (brake_speed k v b ≡ 0)
unfolding brake_travel brake_speed
braked_last k v b h = rw (lt-leb b v h, brake_travel) (rounded_up (v * v) b (omega arith), omega arith)

-- "The next level is b + j, at most B"
pub level_grows : (k : Figures) (b : ℕ) → b + k.growth ≤ k.full → next_level k b ≡ b + k.growth
unfolding next_level
level_grows k b h = omega arith

pub level_full : (k : Figures) (b : ℕ) → k.full ≤ b + k.growth → next_level k b ≡ k.full
unfolding next_level
level_full k b h = omega arith

-- "In a driven cycle with cap c it travels 2×v + c, ends at v + c, and the level after it is 0"
pub record Driven (before : Motion) (c : ℕ) (after : Motion) : Type 0 where
  pub travel : after.head ≡ before.head + (before.speed + before.speed + c)
  pub speed : after.speed ≡ before.speed + c
  pub level : after.level ≡ 0

pub driven : (k : Figures) (m : Motion) (c : ℕ) → Driven m c (worst_case k m (Drive c))
unfolding drive_travel drive_speed
driven k m c = record { travel = omega arith; speed = refl; level = refl }

-- "A brake order starts at the level found after the last cycle: 0 after a driven one, the next level after a braked one"
pub record Braked (k : Figures) (before after : Motion) : Type 0 where
  pub travel : after.head ≡ before.head + brake_travel k before.speed before.level
  pub speed : after.speed ≡ brake_speed k before.speed before.level
  pub level : after.level ≡ next_level k before.level

pub braked : (k : Figures) (m : Motion) → Braked k m (worst_case k m Brake)
braked k m = record { travel = refl; speed = refl; level = refl }

-- "drive with its cap or brake, as one value of two cases"
pub brake_tested : (o : Order) → is_brake o ≡ true → o ≡ Brake
brake_tested (Drive c) e = let z : ◌≡◌ {A = ℕ} 0 1 = cc in absurd (omega arith)
brake_tested Brake e = refl
