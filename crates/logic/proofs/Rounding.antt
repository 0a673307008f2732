-- Laws of the quotients that document 01 rounds up or down.
-- Assumes nothing.
use Prim.Native.Nat.{ℕ, ◌+◌, ◌-◌, ◌*◌, ◌/◌, ◌≤◌, ◌<◌}
use mathlib.Core.Path.{◌≡◌}
use native.Mathlib.Nat.{le_trans, le-div_iff_mul-le, div-lt_iff_lt-mul, div-mul-le_self, lt_of_mul-lt-mul_right, lt-div-mul-add}
use native.Mathlib.Omega.{arith}
use Rattle.logic.specs.Rounding.{ceil_div}

-- at most n where the dividend is at most n times the divisor
pub ceil_le : {a b : ℕ} (n : ℕ) → 0 < b → a ≤ n * b → ceil_div a b ≤ n
unfolding ceil_div
ceil_le {a} {b} n positive h =
    let l : (a + (b - 1)) / b < n + 1 = (div-lt_iff_lt-mul positive).1 (omega arith) in
    omega arith

-- and never less than the dividend asks for
pub ceil_ge : (a : ℕ) {b : ℕ} → 0 < b → a ≤ ceil_div a b * b
unfolding ceil_div
ceil_ge a {b} positive = let l = lt-div-mul-add {a = a + (b - 1)} positive in omega arith

pub ceil_positive : {a b : ℕ} → 0 < a → 0 < b → 0 < ceil_div a b
unfolding ceil_div
ceil_positive {a} {b} some positive = (le-div_iff_mul-le positive).1 (omega arith)

pub ceil_mono : {a a' b : ℕ} → 0 < b → a ≤ a' → ceil_div a b ≤ ceil_div a' b
ceil_mono {a} {a'} {b} positive h = ceil_le (ceil_div a' b) positive (le_trans h (ceil_ge a' positive))

-- ---- the same by products, without a quotient

-- q is a / b, rounded down
pub record RoundedDown (q a b : ℕ) : Type 0 where
  pub within : q * b ≤ a
  pub next_exceeds : a < (q + 1) * b

-- q is a / b, rounded up
pub record RoundedUp (q a b : ℕ) : Type 0 where
  pub enough : a ≤ q * b
  pub no_more : q * b < a + b

pub rounded_down : (a b : ℕ) → 0 < b → RoundedDown (a / b) a b
rounded_down a b positive =
    let below = div-mul-le_self a b in
    let above = lt-div-mul-add {a = a} positive in
    record { within = below; next_exceeds = omega arith }

pub rounded_up : (a b : ℕ) → 0 < b → RoundedUp (ceil_div a b) a b
unfolding ceil_div
rounded_up a b positive =
    let below = div-mul-le_self (a + (b - 1)) b in
    record { enough = ceil_ge a positive; no_more = omega arith }

pub rounded_once : (q a b : ℕ) → 0 < b → RoundedUp q a b → ceil_div a b ≡ q
rounded_once q a b positive h =
    let least = ceil_le q positive h.enough in
    let most : q < ceil_div a b + 1 = lt_of_mul-lt-mul_right b (let reached = ceil_ge a positive in omega arith) in
    omega arith
