-- Document 01, "Line and consist", the table of ranges said a second time: which numbers pass each row's test, and no others.
-- An end that is wrong in the definition and in the code alike is refused here.
-- Assumes nothing.
use Prim.Native.Nat.{ℕ, ◌≤◌}
use mathlib.Core.Bool.{true}
use mathlib.Core.Logic.{◌↔◌}
use mathlib.Core.Path.{◌≡◌}
use Rattle.ranges.specs.Ranges.{line_end_in_range, safety_in_range, ceiling_in_range, traction_in_range, id_in_range, length_in_range, number_in_range, start_in_range}
use Rattle.ranges.proofs.Ranges.{between_exactly}

-- "line end: 1 to 2,000,000,000,000"
pub line_end : (n : ℕ) → (line_end_in_range n ≡ true) ↔ ((1 ≤ n) × (n ≤ 2000000000000))
line_end = between_exactly 1 2000000000000

-- "safety distance: 0 to 20,000,000,000"
pub safety_distance : (n : ℕ) → (safety_in_range n ≡ true) ↔ ((0 ≤ n) × (n ≤ 20000000000))
safety_distance = between_exactly 0 20000000000

-- "speed ceiling V: 1 to 40,000,000"
pub speed_ceiling : (n : ℕ) → (ceiling_in_range n ≡ true) ↔ ((1 ≤ n) × (n ≤ 40000000))
speed_ceiling = between_exactly 1 40000000

-- "greatest traction A: 1 to 100,000"
pub greatest_traction_lem : (n : ℕ) → (traction_in_range n ≡ true) ↔ ((1 ≤ n) × (n ≤ 100000))
greatest_traction_lem = between_exactly 1 100000

-- "train id: 1 to 65,535"
pub train_id : (n : ℕ) → (id_in_range n ≡ true) ↔ ((1 ≤ n) × (n ≤ 65535))
train_id = between_exactly 1 65535

-- "length: 1 to 10,000 ft"
pub train_length : (n : ℕ) → (length_in_range n ≡ true) ↔ ((1 ≤ n) × (n ≤ 10000))
train_length = between_exactly 1 10000

-- "request number: 1 to 4,294,967,295"
pub request_number : (n : ℕ) → (number_in_range n ≡ true) ↔ ((1 ≤ n) × (n ≤ 4294967295))
request_number = between_exactly 1 4294967295

-- "starting number may be 0"
pub starting_number : (n : ℕ) → (start_in_range n ≡ true) ↔ ((0 ≤ n) × (n ≤ 4294967295))
starting_number = between_exactly 0 4294967295
