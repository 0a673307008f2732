-- Document 01, "Line and consist": the brake figures of a consist, from its load class and its length in feet.
use Rattle.std.specs.Prelude.{ℕ, ◌+◌, ◌*◌, ◌/◌, ◌≤◌, cond, eqb, Option, Some, None}
use Rattle.brake.specs.declared.Figures.{Figures}
use Rattle.logic.specs.Rounding.{ceil_div}
use Rattle.ranges.specs.Ranges.{length_in_range}

-- the load class alone decides force (lbf) and mass (lb) per car: 1 loaded, 2 empty, 3 unknown
unfoldable pub car_of : ℕ → Option (ℕ × ℕ)
car_of load =
    cond (eqb load 1) (Some (35750, 263000))
    (cond (eqb load 2) (Some (10575, 64000))
    (cond (eqb load 3) (Some (23338, 263000))
    None))

-- full brake B, with standard gravity
unfoldable pub full_brake : ℕ → ℕ → ℕ
full_brake force mass = force * 980665 / mass

-- application time in nanoseconds
unfoldable pub application_time : ℕ → ℕ
application_time l = 12220000000 + 15600000 * l + 278 * (l * l)

-- cycles, by the formula
unfoldable pub application_cycles : ℕ → ℕ
application_cycles l = ceil_div (application_time l) 100000000

-- entry k of the brake shop's sheet (document 02, (i)), for 20×k ft: from 0 to 10,000 ft there are 501
unfoldable pub sheet_entry : ℕ → ℕ
sheet_entry k = application_cycles (20 * k)

-- the entry that a length takes: that of the next multiple of 20 at or above it
unfoldable pub entry_for : ℕ → ℕ
entry_for l = ceil_div l 20

-- cycles that an entering train's growth is worked out with
unfoldable pub brake_cycles : ℕ → ℕ
brake_cycles l = sheet_entry (entry_for l)

-- full brake B and growth j of a car and a length
unfoldable pub figures_with : ℕ → ℕ → ℕ → Figures
figures_with force mass l = record { full = full_brake force mass; growth = full_brake force mass / brake_cycles l }

-- the same for what a load class says of its cars
unfoldable pub figures_by : Option (ℕ × ℕ) → ℕ → Option Figures
figures_by None l = None
figures_by (Some (force, mass)) l = Some (figures_with force mass l)

-- the figures of a consist, or none where its length or its load class is out of range (answer 4)
unfoldable pub figures_of : ℕ → ℕ → Option Figures
figures_of load l = cond (length_in_range l) (figures_by (car_of load) l) None

-- full brake of class 2, the highest of the three
abbrev pub greatest_full : ℕ
greatest_full = 162039

-- ---- words of inner contracts

-- What code that computes with figures may take for granted: `figures_of` gives no others (proofs/Consist: given_sound).
-- Document 01 has no such word. It stands in `requires` clauses, so that no sum overflows and the brake grows.
pub record Sound (k : Figures) : Type 0 where
  pub growth_positive : 1 ≤ k.growth
  pub growth_within : k.growth ≤ k.full
  pub full_within : k.full ≤ greatest_full
