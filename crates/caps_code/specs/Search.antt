-- What the search for the greatest cap takes for granted. Document 01 has the order only (motion/specs/Orders: order_for).
use Rattle.std.specs.Prelude.{ℕ, ◌+◌, ◌-◌, ◌/◌, ◌≤◌, ◌<◌, List, Option, None, Some, ◌≡◌, length, get_or, take}
use Rattle.brake.specs.declared.Figures.{Figures}
use Rattle.brake.specs.Consist.{figures_of}
use Rattle.ranges.specs.Ranges.{greatest_traction}
use Rattle.motion.specs.declared.Maxima.{Maxima}
use Rattle.motion.specs.declared.Order.TheVariants.{Drive}
use Rattle.motion.specs.Motion.{drive_speed, braked_run}
use Rattle.motion.specs.Orders.{reach, keeps_goal, greatest}
use Rattle.motion_code.specs.declared.Vehicle.{Vehicle}
use Rattle.motion_code.specs.declared.Offer.{Offer}
use Rattle.motion_code.specs.Offers.{offer}
use Rattle.caps.specs.Levels.{level_entry, level_list}
use Rattle.caps_code.specs.declared.Gap.{Gap}

-- ---- words of inner contracts

-- of the caps from 0 to A, those below n and no others keep v + c at most V
pub record CapsAllowed (k : Figures) (l : Maxima) (v n : ℕ) : Type 0 where
  pub within : n ≤ l.traction + 1
  pub keep : (c : ℕ) → c < n → drive_speed k v c ≤ l.ceiling
  pub exceed : (c : ℕ) → n ≤ c → c ≤ l.traction → l.ceiling < drive_speed k v c

-- how many caps there are from 0 to the greatest one: none where there is no greatest
abbrev pub caps_up_to : Option ℕ → ℕ
caps_up_to None = 0
caps_up_to (Some most) = most + 1

-- Places of the two arrays. The first is enough where few levels are read; no list of a consist is longer than the second
-- (caps/proofs/Levels: slow_run, list_within).
abbrev pub short_list : ℕ
short_list = 240

abbrev pub longest_list : ℕ
longest_list = 1991

-- n entries are enough for a run from speed v: the list has no more, or the run has no more cycles
pub data Enough (k : Figures) (v n : ℕ) : Type 0 where
  at_full : length (level_list k) ≤ n → Enough k v n
  at_stand : length (braked_run k v 0) ≤ n → Enough k v n

-- room for n entries, which are enough for a run from speed v wherever the figures are a consist's. A list of other figures may be longer.
pub record Room (k : Figures) (v n : ℕ) : Type 0 where
  pub most : n ≤ longest_list
  pub enough : (load l : ℕ) → figures_of load l ≡ Some k → Enough k v n

-- a list of levels, as far as it goes, for a run from speed v
pub record Listed (k : Figures) (v : ℕ) (list : List ℕ) : Type 0 where
  pub room : Room k v (length list)
  pub entry : (i : ℕ) → i < length list → get_or list i 0 ≡ level_entry k i

-- the first n numbers are such a list
pub record ListedTo (k : Figures) (v : ℕ) (list : List ℕ) (n : ℕ) : Type 0 where
  pub within : n ≤ length list
  pub listed : Listed k v (take n list)

-- speed at the end of a cycle driven with cap c: a trial brakes from there
abbrev pub driven : Vehicle → ℕ → ℕ
driven train c = drive_speed train.figures train.motion.speed c

-- a search below the cap high, whose reach lies beyond the goal
pub record Beyond (train : Vehicle) (goal high beyond : ℕ) : Type 0 where
  pub cap : high ≤ greatest_traction
  pub reached : beyond ≡ reach train.figures train.motion (Drive high)
  pub over : goal < beyond

-- a search below such a cap, and above the cap low, whose reach keeps the goal
pub record Closing (train : Vehicle) (goal : ℕ) (gap : Gap) : Type 0 where
  pub below : Beyond train goal gap.high gap.beyond
  pub reached : gap.kept ≡ reach train.figures train.motion (Drive gap.low)
  pub keeps : gap.kept ≤ goal

-- what the search finds: the greatest cap up to `most` that keeps the goal, with its reach, or brake where none does
abbrev pub best_within : Vehicle → ℕ → ℕ → Offer
best_within train goal most = offer train.figures train.motion (greatest (keeps_goal train.figures goal train.motion) most)

-- some cap lies between the two
pub record Apart (goal : ℕ) (gap : Gap) : Type 0 where
  pub between : gap.low + 1 < gap.high
  pub keeps : gap.kept ≤ goal
  pub over : goal < gap.beyond

-- so many trials guess; from then on each halves
abbrev pub guesses : ℕ
guesses = 8

-- the cap to try next after so many trials
pub record Next (trials : ℕ) (gap : Gap) (c : ℕ) : Type 0 where
  pub above : gap.low < c
  pub below : c < gap.high
  pub halves : guesses ≤ trials → c ≡ gap.low + (gap.high - gap.low) / 2
