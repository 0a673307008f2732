-- The search for the greatest cap: which caps are allowed, where the search ends, which list serves it, and how many trials it takes.
-- Assumes nothing.
use Prim.Native.Nat.{ℕ, zero, suc, ◌+◌, ◌-◌, ◌*◌, ◌/◌, ◌≤◌, ◌<◌}
use mathlib.Core.Bool.{false}
use mathlib.Core.List.{List}
use mathlib.Core.Logic.{by_cases}
use mathlib.Core.Path.{◌≡◌}
use native.Mathlib.Decide.{dec_le}
use native.Mathlib.Nat.{le_refl, le_trans}
use native.Mathlib.Omega.{arith}
use lib.ListN.{length}
use borrow.Author.Tests.{le-leb, lt-leb}
use Rattle.brake.specs.declared.Figures.{Figures}
use Rattle.std.specs.Prelude.{Some}
use Rattle.brake.specs.Consist.{Sound, figures_of}
use Rattle.ranges.specs.Ranges.{greatest_traction}
use Rattle.motion.specs.declared.Motion.{Motion}
use Rattle.motion.specs.declared.Maxima.{Maxima}
use Rattle.motion.specs.declared.Order.TheVariants.{Drive, Brake}
use Rattle.motion.specs.Motion.{drive_speed}
use Rattle.motion.specs.Orders.{reach, cap_fits, keeps_goal, greatest, order_for}
use Rattle.motion.specs.Bounds.{greatest_speed, Driving}
use Rattle.motion.proofs.Cycles.{drive_speed_mono}
use Rattle.motion.proofs.Runs.{run_mono}
use Rattle.motion.proofs.Greatest.{greatest_only, greatest_agree}
use Rattle.motion.proofs.Orders.{reach_mono, fits_over, fits_under}
use Rattle.caps_code.specs.declared.Gap.{Gap}
use Rattle.caps.specs.Levels.{level_list}
use Rattle.caps.proofs.Levels.{entry_full, list_ends, list_within}
use Rattle.caps_code.specs.Search.{CapsAllowed, short_list, longest_list, Enough, at_full, at_stand, Listed, guesses, Next}

module _ (k : Figures) (l : Maxima) (goal : ℕ) (m : Motion) where
  -- no cap is allowed: brake
  pub none_allowed : CapsAllowed k l m.speed 0 → order_for k l goal m ≡ Brake
  unfolding order_for
  none_allowed a = greatest_only (cap_fits k l goal m) l.traction Brake (λ d q. fits_over k l goal m d (a.exceed d (omega arith) q))

  -- some are: the greatest of these that keeps the goal
  pub some_allowed : (high : ℕ) → CapsAllowed k l m.speed (high + 1) → order_for k l goal m ≡ greatest (keeps_goal k goal m) high
  unfolding order_for
  some_allowed high a =
      let within = a.within in
      greatest_agree (cap_fits k l goal m) (keeps_goal k goal m) high l.traction (omega arith)
      (λ d q. fits_under k l goal m d (a.keep d (omega arith)))
      (λ d p q. fits_over k l goal m d (a.exceed d (omega arith) q))

-- ---- the end of the search

module _ (k : Figures) (goal : ℕ) (m : Motion) (s : Sound k) (high : ℕ) where
  fails_above : (c d : ℕ) → c ≤ d → goal < reach k m (Drive c) → keeps_goal k goal m d ≡ false
  fails_above c d h over = lt-leb _ _ (le_trans over (reach_mono k m c d s h))

  -- this cap keeps the goal, and it is the greatest allowed, or the next one does not keep it: then it is the greatest that does
  pub found : (c : ℕ) → c ≤ high → reach k m (Drive c) ≤ goal → (c < high → goal < reach k m (Drive (suc c))) → greatest (keeps_goal k goal m) high ≡ Drive c
  found c h kept next =
      greatest_only (keeps_goal k goal m) high (Drive c)
      (record { within = h; itself = le-leb _ _ kept; above = λ d p q. fails_above (suc c) d (omega arith) (next (omega arith)) })

  -- cap 0 does not keep it: then none does
  pub none_found : goal < reach k m (Drive 0) → greatest (keeps_goal k goal m) high ≡ Brake
  none_found over = greatest_only (keeps_goal k goal m) high Brake (λ d q. fails_above 0 d (omega arith) over)

-- ---- the list

-- a driven cycle ends no faster
pub drive_speed_fits : (k : Figures) (v c : ℕ) → Driving k v c → drive_speed k v c ≤ greatest_speed + greatest_traction
unfolding drive_speed
drive_speed_fits k v c h = omega arith

-- it ends with B: a short one by entry 239
pub list_short : (k : Figures) → Sound k → k.full ≤ 239 * k.growth → length (level_list k) ≤ short_list
list_short k s h = list_ends k s 239 (entry_full k 239 h)

-- and no consist's is longer
pub list_most : (load l : ℕ) (k : Figures) → figures_of load l ≡ Some k → length (level_list k) ≤ longest_list
list_most load l k e = (list_within load l k e).1

-- n entries that are enough for a run are enough for a slower one
enough_below : {k : Figures} {v v' n : ℕ} → Sound k → v ≤ v' → Enough k v' n → Enough k v n
enough_below s h (at_full e) = at_full e
enough_below {k = k} s h (at_stand e) = at_stand (le_trans (run_mono k 0 s h) e)

-- so the list for the greatest cap serves every cap below it
pub listed_below : {k : Figures} (v : ℕ) {c d : ℕ} {list : List ℕ} → Sound k → c ≤ d → Listed k (drive_speed k v d) list → Listed k (drive_speed k v c) list
listed_below {k = k} v s h l =
    record {
      room = record { most = l.room.most; enough = λ load f e. enough_below s (drive_speed_mono k (le_refl v) h) (l.room.enough load f e) };
      entry = l.entry;
    }

-- ---- how many trials it takes

-- number of binary digits; the first argument bounds the recursion
digits_within : ℕ → ℕ → ℕ
digits_within zero n = 0
digits_within (suc f) zero = 0
digits_within (suc f) (suc n) = suc (digits_within f (suc n / 2))

pub digits : ℕ → ℕ
digits n = digits_within n n

digits_mono : (f g m n : ℕ) → m ≤ n → m ≤ f → n ≤ g → digits_within f m ≤ digits_within g n
unfolding digits_within
digits_mono zero g m n h p q = omega arith
digits_mono (suc f) g zero n h p q = omega arith
digits_mono (suc f) zero (suc m) n h p q = absurd (omega arith)
digits_mono (suc f) (suc g) (suc m) zero h p q = absurd (omega arith)
digits_mono (suc f) (suc g) (suc m) (suc n) h p q =
    let less = digits_mono f g (suc m / 2) (suc n / 2) (omega arith) (omega arith) (omega arith) in omega arith

digits_le : (m n : ℕ) → m ≤ n → digits m ≤ digits n
unfolding digits
digits_le m n h = digits_mono m n m n h (le_refl m) (le_refl n)

-- half has a digit less
half_digits : (m n : ℕ) → 0 < n → m ≤ n / 2 → digits m < digits n
unfolding digits digits_within
half_digits m zero h p = absurd (omega arith)
half_digits m (suc n) h p = let less = digits_mono m n m (suc n / 2) p (le_refl m) (omega arith) in omega arith

-- The trials that are left, after so many and with so many caps between the two: those that guess, and then one for each digit.
abbrev pub trials_left : ℕ → ℕ → ℕ
trials_left trials between = (guesses - trials) + digits between

-- A trial of what comes next leaves fewer: the end that moves to it leaves d caps between, and no more than half of them where the cap halves.
fewer_left : {trials c : ℕ} {gap : Gap} (d : ℕ) → Next trials gap c → d ≤ gap.high - gap.low - 1
    → (c ≡ gap.low + (gap.high - gap.low) / 2 → d ≤ (gap.high - gap.low - 1) / 2)
    → trials_left (trials + 1) d < trials_left trials (gap.high - gap.low - 1)
fewer_left {trials = trials} {gap = gap} d next closer nearer =
    by_cases (dec_le guesses trials)
    (λ halving.
    let digit = half_digits d (gap.high - gap.low - 1) (omega (arith, next.above, next.below)) (nearer (next.halves halving)) in omega arith)
    (λ guessing. let fewer = digits_le d (gap.high - gap.low - 1) closer in omega arith)

pub fewer_above : (trials : ℕ) (gap : Gap) (c : ℕ) → Next trials gap c
    → trials_left (trials + 1) (gap.high - c - 1) < trials_left trials (gap.high - gap.low - 1)
fewer_above trials gap c next = fewer_left (gap.high - c - 1) next (omega (arith, next.above, next.below)) (λ half. omega arith)

pub fewer_below : (trials : ℕ) (gap : Gap) (c : ℕ) → Next trials gap c
    → trials_left (trials + 1) (c - gap.low - 1) < trials_left trials (gap.high - gap.low - 1)
fewer_below trials gap c next = fewer_left (c - gap.low - 1) next (omega (arith, next.above, next.below)) (λ half. omega arith)

-- no search takes more than 25
pub trials_most : (gap : Gap) → gap.high ≤ greatest_traction → trials_left 0 (gap.high - gap.low - 1) ≤ 25
unfolding digits digits_within
trials_most gap h = let few = digits_le (gap.high - gap.low - 1) 99999 (omega arith) in omega arith
