-- Laws of orders: the cap that fits, and what an accepted report keeps.
-- Assumes nothing.
use Prim.Native.Nat.{ℕ, ◌≤◌, ◌<◌}
use mathlib.Core.Bool.{true, false}
use mathlib.Core.Logic.{◌⊎◌, inl, inr}
use mathlib.Core.Path.{◌≡◌, refl, sym}
use native.Mathlib.Nat.{le_trans, le_refl}
use native.Mathlib.Omega.{arith}
use lib.Dec.{leb}
use borrow.Author.Tests.{le-leb}
use Rattle.brake.specs.declared.Figures.{Figures}
use Rattle.brake.specs.Consist.{Sound}
use Rattle.motion.specs.declared.Motion.{Motion}
use Rattle.motion.specs.declared.Maxima.{Maxima}
use Rattle.motion.specs.declared.Order.{Order}
use Rattle.motion.specs.declared.Order.TheVariants.{Drive, Brake}
use Rattle.motion.specs.Motion.{drive_travel, drive_speed, released_level}
use Rattle.motion.specs.Orders.{order_cap, worst_case, stopping_place, reach, cap_fits, order_for}
use Rattle.ranges.specs.Ranges.{greatest_line_end, greatest_ceiling, greatest_traction}
use Rattle.motion.specs.Bounds.{Bounded}
use Rattle.motion.proofs.Cycles.{level_le}
use Rattle.motion.proofs.OrderSentences.{too_fast, fits, fails}
use Rattle.motion.proofs.Bounds.{speed_bound, bound_ceiling, bound_brake, bound_fits}
use Rattle.motion.proofs.Domination.{NoWorse, no_worse_drive, no_worse_stop, brake_keeps}
use Rattle.motion.proofs.Greatest.{IsGreatest, greatest_is}

-- ---- the cap that fits

-- a greater cap reaches no less far
pub reach_mono : (k : Figures) (m : Motion) (c d : ℕ) → Sound k → c ≤ d → reach k m (Drive c) ≤ reach k m (Drive d)
reach_mono k m c d s h =
    let same : NoWorse m m = record { head = le_refl _; speed = le_refl _; level = refl } in
    no_worse_stop k _ _ s (no_worse_drive k m m same h)

module _ (k : Figures) (l : Maxima) (goal : ℕ) (m : Motion) where
  pub fits_keeps : (c : ℕ) → cap_fits k l goal m c ≡ true → (drive_speed k m.speed c ≤ l.ceiling) × (reach k m (Drive c) ≤ goal)
  unfolding stopping_place drive_travel drive_speed
  fits_keeps c e = let f = fits k l goal m c e in (f.ceiling, f.stops)

  pub fits_over : (c : ℕ) → l.ceiling < drive_speed k m.speed c → cap_fits k l goal m c ≡ false
  unfolding drive_speed
  fits_over c h = fails k l goal m c (too_fast h)

  pub fits_under : (c : ℕ) → drive_speed k m.speed c ≤ l.ceiling → cap_fits k l goal m c ≡ leb (reach k m (Drive c)) goal
  unfolding cap_fits
  fits_under c h = rw (le-leb (drive_speed k m.speed c) l.ceiling h)

-- ---- an accepted report

-- what a report may order: brake, or what the rule gives against the goal
abbrev pub MayOrder : Figures → Maxima → ℕ → Motion → Order → Type 0
MayOrder k l goal m o = (o ≡ Brake) ⊎ (o ≡ order_for k l goal m)

-- a cap so ordered fits, and is the greatest from 0 to A that does
pub ordered_cap : (k : Figures) (l : Maxima) (goal : ℕ) (m : Motion) (c : ℕ) → MayOrder k l goal m (Drive c) → IsGreatest (cap_fits k l goal m) l.traction c
unfolding order_for
ordered_cap k l goal m c (inl e) = let z : ◌≡◌ {A = ℕ} 0 1 = cc in absurd (omega arith)
ordered_cap k l goal m c (inr e) = greatest_is (cap_fits k l goal m) l.traction (Drive c) (sym e)

-- no worse than the worst case of the last order, whose reach kept the end: the new order keeps it too
pub order_keeps : (k : Figures) (l : Maxima) (m : Motion) (o : Order) (m' : Motion) (o' : Order) (goal end : ℕ) → Sound k
    → NoWorse m' (worst_case k m o) → reach k m o ≤ end → goal ≤ end → MayOrder k l goal m' o' → reach k m' o' ≤ end
order_keeps k l m o m' (Drive c) goal end s h r g order =
    le_trans (fits_keeps k l goal m' c (ordered_cap k l goal m' c order).itself).1 g
order_keeps k l m o m' Brake goal end s h r g order = le_trans (brake_keeps k m o m' s h) r

-- ---- bounds that reports keep

-- what a line's settings bound in a train and its order
pub record Within (k : Figures) (l : Maxima) (m : Motion) (o : Order) : Type 0 where
  pub speed : m.speed ≤ speed_bound k l.ceiling m.level
  pub level : m.level ≤ k.full
  pub worst : (worst_case k m o).speed ≤ speed_bound k l.ceiling (worst_case k m o).level
  pub cap : order_cap o ≤ l.traction

-- whatever a report orders keeps them
within_order : (k : Figures) (l : Maxima) (goal : ℕ) (m : Motion) (o : Order) → m.speed ≤ speed_bound k l.ceiling m.level → m.level ≤ k.full
    → MayOrder k l goal m o → Within k l m o
within_order k l goal m (Drive c) speed level order =
    let greatest = ordered_cap k l goal m c order in
    record {
      speed = speed;
      level = level;
      worst = bound_ceiling k l.ceiling released_level _ (fits_keeps k l goal m c greatest.itself).0;
      cap = greatest.within;
    }
within_order k l goal m Brake speed level order =
    record { speed = speed; level = level; worst = bound_brake k l.ceiling m.level m.speed speed; cap = omega arith }

-- a train enters standing, under full brake
pub within_entering : (k : Figures) (l : Maxima) (m : Motion) → m.speed ≡ 0 → m.level ≡ k.full → Within k l m Brake
within_entering k l m stands full =
    within_order k l 0 m Brake (bound_ceiling k l.ceiling m.level m.speed (omega arith)) (omega arith) (inl refl)

worst_level : (k : Figures) (m : Motion) (o : Order) → (worst_case k m o).level ≤ k.full
worst_level k m (Drive c) = omega arith
worst_level k m Brake = level_le k m.level

-- and reports no worse than the worst case
pub within_report : (k : Figures) (l : Maxima) (m : Motion) (o : Order) (m' : Motion) (o' : Order) (goal : ℕ)
    → Within k l m o → NoWorse m' (worst_case k m o) → MayOrder k l goal m' o' → Within k l m' o'
within_report k l m o m' o' goal w h order =
    within_order k l goal m' o' (rw h.level (le_trans h.speed w.worst)) (rw h.level (worst_level k m o)) order

-- so every sum of a train's calls fits
pub within_bounded : (k : Figures) (l : Maxima) (m : Motion) (o : Order) → Sound k
    → l.ceiling ≤ greatest_ceiling → l.traction ≤ greatest_traction → m.head ≤ greatest_line_end → Within k l m o → Bounded k m (order_cap o)
within_bounded k l m o s v a h w =
    record {
      figures = s;
      head = h;
      speed = bound_fits k l.ceiling m.level m.speed v w.speed;
      level = w.level;
      cap = omega arith;
    }
