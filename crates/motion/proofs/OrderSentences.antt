-- Document 01, "Worst-case motion" and "Orders", said a second time: stop travel, reach and the order of a train, in heads, speeds and
-- caps. A wrong definition is refused here or in Sentences, whatever the code.
-- Assumes nothing.
use Prim.Native.Nat.{ℕ, ◌+◌, ◌*◌, ◌≤◌, ◌<◌}
use mathlib.Core.Bool.{true, false, ◌&&◌}
use mathlib.Core.Logic.{by_cases, ◌⊎◌, inl, inr, ◌↔◌}
use mathlib.Core.Path.{◌≡◌, refl, sym, ◌∙◌}
use native.Mathlib.Decide.{dec_le}
use native.Mathlib.Omega.{arith}
use lib.Dec.{leb}
use borrow.Author.Tests.{le-leb, leb-true, ne_eqb}
use Rattle.brake.specs.declared.Figures.{Figures}
use Rattle.brake.specs.Consist.{Sound}
use Rattle.logic.proofs.Tests.{by_test, both, not_both}
use Rattle.logic.proofs.Rounding.{RoundedUp, rounded_once}
use Rattle.motion.specs.declared.Motion.{Motion}
use Rattle.motion.specs.declared.Maxima.{Maxima}
use Rattle.motion.specs.declared.Order.TheVariants.{Drive, Brake}
use Rattle.motion.specs.Motion.{brake_travel, brake_speed, next_level, drive_travel, drive_speed, stands, stopping_distance}
use Rattle.motion.specs.Orders.{stopping_place, reach, cap_fits, order_for}
use Rattle.motion.specs.Count.{cycles_to_stand}
use Rattle.motion.proofs.Runs.{stop_stands, stop_moves, stop_mono}
use Rattle.motion.proofs.Greatest.{greatest_is, greatest_only}

-- ---- stop travel

-- "Stop travel from v and b is the sum of braked cycles until speed 0"
pub stop_sum : (k : Figures) (v b : ℕ) → Sound k → 0 < v
    → stopping_distance k v b ≡ brake_travel k v b + stopping_distance k (brake_speed k v b) (next_level k b)
unfolding stands
stop_sum k v b s moving = stop_moves k v b s (ne_eqb v 0 (omega arith))

-- "at speed 0 it is 0"
pub stop_none : (k : Figures) (b : ℕ) → stopping_distance k 0 b ≡ 0
unfolding stands
stop_none k b = stop_stands k 0 b refl

-- ---- reach

-- "Reach is the worst-case head at the end of the coming cycle under that order, plus stop travel from the worst-case speed and
-- level found there"
pub reach_driven : (k : Figures) (m : Motion) (c : ℕ)
    → reach k m (Drive c) ≡ m.head + (2 * m.speed + c) + stopping_distance k (m.speed + c) 0
unfolding stopping_place drive_travel drive_speed
reach_driven k m c = refl

pub reach_braked : (k : Figures) (m : Motion)
    → reach k m Brake ≡ m.head + brake_travel k m.speed m.level + stopping_distance k (brake_speed k m.speed m.level) (next_level k m.level)
unfolding stopping_place
reach_braked k m = refl

-- ---- orders

module _ (k : Figures) (l : Maxima) (goal : ℕ) (m : Motion) where
  -- cap c fits: "v + c is at most V and the reach is at most the end of authority"
  pub record Fits (c : ℕ) : Type 0 where
    pub ceiling : m.speed + c ≤ l.ceiling
    pub stops : m.head + (2 * m.speed + c) + stopping_distance k (m.speed + c) 0 ≤ goal

  -- or it does not
  pub data Unfit (c : ℕ) : Type 0 where
    too_fast : l.ceiling < m.speed + c → Unfit c
    too_far : goal < m.head + (2 * m.speed + c) + stopping_distance k (m.speed + c) 0 → Unfit c

  -- both comparisons are the test
  test : (c : ℕ)
      → cap_fits k l goal m c ≡ leb (m.speed + c) l.ceiling && leb (m.head + (2 * m.speed + c) + stopping_distance k (m.speed + c) 0) goal
  unfolding cap_fits stopping_place drive_travel drive_speed
  test c = refl

  pub fits : (c : ℕ) → cap_fits k l goal m c ≡ true → Fits c
  fits c e =
      let passed = both _ _ (sym (test c) ∙ e) in
      record { ceiling = leb-true _ _ passed.0; stops = leb-true _ _ passed.1 }

  passes : (c : ℕ) → Fits c → cap_fits k l goal m c ≡ true
  passes c f = rw (test c, le-leb _ _ f.ceiling, le-leb _ _ f.stops)

  apart : (c : ℕ) → Fits c → Unfit c → ⊥
  apart c f (too_fast h) = omega arith
  apart c f (too_far h) = omega arith

  pub fails : (c : ℕ) → Unfit c → cap_fits k l goal m c ≡ false
  fails c u = by_test (cap_fits k l goal m c) (λ t. absurd (apart c (fits c t) u)) (λ f. f)

  unfit : (c : ℕ) → cap_fits k l goal m c ≡ false → Unfit c
  unfit c e =
      by_cases (dec_le (m.speed + c) l.ceiling)
      (λ slow. by_cases (dec_le (m.head + (2 * m.speed + c) + stopping_distance k (m.speed + c) 0) goal)
      (λ near. absurd (not_both (passes c (record { ceiling = slow; stops = near })) e))
      (λ far. too_far (omega arith)))
      (λ fast. too_fast (omega arith))

  -- "drive with the greatest cap c from 0 to A where v + c is at most V and the reach is at most the end of authority"
  pub record GreatestCap (c : ℕ) : Type 0 where
    pub within : c ≤ l.traction
    pub itself : Fits c
    pub none_greater : (d : ℕ) → c < d → d ≤ l.traction → Unfit d

  pub drive_exactly : (c : ℕ) → (order_for k l goal m ≡ Drive c) ↔ GreatestCap c
  unfolding order_for
  drive_exactly c = (only, exactly)
    where
      only : order_for k l goal m ≡ Drive c → GreatestCap c
      only e =
          let chosen = greatest_is (cap_fits k l goal m) l.traction (Drive c) e in
          record { within = chosen.within; itself = fits c chosen.itself; none_greater = λ d p q. unfit d (chosen.above d p q) }

      exactly : GreatestCap c → order_for k l goal m ≡ Drive c
      exactly g =
          greatest_only (cap_fits k l goal m) l.traction (Drive c)
          (record { within = g.within; itself = passes c g.itself; above = λ d p q. fails d (g.none_greater d p q) })

  -- "No such c: brake"
  pub brake_exactly : (order_for k l goal m ≡ Brake) ↔ ((c : ℕ) → c ≤ l.traction → Unfit c)
  unfolding order_for
  brake_exactly = (only, exactly)
    where
      only : order_for k l goal m ≡ Brake → (c : ℕ) → c ≤ l.traction → Unfit c
      only e c q = unfit c (greatest_is (cap_fits k l goal m) l.traction Brake e c q)

      exactly : ((c : ℕ) → c ≤ l.traction → Unfit c) → order_for k l goal m ≡ Brake
      exactly none = greatest_only (cap_fits k l goal m) l.traction Brake (λ c q. fails c (none c q))

  -- that is, where not even cap 0 fits
  pub brake_at_zero : Sound k
      → (order_for k l goal m ≡ Brake) ↔ ((l.ceiling < m.speed) ⊎ (goal < m.head + 2 * m.speed + stopping_distance k m.speed 0))
  brake_at_zero s = (only, exactly)
    where
      only : order_for k l goal m ≡ Brake → (l.ceiling < m.speed) ⊎ (goal < m.head + 2 * m.speed + stopping_distance k m.speed 0)
      only e = go (brake_exactly.0 e 0 (omega arith))
        where
          go : Unfit 0 → (l.ceiling < m.speed) ⊎ (goal < m.head + 2 * m.speed + stopping_distance k m.speed 0)
          go (too_fast h) = inl (omega arith)
          go (too_far h) = inr (let none : m.speed + 0 ≡ m.speed = omega arith in let far = rw none at h in omega arith)

      exactly : (l.ceiling < m.speed) ⊎ (goal < m.head + 2 * m.speed + stopping_distance k m.speed 0) → order_for k l goal m ≡ Brake
      exactly (inl fast) = brake_exactly.1 (λ c q. too_fast (omega arith))
      exactly (inr far) =
          brake_exactly.1 (λ c q. too_far (let longer : stopping_distance k m.speed 0 ≤ stopping_distance k (m.speed + c) 0 = stop_mono k 0 s (omega arith) in omega arith))

  -- "A standing train at its end gets drive with cap 0"
  pub standing_at_end : m.speed ≡ 0 → goal ≡ m.head → order_for k l goal m ≡ Drive 0
  standing_at_end stands here =
      (drive_exactly 0).1
      (record {
        within = omega arith;
        itself = record { ceiling = omega arith; stops = rw stands (let none = stop_none k 0 in omega arith) };
        none_greater = λ d p q. too_far (omega arith);
      })

  -- document 004's fault, a trap: "zero or negative distance to go releases the brake". No distance, or less than the speed alone takes: brake.
  pub no_distance_brakes : goal < m.head + 2 * m.speed → order_for k l goal m ≡ Brake
  no_distance_brakes h = brake_exactly.1 (λ c q. too_far (omega arith))

-- ---- the count

-- "1 + B/j + V/B, both quotients rounded up"
pub cycles_counted : (k : Figures) (ceiling growing slowing : ℕ) → Sound k → RoundedUp growing k.full k.growth → RoundedUp slowing ceiling k.full
    → cycles_to_stand k ceiling ≡ growing + slowing
unfolding cycles_to_stand
cycles_counted k ceiling growing slowing s g h =
    let one = rounded_once growing k.full k.growth s.growth_positive g in
    let two = rounded_once slowing ceiling k.full (omega arith) h in
    omega arith
