-- Laws of the limit.
-- Assumes nothing.
use Rattle.std.specs.Prelude.{None, Some, Option}
use Prim.Native.Nat.{ℕ, ◌+◌, ◌-◌, ◌≤◌, ◌<◌}
use mathlib.Core.Bool.{true, false}
use mathlib.Core.Path.{◌≡◌, refl, subst}
use native.Mathlib.Omega.{arith}
use lib.Dec.{leb}
use borrow.Author.Tests.{le-leb, lt-leb, leb-true, leb-false}
use Rattle.logic.proofs.Tests.{by_test}
use Rattle.train.specs.declared.Settings.{Settings}
use Rattle.train.specs.declared.Train.{Train}
use Rattle.train.specs.Track.{steps_of, limit_behind, within_limit}

-- ---- what is within a limit

abbrev pub InLimit : Option ℕ → ℕ → Type 0
InLimit (Some limit) place = place ≤ limit
InLimit None place = ⊥

pub limit_tested : (l : Option ℕ) (place : ℕ) → within_limit l place ≡ true → InLimit l place
limit_tested (Some limit) place e = leb-true _ _ e
limit_tested None place e = let z : ◌≡◌ {A = ℕ} 0 1 = cc in omega arith

pub limit_within : (l : Option ℕ) (place : ℕ) → InLimit l place → within_limit l place ≡ true
limit_within (Some limit) place limited = le-leb place limit limited
limit_within None place limited = absurd limited

pub limit_beyond : (l : Option ℕ) (place : ℕ) → (InLimit l place → ⊥) → within_limit l place ≡ false
limit_beyond (Some limit) place beyond = by_test (leb place limit) (λ e. absurd (beyond (leb-true _ _ e))) (λ e. e)
limit_beyond None place beyond = refl

pub limit_below : (l : Option ℕ) {p q : ℕ} → p ≤ q → InLimit l q → InLimit l p
limit_below (Some limit) h limited = omega arith
limit_below None h limited = limited

-- ---- the first train

pub limit_first : (σ : Settings) → limit_behind σ None ≡ Some σ.end
unfolding limit_behind
limit_first σ = refl

-- ---- behind the train a

module _ (σ : Settings) (a : Train) where
  -- no room for the safety distance behind the rear
  pub limit_nowhere : a.motion.head < steps_of a.length + σ.safety → limit_behind σ (Some a) ≡ None
  unfolding limit_behind
  limit_nowhere h = rw (lt-leb (steps_of a.length + σ.safety) a.motion.head h, limit_behind)

  pub limit_place : steps_of a.length + σ.safety ≤ a.motion.head → limit_behind σ (Some a) ≡ Some (a.motion.head - steps_of a.length - σ.safety)
  unfolding limit_behind
  limit_place h = rw (le-leb (steps_of a.length + σ.safety) a.motion.head h, limit_behind)

  -- the limit as a sum: no difference in it
  pub in_behind : (place : ℕ) → InLimit (limit_behind σ (Some a)) place → place + σ.safety + steps_of a.length ≤ a.motion.head
  in_behind place limited =
      by_test (leb (steps_of a.length + σ.safety) a.motion.head)
      (λ e.
      let room = leb-true _ _ e in
      let h : place ≤ a.motion.head - steps_of a.length - σ.safety = subst (λ (l : Option ℕ). InLimit l place) (limit_place room) limited in
      omega arith)
      (λ e. absurd (subst (λ (l : Option ℕ). InLimit l place) (limit_nowhere (leb-false _ _ e)) limited))

  pub behind_in : (place : ℕ) → place + σ.safety + steps_of a.length ≤ a.motion.head → InLimit (limit_behind σ (Some a)) place
  behind_in place h = rw (limit_place (omega arith)) (omega arith)
