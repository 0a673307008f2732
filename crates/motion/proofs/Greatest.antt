-- The greatest number that passes a test: what it is.
-- Assumes nothing.
use Prim.Native.Nat.{ℕ, zero, suc, ◌≤◌, ◌<◌}
use mathlib.Core.Bool.{Bool, true, false}
use mathlib.Core.Logic.{by_cases}
use mathlib.Core.Path.{◌≡◌, refl, sym, ◌∙◌, ap, subst}
use native.Mathlib.Decide.{dec_le, dec_lt}
use native.Mathlib.Nat.{le_refl, le_trans}
use native.Mathlib.Omega.{arith}
use Rattle.logic.proofs.Tests.{by_test, not_both}
use Rattle.motion.specs.declared.Order.{Order}
use Rattle.motion.specs.declared.Order.TheVariants.{Drive, Brake}
use Rattle.motion.specs.Orders.{greatest}

-- ---- what the greatest is

pub record IsGreatest (passes : ℕ → Bool) (n c : ℕ) : Type 0 where
  pub within : c ≤ n
  pub itself : passes c ≡ true
  pub above : (d : ℕ) → c < d → d ≤ n → passes d ≡ false

abbrev pub Chosen : (ℕ → Bool) → ℕ → Order → Type 0
Chosen passes n (Drive c) = IsGreatest passes n c
Chosen passes n Brake = (d : ℕ) → d ≤ n → passes d ≡ false

module _ (passes : ℕ → Bool) where
  greatest_here : (n : ℕ) → passes n ≡ true → greatest passes n ≡ Drive n
  unfolding greatest
  greatest_here zero e = rw (e, greatest)
  greatest_here (suc n) e = rw (e, greatest)

  greatest_below : (n : ℕ) → passes (suc n) ≡ false → greatest passes (suc n) ≡ greatest passes n
  unfolding greatest
  greatest_below n e = rw (e, greatest)

  greatest_none : passes 0 ≡ false → greatest passes 0 ≡ Brake
  unfolding greatest
  greatest_none e = rw (e, greatest)

  top : (n : ℕ) → passes n ≡ true → Chosen passes n (greatest passes n)
  top n t = subst (Chosen passes n) (sym (greatest_here n t)) (record { within = le_refl n; itself = t; above = λ d p q. absurd (omega arith) })

  -- what was chosen up to n is chosen up to n + 1 where that fails
  up : (n : ℕ) (o : Order) → passes (suc n) ≡ false → Chosen passes n o → Chosen passes (suc n) o
  up n (Drive c) f g =
      record {
        within = omega arith;
        itself = g.itself;
        above = λ d p q. by_cases (dec_le d n) (λ h. g.above d p h) (λ h. let z : d ≡ suc n = omega arith in ap passes z ∙ f);
      }
  up n Brake f g = λ d q. by_cases (dec_le d n) (λ h. g d h) (λ h. let z : d ≡ suc n = omega arith in ap passes z ∙ f)

  -- the definition gives the greatest number up to n that passes, or Brake where none does
  pub greatest_chosen : (n : ℕ) → Chosen passes n (greatest passes n)
  greatest_chosen zero =
      by_test (passes 0)
      (λ t. top 0 t)
      (λ f. subst (Chosen passes 0) (sym (greatest_none f)) (λ d q. let z : d ≡ 0 = omega arith in ap passes z ∙ f))
  greatest_chosen (suc n) =
      by_test (passes (suc n))
      (λ t. top (suc n) t)
      (λ f. subst (Chosen passes (suc n)) (sym (greatest_below n f)) (up n (greatest passes n) f (greatest_chosen n)))

  pub greatest_is : (n : ℕ) (o : Order) → greatest passes n ≡ o → Chosen passes n o
  greatest_is n o e = subst (Chosen passes n) e (greatest_chosen n)

  chosen_once : (n : ℕ) (o o' : Order) → Chosen passes n o → Chosen passes n o' → o ≡ o'
  chosen_once n (Drive c) (Drive d) g h =
      by_cases (dec_lt c d)
      (λ less. absurd (not_both h.itself (g.above d less h.within)))
      (λ le. by_cases (dec_lt d c)
      (λ less. absurd (not_both g.itself (h.above c less g.within)))
      (λ ge. let z : c ≡ d = omega arith in ap Drive z))
  chosen_once n (Drive c) Brake g h = absurd (not_both g.itself (h c g.within))
  chosen_once n Brake (Drive d) g h = absurd (not_both h.itself (g d h.within))
  chosen_once n Brake Brake g h = refl

  -- and nothing else is it
  pub greatest_only : (n : ℕ) (o : Order) → Chosen passes n o → greatest passes n ≡ o
  greatest_only n o h = chosen_once n (greatest passes n) o (greatest_chosen n) h

-- two tests that agree up to n, where the first passes none from there up to n': the greatest is the same
module _ (passes passes' : ℕ → Bool) (n n' : ℕ) (le : n ≤ n') where
  chosen_agree : (o : Order) → ((d : ℕ) → d ≤ n → passes d ≡ passes' d) → ((d : ℕ) → n < d → d ≤ n' → passes d ≡ false)
      → Chosen passes' n o → Chosen passes n' o
  chosen_agree (Drive c) same none g =
      record {
        within = le_trans g.within le;
        itself = same c g.within ∙ g.itself;
        above = λ d p q. by_cases (dec_le d n) (λ h. same d h ∙ g.above d p h) (λ h. none d (omega arith) q);
      }
  chosen_agree Brake same none g = λ d q. by_cases (dec_le d n) (λ h. same d h ∙ g d h) (λ h. none d (omega arith) q)

  pub greatest_agree : ((d : ℕ) → d ≤ n → passes d ≡ passes' d) → ((d : ℕ) → n < d → d ≤ n' → passes d ≡ false)
      → greatest passes n' ≡ greatest passes' n
  greatest_agree same none =
      greatest_only passes n' (greatest passes' n) (chosen_agree (greatest passes' n) same none (greatest_chosen passes' n))
