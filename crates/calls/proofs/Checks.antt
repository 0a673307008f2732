-- What an accepted call has passed, and what a refused one was refused by.
-- Assumes nothing.
use Rattle.std.specs.Prelude.{None, Some}
use Prim.Native.Nat.{ℕ}
use mathlib.Core.Bool.{Bool, true, false, cond, ◌&&◌}
use mathlib.Core.List.{List, [], ◌∷◌}
use mathlib.Core.Path.{◌≡◌, refl, subst}
use native.Mathlib.Omega.{arith}
use Rattle.logic.proofs.Tests.{both}
use Rattle.calls.specs.declared.Refusal.{Refusal}
use Rattle.calls.specs.Checks.{Check, check, first_of}

-- no check applies: not the first, and none of the rest
pub passed : (b : Bool) (r : Refusal) (cs : List Check) → first_of (check b r ∷ cs) ≡ None → (b ≡ false) × (first_of cs ≡ None)
unfolding first_of
passed true r cs e = let z : ◌≡◌ {A = ℕ} 0 1 = cc in absurd (omega arith)
passed false r cs e = (refl, e)

-- what each check's refusal passes, the answer passes
abbrev pub each : (Refusal → Bool) → List Check → Bool
each p [] = true
each p (c ∷ cs) = p c.refusal && each p cs

pub refused_by : (p : Refusal → Bool) (cs : List Check) → each p cs ≡ true → (r : Refusal) → first_of cs ≡ Some r → p r ≡ true
unfolding first_of
refused_by p [] all r e = let z : ◌≡◌ {A = ℕ} 0 1 = cc in absurd (omega arith)
refused_by p (c ∷ cs) all r e =
    let tests = both (p c.refusal) (each p cs) all in
    go c.applies tests.0 (refused_by p cs tests.1 r) e
  where
    go : (b : Bool) → p c.refusal ≡ true → (first_of cs ≡ Some r → p r ≡ true) → cond b (Some c.refusal) (first_of cs) ≡ Some r → p r ≡ true
    go true here later e = let same : c.refusal ≡ r = cc in subst (λ (q : Refusal). p q ≡ true) same here
    go false here later e = later e
