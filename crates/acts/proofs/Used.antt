-- Numbers that were used: what an extension with one may come to, and that the last accepted one never goes back. It rests on the laws of each
-- refusal (Sentences), and stands apart from them, so that a wrong definition is refused there.
-- Assumes nothing.
use Rattle.std.specs.Prelude.{None, Option, ℕ, Err, Ok}
use Prim.Native.Nat.{◌≤◌, ◌<◌}
use mathlib.Core.Bool.{true}
use mathlib.Core.Logic.{by_cases, ◌⊎◌, inl, inr}
use mathlib.Core.Path.{◌≡◌, subst}
use native.Mathlib.Decide.{ℕ_discrete, dec_lt}
use native.Mathlib.Omega.{arith}
use Rattle.logic.proofs.Tests.{by_test, not_both}
use Rattle.calls.specs.declared.Extension.{Extension}
use Rattle.calls.specs.declared.Act.{Act}
use Rattle.calls.specs.declared.Act.TheVariants.{Extend}
use Rattle.calls.specs.declared.Refusal.{Refusal}
use Rattle.calls.specs.declared.Refusal.TheVariants.{BadRequest, OldNumber, OtherLength}
use Rattle.calls.specs.Checks.{first_of}
use Rattle.calls.specs.declared.Values.TheVariants.{Extended}
use Rattle.train.specs.declared.Settings.{Settings}
use Rattle.train.specs.declared.Train.{Train}
use Rattle.acts.specs.Acts.{request_in_range, extended}
use Rattle.acts.specs.Decide.{decide, verdict}
use Rattle.acts.proofs.Forms.{well_formed, ranged}
use Rattle.acts.proofs.Sentences.{extension_10, extension_11, extension_12, extension_repeated, extension_accepted, act_leaves}

-- a number above the starting one, up to the last accepted: refused, or the repeat that changes nothing
pub extension_used : (σ : Settings) (limit : Option ℕ) (x : Train) (q : Extension) → x.authority.start < q.number → q.number ≤ x.authority.number
    → ((r : Refusal) × (verdict (decide σ limit x (Extend q)) ≡ Err r)) ⊎ (verdict (decide σ limit x (Extend q)) ≡ Ok ((Extended x.authority.end true), x))
extension_used σ limit x q above used =
    by_test (request_in_range σ q)
    (λ e.
    let a = well_formed σ q e in
    by_cases (dec_lt q.number x.authority.number)
    (λ low. inl (OldNumber, extension_11 σ limit x q a (inr low)))
    (λ high.
    let last : q.number ≡ x.authority.number = omega arith in
    by_cases (ℕ_discrete q.length x.authority.length)
    (λ same. inr (extension_repeated σ limit x q a above last same))
    (λ other. inl (OtherLength, extension_12 σ limit x q a above last other))))
    (λ e. inl (BadRequest, extension_10 σ limit x q (λ a. not_both (ranged σ q a) e)))

-- the last accepted number never goes back
pub number_onward : (σ : Settings) (limit : Option ℕ) (x : Train) (a : Act) → first_of (decide σ limit x a).checks ≡ None
    → x.authority.number ≤ (decide σ limit x a).after.authority.number
number_onward σ limit x a passes = go (act_leaves σ limit x a).numbers
  where
    y : Train
    y = (decide σ limit x a).after

    go : ((q : Extension) × (a ≡ Extend q) × (y ≡ extended x q)) ⊎ ((y.authority.number ≡ x.authority.number) × (y.authority.length ≡ x.authority.length))
        → x.authority.number ≤ y.authority.number
    go (inl (q, e, longer)) =
        let p = extension_accepted σ limit x q (subst (λ (b : Act). first_of (decide σ limit x b).checks ≡ None) e passes) in
        rw (longer, p.number) p.onward
    go (inr (number, length)) = omega arith
