-- `wire_code::put` meets its contract.
use native.Mathlib.Omega.{arith}
use Prim.Native.Nat.{suc, ◌-◌}
use mathlib.Core.Path.{◌≡◌, refl, sym}
use borrow.Author.Tests.{ne_eqb}
use Rattle.std.proofs.lemmas.Slice.{put_mid-paste}
use Rattle.wire.specs.Format.{text}
use Rattle.wire.proofs.RoundTrip.{text_long}
use Rattle.wire_code.proofs.Texts.{writing_next, writing_done}
use Rattle.wire_code.proofs.put.Goals as goal

pub returns-then-rest-eq0 : goal.returns-then-rest-eq0
returns-then-rest-eq0 c =
    let next : c.loop-i.i ≡ suc (c.loop-i.i - 1) = omega arith in
    let shown = writing_done c.loop-i.field (rw next at c.loop-i.invariant) (omega arith) refl c.if-rest-eq0.true in
    put_mid-paste c.args.at _ c.args.out.now _ _ c.args.width shown (omega arith) (sym (text_long c.args.width c.args.n))

pub loop-i-preserved : goal.loop-i-preserved
loop-i-preserved c =
    let next : c.loop-i.i ≡ suc (c.loop-i.i - 1) = omega arith in
    writing_next c.loop-i.field (rw next at c.loop-i.invariant) (omega arith) refl (ne_eqb _ _ c.if-rest-eq0.false)

pub returns : goal.returns
unfolding text
returns c =
    let none : c.loop-i.i ≡ 0 = omega arith in
    let shown = rw none at c.loop-i.invariant in
    put_mid-paste c.args.at _ c.args.out.now _ _ c.args.width shown.same (omega arith) (sym (text_long c.args.width c.args.n))
