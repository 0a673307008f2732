-- `wire_code::numbers_in` meets its contract.
use native.Mathlib.Omega.{arith}
use mathlib.Core.Path.{◌≡◌}
use mathlib.Core.List.{append-nil}
use lib.ListN.{length-set}
use lib.Seq.{take_all}
use Rattle.wire.specs.Format.{numbers_in}
use Rattle.wire_code.proofs.Rows.{total_next, numbers_next, before_more}
use Rattle.wire_code.proofs.numbers_in.Goals as goal

pub returns-in_err-numbers : goal.returns-in_err-numbers
returns-in_err-numbers c =
    rw (c.from_residual.ensures, c.loop-i.invariant.same, numbers_next c.loop-i.rest.now c.loop-i.i c.loop-i-test.true, ← c.split_at.ensures.front, ← c.field_in.ensures, c.in_err-numbers.was)

pub loop-i-preserved : goal.loop-i-preserved
loop-i-preserved c =
    record {
      size = rw length-set c.loop-i.invariant.size;
      long = omega (arith, total_next c.loop-i.i c.loop-i-test.true, c.split_at.ensures.back_len);
      same = rw (c.split_at.ensures.back) (rw (c.loop-i.invariant.same, numbers_next c.loop-i.rest.now c.loop-i.i c.loop-i-test.true, ← c.split_at.ensures.front, ← c.field_in.ensures, c.in_ok-numbers.was) (before_more c.loop-i.numbers c.loop-i.i c.in_ok-numbers.field-0 _ (omega arith)));
    }

pub returns : goal.returns
unfolding numbers_in
returns c =
    let end : c.loop-i.i ≡ 7 = omega arith in
    rw (c.loop-i.invariant.same, end, append-nil, take_all 7 c.loop-i.numbers (omega arith))
