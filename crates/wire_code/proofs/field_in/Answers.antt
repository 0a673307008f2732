-- `wire_code::field_in` meets its contract.
use native.Mathlib.Omega.{arith}
use mathlib.Core.Path.{◌∙◌}
use Rattle.wire.specs.Format.{so_far}
use Rattle.wire.proofs.Fields.{columns_next, columns_end, column_below, below_14}
use Rattle.wire_code.proofs.field_in.Goals as goal

pub column-s-requires : goal.column-s-requires
column-s-requires c = below_14 (so_far c.loop-b.s) c.loop-b.b-index c.loop-b.invariant.below (omega arith)

pub loop-b-preserved : goal.loop-b-preserved
loop-b-preserved c =
    record {
      below = rw c.column-s.ensures (column_below c.loop-b.s _ c.loop-b.b-index c.loop-b.invariant.below);
      same = c.loop-b.invariant.same ∙ rw c.column-s.ensures (columns_next c.loop-b.s c.args.field.now c.loop-b.b-index c.loop-b-test.true);
    }

pub returns-in-Digits : goal.returns-in-Digits
returns-in-Digits c = rw (c.loop-b.invariant.same, columns_end c.loop-b.s c.args.field.now c.loop-b.b-index (omega arith), c.in-Digits.is)

pub returns-in-Blank : goal.returns-in-Blank
returns-in-Blank c =
    rw (c.loop-b.invariant.same, columns_end c.loop-b.s c.args.field.now c.loop-b.b-index (omega arith))
    (grind arith)
