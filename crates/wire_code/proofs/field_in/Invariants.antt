use Prim.Native.Nat.{◌^◌, ◌<◌}
use mathlib.Core.Path.{◌≡◌}
use lib.ListN.{drop}
use Rattle.wire.specs.declared.Scan.TheVariants.{Blank}
use Rattle.wire.specs.Format.{columns, so_far}
use Rattle.wire_code.proofs.field_in.Given as goal

abbrev pub invariant-loop-b : goal.invariant-loop-b
invariant-loop-b l = record {
  below : so_far l.s < 10 ^ l.b-index;
  same : columns Blank l.field ≡ columns l.s (drop l.b-index l.field);
}
