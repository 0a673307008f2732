use mathlib.Core.Path.{◌≡◌}
use lib.ListN.{length, take, drop}
use Rattle.wire.specs.Format.{total, call_columns, numbers_in}
use Rattle.wire_code.proofs.Rows.{before}
use Rattle.wire_code.proofs.numbers_in.Given as goal

abbrev pub invariant-loop-i : goal.invariant-loop-i
invariant-loop-i l = record {
  size : length l.numbers ≡ 7;
  long : length l.rest ≡ total (drop l.i call_columns);
  same : numbers_in call_columns l.line ≡ before (take l.i l.numbers) (numbers_in (drop l.i call_columns) l.rest);
}
