use Prim.Native.Nat.{◌*◌}
use mathlib.Core.Path.{◌≡◌}
use lib.Seq.{paste}
use Rattle.desk_line_code.proofs.Columns.{first_text}
use Rattle.desk_line_code.proofs.put_record.Given as goal

-- the first i numbers are written
abbrev pub invariant-loop-i : goal.invariant-loop-i
invariant-loop-i l = l.out ≡ paste l.initial.out 44 (first_text l.i l.n-items) (14 * l.i)
