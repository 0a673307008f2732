-- `desk_line_code::put_record` meets its contract.
use native.Mathlib.Omega.{arith}
use mathlib.Core.Path.{◌∙◌}
use lib.Seq.{paste-zero}
use Rattle.desk_line_code.proofs.Columns.{first_text, put_next}
use Rattle.desk_line_code.proofs.put_record.Goals as goal

pub loop-i-init : goal.loop-i-init
loop-i-init c = paste-zero c.args.out.now 44 (first_text 0 c.args.numbers)

pub loop-i-preserved : goal.loop-i-preserved
loop-i-preserved c =
    rw c.loop-i.invariant at c.put.ensures ∙ put_next c.args.out.now c.args.numbers 44 c.loop-i.i (omega arith) (omega arith)
