-- `stream_line_code::carry_out_line` meets its contract: the table has the place that the change needs.
use borrow.Author.Rules.{rules}
use Rattle.line.proofs.Steps.{decided_fits}
use Rattle.stream_line_code.proofs.carry_out_line.Goals as goal

pub carry_out-requires : goal.carry_out-requires
carry_out-requires c =
    let a = c.args in
    rw c.decide-d.ensures (decided_fits a.opened a.t.now (search rules) c.in-Some.r)
