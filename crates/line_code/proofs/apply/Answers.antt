-- `line_code::apply` meets its contract.
use Rattle.line.proofs.Steps.{decided_fits}
use borrow.Author.Rules.{rules}
use Rattle.line_code.proofs.apply.Goals as goal

pub carry_out-requires : goal.carry_out-requires
carry_out-requires c =
    let a = c.args in
    rw c.decide-d.ensures (decided_fits a.opened a.t (search rules) a.r)
