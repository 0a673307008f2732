-- `desk_line_code::make` meets its contract.
use borrow.Author.Rules.{rules}
use Rattle.line.proofs.Steps.{decided_fits}
use Rattle.desk_line_code.proofs.make.Goals as goal

pub carry_out-requires : goal.carry_out-requires
carry_out-requires c =
    let s = c.args.s in
    rw c.decide-d.ensures (decided_fits s.opened s.table (search rules) c.args.r)
