-- `table_code::drop_first` meets its contract.
use Rattle.std.proofs.Common.{◌≡◌, length, arith, rules}
use Rattle.table_code.proofs.Places.{first_gone}
use Rattle.table_code.proofs.drop_first.Goals as goal

pub returns : goal.returns
returns c =
    let l = c.args.t.now.trains in
    let size : length l ≡ 32 = search rules in
    rw (c.copy_within.ensures.after, c.blank_train.ensures) (rw (first_gone l c.args.t.now.count c.min-taken.result _ c.requires (omega arith) (omega arith)))
