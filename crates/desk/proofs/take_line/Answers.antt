-- `desk::take_line` meets its contract.
use mathlib.Core.Path.{ap, ◌∙◌}
use borrow.Author.Rules.{rules}
use Rattle.desk_line.specs.declared.DeskReply.{DeskReply}
use Rattle.desk_line.specs.Columns.{desk_line}
use Rattle.desk_line_code.proofs.Columns.{line_whole}
use Rattle.desk.proofs.take_line.Goals as goal

pub write_line-requires : goal.write_line-requires
write_line-requires c =
    c.render.ensures.1 ∙ line_whole _ c.args.out.now (search rules) ∙ ap (λ (d : DeskReply). desk_line d.shown) c.answer-r.ensures
