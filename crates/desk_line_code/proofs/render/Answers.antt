-- `desk_line_code::render` meets its contract.
use mathlib.Core.Path.{refl}
use lib.ListN.{length}
use borrow.Author.Tests.{le-leb}
use Rattle.desk_line.specs.Columns.{desk_width}
use Rattle.desk_line_code.proofs.Columns.{line_put}
use Rattle.desk_line_code.proofs.render.Goals as goal

-- there is room, and all is written
pub returns : goal.returns
returns c =
    let out = c.args.out.now in
    let room = c.if-out-lt-DESK_WIDTH.false in
    rw (le-leb desk_width (length out) room, c.put_record.ensures, c.render.ensures.1, c.record_numbers.ensures, c.numbers_of.ensures)
    (refl, line_put c.args.w out room)
