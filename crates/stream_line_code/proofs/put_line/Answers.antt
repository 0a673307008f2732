-- `stream_line_code::put_line` meets its contract.
use Prim.Native.Nat.{◌+◌}
use native.Mathlib.Omega.{arith}
use lib.ListN.{length}
use borrow.Author.Tests.{le-leb}
use Rattle.wire.specs.Format.{answer_width}
use Rattle.stream.proofs.Bytes.{line_ended}
use Rattle.stream_line_code.proofs.put_line.Goals as goal

pub returns : goal.returns
returns c =
    let a = c.args in
    let room = le-leb (a.at + answer_width) (length a.out.now) (omega arith) in
    rw (c.render.ensures.1, room) (line_ended a.out.now a.at a.a c.requires)
