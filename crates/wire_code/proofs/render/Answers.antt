-- `wire_code::render` meets its contract.
use Prim.Native.Nat.{◌+◌, ◌≤◌}
use native.Mathlib.Omega.{arith}
use mathlib.Core.Path.{◌∙◌}
use lib.ListN.{length}
use borrow.Author.Rules.{rules}
use borrow.Author.Tests.{le-leb}
use Rattle.wire.specs.Format.{answer_width}
use Rattle.wire_code.proofs.Texts.{answer_put}
use Rattle.wire_code.proofs.render.Goals as goal

pub returns-then-room : goal.returns-then-room
returns-then-room c =
    let a = c.args in
    let d = a.out.now in
    let room : a.at + answer_width ≤ length d = search rules in
    let le : a.at ≤ length d = omega arith in
    let e = le-leb (a.at + answer_width) (length d) room in
    (rw e c.if-room.true, rw e (c.put-then-room-3.ensures ∙ rw (c.put-then-room-2.ensures, c.put-then-room.ensures, c.put.ensures) (answer_put d a.at a.a le)))
