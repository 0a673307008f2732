-- `stream_piece_code::feed_all` meets its contract. What a turn of its loop does is a law in Feeding.
use Rattle.std.proofs.Common.{◌≡◌, arith, refl, ap, ◌∙◌}
use Rattle.stream.specs.declared.Reply.{Reply}
use Rattle.stream.specs.Session.{line_decision, replied}
use Rattle.stream_piece_code.proofs.Feeding.{begins, line_fed, piece_fed}
use Rattle.stream_piece_code.proofs.feed_all.Goals as goal

pub loop-part-init : goal.loop-part-init
loop-part-init c =
    let a = c.args in
    record {
      room = omega arith;
      bounded = omega (arith, c.min-x.ensures);
      others = refl;
      stands = begins a.x.now a.piece.now a.out.now c.min-x.result c.min-x.ensures;
    }

pub loop-part-preserved : goal.loop-part-preserved
loop-part-preserved c =
    let a = c.args in
    let s = c.loop-part.x.session in
    let after = c.answer_line-a in
    let reply : Reply = record { answer = after.result; session = after.new.s } in
    let told : reply ≡ replied s (line_decision s c.read_on-q.result) = cc in
    line_fed a.x.now a.piece.now a.out.now _ _ _ _ c.loop-part.invariant _ _ c.in-Some.ensures reply (told ∙ ap (λ q. replied s (line_decision s q)) c.read_on-q.ensures) _ c.put_line.ensures
    (record { session = after.new.s; bytes = c.read_on-q.new.bytes; count = 0 })
    refl refl

pub returns : goal.returns
returns c =
    let a = c.args in
    piece_fed a.x.now a.piece.now a.out.now _ _ _ _ c.loop-part.invariant c.in_default.ensures
    (record { session = c.loop-part.x.session; bytes = c.push_all-x.new.bytes; count = c.push_all-x.result })
    refl c.push_all-x.ensures.0 c.push_all-x.ensures.1
