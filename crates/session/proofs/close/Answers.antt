-- There is room: the last answer is written.
use Rattle.std.proofs.Common.{◌≡◌, ℕ, ◌≤◌, List, Option, length, take, arith, ◌∙◌}
use Rattle.std.specs.Option.{unwrap_or}
use Rattle.stream.specs.declared.Stream.{Stream}
use Rattle.stream.specs.Input.{output_width, last_answer, begun, FinishPromise}
use Rattle.stream.proofs.Bytes.{over_first}
use Rattle.stream.proofs.Pieces.{last_taken}
use Rattle.session.proofs.close.Goals as goal

first : (x : Stream) (before : List ℕ) (r : Option ℕ) (now : List ℕ) (n : ℕ) → FinishPromise x before r now → n ≡ unwrap_or r 0 → output_width ≤ length before
    → take n now ≡ last_answer (begun x)
first x before r now n finished e room =
    let taken = last_taken x before r now finished room in
    over_first (last_answer (begun x)) before now n taken.0 (e ∙ taken.1)

pub write_last-written-requires : goal.write_last-written-requires
write_last-written-requires c =
    (c.requires, first c.args.x.now c.args.out.now c.finish.result c.finish.new.out _ c.finish.ensures c.unwrap_or-last.ensures (omega arith))

pub returns : goal.returns
returns c = first c.args.x.now c.args.out.now c.finish.result c.finish.new.out _ c.finish.ensures c.unwrap_or-last.ensures (omega arith)
