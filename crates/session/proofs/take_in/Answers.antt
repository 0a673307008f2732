-- There is room: the piece is taken.
use Rattle.std.proofs.Common.{◌≡◌, ℕ, ◌≤◌, ◌*◌, ◌∙◌, List, Option, arith, length, take, length-take}
use Rattle.std.proofs.lemmas.Grind.{common_steps}
use Rattle.std.specs.Option.{unwrap_or}
use Rattle.stream.specs.declared.Stream.{Stream}
use Rattle.stream.specs.Input.{output_width, answers_to, FeedPromise}
use Rattle.stream.proofs.Bytes.{over_within, over_first}
use Rattle.stream.proofs.Pieces.{fed_taken}
use Rattle.session.specs.Program.{ReadOnce}
use Rattle.session.proofs.take_in.Goals as goal

read_once : (x y : Stream) (read fed : Option ℕ) (n m : ℕ) (piece before now : List ℕ) → n ≡ unwrap_or read 0 → n ≤ length piece
    → FeedPromise x (take n piece) before fed y now → m ≡ unwrap_or fed 0 → output_width * length piece ≤ length before → ReadOnce x read m y piece now
read_once x y read fed n m piece before now e within fed_so f room =
    let taken = fed_taken x (take n piece) before fed y now fed_so (omega (arith, length-take n piece)) in
    let answers = answers_to x (take n piece) in
    let count = f ∙ taken.count in
    record {
      within = rw e at within;
      turn = rw e at taken.turn;
      room = over_within answers before now m taken.written count;
      answers = rw e at (over_first answers before now m taken.written count);
    }

pub returns : goal.returns
returns c =
    let within : c.unwrap_or-n.result ≤ length c.read.new.buf = grind (arith, common_steps) in
    read_once c.args.x.now c.feed.new.x c.ok-read.result c.feed.result _ _ c.read.new.buf c.args.out.now c.feed.new.out c.unwrap_or-n.ensures within
    c.feed.ensures c.unwrap_or-answered.ensures (omega arith)
