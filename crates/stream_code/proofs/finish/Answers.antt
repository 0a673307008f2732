-- `stream_code::finish` meets its contract.
use Rattle.std.proofs.Common.{◌≡◌, length, rules, arith, refl, sym, ◌∙◌}
use borrow.Author.Tests.{le-leb, lt-leb}
use Rattle.calls.specs.Answers.{numbers}
use Rattle.stream.specs.declared.Stream.{Stream}
use Rattle.stream.specs.Input.{output_line, last_answer, begun, kept_width}
use Rattle.stream.proofs.Bytes.{output_long, output_first, none_begun, line_begun}
use Rattle.stream_code.proofs.finish.Goals as goal

-- a line that has begun has this answer
last_of : (x : Stream) → length x.bytes ≡ kept_width → (x.count ≡ 0 → ⊥) → last_answer (begun x) ≡ output_line (numbers 1 0 0 0)
last_of x size begins = line_begun x.bytes x.count (omega arith) begins

pub returns-then-x-eq0 : goal.returns-then-x-eq0
returns-then-x-eq0 c =
    let x = c.args.x.now in
    let e = none_begun x.bytes x.count c.if-x-eq0.true in
    record { taken = rw e (sym (le-leb 0 (length c.args.out.now) (omega arith))); written = rw e refl; count = rw e refl }

pub returns-then-out-lt-OUTPUT_WIDTH : goal.returns-then-out-lt-OUTPUT_WIDTH
returns-then-out-lt-OUTPUT_WIDTH c =
    let last = last_of c.args.x.now (search rules) c.if-x-eq0.false in
    record { taken = rw last (sym (lt-leb _ _ (omega (arith, output_long (numbers 1 0 0 0))))); written = refl; count = tt }

pub returns : goal.returns
returns c =
    let last = last_of c.args.x.now (search rules) c.if-x-eq0.false in
    let long = output_long (numbers 1 0 0 0) in
    record {
      taken = rw last (sym (le-leb _ _ (omega (arith, long))));
      written = rw (last, ← c.numbers_of.ensures) (c.put_line.ensures ∙ output_first c.args.out.now c.numbers_of.result);
      count = rw last (sym long);
    }
