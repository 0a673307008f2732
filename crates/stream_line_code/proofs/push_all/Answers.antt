-- `stream_line_code::push_all` meets its contract.
use Rattle.std.proofs.Common.{rules, ◌+◌, length, take, ◌∙◌, ap, arith, length-take-le, List, ℕ, ◌++◌}
use Rattle.std.proofs.lemmas.Slice.{take-put_mid}
use Rattle.stream_line_code.proofs.Kept.{kept_part}
use Rattle.stream_line_code.proofs.push_all.Goals as goal

pub returns : goal.returns
returns c =
    let a = c.args in
    let now = c.copy_from_slice.ensures.after in
    let n = c.min-n.result in (
      take-put_mid a.count _ a.bytes.now c.copy_from_slice.new.self (a.count + n) (omega (arith, ap length now, length-take-le n a.part.now (omega arith))) (omega arith)
          ∙ ap (λ (l : List ℕ). take a.count a.bytes.now ++ l) now
          ∙ kept_part a.bytes.now a.part.now a.count n (search rules) c.requires c.min-n.ensures,
      omega arith,
    )
