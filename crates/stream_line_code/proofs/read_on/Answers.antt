-- `stream_line_code::read_on` meets its contract.
use Prim.Native.Nat.{ℕ}
use mathlib.Core.Path.{sym, ap, ◌∙◌}
use mathlib.Core.List.{◌++◌}
use lib.ListN.{take}
use Rattle.wire.specs.Format.{line_read}
use Rattle.stream.proofs.Lines.{read_kept}
use Rattle.stream_line_code.proofs.read_on.Goals as goal

pub returns-then-count-eq0 : goal.returns-then-count-eq0
returns-then-count-eq0 c =
    let a = c.args in
    c.read_line.ensures ∙ ap (λ (n : ℕ). line_read (take n a.bytes.now ++ a.part.now)) (sym c.if-count-eq0.true)

pub returns : goal.returns
returns c =
    let a = c.args in
    c.read_line-2.ensures ∙ ap line_read c.push_all-n.ensures.0 ∙ read_kept (take a.count a.bytes.now ++ a.part.now)
