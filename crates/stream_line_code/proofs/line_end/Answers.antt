-- `stream_line_code::line_end` meets its contract.
use Rattle.std.proofs.Common.{rules, tests, ◌+◌, length, drop, ℕ, List, arith, ◌∙◌, ap}
use Rattle.std.specs.Option.{unwrap_or}
use Rattle.std.proofs.lemmas.Slice.{between_to_end}
use Rattle.std.proofs.lemmas.Iterator.{YieldsList-from_slice}
use Rattle.std.proofs.lemmas.Iterator.Search.{position_from_yields_List}
use Rattle.stream_line_code.proofs.Feeds.{is_feed, place_of_first, line_ends}
use Rattle.stream_line_code.proofs.line_end.Goals as goal

pub returns : goal.returns
returns c =
    let l = c.args.piece.now in
    let b = c.args.from + c.past_blocks.result in
    let rest = between_to_end l b (length l) (omega arith) in
    let found = position_from_yields_List is_feed _ _ c.position.result c.position.ensures.ran (YieldsList-from_slice (drop b l) (c.iter.ensures.rest ∙ rest)) (λ x b q k. search (rules, tests)) in
    let first = place_of_first is_feed (drop b l) c.position.result c.unwrap_or.result found (c.unwrap_or.ensures ∙ ap (λ (m : List ℕ). unwrap_or c.position.result (length m)) rest) in
    line_ends l c.args.from c.past_blocks.result c.unwrap_or.result c.requires (rw (between_to_end l c.args.from (length l) (omega arith)) at c.past_blocks.ensures) first
