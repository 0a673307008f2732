-- `stream_line_code::past_blocks` meets its contract.
use Rattle.std.proofs.Common.{rules, tests, ◌/◌, length, ℕ, List, arith, ◌∙◌, ap}
use Rattle.std.proofs.lemmas.Iterator.{YieldsList-from_slice}
use Rattle.std.proofs.lemmas.Iterator.Search.{position_from_yields_List}
use Rattle.std.specs.Option.{unwrap_or}
use Rattle.std.specs.List.{list_any}
use Rattle.std.specs.Simd.{first_chunks}
use Rattle.stream_line_code.proofs.Feeds.{is_feed, place_of_first, none_in_blocks}
use Rattle.stream_line_code.proofs.past_blocks.Goals as goal

pub returns : goal.returns
returns c =
    let l = c.args.piece.now in
    let n = length l / 16 in
    let found = position_from_yields_List (λ (block : List ℕ). list_any is_feed block) _ _ c.position.result c.position.ensures.ran (YieldsList-from_slice _ (c.iter.ensures.rest ∙ c.as_chunks.ensures.front)) (λ x b q k. search (rules, tests)) in
    let last = c.unwrap_or-past.ensures ∙ ap (λ (m : List (List ℕ)). unwrap_or c.position.result (length m)) c.as_chunks.ensures.front in
    let first = place_of_first (list_any is_feed) (first_chunks 16 n l) c.position.result c.unwrap_or-past.result found last in
    rw first (none_in_blocks n l (omega arith))
