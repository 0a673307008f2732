-- `table_code::place_of` meets its contract.
use Rattle.std.proofs.Common.{eqb, ◌∙◌, rules, tests}
use Rattle.std.proofs.lemmas.Iterator.{YieldsList-from_slice}
use Rattle.std.proofs.lemmas.Iterator.Search.{position_from_yields_List}
use Rattle.table_code.proofs.Places.{place_sought}
use Rattle.table_code.proofs.place_of.Goals as goal

pub returns-clause-place : goal.returns-clause-place
returns-clause-place c =
    let a = c.args in
    position_from_yields_List (λ x. eqb x.id a.id) _ _ c.position.result c.position.ensures.ran (YieldsList-from_slice _ (c.iter.ensures.rest ∙ c.on_line.ensures.trains)) (λ x b q k. search (rules, tests))
    ∙ place_sought a.t.now a.id
