-- `line_decide_code::decide_own` meets its contract.
use mathlib.Core.Path.{refl, sym, ap, ◌∙◌}
use Rattle.line.proofs.Steps.{placed, own_found}
use Rattle.line_decide_code.proofs.decide_own.Goals as goal

pub returns-in-Err : goal.returns-in-Err
returns-in-Err c =
    let a = c.args in
    c.refuse-in-Err.ensures
    ∙ sym (own_found a.t.now a.id c.in-Some.i _ _ (record { place = sym c.place_of.ensures.place ∙ c.in-Some.is; limited = c.limit_at.ensures; here = refl }) a.a
    ∙ ap (placed _) (sym c.decide.ensures ∙ c.in-Err.is))

pub returns-in-Ok : goal.returns-in-Ok
returns-in-Ok c =
    let a = c.args in
    c.accept.ensures
    ∙ sym (own_found a.t.now a.id c.in-Some.i _ _ (record { place = sym c.place_of.ensures.place ∙ c.in-Some.is; limited = c.limit_at.ensures; here = refl }) a.a
    ∙ ap (placed _) (sym c.decide.ensures ∙ c.in-Ok.is))
