-- A car of a load class has its bounds.
use Rattle.std.proofs.Common.{sym, ◌∙◌, arith}
use Rattle.brake.proofs.Consist.{car_bounds}
use Rattle.brake.proofs.figures_of.Goals as goal

pub overflow_mul-full : goal.overflow_mul-full
overflow_mul-full c = omega (arith, (car_bounds _ (sym c.car_of.ensures ∙ c.in_ok-force.was)).force_within)

pub nonzero_div-full : goal.nonzero_div-full
nonzero_div-full c = (car_bounds _ (sym c.car_of.ensures ∙ c.in_ok-force.was)).mass_positive
