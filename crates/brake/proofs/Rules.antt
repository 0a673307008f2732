-- Lemmas that the check tries by itself where a function names them: `#[tactic(auto, using(..))]` in src/.
use Rattle.brake.proofs.Consist.{length_within, cycles_positive, figures_out, figures_none, figures_given}

-- of the figures of a consist
pub ruleset entering = (length_within, cycles_positive, figures_out, figures_none, figures_given)
