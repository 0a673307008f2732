-- Lemmas that the check tries by itself where a function names them: `#[tactic(auto, using(..))]` in src/.
use Rattle.acts.proofs.Verdicts.{report_refused, report_taken, extend_bad, extend_old, extend_other, extend_repeat, extend_pending, extend_beyond, extend_new, call_back_refused, call_back_taken}
use Rattle.acts.proofs.CallBacks.{call_back_computes}

pub ruleset reporting = (report_refused, report_taken)

pub ruleset extending = (extend_bad, extend_old, extend_other, extend_repeat, extend_pending, extend_beyond, extend_new)

pub ruleset calling_back = (call_back_refused, call_back_taken, call_back_computes)
