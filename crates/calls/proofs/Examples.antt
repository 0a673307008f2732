-- The numbers of the refusals are what the definition gives: one test, computed over the whole table. Numbers exchanged in the definition
-- are refused here, whatever the code.
-- Assumes nothing.
use mathlib.Core.List.{map}
use mathlib.Core.Path.{◌≡◌, refl}
use Rattle.calls.specs.Answers.{numbers_of}
use Rattle.calls.specs.Examples.{Answered, answers}

pub answered : map (λ (a : Answered). numbers_of a.answer) answers ≡ map (λ (a : Answered). a.printed) answers
answered = refl
