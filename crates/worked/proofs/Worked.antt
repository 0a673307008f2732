-- The worked list is what the definitions give: computed part by part, with the trains between two parts.
-- Assumes nothing.
use Prim.Native.Nat.{ℕ}
use mathlib.Core.List.{List, [], ◌∷◌, ◌++◌, append-nil}
use mathlib.Core.Path.{◌≡◌, refl, sym, ap, ◌∙◌}
use Rattle.stream.specs.declared.Session.{Session}
use Rattle.stream.specs.Session.{closed}
use Rattle.stream.specs.Input.{lines, rest, after, answers, last_answer, output, kept}
use Rattle.stream.proofs.Lines.{Standing, standing, standing_kept, standing_cut}
use Rattle.stream.proofs.Pieces.{last_kept}
use Rattle.papers.specs.Exchanges.{Exchange, bytes_of, input_of, output_of}
use Rattle.worked.specs.Worked.{first_part, after_first, second_part, after_second, third_part, after_third, fourth_part, unfinished, worked_input, worked_output}
use Rattle.papers.proofs.Ran.{ran, ran_stands}

-- the lines xs, answered as they say from the state s on, leave the state t
abbrev Ruled : Session → List Exchange → Session → Type 0
Ruled s xs t = ran s xs ≡ record { session = t; begins = []; written = output_of xs }

-- ---- the parts

first : Ruled closed first_part after_first
unfolding ran
first = refl

second : Ruled after_first second_part after_second
unfolding ran
second = refl

third : Ruled after_second third_part after_third
unfolding ran
third = refl

fourth : Ruled after_third fourth_part (ran after_third fourth_part).session
unfolding ran
fourth = refl

-- the unfinished line ends none
none_ended : lines [] (bytes_of unfinished.input) ≡ []
unfolding lines bytes_of
none_ended = refl

last_answered : last_answer (kept (rest [] (bytes_of unfinished.input))) ≡ output_of (unfinished ∷ [])
unfolding ran last_answer
last_answered = refl

-- ---- the parts together

-- what has been written before, w, and the rest of the input, b
part : (s : Session) (xs : List Exchange) (t : Session) → Ruled s xs t → (w b : List ℕ) → standing s [] w (input_of xs ++ b) ≡ standing t [] (w ++ output_of xs) b
unfolding ran
part s xs t e w b =
    standing_cut s [] w (input_of xs) b
    ∙ sym (standing_kept (after s (lines [] (input_of xs))) (rest [] (input_of xs)) (w ++ answers s (lines [] (input_of xs))) b)
    ∙ ap (λ (x : Standing). standing x.session x.begins (w ++ x.written) b) (sym (ran_stands s xs) ∙ e)

last : (s : Session) (w : List ℕ) → let x = standing s [] w (bytes_of unfinished.input) in
    x.written ++ last_answer x.begins ≡ w ++ output_of (unfinished ∷ [])
unfolding answers
last s w = rw (none_ended, last_answered, append-nil)

-- the list, from bytes to bytes
pub worked_list : output worked_input ≡ worked_output
worked_list =
    sym (ap (λ (l : List ℕ). answers closed (lines [] worked_input) ++ l) (last_kept (rest [] worked_input)))
    ∙ ap (λ (x : Standing). x.written ++ last_answer x.begins)
    (part closed first_part after_first first [] _
    ∙ part after_first second_part after_second second (output_of first_part) _
    ∙ part after_second third_part after_third third (output_of first_part ++ output_of second_part) _
    ∙ part after_third fourth_part (ran after_third fourth_part).session fourth ((output_of first_part ++ output_of second_part) ++ output_of third_part) _)
    ∙ last (ran after_third fourth_part).session (((output_of first_part ++ output_of second_part) ++ output_of third_part) ++ output_of fourth_part)
