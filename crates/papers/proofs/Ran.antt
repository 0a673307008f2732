-- A session worked out from its text: whoever opens `ran` opens every definition that it takes.
-- Assumes nothing.
use Prim.Native.Nat.{ℕ}
use mathlib.Core.List.{List, [], ◌∷◌, ◌++◌}
use mathlib.Core.Path.{◌≡◌, refl, sym, ap, ◌∙◌}
use Rattle.logic.specs.Rounding.{ceil_div}
use Rattle.ranges.specs.Ranges.{between}
use Rattle.brake.specs.Consist.{car_of, full_brake, application_time, application_cycles, sheet_entry, entry_for, brake_cycles, figures_with, figures_by, figures_of}
use Rattle.motion.specs.Motion.{brake_travel, brake_speed, next_level, drive_travel, drive_speed, stands, braked_cycle, first_cycles, enough_cycles, braked_run, total_travel, stopping_distance}
use Rattle.motion.specs.Orders.{stopping_place, cap_fits, greatest, order_for}
use Rattle.motion.specs.Bounds.{in_bounds}
use Rattle.calls.specs.Checks.{first_of}
use Rattle.calls.specs.Requests.{all_zero, read_as, request_of}
use Rattle.rights.specs.Rights.{may_ask}
use Rattle.train.specs.Ranges.{settings_in_range}
use Rattle.train.specs.Record.{is_pending}
use Rattle.train.specs.Track.{steps_of, limit_behind}
use Rattle.train.specs.Report.{allowed, moves, must_brake, order_after, is_penalty, settled, reported, computable, report_allowed}
use Rattle.acts.specs.Acts.{request_in_range, is_repeat, extended, is_old, called_back, call_back_allowed, may_leave}
use Rattle.table.specs.Table.{place_in, place_of, ahead_of}
use Rattle.line.specs.Decide.{open_decision, enter_decision, act_decision, take_off_decision, decide_on, decided}
use Rattle.wire.specs.Format.{digit, column, columns, numbers_in, line_read, left, text, text_of, answer_text}
use Rattle.stream.specs.declared.Session.{Session}
use Rattle.stream.specs.Session.{line_decision, answered}
use Rattle.stream.specs.Input.{lines, rest, after, output_line, answers, kept}
use Rattle.stream.proofs.Lines.{Standing, standing}
use Rattle.stream.proofs.Sentences.{rest_anew}
use Rattle.papers.specs.Exchanges.{Exchange, bytes_of, input_of, output_of}

-- ---- one pass

-- how things stand after lines from the state s on, and what has been written. Each line is decided once, for its answer and for the state after it
unfoldable walked : Session → List (List ℕ) → Standing
walked s [] = record { session = s; begins = []; written = [] }
walked s (l ∷ ls) =
    let r = answered s l in
    let w = walked r.session ls in
    record { session = w.session; begins = []; written = output_line r.answer ++ w.written }

walked_same : (s : Session) (ls : List (List ℕ)) → walked s ls ≡ record { session = after s ls; begins = []; written = answers s ls }
unfolding walked after answers
walked_same s [] = refl
walked_same s (l ∷ ls) =
    let r = answered s l in
    ap (λ (w : Standing). record { session = w.session; begins = []; written = output_line r.answer ++ w.written }) (walked_same r.session ls)

-- nothing has begun after a line feed
all_ended : (xs : List Exchange) → rest [] (input_of xs) ≡ []
unfolding rest input_of
all_ended [] = refl
all_ended (x ∷ xs) = rest_anew [] (bytes_of x.input) (input_of xs) ∙ all_ended xs

-- ---- a session from its text

-- how things stand after lines from the state s on, and what has been written
unfoldable pub ran : Session → List Exchange → Standing
unfolding ceil_div between car_of full_brake application_time application_cycles sheet_entry entry_for brake_cycles figures_with figures_by figures_of brake_travel brake_speed next_level drive_travel drive_speed stands braked_cycle first_cycles enough_cycles braked_run total_travel stopping_distance stopping_place cap_fits greatest order_for in_bounds first_of all_zero read_as request_of settings_in_range request_in_range steps_of limit_behind allowed moves must_brake order_after is_penalty is_pending settled reported computable report_allowed is_repeat extended is_old called_back call_back_allowed may_leave place_in place_of ahead_of open_decision enter_decision act_decision take_off_decision decide_on decided may_ask digit column columns numbers_in line_read left text text_of answer_text line_decision lines rest output_line answers bytes_of input_of output_of walked
ran s xs = walked s (lines [] (input_of xs))

pub ran_stands : (s : Session) (xs : List Exchange) → ran s xs ≡ standing s [] [] (input_of xs)
unfolding ran
ran_stands s xs =
    let ls = lines [] (input_of xs) in
    walked_same s ls ∙ ap (λ (g : List ℕ). record { session = after s ls; begins = kept g; written = answers s ls }) (sym (all_ended xs))
