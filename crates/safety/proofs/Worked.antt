-- The words of the worked lists, and what previews are answered, are what the definitions give: computed.
-- Assumes nothing.
use mathlib.Core.List.{◌++◌}
use mathlib.Core.Path.{◌≡◌, refl}
use Rattle.logic.specs.Rounding.{ceil_div}
use Rattle.ranges.specs.Ranges.{between}
use Rattle.brake.specs.Consist.{car_of, full_brake, application_time, application_cycles, sheet_entry, entry_for, brake_cycles, figures_with, figures_by, figures_of}
use Rattle.motion.specs.Motion.{brake_travel, brake_speed, next_level, drive_travel, drive_speed, stands, braked_cycle, first_cycles, enough_cycles, braked_run, total_travel, stopping_distance}
use Rattle.motion.specs.Orders.{stopping_place, cap_fits, greatest, order_for}
use Rattle.motion.specs.Bounds.{in_bounds}
use Rattle.calls.specs.Checks.{first_of}
use Rattle.rights.specs.Rights.{may_ask}
use Rattle.train.specs.Ranges.{settings_in_range}
use Rattle.train.specs.Record.{is_pending}
use Rattle.train.specs.Track.{steps_of, limit_behind}
use Rattle.train.specs.Report.{allowed, moves, must_brake, order_after, is_penalty, settled, reported, computable, report_allowed}
use Rattle.acts.specs.Acts.{request_in_range, is_repeat, extended, is_old, called_back, call_back_allowed, may_leave}
use Rattle.table.specs.Table.{place_in, place_of, ahead_of}
use Rattle.line.specs.Decide.{open_decision, enter_decision, act_decision, take_off_decision, decide_on, decided}
use Rattle.line.specs.Step.{open_step}
use Rattle.safety.specs.History.{history, is_accepted, done_by, told_act, without, told_call, told_by, told, rear_of}
use Rattle.safety.specs.Worked.{session_line, worked_deeds, tried_beside, tried_deeds, tried_answers, answers_to, words_after, tried_words, worked_words, slow_line, replaced_deeds, replaced_answers, replaced_words, there_deeds, there_words, past_deeds, past_answers, past_words}

pub worked :
    (words_after session_line worked_deeds ≡ worked_words)
    -- the same with previews among its deeds
    × (words_after session_line (tried_beside worked_deeds) ≡ worked_words)
    -- what previews are answered, and that they change nothing
    × (answers_to session_line tried_deeds ≡ tried_answers)
    × (words_after session_line tried_deeds ≡ tried_words)
    -- a call back that is replaced; it ends at the place that it wants, or with a stand past it
    × (answers_to slow_line (replaced_deeds ++ past_deeds) ≡ replaced_answers ++ past_answers)
    × (words_after slow_line replaced_deeds ≡ replaced_words)
    × (words_after slow_line (replaced_deeds ++ there_deeds) ≡ there_words)
    × (words_after slow_line (replaced_deeds ++ past_deeds) ≡ past_words)
unfolding ceil_div between car_of full_brake application_time application_cycles sheet_entry entry_for brake_cycles figures_with figures_by figures_of brake_travel brake_speed next_level drive_travel drive_speed stands braked_cycle first_cycles enough_cycles braked_run total_travel stopping_distance stopping_place cap_fits greatest order_for in_bounds first_of may_ask settings_in_range request_in_range steps_of limit_behind allowed moves must_brake order_after is_penalty is_pending settled reported computable report_allowed is_repeat extended is_old called_back call_back_allowed may_leave place_in place_of ahead_of open_decision enter_decision act_decision take_off_decision decide_on decided open_step history is_accepted done_by told_act without told_call told_by told rear_of
worked = (refl, refl, refl, refl, refl, refl, refl, refl)
