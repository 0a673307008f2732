-- Document 01's starred values are what the definitions give: one test, computed over the whole table.
-- Assumes nothing.
use lib.Dec.{T}
use Rattle.logic.specs.Rounding.{ceil_div}
use Rattle.ranges.specs.Ranges.{between}
use Rattle.brake.specs.Consist.{car_of, full_brake, application_time, application_cycles, sheet_entry, entry_for, brake_cycles, figures_with, figures_by, figures_of}
use Rattle.motion.specs.Motion.{brake_travel, brake_speed, next_level, drive_travel, drive_speed, stands, braked_cycle, first_cycles, enough_cycles, braked_run, total_travel, stopping_distance}
use Rattle.motion.specs.Orders.{stopping_place, cap_fits, greatest, order_for}
use Rattle.motion.specs.Count.{cycles_to_stand}
use Rattle.motion.specs.Starred.{agree, starred_values, worked_values}

pub starred : T (agree starred_values)
unfolding ceil_div between car_of full_brake application_time application_cycles sheet_entry entry_for brake_cycles figures_with figures_by figures_of brake_travel brake_speed next_level drive_travel drive_speed stands braked_cycle first_cycles enough_cycles braked_run total_travel stopping_distance stopping_place cap_fits greatest order_for cycles_to_stand
starred = tt

-- and so are the values at speed
pub worked : T (agree worked_values)
unfolding ceil_div between car_of full_brake application_time application_cycles sheet_entry entry_for brake_cycles figures_with figures_by figures_of brake_travel brake_speed next_level drive_travel drive_speed stands braked_cycle first_cycles enough_cycles braked_run total_travel stopping_distance stopping_place cap_fits greatest order_for
worked = tt
