-- The count is document 01's, and the claim can fail: each part of it is broken by a history of its own.
-- Assumes nothing.
use Prim.Native.Nat.{ℕ, suc, ◌≤◌}
use mathlib.Core.List.{[], ◌∷◌}
use mathlib.Core.Path.{◌≡◌, refl, ap}
use native.Mathlib.Omega.{arith}
use Rattle.logic.specs.Rounding.{ceil_div}
use Rattle.logic.proofs.Tests.{not_both}
use Rattle.ranges.specs.Ranges.{between}
use Rattle.brake.specs.Consist.{car_of, full_brake, application_time, application_cycles, sheet_entry, entry_for, brake_cycles, figures_with, figures_by, figures_of}
use Rattle.motion.specs.Motion.{brake_travel, brake_speed, next_level, drive_travel, drive_speed, stands, braked_cycle, first_cycles, enough_cycles, braked_run, total_travel, stopping_distance}
use Rattle.motion.specs.Orders.{stopping_place}
use Rattle.motion.specs.Count.{cycles_to_stand}
use Rattle.motion.specs.Starred.{full_given}
use Rattle.train.specs.Track.{steps_of}
use Rattle.safety.specs.History.{done_by, is_accepted, told_act, told_call, told_by, told, rear_of}
use Rattle.safety.specs.Claim.{Claim}
use Rattle.safety.specs.Worked.{session_line, loaded_enters, held_count, rear_off_the_line, head_past_end, same_cap_each_cycle, done_too_soon, end_too_near, end_off_the_line, overlap_of_two, held_and_moving, braked_and_moving, figures_made_up}

pub counted : held_count (told session_line (loaded_enters ∷ [])).trains ≡ 710
unfolding ceil_div cycles_to_stand is_accepted told_call told_by told
counted = refl

-- no number is above itself. Each part is refuted from itself alone: no other part is in reach here.
not_above : (n : ℕ) → suc n ≤ n → ⊥
not_above n h = omega arith

pub head_refuted : Claim session_line head_past_end → ⊥
unfolding Claim done_by is_accepted told_act told_call told_by told
head_refuted claim = not_above 14295120000 claim.0.head_within_end

-- a worthless controller, "with a cap above 0"
pub same_cap_refuted : Claim session_line same_cap_each_cycle → ⊥
unfolding Claim done_by is_accepted told_act told_call told_by told
same_cap_refuted claim = not_above 14295120000 claim.0.head_within_end

-- the end that a call back has moved counts
pub done_refuted : Claim session_line done_too_soon → ⊥
unfolding Claim ceil_div brake_travel brake_speed next_level drive_travel drive_speed stands braked_cycle first_cycles enough_cycles braked_run total_travel stopping_distance stopping_place done_by is_accepted told_act told_call told_by told
done_refuted claim = not_above 14295135000 claim.0.head_within_end

pub rear_refuted : Claim session_line rear_off_the_line → ⊥
unfolding Claim is_accepted told_call told_by told steps_of
rear_refuted claim = not_above 14295119999 claim.0.rear_on_line

pub end_refuted : Claim session_line end_too_near → ⊥
unfolding Claim is_accepted told_call told_by told rear_of steps_of
end_refuted claim = not_above 20000000000 claim.3.1

pub line_end_refuted : Claim session_line end_off_the_line → ⊥
unfolding Claim is_accepted told_call told_by told
line_end_refuted claim = not_above 200000000000 claim.1

pub overlap_refuted : Claim session_line overlap_of_two → ⊥
unfolding Claim is_accepted told_call told_by told rear_of steps_of
overlap_refuted claim = not_above 20000000000 claim.2.1.0

pub held_refuted : Claim session_line held_and_moving → ⊥
unfolding Claim ceil_div cycles_to_stand is_accepted told_act told_call told_by told next_level stands
held_refuted claim = not_both (claim.0.held_stands 710 refl (omega arith)) refl

pub braked_refuted : Claim session_line braked_and_moving → ⊥
unfolding Claim ceil_div cycles_to_stand is_accepted told_act told_call told_by told next_level stands
braked_refuted claim = not_both (claim.0.braked_stands 710 refl (omega arith)) refl

pub figures_refuted : Claim session_line figures_made_up → ⊥
unfolding Claim is_accepted told_call told_by told ceil_div between car_of full_brake application_time application_cycles sheet_entry entry_for brake_cycles figures_with figures_by figures_of
figures_refuted claim = let full : ◌≡◌ {A = ℕ} 87021 133303 = ap full_given claim.0.consist in omega arith
