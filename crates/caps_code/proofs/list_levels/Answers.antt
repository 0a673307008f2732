-- `caps_code::list_levels` meets its contract: each number written is the entry of its place.
use Prim.Native.Nat.{ℕ, ◌≤◌, ◌<◌}
use mathlib.Core.Bool.{true}
use mathlib.Core.List.{List}
use mathlib.Core.Path.{◌≡◌, ◌∙◌}
use native.Mathlib.Omega.{arith}
use lib.ListN.{length, get_or}
use lib.Seq.{length-take-le, get_or-take}
use Rattle.std.proofs.lemmas.Grind.{common_steps}
use Rattle.brake.specs.declared.Figures.{Figures}
use Rattle.brake.specs.Consist.{Sound}
use Rattle.logic.proofs.Tests.{by_test}
use Rattle.motion.specs.Motion.{brake_speed, next_level, stands, braked_run}
use Rattle.motion.proofs.Cycles.{moved_before}
use Rattle.motion.proofs.Runs.{run_stands, run_moves}
use Rattle.motion.proofs.Bounds.{braking_on}
use Rattle.caps.specs.Levels.{level_entry}
use Rattle.caps.proofs.Levels.{list_ends, entry_next}
use Rattle.caps_code.specs.Search.{longest_list, Enough, at_full, at_stand, ListedTo}
use Rattle.caps_code.proofs.list_levels.Goals as goal
use Rattle.caps_code.proofs.list_levels.Goals.{then-level-k-via-then-level-k, then-level-k-via-else-level-k+then-last_cycle}

-- the first n numbers are the list, as far as they go, and the array has room for them
listed : {k : Figures} {v : ℕ} {list : List ℕ} {n : ℕ} → ((i : ℕ) → i < n → get_or list i 0 ≡ level_entry k i) → n ≤ length list
    → length list ≤ longest_list → Enough k v n → ListedTo k v list n
listed {list = list} {n = n} entry within most enough =
    let count = length-take-le n list within in
    record {
      within = within;
      listed = record {
        room = rw count (record { most = omega arith; enough = λ load l e. enough });
        entry = λ i h. let below : i < n = omega arith in get_or-take n list i 0 below ∙ entry i below;
      };
    }

-- a run whose next cycle is the last has no other
one_left : (k : Figures) (v b : ℕ) → Sound k → stands k (brake_speed k v b) (next_level k b) ≡ true → length (braked_run k v b) ≤ 1
one_left k v b s e =
    by_test (stands k v b)
    (λ t. rw (run_stands k v b t) (omega arith))
    (λ f. rw (run_moves k v b s f, run_stands k (brake_speed k v b) (next_level k b) e) (omega arith))

pub returns-then-level-k : goal.returns-then-level-k
returns-then-level-k c =
    let l = c.loop-at in
    let k = c.args.k in
    let sound = l.invariant.braking.figures in
    listed (grind (arith, common_steps)) (grind (arith, common_steps)) (grind (arith, common_steps))
    (elim c.then-level-k.branch [
      | then-level-k-via-then-level-k w ↦ at_full (list_ends k sound l.at (cc))
      | then-level-k-via-else-level-k+then-last_cycle w ↦
          let one = one_left k l.speed (level_entry k l.at) sound (cc) in at_stand (omega (arith, l.invariant.along))
    ])

pub loop-at-preserved : goal.loop-at-preserved
loop-at-preserved c =
    record {
      entry = grind (arith, common_steps);
      braking = grind (arith, braking_on, entry_next);
      along = grind (arith, run_moves, moved_before, entry_next);
    }
