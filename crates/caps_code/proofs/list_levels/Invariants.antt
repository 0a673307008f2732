use Prim.Native.Nat.{ℕ, ◌+◌, ◌<◌}
use mathlib.Core.List.{List}
use mathlib.Core.Path.{◌≡◌}
use lib.ListN.{length, get_or}
use Rattle.brake.specs.declared.Figures.{Figures}
use Rattle.motion.specs.Motion.{braked_run}
use Rattle.motion.specs.Bounds.{Braking}
use Rattle.caps.specs.Levels.{level_entry}
use Rattle.caps_code.proofs.list_levels.Given as goal

-- the numbers before place n are written, and so far the list goes along with the run from speed v
pub record Listing (k : Figures) (v : ℕ) (list : List ℕ) (speed at : ℕ) : Type 0 where
  pub entry : (i : ℕ) → i < at → get_or list i 0 ≡ level_entry k i
  pub braking : Braking k speed (level_entry k at)
  pub along : at + length (braked_run k speed (level_entry k at)) ≡ length (braked_run k v 0)

abbrev pub invariant-loop-at : goal.invariant-loop-at
invariant-loop-at l = Listing l.k l.v l.list l.speed l.at
