-- Which trains get an order as document 01 has it: those that are not held, and not under a penalty brake while they move. Apart from the laws of
-- these orders (Sentences), so that a mark that brakes too long is refused here.
-- Assumes nothing.
use mathlib.Core.Bool.{false}
use mathlib.Core.Logic.{◌⊎◌, inl, inr}
use mathlib.Core.Path.{◌≡◌}
use native.Mathlib.Omega.{arith}
use Rattle.logic.proofs.Tests.{by_test}
use Rattle.motion.specs.declared.Motion.{Motion}
use Rattle.train.specs.declared.Settings.{Settings}
use Rattle.train.specs.declared.Train.{Train}
use Rattle.train.specs.Report.{moves, must_brake}
use Rattle.train.proofs.Moves.{moves_exactly}

module _ (σ : Settings) (x : Train) (m : Motion) (free : x.marks.held ≡ false) (unmarked : (x.marks.penalty ≡ false) ⊎ (m.speed ≡ 0)) where
  pub as_usual : must_brake x m ≡ false
  unfolding must_brake
  as_usual = go unmarked
    where
      go : (x.marks.penalty ≡ false) ⊎ (m.speed ≡ 0) → must_brake x m ≡ false
      go (inl clear) = rw (clear, free)
      go (inr standing) =
          by_test (moves x.figures m)
          (λ e. let moving = (moves_exactly x.figures m).0 e in absurd (omega arith))
          (λ e. by_test x.marks.penalty (λ f. rw (f, e, free)) (λ f. rw (f, free)))
