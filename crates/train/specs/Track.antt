-- Document 01, "Authorities": a train's rear and its limit.
use Rattle.std.specs.Prelude.{ℕ, ◌+◌, ◌-◌, ◌*◌, Bool, false, cond, leb, Option, None, Some}
use Rattle.train.specs.declared.Settings.{Settings}
use Rattle.train.specs.declared.Train.{Train}

-- feet in steps of 50 nm
unfoldable pub steps_of : ℕ → ℕ
steps_of feet = 6096000 * feet

-- The limit of the train behind `ahead`: the rear of the train ahead minus the safety distance; for the first train, the line end. The
-- rear is the head minus the length. Where that would lie below 0, nothing is within the limit.
unfoldable pub limit_behind : Settings → Option Train → Option ℕ
limit_behind σ None = Some σ.end
limit_behind σ (Some a) =
    cond (leb (steps_of a.length + σ.safety) a.motion.head) (Some (a.motion.head - steps_of a.length - σ.safety)) None

abbrev pub within_limit : Option ℕ → ℕ → Bool
within_limit (Some limit) place = leb place limit
within_limit None place = false
