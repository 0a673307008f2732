-- Document 01, "Line and consist": what an opening gives, and what the table works with.
use Rattle.std.specs.Prelude.{Bool, ◌&&◌, ◌≡◌}
use Rattle.ranges.specs.Ranges.{line_end_in_range, safety_in_range, ceiling_in_range, traction_in_range}
use Rattle.calls.specs.declared.Opening.{Opening}
use Rattle.train.specs.declared.Settings.{Settings}

-- line end, safety distance, speed ceiling V, greatest traction A
unfoldable pub settings_in_range : Opening → Bool
settings_in_range o = line_end_in_range o.end && safety_in_range o.safety && ceiling_in_range o.ceiling && traction_in_range o.traction

-- the settings that a table works with, from what the opening gave
abbrev pub settings_of : Opening → Settings
settings_of o = record { end = o.end; safety = o.safety; maxima = record { ceiling = o.ceiling; traction = o.traction } }

-- the settings σ have the numbers that were opened
pub record WorksWith (o : Opening) (σ : Settings) : Type 0 where
  pub end : σ.end ≡ o.end
  pub safety : σ.safety ≡ o.safety
  pub ceiling : σ.maxima.ceiling ≡ o.ceiling
  pub traction : σ.maxima.traction ≡ o.traction
