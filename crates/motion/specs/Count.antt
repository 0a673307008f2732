-- Document 01, "Authorities": how many braked cycles bring any train within the ceiling to a stand.
use Rattle.std.specs.Prelude.{ℕ, ◌+◌}
use Rattle.brake.specs.declared.Figures.{Figures}
use Rattle.logic.specs.Rounding.{ceil_div}

-- B/j, rounded up: until the brake is full
abbrev pub cycles_to_full : Figures → ℕ
cycles_to_full k = ceil_div k.full k.growth

-- B/j + V/B, both rounded up. A held train has one report more: the one that orders the brake.
unfoldable pub cycles_to_stand : Figures → ℕ → ℕ
cycles_to_stand k ceiling = cycles_to_full k + ceil_div ceiling k.full
