-- Document 01, "Worst-case motion". Speed v, cap c and level b are in µm/s, travel is in steps of 50 nm.
-- Each definition takes the brake figures k, also where flat track needs none: what a line adds to the motion will join them.
-- `cond` chooses by a test; so does `elim` with its two cases, where only the one that is chosen may be computed.
use Rattle.std.specs.Prelude.{ℕ, zero, suc, ◌+◌, ◌-◌, ◌*◌, min, Bool, true, false, cond, List, [], ◌∷◌, leb, eqb}
use Rattle.brake.specs.declared.Figures.{Figures}
use Rattle.logic.specs.Rounding.{ceil_div}

-- travel in a braked cycle at speed v and level b
unfoldable pub brake_travel : Figures → ℕ → ℕ → ℕ
brake_travel k v b = cond (leb b v) (2 * v - b) (ceil_div (v * v) b)

-- speed at its end: v − b where v is at least b, otherwise 0, as ℕ's difference is
unfoldable pub brake_speed : Figures → ℕ → ℕ → ℕ
brake_speed k v b = v - b

-- next level: b + j, at most B
unfoldable pub next_level : Figures → ℕ → ℕ
next_level k b = min (b + k.growth) k.full

-- travel in a driven cycle with cap c
unfoldable pub drive_travel : Figures → ℕ → ℕ → ℕ
drive_travel k v c = 2 * v + c

-- speed at its end
unfoldable pub drive_speed : Figures → ℕ → ℕ → ℕ
drive_speed k v c = v + c

-- level after it
abbrev pub released_level : ℕ
released_level = 0

-- a train stands when its speed is 0
unfoldable pub stands : Figures → ℕ → ℕ → Bool
stands k v b = eqb v 0

-- a cycle of a run: its travel, and the speed at its start and at its end
pub record Cycle : Type 0 where
  pub travel : ℕ
  pub before : ℕ
  pub after : ℕ

-- braked cycle
unfoldable pub braked_cycle : Figures → ℕ → ℕ → Cycle
braked_cycle k v b = record { travel = brake_travel k v b; before = v; after = brake_speed k v b }

-- braked cycles until the train stands, at most n of them
unfoldable pub first_cycles : ℕ → Figures → ℕ → ℕ → List Cycle
first_cycles zero k v b = []
first_cycles (suc n) k v b =
    elim (stands k v b) [ true ↦ [] | false ↦ braked_cycle k v b ∷ first_cycles n k (brake_speed k v b) (next_level k b) ]

-- No run is longer than this: one cycle at level 0, and each cycle after it takes off at least 1. It only makes the run
-- below computable: more changes nothing (proofs/Runs: run_enough, run_stands, run_moves).
unfoldable pub enough_cycles : Figures → ℕ → ℕ → ℕ
enough_cycles k v b = v + (1 - b)

-- braked cycles until the train stands
unfoldable pub braked_run : Figures → ℕ → ℕ → List Cycle
braked_run k v b = first_cycles (enough_cycles k v b) k v b

-- how far a run goes
unfoldable pub total_travel : List Cycle → ℕ
total_travel [] = 0
total_travel (c ∷ cs) = c.travel + total_travel cs

-- stopping distance (stop travel) from speed v and level b
unfoldable pub stopping_distance : Figures → ℕ → ℕ → ℕ
stopping_distance k v b = total_travel (braked_run k v b)
