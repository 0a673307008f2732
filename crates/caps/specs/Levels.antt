-- Document 02, (iv): the levels of a brake that builds up from nothing, as one list for all trials of caps.
use Rattle.std.specs.Prelude.{ℕ, zero, suc, ◌+◌, ◌-◌, ◌*◌, min, true, false, List, [], ◌∷◌, ◌++◌, length, get_or}
use Rattle.brake.specs.declared.Figures.{Figures}
use Rattle.motion.specs.Motion.{brake_speed, stands, Cycle, braked_cycle, enough_cycles, total_travel}
use Rattle.motion.specs.Count.{cycles_to_full}

-- entry i, counted from 0: the lesser of i×j and B
unfoldable pub level_entry : Figures → ℕ → ℕ
level_entry k i = min (i * k.growth) k.full

-- the first n entries
unfoldable pub first_entries : Figures → ℕ → List ℕ
first_entries k zero = []
first_entries k (suc n) = first_entries k n ++ level_entry k n ∷ []

-- the list, up to the first B: that is entry B/j, rounded up
unfoldable pub level_list : Figures → List ℕ
level_list k = first_entries k (cycles_to_full k + 1)

-- entry i as it is read from a list, whose last one repeats
unfoldable pub entry_of : List ℕ → ℕ → ℕ
entry_of list i = get_or list (min i (length list - 1)) 0

-- braked cycles until the train stands, at most n of them: the first at entry i, each after it at the next entry
unfoldable pub read_cycles : ℕ → Figures → List ℕ → ℕ → ℕ → List Cycle
read_cycles zero k list v i = []
read_cycles (suc n) k list v i =
    let b = entry_of list i in elim (stands k v b) [ true ↦ [] | false ↦ braked_cycle k v b ∷ read_cycles n k list (brake_speed k v b) (i + 1) ]

-- stop travel from speed v and level 0, read from a list
unfoldable pub stop_read : Figures → List ℕ → ℕ → ℕ
stop_read k list v = total_travel (read_cycles (enough_cycles k v 0) k list v 0)
