-- Document 01's starred values, with the cap as document 02, (i), has it worked out again: what the definitions give beside what the papers
-- print (proofs/Starred: starred). Then values that the papers do not print, beside what another program works out from their formulas
-- (proofs/Starred: worked).
use Rattle.std.specs.Prelude.{ℕ, ◌+◌, ◌*◌, Bool, true, ◌&&◌, List, [], ◌∷◌, eqb, Option, Some, None}
use Rattle.brake.specs.declared.Figures.{Figures}
use Rattle.brake.specs.Consist.{application_cycles, sheet_entry, entry_for, brake_cycles, figures_of}
use Rattle.motion.specs.declared.Motion.{Motion}
use Rattle.motion.specs.declared.Maxima.{Maxima}
use Rattle.motion.specs.declared.Order.{Order}
use Rattle.motion.specs.declared.Order.TheVariants.{Drive, Brake}
use Rattle.motion.specs.Motion.{stopping_distance}
use Rattle.motion.specs.Orders.{order_number, order_cap, worst_case, reach, order_for}
use Rattle.motion.specs.Count.{cycles_to_stand}

pub record Row : Type 0 where
  pub defined : ℕ
  pub printed : ℕ

abbrev pub row : ℕ → ℕ → Row
row d p = record { defined = d; printed = p }

abbrev pub agree : List Row → Bool
agree [] = true
agree (r ∷ rs) = eqb r.defined r.printed && agree rs

-- full brake and growth that a consist is given
abbrev pub full_given : Option Figures → ℕ
full_given (Some k) = k.full
full_given None = 0

abbrev pub growth_given : Option Figures → ℕ
growth_given (Some k) = k.growth
growth_given None = 0

-- 1 where it is given figures, 0 where there are none: answer 4 (line/specs/Decide: enter_decision)
abbrev pub is_given : Option Figures → ℕ
is_given (Some k) = 1
is_given None = 0

-- the figures of the starred stop travels: the growth is the formula's
abbrev pub loaded : Figures
loaded = record { full = 133303; growth = 264 }

-- figures, settings and entering of the worked session: the growth is the sheet's
abbrev pub by_sheet : Figures
by_sheet = record { full = 133303; growth = 263 }

abbrev pub maxima : Maxima
maxima = record { ceiling = 26822400; traction = 3726 }

abbrev pub entered : Motion
entered = record { head = 14295120000; speed = 0; level = 133303 }

abbrev pub starred_values : List Row
starred_values =
    row (application_cycles 1) 123
    ∷ row (application_cycles 2345) 504
    ∷ row (application_cycles 10000) 1961
    ∷ row (full_given (figures_of 1 2345)) 133303
    ∷ row (full_given (figures_of 2 2345)) 162039
    ∷ row (full_given (figures_of 3 2345)) 87021
    ∷ row (stopping_distance loaded 0 0) 0
    ∷ row (stopping_distance loaded 1 0) 3
    ∷ row (stopping_distance loaded 100 0) 238
    ∷ row (stopping_distance loaded 264 0) 792
    ∷ row (stopping_distance loaded 265 0) 797
    ∷ row (order_number (order_for by_sheet maxima (entered.head + 20000) entered)) 1
    ∷ row (order_cap (order_for by_sheet maxima (entered.head + 20000) entered)) 2534
    ∷ row (is_given (figures_of 1 0)) 0
    ∷ row (is_given (figures_of 1 10001)) 0
    ∷ row (is_given (figures_of 0 2345)) 0
    ∷ row (is_given (figures_of 4 2345)) 0
    -- not starred: the count's example, and what 2,345 ft reads off the sheet, with the growth that the session's entering shows
    ∷ row (1 + cycles_to_stand by_sheet 26822400) 710
    ∷ row (20 * entry_for 2345) 2360
    ∷ row (brake_cycles 2345) 506
    ∷ row (growth_given (figures_of 1 2345)) 263
    ∷ []

-- a moving train; B/2 is between levels 66651 and 66652
abbrev pub moving : ℕ → ℕ → Motion
moving v b = record { head = 1000000; speed = v; level = b }

-- head, speed and level after a cycle under an order, and its reach: four rows
abbrev pub cycle : Motion → Order → ℕ → ℕ → ℕ → ℕ → List Row → List Row
cycle m o head speed level stops rows =
    row (worst_case loaded m o).head head
    ∷ row (worst_case loaded m o).speed speed
    ∷ row (worst_case loaded m o).level level
    ∷ row (reach loaded m o) stops
    ∷ rows

-- order number and cap at speed 200,000 on a line with ceiling V and greatest traction 10: two rows
abbrev pub ordered : ℕ → ℕ → ℕ → ℕ → List Row → List Row
ordered ceiling goal number cap rows =
    let o = order_for loaded (record { ceiling = ceiling; traction = 10 }) goal (moving 200000 0) in
    row (order_number o) number ∷ row (order_cap o) cap ∷ rows

abbrev pub worked_values : List Row
worked_values =
    -- cycles at and beside multiples of 20 ft, and at both ends of the sheet. At 120 ft an application time of 12.23 s would give 142.
    row (sheet_entry 0) 123
    ∷ row (brake_cycles 1) 126
    ∷ row (brake_cycles 20) 126
    ∷ row (brake_cycles 21) 129
    ∷ row (brake_cycles 120) 141
    ∷ row (brake_cycles 9980) 1956
    ∷ row (brake_cycles 9981) 1961
    ∷ row (brake_cycles 10000) 1961
    -- growth, B over the cycles
    ∷ row (growth_given (figures_of 1 1)) 1057
    ∷ row (growth_given (figures_of 1 9980)) 68
    ∷ row (growth_given (figures_of 1 9981)) 67
    ∷ row (growth_given (figures_of 2 1)) 1286
    ∷ row (growth_given (figures_of 3 10000)) 44
    -- 2×v + c, v + c, 0
    ∷ cycle (moving 200000 66000) (Drive 3000) 1403000 203000 0 12221269
    -- 2×v − b, v − b, b + j: below B/2, above it, at B, and where b + j is above B
    (cycle (moving 200000 66000) Brake 1334000 134000 66264 1604702
    (cycle (moving 200000 66652) Brake 1333348 133348 66916 1598821
    (cycle (moving 200000 133303) Brake 1266697 66697 133303 1300069
    (cycle (moving 200000 133100) Brake 1266900 66900 133303 1300475
    -- slower than the level: v²/b rounded up, 0, b + j
    (cycle (moving 1000 70000) Brake 1000015 0 70264 1000015
    -- free track: up to the greatest traction, up to the ceiling, at the ceiling, one above it
    (ordered 40000000 1001000000 1 10
    (ordered 200007 1001000000 1 7
    (ordered 200000 1001000000 1 0
    (ordered 199999 1001000000 2 0
    -- the reach of cap 5 is 11,981,244, that of cap 0 is 11,980,844: at it, and one step short of it
    (ordered 40000000 11981244 1 5
    (ordered 40000000 11981243 1 4
    (ordered 40000000 11980844 1 0
    (ordered 40000000 11980843 2 0
    [])))))))))))))
