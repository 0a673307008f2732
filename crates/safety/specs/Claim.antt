-- Demand 3: what is claimed of a history on the line that an opening o made, in the opening's own numbers; and the table that a history
-- tells of.
use Rattle.std.specs.Prelude.{ℕ, ◌+◌, ◌≤◌, ◌≡◌, true, List, [], ◌∷◌, map, length, Option, None, Some, is_some}
use Rattle.brake.specs.Consist.{figures_of}
use Rattle.motion.specs.Motion.{stands}
use Rattle.motion.specs.Count.{cycles_to_stand}
use Rattle.calls.specs.declared.Opening.{Opening}
use Rattle.train.specs.declared.Train.{Train}
use Rattle.train.specs.Ranges.{WorksWith}
use Rattle.train.specs.Record.{train_of}
use Rattle.train.specs.Track.{steps_of}
use Rattle.table.specs.declared.Table.{Table}
use Rattle.table.specs.Table.{on_line}
use Rattle.safety.specs.History.{Deed, Event, history, after, Told, told, rear_of}

-- the reports that document 01 counts: 1 + B/j + V/B, both rounded up
abbrev pub counted_reports : Opening → Told → ℕ
counted_reports o x = 1 + cycles_to_stand x.figures o.ceiling

abbrev pub Stands : Told → Type 0
Stands x = stands x.figures x.now.last.speed x.now.level ≡ true

-- of each train by itself: its figures are those of its load class and length, its rear is on the line, its head is at or before its end,
-- and with so many reports it stands: held, or braked while moving, held or not. A stand ends the second count, so it never gets that far.
pub record Alone (o : Opening) (x : Told) : Type 0 where
  pub consist : figures_of x.entry.load x.entry.length ≡ Some x.figures
  pub rear_on_line : steps_of x.entry.length ≤ x.now.last.head
  pub head_within_end : x.now.last.head ≤ x.now.authority.end
  pub held_stands : (n : ℕ) → x.now.counts.held ≡ Some n → counted_reports o x ≤ n → Stands x
  pub braked_stands : (n : ℕ) → x.now.counts.braked ≡ Some n → counted_reports o x ≤ n → Stands x

-- its end lies at least the safety distance behind the rear ahead; that of the first train is at most the line end
abbrev pub Separate : Opening → Option Told → Told → Type 0
Separate o None x = x.now.authority.end ≤ o.end
Separate o (Some ahead) x = x.now.authority.end + o.safety ≤ rear_of ahead

-- no train that entered later overlaps it: none has its head beyond its rear
abbrev pub Clear : Told → List Told → Type 0
Clear a [] = Unit {0}
Clear a (x ∷ xs) = (x.now.last.head ≤ rear_of a) × Clear a xs

-- of all trains, behind `ahead`
abbrev pub Safe : Opening → Option Told → List Told → Type 0
Safe o ahead [] = Unit {0}
Safe o ahead (x ∷ xs) = Alone o x × Separate o ahead x × Clear x xs × Safe o (Some x) xs

unfoldable pub Claim : Opening → List Event → Type 0
Claim o es = Safe o None (told o es).trains

-- ---- the table that a history tells of

-- the record of a train on the line, part by part
unfoldable pub record_of : Told → Train
record_of x =
    train_of x.entry.id x.entry.length x.figures (record { head = x.now.last.head; speed = x.now.last.speed; level = x.now.level })
    x.now.order x.now.authority (record { held = is_some x.now.counts.held; penalty = is_some x.now.counts.braked })

-- Demand 3 for one list of deeds on the table t that the opening o made: the claim holds of the history, and the table after it is what
-- the history tells (proofs/Demand3: demand_3).
pub record Demand3 (o : Opening) (t : Table) (ds : List Deed) : Type 0 where
  pub claim : Claim o (history t ds)
  -- the line is still the one that o began
  pub line : (told o (history t ds)).opening ≡ o
  pub settings : WorksWith o (after t ds).settings
  pub count : (after t ds).count ≡ length (told o (history t ds)).trains
  pub trains : on_line (after t ds) ≡ map record_of (told o (history t ds)).trains
