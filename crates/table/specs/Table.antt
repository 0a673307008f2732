-- The table of trains: 32 places, of which the first `count` hold the trains on the line, front train first.
use Rattle.std.specs.Prelude.{ℕ, zero, suc, ◌+◌, ◌-◌, ◌<◌, cond, List, [], ◌∷◌, ◌++◌, eqb, get_or, set, take, drop, replicate, Option, None, Some}
use Rattle.motion.specs.declared.Order.TheVariants.{Drive}
use Rattle.train.specs.declared.Settings.{Settings}
use Rattle.train.specs.declared.Train.{Train}
use Rattle.train.specs.Ranges.{settings_of}
use Rattle.train.specs.Record.{train_of, fresh_authority, fresh_marks}
use Rattle.train.specs.Track.{limit_behind}
use Rattle.table.specs.declared.Table.{Table}
use Rattle.table.specs.declared.Change.{Change}
use Rattle.table.specs.declared.Change.TheVariants.{Stay, Put, Add, DropFirst, Anew}

-- a place without a train: zeros, and drive with cap 0
abbrev pub blank_train : Train
blank_train =
    train_of 0 0 (record { full = 0; growth = 0 }) (record { head = 0; speed = 0; level = 0 }) (Drive 0) (fresh_authority 0 0) fresh_marks

abbrev pub places : ℕ
places = 32

-- a table with no train
abbrev pub empty_table : Settings → Table
empty_table σ = record { trains = replicate places blank_train; settings = σ; count = 0 }

-- the trains on the line, front train first
abbrev pub on_line : Table → List Train
on_line t = take t.count t.trains

-- the place of the train with this id, in a list whose first train is at place i
unfoldable pub place_in : List Train → ℕ → ℕ → Option ℕ
place_in [] id i = None
place_in (x ∷ xs) id i = cond (eqb x.id id) (Some i) (place_in xs id (suc i))

unfoldable pub place_of : Table → ℕ → Option ℕ
place_of t id = place_in (on_line t) id 0

abbrev pub train_at : Table → ℕ → Train
train_at t i = get_or t.trains i blank_train

-- the train ahead of place i
unfoldable pub ahead_of : Table → ℕ → Option Train
ahead_of t zero = None
ahead_of t (suc i) = Some (train_at t i)

-- the limit of the train at place i
abbrev pub limit_at : Table → ℕ → Option ℕ
limit_at t i = limit_behind t.settings (ahead_of t i)

-- the table after a change
abbrev pub changed : Table → Change → Table
changed t Stay = t
-- another record for the train at place i
changed t (Put i x) = record { trains = set t.trains i x; settings = t.settings; count = t.count }
-- a train behind the last
changed t (Add x) = record { trains = set t.trains t.count x; settings = t.settings; count = t.count + 1 }
-- the first train gone, the others one place nearer the front, and the place of the last blank
changed t DropFirst = record { trains = drop 1 (on_line t) ++ (blank_train ∷ drop t.count t.trains); settings = t.settings; count = t.count - 1 }
-- another table, as it was opened, with no train
changed t (Anew o) = empty_table (settings_of o)

-- ---- words of inner contracts

-- the table has the place that a change needs
abbrev pub Fits : Table → Change → Type 0
Fits t Stay = Unit {0}
Fits t (Put i x) = i < places
Fits t (Add x) = t.count < places
Fits t DropFirst = 0 < t.count
Fits t (Anew o) = Unit {0}
