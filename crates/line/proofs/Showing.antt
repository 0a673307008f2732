-- What is to be shown of each call, said of the table after it. The laws are in Previews.
-- Assumes nothing.
use Prim.Native.Nat.{ℕ}
use mathlib.Core.Path.{◌≡◌}
use Rattle.calls.specs.declared.Call.{Call}
use Rattle.calls.specs.declared.Call.TheVariants.{Enter, Own, TakeOff}
use Rattle.calls.specs.Answers.{numbers_of}
use Rattle.train.specs.declared.Train.{Train}
use Rattle.table.specs.declared.Table.{Table}
use Rattle.table.specs.Table.{changed}
use Rattle.table.proofs.Sentences.{zero_record}
use Rattle.line.specs.declared.Decision.{Decision}
use Rattle.line.specs.Preview.{shown_by}
use Rattle.line.proofs.Stays.{Holds}

-- the table after a decision holds the record that is shown of it, as that of the train with this id
abbrev pub Held : Table → ℕ → Decision → Type 0
Held t id d = (numbers_of d.answer).number ≡ 0 → Holds (λ (x : Train). x ≡ shown_by d.change) id (changed t d.change)

abbrev pub Shows : Table → Call → Decision → Type 0
Shows t (Enter e) d = Held t e.id d
Shows t (Own id a) d = Held t id d
Shows t (TakeOff id) d = shown_by d.change ≡ zero_record
