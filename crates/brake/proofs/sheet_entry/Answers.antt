-- The table is read off the code, and written down nowhere else.
use Rattle.std.proofs.Common.{◌≡◌, true, refl, ◌∙◌}
use Rattle.logic.specs.Rounding.{ceil_div}
use Rattle.logic.proofs.Tables.{follows, entry_follows}
use Rattle.brake.specs.declared.sheet.TheConstants.{SHEET}
use Rattle.brake.specs.Consist.{application_time, application_cycles, sheet_entry}
use Rattle.brake.proofs.sheet_entry.Goals as goal

-- "Each entry equals the formula at its multiple": one test, computed over the whole table
entries_follow : follows sheet_entry 0 SHEET ≡ true
unfolding ceil_div application_time application_cycles sheet_entry
entries_follow = refl

pub returns : goal.returns
returns c = c.from.ensures ∙ entry_follows sheet_entry SHEET entries_follow c.args.entry c.requires
