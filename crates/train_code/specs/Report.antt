-- What a report leaves, as the code hands it on.
use Rattle.train.specs.declared.Train.{Train}
use Rattle.train.specs.Report.{reach_of}
use Rattle.train_code.specs.declared.Reported.{Reported}

-- ---- words of inner contracts

-- a record and its reach
abbrev pub with_reach : Train → Reported
with_reach x = record { train = x; reach = reach_of x }
