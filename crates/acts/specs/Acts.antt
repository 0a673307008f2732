-- Document 01, "Authorities", and document 02, (vi): what each call does to the train that it names.
use Rattle.std.specs.Prelude.{ℕ, ◌+◌, Bool, cond, ◌&&◌, ◌||◌, leb, ltb, eqb}
use Rattle.ranges.specs.Ranges.{between, number_in_range}
use Rattle.motion.specs.Motion.{stands}
use Rattle.motion.specs.Orders.{is_brake}
use Rattle.calls.specs.declared.Extension.{Extension}
use Rattle.train.specs.declared.Settings.{Settings}
use Rattle.train.specs.declared.Authority.{Authority}
use Rattle.train.specs.declared.Train.{Train}
use Rattle.train.specs.Record.{authority_to, ending_at, wanting, same, authorised}
use Rattle.train.specs.Report.{reach_of, computable}

-- a request: its number, and its length from 1 to the line end
unfoldable pub request_in_range : Settings → Extension → Bool
request_in_range σ q = number_in_range q.number && between 1 σ.end q.length

-- a request whose number is at or below the starting number, or below the last accepted
unfoldable pub is_old : Authority → Extension → Bool
is_old a q = leb q.number a.start || ltb q.number a.number

-- the last accepted number again
unfoldable pub is_repeat : Authority → Extension → Bool
is_repeat a q = eqb q.number a.number

-- Extend: a new number adds the length
abbrev pub granted : Authority → Extension → Authority
granted a q = authority_to (a.end + q.length) a.start q.number q.length

-- a repeat changes nothing
unfoldable pub extended : Train → Extension → Train
extended x q = cond (is_repeat x.authority q) x (authorised x (granted x.authority q))

-- Call back: the end becomes a named place from reach to end, both included. Short of the reach the place is wanted, and the call back is
-- pending. Either takes the place of one that was pending. The request number stays.
unfoldable pub called_back : Train → ℕ → Train
called_back x place = authorised x (cond (leb (reach_of x) place) (ending_at x.authority place) (wanting x.authority place))

-- A place from the head to the end, both included. On a table that calls left this is the second test alone (safety/proofs/Bounds:
-- call_back_judged).
unfoldable pub call_back_allowed : Train → ℕ → Bool
call_back_allowed x place = computable x && between x.motion.head x.authority.end place

-- Hold and lift: the mark of a hold alone, which the next report reads; a penalty brake stays on
abbrev pub holding : Train → Bool → Train
holding x b = same x x.motion x.order x.authority (record { held = b; penalty = x.marks.penalty })

-- Take off: the first train, standing under brake
unfoldable pub may_leave : ℕ → Train → Bool
may_leave i x = eqb i 0 && stands x.figures x.motion.speed x.motion.level && is_brake x.order
