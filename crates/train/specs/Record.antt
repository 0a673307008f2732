-- Document 01, "Orders" and "Authorities", and document 02, (ii) and (vi): a train record, in parts. A part that a call sets has a definition for its value on entering.
use Rattle.std.specs.Prelude.{ℕ, Bool, false, not, eqb, Option}
use Rattle.brake.specs.declared.Figures.{Figures}
use Rattle.brake.specs.Consist.{figures_of}
use Rattle.motion.specs.declared.Motion.{Motion}
use Rattle.motion.specs.declared.Order.{Order}
use Rattle.motion.specs.declared.Order.TheVariants.{Brake}
use Rattle.calls.specs.declared.Entry.{Entry}
use Rattle.train.specs.declared.Settings.{Settings}
use Rattle.train.specs.declared.Authority.{Authority}
use Rattle.train.specs.declared.Marks.{Marks}
use Rattle.train.specs.declared.Train.{Train}

abbrev pub train_of : ℕ → ℕ → Figures → Motion → Order → Authority → Marks → Train
train_of id l k m o a ms = record { id = id; length = l; figures = k; motion = m; order = o; authority = a; marks = ms }

-- the brake figures of an entering train, or none (answer 4). They may come to depend on the line.
abbrev pub figures_for : Settings → Entry → Option Figures
figures_for σ e = figures_of e.load e.length

-- an authority up to the end e, in a stay with the starting number s: n is the last accepted number, and l its length; no call back is pending
abbrev pub authority_to : ℕ → ℕ → ℕ → ℕ → Authority
authority_to e s n l = record { end = e; goal = e; start = s; number = n; length = l }

-- Enter: end = head, and a starting request number for this stay; no length has been asked for
abbrev pub fresh_authority : ℕ → ℕ → Authority
fresh_authority h s = authority_to h s s 0

-- the same with another end
abbrev pub ending_at : Authority → ℕ → Authority
ending_at a place = authority_to place a.start a.number a.length

-- the same with a pending call back that wants this place: the end stays for now
abbrev pub wanting : Authority → ℕ → Authority
wanting a place = record { end = a.end; goal = place; start = a.start; number = a.number; length = a.length }

-- a call back is pending: orders aim at another place than the end
unfoldable pub is_pending : Authority → Bool
is_pending a = not (eqb a.goal a.end)

-- not held, and no penalty brake
abbrev pub fresh_marks : Marks
fresh_marks = record { held = false; penalty = false }

-- Enter: standing, order brake, level B
abbrev pub entering : Entry → Figures → Train
entering e k =
    train_of e.id e.length k (record { head = e.head; speed = 0; level = k.full }) Brake (fresh_authority e.head e.start) fresh_marks

-- the same train with another motion, order, authority or marks: id, length and figures are those of its entering
abbrev pub same : Train → Motion → Order → Authority → Marks → Train
same x m o a ms = train_of x.id x.length x.figures m o a ms

abbrev pub authorised : Train → Authority → Train
authorised x a = same x x.motion x.order a x.marks
