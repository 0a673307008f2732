-- Document 01, "Authorities", and document 02, (ii) and (vi): the words of demand 3. They come from the opening, the calls and their answers alone.
use Rattle.std.specs.Prelude.{ℕ, suc, ◌+◌, ◌-◌, Bool, true, false, cond, ◌&&◌, leb, ltb, eqb, Option, None, Some, option_map, unwrap_or}
use mathlib.Core.List.{List, [], ◌∷◌, ◌++◌, map, foldl}
use Rattle.brake.specs.declared.Figures.{Figures}
use Rattle.motion.specs.declared.Order.{Order}
use Rattle.motion.specs.declared.Order.TheVariants.{Drive, Brake}
use Rattle.motion.specs.Motion.{next_level, released_level, stands}
use Rattle.motion.specs.Orders.{reach}
use Rattle.calls.specs.declared.Opening.{Opening}
use Rattle.calls.specs.declared.Entry.{Entry}
use Rattle.calls.specs.declared.Reading.{Reading}
use Rattle.calls.specs.declared.Extension.{Extension}
use Rattle.calls.specs.declared.Act.{Act}
use Rattle.calls.specs.declared.Act.TheVariants.{Report, Extend, CallBack, Hold, Lift}
use Rattle.calls.specs.declared.Call.TheVariants.{Enter, Own, TakeOff}
use Rattle.calls.specs.declared.Ask.{Ask}
use Rattle.calls.specs.declared.Ask.TheVariants.{Open, OnTable}
use Rattle.calls.specs.declared.Request.{Request}
use Rattle.calls.specs.declared.Numbers.{Numbers}
use Rattle.calls.specs.Answers.{numbers_of}
use Rattle.train.specs.declared.Authority.{Authority}
use Rattle.train.specs.Track.{steps_of}
use Rattle.table.specs.declared.Table.{Table}
use Rattle.line.specs.declared.Outcome.{Outcome}
use Rattle.line.specs.Step.{outcome, requested}
use Rattle.line.specs.Preview.{previewed}

-- what may stand in a list on an opened line: a request that is made, or one that a preview tries
pub data Deed : Type 0 where
  made : Request → Deed
  tried : Request → Deed

-- its answer, and the table after it
abbrev pub done : Table → Deed → Outcome
done t (made r) = requested true t r
-- document 02, (v): the real table stays untouched
done t (tried r) = outcome (previewed t r).answer t

-- a deed with its answer: the number and the three values
pub record Event : Type 0 where
  pub deed : Deed
  pub answer : Numbers

-- deeds on an opened line, each on the table that the one before it left: the history, oldest first, and the table after them
unfoldable pub history : Table → List Deed → List Event
history t [] = []
history t (d ∷ ds) = record { deed = d; answer = numbers_of (done t d).answer } ∷ history (done t d).table ds

unfoldable pub after : Table → List Deed → Table
after t [] = t
after t (d ∷ ds) = after (done t d).table ds

-- answer 0 is acceptance
unfoldable pub is_accepted : Event → Bool
is_accepted e = eqb e.answer.number 0

-- ---- a train on the line

-- what is counted in its reports
pub record Counts : Type 0 where
  -- held: those since the first hold that no lift follows
  pub held : Option ℕ
  -- braked while moving: those since the one that ordered it, that one included, where the train has not stood at any
  pub braked : Option ℕ

-- not held, and not braked while moving
abbrev pub fresh_counts : Counts
fresh_counts = record { held = None; braked = None }

-- what its entering and its accepted acts since tell of it by now
pub record State : Type 0 where
  -- its last report in this stay or, before the first one, the entering head and 0
  pub last : Reading
  -- the level that a brake in the coming cycle has
  pub level : ℕ
  pub order : Order
  pub authority : Authority
  pub counts : Counts

-- a train: what was entered, its brake figures, and its state by now
pub record Told : Type 0 where
  pub entry : Entry
  pub figures : Figures
  pub now : State

abbrev pub state_of : Reading → ℕ → Order → Authority → Counts → State
state_of r l o a n = record { last = r; level = l; order = o; authority = a; counts = n }

-- the track that a train is lent, up to the end e, with no call back pending: s is the starting number of its stay, n the last accepted one,
-- and l its length
abbrev pub lent : ℕ → ℕ → ℕ → ℕ → Authority
lent e s n l = record { end = e; goal = e; start = s; number = n; length = l }

-- Enter is answered with B and j. The train stands at its head under full brake and has no other track. Nothing is counted.
abbrev pub told_entering : Entry → Numbers → Told
told_entering e r =
    let s = state_of (record { head = e.head; speed = 0 }) r.first Brake (lent e.head e.start e.start 0) fresh_counts in
    record { entry = e; figures = record { full = r.first; growth = r.second }; now = s }

-- 0 after a driven cycle, the next level after a braked one
abbrev pub level_after : Figures → Order → ℕ → ℕ
level_after k (Drive c) level = released_level
level_after k Brake level = next_level k level

-- the answer to a report gives the order: 1 drive and its cap, 2 brake
abbrev pub order_in : Numbers → Order
order_in r = cond (eqb r.first 1) (Drive r.second) Brake

-- A report with which the train stands ends the count of those braked while moving; brake to a moving train begins it. Until it stands each
-- report counts, whatever its answer and whatever is called meanwhile.
abbrev pub braked_after : Bool → Order → Option ℕ → Option ℕ
braked_after true o n = None
braked_after false Brake n = Some (suc (unwrap_or n 0))
braked_after false (Drive c) n = option_map suc n

-- a new number adds its length, and the last one again adds none
abbrev pub longer : Authority → Extension → Authority
longer a q = cond (eqb q.number a.number) a (lent (a.end + q.length) a.start q.number q.length)

-- the same up to another end
abbrev pub up_to : ℕ → Authority → Authority
up_to p a = lent p a.start a.number a.length

-- a call back moves the end to a place that the reach r is not past; to any other place it is pending, and the end stays
abbrev pub nearer : ℕ → ℕ → Authority → Authority
nearer r p a = cond (leb r p) (up_to p a) (record { end = a.end; goal = p; start = a.start; number = a.number; length = a.length })

-- A pending call back is done by a report whose answer gives a reach r at or before its place, or by one with which the train stands past it:
-- the end moves to the place, or to the head.
unfoldable pub done_by : ℕ → Bool → ℕ → Authority → Authority
done_by r standing head a =
    cond (ltb a.goal a.end) (cond (leb r a.goal) (up_to a.goal a) (cond (standing && ltb a.goal head) (up_to head a) a)) a

-- another authority, or other counts
abbrev pub still : State → Authority → Counts → State
still s a n = state_of s.last s.level s.order a n

-- the state s of a train with figures k, after an accepted act with its answer
unfoldable pub told_act : Figures → State → Numbers → Act → State
told_act k s n (Report r) =
    let level = level_after k s.order s.level in
    state_of r level (order_in n) (done_by n.third (stands k r.speed level) r.head s.authority)
    (record { held = option_map suc s.counts.held; braked = braked_after (stands k r.speed level) (order_in n) s.counts.braked })
told_act k s n (Extend q) = still s (longer s.authority q) s.counts
told_act k s n (CallBack p) =
    still s (nearer (reach k (record { head = s.last.head; speed = s.last.speed; level = s.level }) s.order) p s.authority) s.counts
-- held already, it goes on counting
told_act k s n Hold = still s s.authority (record { held = Some (unwrap_or s.counts.held 0); braked = s.counts.braked })
told_act k s n Lift = still s s.authority (record { held = None; braked = s.counts.braked })

-- ---- the line, and the trains on it

-- the opening that began it, and its trains in the order of entering: the train ahead is the one before in the list
pub record Line : Type 0 where
  pub opening : Opening
  pub trains : List Told

-- a new table has no train
abbrev pub opened : Opening → Line
opened o = record { opening = o; trains = [] }

-- other trains on the same line
abbrev pub with_trains : Line → List Told → Line
with_trains l xs = record { opening = l.opening; trains = xs }

-- each train, after an accepted act of the one with this id
abbrev pub told_own : ℕ → Numbers → Act → Told → Told
told_own id n a x =
    cond (eqb x.entry.id id) (record { entry = x.entry; figures = x.figures; now = told_act x.figures x.now n a }) x

-- those with another id
unfoldable pub without : ℕ → List Told → List Told
without id [] = []
without id (x ∷ xs) = cond (eqb x.entry.id id) (without id xs) (x ∷ without id xs)

-- after an accepted call with its answer
unfoldable pub told_call : Line → Numbers → Ask → Line
-- on an open line no opening is accepted
told_call l n (Open o) = opened o
told_call l n (OnTable (Enter e)) = with_trains l (l.trains ++ (told_entering e n ∷ []))
told_call l n (OnTable (Own id a)) = with_trains l (map (told_own id n a) l.trains)
told_call l n (OnTable (TakeOff id)) = with_trains l (without id l.trains)

-- after an accepted deed with its answer
abbrev pub told_deed : Line → Numbers → Deed → Line
told_deed l n (made r) = told_call l n r.ask
-- a preview is no call of the list's, whatever it is answered
told_deed l n (tried r) = l

-- after an event; a refused deed tells nothing
unfoldable pub told_by : Line → Event → Line
told_by l e = cond (is_accepted e) (told_deed l e.answer e.deed) l

-- what a history tells of the line that o opened
unfoldable pub told : Opening → List Event → Line
told o es = foldl told_by (opened o) es

-- ---- words of the claim

-- the length is the entered one
unfoldable pub rear_of : Told → ℕ
rear_of x = x.now.last.head - steps_of x.entry.length
