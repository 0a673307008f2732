-- Worked examples: lists of deeds for the words of demand 3 (proofs/Worked: worked), and histories that no controller may have, since the
-- claim does not hold of them (proofs/Refuted).
use Rattle.std.specs.Prelude.{ℕ, List, [], ◌∷◌, map, replicate, Option, None, Some}
use Rattle.calls.specs.declared.Opening.{Opening}
use Rattle.calls.specs.declared.Act.TheVariants.{Report, Extend, CallBack, Hold, Lift}
use Rattle.calls.specs.declared.Call.TheVariants.{Enter, Own, TakeOff}
use Rattle.calls.specs.declared.Ask.TheVariants.{Open, OnTable}
use Rattle.calls.specs.declared.Request.{Request}
use Rattle.calls.specs.declared.Numbers.{Numbers}
use Rattle.calls.specs.Answers.{numbers}
use Rattle.calls.specs.Requests.{request}
use Rattle.line.specs.Step.{open_step}
use Rattle.safety.specs.History.{Deed, made, tried, Event, history, Told, told, rear_of}
use Rattle.safety.specs.Claim.{counted_reports}

-- the yard, 70,000: enter, take off
abbrev pub enter : ℕ → ℕ → ℕ → ℕ → ℕ → Request
enter id h l load s = request 70000 (OnTable (Enter (record { id = id; head = h; length = l; load = load; start = s })))

abbrev pub take_off : ℕ → Request
take_off id = request 70000 (OnTable (TakeOff id))

-- a train, for itself: report, extend
abbrev pub report : ℕ → ℕ → ℕ → Request
report id h v = request id (OnTable (Own id (Report (record { head = h; speed = v }))))

abbrev pub extend : ℕ → ℕ → ℕ → Request
extend id n l = request id (OnTable (Own id (Extend (record { number = n; length = l }))))

-- the dispatcher, 0: call back, hold, lift
abbrev pub call_back : ℕ → ℕ → Request
call_back id p = request 0 (OnTable (Own id (CallBack p)))

abbrev pub hold : ℕ → Request
hold id = request 0 (OnTable (Own id Hold))

abbrev pub lift : ℕ → Request
lift id = request 0 (OnTable (Own id Lift))

-- the line of document 01's worked session
abbrev pub session_line : Opening
session_line = record { end = 200000000000; safety = 8000000000; ceiling = 26822400; traction = 3726 }

-- Train 7 leaves and enters again: nothing of its first stay counts. In its second it is held and lifted, and braked while it moves: that count
-- goes on after the lift and with more track. Train 9 is braked while it moves too, but stands afterwards. It is held, lifted and held twice: the
-- reports count from the first hold after the lift. Its taking off (15) and its report beyond the worst case (9) are refused and count nowhere. So
-- are a hold of train 7 by the yard, a report of train 9 for train 7 (16) and an opening (2).
abbrev pub worked_deeds : List Deed
worked_deeds =
    made (enter 7 14295120000 2345 1 0)
    ∷ made (hold 7)
    ∷ made (report 7 14295120000 0)
    ∷ made (take_off 7)
    ∷ made (enter 7 24295120000 2345 2 5)
    ∷ made (extend 7 6 1000000000)
    ∷ made (report 7 24295120000 0)
    ∷ made (hold 7)
    ∷ made (report 7 24295123726 3726)
    ∷ made (lift 7)
    ∷ made (extend 7 7 1)
    ∷ made (report 7 24295131000 3000)
    ∷ made (request 70000 (OnTable (Own 7 Hold)))
    ∷ made (request 9 (OnTable (Own 7 (Report (record { head = 24295131000; speed = 0 })))))
    ∷ made (request 0 (Open session_line))
    ∷ made (enter 9 1000000000 100 3 0)
    ∷ made (take_off 9)
    ∷ made (extend 9 1 100000000)
    ∷ made (report 9 1000000000 0)
    ∷ made (hold 9)
    ∷ made (report 9 1000003726 3726)
    ∷ made (lift 9)
    ∷ made (hold 9)
    ∷ made (report 9 1000003726 0)
    ∷ made (hold 9)
    ∷ made (report 9 1000003727 0)
    ∷ made (extend 9 3 500)
    ∷ made (extend 9 3 500)
    ∷ made (report 9 1000003726 0)
    ∷ []

-- each of them tried by a preview before it is made, and once more afterwards
abbrev pub tried_beside : List Deed → List Deed
tried_beside [] = []
tried_beside (made r ∷ ds) = tried r ∷ made r ∷ tried r ∷ tried_beside ds
tried_beside (tried r ∷ ds) = tried r ∷ tried_beside ds

-- Previews on the same line, and what each is answered: train 7 enters in none but the third, and is held in none but the last. An opening is
-- tried as the first one, with settings in range, with a ceiling of 0, and by the yard.
abbrev pub tried_deeds : List Deed
tried_deeds =
    tried (enter 7 14295120000 2345 1 0)
    ∷ tried (report 7 14295120000 0)
    ∷ made (enter 7 14295120000 2345 1 0)
    ∷ tried (enter 7 14295120000 2345 1 0)
    ∷ tried (take_off 7)
    ∷ tried (take_off 7)
    ∷ tried (report 7 14295120000 0)
    ∷ tried (report 7 14295120001 0)
    ∷ tried (extend 7 1 20000)
    ∷ tried (extend 7 1 20000)
    ∷ tried (request 7 (OnTable (Own 7 Hold)))
    ∷ tried (request 0 (OnTable (Own 7 (Report (record { head = 14295120000; speed = 0 })))))
    ∷ tried (request 0 (Open session_line))
    ∷ tried (request 0 (Open (record { end = 200000000000; safety = 8000000000; ceiling = 0; traction = 3726 })))
    ∷ tried (request 70000 (Open session_line))
    ∷ tried (hold 7)
    ∷ made (hold 7)
    ∷ []

abbrev pub tried_answers : List Numbers
tried_answers =
    numbers 0 133303 263 14295120000
    ∷ numbers 8 0 0 0
    ∷ numbers 0 133303 263 14295120000
    ∷ numbers 5 0 0 0
    ∷ numbers 0 0 0 0
    ∷ numbers 0 0 0 0
    ∷ numbers 0 1 0 14295120000
    ∷ numbers 9 0 0 0
    ∷ numbers 0 14295140000 0 0
    ∷ numbers 0 14295140000 0 0
    ∷ numbers 16 0 0 0
    ∷ numbers 16 0 0 0
    ∷ numbers 0 0 0 0
    ∷ numbers 3 0 0 0
    ∷ numbers 16 0 0 0
    ∷ numbers 0 0 0 0
    ∷ numbers 0 0 0 0
    ∷ []

abbrev pub answers_to : Opening → List Deed → List Numbers
answers_to o ds = map (λ (e : Event). e.answer) (history (open_step o).table ds)

pub record Words : Type 0 where
  pub id : ℕ
  pub start : ℕ
  pub head : ℕ
  pub speed : ℕ
  pub rear : ℕ
  pub end : ℕ
  -- the place that a pending call back wants, or the end
  pub goal : ℕ
  pub held : Option ℕ
  pub braked : Option ℕ

abbrev pub words_of : Told → Words
words_of x =
    record {
      id = x.entry.id;
      start = x.now.authority.start;
      head = x.now.last.head;
      speed = x.now.last.speed;
      rear = rear_of x;
      end = x.now.authority.end;
      goal = x.now.authority.goal;
      held = x.now.counts.held;
      braked = x.now.counts.braked;
    }

abbrev pub words_after : Opening → List Deed → List Words
words_after o ds = map words_of (told o (history (open_step o).table ds)).trains

-- a train that has entered and is held
abbrev pub tried_words : List Words
tried_words =
    record { id = 7; start = 0; head = 14295120000; speed = 0; rear = 0; end = 14295120000; goal = 14295120000; held = Some 0; braked = None } ∷ []

abbrev pub worked_words : List Words
worked_words =
    record { id = 7; start = 5; head = 24295131000; speed = 3000; rear = 10000011000; end = 25295120001; goal = 25295120001; held = None; braked = Some 2 }
    ∷ record { id = 9; start = 0; head = 1000003726; speed = 0; rear = 390403726; end = 1100000500; goal = 1100000500; held = Some 2; braked = None }
    ∷ []

-- ---- pending call backs

-- the same with little traction, so that few caps are to be tried
abbrev pub slow_line : Opening
slow_line = record { end = 200000000000; safety = 8000000000; ceiling = 26822400; traction = 10 }

-- Train 7 drives with 10, and reaches 31 steps further on. It is called back to behind its head, which is 14, to its head, and to one step short of
-- its reach, which is the place wanted then. A new extension is 17, with track or without; 12 and the repeat are as before. Its report gets brake,
-- and leaves the call back pending: it would stop one step past the place. A hold and a lift change nothing of it.
abbrev pub replaced_deeds : List Deed
replaced_deeds =
    made (enter 7 14295120000 2345 1 0)
    ∷ made (extend 7 1 1000)
    ∷ made (report 7 14295120000 0)
    ∷ made (call_back 7 14295119999)
    ∷ made (call_back 7 14295120000)
    ∷ made (call_back 7 14295120030)
    ∷ made (extend 7 2 1)
    ∷ made (extend 7 2 200000000000)
    ∷ made (extend 7 1 1001)
    ∷ made (extend 7 1 1000)
    ∷ made (report 7 14295120010 10)
    ∷ made (hold 7)
    ∷ made (lift 7)
    ∷ []

abbrev pub replaced_answers : List Numbers
replaced_answers =
    numbers 0 133303 263 14295120000
    ∷ numbers 0 14295121000 0 0
    ∷ numbers 0 1 10 14295120031
    ∷ numbers 14 0 0 0
    ∷ numbers 0 0 0 0
    ∷ numbers 0 0 0 0
    ∷ numbers 17 0 0 0
    ∷ numbers 17 0 0 0
    ∷ numbers 12 0 0 0
    ∷ numbers 0 14295121000 1 0
    ∷ numbers 0 2 0 14295120031
    ∷ numbers 0 0 0 0
    ∷ numbers 0 0 0 0
    ∷ []

abbrev pub replaced_words : List Words
replaced_words =
    record { id = 7; start = 0; head = 14295120010; speed = 10; rear = 10; end = 14295121000; goal = 14295120030; held = None; braked = Some 1 } ∷ []

-- a little slower, it would stop short of the place: the end moves there, and one step more is lent
abbrev pub there_deeds : List Deed
there_deeds = made (report 7 14295120020 9) ∷ made (extend 7 2 1) ∷ []

abbrev pub there_words : List Words
there_words =
    record { id = 7; start = 0; head = 14295120020; speed = 9; rear = 20; end = 14295120031; goal = 14295120031; held = None; braked = Some 2 } ∷ []

-- The worst case on, to a stand past the place. That report is answered against the place still, and the end becomes the head; at the next one the
-- train stands at its end.
abbrev pub past_deeds : List Deed
past_deeds = made (report 7 14295120030 10) ∷ made (report 7 14295120031 0) ∷ made (report 7 14295120031 0) ∷ []

abbrev pub past_answers : List Numbers
past_answers = numbers 0 2 0 14295120031 ∷ numbers 0 2 0 14295120031 ∷ numbers 0 1 0 14295120031 ∷ []

abbrev pub past_words : List Words
past_words =
    record { id = 7; start = 0; head = 14295120031; speed = 0; rear = 31; end = 14295120031; goal = 14295120031; held = None; braked = None } ∷ []

-- ---- the count of document 01's example, and histories that break the claim

-- an accepted request with its three values
abbrev pub said : Request → ℕ → ℕ → ℕ → Event
said r a b d = record { deed = made r; answer = numbers 0 a b d }

-- the session's train
abbrev pub loaded_enters : Event
loaded_enters = said (enter 7 14295120000 2345 1 0) 133303 263 14295120000

-- 1 + 507 + 202
abbrev pub held_count : List Told → ℕ
held_count [] = 0
held_count (x ∷ xs) = counted_reports session_line x

-- its head is one step short of its length, 2,345 × 6,096,000: its rear would lie before the line
abbrev pub rear_off_the_line : List Event
rear_off_the_line = said (enter 7 14295119999 2345 1 0) 133303 263 14295119999 ∷ []

-- its head is past its end, by one step
abbrev pub head_past_end : List Event
head_past_end = loaded_enters ∷ said (report 7 14295120001 0) 2 0 14295120001 ∷ []

-- the same cap above 0 at each report, also at its end: the train reports what it was allowed, and is past its end
abbrev pub same_cap_each_cycle : List Event
same_cap_each_cycle = loaded_enters ∷ said (report 7 14295120000 0) 1 1 14295120000 ∷ said (report 7 14295120001 1) 1 1 14295120001 ∷ []

-- a pending call back is done by an answer whose reach the train does not keep to: it is past its end
abbrev pub done_too_soon : List Event
done_too_soon =
    loaded_enters
    ∷ said (extend 7 1 20000) 14295140000 0 0
    ∷ said (report 7 14295120000 0) 1 2534 14295139993
    ∷ said (call_back 7 14295135000) 0 0 0
    ∷ said (report 7 14295122534 2534) 2 0 14295135000
    ∷ said (report 7 14295135001 0) 2 0 14295135001
    ∷ []

-- the first train, with its rear at 20,000,000,000
abbrev pub first_enters : Event
first_enters = said (enter 1 34295120000 2345 1 0) 133303 263 34295120000

-- an end one step nearer to it than the safety distance
abbrev pub end_too_near : List Event
end_too_near = first_enters ∷ said (enter 2 12000000001 100 1 0) 133303 965 12000000001 ∷ []

-- the end of the first train one step beyond the line end
abbrev pub end_off_the_line : List Event
end_off_the_line = said (enter 1 200000000001 2345 1 0) 133303 263 200000000001 ∷ []

-- the third train overlaps the first by one step, and not the second
abbrev pub overlap_of_two : List Event
overlap_of_two =
    first_enters
    ∷ said (enter 2 40000000000 100 1 0) 133303 965 40000000000
    ∷ said (enter 3 20000000001 100 1 0) 133303 965 20000000001
    ∷ []

-- held, it has had 710 reports, and moves
abbrev pub held_and_moving : List Event
held_and_moving = loaded_enters ∷ said (hold 7) 0 0 0 ∷ replicate 710 (said (report 7 14295120000 1) 2 0 14295120000)

-- braked once while it moved, it has had 709 reports more, and moves: whatever they were answered with
abbrev pub braked_and_moving : List Event
braked_and_moving =
    loaded_enters ∷ said (report 7 14295120000 1) 2 0 14295120000 ∷ replicate 709 (said (report 7 14295120000 1) 1 0 14295120000)

-- its figures are those of another class
abbrev pub figures_made_up : List Event
figures_made_up = said (enter 7 14295120000 2345 3 0) 133303 263 14295120000 ∷ []
