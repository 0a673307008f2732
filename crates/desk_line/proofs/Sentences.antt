-- The desk beside the session, line by line: on a line that the session reads it answers as the session does, and its state is the session's. What
-- previews leave and show is said by code and in the columns of the output.
-- Assumes nothing.
use Rattle.std.specs.Prelude.{Option, None, Some, Err, option_and_then}
use Prim.Native.Nat.{ℕ, ◌+◌, ◌≤◌}
use mathlib.Core.Bool.{Bool, true, false, cond}
use mathlib.Core.List.{List, [], ◌∷◌, ◌++◌, append_assoc, append-nil}
use mathlib.Core.Path.{◌≡◌, refl, ap, ◌∙◌}
use native.Mathlib.Omega.{arith}
use Rattle.std.proofs.lemmas.Bool.Decides.{nat_tests}
use lib.ListN.{take, set}
use lib.Seq.{take_at}
use Rattle.motion.specs.Orders.{order_number, order_cap}
use Rattle.calls.specs.declared.Opening.{Opening}
use Rattle.calls.specs.declared.Call.{Call}
use Rattle.calls.specs.declared.Ask.TheVariants.{Open, OnTable}
use Rattle.calls.specs.declared.Request.{Request}
use Rattle.calls.specs.declared.Refusal.{Refusal}
use Rattle.calls.specs.declared.Refusal.TheVariants.{BadLine, OutOfTurn}
use Rattle.calls.specs.Answers.{numbers_of}
use Rattle.calls.specs.Requests.{at, request, request_of}
use Rattle.table.specs.declared.Table.{Table}
use Rattle.table.proofs.Sentences.{zero_record}
use Rattle.line.specs.declared.Shown.{Shown}
use Rattle.line.specs.Preview.{previewed}
use Rattle.wire.specs.Format.{row_in, request_by, line_read, text, text_of, answer_text}
use Rattle.wire.proofs.RoundTrip.{answer_long}
use Rattle.stream.specs.declared.Session.{Session}
use Rattle.stream.specs.Session.{session, line_decision, replied, answered}
use Rattle.stream.specs.Input.{after}
use Rattle.desk_line.specs.declared.DeskReply.{DeskReply}
use Rattle.desk_line.specs.declared.DeskAsk.TheVariants.{Made, Tried}
use Rattle.desk_line.specs.Desk.{desk_ask, desk_read, shown_at, left_at, desk_answered, desk_after}
use Rattle.desk_line.specs.Columns.{desk_line}

-- ---- what a line asks

-- no call of the session has a code from 50 on
above_50 : (row : List ℕ) → 50 ≤ at row 0 → request_of row ≡ None
unfolding request_of
above_50 row h = grind (arith, nat_tests)

-- a row that the session reads is read as the same request, which is made
row_made : (row : List ℕ) (r : Request) → request_of row ≡ Some r → desk_ask row ≡ Some (Made r)
unfolding desk_ask
row_made row r e = grind (arith, nat_tests, above_50 row, e)

pub session_read : (l : List ℕ) (r : Request) → line_read l ≡ Some r → desk_read l ≡ Some (Made r)
unfolding line_read desk_read
session_read l r = go (row_in l)
  where
    go : (o : Option (List ℕ)) → request_by o ≡ Some r → option_and_then desk_ask o ≡ Some (Made r)
    go None e = cc
    go (Some row) e = row_made row r e

-- code 50 + c previews call c
pub preview_read : (l row : List ℕ) (c : ℕ) (r : Request) → row_in l ≡ Some row → at row 0 ≡ 50 + c → request_of (set row 0 c) ≡ Some r → desk_read l ≡ Some (Tried r)
unfolding desk_read desk_ask
preview_read l row c r has code reads = grind (arith, nat_tests, has, code, reads)

-- ---- beside the session

-- what is answered, in the session's 44 columns, and the state after it
pub record AsInTheSession (s : Session) (l : List ℕ) : Type 0 where
  pub answer : numbers_of (desk_answered s l).shown.answer ≡ (answered s l).answer
  pub columns : take 44 (desk_line (desk_answered s l).shown) ≡ answer_text (answered s l).answer
  pub state : (desk_answered s l).session ≡ (answered s l).session

-- the first 44 columns are those of the answer
first_columns : (w : Shown) → take 44 (desk_line w) ≡ answer_text (numbers_of w.answer)
unfolding desk_line
first_columns w =
    let a = answer_text (numbers_of w.answer) in
    ap (take 44) (append_assoc a _ (10 ∷ [])) ∙ take_at a _ 44 (answer_long (numbers_of w.answer))

-- on every line that the session reads, in every state
pub as_in_the_session : (s : Session) (l : List ℕ) (r : Request) → line_read l ≡ Some r → AsInTheSession s l
unfolding shown_at left_at line_decision
as_in_the_session s l r reads =
    let same = session_read l r reads in
    let answer : numbers_of (desk_answered s l).shown.answer ≡ (answered s l).answer = rw (same, reads) in
    record { answer = answer; columns = first_columns (desk_answered s l).shown ∙ ap answer_text answer; state = rw (same, reads) }

-- Of any other line it makes nothing, as the session does: the desk has no call that the session lacks. So the calls of a line that is kept lead
-- the desk to the session's state.
not_made : (row : List ℕ) (s : Session) → request_of row ≡ None → left_at s (desk_ask row) ≡ s
unfolding desk_ask left_at
not_made row s e = grind (arith, nat_tests, e)

pub same_state : (s : Session) (l : List ℕ) → (desk_answered s l).session ≡ (answered s l).session
unfolding line_read line_decision desk_read left_at
same_state s l = go (row_in l)
  where
    stays : s ≡ (replied s (line_decision s None)).session
    stays = grind (arith, nat_tests)

    row_asks : (row : List ℕ) (q : Option Request) → request_of row ≡ q → left_at s (desk_ask row) ≡ (replied s (line_decision s q)).session
    row_asks row (Some r) e = ap (left_at s) (row_made row r e)
    row_asks row None e = not_made row s e ∙ stays

    go : (o : Option (List ℕ)) → left_at s (option_and_then desk_ask o) ≡ (replied s (line_decision s (request_by o))).session
    go None = stays
    go (Some row) = row_asks row (request_of row) refl

pub same_states : (ls : List (List ℕ)) (s : Session) → desk_after s ls ≡ after s ls
unfolding desk_after after
same_states [] s = refl
same_states (l ∷ ls) s = same_states ls (desk_answered s l).session ∙ ap (λ (z : Session). after z ls) (same_state s l)

-- ---- what is shown, and what is left

-- a refusal shows zeros
abbrev refusal : Refusal → Session → DeskReply
refusal r s = record { shown = record { answer = Err r; train = zero_record }; session = s }

module _ (l : List ℕ) (t : Table) where
  -- 1, in every state
  pub desk_1 : (s : Session) → desk_read l ≡ None → desk_answered s l ≡ refusal BadLine s
  unfolding shown_at left_at
  desk_1 s e = rw e

  -- a preview leaves the state, whatever it is answered
  pub desk_leaves : (s : Session) (r : Request) → desk_read l ≡ Some (Tried r) → (desk_answered s l).session ≡ s
  unfolding left_at
  desk_leaves s r e = rw e

  -- 2: a preview of a call before an accepted opening, whoever calls
  pub desk_2 : (n : ℕ) (c : Call) → desk_read l ≡ Some (Tried (request n (OnTable c))) → desk_answered (session false t) l ≡ refusal OutOfTurn (session false t)
  unfolding shown_at left_at
  desk_2 n c e = rw e

  -- after it, it is what document 02, (v), says
  pub desk_previews : (r : Request) → desk_read l ≡ Some (Tried r) → (desk_answered (session true t) l).shown ≡ previewed t r
  unfolding shown_at
  desk_previews r e = rw e

  -- and of an opening at any time
  pub desk_previews_openings : (b : Bool) (n : ℕ) (o : Opening) → desk_read l ≡ Some (Tried (request n (Open o))) → (desk_answered (session b t) l).shown ≡ previewed t (request n (Open o))
  unfolding shown_at
  desk_previews_openings true n o e = rw e
  desk_previews_openings false n o e = rw e

  -- a call that is made shows what its preview shows
  pub desk_shows : (n : ℕ) (c : Call) → desk_read l ≡ Some (Made (request n (OnTable c))) → (desk_answered (session true t) l).shown ≡ previewed t (request n (OnTable c))
  unfolding shown_at
  desk_shows n c e = rw e

-- ---- the columns of the record

pub record_in_order : (w : Shown) → let x = w.train in desk_line w ≡
    (answer_text (numbers_of w.answer)
    ++ (text 14 x.id ++ (text 14 x.length ++ (text 14 x.figures.full ++ (text 14 x.figures.growth
    ++ (text 14 x.motion.head ++ (text 14 x.motion.speed ++ (text 14 x.motion.level
    ++ (text 14 (order_number x.order) ++ (text 14 (order_cap x.order)
    ++ (text 14 x.authority.end ++ (text 14 x.authority.start ++ (text 14 x.authority.number ++ (text 14 x.authority.length
    ++ (text 14 (cond x.marks.held 1 0) ++ (text 14 (cond x.marks.penalty 1 0)
    ++ text 14 x.authority.goal)))))))))))))))) ++ (10 ∷ [])
unfolding desk_line text_of
record_in_order w = rw append-nil refl
