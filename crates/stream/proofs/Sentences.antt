-- Document 01, "What is turned down" and "The session program", said a second time of a session: how an input is cut into lines, what a line is
-- answered, and the state after it, by what stands in the line. Which lines can be read at all is said in wire/proofs/RoundTrip and Unique.
-- Assumes nothing.
use Rattle.std.specs.Prelude.{Option, Some, None}
use Rattle.calls.specs.declared.Request.{Request}
use Prim.Native.Nat.{ℕ}
use mathlib.Core.Bool.{Bool, true, false, ◌||◌}
use mathlib.Core.List.{List, [], ◌∷◌, ◌++◌, append_assoc, append-nil}
use lib.Dec.{eqb}
use lib.ListN.{replicate}
use mathlib.Core.Path.{◌≡◌, refl, sym, ap, ◌∙◌}
use borrow.Author.Tests.{ne_eqb}
use Rattle.logic.proofs.Tests.{by_test}
use Rattle.calls.specs.declared.Opening.{Opening}
use Rattle.calls.specs.declared.Call.{Call}
use Rattle.calls.specs.declared.Ask.TheVariants.{Open, OnTable}
use Rattle.calls.specs.Answers.{numbers, numbers_of}
use Rattle.calls.specs.Requests.{request}
use Rattle.rights.specs.Rights.{may_ask}
use Rattle.rights.proofs.Callers.{Right}
use Rattle.train.specs.Ranges.{settings_of}
use Rattle.train.proofs.Sentences.{Offers}
use Rattle.table.specs.declared.Table.{Table}
use Rattle.table.specs.Table.{empty_table}
use Rattle.line.specs.declared.Outcome.{Outcome}
use Rattle.line.specs.Decide.{decide_on, decided}
use Rattle.line.proofs.Steps.{step}
use Rattle.line.proofs.Rights.{call_16, open_16, call_rightful}
use Rattle.line.proofs.Rules.{refusal_keeps, call_2, open_2, open_3, open_accepted}
use Rattle.wire.specs.Format.{line_read, left, text, text_of, answer_text}
use Rattle.stream.specs.declared.Session.{Session}
use Rattle.stream.specs.declared.Reply.{Reply}
use Rattle.stream.specs.Session.{session, closed, line_decision, answered}
use Rattle.stream.specs.Input.{lines, rest, output_line, answers, last_answer}
use Rattle.stream.proofs.Safe.{replied_to}

-- ---- the lines of an input

-- no line feed among these bytes
abbrev pub NoFeed : List ℕ → Type 0
NoFeed [] = Unit {0}
NoFeed (b ∷ bs) = (b ≡ 10 → ⊥) × NoFeed bs

-- where the bytes g have come before
line_from_lem : (g l more : List ℕ) → NoFeed l → lines g (l ++ (10 ∷ more)) ≡ (g ++ l) ∷ lines [] more
unfolding lines
line_from_lem g [] more none = rw append-nil refl
line_from_lem g (b ∷ l) more (other, none) = rw (ne_eqb b 10 other, sym (append_assoc g (b ∷ []) l)) (line_from_lem (g ++ (b ∷ [])) l more none)

-- a line feed begins anew, whatever came before it
pub rest_anew : (g l more : List ℕ) → rest g (l ++ (10 ∷ more)) ≡ rest [] more
unfolding rest
rest_anew g [] more = refl
rest_anew g (b ∷ l) more = by_test (eqb b 10) (λ e. rw e (rest_anew [] l more)) (λ e. rw e (rest_anew (g ++ (b ∷ [])) l more))

rest_from : (g l : List ℕ) → NoFeed l → (lines g l ≡ []) × (rest g l ≡ g ++ l)
unfolding lines rest
rest_from g [] none = (refl, sym (append-nil g))
rest_from g (b ∷ l) (other, none) = rw (ne_eqb b 10 other, sym (append_assoc g (b ∷ []) l)) (rest_from (g ++ (b ∷ [])) l none)

-- "then a line feed": what stands before the first line feed is the first line, every byte of it and no other, and the rest is cut in the same way
pub first_line : (l more : List ℕ) → NoFeed l → (lines [] (l ++ (10 ∷ more)) ≡ l ∷ lines [] more) × (rest [] (l ++ (10 ∷ more)) ≡ rest [] more)
first_line l more none = (line_from_lem [] l more none, rest_anew [] l more)

-- without a line feed no line is whole, and all of it is left over
pub no_line : (l : List ℕ) → NoFeed l → (lines [] l ≡ []) × (rest [] l ≡ l)
no_line = rest_from []

-- "for each input line one line", in order, each answered in the state that the one before it left
pub each_answered : (s : Session) (l : List ℕ) (ls : List (List ℕ))
    → answers s (l ∷ ls) ≡ answer_text (answered s l).answer ++ (10 ∷ answers (answered s l).session ls)
unfolding answers output_line
each_answered s l ls = append_assoc (answer_text (answered s l).answer) (10 ∷ []) _

-- ---- the state between lines

pub session_made : (b : Bool) (t : Table) → session b t ≡ record { opened = b; table = t }
session_made b t = refl

-- no opening has been accepted at the start, and no train is on the line
pub closed_at_first : (closed.opened ≡ false) × (closed.table.count ≡ 0)
closed_at_first = (refl, refl)

-- ---- a line

-- a refusal with this number: zeros, and the session as it was
abbrev refusal : ℕ → Session → Reply
refusal n s = record { answer = numbers n 0 0 0; session = s }

-- the reply that an outcome makes, before an accepted opening or after one
abbrev reply_of : Bool → Outcome → Reply
reply_of b u = record { answer = numbers_of u.answer; session = session (b || eqb (numbers_of u.answer).number 0) u.table }

module _ (l : List ℕ) (t : Table) where
  answered_as : (s : Session) (r : Option Request) → line_read l ≡ r → answered s l ≡ replied_to s r
  answered_as s r e = ap (replied_to s) e

  -- 1 "line unreadable"
  pub line_1 : (b : Bool) → line_read l ≡ None → answered (session b t) l ≡ refusal 1 (session b t)
  unfolding line_decision
  line_1 true e = answered_as (session true t) None e
  line_1 false e = answered_as (session false t) None e

  -- 2 "call before an accepted opening", whoever calls
  pub line_2 : (n : ℕ) (c : Call) → line_read l ≡ Some (request n (OnTable c)) → answered (session false t) l ≡ refusal 2 (session false t)
  unfolding line_decision
  line_2 n c e = answered_as (session false t) _ e ∙ rw (call_2 t n c)

  -- 2 "or an opening after one"
  pub line_2_again : (n : ℕ) (o : Opening) → line_read l ≡ Some (request n (Open o)) → answered (session true t) l ≡ refusal 2 (session true t)
  unfolding line_decision
  line_2_again n o e = answered_as (session true t) _ e ∙ rw (open_2 t n o)

  -- 16 "caller without the right, directly after 1 and 2": an opening, and any other call
  pub line_16_open : (n : ℕ) (o : Opening) → line_read l ≡ Some (request n (Open o)) → (Right n (Open o) → ⊥)
      → answered (session false t) l ≡ refusal 16 (session false t)
  unfolding line_decision
  line_16_open n o e lacks = answered_as (session false t) _ e ∙ ap (reply_of false) (open_16 n o lacks t)

  pub line_16 : (n : ℕ) (c : Call) → line_read l ≡ Some (request n (OnTable c)) → (Right n (OnTable c) → ⊥)
      → answered (session true t) l ≡ refusal 16 (session true t)
  unfolding line_decision
  line_16 n c e lacks = answered_as (session true t) _ e ∙ ap (reply_of true) (call_16 n c lacks t)

  -- 3 "a setting out of range"
  pub line_3 : (o : Opening) → line_read l ≡ Some (request 0 (Open o)) → (Offers o → ⊥) → answered (session false t) l ≡ refusal 3 (session false t)
  unfolding line_decision decided decide_on may_ask
  line_3 o e out = answered_as (session false t) _ e ∙ (rw (open_3 o out))

  -- an accepted opening: from then on the session is open, with a table of these settings and no train
  pub line_opens : (o : Opening) → line_read l ≡ Some (request 0 (Open o)) → Offers o
      → answered (session false t) l ≡ record { answer = numbers 0 0 0 0; session = session true (empty_table (settings_of o)) }
  unfolding line_decision decided decide_on may_ask
  line_opens o e offers = answered_as (session false t) _ e ∙ (rw (open_accepted o offers))

  -- after it a call by a caller with the right is answered as on its table, and leaves the table that it leaves there
  pub line_called : (n : ℕ) (c : Call) → line_read l ≡ Some (request n (OnTable c)) → Right n (OnTable c)
      → answered (session true t) l ≡ record { answer = numbers_of (step t c).answer; session = session true (step t c).table }
  unfolding line_decision
  line_called n c e has = answered_as (session true t) _ e ∙ ap (reply_of true) (call_rightful n c has t)

  -- "A refusal gives its number and zeros; the whole table stays": whatever stands in the line, and in every state
  abbrev Leaves : Session → Reply → Type 0
  Leaves s r = (r.answer.number ≡ 0 → ⊥) → r ≡ refusal r.answer.number s

  pub refusal_leaves : (b : Bool) → Leaves (session b t) (answered (session b t) l)
  unfolding line_decision
  refusal_leaves b = go b (line_read l)
    where
      go : (b : Bool) (r : Option Request) → Leaves (session b t) (replied_to (session b t) r)
      go true None refuses = refl
      go false None refuses = refl
      go true (Some r) refuses = let (zeros, stays) = refusal_keeps true t r refuses in λ z. record { answer = zeros z; session = session true (stays z) }
      go false (Some r) refuses =
          let (zeros, stays) = refusal_keeps false t r refuses in
          let not_opened = ne_eqb _ 0 refuses in
          λ z. record { answer = zeros z; session = session (not_opened z) (stays z) }

-- "a last line without its line feed is answer 1": whatever stands in it. Where nothing follows the last line feed, nothing is answered.
abbrev zero_text : List ℕ
zero_text = replicate 13 32 ++ (48 ∷ [])

pub unfinished_1 : (b : ℕ) (bs : List ℕ) → last_answer (b ∷ bs) ≡ 32 ∷ 49 ∷ (zero_text ++ (zero_text ++ (zero_text ++ (10 ∷ []))))
unfolding last_answer output_line answer_text text_of text left
unfinished_1 b bs = refl

pub nothing_unfinished : last_answer [] ≡ []
unfolding last_answer
nothing_unfinished = refl
