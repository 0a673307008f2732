-- The sessions are what the definitions give: computed.
-- Assumes nothing.
use mathlib.Core.Path.{◌≡◌, refl}
use mathlib.Core.List.{[]}
use Rattle.stream.specs.Session.{closed}
use Rattle.stream.specs.Input.{lines, last_answer, output}
use Rattle.desk_line.specs.Desk.{desk_ask, desk_read, shown_at, left_at}
use Rattle.desk_line.specs.Columns.{desk_line, desk_answers}
use Rattle.papers.specs.Paper.{paper_session, penalty_session, desk_session}
use Rattle.papers.specs.Exchanges.{input_of, output_of}
use Rattle.papers.proofs.Ran.{ran}

-- document 01's session, from bytes to bytes
pub worked_session : output (input_of paper_session) ≡ output_of paper_session
unfolding ran last_answer
worked_session = refl

-- the example of a penalty brake
pub penalty_session_lem : output (input_of penalty_session) ≡ output_of penalty_session
unfolding ran last_answer
penalty_session_lem = refl

-- the example of previews, at the desk
pub desk_session_lem : desk_answers closed (lines [] (input_of desk_session)) ≡ output_of desk_session
unfolding ran desk_ask desk_read shown_at left_at desk_line desk_answers
desk_session_lem = refl
