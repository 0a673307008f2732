-- Document 01, "Authorities" and "What is turned down", and document 02, (vi): what each act of a train on the line comes to.
use Rattle.std.specs.Prelude.{ℕ, ◌+◌, Bool, true, false, not, ◌&&◌, List, [], ◌∷◌, eqb, Option, None, Some, Result, Err, Ok}
use Rattle.calls.specs.declared.Reading.{Reading}
use Rattle.calls.specs.declared.Extension.{Extension}
use Rattle.calls.specs.declared.Act.{Act}
use Rattle.calls.specs.declared.Act.TheVariants.{Report, Extend, CallBack, Hold, Lift}
use Rattle.calls.specs.declared.Refusal.{Refusal}
use Rattle.calls.specs.declared.Refusal.TheVariants.{NotAllowed, BadRequest, OldNumber, OtherLength, NoTrack, BadPlace, Pending}
use Rattle.calls.specs.declared.Values.{Values}
use Rattle.calls.specs.declared.Values.TheVariants.{Ordered, Extended, Zeros}
use Rattle.calls.specs.Checks.{Check, check, first_of}
use Rattle.train.specs.declared.Settings.{Settings}
use Rattle.train.specs.declared.Train.{Train}
use Rattle.train.specs.Record.{is_pending}
use Rattle.train.specs.Track.{within_limit}
use Rattle.train.specs.Report.{reach_of, reported, report_allowed}
use Rattle.acts.specs.Acts.{request_in_range, is_repeat, is_old, extended, call_back_allowed, called_back, holding}

-- the checks of an act in the order in which they run; where none applies, what it gives and the record after it
pub record Ruling : Type 0 where
  pub checks : List Check
  pub gives : Values
  pub after : Train

-- Report: 9
abbrev pub reporting : Settings → Train → Reading → Ruling
reporting σ x r =
    let y = reported σ x r in
    record { checks = check (not (report_allowed σ x r)) NotAllowed ∷ []; gives = Ordered y.order (reach_of y); after = y }

-- Extend: 10, 11, 12, repeat, 17, 13
abbrev pub extending : Settings → Option ℕ → Train → Extension → Ruling
extending σ limit x q =
    record {
      checks =
          check (not (request_in_range σ q)) BadRequest
          ∷ check (is_old x.authority q) OldNumber
          ∷ check (is_repeat x.authority q && not (eqb q.length x.authority.length)) OtherLength
          ∷ check (not (is_repeat x.authority q) && is_pending x.authority) Pending
          ∷ check (not (is_repeat x.authority q) && not (within_limit limit (x.authority.end + q.length))) NoTrack
          ∷ [];
      gives = Extended (extended x q).authority.end (is_repeat x.authority q);
      after = extended x q;
    }

-- Call back: 14
abbrev pub calling_back : Train → ℕ → Ruling
calling_back x place = record { checks = check (not (call_back_allowed x place)) BadPlace ∷ []; gives = Zeros; after = called_back x place }

-- Hold and lift: no check
abbrev pub marking : Train → Bool → Ruling
marking x held = record { checks = []; gives = Zeros; after = holding x held }

-- any act of the train x with this limit
abbrev pub decide : Settings → Option ℕ → Train → Act → Ruling
decide σ limit x (Report r) = reporting σ x r
decide σ limit x (Extend q) = extending σ limit x q
decide σ limit x (CallBack place) = calling_back x place
decide σ limit x Hold = marking x true
decide σ limit x Lift = marking x false

-- ---- words of inner contracts

abbrev pub verdict_by : Option Refusal → Ruling → Result (Values × Train) Refusal
verdict_by None d = Ok (d.gives, d.after)
verdict_by (Some r) d = Err r

-- a ruling, judged: the first check that applies turns the act down
abbrev pub verdict : Ruling → Result (Values × Train) Refusal
verdict d = verdict_by (first_of d.checks) d
