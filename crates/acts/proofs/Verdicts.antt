-- Laws of the acts: what each check leads to. Whoever cites these opens no list of checks.
-- Assumes nothing.
use Rattle.std.specs.Prelude.{Option, Err, Ok}
use Prim.Native.Nat.{ℕ, ◌+◌}
use mathlib.Core.Bool.{true, false}
use mathlib.Core.Path.{◌≡◌}
use borrow.Author.Tests.{eq-eqb, ne_eqb}
use Rattle.calls.specs.declared.Reading.{Reading}
use Rattle.calls.specs.declared.Extension.{Extension}
use Rattle.calls.specs.declared.Refusal.TheVariants.{NotAllowed, BadRequest, OldNumber, OtherLength, NoTrack, BadPlace, Pending}
use Rattle.calls.specs.declared.Values.TheVariants.{Ordered, Extended, Zeros}
use Rattle.calls.specs.Checks.{first_of}
use Rattle.train.specs.declared.Settings.{Settings}
use Rattle.train.specs.declared.Authority.{Authority}
use Rattle.train.specs.declared.Train.{Train}
use Rattle.train.specs.Record.{is_pending, authorised}
use Rattle.train.specs.Track.{within_limit}
use Rattle.train.specs.Report.{reach_of, reported, report_allowed}
use Rattle.acts.specs.Acts.{request_in_range, is_repeat, is_old, granted, extended, called_back, call_back_allowed}
use Rattle.acts.specs.Decide.{reporting, extending, calling_back, verdict}

module _ (σ : Settings) (x : Train) where
  -- ---- report

  pub report_refused : (r : Reading) → report_allowed σ x r ≡ false → verdict (reporting σ x r) ≡ Err NotAllowed
  unfolding first_of
  report_refused r e = rw e

  pub report_taken : (r : Reading) → report_allowed σ x r ≡ true
      → verdict (reporting σ x r) ≡ Ok ((Ordered (reported σ x r).order (reach_of (reported σ x r))), (reported σ x r))
  unfolding first_of
  report_taken r e = rw e

  -- ---- extend

  module _ (limit : Option ℕ) (q : Extension) where
    abbrev mine : Authority
    mine = x.authority

    pub extend_bad : request_in_range σ q ≡ false → verdict (extending σ limit x q) ≡ Err BadRequest
    unfolding first_of
    extend_bad e = rw e

    module _ (ranged : request_in_range σ q ≡ true) where
      pub extend_old : is_old mine q ≡ true → verdict (extending σ limit x q) ≡ Err OldNumber
      unfolding first_of
      extend_old e = rw (ranged, e)

      module _ (fresh : is_old mine q ≡ false) where
        pub extend_other : q.number ≡ mine.number → (q.length ≡ mine.length → ⊥) → verdict (extending σ limit x q) ≡ Err OtherLength
        unfolding first_of is_repeat
        extend_other e f = rw (ranged, fresh, eq-eqb q.number mine.number e, ne_eqb q.length mine.length f)

        pub extend_repeat : q.number ≡ mine.number → q.length ≡ mine.length → verdict (extending σ limit x q) ≡ Ok ((Extended mine.end true), x)
        unfolding first_of is_repeat extended
        extend_repeat e f = rw (ranged, fresh, eq-eqb q.number mine.number e, eq-eqb q.length mine.length f)

        module _ (new : q.number ≡ mine.number → ⊥) where
          pub extend_pending : (mine.goal ≡ mine.end → ⊥) → verdict (extending σ limit x q) ≡ Err Pending
          unfolding first_of is_repeat is_pending
          extend_pending pending = rw (ranged, fresh, ne_eqb q.number mine.number new, ne_eqb mine.goal mine.end pending)

          module _ (free : mine.goal ≡ mine.end) where
            pub extend_beyond : within_limit limit (mine.end + q.length) ≡ false → verdict (extending σ limit x q) ≡ Err NoTrack
            unfolding first_of is_repeat is_pending
            extend_beyond e = rw (ranged, fresh, ne_eqb q.number mine.number new, eq-eqb mine.goal mine.end free, e)

            pub extend_new : within_limit limit (mine.end + q.length) ≡ true
                → verdict (extending σ limit x q) ≡ Ok ((Extended (mine.end + q.length) false), (authorised x (granted mine q)))
            unfolding first_of is_repeat is_pending extended
            extend_new e = rw (ranged, fresh, ne_eqb q.number mine.number new, eq-eqb mine.goal mine.end free, e)

-- ---- call back

module _ (x : Train) (place : ℕ) where
  pub call_back_refused : call_back_allowed x place ≡ false → verdict (calling_back x place) ≡ Err BadPlace
  unfolding first_of
  call_back_refused e = rw e

  pub call_back_taken : call_back_allowed x place ≡ true → verdict (calling_back x place) ≡ Ok (Zeros, (called_back x place))
  unfolding first_of
  call_back_taken e = rw e
