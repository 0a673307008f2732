-- Which requests are well-formed, in numbers. Apart from the laws that rest on it (Sentences), so that a wrong test is refused here.
-- Assumes nothing.
use Prim.Native.Nat.{◌≤◌}
use mathlib.Core.Bool.{true}
use mathlib.Core.Path.{◌≡◌}
use Rattle.logic.proofs.Tests.{both}
use Rattle.ranges.specs.Ranges.{number_in_range, between}
use Rattle.ranges.proofs.Ranges.{between_exactly}
use Rattle.ranges.proofs.Sentences.{request_number}
use Rattle.calls.specs.declared.Extension.{Extension}
use Rattle.train.specs.declared.Settings.{Settings}
use Rattle.acts.specs.Acts.{request_in_range}

-- "request number 1 to 4,294,967,295", "a length of 1 to the line end"
pub record WellFormed (σ : Settings) (q : Extension) : Type 0 where
  pub number_least : 1 ≤ q.number
  pub number_most : q.number ≤ 4294967295
  pub length_least : 1 ≤ q.length
  pub length_most : q.length ≤ σ.end

pub well_formed : (σ : Settings) (q : Extension) → request_in_range σ q ≡ true → WellFormed σ q
unfolding request_in_range
well_formed σ q e =
    let tests = both (number_in_range q.number) (between 1 σ.end q.length) e in
    let number = (request_number q.number).0 tests.0 in
    let length = (between_exactly 1 σ.end q.length).0 tests.1 in
    record { number_least = number.0; number_most = number.1; length_least = length.0; length_most = length.1 }

pub ranged : (σ : Settings) (q : Extension) → WellFormed σ q → request_in_range σ q ≡ true
unfolding request_in_range
ranged σ q a =
    rw ((request_number q.number).1 (a.number_least, a.number_most), (between_exactly 1 σ.end q.length).1 (a.length_least, a.length_most))
