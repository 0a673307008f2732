-- `session::serve` meets its contract.
use Rattle.std.proofs.Common.{◌≡◌, ℕ, Bool, true, false, List, [], ◌++◌, Option, Some, None, IfSome, IsSome, refl, sym, ap, ◌∙◌}
use Rattle.stream.specs.declared.Stream.{Stream}
use Rattle.stream.specs.Session.{closed}
use Rattle.stream.specs.Input.{last_answer, begun}
use Rattle.stream.proofs.Pieces.{pieces_led, pieces_written}
use Rattle.session.specs.declared.Stop.{Stop}
use Rattle.session.specs.declared.Stop.TheVariants.{Ended, Full}
use Rattle.session.specs.Program.{TookIn, Whole, stop_after_last}
use Rattle.session.proofs.serve.Goals as goal

-- the turns from a start on, and where the input ended the last answer
whole : (x y : Stream) (read : ℕ) (how : Stop) (last : Option (List ℕ)) → x.session ≡ closed → begun x ≡ [] → TookIn x read y
    → IfSome last (λ l. l ≡ last_answer (begun y)) → (how ≡ Ended → IsSome last) → Whole read how last
whole x y read how last session begins took answer told =
    let led = pieces_led _ _ _ _ session begins took.turns in
    record {
      x = x;
      y = y;
      session = session;
      begins = begins;
      took = took;
      state = led;
      all = all last answer;
      told = told;
    }
  where
    all : (l : Option (List ℕ)) → IfSome l (λ a. a ≡ last_answer (begun y)) → IfSome l (λ a. took.answered ++ a ≡ Rattle.stream.specs.Input.output took.input)
    all None e = e
    all (Some a) e = ap (λ (b : List ℕ). took.answered ++ b) e ∙ pieces_written _ _ _ _ session begins took.turns

never_full : (w : Bool) → stop_after_last w ≡ Full → ⊥
never_full true e = cc
never_full false e = cc

pub returns-in_default : goal.returns-in_default
returns-in_default c =
    let x = c.start-x in
    (whole x.result c.run-read.new.x _ _ None x.ensures.0 x.ensures.1 c.run-read.ensures.0 tt (λ e. absurd (c.in_default.not-Ended e)), c.run-read.ensures.1)

pub returns : goal.returns
returns c =
    let x = c.start-x in (
      whole x.result c.run-read.new.x _ _ (Some _) x.ensures.0 x.ensures.1 c.run-read.ensures.0 c.close-last.ensures (λ e. refl),
      λ e. absurd (never_full c.close-last.result.written (sym c.after_last.ensures ∙ e)),
    )
