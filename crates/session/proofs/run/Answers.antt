-- `session::run` meets its contract.
use Rattle.std.proofs.Common.{◌≡◌, ℕ, zero, suc, ◌+◌, List, [], Option, Some, None, Bool, true, false, take, refl, sym, ap, ◌∙◌, arith, length-append, length-take-le}
use Rattle.std.specs.Option.{unwrap_or}
use Rattle.stream.specs.declared.Stream.{Stream}
use Rattle.stream.specs.Input.Turns.{no_turns, more}
use Rattle.session.specs.declared.Stop.TheVariants.{Full}
use Rattle.session.specs.Program.{TookIn, ReadOnce, next_after}
use Rattle.session.proofs.run.Goals as goal

-- one turn more
took_more : (x y z : Stream) (got : Option ℕ) (read n m : ℕ) (piece out : List ℕ) → TookIn x read y → ReadOnce y got m z piece out → n ≡ unwrap_or got 0
    → TookIn x (read + n) z
took_more x y z got read n m piece out t r e =
    record {
      input = _;
      answered = _;
      turns = more t.turns r.turn;
      count = omega (arith, e, t.count, length-append t.input (take (unwrap_or got 0) piece), length-take-le (unwrap_or got 0) piece r.within);
    }

-- no turn is followed by a stop that says that it is full
never_full : (got : Option ℕ) (w : Bool) → next_after got w ≡ Some Full → ⊥
never_full None w e = cc
never_full (Some zero) w e = cc
never_full (Some (suc n)) true e = cc
never_full (Some (suc n)) false e = cc

pub loop-read-init : goal.loop-read-init
loop-read-init c = record { input = []; answered = []; turns = no_turns; count = refl }

pub returns-in-Some : goal.returns-in-Some
returns-in-Some c = (
  took_more _ _ _ _ _ _ _ _ _ c.loop-read.invariant c.take_in-t.ensures c.unwrap_or-n.ensures,
  λ e. absurd (never_full c.take_in-t.result.read c.write_answers-written.result (sym c.in-Some.ensures ∙ ap Some e)),
)

pub loop-read-preserved : goal.loop-read-preserved
loop-read-preserved c = took_more _ _ _ _ _ _ _ _ _ c.loop-read.invariant c.take_in-t.ensures c.unwrap_or-n.ensures

pub returns : goal.returns
returns c = (c.loop-read.invariant, λ e. omega arith)
