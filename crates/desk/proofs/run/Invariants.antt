use Prim.Native.Nat.{◌≤◌}
use Rattle.stream.specs.Input.{kept_width}
use Rattle.desk.proofs.run.Given as goal

abbrev pub invariant-loop : goal.invariant-loop
invariant-loop l = l.x.count ≤ kept_width
