-- Document 02, (iii): who may call what. The right is judged by the caller's number, the kind of call and the id that it names, and by
-- nothing else.
use Rattle.std.specs.Prelude.{ℕ, Bool, ◌&&◌, eqb}
use Rattle.ranges.specs.Ranges.{id_in_range}
use Rattle.calls.specs.declared.Act.TheVariants.{Report, Extend, CallBack, Hold, Lift}
use Rattle.calls.specs.declared.Call.TheVariants.{Enter, Own, TakeOff}
use Rattle.calls.specs.declared.Ask.{Ask}
use Rattle.calls.specs.declared.Ask.TheVariants.{Open, OnTable}

abbrev pub dispatcher : ℕ
dispatcher = 0

abbrev pub yard : ℕ
yard = 70000

-- the train of this id, for itself
abbrev pub is_train : ℕ → ℕ → Bool
is_train id caller = id_in_range caller && eqb caller id

-- Whether the caller with this number has the right: a train reports and extends, for itself only; the dispatcher opens, calls back, holds
-- and lifts; the yard enters and takes off. A number that is nobody's has no right.
unfoldable pub may_ask : ℕ → Ask → Bool
may_ask n (Open o) = eqb n dispatcher
may_ask n (OnTable (Enter e)) = eqb n yard
may_ask n (OnTable (Own id (Report r))) = is_train id n
may_ask n (OnTable (Own id (Extend q))) = is_train id n
may_ask n (OnTable (Own id (CallBack p))) = eqb n dispatcher
may_ask n (OnTable (Own id Hold)) = eqb n dispatcher
may_ask n (OnTable (Own id Lift)) = eqb n dispatcher
may_ask n (OnTable (TakeOff id)) = eqb n yard
