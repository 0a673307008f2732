-- Document 02, (vi), said a second time of one train: what a pending call back is, and what each report makes of it, in places and in the
-- fields of the authority, where the definition tests and chooses. A wrong definition is refused here, whatever the code.
-- Assumes nothing.
use Prim.Native.Nat.{ℕ, ◌≤◌, ◌<◌}
use mathlib.Core.Bool.{Bool, true, false}
use mathlib.Core.Logic.{by_cases, ◌⊎◌, inl, inr, ◌↔◌}
use mathlib.Core.Path.{◌≡◌, refl, ap, subst}
use native.Mathlib.Decide.{ℕ_discrete, dec_le, dec_lt}
use native.Mathlib.Nat.{le_refl}
use native.Mathlib.Omega.{arith}
use borrow.Author.Tests.{eq-eqb, ne_eqb, le-leb, lt-leb, lt-ltb, le-ltb}
use Rattle.logic.proofs.Tests.{by_test, not_both}
use Rattle.brake.specs.Consist.{Sound}
use Rattle.motion.specs.declared.Motion.{Motion}
use Rattle.motion.specs.declared.Order.{Order}
use Rattle.motion.specs.declared.Order.TheVariants.{Drive, Brake}
use Rattle.motion.specs.Motion.{stands}
use Rattle.motion.specs.Orders.{reach}
use Rattle.motion.proofs.Domination.{head_reach, reach_stands}
use Rattle.motion.proofs.Orders.{MayOrder, ordered_cap, fits_keeps}
use Rattle.train.specs.declared.Settings.{Settings}
use Rattle.train.specs.declared.Authority.{Authority}
use Rattle.train.specs.declared.Train.{Train}
use Rattle.train.specs.Record.{wanting, is_pending}
use Rattle.train.specs.Report.{moves, order_after, settled, ordered}
use Rattle.train.proofs.Records.{may_order}
use Rattle.train.proofs.Moves.{moves_exactly}

-- a wanted place, and nothing else
pub place_wanted : (a : Authority) (place : ℕ) → wanting a place ≡ record { end = a.end; goal = place; start = a.start; number = a.number; length = a.length }
place_wanted a place = refl

-- a call back is pending where orders aim at another place than the end
pub pending_exactly : (a : Authority) → (is_pending a ≡ true) ↔ (a.goal ≡ a.end → ⊥)
unfolding is_pending
pending_exactly a = (λ e same. not_both e (rw (eq-eqb a.goal a.end same)), λ other. rw (ne_eqb a.goal a.end other))

none_pending : (a : Authority) → a.goal ≡ a.end → is_pending a ≡ false
unfolding is_pending
none_pending a same = rw (eq-eqb a.goal a.end same)

-- An authority to which an order with reach r was given: the reach and the wanted place are within the end, and a call back is pending only
-- where the reach is past the place that it wants.
pub record Aims (r : ℕ) (a : Authority) : Type 0 where
  pub reach : r ≤ a.end
  pub goal : a.goal ≤ a.end
  pub short : (a.goal ≡ a.end → ⊥) → a.goal < r

-- ---- after a report's order with reach r

module _ (a : Authority) (standing : Bool) (head r : ℕ) where
  -- where none is pending, no report touches the authority
  pub settled_none : a.goal ≡ a.end → settled a standing head r ≡ a
  unfolding settled
  settled_none same = rw (none_pending a same)

  module _ (pending : a.goal ≡ a.end → ⊥) where
    -- "At the first accepted report after whose order the reach is at or before that place, the end moves there."
    pub settled_there : r ≤ a.goal
        → settled a standing head r ≡ record { end = a.goal; goal = a.goal; start = a.start; number = a.number; length = a.length }
    unfolding settled
    settled_there near = rw ((pending_exactly a).1 pending, le-leb r a.goal near)

    module _ (far : a.goal < r) where
      -- "If at an accepted report before that the train stands with its head past that place, the end becomes the head and the call back is done."
      pub settled_past : standing ≡ true → a.goal < head
          → settled a standing head r ≡ record { end = head; goal = head; start = a.start; number = a.number; length = a.length }
      unfolding settled
      settled_past stood past = rw ((pending_exactly a).1 pending, lt-leb r a.goal far, stood, lt-ltb a.goal head past)

      -- until then it is pending, and the end stays
      pub settled_waits : (standing ≡ false) ⊎ (head ≤ a.goal) → settled a standing head r ≡ a
      unfolding settled
      settled_waits (inl moving) = rw ((pending_exactly a).1 pending, lt-leb r a.goal far, moving)
      settled_waits (inr short) =
          by_test standing
          (λ stood. rw ((pending_exactly a).1 pending, lt-leb r a.goal far, stood, le-ltb a.goal head short))
          (λ moving. rw ((pending_exactly a).1 pending, lt-leb r a.goal far, moving))

  -- which of them it is
  pub data Settles : Type 0 where
    none : a.goal ≡ a.end → Settles
    there : (a.goal ≡ a.end → ⊥) → r ≤ a.goal → Settles
    past : (a.goal ≡ a.end → ⊥) → a.goal < r → standing ≡ true → a.goal < head → Settles
    waits : (a.goal ≡ a.end → ⊥) → a.goal < r → (standing ≡ false) ⊎ (head ≤ a.goal) → Settles

  pub settles : Settles
  settles =
      by_cases (ℕ_discrete a.goal a.end)
      (λ same. none same)
      (λ pending. by_cases (dec_le r a.goal)
      (λ near. there pending near)
      (λ far. by_test standing
      (λ stood. by_cases (dec_lt a.goal head)
      (λ beyond. past pending (omega arith) stood beyond)
      (λ short. waits pending (omega arith) (inr (omega arith))))
      (λ moving. waits pending (omega arith) (inl moving))))

  -- the request numbers stay, whatever becomes of the end
  pub record SameNumbers (b : Authority) : Type 0 where
    pub start : b.start ≡ a.start
    pub number : b.number ≡ a.number
    pub length : b.length ≡ a.length

  pub settled_numbers : SameNumbers (settled a standing head r)
  settled_numbers = go settles
    where
      go : Settles → SameNumbers (settled a standing head r)
      go (none same) = rw (settled_none same) (record { start = refl; number = refl; length = refl })
      go (there pending near) = rw (settled_there pending near) (record { start = refl; number = refl; length = refl })
      go (past pending far stood beyond) = rw (settled_past pending far stood beyond) (record { start = refl; number = refl; length = refl })
      go (waits pending far still) = rw (settled_waits pending far still) (record { start = refl; number = refl; length = refl })

  -- Where the reach is within the end, and at the head of a train that stands past the wanted place: the end does not move forward.
  pub settled_aims : a.goal ≤ a.end → head ≤ r → r ≤ a.end → (standing ≡ true → a.goal < head → r ≤ head)
      → ((settled a standing head r).end ≤ a.end) × Aims r (settled a standing head r)
  settled_aims within ahead reached stopped = go settles
    where
      go : Settles → ((settled a standing head r).end ≤ a.end) × Aims r (settled a standing head r)
      go (none same) = rw (settled_none same) (le_refl _, record { reach = reached; goal = within; short = λ pending. absurd (pending same) })
      go (there pending near) =
          rw (settled_there pending near) (within, record { reach = near; goal = le_refl _; short = λ still. absurd (still refl) })
      go (past pending far stood beyond) =
          rw (settled_past pending far stood beyond)
          (omega arith, record { reach = stopped stood beyond; goal = le_refl _; short = λ still. absurd (still refl) })
      go (waits pending far still) = rw (settled_waits pending far still) (le_refl _, record { reach = reached; goal = within; short = λ p. far })

-- ---- a report

module _ (σ : Settings) (x : Train) (m : Motion) (sound : Sound x.figures) where
  abbrev given : Order
  given = order_after σ x m

  abbrev standing : Bool
  standing = stands x.figures m.speed m.level

  abbrev before : Authority
  before = x.authority

  abbrev then : Authority
  then = (ordered x m given).authority

  -- an order that reaches past the wanted place is brake: a cap would stop the train there
  past_brakes : before.goal < reach x.figures m given → given ≡ Brake
  past_brakes far = go given refl (may_order σ x m)
    where
      go : (o : Order) → given ≡ o → MayOrder x.figures σ.maxima before.goal m given → given ≡ Brake
      go (Drive c) e order =
          let cap = ordered_cap x.figures σ.maxima before.goal m c (subst (MayOrder x.figures σ.maxima before.goal m) e order) in
          let near = (fits_keeps x.figures σ.maxima before.goal m c cap.itself).1 in
          let same = ap (reach x.figures m) e in
          absurd (omega arith)
      go Brake e order = e

  -- so a train that stands past that place goes no further
  pub stopped_past : standing ≡ true → before.goal < m.head → reach x.figures m given ≤ m.head
  stopped_past stood beyond =
      let ahead = head_reach x.figures m given in
      let brakes = ap (reach x.figures m) (past_brakes (omega arith)) in
      let here = reach_stands x.figures m sound stood in
      omega arith

  -- pending after a report: it was answered with brake, and the train moves
  pub pending_brakes : (then.goal ≡ then.end → ⊥) → (given ≡ Brake) × (0 < m.speed)
  unfolding moves
  pending_brakes pending =
      let (brakes, moving) = go (settles before standing m.head (reach x.figures m given)) in
      (brakes, (moves_exactly x.figures m).0 (rw moving))
    where
      go : Settles before standing m.head (reach x.figures m given) → (given ≡ Brake) × (standing ≡ false)
      go (none same) = absurd (pending (rw (settled_none before standing m.head (reach x.figures m given) same) same))
      go (there still near) = absurd (pending (rw (settled_there before standing m.head (reach x.figures m given) still near) refl))
      go (past still far stood beyond) =
          absurd (pending (rw (settled_past before standing m.head (reach x.figures m given) still far stood beyond) refl))
      go (waits still far (inl moving)) = (past_brakes far, moving)
      go (waits still far (inr short)) = (
        past_brakes far,
        by_test standing
            (λ stood.
            let here = reach_stands x.figures m sound stood in
            let brakes = ap (reach x.figures m) (past_brakes far) in
            absurd (omega arith))
            (λ moving. moving),
      )
