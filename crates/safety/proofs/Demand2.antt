-- Demand 2, a law to a sentence: in its words and order, of every table that a list of calls left on an opened line, in numbers and in the
-- fields of records. What each law cites is said of one train in acts/proofs/Sentences, train/proofs/Sentences and Pending, of motion and caps in
-- motion/proofs/Sentences and OrderSentences, of figures in brake/proofs/Sentences. Entering and taking off, which ask no list, are in line/proofs/Rules.
-- `step` is what a call comes to by a caller with the right (line/proofs/Rights: call_rightful).
-- Assumes nothing.
use Rattle.std.specs.Prelude.{Some, Ok, Err}
use Prim.Native.Nat.{ℕ, suc, ◌+◌, ◌*◌, ◌≤◌, ◌<◌}
use mathlib.Core.Bool.{Bool, true, false}
use mathlib.Core.List.{List, ◌∷◌, ◌++◌}
use mathlib.Core.Logic.{by_cases, ◌⊎◌, inl, inr, ◌↔◌}
use mathlib.Core.Path.{◌≡◌, refl, sym, ap, ◌∙◌}
use native.Mathlib.Decide.{dec_lt}
use native.Mathlib.Omega.{arith}
use lib.ListN.{length}
use Rattle.logic.proofs.Tests.{by_test}
use Rattle.brake.specs.Consist.{Sound}
use Rattle.brake.proofs.Sentences.{Described}
use Rattle.motion.specs.declared.Motion.{Motion}
use Rattle.motion.specs.declared.Order.{Order}
use Rattle.motion.specs.declared.Order.TheVariants.{Drive, Brake}
use Rattle.motion.specs.Motion.{stands, stopping_distance}
use Rattle.motion.specs.Orders.{reach}
use Rattle.motion.proofs.OrderSentences.{GreatestCap, standing_at_end}
use Rattle.calls.specs.declared.Opening.{Opening}
use Rattle.calls.specs.declared.Reading.{Reading}
use Rattle.calls.specs.declared.Extension.{Extension}
use Rattle.calls.specs.declared.Act.TheVariants.{Report, Extend, CallBack, Hold, Lift}
use Rattle.calls.specs.declared.Call.TheVariants.{Own}
use Rattle.calls.specs.declared.Refusal.TheVariants.{NotAllowed, BadRequest, OldNumber, OtherLength, NoTrack, BadPlace, Pending}
use Rattle.calls.specs.declared.Values.TheVariants.{Ordered, Extended, Zeros}
use Rattle.train.specs.declared.Authority.{Authority}
use Rattle.train.specs.declared.Train.{Train}
use Rattle.train.specs.Record.{same}
use Rattle.train.specs.Report.{order_after, is_penalty, settled}
use Rattle.train.proofs.Track.{InLimit}
use Rattle.train.specs.Ranges.{WorksWith}
use Rattle.train.proofs.Records.{free_order}
use Rattle.train.proofs.Usual.{as_usual}
use Rattle.train.proofs.Sentences.{Allows, report_exactly, level_found, penalty_order, held_order, free_drives, free_brakes, mark_exactly}
use Rattle.acts.proofs.Forms.{WellFormed}
use Rattle.acts.proofs.Sentences.{report_9, report_answered, extension_10, extension_11, extension_12, extension_repeated, extension_17, extension_13, extension_taken, call_back_moves, call_back_pends, call_back_14, hold_marks, lift_unmarks}
use Rattle.table.specs.declared.Table.{Table}
use Rattle.table.specs.declared.Change.TheVariants.{Put}
use Rattle.table.specs.Table.{place_of, train_at, limit_at, changed}
use Rattle.table.proofs.Places.{found_below, put_same}
use Rattle.table.proofs.Sentences.{limit_in_front, limit_further_back}
use Rattle.line.specs.Step.{outcome, open_step}
use Rattle.line.proofs.Steps.{step}
use Rattle.line.proofs.Rules.{own_step}
use Rattle.safety.specs.History.{Deed, history, after, Told, told}
use Rattle.safety.proofs.Plain.{demand_3_plainly}
use Rattle.safety.proofs.Calls.{agrees}
use Rattle.safety.proofs.Bounds.{tells, always_computable, report_judged}

module _ (o : Opening) (t : Table) (opened : open_step o ≡ outcome (Ok Zeros) t) (ds : List Deed) where
  abbrev now : Table
  now = after t ds

  -- the table works with the numbers that were opened
  pub works_with : WorksWith o now.settings
  works_with = (agrees o t opened ds).settings

  -- "at most 32 trains"
  pub at_most_32 : now.count ≤ 32
  at_most_32 = (agrees o t opened ds).sized.count

  -- ---- "Brake force, application time ... equal the definitions"

  -- of each train that the calls tell of: it is kept with the length that it entered with, and with the figures of that length and of the load
  -- class that it entered with
  pub figures : (ahead : List Told) (y : Told) (others : List Told) → (told o (history t ds)).trains ≡ ahead ++ (y ∷ others)
      → let x = train_at now (length ahead) in (x.length ≡ y.entry.length) × Described y.entry.load y.entry.length x.figures
  figures ahead y others e =
      let (claimed, tabled) = demand_3_plainly o t opened ds in
      rw (tabled.trains ahead y others e) (refl, claimed.consists ahead y others e)

  -- ---- a train on the line

  module _ (id i : ℕ) (found : place_of now id ≡ Some i) where
    abbrev x : Train
    x = train_at now i

    below : i < now.count
    below = found_below now id i found

    sound : Sound x.figures
    sound = let p = tells o t opened ds i below in rw p.here p.steady.guarded.figures

    -- ---- "order, reach"

    module _ (r : Reading) where
      -- neither backward nor worse than the order allows
      abbrev Allowed : Type 0
      Allowed = Allows x.figures x.motion x.order r

      -- 9
      pub report_refused : (Allowed → ⊥) → step now (Own id (Report r)) ≡ outcome (Err NotAllowed) now
      report_refused worse = own_step now id i found (Report r) _ (report_9 now.settings (limit_at now i) x r worse)

      -- "a brake order starts at the level found after the last cycle"
      abbrev m : Motion
      m = record { head = r.head; speed = r.speed; level = level_found x.figures x.motion x.order }

      abbrev given : Order
      given = order_after now.settings x m

      -- what becomes of a pending call back, after the order (train/proofs/Pending: settled_none, settled_there, settled_past, settled_waits)
      abbrev then : Authority
      then = settled x.authority (stands x.figures m.speed m.level) m.head (reach x.figures m given)

      -- the answer is the order and its reach; the record has what was reported, that order, and the mark of a penalty brake that they make
      pub report_accepted : Allowed
          → step now (Own id (Report r))
          ≡ outcome (Ok (Ordered given (reach x.figures m given))) (changed now (Put i (same x m given then (record { held = x.marks.held; penalty = is_penalty x.figures m given }))))
      report_accepted so =
          own_step now id i found (Report r) _
          (report_answered now.settings (limit_at now i) x r (report_judged o t opened ds i below r ∙ (report_exactly x r).1 so))

      -- brake to a moving train, and nothing else, marks it
      pub penalty_marked : (is_penalty x.figures m given ≡ true) ↔ ((given ≡ Brake) × (0 < r.speed))
      penalty_marked = mark_exactly x m given

      -- "Traction offered is the greatest, within the engine's limit and the speed ceiling, after which the air brake, starting from
      -- nothing, still stops the train at or before its end."
      -- It holds of a train that is not held and, with document 02, (ii), "for unmarked trains", or at "one with speed 0". With (vi) "the wanted
      -- place ... stands for the end in demand 2's rules": it is the end where no call back is pending (Pending: goal_within_end).
      abbrev Unmarked : Type 0
      Unmarked = (x.marks.penalty ≡ false) ⊎ (r.speed ≡ 0)

      pub traction_offered : x.marks.held ≡ false → Unmarked → (c : ℕ)
          → (given ≡ Drive c) ↔ GreatestCap x.figures now.settings.maxima x.authority.goal m c
      traction_offered free unmarked c = free_drives now.settings x m free unmarked c

      -- "a marked train gets brake", as long as it moves
      abbrev Marked : Type 0
      Marked = (x.marks.penalty ≡ true) × (0 < r.speed)

      pub penalty_repeated : Marked → given ≡ Brake
      penalty_repeated (marked, moving) = penalty_order now.settings x m marked moving

      -- one of the three
      which : (x.marks.held ≡ true) ⊎ (Marked ⊎ ((x.marks.held ≡ false) × Unmarked))
      which =
          by_test x.marks.held
          (λ held. inl held)
          (λ free. inr (by_test x.marks.penalty
          (λ marked. by_cases (dec_lt 0 r.speed) (λ moving. inl (marked, moving)) (λ standing. inr (free, inr (omega arith))))
          (λ unmarked. inr (free, inl unmarked))))

      -- "At a report, brake is ordered exactly when the train is held or no traction, not even zero, would do"; or when it is marked and moves
      abbrev NoneWouldDo : Type 0
      NoneWouldDo = (now.settings.maxima.ceiling < r.speed) ⊎ (x.authority.goal < r.head + 2 * r.speed + stopping_distance x.figures r.speed 0)

      pub brake_ordered : (given ≡ Brake) ↔ ((x.marks.held ≡ true) ⊎ (Marked ⊎ NoneWouldDo))
      brake_ordered = (only, exactly)
        where
          only : given ≡ Brake → (x.marks.held ≡ true) ⊎ (Marked ⊎ NoneWouldDo)
          only e = go which
            where
              go : (x.marks.held ≡ true) ⊎ (Marked ⊎ ((x.marks.held ≡ false) × Unmarked)) → (x.marks.held ≡ true) ⊎ (Marked ⊎ NoneWouldDo)
              go (inl held) = inl held
              go (inr (inl marked)) = inr (inl marked)
              go (inr (inr (free, unmarked))) = inr (inr ((free_brakes now.settings x m free unmarked sound).0 e))

          exactly : (x.marks.held ≡ true) ⊎ (Marked ⊎ NoneWouldDo) → given ≡ Brake
          exactly (inl held) = held_order now.settings x m held
          exactly (inr (inl marked)) = penalty_repeated marked
          exactly (inr (inr None)) = go which
            where
              go : (x.marks.held ≡ true) ⊎ (Marked ⊎ ((x.marks.held ≡ false) × Unmarked)) → given ≡ Brake
              go (inl held) = held_order now.settings x m held
              go (inr (inl marked)) = penalty_repeated marked
              go (inr (inr (free, unmarked))) = (free_brakes now.settings x m free unmarked sound).1 None

      -- "A standing train at its end gets drive with cap 0."
      pub standing_drives : x.marks.held ≡ false → r.speed ≡ 0 → x.authority.goal ≡ r.head → given ≡ Drive 0
      standing_drives free standing here =
          free_order now.settings x m (as_usual now.settings x m free (inr standing))
          ∙ standing_at_end x.figures now.settings.maxima x.authority.goal m standing here

    -- ---- "authority"

    module _ (q : Extension) where
      -- 10
      pub extend_10 : (WellFormed now.settings q → ⊥) → step now (Own id (Extend q)) ≡ outcome (Err BadRequest) now
      extend_10 out = own_step now id i found (Extend q) _ (extension_10 now.settings (limit_at now i) x q out)

      module _ (a : WellFormed now.settings q) where
        -- 11
        pub extend_11 : (q.number ≤ x.authority.start) ⊎ (q.number < x.authority.number) → step now (Own id (Extend q)) ≡ outcome (Err OldNumber) now
        extend_11 old = own_step now id i found (Extend q) _ (extension_11 now.settings (limit_at now i) x q a old)

        module _ (above : x.authority.start < q.number) where
          -- 12
          pub extend_12 : q.number ≡ x.authority.number → (q.length ≡ x.authority.length → ⊥) → step now (Own id (Extend q)) ≡ outcome (Err OtherLength) now
          extend_12 last other = own_step now id i found (Extend q) _ (extension_12 now.settings (limit_at now i) x q a above last other)

          -- the repeat; of one accepted longer ago, and after which calls, is said in Repeats
          pub extend_again : q.number ≡ x.authority.number → q.length ≡ x.authority.length
              → step now (Own id (Extend q)) ≡ outcome (Ok (Extended x.authority.end true)) now
          extend_again last length =
              own_step now id i found (Extend q) _ (extension_repeated now.settings (limit_at now i) x q a above last length)
              ∙ ap (outcome (Ok (Extended x.authority.end true))) (put_same now i x refl)

          module _ (new : x.authority.number < q.number) where
            -- 17, "as an exception to the track rule": whether the track is there or not
            pub extend_17 : (x.authority.goal ≡ x.authority.end → ⊥) → step now (Own id (Extend q)) ≡ outcome (Err Pending) now
            extend_17 pending = own_step now id i found (Extend q) _ (extension_17 now.settings (limit_at now i) x q a above new pending)

            -- "A new, well-formed request by a train on the line is refused exactly when the track is not there": 13, or end + length
            module _ (free : x.authority.goal ≡ x.authority.end) where
              pub extend_13 : (InLimit (limit_at now i) (x.authority.end + q.length) → ⊥) → step now (Own id (Extend q)) ≡ outcome (Err NoTrack) now
              extend_13 beyond = own_step now id i found (Extend q) _ (extension_13 now.settings (limit_at now i) x q a above new free beyond)

              pub extend_accepted : InLimit (limit_at now i) (x.authority.end + q.length)
                  → let longer : Authority =
                  record { end = x.authority.end + q.length; goal = x.authority.end + q.length; start = x.authority.start; number = q.number; length = q.length } in
                  step now (Own id (Extend q))
                  ≡ outcome (Ok (Extended (x.authority.end + q.length) false)) (changed now (Put i (same x x.motion x.order longer x.marks)))
              extend_accepted within = own_step now id i found (Extend q) _ (extension_taken now.settings (limit_at now i) x q a above new free within)

    -- 14, "a place behind the head or beyond the end"
    pub call_back_refused : (place : ℕ) → (place < x.motion.head) ⊎ (x.authority.end < place)
        → step now (Own id (CallBack place)) ≡ outcome (Err BadPlace) now
    call_back_refused place out = own_step now id i found (CallBack place) _ (call_back_14 now.settings (limit_at now i) x place out)

    -- "the end becomes a named place from reach to end, both included"
    pub call_back_accepted : (place : ℕ) → reach x.figures x.motion x.order ≤ place → place ≤ x.authority.end
        → let nearer : Authority = record { end = place; goal = place; start = x.authority.start; number = x.authority.number; length = x.authority.length } in
        step now (Own id (CallBack place)) ≡ outcome (Ok Zeros) (changed now (Put i (same x x.motion x.order nearer x.marks)))
    call_back_accepted place low high =
        own_step now id i found (CallBack place) _ (call_back_moves now.settings (limit_at now i) x place (always_computable o t opened ds i below) low high)

    -- "from the train's head up to just short of its reach": pending
    pub call_back_pending : (place : ℕ) → x.motion.head ≤ place → place < reach x.figures x.motion x.order → place ≤ x.authority.end
        → let waiting : Authority = record { end = x.authority.end; goal = place; start = x.authority.start; number = x.authority.number; length = x.authority.length } in
        step now (Own id (CallBack place)) ≡ outcome (Ok Zeros) (changed now (Put i (same x x.motion x.order waiting x.marks)))
    call_back_pending place low short high =
        own_step now id i found (CallBack place) _ (call_back_pends now.settings (limit_at now i) x place (always_computable o t opened ds i below) low short high)

    -- hold and lift are taken always, and change their mark alone: "Lifting a hold does not shorten" a penalty brake
    pub hold_accepted : step now (Own id Hold) ≡ outcome (Ok Zeros) (changed now (Put i (same x x.motion x.order x.authority (record { held = true; penalty = x.marks.penalty }))))
    hold_accepted = own_step now id i found Hold _ (hold_marks now.settings (limit_at now i) x)

    pub lift_accepted : step now (Own id Lift) ≡ outcome (Ok Zeros) (changed now (Put i (same x x.motion x.order x.authority (record { held = false; penalty = x.marks.penalty }))))
    lift_accepted = own_step now id i found Lift _ (lift_unmarks now.settings (limit_at now i) x)

    -- "Both may be repeated without effect."
    mark_stays : (b : Bool) → x.marks.held ≡ b → changed now (Put i (same x x.motion x.order x.authority (record { held = b; penalty = x.marks.penalty }))) ≡ now
    mark_stays b already = put_same now i _ (ap (λ (c : Bool). same x x.motion x.order x.authority (record { held = c; penalty = x.marks.penalty })) (sym already))

    pub hold_again : x.marks.held ≡ true → step now (Own id Hold) ≡ outcome (Ok Zeros) now
    hold_again held = hold_accepted ∙ ap (outcome (Ok Zeros)) (mark_stays true held)

    pub lift_again : x.marks.held ≡ false → step now (Own id Lift) ≡ outcome (Ok Zeros) now
    lift_again free = lift_accepted ∙ ap (outcome (Ok Zeros)) (mark_stays false free)

  -- ---- the track that is there

  -- the line end as opened, or the safety distance as opened behind the rear of the train ahead
  pub track_first : (place : ℕ) → InLimit (limit_at now 0) place ↔ (place ≤ o.end)
  track_first place = rw (← works_with.end) (limit_in_front now place)

  pub track_behind : (j place : ℕ) → InLimit (limit_at now (suc j)) place ↔ (place + o.safety + 6096000 * (train_at now j).length ≤ (train_at now j).motion.head)
  track_behind j place = rw (← works_with.safety) (limit_further_back now j place)
