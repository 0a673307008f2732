-- Demand 3, said a second time: what the claim comes to for the trains that a history tells of, in numbers and fields alone; and what each
-- accepted act tells of its train. A claim that is weaker, or words that tell less, are refused here for every number.
-- Assumes nothing.
use Rattle.std.specs.Prelude.{Option, None, Some, is_some, Ok}
use Prim.Native.Nat.{ℕ, ◌+◌, ◌*◌, ◌≤◌, ◌<◌}
use mathlib.Core.List.{List, [], ◌∷◌, ◌++◌, map}
use mathlib.Core.Path.{◌≡◌, refl, subst, ap, ◌∙◌}
use native.Mathlib.Numerals.{add-one}
use native.Mathlib.Omega.{arith}
use lib.Dec.{eqb}
use lib.ListN.{length, get_or, length-append}
use borrow.Author.Tests.{eq-eqb, ne_eqb, eqb-true}
use Rattle.logic.proofs.Tests.{by_test}
use Rattle.logic.proofs.Rounding.{RoundedUp}
use Rattle.brake.specs.declared.Figures.{Figures}
use Rattle.brake.specs.Consist.{Sound}
use Rattle.brake.proofs.Consist.{given_sound}
use Rattle.brake.proofs.Sentences.{Described, figures_exactly}
use Rattle.motion.specs.Motion.{stands}
use Rattle.motion.proofs.OrderSentences.{cycles_counted}
use Rattle.calls.specs.declared.Opening.{Opening}
use Rattle.calls.specs.declared.Entry.{Entry}
use Rattle.calls.specs.declared.Reading.{Reading}
use Rattle.calls.specs.declared.Extension.{Extension}
use Rattle.calls.specs.declared.Act.TheVariants.{Report, Extend, CallBack, Hold, Lift}
use Rattle.calls.specs.declared.Numbers.{Numbers}
use Rattle.calls.specs.declared.Values.TheVariants.{Zeros}
use Rattle.train.specs.declared.Train.{Train}
use Rattle.train.specs.Track.{steps_of}
use Rattle.table.specs.declared.Table.{Table}
use Rattle.table.specs.Table.{blank_train, train_at}
use Rattle.table.proofs.Trains.{train_on_line}
use Rattle.line.specs.Step.{outcome, open_step}
use Rattle.safety.specs.History.{Deed, history, after, State, Told, told_entering, told_act, told, rear_of}
use Rattle.safety.specs.Claim.{counted_reports, Stands, Alone, Clear, Safe, Claim, record_of, Demand3}
use Rattle.safety.proofs.Demand3.{demand_3}

-- ---- the count

-- "1 + B/j + V/B ..., both quotients rounded up": for every opening and every train
pub count_exactly : (o : Opening) (x : Told) (n m : ℕ) → Sound x.figures → RoundedUp n x.figures.full x.figures.growth → RoundedUp m o.ceiling x.figures.full
    → counted_reports o x ≡ 1 + n + m
count_exactly o x n m sound growing slowing = let cycles = cycles_counted x.figures o.ceiling n m sound growing slowing in omega arith

-- ---- the claim

-- of the trains xs on the line that o opened, front train first: `ahead` are those ahead of a train, and `others` those behind it
pub record Plainly (o : Opening) (xs : List Told) : Type 0 where
  -- "Brake force, application time ... equal the definitions": for the load class and the length that were entered
  pub consists : (ahead : List Told) (x : Told) (others : List Told) → xs ≡ ahead ++ (x ∷ others) → Described x.entry.load x.entry.length x.figures
  -- "The head must be at least the length", on entering and from then on
  pub rears : (ahead : List Told) (x : Told) (others : List Told) → xs ≡ ahead ++ (x ∷ others) → 6096000 * x.entry.length ≤ x.now.last.head
  -- "every head on the line is at or before its end of authority"
  pub heads : (ahead : List Told) (x : Told) (others : List Told) → xs ≡ ahead ++ (x ∷ others) → x.now.last.head ≤ x.now.authority.end
  -- "every end lies at least the safety distance behind the rear ahead"; "A train's rear is its head minus its length"; "1 ft is 6,096,000"
  pub ends : (ahead : List Told) (a x : Told) (others : List Told) → xs ≡ ahead ++ (a ∷ x ∷ others)
      → x.now.authority.end + o.safety + 6096000 * a.entry.length ≤ a.now.last.head
  -- "for the first train it is the line end"
  pub first_end : (x : Told) (others : List Told) → xs ≡ x ∷ others → x.now.authority.end ≤ o.end
  -- "no two trains overlap"
  pub apart : (ahead : List Told) (a : Told) (between : List Told) (x : Told) (others : List Told) → xs ≡ ahead ++ (a ∷ (between ++ (x ∷ others)))
      → x.now.last.head + 6096000 * a.entry.length ≤ a.now.last.head
  -- "a train held ... stands once it has had as many accepted reports since the hold as document 01 counts"
  pub held : (ahead : List Told) (x : Told) (others : List Told) → xs ≡ ahead ++ (x ∷ others) → (p q n : ℕ) → RoundedUp p x.figures.full x.figures.growth
      → RoundedUp q o.ceiling x.figures.full → x.now.counts.held ≡ Some n → 1 + p + q ≤ n → x.now.last.speed ≡ 0
  -- "any train braked while moving, held or not, now stands within the reports counted in document 01"
  pub braked : (ahead : List Told) (x : Told) (others : List Told) → xs ≡ ahead ++ (x ∷ others) → (p q n : ℕ) → RoundedUp p x.figures.full x.figures.growth
      → RoundedUp q o.ceiling x.figures.full → x.now.counts.braked ≡ Some n → 1 + p + q ≤ n → x.now.last.speed ≡ 0

module _ (o : Opening) where
  -- the claim's parts for the train x, whatever is ahead of it
  record At (x : Told) (others : List Told) : Type 0 where
    alone : Alone o x
    clear : Clear x others
    behind : Safe o (Some x) others

  at : (before : Option Told) (ahead : List Told) (x : Told) (others : List Told) → Safe o before (ahead ++ (x ∷ others)) → At x others
  at before [] x others safe = record { alone = safe.0; clear = safe.2; behind = safe.3 }
  at before (a ∷ ahead) x others safe = at (Some a) ahead x others safe.3

  clear_at : (a : Told) (between : List Told) (x : Told) (others : List Told) → Clear a (between ++ (x ∷ others)) → x.now.last.head ≤ rear_of a
  clear_at a [] x others clear = clear.0
  clear_at a (b ∷ between) x others clear = clear_at a between x others clear.1

  standing : (x : Told) → Alone o x → (p q n : ℕ) → RoundedUp p x.figures.full x.figures.growth → RoundedUp q o.ceiling x.figures.full
      → (counted_reports o x ≤ n → Stands x) → 1 + p + q ≤ n → x.now.last.speed ≡ 0
  unfolding stands
  standing x alone p q n growing slowing stands-then enough =
      let count = count_exactly o x p q (given_sound _ _ x.figures alone.consist) growing slowing in
      eqb-true _ _ (stands-then (omega arith))

  plainly : (xs : List Told) → Safe o None xs → Plainly o xs
  unfolding rear_of steps_of
  plainly xs safe =
      record {
        consists = λ ahead x others e. (figures_exactly _ _ _).0 (there ahead x others e).alone.consist;
        rears = λ ahead x others e. (there ahead x others e).alone.rear_on_line;
        heads = λ ahead x others e. (there ahead x others e).alone.head_within_end;
        ends =
            λ ahead a x others e.
            let first = there ahead a (x ∷ others) e in
            let rear = first.alone.rear_on_line in
            let apart = first.behind.1 in
            omega arith;
        first_end = λ x others e. (subst (Safe o None) e safe).1;
        apart =
            λ ahead a between x others e.
            let first = there ahead a (between ++ (x ∷ others)) e in
            let rear = first.alone.rear_on_line in
            let clear = clear_at a between x others first.clear in
            omega arith;
        held = λ ahead x others e p q n growing slowing counted. let alone = (there ahead x others e).alone in standing x alone p q n growing slowing (alone.held_stands n counted);
        braked = λ ahead x others e p q n growing slowing counted. let alone = (there ahead x others e).alone in standing x alone p q n growing slowing (alone.braked_stands n counted);
      }
    where
      there : (ahead : List Told) (x : Told) (others : List Told) → xs ≡ ahead ++ (x ∷ others) → At x others
      there ahead x others e = at None ahead x others (subst (Safe o None) e safe)

-- "the table after the list agrees with them": with the settings that o opened, and with a record for each of the trains xs
pub record TableOf (o : Opening) (xs : List Told) (t : Table) : Type 0 where
  pub end : t.settings.end ≡ o.end
  pub safety : t.settings.safety ≡ o.safety
  pub ceiling : t.settings.maxima.ceiling ≡ o.ceiling
  pub traction : t.settings.maxima.traction ≡ o.traction
  pub count : t.count ≡ length xs
  -- "Length is the entered one. Head and speed are those of its last accepted report"
  pub trains : (ahead : List Told) (x : Told) (others : List Told) → xs ≡ ahead ++ (x ∷ others)
      → train_at t (length ahead)
      ≡ record {
        id = x.entry.id;
        length = x.entry.length;
        figures = x.figures;
        motion = record { head = x.now.last.head; speed = x.now.last.speed; level = x.now.level };
        order = x.now.order;
        authority = x.now.authority;
        marks = record { held = is_some x.now.counts.held; penalty = is_some x.now.counts.braked };
      }

among : (ahead : List Told) (x : Told) (others : List Told) → get_or (map record_of (ahead ++ (x ∷ others))) (length ahead) blank_train ≡ record_of x
among [] x others = refl
among (a ∷ ahead) x others = among ahead x others

module _ (o : Opening) (t : Table) (ds : List Deed) (d : Demand3 o t ds) where
  abbrev xs : List Told
  xs = (told o (history t ds)).trains

  pub claimed : Plainly o xs
  unfolding Claim
  claimed = plainly o xs d.claim

  pub tabled : TableOf o xs (after t ds)
  unfolding record_of
  tabled =
      record {
        end = d.settings.end;
        safety = d.settings.safety;
        ceiling = d.settings.ceiling;
        traction = d.settings.traction;
        count = d.count;
        trains =
            λ ahead x others e.
            let below : length ahead < (after t ds).count = omega (arith, d.count ∙ ap length e, length-append ahead (x ∷ others)) in
            train_on_line (after t ds) (length ahead) below
            ∙ ap (λ (ys : List Train). get_or ys (length ahead) blank_train) (d.trains ∙ ap (map record_of) e)
            ∙ among ahead x others;
      }

-- after every list of deeds on the table that an accepted opening made
pub demand_3_plainly : (o : Opening) (t : Table) → open_step o ≡ outcome (Ok Zeros) t → (ds : List Deed)
    → let xs = (told o (history t ds)).trains in Plainly o xs × TableOf o xs (after t ds)
demand_3_plainly o t opened ds = let d = demand_3 o t opened ds in (claimed o t ds d, tabled o t ds d)

-- ---- what is counted

-- an entering train has no count
pub none_counted : (e : Entry) (n : Numbers) → (told_entering e n).now.counts ≡ record { held = None; braked = None }
none_counted e n = refl

module _ (k : Figures) (s : State) (n : Numbers) where
  -- "Its accepted reports are counted from the first such hold": each report counts one more, and no other hold begins anew
  pub held_begins : s.counts.held ≡ None → (told_act k s n Hold).counts.held ≡ Some 0
  unfolding told_act
  held_begins free = rw free

  pub held_again : (m : ℕ) → s.counts.held ≡ Some m → (told_act k s n Hold).counts.held ≡ Some m
  unfolding told_act
  held_again m held = rw held

  pub held_counts : (r : Reading) (m : ℕ) → s.counts.held ≡ Some m → (told_act k s n (Report r)).counts.held ≡ Some (m + 1)
  unfolding told_act
  held_counts r m held = rw (held, add-one m)

  -- "with no accepted lift of the train afterwards"
  pub held_lifted : (told_act k s n Lift).counts.held ≡ None
  unfolding told_act
  held_lifted = refl

  -- "any train braked while moving": the report "that ordered it being the first", and each after it counts, until one with speed 0
  pub braked_begins : (r : Reading) → 0 < r.speed → n.first ≡ 2 → s.counts.braked ≡ None → (told_act k s n (Report r)).counts.braked ≡ Some 1
  unfolding told_act stands
  braked_begins r moving brake none_yet = rw (ne_eqb r.speed 0 (λ e. omega arith), ne_eqb n.first 1 (λ e. omega arith), none_yet)

  pub braked_counts : (r : Reading) (m : ℕ) → 0 < r.speed → s.counts.braked ≡ Some m → (told_act k s n (Report r)).counts.braked ≡ Some (m + 1)
  unfolding told_act stands
  braked_counts r m moving braked =
      by_test (eqb n.first 1)
      (λ drive. rw (ne_eqb r.speed 0 (λ e. omega arith), drive, braked, add-one m))
      (λ brake. rw (ne_eqb r.speed 0 (λ e. omega arith), brake, braked, add-one m))

  pub braked_stood : (r : Reading) → r.speed ≡ 0 → (told_act k s n (Report r)).counts.braked ≡ None
  unfolding told_act stands
  braked_stood r standing = rw (eq-eqb r.speed 0 standing)

  -- a hold and a lift leave that count, and an extension and a call back both
  pub hold_keeps : ((told_act k s n Hold).counts.braked ≡ s.counts.braked) × ((told_act k s n Lift).counts.braked ≡ s.counts.braked)
  unfolding told_act
  hold_keeps = (refl, refl)

  pub track_keeps : (q : Extension) (place : ℕ) → ((told_act k s n (Extend q)).counts ≡ s.counts) × ((told_act k s n (CallBack place)).counts ≡ s.counts)
  unfolding told_act
  track_keeps q place = (refl, refl)
