-- Demand 3: after every list of deeds on the table that an accepted opening made, the claim holds and the table agrees with it.
-- Assumes nothing.
use Rattle.std.specs.Prelude.{Option, None, Some, option_map, Ok}
use Prim.Native.Nat.{ℕ, zero, suc, ◌≤◌}
use mathlib.Core.List.{List, [], ◌∷◌}
use mathlib.Core.Path.{◌≡◌, refl, subst}
use native.Mathlib.Omega.{arith}
use Rattle.motion.proofs.Slowing.{slowed_stands}
use Rattle.calls.specs.declared.Opening.{Opening}
use Rattle.train.specs.declared.Settings.{Settings}
use Rattle.train.specs.Ranges.{WorksWith}
use Rattle.train.specs.Track.{limit_behind}
use Rattle.train.proofs.Track.{InLimit, limit_first, in_behind}
use Rattle.table.specs.declared.Table.{Table}
use Rattle.calls.specs.declared.Values.TheVariants.{Zeros}
use Rattle.line.specs.Step.{outcome, open_step}
use Rattle.safety.specs.History.{Deed, history, Told, told, rear_of}
use Rattle.safety.specs.Claim.{counted_reports, Stands, Alone, Separate, Clear, Safe, Claim, record_of, Demand3}
use Rattle.safety.proofs.Train.{guarded_head}
use Rattle.safety.proofs.Acts.{Slowing, Steady}
use Rattle.safety.proofs.Line.{Lined, first_limit, behind}
use Rattle.safety.proofs.Tables.{agrees_count}
use Rattle.safety.proofs.Calls.{agrees}

rear_head : (x : Told) → rear_of x ≤ x.now.last.head
unfolding rear_of
rear_head x = omega arith

-- a table whose settings have the numbers that o opened
module _ (o : Opening) (σ : Settings) (works : WorksWith o σ) where
  module _ (limit : Option ℕ) (x : Told) (t : Steady σ limit x) where
    head_end : x.now.last.head ≤ x.now.authority.end
    unfolding record_of
    head_end = guarded_head σ limit (record_of x) t.guarded

    -- held, or braked while moving
    slowing_stands : (c : Option ℕ) → Slowing σ (record_of x) c → (n : ℕ) → c ≡ Some n → counted_reports o x ≤ n → Stands x
    unfolding record_of
    slowing_stands c slow zero e enough = absurd (omega arith)
    slowing_stands c slow (suc n) e enough =
        let slowing = subst (Slowing σ (record_of x)) e slow in
        slowed_stands x.figures o.ceiling n (record_of x).motion t.guarded.figures (omega arith) (rw works.ceiling at slowing.1)

    alone : Alone o x
    unfolding record_of
    alone =
        record {
          consist = t.consist;
          rear_on_line = t.guarded.rear_on_line;
          head_within_end = head_end;
          held_stands = slowing_stands _ t.held_slows;
          braked_stands = slowing_stands _ t.braked_slows;
        }

    -- the first train, and one behind another
    end_first : limit ≡ first_limit σ → Separate o None x
    unfolding record_of
    end_first e = rw (e, limit_first σ, works.end) at t.guarded.end_in_limit

    end_behind : (a : Told) → limit ≡ behind σ a → Separate o (Some a) x
    unfolding record_of rear_of
    end_behind a e =
        let limited : InLimit (behind σ a) x.now.authority.end = subst (λ (l : Option ℕ). InLimit l x.now.authority.end) e t.guarded.end_in_limit in
        let sum = in_behind σ (record_of a) x.now.authority.end limited in
        let safety = works.safety in
        omega arith

  -- those behind a have their heads at or before the rear of p, if a has its rear there
  clear : (p a : Told) (xs : List Told) → rear_of a ≤ rear_of p → Lined σ (behind σ a) xs → Clear p xs
  clear p a [] h l = tt
  clear p a (x ∷ xs) h l =
      let apart = end_behind _ x l.0 a refl in
      let head = head_end _ x l.0 in
      let rear = rear_head x in
      (omega arith, clear p x xs (omega arith) l.2)

  -- the limit is the one behind `ahead`
  safe : (ahead : Option Told) (limit : Option ℕ) (xs : List Told) → limit ≡ limit_behind σ (option_map record_of ahead) → Lined σ limit xs → Safe o ahead xs
  safe ahead limit [] e l = tt
  safe ahead limit (x ∷ xs) e l =
      (alone limit x l.0, separate ahead e, clear x x xs (omega arith) l.2, safe (Some x) _ xs refl l.2)
    where
      separate : (ahead : Option Told) → limit ≡ limit_behind σ (option_map record_of ahead) → Separate o ahead x
      separate None e = end_first limit x l.0 e
      separate (Some a) e = end_behind limit x l.0 a e

-- for every accepted opening and every list of deeds on the table that it made, by any callers
pub demand_3 : (o : Opening) (t : Table) → open_step o ≡ outcome (Ok Zeros) t → (ds : List Deed) → Demand3 o t ds
unfolding Claim
demand_3 o t opened ds =
    let A = agrees o t opened ds in
    let l = told o (history t ds) in
    record {
      claim = safe o _ A.settings None _ l.trains refl A.lined;
      line = A.opening;
      settings = A.settings;
      count = agrees_count o l _ A;
      trains = A.trains;
    }
