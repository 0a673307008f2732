-- The invariant of the trains on a line, and what accepted calls make of it: an act, an entering and a taking off.
-- Assumes nothing.
use Rattle.std.specs.Prelude.{None, Some, Ok, Option}
use Prim.Native.Nat.{ℕ, zero, suc, ◌≤◌, ◌<◌}
use mathlib.Core.List.{List, [], ◌∷◌, ◌++◌, map}
use mathlib.Core.Path.{◌≡◌, refl, sym, ap, subst}
use native.Mathlib.Omega.{arith}
use lib.ListN.{length, get_or, set, drop}
use lib.Dec.{eqb}
use borrow.Author.Tests.{eq-eqb, ne_eqb}
use Rattle.logic.proofs.Tests.{by_test}
use Rattle.calls.specs.declared.Act.{Act}
use Rattle.calls.specs.declared.Numbers.{Numbers}
use Rattle.calls.specs.Answers.{numbers_of}
use Rattle.calls.specs.Checks.{first_of}
use Rattle.train.specs.declared.Settings.{Settings}
use Rattle.train.specs.declared.Train.{Train}
use Rattle.train.specs.Track.{steps_of, limit_behind}
use Rattle.acts.specs.Decide.{decide}
use Rattle.train.proofs.Track.{InLimit, limit_first, in_behind, behind_in}
use Rattle.table.specs.Table.{blank_train}
use Rattle.safety.specs.History.{Told, told_own, without}
use Rattle.safety.specs.Claim.{record_of}
use Rattle.safety.proofs.Train.{Guarded, guarded_head}
use Rattle.safety.proofs.Acts.{Steady, after_act, act_kept}
use Rattle.safety.proofs.Finding.{Absent, IsAt}

-- the limits of the first train and of the one behind x
abbrev pub first_limit : Settings → Option ℕ
first_limit σ = limit_behind σ None

abbrev pub behind : Settings → Told → Option ℕ
behind σ x = limit_behind σ (Some (record_of x))

-- all trains from one with this limit on; no two have one id
abbrev pub Lined : Settings → Option ℕ → List Told → Type 0
Lined σ limit [] = Unit {0}
Lined σ limit (x ∷ xs) = Steady σ limit x × Absent x.entry.id xs × Lined σ (behind σ x) xs

-- the limit at place i, where the first of them has this one
abbrev pub limit_in : Settings → Option ℕ → List Told → ℕ → Option ℕ
limit_in σ limit xs zero = limit
limit_in σ limit [] (suc i) = limit
limit_in σ limit (x ∷ xs) (suc i) = limit_in σ (behind σ x) xs i

-- the train at place i
pub record Placed (σ : Settings) (limit : Option ℕ) (xs : List Told) (i : ℕ) : Type 0 where
  pub train : Told
  pub here : get_or (map record_of xs) i blank_train ≡ record_of train
  pub steady : Steady σ (limit_in σ limit xs i) train

pub lined_at : (σ : Settings) (limit : Option ℕ) (xs : List Told) (i : ℕ) → Lined σ limit xs → i < length xs → Placed σ limit xs i
lined_at σ limit [] i l h = absurd (omega arith)
lined_at σ limit (x ∷ xs) zero l h = record { train = x; here = refl; steady = l.0 }
lined_at σ limit (x ∷ xs) (suc i) l h =
    let p = lined_at σ (behind σ x) xs i l.2 (omega arith) in
    record { train = p.train; here = p.here; steady = p.steady }

-- ---- another limit

-- whatever is within the limit a is within the limit b
abbrev pub Wider : Option ℕ → Option ℕ → Type 0
Wider a b = (place : ℕ) → InLimit a place → InLimit b place

lined_wider : (σ : Settings) (a b : Option ℕ) → Wider a b → (xs : List Told) → Lined σ a xs → Lined σ b xs
lined_wider σ a b wider [] l = tt
lined_wider σ a b wider (x ∷ xs) l =
    let g = l.0.guarded in
    let guarded : Guarded σ b (record_of x) =
    record {
      figures = g.figures;
      rear_on_line = g.rear_on_line;
      end_in_limit = wider _ g.end_in_limit;
      aims = g.aims;
      at_rest = g.at_rest;
      within = g.within;
    } in
    (record { consist = l.0.consist; guarded = guarded; held_slows = l.0.held_slows; braked_slows = l.0.braked_slows }, l.1, l.2)

-- behind a train that has not gone back
wider_head : (σ : Settings) (x y : Train) → y.length ≡ x.length → x.motion.head ≤ y.motion.head
    → Wider (limit_behind σ (Some x)) (limit_behind σ (Some y))
wider_head σ x y same h place limited = let steps = ap steps_of same in let sum = in_behind σ x place limited in behind_in σ y place (omega arith)

-- the line end, where the train ahead was not beyond it
pub wider_end : (σ : Settings) (limit : Option ℕ) (x : Train) → Guarded σ limit x → x.authority.end ≤ σ.end
    → Wider (limit_behind σ (Some x)) (first_limit σ)
wider_end σ limit x g end place limited =
    let head = guarded_head σ limit x g in
    let sum = in_behind σ x place limited in
    rw (limit_first σ) (omega arith)

-- ---- an act

module _ (σ : Settings) (id : ℕ) (a : Act) where
  -- no train with another id acts
  act_others : (n : Numbers) (xs : List Told) → Absent id xs → map (told_own id n a) xs ≡ xs
  act_others n [] absent = refl
  act_others n (x ∷ xs) absent = rw (ne_eqb x.entry.id id absent.0, act_others n xs absent.1)

  -- no id changes
  act_absent : (j : ℕ) (n : Numbers) (xs : List Told) → Absent j xs → Absent j (map (told_own id n a) xs)
  act_absent j n [] absent = tt
  act_absent j n (x ∷ xs) absent =
      by_test (eqb x.entry.id id)
      (λ e. rw e (absent.0, act_absent j n xs absent.1))
      (λ e. rw e (absent.0, act_absent j n xs absent.1))

  -- accepted, of the train x with this limit
  abbrev Passes : Option ℕ → Train → Type 0
  Passes limit x = first_of (decide σ limit x a).checks ≡ None

  abbrev answer_of : Option ℕ → Train → Numbers
  answer_of limit x = numbers_of (Ok (decide σ limit x a).gives)

  -- the trains ys afterwards, the train x at place i having acted
  abbrev Follows : Option ℕ → List Told → ℕ → Option ℕ → Train → List Told → Type 0
  Follows limit xs i mine x ys = Lined σ limit ys × (map record_of ys ≡ set (map record_of xs) i (decide σ mine x a).after)

  pub lined_act : (limit : Option ℕ) (xs : List Told) (i : ℕ) → Lined σ limit xs → IsAt id xs i
      → let mine = limit_in σ limit xs i in
      let x = get_or (map record_of xs) i blank_train in
      Passes mine x → Follows limit xs i mine x (map (told_own id (answer_of mine x) a) xs)
  lined_act limit [] i l place e = absurd place
  lined_act limit (x ∷ xs) zero l place e =
      let n = answer_of limit (record_of x) in
      let kept = act_kept σ limit x l.0 a e in
      let alone : Absent id xs = subst (λ (j : ℕ). Absent j xs) place l.1 in
      let y = after_act σ limit x l.0 a in
      let wider = wider_head σ (record_of x) (record_of y) (unfold record_of in refl) (unfold record_of in kept.onward) in
      rw (eq-eqb x.entry.id id place, act_others n xs alone)
      ((kept.keeps, l.1, lined_wider σ (behind σ x) (behind σ y) wider xs l.2), ap (λ (y : Train). y ∷ map record_of xs) kept.told)
  lined_act limit (x ∷ xs) (suc i) l place e =
      let (lined, same) = lined_act (behind σ x) xs i l.2 place.1 e in
      rw (ne_eqb x.entry.id id place.0)
      ((l.0, act_absent x.entry.id _ xs l.1, lined), ap (λ (ys : List Train). record_of x ∷ ys) same)

-- ---- an entering

absent_last : (id : ℕ) (xs : List Told) (x : Told) → Absent id xs → (x.entry.id ≡ id → ⊥) → Absent id (xs ++ (x ∷ []))
absent_last id [] x a e = (e, tt)
absent_last id (u ∷ xs) x a e = (a.0, absent_last id xs x a.1 e)

pub lined_enter : (σ : Settings) (limit : Option ℕ) (xs : List Told) (x : Told) → Lined σ limit xs → Absent x.entry.id xs
    → Steady σ (limit_in σ limit xs (length xs)) x → Lined σ limit (xs ++ (x ∷ []))
lined_enter σ limit [] x l a t = (t, tt, tt)
lined_enter σ limit (u ∷ xs) x l a t =
    (l.0, absent_last u.entry.id xs x l.1 (λ q. a.0 (sym q)), lined_enter σ (behind σ u) xs x l.2 a.1 t)

-- ---- a taking off

module _ (σ : Settings) (id : ℕ) where
  off_others : (xs : List Told) → Absent id xs → without id xs ≡ xs
  unfolding without
  off_others [] absent = refl
  off_others (x ∷ xs) absent = rw (ne_eqb x.entry.id id absent.0, off_others xs absent.1)

  pub lined_off : (xs : List Told) → Lined σ (first_limit σ) xs → IsAt id xs 0
      → Lined σ (first_limit σ) (without id xs) × (map record_of (without id xs) ≡ drop 1 (map record_of xs))
  unfolding without
  lined_off [] l place = absurd place
  lined_off (x ∷ xs) l place =
      let alone : Absent id xs = subst (λ (j : ℕ). Absent j xs) place l.1 in
      let g = l.0.guarded in
      rw (eq-eqb x.entry.id id place, off_others xs alone)
      (lined_wider σ (behind σ x) (first_limit σ) (wider_end σ _ (record_of x) g (rw (limit_first σ) at g.end_in_limit)) xs l.2, refl)
