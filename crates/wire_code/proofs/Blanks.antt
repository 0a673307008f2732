-- Columns that hold spaces before a number is put into them. No function goes by these words any more: the laws stand. Assumes nothing.
use Prim.Native.Nat.{ℕ, zero, suc, ◌+◌, ◌/◌, ◌≤◌, ◌<◌}
use native.Mathlib.Nat.{le_of_suc-le-suc, not-suc-le-zero, add-suc, add-zero}
use native.Mathlib.Omega.{arith}
use mathlib.Core.Path.{◌≡◌, refl, sym, ap, ◌∙◌}
use mathlib.Core.List.{List, [], ◌∷◌, ◌++◌, append_assoc}
use lib.ListN.{length, take, drop, get_or, set, length-set, take-append-drop}
use lib.Seq.{take-set-le, get_or-set_other, set-get_or, paste}
use Rattle.wire.specs.Format.{left_digit, left}

-- l has spaces in the w columns from place `at` on
abbrev pub Spaces : List ℕ → ℕ → ℕ → Type 0
Spaces l at w = (k : ℕ) → k < w → get_or l (at + k) 0 ≡ 32

-- a byte to their right leaves them as they are
pub spaces_kept : (l : List ℕ) (at j b : ℕ) → Spaces l at j → Spaces (set l (at + j) b) at j
spaces_kept l at j b s k h = get_or-set_other l (at + j) (at + k) b 0 (λ e. omega arith) ∙ s k h

-- l is l₀ with spaces in these columns
pub record Blanked (l₀ : List ℕ) (at w : ℕ) (l : List ℕ) : Type 0 where
  pub size : length l ≡ length l₀
  pub front : take at l ≡ take at l₀
  pub back : drop (at + w) l ≡ drop (at + w) l₀
  pub spaces : Spaces l at w

-- blanking columns first makes no difference to what is then put into them
pub blanked_put : {l₀ : List ℕ} {at w : ℕ} {l : List ℕ} → Blanked l₀ at w l → (s : List ℕ) → paste l₀ at s w ≡ paste l at s w
blanked_put p s = rw (p.front, p.back)

-- l with what is left of a number, `rest`, in the i columns from place `at` on
abbrev filled : List ℕ → ℕ → ℕ → ℕ → List ℕ
filled l at i rest = take at l ++ (left i rest ++ drop (at + i) l)

drop_set : (l : List ℕ) (j a : ℕ) → j < length l → drop j (set l j a) ≡ a ∷ drop (suc j) l
drop_set [] j a h = absurd (not-suc-le-zero h)
drop_set (x ∷ l) zero a h = refl
drop_set (x ∷ l) (suc j) a h = drop_set l j a (le_of_suc-le-suc h)

module _ (l : List ℕ) (at : ℕ) where
  column_set : (s : List ℕ) (j b : ℕ) → at + j < length l
      → take at l ++ ((s ++ (b ∷ [])) ++ drop (at + suc j) l) ≡ take at (set l (at + j) b) ++ (s ++ drop (at + j) (set l (at + j) b))
  column_set s j b h =
      rw (add-suc at j, append_assoc s (b ∷ []) (drop (suc (at + j)) l), take-set-le at l (at + j) b (omega arith), drop_set l (at + j) b h) refl

  -- one column more is written, to the left
  put_next : (j rest b : ℕ) → at + j < length l → b ≡ left_digit rest → filled l at (suc j) rest ≡ filled (set l (at + j) b) at j (rest / 10)
  unfolding left
  put_next j rest b h d = rw (← d) (column_set (left j (rest / 10)) j b h)

  -- nothing is left of the number, or of the columns
  put_none : (i rest : ℕ) → (0 < i → rest ≡ 0) → filled l at i rest ≡ filled l at i 0
  unfolding left
  put_none zero rest z = refl
  put_none (suc i) rest z = ap (filled l at (suc i)) (z (omega arith))

  -- then only spaces are left to write, and the columns hold them already
  spaces_left : (i : ℕ) → at + i ≤ length l → Spaces l at i → filled l at i 0 ≡ l
  unfolding left
  spaces_left zero h s = rw (add-zero at) (take-append-drop at l)
  spaces_left (suc j) h s =
      let same : set l (at + j) 32 ≡ l = ap (set l (at + j)) (sym (s j (omega arith))) ∙ set-get_or l (at + j) 0 in
      put_next j 0 32 (omega arith) refl ∙ ap (λ (m : List ℕ). filled m at j 0) same ∙ spaces_left j (omega arith) (λ k b. s k (omega arith))

-- A number half written: l, with what is left of it in the columns that are left, is l₀ with what was left at first. Those columns
-- hold spaces.
pub record Putting (l₀ : List ℕ) (at i₀ rest₀ : ℕ) (l : List ℕ) (i rest : ℕ) : Type 0 where
  pub within : at + i < length l
  pub size : length l ≡ length l₀
  pub same : filled l₀ at i₀ rest₀ ≡ filled l at i rest
  pub spaces : Spaces l at i

pub putting_next : {l₀ : List ℕ} {at i₀ rest₀ : ℕ} {l : List ℕ} {i rest j b : ℕ} → Putting l₀ at i₀ rest₀ l i rest → i ≡ suc j → b ≡ left_digit rest
    → Putting l₀ at i₀ rest₀ (set l (at + j) b) j (rest / 10)
putting_next {at = at} {l = l} {rest = rest} {j = j} {b = b} p e d =
    record {
      within = simp length-set (omega arith);
      size = length-set l (at + j) b ∙ p.size;
      same = p.same ∙ ap (λ (i : ℕ). filled l at i rest) e ∙ put_next l at j rest b (omega arith) d;
      spaces = spaces_kept l at j b (λ k h. p.spaces k (omega arith));
    }

-- no digit is left, or no column
pub putting_done : {l₀ : List ℕ} {at i₀ rest₀ : ℕ} {l : List ℕ} {i rest : ℕ} → Putting l₀ at i₀ rest₀ l i rest → (0 < i → rest ≡ 0)
    → filled l₀ at i₀ rest₀ ≡ l
putting_done {at = at} {l = l} {i = i} {rest = rest} p none = p.same ∙ put_none l at i rest none ∙ spaces_left l at i (omega arith) p.spaces
