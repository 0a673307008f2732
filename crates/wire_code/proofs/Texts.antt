-- Laws of writing numbers into a buffer. Assumes nothing.
use Prim.Native.Nat.{ℕ, zero, suc, ◌+◌, ◌/◌, ◌≤◌, ◌<◌}
use native.Mathlib.Numerals.{add-one}
use native.Mathlib.Omega.{arith}
use mathlib.Core.Bool.{false}
use mathlib.Core.Path.{◌≡◌, refl, sym, ap, ◌∙◌}
use mathlib.Core.List.{List, ◌++◌, append_assoc, append-nil}
use lib.Dec.{eqb}
use lib.ListN.{length, take, drop, set, replicate, length-set, length-append, take-append-drop}
use lib.Seq.{take-set-le, take-take, paste}
use Rattle.std.proofs.lemmas.Grind.{common_steps, replicate_next}
use Rattle.std.proofs.lemmas.List.{take-replicate}
use Rattle.std.proofs.lemmas.List.Edits.{paste-paste}
use Rattle.calls.specs.declared.Numbers.{Numbers}
use Rattle.wire.specs.Format.{answer_width, digit_of, left, text, text_of, answer_text}
use Rattle.wire.proofs.RoundTrip.{text_long}
use Rattle.wire.proofs.Unique.{left_text}

-- ---- a number, from right to left

-- left of 0 are spaces
left_none : (i : ℕ) → left i 0 ≡ replicate i 32
unfolding left
left_none zero = refl
left_none (suc i) = rw (left_none i) (sym (replicate_next i 32) ∙ ap (λ (k : ℕ). replicate k 32) (add-one i))

-- A number half written: the w columns of l, with the i columns that are left written too, show n. Those columns hold spaces.
pub record Writing (w n : ℕ) (l : List ℕ) (i rest : ℕ) : Type 0 where
  pub size : length l ≡ w
  pub spaces : take i l ≡ replicate i 32
  pub same : text i rest ++ drop i l ≡ text w n

-- one column more is written
module _ {w n j rest b : ℕ} (l : List ℕ) (p : Writing w n l (suc j) rest) (within : j < w) (digit : b ≡ digit_of rest) where
  written : left j (rest / 10) ++ drop j (set l j b) ≡ text w n
  unfolding text
  written = let same = p.same in let size = p.size in grind (arith, common_steps)

  still : take j (set l j b) ≡ replicate j 32
  still =
      take-set-le j l j b (omega arith)
      ∙ sym (take-take j (suc j) l (omega arith))
      ∙ ap (take j) p.spaces
      ∙ take-replicate j (suc j) 32 (omega arith)

  pub writing_next : eqb (rest / 10) 0 ≡ false → Writing w n (set l j b) j (rest / 10)
  writing_next more = record {
    size = rw length-set p.size;
    spaces = still;
    same = rw (← left_text j (rest / 10) more) written;
  }

  -- no digit is left
  pub writing_done : rest / 10 ≡ 0 → set l j b ≡ text w n
  writing_done none = let w = written in let s = still in let e = left_none j in let all = take-append-drop j (set l j b) in cc

-- ---- numbers side by side

-- the numbers of an answer, put one after the other, are its line
pub answer_put : (d : List ℕ) (at : ℕ) (a : Numbers) → at ≤ length d
    → paste (paste (paste (paste d at (text 2 a.number) 2) (at + 2) (text 14 a.first) 14) (at + 16) (text 14 a.second) 14) (at + 30) (text 14 a.third) 14
    ≡ paste d at (answer_text a) answer_width
unfolding answer_text text_of
answer_put d at a h =
    let one = text 2 a.number in
    let two = one ++ text 14 a.first in
    let three = two ++ text 14 a.second in
    let first = paste-paste d at one (text 14 a.first) 2 14 (sym (text_long 2 a.number)) (sym (text_long 14 a.first)) h in
    let second = paste-paste d at two (text 14 a.second) 16 14 (simp (length-append, text_long)) (sym (text_long 14 a.second)) h in
    let third = paste-paste d at three (text 14 a.third) 30 14 (simp (length-append, text_long)) (sym (text_long 14 a.third)) h in
    ap (λ (l : List ℕ). paste (paste l (at + 16) (text 14 a.second) 14) (at + 30) (text 14 a.third) 14) first
    ∙ ap (λ (l : List ℕ). paste l (at + 30) (text 14 a.third) 14) second
    ∙ third
    ∙ simp (append_assoc, append-nil)
