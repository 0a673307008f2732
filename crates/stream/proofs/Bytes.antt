-- Laws of the bytes that are kept and written. Assumes nothing.
use Prim.Native.Nat.{ℕ, zero, suc, min, ◌+◌, ◌≤◌, ◌<◌}
use native.Mathlib.Omega.{arith}
use mathlib.Core.Path.{◌≡◌, refl, sym, ap, ◌∙◌}
use mathlib.Core.List.{List, [], ◌∷◌, ◌++◌}
use lib.ListN.{length, take, drop, set, length-take, length-append}
use lib.Seq.{take_all, take-take, take_at, get_or_at, drop-drop, paste, paste-suc, length-paste, take-paste, drop-paste}
use lib.Dec.{leb}
use borrow.Author.Tests.{leb-true, leb-false}
use Rattle.logic.proofs.Tests.{by_test}
use Rattle.calls.specs.declared.Numbers.{Numbers}
use Rattle.calls.specs.Answers.{numbers}
use Rattle.wire.specs.Format.{answer_width, answer_text}
use Rattle.wire.proofs.RoundTrip.{answer_long}
use Rattle.stream.specs.Input.{output_line, last_answer, kept_width, kept, output_width, over}

-- so many of the first n bytes are kept
pub keep_first : (l : List ℕ) (n r : ℕ) → r ≡ min n kept_width → take r l ≡ kept (take n l)
keep_first l n r e =
    by_test (leb n kept_width)
    (λ t.
    let all : r ≡ n = omega (arith, leb-true) in
    rw all (sym (take_all kept_width (take n l) (omega (arith, leb-true, length-take n l)))))
    (λ t.
    let some : r ≡ kept_width = omega (arith, leb-false) in
    rw some (sym (take-take kept_width n l (omega (arith, leb-false)))))

-- ---- an output line in its place

pub output_long : (a : Numbers) → length (output_line a) ≡ output_width
unfolding output_line
output_long a = simp (length-append, answer_long a)

module _ (out : List ℕ) (at : ℕ) (a : Numbers) (room : at + output_width ≤ length out) where
  -- an answer's columns, and a line feed after them
  pub line_ended : set (paste out at (answer_text a) answer_width) (at + answer_width) 10 ≡ paste out at (output_line a) output_width
  unfolding output_line
  line_ended =
      let long = answer_long a in
      let columns = take_all answer_width (answer_text a) (omega arith) ∙ sym (take_at (answer_text a) (10 ∷ []) answer_width long) in
      let next = paste-suc out at (output_line a) answer_width 0 (omega arith) (omega (arith, output_long a)) in
      rw columns (rw (get_or_at (answer_text a) 10 [] 0 answer_width long) at next)

  pub output_all : length (paste out at (output_line a) output_width) ≡ length out
  output_all = length-paste out at (output_line a) output_width room (omega (arith, output_long a))

  pub output_front : take (at + output_width) (paste out at (output_line a) output_width) ≡ take at out ++ output_line a
  output_front =
      take-paste out at (output_line a) output_width (omega arith) (omega (arith, output_long a))
      ∙ ap (λ (l : List ℕ). take at out ++ l) (take_all output_width (output_line a) (omega (arith, output_long a)))

  pub output_back : drop (at + output_width) (paste out at (output_line a) output_width) ≡ drop (at + output_width) out
  output_back = drop-paste out at (output_line a) output_width (omega arith) (omega (arith, output_long a))

-- what is the same from place `at` on is the same further on
pub same_further : (k at : ℕ) (l m : List ℕ) → drop at l ≡ drop at m → drop (at + k) l ≡ drop (at + k) m
same_further k at l m e = sym (drop-drop k at l) ∙ ap (drop k) e ∙ drop-drop k at m

-- ---- the end of the input

-- an output line at the front
pub output_first : (out : List ℕ) (a : Numbers) → paste out 0 (output_line a) output_width ≡ over (output_line a) out
output_first out a =
    let long = output_long a in
    ap (λ (l : List ℕ). l ++ drop output_width out) (take_all output_width (output_line a) (omega arith)) ∙ ap (λ (n : ℕ). output_line a ++ drop n out) (sym long)

-- no line has begun
pub none_begun : (bytes : List ℕ) (count : ℕ) → count ≡ 0 → last_answer (take count bytes) ≡ []
unfolding last_answer
none_begun bytes count e = rw e refl

-- a line has begun
pub line_begun : (bytes : List ℕ) (count : ℕ) → 0 < length bytes → (count ≡ 0 → ⊥) → last_answer (take count bytes) ≡ output_line (numbers 1 0 0 0)
unfolding last_answer
line_begun [] count l n = absurd (omega arith)
line_begun (b ∷ bytes) zero l n = absurd (n refl)
line_begun (b ∷ bytes) (suc count) l n = refl

-- an output line at most
pub last_long : (g : List ℕ) → length (last_answer g) ≤ output_width
unfolding last_answer
last_long [] = omega arith
last_long (b ∷ g) = omega (arith, output_long (numbers 1 0 0 0))

-- ---- what is written over the first bytes of a buffer

module _ (w out now : List ℕ) (n : ℕ) (e : now ≡ over w out) (f : n ≡ length w) where
  -- it is within the buffer
  pub over_within : n ≤ length now
  over_within =
      let long : length now ≡ length w + length (drop (length w) out) = ap length e ∙ length-append w (drop (length w) out) in
      omega arith

  -- and stands at its front
  pub over_first : take n now ≡ w
  over_first = ap (take n) e ∙ take_at w (drop (length w) out) n (sym f)
