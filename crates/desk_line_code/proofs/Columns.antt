-- Laws of writing numbers side by side, from left to right. Assumes nothing.
use Prim.Native.Nat.{ℕ, zero, suc, ◌+◌, ◌*◌, ◌≤◌, ◌<◌}
use native.Mathlib.Numerals.{add-one}
use native.Mathlib.Omega.{arith}
use mathlib.Core.Path.{◌≡◌, refl, sym, ap, ◌∙◌}
use mathlib.Core.List.{List, [], ◌∷◌, ◌++◌, append_assoc, append-nil}
use lib.ListN.{length, take, drop, get_or, set, replicate, length-append, length-drop}
use lib.Seq.{paste, drop-cons, drop-length}
use Rattle.std.proofs.lemmas.List.{set-append_right}
use Rattle.std.proofs.lemmas.List.Edits.{paste_all, paste-paste}
use borrow.Author.Tests.{le-leb}
use Rattle.calls.specs.Answers.{numbers_of}
use Rattle.line.specs.declared.Shown.{Shown}
use Rattle.wire.specs.Format.{text, text_of, answer_text, rendered}
use Rattle.wire.proofs.RoundTrip.{text_long, answer_long}
use Rattle.stream.specs.Input.{over}
use Rattle.desk_line.specs.Columns.{record_numbers, record_columns, desk_line, desk_width, desk_written}

-- the first i numbers, each in 14 columns
abbrev pub first_text : ℕ → List ℕ → List ℕ
first_text i ns = text_of (replicate i 14) (take i ns)

first_next : (i : ℕ) (ns : List ℕ) → i < length ns → first_text (suc i) ns ≡ first_text i ns ++ text 14 (get_or ns i 0)
unfolding text_of
first_next i [] h = absurd (omega arith)
first_next zero (n ∷ ns) h = append-nil (text 14 n)
first_next (suc i) (n ∷ ns) h = ap (λ (l : List ℕ). text 14 n ++ l) (first_next i ns (omega arith)) ∙ sym (append_assoc (text 14 n) (first_text i ns) (text 14 (get_or ns i 0)))

first_size : (i : ℕ) (ns : List ℕ) → i ≤ length ns → length (first_text i ns) ≡ 14 * i
unfolding text_of
first_size zero ns h = refl
first_size (suc i) [] h = absurd (omega arith)
first_size (suc i) (n ∷ ns) h = omega (arith, length-append (text 14 n) (first_text i ns), text_long 14 n, first_size i ns (omega arith))

-- one number more
pub put_next : (d ns : List ℕ) (at i : ℕ) → i < length ns → at + 14 * i + 14 ≤ length d
    → paste (paste d at (first_text i ns) (14 * i)) (at + 14 * i) (text 14 (get_or ns i 0)) 14 ≡ paste d at (first_text (i + 1) ns) (14 * (i + 1))
put_next d ns at i more room =
    let wider : 14 * (i + 1) ≡ 14 * i + 14 = omega arith in
    let next : first_text (i + 1) ns ≡ first_text i ns ++ text 14 (get_or ns i 0) = rw (add-one i) (first_next i ns more) in
    rw (wider, next)
    (paste-paste d at (first_text i ns) (text 14 (get_or ns i 0)) (14 * i) 14 (sym (first_size i ns (omega arith))) (sym (text_long 14 _)) (omega arith))

module _ (w : Shown) where
  abbrev answer : List ℕ
  answer = answer_text (numbers_of w.answer)

  abbrev shown : List ℕ
  shown = text_of record_columns (record_numbers w.train)

  shown_long : length shown ≡ 224
  unfolding text_of
  shown_long = simp (length-append, text_long)

  -- an output line has 269 bytes
  pub line_long : length (desk_line w) ≡ desk_width
  unfolding desk_line
  line_long = simp (length-append, answer_long, shown_long)

  module _ (out : List ℕ) where
    -- the answer's columns, the record's and a line feed are an output line
    pub line_put : desk_width ≤ length out → set (paste (rendered (numbers_of w.answer) out 0) 44 shown 224) 268 10 ≡ over (desk_line w) out
    unfolding desk_line
    line_put room =
        let long : length (answer ++ shown) ≡ 268 = omega (arith, line_long, length-append (answer ++ shown) (10 ∷ [])) in
        let both = paste-paste out 0 answer shown 44 224 (sym (answer_long _)) (sym shown_long) (omega arith) in
        rw (le-leb 44 (length out) (omega arith), both, paste_all out 0 (answer ++ shown) 268 (sym long))
        (rw (set-append_right (answer ++ shown) (drop 268 out) 268 268 10 long (omega arith), drop-cons out 268 0 (omega arith), line_long, append_assoc (answer ++ shown) (10 ∷ []) (drop desk_width out)))

    -- and leaves the buffer as long as it was
    pub put_long : desk_width ≤ length out → length (over (desk_line w) out) ≡ length out
    put_long room = omega (arith, line_long, length-append (desk_line w) (drop (length (desk_line w)) out), length-drop (length (desk_line w)) out)

    -- in a buffer for one line it is all that stands there
    pub line_whole : length out ≡ desk_width → desk_written w out ≡ desk_line w
    unfolding desk_line
    line_whole size =
        let none : drop desk_width out ≡ [] = ap (λ (n : ℕ). drop n out) (sym size) ∙ drop-length out in
        rw (le-leb desk_width (length out) (omega arith), line_long, none) (append-nil _)
