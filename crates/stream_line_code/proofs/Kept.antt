-- Laws of the bytes that are kept of a line. Assumes nothing.
use Rattle.std.proofs.Common.{◌≡◌, ℕ, ◌+◌, ◌-◌, ◌≤◌, min, List, ◌++◌, take, length, sym, ap, ◌∙◌, arith, length-take, length-take-le}
use mathlib.Core.List.{append_assoc}
use lib.ListN.{drop, take-append-drop}
use lib.Seq.{take-append-le}
use Rattle.std.proofs.lemmas.List.{take_min}
use Rattle.std.proofs.Math.Seq.{take-append-add}
use Rattle.stream.specs.Input.{kept_width, kept}

-- so many bytes of a part are kept, after `count` of the line
pub kept_part : (bytes part : List ℕ) (count n : ℕ) → length bytes ≡ kept_width → count ≤ kept_width → n ≡ min (length part) (kept_width - count)
    → take count bytes ++ take n part ≡ kept (take count bytes ++ part)
kept_part bytes part count n size few e =
    let g = take count bytes in
    let room = kept_width - count in
    let all : length g + room ≡ kept_width = omega (arith, length-take-le count bytes (omega arith)) in
    let some : n ≡ min room (length part) = omega arith in
    ap (λ (k : ℕ). g ++ take k part) some
    ∙ ap (λ (l : List ℕ). g ++ l) (take_min room part)
    ∙ sym (take-append-add g part room)
    ∙ ap (λ (k : ℕ). take k (g ++ part)) all

-- h is what is kept after i bytes of a part
module _ (g part : List ℕ) (i : ℕ) (h : List ℕ) (e : h ≡ kept (g ++ take i part)) where
  -- no more are kept
  pub kept_full : length h ≡ kept_width → h ≡ kept (g ++ part)
  kept_full full =
      let m = g ++ take i part in
      let long : kept_width ≤ length m = omega (arith, full, ap length e, length-take kept_width m) in
      e ∙ sym (ap kept (ap (λ (l : List ℕ). g ++ l) (sym (take-append-drop i part)) ∙ sym (append_assoc g (take i part) (drop i part)))
      ∙ take-append-le kept_width m (drop i part) long)
