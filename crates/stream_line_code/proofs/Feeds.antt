-- Laws of the place where a line ends. Assumes nothing.
use Rattle.std.proofs.Common.{◌≡◌, Bool, false, ℕ, zero, suc, ◌+◌, ◌-◌, ◌*◌, ◌≤◌, ◌<◌, List, ◌∷◌, ◌++◌, take, drop, get_or, length, nat_eq, Option, Some, None, sym, ap, ◌∙◌, arith, true≢false, length-take, length-drop}
use native.Mathlib.Nat.{add-zero}
use native.Mathlib.Numerals.{add-one}
use mathlib.Core.List.{[], append_assoc, append-nil}
use mathlib.Core.Path.{refl}
use lib.Seq.{drop-cons}
use native.Mathlib.Decide.{dec_le}
use mathlib.Core.Logic.{by_cases}
use Rattle.std.specs.Option.{unwrap_or}
use Rattle.std.specs.List.{position, position_or_len, list_any}
use Rattle.std.specs.Simd.{first_chunks}
use Rattle.std.proofs.lemmas.List.{get_or-drop, get_or-take}
use Rattle.std.proofs.lemmas.List.Folds.{list_any_at}
use Rattle.std.proofs.lemmas.List.Sums.{prefix_len-le-length, fails_before_first, passes_at_first}
use lib.Dec.{ltb}
use borrow.Author.Tests.{eq-eqb, eqb-true, eqb-false, ltb-false}
use Rattle.logic.proofs.Tests.{by_test}
use Rattle.stream_line_code.specs.Feeds.{NoFeed, LineEnd}

abbrev pub is_feed : ℕ → Bool
is_feed b = nat_eq b 10

-- the first element that passes, as the library gives it: its place, or the length
pub place_of_first : {X : Type 0} (p : X → Bool) → (xs : List X) (r : Option ℕ) (n : ℕ) → r ≡ position p xs → n ≡ unwrap_or r (length xs) → n ≡ position_or_len p xs
place_of_first p xs r n e f =
    by_test (ltb (position_or_len p xs) (length xs))
    (λ t. let found : r ≡ Some (position_or_len p xs) = rw t at e in rw found at f)
    (λ t. let none : r ≡ None = rw t at e in let all : n ≡ length xs = rw none at f in omega (arith, ltb-false, prefix_len-le-length))

-- ---- blocks

-- a block whose test fails has no line feed
none_in : (l : List ℕ) → list_any is_feed l ≡ false → NoFeed l 0 (length l)
none_in l e k h m f = true≢false (sym (list_any_at is_feed l k 0 m (eq-eqb _ 10 f)) ∙ e)

-- blocks of 16 bytes, up to the first that has a line feed
pub none_in_blocks : (n : ℕ) (l : List ℕ) → n * 16 ≤ length l → let r = position_or_len (list_any is_feed) (first_chunks 16 n l) in (r * 16 ≤ length l) × NoFeed l 0 (r * 16)
none_in_blocks zero l room = (omega arith, λ k h m. absurd (omega arith))
none_in_blocks (suc n) l room =
    let ih = none_in_blocks n (drop 16 l) (omega (arith, length-drop 16 l)) in
    by_test (list_any is_feed (take 16 l))
    (λ t. rw t (omega arith, λ k h m. absurd (omega arith)))
    (λ t.
    let front : NoFeed (take 16 l) 0 16 = λ k h m. none_in (take 16 l) t k h (omega (arith, length-take 16 l)) in
    rw t (
      omega (arith, length-drop 16 l, ih.0),
      λ k h m f.
          by_cases (dec_le 16 k)
          (λ q. let there : 16 + (k - 16) ≡ k = omega arith in ih.1 (k - 16) (omega arith) (omega arith) (get_or-drop 16 l (k - 16) 0 ∙ ap (λ (i : ℕ). get_or l i 0) there ∙ f))
          (λ q. front k h (omega arith) (get_or-take 16 l k 0 (omega arith) ∙ f)),
    ))

-- ---- the end of a line

-- where the first r bytes from place a on have none, and n more
pub line_ends : (l : List ℕ) (a r n : ℕ) → a ≤ length l → (r ≤ length (drop a l)) × NoFeed (drop a l) 0 r → n ≡ position_or_len is_feed (drop (a + r) l) → LineEnd l a (a + r + n)
line_ends l a r n h past e =
    let b = a + r in
    let rest = drop b l in
    let long : n ≤ length rest = omega (arith, e, prefix_len-le-length {X = ℕ}) in
    let at : (p i k : ℕ) → p + i ≡ k → get_or l k 0 ≡ 10 → get_or (drop p l) i 0 ≡ 10 = λ p i k j f. get_or-drop p l i 0 ∙ ap (λ (m : ℕ). get_or l m 0) j ∙ f in
    record {
      from = omega arith;
      within = omega (arith, length-drop a l, length-drop b l, past.0);
      none = λ k from to f.
          by_cases (dec_le b k)
          (λ q. eqb-false _ 10 (fails_before_first is_feed rest (k - b) 0 (omega (arith, e))) (at b (k - b) k (omega arith) f))
          (λ q. past.1 (k - a) (omega arith) (omega arith) (at a (k - a) k (omega arith) f));
      feed = λ more. sym (get_or-drop b l n 0) ∙ eqb-true _ 10 (rw (← e) at (passes_at_first is_feed rest 0 (omega (arith, e, length-drop b l, length-drop a l, past.0))));
    }

-- ---- they are of the line that has begun

-- F speaks of a line that has begun and of the bytes to come: a byte that is no line feed is one more of that line
module _ {A : Type 0} (F : List ℕ → List ℕ → A) (byte : (g : List ℕ) (b : ℕ) (bs : List ℕ) → (b ≡ 10 → ⊥) → F g (b ∷ bs) ≡ F (g ++ (b ∷ [])) bs) (piece : List ℕ) where
  -- n bytes from place i on
  part_of : (n : ℕ) (g : List ℕ) (i : ℕ) → i + n ≤ length piece → NoFeed piece i (i + n) → F g (drop i piece) ≡ F (g ++ take n (drop i piece)) (drop (i + n) piece)
  part_of zero g i within none = rw (append-nil g, add-zero i) refl
  part_of (suc n) g i within none =
      let b = get_or piece i 0 in
      let more : i < length piece = omega arith in
      let here : drop i piece ≡ b ∷ drop (i + 1) piece = rw (add-one i) (drop-cons piece i 0 more) in
      let on : i + 1 + n ≡ i + suc n = omega arith in
      ap (F g) here
      ∙ byte g b (drop (i + 1) piece) (none i (omega arith) (omega arith))
      ∙ part_of n (g ++ (b ∷ [])) (i + 1) (omega arith) (λ k h m. none k (omega arith) (omega arith))
      ∙ ap (λ (l : List ℕ). F l (drop (i + 1 + n) piece)) (append_assoc g (b ∷ []) (take n (drop (i + 1) piece)))
      ∙ ap (λ (l : List ℕ). F (g ++ take (suc n) l) (drop (i + 1 + n) piece)) (sym here)
      ∙ ap (λ (k : ℕ). F (g ++ take (suc n) (drop i piece)) (drop k piece)) on

  -- all up to the end of the line
  pub part_taken : (g : List ℕ) (i e : ℕ) → LineEnd piece i e → F g (drop i piece) ≡ F (g ++ take (e - i) (drop i piece)) (drop e piece)
  part_taken g i e end =
      let same : i + (e - i) ≡ e = omega (arith, end.from) in
      part_of (e - i) g i (omega (arith, end.from, end.within)) (λ k h m. end.none k h (omega (arith, end.from)))
      ∙ ap (λ (k : ℕ). F (g ++ take (e - i) (drop i piece)) (drop k piece)) same
