-- Nothing else is read: a field that is read is its number's text, and a line that is read is its numbers' text. Assumes nothing.
use Rattle.std.specs.Prelude.{Option, None, Some}
use Prim.Native.Nat.{ℕ, zero, suc, ◌+◌, ◌-◌, ◌*◌, ◌/◌, ◌%◌, ◌^◌, ◌<◌}
use native.Mathlib.Nat.{add-zero, zero-add, pow-zero, div-add-mod, mod-lt}
use native.Mathlib.Omega.{arith}
use mathlib.Core.Path.{◌≡◌, refl, sym, ◌∙◌, subst}
use mathlib.Core.Bool.{false}
use mathlib.Core.List.{List, [], ◌∷◌, ◌++◌, append-nil, append_assoc}
use lib.Dec.{eqb}
use lib.ListN.{length, take, drop, length-drop, take-append-drop}
use lib.Seq.{length-take-le}
use borrow.Author.Tests.{eqb-true}
use Rattle.logic.proofs.Tests.{by_test}
use Rattle.calls.specs.Requests.{request_of}
use Rattle.wire.specs.declared.Scan.{Scan}
use Rattle.wire.specs.declared.Scan.TheVariants.{Blank, Digits, Bad}
use Rattle.wire.specs.Format.{total, call_columns, call_width, is_digit, digit, column, columns, so_far, ended, field_of, with_number, numbers_in, request_by, line_read, left, text, text_of}
use Rattle.wire.proofs.Fields.{digit_range, column_below}
use Rattle.wire.proofs.RoundTrip.{long_more, Fits}

-- ---- a field

-- columns that are read as s hold what would be written for s
Shown : List ℕ → Scan → Type 0
Shown bs Blank = bs ≡ left (length bs) 0
Shown bs (Digits n) = bs ≡ text (length bs) n
Shown bs Bad = Unit {0}

digit_more : (n d : ℕ) → d < 10 → ((10 * n + d) / 10 ≡ n) × ((10 * n + d) % 10 ≡ d)
digit_more n d h =
    let e : 10 * ((10 * n + d) / 10) + (10 * n + d) % 10 ≡ 10 * n + d = div-add-mod (10 * n + d) 10 in
    let r : (10 * n + d) % 10 < 10 = mod-lt (10 * n + d) (omega arith) in
    (omega arith, omega arith)

-- a digit after what is left of n
digit_shown : (bs : List ℕ) (n b : ℕ) → bs ≡ left (length bs) n → Shown (bs ++ (b ∷ [])) (digit n b)
unfolding Shown digit text
digit_shown bs n b p =
    by_test (is_digit b)
    (λ e.
    let range = digit_range b e in
    let m = digit_more n (b - 48) (omega arith) in
    let same : 48 + (b - 48) ≡ b = omega arith in
    rw (e, long_more bs b, m.0, m.1, same, ← p) refl)
    (λ e. rw e tt)

-- what is left of a number that is not 0 is that number's text
pub left_text : (w n : ℕ) → eqb n 0 ≡ false → left w n ≡ text w n
unfolding left text
left_text zero n e = refl
left_text (suc w) n e = rw e refl

column_shown : (bs : List ℕ) (s : Scan) (b : ℕ) → Shown bs s → Shown (bs ++ (b ∷ [])) (column s b)
unfolding Shown column left
column_shown bs Blank b p =
    by_test (eqb b 32)
    (λ e. rw (e, long_more bs b, eqb-true b 32 e, ← p) refl)
    (λ e. rw e (digit_shown bs 0 b p))
column_shown bs (Digits n) b p =
    by_test (eqb n 0)
    (λ e. rw e tt)
    (λ e. rw e (digit_shown bs n b (p ∙ sym (left_text (length bs) n e))))
column_shown bs Bad b p = tt

columns_shown : (bs cs : List ℕ) (s : Scan) → Shown bs s → Shown (bs ++ cs) (columns s cs)
unfolding columns
columns_shown bs [] s p = rw append-nil p
columns_shown bs (c ∷ cs) s p = rw append_assoc at (columns_shown (bs ++ (c ∷ [])) cs (column s c) (column_shown bs s c p))

-- after k columns and these, the number so far has no more digits than that
columns_below : (bs : List ℕ) (s : Scan) (k : ℕ) → so_far s < 10 ^ k → so_far (columns s bs) < 10 ^ (k + length bs)
unfolding columns
columns_below [] s k h = rw add-zero h
columns_below (b ∷ bs) s k h =
    let e : k + suc (length bs) ≡ k + 1 + length bs = omega arith in
    rw e (columns_below bs (column s b) (k + 1) (column_below s b k h))

-- only digits end as a number
number_ended : (s : Scan) (n : ℕ) → ended s ≡ Some n → s ≡ Digits n
number_ended Blank n e = cc
number_ended (Digits m) n e = cc
number_ended Bad n e = cc

-- a field that is read as n is n's text
pub field_text : (bs : List ℕ) (n : ℕ) → field_of bs ≡ Some n → bs ≡ text (length bs) n
unfolding Shown left
field_text bs n e = subst (Shown bs) (number_ended (columns Blank bs) n e) (columns_shown [] bs Blank refl)

-- a field that is read as n has columns, and n fits them
pub field_fits : (bs : List ℕ) (n : ℕ) → field_of bs ≡ Some n → (0 < length bs) × (n < 10 ^ length bs)
unfolding columns
field_fits [] n e = absurd cc
field_fits (b ∷ bs) n e =
    let below = columns_below (b ∷ bs) Blank 0 (omega (arith, pow-zero 10)) in
    (omega arith, rw (number_ended (columns Blank (b ∷ bs)) n e, zero-add) at below)

-- ---- a line

with_number_lem : (f : Option ℕ) (r : Option (List ℕ)) (ns : List ℕ) → with_number f r ≡ Some ns
    → (n : ℕ) × (ms : List ℕ) × (f ≡ Some n) × (r ≡ Some ms) × (ns ≡ n ∷ ms)
with_number_lem (Some n) (Some ms) ns e = (n, ms, refl, refl, cc)
with_number_lem (Some n) None ns e = absurd cc
with_number_lem None r ns e = absurd cc

-- a line whose columns are read as numbers is those numbers' text, and each number fits its columns
pub numbers_text : (ws line ns : List ℕ) → total ws ≡ length line → numbers_in ws line ≡ Some ns → (line ≡ text_of ws ns) × Fits ws ns
unfolding numbers_in text_of
numbers_text [] [] [] h e = (refl, tt)
numbers_text [] [] (n ∷ ns) h e = absurd cc
numbers_text [] (b ∷ line) ns h e = absurd (omega arith)
numbers_text (w ∷ ws) line ns h e =
    let (n, ms, f, r, p) = with_number_lem (field_of (take w line)) (numbers_in ws (drop w line)) ns e in
    let k : length (take w line) ≡ w = length-take-le w line (omega arith) in
    let front : take w line ≡ text w n = rw k at (field_text (take w line) n f) in
    let fits : (0 < w) × (n < 10 ^ w) = rw k at (field_fits (take w line) n f) in
    let rest = numbers_text ws (drop w line) ms (omega (arith, length-drop w line)) r in
    rw p (cc (take-append-drop w line), (fits.0, fits.1, rest.1))

-- a line that is the text of its numbers, and is read as what they ask: "86 bytes and a line feed"
pub record Typed (line : List ℕ) : Type 0 where
  pub long : length line ≡ 86
  pub numbers : List ℕ
  pub fits : Fits call_columns numbers
  pub text : line ≡ text_of call_columns numbers
  pub reads : line_read line ≡ request_of numbers

typed_by : (line : List ℕ) (r : Option (List ℕ)) → length line ≡ call_width → numbers_in call_columns line ≡ r → line_read line ≡ request_by r
    → (line_read line ≡ None → ⊥) → Typed line
typed_by line None h e s k = absurd (k s)
typed_by line (Some ns) h e s k =
    let t = numbers_text call_columns line ns (sym h) e in
    record { long = h; numbers = ns; fits = t.1; text = t.0; reads = s }

-- a line that is read is the text of its own numbers, so that nothing else is taken for a request
pub line_typed : (line : List ℕ) → (line_read line ≡ None → ⊥) → Typed line
unfolding line_read
line_typed line k =
    by_test (eqb (length line) call_width)
    (λ e. typed_by line (numbers_in call_columns line) (eqb-true (length line) call_width e) refl (rw e refl) k)
    (λ e. absurd (k (rw e refl)))
