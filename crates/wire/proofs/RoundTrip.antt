-- What is written is read back: a number, the numbers of a line, a request, an answer. Assumes nothing.
use Rattle.std.specs.Prelude.{Some}
use Prim.Native.Nat.{ℕ, zero, suc, ◌+◌, ◌*◌, ◌/◌, ◌%◌, ◌^◌, ◌<◌}
use native.Mathlib.Nat.{div-add-mod, mod-lt, pow-zero, pow-suc}
use native.Mathlib.Omega.{arith}
use Rattle.std.proofs.lemmas.Bool.Decides.{nat_tests}
use mathlib.Core.Path.{◌≡◌, refl, ap, ◌∙◌}
use mathlib.Core.Bool.{cond}
use mathlib.Core.List.{List, [], ◌∷◌, ◌++◌}
use lib.Dec.{eqb, eqb-suc-zero}
use lib.ListN.{length, length-append}
use lib.Seq.{take_at, drop_at}
use borrow.Author.Tests.{eq-eqb}
use Rattle.calls.specs.declared.Numbers.{Numbers}
use Rattle.calls.specs.Requests.{request_of}
use Rattle.wire.specs.declared.Scan.{Scan}
use Rattle.wire.specs.declared.Scan.TheVariants.{Blank, Digits}
use Rattle.wire.specs.Format.{total, call_columns, call_width, answer_columns, answer_width, digit, column, columns, ended, field_of, numbers_in, line_read, digit_of, left_digit, left, text, text_of, answer_text}
use Rattle.wire.proofs.Fields.{columns_append}

-- ---- a number in its columns

-- one column more
pub long_more : (bs : List ℕ) (b : ℕ) → length (bs ++ (b ∷ [])) ≡ suc (length bs)
long_more bs b = simp length-append (omega arith)

left_long : (w n : ℕ) → length (left w n) ≡ w
unfolding left
left_long zero n = refl
left_long (suc w) n = long_more (left w (n / 10)) (left_digit n) ∙ ap suc (left_long w (n / 10))

-- a number takes the columns that it is given
pub text_long : (w n : ℕ) → length (text w n) ≡ w
unfolding text
text_long zero n = refl
text_long (suc w) n = long_more (left w (n / 10)) (digit_of n) ∙ ap suc (left_long w (n / 10))

-- how the columns before a number's last digit are read, where n is left of it
abbrev shows : ℕ → Scan
shows n = cond (eqb n 0) Blank (Digits n)

digit_read : (n d : ℕ) → d < 10 → digit n (48 + d) ≡ Digits (10 * n + d)
unfolding digit
digit_read n d h = grind (arith, nat_tests)

column_digit : (n d : ℕ) → d < 10 → column (shows n) (48 + d) ≡ Digits (10 * n + d)
unfolding column
column_digit zero d h = grind (arith, nat_tests, digit_read)
column_digit (suc n) d h = grind (arith, nat_tests, digit_read)

-- the last digit of a number, after what is left of it
column_number : (n : ℕ) → column (shows (n / 10)) (digit_of n) ≡ Digits n
column_number n = column_digit (n / 10) (n % 10) (mod-lt n (omega arith)) ∙ ap Digits (div-add-mod n 10)

column_left : (n : ℕ) → column (shows (n / 10)) (left_digit n) ≡ shows n
unfolding column
column_left zero = refl
column_left (suc n) = simp (eqb-suc-zero n) (column_number (suc n))

tenth_below : (w n : ℕ) → n < 10 ^ suc w → n / 10 < 10 ^ w
tenth_below w n h = omega (arith, pow-suc 10 w, div-add-mod n 10)

left_read : (w n : ℕ) → n < 10 ^ w → columns Blank (left w n) ≡ shows n
unfolding left columns
left_read zero n h =
    let e : n ≡ 0 = omega (arith, pow-zero 10) in
    simp (eq-eqb n 0 e)
left_read (suc w) n h =
    rw (columns_append Blank (left w (n / 10)) (left_digit n ∷ []), left_read w (n / 10) (tenth_below w n h)) (column_left n)

-- a number in columns that it fits is read as that number
pub text_read : (w n : ℕ) → 0 < w → n < 10 ^ w → field_of (text w n) ≡ Some n
unfolding text columns
text_read zero n p h = absurd (omega arith)
text_read (suc w) n p h =
    rw (columns_append Blank (left w (n / 10)) (digit_of n ∷ []), left_read w (n / 10) (tenth_below w n h)) (ap ended (column_number n))

-- ---- a line

-- each number fits its columns
abbrev pub Fits : List ℕ → List ℕ → Type 0
Fits [] [] = Unit {0}
Fits [] (n ∷ ns) = ⊥
Fits (w ∷ ws) [] = ⊥
Fits (w ∷ ws) (n ∷ ns) = (0 < w) × (n < 10 ^ w) × Fits ws ns

-- a line is as long as its columns together
pub text_total : (ws ns : List ℕ) → Fits ws ns → length (text_of ws ns) ≡ total ws
unfolding text_of
text_total [] [] f = refl
text_total [] (n ∷ ns) f = absurd f
text_total (w ∷ ws) [] f = absurd f
text_total (w ∷ ws) (n ∷ ns) f = simp (length-append, text_long w n, text_total ws ns f.2)

-- the numbers that are written are the numbers that are read
pub numbers_read : (ws ns : List ℕ) → Fits ws ns → numbers_in ws (text_of ws ns) ≡ Some ns
unfolding numbers_in text_of
numbers_read [] [] f = refl
numbers_read [] (n ∷ ns) f = absurd f
numbers_read (w ∷ ws) [] f = absurd f
numbers_read (w ∷ ws) (n ∷ ns) f =
    let t : length (text w n) ≡ w = text_long w n in
    simp (take_at (text w n) (text_of ws ns) w t, drop_at (text w n) (text_of ws ns) w t, text_read w n f.0 f.1, numbers_read ws ns f.2)

-- a line typed as document 01 says is read as what its numbers ask
pub call_read : (ns : List ℕ) → Fits call_columns ns → line_read (text_of call_columns ns) ≡ request_of ns
unfolding line_read
call_read ns f = simp (eq-eqb (length (text_of call_columns ns)) call_width (text_total call_columns ns f), numbers_read call_columns ns f)

-- an answer's line, read, shows the answer's numbers
pub answer_read : (a : Numbers) → Fits answer_columns (a.number ∷ a.first ∷ a.second ∷ a.third ∷ [])
    → numbers_in answer_columns (answer_text a) ≡ Some (a.number ∷ a.first ∷ a.second ∷ a.third ∷ [])
unfolding answer_text
answer_read a f = numbers_read answer_columns (a.number ∷ a.first ∷ a.second ∷ a.third ∷ []) f

-- an answer takes the columns of an output line
pub answer_long : (a : Numbers) → length (answer_text a) ≡ answer_width
unfolding answer_text text_of
answer_long a = simp (length-append, text_long)
