-- Laws of reading a field, column by column. Assumes nothing.
use Prim.Native.Nat.{ℕ, ◌+◌, ◌*◌, ◌^◌, ◌≤◌, ◌<◌}
use native.Mathlib.Nat.{pow-suc, pow-le-pow_right, zero-lt-suc}
use native.Mathlib.Numerals.{add-one}
use native.Mathlib.Omega.{arith}
use Rattle.std.proofs.lemmas.Bool.Decides.{nat_tests}
use mathlib.Core.Path.{◌≡◌, refl}
use mathlib.Core.Bool.{true}
use mathlib.Core.List.{List, [], ◌∷◌, ◌++◌}
use lib.ListN.{length, drop, get_or}
use lib.Seq.{drop-cons, drop-length}
use Rattle.wire.specs.declared.Scan.{Scan}
use Rattle.wire.specs.declared.Scan.TheVariants.{Blank, Digits, Bad}
use Rattle.wire.specs.Format.{is_digit, digit, column, columns, so_far}

pub columns_append : (s : Scan) (a b : List ℕ) → columns s (a ++ b) ≡ columns (columns s a) b
unfolding columns
columns_append s [] b = refl
columns_append s (x ∷ a) b = columns_append (column s x) a b

-- reading goes on after column i
pub columns_next : (s : Scan) (field : List ℕ) (i : ℕ) → i < length field
    → columns s (drop i field) ≡ columns (column s (get_or field i 0)) (drop (i + 1) field)
unfolding columns
columns_next s field i h = rw (add-one i, drop-cons field i 0 h) refl

-- and ends after the last one
pub columns_end : (s : Scan) (field : List ℕ) (i : ℕ) → i ≡ length field → columns s (drop i field) ≡ s
unfolding columns
columns_end s field i e = rw (e, drop-length field) refl

-- ---- a field of k columns shows a number below 10^k

pub digit_range : (b : ℕ) → is_digit b ≡ true → (48 ≤ b) × (b ≤ 57)
digit_range b e = grind (arith, nat_tests)

digit_below : (n b p : ℕ) → n < p → so_far (digit n b) < p * 10
unfolding digit
digit_below n b p h = grind (arith, nat_tests)

column_below_by : (s : Scan) (b p : ℕ) → so_far s < p → so_far (column s b) < p * 10
unfolding column
column_below_by Blank b p h = grind (arith, nat_tests, digit_below)
column_below_by (Digits n) b p h = grind (arith, nat_tests, digit_below)
column_below_by Bad b p h = omega arith

pub column_below : (s : Scan) (b k : ℕ) → so_far s < 10 ^ k → so_far (column s b) < 10 ^ (k + 1)
column_below s b k h = rw (add-one k, pow-suc 10 k) (column_below_by s b (10 ^ k) h)

pub below_14 : (n k : ℕ) → n < 10 ^ k → k < 14 → n < 10000000000000
below_14 n k h j =
    let low : k ≤ 13 = omega arith in
    let most : 10 ^ k ≤ 10 ^ 13 = pow-le-pow_right (zero-lt-suc 9) low in
    omega arith
