-- Document 01, "The session program", and document 02, (iii): the columns of a line, read and written. Bytes are ASCII: 32 space, 48 to 57
-- the digits.
use Rattle.std.specs.Prelude.{ℕ, zero, suc, ◌+◌, ◌-◌, ◌*◌, ◌/◌, ◌%◌, Bool, cond, ◌&&◌, List, [], ◌∷◌, ◌++◌, eqb, leb, length, take, drop, replicate, Option, None, Some}
use Rattle.calls.specs.declared.Request.{Request}
use Rattle.std.proofs.Math.Seq.{paste}
use Rattle.calls.specs.declared.Numbers.{Numbers}
use Rattle.calls.specs.Requests.{request_of}
use Rattle.wire.specs.declared.Scan.{Scan}
use Rattle.wire.specs.declared.Scan.TheVariants.{Blank, Digits, Bad}

-- ---- the columns

abbrev pub total : List ℕ → ℕ
total [] = 0
total (w ∷ ws) = w + total ws

-- an input line: a call code in columns 1 to 2, five numbers of 14 columns and the caller in as many
abbrev pub call_columns : List ℕ
call_columns = 2 ∷ replicate 6 14

-- so it has 86 bytes before its line feed
abbrev pub call_width : ℕ
call_width = total call_columns

-- an output line: the answer in 2 columns and three numbers of 14
abbrev pub answer_columns : List ℕ
answer_columns = 2 ∷ replicate 3 14

-- so it has 44 bytes before its line feed
abbrev pub answer_width : ℕ
answer_width = total answer_columns

-- ---- reading

-- a field is spaces, then digits
abbrev pub is_digit : ℕ → Bool
is_digit b = leb 48 b && leb b 57

-- a digit b after the number n
unfoldable pub digit : ℕ → ℕ → Scan
digit n b = cond (is_digit b) (Digits (10 * n + (b - 48))) Bad

-- one column more; no leading zeros: after a 0 nothing may follow
unfoldable pub column : Scan → ℕ → Scan
column Blank b = cond (eqb b 32) Blank (digit 0 b)
column (Digits n) b = cond (eqb n 0) Bad (digit n b)
column Bad b = Bad

unfoldable pub columns : Scan → List ℕ → Scan
columns f [] = f
columns f (b ∷ bs) = columns (column f b) bs

-- a field of spaces alone is none
abbrev pub ended : Scan → Option ℕ
ended Blank = None
ended (Digits n) = Some n
ended Bad = None

-- the number that a field shows, if it is one
abbrev pub field_of : List ℕ → Option ℕ
field_of bs = ended (columns Blank bs)

-- the numbers in columns of these widths, if each field has one
abbrev pub with_number : Option ℕ → Option (List ℕ) → Option (List ℕ)
with_number (Some n) (Some ns) = Some (n ∷ ns)
with_number (Some n) None = None
with_number None ns = None

unfoldable pub numbers_in : List ℕ → List ℕ → Option (List ℕ)
numbers_in [] line = Some []
numbers_in (w ∷ ws) line = with_number (field_of (take w line)) (numbers_in ws (drop w line))

-- the numbers of an input line, given without its line feed, if it has them
abbrev pub row_in : List ℕ → Option (List ℕ)
row_in line = cond (eqb (length line) call_width) (numbers_in call_columns line) None

-- and what they ask
abbrev pub request_by : Option (List ℕ) → Option Request
request_by None = None
request_by (Some ns) = request_of ns

unfoldable pub line_read : List ℕ → Option Request
line_read line = request_by (row_in line)

-- ---- writing

abbrev pub digit_of : ℕ → ℕ
digit_of n = 48 + n % 10

-- the columns left of a number's last digit: what is left of the number, and spaces where nothing is left
abbrev pub left_digit : ℕ → ℕ
left_digit n = cond (eqb n 0) 32 (digit_of n)

unfoldable pub left : ℕ → ℕ → List ℕ
left zero n = []
left (suc w) n = left w (n / 10) ++ (left_digit n ∷ [])

-- a number in w columns
unfoldable pub text : ℕ → ℕ → List ℕ
text zero n = []
text (suc w) n = left w (n / 10) ++ (digit_of n ∷ [])

-- numbers in columns of these widths
unfoldable pub text_of : List ℕ → List ℕ → List ℕ
text_of [] ns = []
text_of (w ∷ ws) [] = []
text_of (w ∷ ws) (n ∷ ns) = text w n ++ text_of ws ns

-- an output line without its line feed
unfoldable pub answer_text : Numbers → List ℕ
answer_text a = text_of answer_columns (a.number ∷ a.first ∷ a.second ∷ a.third ∷ [])

-- room in the buffer out for that line, from place `at` on
abbrev pub room_at : List ℕ → ℕ → Bool
room_at out at = leb (at + answer_width) (length out)

-- out with that line written over its bytes from place `at` on; without room it stays
abbrev pub rendered : Numbers → List ℕ → ℕ → List ℕ
rendered a out at = cond (room_at out at) (paste out at (answer_text a) answer_width) out

-- ---- words of inner contracts

-- the number read so far
abbrev pub so_far : Scan → ℕ
so_far Blank = 0
so_far (Digits n) = n
so_far Bad = 0
