-- Document 01, "The session program", and document 02, (iii), said a second time: the columns of a line as numbers, and some texts byte by byte.
-- Reading and writing are told from each other in RoundTrip and Unique; a fault that both have is refused here.
-- Assumes nothing.
use mathlib.Core.List.{[], ◌∷◌, ◌++◌, append-nil}
use mathlib.Core.Path.{◌≡◌, refl}
use lib.ListN.{replicate}
use Rattle.calls.specs.declared.Numbers.{Numbers}
use Rattle.wire.specs.Format.{call_columns, answer_columns, left, text, text_of, answer_text}

-- "a call code in columns 1 to 2 and five numbers of 14 columns"; "the caller as a sixth number"
pub call_columns_lem : call_columns ≡ 2 ∷ 14 ∷ 14 ∷ 14 ∷ 14 ∷ 14 ∷ 14 ∷ []
call_columns_lem = refl

-- "the answer in 2 columns and three numbers of 14"
pub answer_columns_lem : answer_columns ≡ 2 ∷ 14 ∷ 14 ∷ 14 ∷ []
answer_columns_lem = refl

pub answer_in_order : (a : Numbers) → answer_text a ≡ text 2 a.number ++ (text 14 a.first ++ (text 14 a.second ++ text 14 a.third))
unfolding answer_text text_of
answer_in_order a = rw append-nil refl

-- "right-justified with spaces, no leading zeros": 0, 16 and 14,295,120,000
pub zero_text_lem : text 14 0 ≡ replicate 13 32 ++ (48 ∷ [])
unfolding text left
zero_text_lem = refl

pub code_text : text 2 16 ≡ 49 ∷ 54 ∷ []
unfolding text left
code_text = refl

pub head_text : text 14 14295120000 ≡ 32 ∷ 32 ∷ 32 ∷ 49 ∷ 52 ∷ 50 ∷ 57 ∷ 53 ∷ 49 ∷ 50 ∷ 48 ∷ 48 ∷ 48 ∷ 48 ∷ []
unfolding text left
head_text = refl
