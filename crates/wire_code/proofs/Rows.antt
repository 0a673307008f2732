-- Laws of reading the numbers of a line, field by field. Assumes nothing.
use Rattle.std.specs.Prelude.{Option, None, Some, option_map}
use Prim.Native.Nat.{ℕ, suc, ◌+◌, ◌<◌}
use native.Mathlib.Numerals.{add-one}
use native.Mathlib.Omega.{arith}
use mathlib.Core.Path.{◌≡◌, refl, sym, ap}
use mathlib.Core.List.{List, [], ◌∷◌, ◌++◌, append_assoc}
use lib.ListN.{length, take, drop, get_or, set}
use lib.Seq.{drop-cons, take-suc-set}
use Rattle.wire.specs.Format.{total, call_columns, field_of, with_number, numbers_in}

-- the columns from place i on
pub total_next : (i : ℕ) → i < 7 → total (drop i call_columns) ≡ get_or call_columns i 0 + total (drop (i + 1) call_columns)
total_next i h = rw (drop-cons call_columns i 0 h, add-one i) refl

-- reading goes on after the field at place i
pub numbers_next : (line : List ℕ) (i : ℕ) → i < 7
    → let w = get_or call_columns i 0 in
    numbers_in (drop i call_columns) line ≡ with_number (field_of (take w line)) (numbers_in (drop (i + 1) call_columns) (drop w line))
unfolding numbers_in
numbers_next line i h = rw (drop-cons call_columns i 0 h, add-one i) refl

-- the numbers ns, then those that are still to be read
abbrev pub before : List ℕ → Option (List ℕ) → Option (List ℕ)
before ns rest = option_map (λ (ms : List ℕ). ns ++ ms) rest

pub before_more : (ns : List ℕ) (i n : ℕ) (rest : Option (List ℕ)) → i < length ns
    → before (take i ns) (with_number (Some n) rest) ≡ before (take (i + 1) (set ns i n)) rest
before_more ns i n None h = refl
before_more ns i n (Some ms) h =
    let e : i + 1 ≡ suc i = omega arith in
    rw (e, take-suc-set ns i n h) (ap Some (sym (append_assoc (take i ns) (n ∷ []) ms)))
