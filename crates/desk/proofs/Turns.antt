-- Laws of a piece that the desk takes line by line. Assumes nothing.
use Rattle.std.specs.Prelude.{Option, option_and_then}
use Prim.Native.Nat.{ℕ, suc, ◌≤◌, ◌<◌}
use native.Mathlib.Omega.{arith}
use native.Mathlib.Decide.{ℕ_discrete}
use mathlib.Core.Logic.{by_cases}
use mathlib.Core.Path.{◌≡◌, refl, sym, ap, ◌∙◌}
use mathlib.Core.List.{List, [], ◌∷◌, ◌++◌, append_assoc, append-nil}
use lib.ListN.{length, take, get_or, length-take}
use lib.Seq.{take_all}
use borrow.Author.Tests.{eq-eqb, ne_eqb}
use Rattle.stream.specs.declared.Session.{Session}
use Rattle.stream.specs.declared.Stream.{Stream}
use Rattle.stream.specs.Input.{lines, rest, begun, kept_width, kept}
use Rattle.stream.proofs.Lines.{row_kept, kept_append}
use Rattle.stream_line_code.specs.Feeds.{NoFeed, Split}
use Rattle.desk_line.specs.declared.DeskReply.{DeskReply}
use Rattle.desk_line.specs.Desk.{desk_ask, desk_read, shown_at, left_at, desk_answered, desk_after}
use Rattle.desk.specs.Program.{DeskTurn}

-- where the desk stands once it has taken bytes in: the state, and the line that has begun
pub record Standing : Type 0 where
  pub session : Session
  pub begins : List ℕ

abbrev pub standing : Session → List ℕ → List ℕ → Standing
standing s g bs = record { session = desk_after s (lines g bs); begins = kept (rest g bs) }

-- bytes cut in two: the second part goes on where the first one stops
standing_cut : (s : Session) (g a b : List ℕ) → standing s g (a ++ b) ≡ standing (desk_after s (lines g a)) (rest g a) b
unfolding lines rest desk_after
standing_cut s g [] b = refl
standing_cut s g (c ∷ a) b =
    by_cases (ℕ_discrete c 10)
    (λ e. simp (eq-eqb c 10 e) (standing_cut (desk_answered s g).session [] a b))
    (λ e. simp (ne_eqb c 10 e) (standing_cut s (g ++ (c ∷ [])) a b))

-- bytes without a line feed are of the line that has begun
standing_bytes : (s : Session) (g l : List ℕ) → ((k : ℕ) → k < length l → get_or l k 0 ≡ 10 → ⊥) → standing s g l ≡ record { session = s; begins = kept (g ++ l) }
unfolding lines rest desk_after
standing_bytes s g [] none = ap (λ (h : List ℕ). record { session = s; begins = kept h }) (sym (append-nil g))
standing_bytes s g (b ∷ l) none =
    simp (ne_eqb b 10 (none 0 (omega arith))) (standing_bytes s (g ++ (b ∷ [])) l (λ k h. none (suc k) (omega arith)))
    ∙ ap (λ (h : List ℕ). record { session = s; begins = kept h }) (append_assoc g (b ∷ []) l)

-- of a line that is too long the kept bytes are enough
answered_kept : (s : Session) (l : List ℕ) → desk_answered s (kept l) ≡ desk_answered s l
unfolding desk_read
answered_kept s l =
    ap (λ (o : Option (List ℕ)). let a = option_and_then desk_ask o in record { shown = shown_at s a; session = left_at s a }) (row_kept l)

-- no byte yet
pub none_taken : (x : Stream) → x.count ≤ kept_width → DeskTurn x [] x
unfolding lines rest desk_after
none_taken x bounded =
    record { session = refl; begins = sym (take_all kept_width (begun x) (omega (arith, length-take x.count x.bytes))); bounded = bounded }

-- more bytes
module _ (x : Stream) (piece : List ℕ) (y : Stream) (v : DeskTurn x piece y) where
  abbrev line : List ℕ
  line = rest (begun x) piece

  turn : (bs : List ℕ) (z : Stream) → standing y.session line bs ≡ record { session = z.session; begins = begun z } → z.count ≤ kept_width → DeskTurn x (piece ++ bs) z
  turn bs z e bounded =
      let stands = standing_cut x.session (begun x) piece bs ∙ ap (λ (s : Session). standing s line bs) (sym v.session) ∙ e in
      record { session = sym (ap (λ (q : Standing). q.session) stands); begins = sym (ap (λ (q : Standing). q.begins) stands); bounded = bounded }

  -- a line feed: the line is answered
  pub line_taken : (z : Session) → z ≡ (desk_answered y.session (begun y)).session → (bytes : List ℕ)
      → DeskTurn x (piece ++ (10 ∷ [])) (record { session = z; bytes = bytes; count = 0 })
  unfolding lines rest desk_after
  line_taken z e bytes =
      let answered : (desk_answered y.session line).session ≡ z =
      ap (λ (r : DeskReply). r.session) (sym (answered_kept y.session line)) ∙ ap (λ (l : List ℕ). (desk_answered y.session l).session) (sym v.begins) ∙ sym e in
      turn (10 ∷ []) _ (ap (λ (s : Session). record { session = s; begins = [] }) answered) (omega arith)

  -- bytes of a line: they are kept
  pub bytes_taken : (l : List ℕ) → NoFeed l 0 (length l) → (bytes : List ℕ) (count : ℕ) → take count bytes ≡ kept (begun y ++ l) → count ≤ kept_width
      → DeskTurn x (piece ++ l) (record { session = y.session; bytes = bytes; count = count })
  bytes_taken l none bytes count e bounded =
      let begins : kept (line ++ l) ≡ take count bytes =
      sym (kept_append kept_width line l) ∙ ap (λ (k : List ℕ). kept (k ++ l)) (sym v.begins) ∙ sym e in
      turn l _ (standing_bytes y.session line l (λ k h. none k (omega arith) h) ∙ ap (λ (k : List ℕ). record { session = y.session; begins = k }) begins) bounded

-- What is taken of a piece, before what is left of it: it leads from the stream x to the stream y.
pub record Taking (x : Stream) (piece : List ℕ) (y : Stream) (left : List ℕ) : Type 0 where
  pub taken : List ℕ
  pub all : piece ≡ taken ++ left
  pub turn : DeskTurn x taken y

module _ (x : Stream) (piece : List ℕ) (y : Stream) (left : List ℕ) (v : Taking x piece y left) (bytes : List ℕ) (count : ℕ) where
  -- a line ends: it is answered, and z is the state after it
  pub line_answered : (line next : List ℕ) → Split left line next → take count bytes ≡ kept (begun y ++ line) → count ≤ kept_width
      → (z : Session) → z ≡ (desk_answered y.session (take count bytes)).session
      → Taking x piece (record { session = z; bytes = bytes; count = 0 }) next
  line_answered line next s e bounded z after =
      record {
        taken = (v.taken ++ line) ++ (10 ∷ []);
        all = v.all ∙ ap (λ (l : List ℕ). v.taken ++ l) s.all ∙ rw (append_assoc (v.taken ++ line) (10 ∷ []) next) (sym (append_assoc v.taken line (10 ∷ next)));
        turn = line_taken x (v.taken ++ line) _ (bytes_taken x v.taken y v.turn line s.none bytes count e bounded) z after bytes;
      }

  -- no line feed is left: the rest is kept
  pub piece_taken : NoFeed left 0 (length left) → take count bytes ≡ kept (begun y ++ left) → count ≤ kept_width
      → DeskTurn x piece (record { session = y.session; bytes = bytes; count = count })
  piece_taken none e bounded = rw v.all (bytes_taken x v.taken y v.turn left none bytes count e bounded)
