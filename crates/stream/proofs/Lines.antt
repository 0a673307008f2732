-- Laws of a session, byte by byte. Assumes nothing.
use Rattle.std.specs.Prelude.{Option}
use Rattle.calls.specs.declared.Request.{Request}
use Prim.Native.Nat.{ℕ, zero, suc, ◌≤◌, ◌<◌}
use native.Mathlib.Omega.{arith}
use mathlib.Core.Path.{◌≡◌, refl, sym, ap, ◌∙◌}
use mathlib.Core.List.{List, [], ◌∷◌, ◌++◌, append_assoc, append-nil}
use lib.Dec.{eqb, leb}
use lib.ListN.{length, take, drop, get_or, length-take, take-append-drop}
use lib.Seq.{take_all, take-take, length-take-le}
use borrow.Author.Tests.{eq-eqb, ne_eqb, eqb-true, eqb-false, leb-true, leb-false}
use Rattle.logic.proofs.Tests.{by_test}
use Rattle.wire.specs.Format.{call_width, row_in, request_by, line_read}
use Rattle.stream.specs.declared.Session.{Session}
use Rattle.stream.specs.declared.Reply.{Reply}
use Rattle.stream.specs.declared.Stream.{Stream}
use Rattle.stream.specs.Session.{line_decision, replied, answered}
use Rattle.stream.specs.Input.{lines, rest, after, output_line, answers, begun, kept_width, kept, answers_to, Taken}
use Rattle.stream.proofs.Bytes.{keep_first}

-- Where a session stands once it has taken bytes in: the state, the line that has begun, and what has been written.
pub record Standing : Type 0 where
  pub session : Session
  pub begins : List ℕ
  pub written : List ℕ

abbrev pub standing : Session → List ℕ → List ℕ → List ℕ → Standing
standing s g w bs = record { session = after s (lines g bs); begins = kept (rest g bs); written = w ++ answers s (lines g bs) }

-- ---- of a line that is too long the kept bytes are enough

row_long : (l : List ℕ) → kept_width < length l → row_in (kept l) ≡ row_in l
row_long l h =
    let e : (length (kept l) ≡ call_width → ⊥) = λ p. omega (arith, length-take kept_width l) in
    simp (ne_eqb (length (kept l)) call_width e, ne_eqb (length l) call_width (λ p. omega arith))

pub row_kept : (l : List ℕ) → row_in (kept l) ≡ row_in l
row_kept l =
    by_test (leb (length l) kept_width)
    (λ e. ap row_in (take_all kept_width l (leb-true _ _ e)))
    (λ e. row_long l (leb-false _ _ e))

pub read_kept : (l : List ℕ) → line_read (kept l) ≡ line_read l
unfolding line_read
read_kept l = ap request_by (row_kept l)

pub kept_append : (n : ℕ) (l r : List ℕ) → take n (take n l ++ r) ≡ take n (l ++ r)
kept_append zero l r = refl
kept_append (suc n) [] r = refl
kept_append (suc n) (x ∷ l) r = ap (λ (m : List ℕ). x ∷ m) (kept_append n l r)

-- ---- one byte

module _ (s : Session) (g w : List ℕ) (b : ℕ) (bs : List ℕ) where
  -- a byte of a line
  pub standing_byte : (b ≡ 10 → ⊥) → standing s g w (b ∷ bs) ≡ standing s (g ++ (b ∷ [])) w bs
  unfolding lines rest
  standing_byte h = simp (ne_eqb b 10 h)

  -- a line feed: the line is answered
  standing_line : b ≡ 10
      → standing s g w (b ∷ bs) ≡ standing (answered s g).session [] (w ++ output_line (answered s g).answer) bs
  unfolding lines rest after answers
  standing_line h = simp (eq-eqb b 10 h, append_assoc)

-- what is beyond the kept bytes of the line that has begun makes no difference
pub standing_kept : (s : Session) (g w bs : List ℕ) → standing s (kept g) w bs ≡ standing s g w bs
unfolding lines rest after answers
standing_kept s g w [] = ap (λ (h : List ℕ). record { session = s; begins = h; written = w ++ [] }) (take-take kept_width kept_width g (omega arith))
standing_kept s g w (b ∷ bs) =
    by_test (eqb b 10)
    (λ e.
    let h : b ≡ 10 = eqb-true b 10 e in
    standing_line s (kept g) w b bs h
    ∙ ap (λ (r : Option Request). let q = replied s (line_decision s r) in standing q.session [] (w ++ output_line q.answer) bs) (read_kept g)
    ∙ sym (standing_line s g w b bs h))
    (λ e.
    let h : (b ≡ 10 → ⊥) = eqb-false b 10 e in
    standing_byte s (kept g) w b bs h
    ∙ sym (standing_kept s (kept g ++ (b ∷ [])) w bs)
    ∙ ap (λ (l : List ℕ). standing s l w bs) (kept_append kept_width g (b ∷ []))
    ∙ standing_kept s (g ++ (b ∷ [])) w bs
    ∙ sym (standing_byte s g w b bs h))

-- no byte more
pub standing_end : (s : Session) (g w : List ℕ) → standing s g w [] ≡ record { session = s; begins = kept g; written = w }
unfolding lines rest after answers
standing_end s g w = ap (λ (v : List ℕ). record { session = s; begins = kept g; written = v }) (append-nil w)

-- an input cut in two: the second part goes on where the first one stops
pub standing_cut : (s : Session) (g w a b : List ℕ)
    → standing s g w (a ++ b) ≡ standing (after s (lines g a)) (rest g a) (w ++ answers s (lines g a)) b
unfolding lines rest after answers
standing_cut s g w [] b = ap (λ (v : List ℕ). standing s g v b) (sym (append-nil w))
standing_cut s g w (c ∷ a) b =
    by_test (eqb c 10)
    (λ e.
    standing_line s g w c (a ++ b) (eqb-true c 10 e)
    ∙ standing_cut (answered s g).session [] (w ++ output_line (answered s g).answer) a b
    ∙ simp (e, append_assoc))
    (λ e. standing_byte s g w c (a ++ b) (eqb-false c 10 e) ∙ standing_cut s (g ++ (c ∷ [])) w a b ∙ simp e)

-- ---- feeding a piece

-- bytes without a line feed are of the line that has begun
pub standing_bytes : (s : Session) (g w l bs : List ℕ) → ((k : ℕ) → k < length l → get_or l k 0 ≡ 10 → ⊥)
    → standing s g w (l ++ bs) ≡ standing s (g ++ l) w bs
standing_bytes s g w [] bs none = ap (λ (h : List ℕ). standing s h w bs) (sym (append-nil g))
standing_bytes s g w (b ∷ l) bs none =
    standing_byte s g w b (l ++ bs) (none 0 (omega arith))
    ∙ standing_bytes s (g ++ (b ∷ [])) w l bs (λ k h. none (suc k) (omega arith))
    ∙ ap (λ (h : List ℕ). standing s h w bs) (append_assoc g (b ∷ []) l)

-- a line feed: the line is answered
pub line_taken : (s : Session) (g w bs : List ℕ) (r : Reply) (v : List ℕ) → r ≡ answered s g → v ≡ w ++ output_line r.answer
    → standing s g w (10 ∷ bs) ≡ standing r.session [] v bs
line_taken s g w bs r v e f =
    standing_line s g w 10 bs refl
    ∙ ap (λ (q : Reply). standing q.session [] (w ++ output_line q.answer) bs) (sym e)
    ∙ ap (λ (l : List ℕ). standing r.session [] l bs) (sym f)

-- the whole piece is taken: out holds the first `at` bytes as written and the others as before
module _ (x : Stream) (piece before out : List ℕ) (y : Stream) (at : ℕ) where
  pub piece_taken : at ≤ length out → y.count ≤ kept_width → drop at out ≡ drop at before
      → standing x.session (begun x) [] piece ≡ record { session = y.session; begins = kept (begun y); written = take at out }
      → Taken x piece before at y out
  piece_taken room bounded same e =
      let w : answers_to x piece ≡ take at out = ap (λ (z : Standing). z.written) e in
      let n : at ≡ length (answers_to x piece) = sym (ap length w ∙ length-take-le at out room) in
      record {
        turn = record {
          session = sym (ap (λ (z : Standing). z.session) e);
          begins = keep_first y.bytes y.count y.count (omega arith) ∙ sym (ap (λ (z : Standing). z.begins) e);
        };
        written = sym (take-append-drop at out) ∙ ap (λ (l : List ℕ). l ++ drop at out) (sym w) ∙ ap (λ (l : List ℕ). answers_to x piece ++ l) same
            ∙ ap (λ (k : ℕ). answers_to x piece ++ drop k before) n;
        count = n;
      }
