-- However reads cut an input into pieces, the session writes the same. Assumes nothing.
use Prim.Native.Nat.{ℕ, ◌*◌, ◌/◌, ◌≤◌}
use native.Mathlib.Omega.{arith}
use Rattle.std.specs.Prelude.{Option, Some, None, unwrap_or}
use mathlib.Core.Path.{◌≡◌, refl, sym, ap, ◌∙◌}
use mathlib.Core.Bool.{true≢false}
use mathlib.Core.List.{List, [], ◌∷◌, ◌++◌, append_assoc, append-nil}
use lib.ListN.{length}
use borrow.Author.Tests.{le-leb}
use Rattle.stream.specs.declared.Stream.{Stream}
use Rattle.stream.specs.Session.{closed}
use Rattle.stream.specs.Input.{lines, rest, after, answers, last_answer, output, begun, kept, output_width, has_room, over, answers_to, Taken, FeedPromise, FinishPromise, Turns}
use Rattle.stream.specs.Input.Turns.{no_turns, more}
use Rattle.stream.proofs.Bytes.{last_long}
use Rattle.stream.proofs.Lines.{Standing, standing, standing_kept, standing_end, standing_cut}

-- after turns the rest of the input goes on where they stopped
turns_stand : {x y : Stream} {input w : List ℕ} → Turns x input y w → (b : List ℕ)
    → standing x.session (begun x) [] (input ++ b) ≡ standing y.session (begun y) w b
turns_stand no_turns b = refl
turns_stand {x} (more {input} {y} {w} {piece} {z} t n) b =
    ap (standing x.session (begun x) []) (append_assoc input piece b)
    ∙ turns_stand t (piece ++ b)
    ∙ standing_cut y.session (begun y) w piece b
    ∙ sym (rw (n.session, n.begins) (standing_kept (after y.session (lines (begun y) piece)) (rest (begun y) piece) (w ++ answers_to y piece) b))

pub last_kept : (g : List ℕ) → last_answer (kept g) ≡ last_answer g
unfolding last_answer
last_kept [] = refl
last_kept (x ∷ g) = refl

-- Turns from a start on do not depend on how the input is cut.
module _ (x y : Stream) (input w : List ℕ) (s : x.session ≡ closed) (b : begun x ≡ []) (t : Turns x input y w) where
  stands : standing closed [] [] input ≡ record { session = y.session; begins = kept (begun y); written = w }
  stands =
      let e : standing x.session (begun x) [] input ≡ standing y.session (begun y) w [] = rw append-nil at (turns_stand t []) in
      rw (s, b) at (e ∙ standing_end y.session (begun y) w)

  -- they lead to the state after the lines of the whole input
  pub pieces_led : y.session ≡ after closed (lines [] input)
  pieces_led = sym (ap (λ (z : Standing). z.session) stands)

  -- and what they write, with the answer to a last line after it, is its output
  pub pieces_written : w ++ last_answer (begun y) ≡ output input
  pieces_written =
      ap (λ (l : List ℕ). w ++ l) (sym (last_kept (begun y)))
      ∙ ap (λ (z : Standing). z.written ++ last_answer z.begins) (sym stands)
      ∙ ap (λ (l : List ℕ). answers closed (lines [] input) ++ l) (last_kept (rest [] input))

-- ---- what a program has of `feed` and `finish` where there is room

-- each piece is taken
pub fed_taken : (x : Stream) (piece out : List ℕ) (r : Option ℕ) (y : Stream) (now : List ℕ) → FeedPromise x piece out r y now
    → output_width * length piece ≤ length out → Taken x piece out (unwrap_or r 0) y now
unfolding has_room
fed_taken x piece out (Some n) y now p room = p.so
fed_taken x piece out None y now p room =
    absurd (true≢false (sym (le-leb (length piece) (length out / output_width) (omega arith)) ∙ sym p.taken))

-- and so is the end of the input
pub last_taken : (x : Stream) (out : List ℕ) (r : Option ℕ) (now : List ℕ) → FinishPromise x out r now → output_width ≤ length out
    → (now ≡ over (last_answer (begun x)) out) × (unwrap_or r 0 ≡ length (last_answer (begun x)))
last_taken x out (Some n) now p room = (p.written, p.count)
last_taken x out None now p room =
    absurd (true≢false (sym (le-leb (length (last_answer (begun x))) (length out) (omega (arith, last_long (begun x)))) ∙ sym p.taken))
