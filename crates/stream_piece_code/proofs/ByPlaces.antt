-- Laws of a piece that is taken line by line, from place to place. No function goes by places any more: `feed_all` goes from what is left of
-- the piece to what is left of it, as Feeding says. The laws stand. Assumes nothing.
use Prim.Native.Nat.{ℕ, ◌+◌, ◌-◌, ◌*◌, ◌≤◌, ◌<◌}
use native.Mathlib.Omega.{arith}
use native.Mathlib.Numerals.{add-one}
use mathlib.Core.Path.{◌≡◌, sym, ap, ◌∙◌}
use mathlib.Core.List.{List, [], ◌∷◌, ◌++◌}
use lib.ListN.{length, take, drop, get_or}
use lib.Seq.{drop-cons, drop-length, take-take, paste}
use Rattle.calls.specs.Answers.{numbers_of}
use Rattle.table.specs.Table.{places}
use Rattle.line.specs.declared.Decision.{Decision}
use Rattle.wire.specs.Format.{line_read}
use Rattle.stream.specs.declared.Session.{Session}
use Rattle.stream.specs.declared.Stream.{Stream}
use Rattle.stream.specs.Session.{line_decision, replied}
use Rattle.stream.specs.Input.{output_line, begun, kept_width, kept, output_width, Taken}
use Rattle.stream.proofs.Bytes.{output_all, output_front, output_back, same_further}
use Rattle.stream.proofs.Lines.{Standing, standing, standing_byte, standing_kept, standing_end, line_taken, piece_taken}
use Rattle.stream_line_code.specs.Feeds.{LineEnd}
use Rattle.stream_line_code.proofs.Feeds.{part_taken}

-- a line that has begun with `count` bytes, and goes on from place i to place e of the piece
abbrev pub line_from : List ℕ → ℕ → List ℕ → ℕ → ℕ → List ℕ
line_from bytes count piece i e = take count bytes ++ take (e - i) (drop i piece)

-- the line feed at place e
feed_at : (piece : List ℕ) (e : ℕ) → e < length piece → get_or piece e 0 ≡ 10 → drop e piece ≡ 10 ∷ drop (e + 1) piece
feed_at piece e more feed = (rw (add-one e) (drop-cons piece e 0 more)) ∙ ap (λ (b : ℕ). b ∷ drop (e + 1) piece) feed

-- Before the line from place i on, which ends at place e: `at` bytes of out are written, an output line for a byte at most, and the others
-- are as before. What is still to come leaves the session where the whole piece leaves it.
pub record Feeding (piece before : List ℕ) (first : Standing) (out : List ℕ) (s : Session) (bytes : List ℕ) (count at i e : ℕ) : Type 0 where
  pub end : LineEnd piece i e
  pub room : at ≤ output_width * i
  pub size : length out ≡ length before
  pub line : length bytes ≡ kept_width
  pub bounded : count ≤ kept_width
  pub trains : length s.table.trains ≡ places
  pub others : drop at out ≡ drop at before
  pub stands : first ≡ standing s (take count bytes) (take at out) (drop i piece)

module _ (piece before : List ℕ) (first : Standing) (out : List ℕ) (s : Session) (bytes : List ℕ) (count at i e : ℕ) (all : output_width * length piece ≤ length before) (v : Feeding piece before first out s bytes count at i e) where
  abbrev line : List ℕ
  line = line_from bytes count piece i e

  module _ (more : e < length piece) where
    -- there is room for its output line
    pub line_room : at + output_width ≤ length out
    line_room = omega (arith, v.room, v.size, v.end.from)

    -- it is answered, its output line is written, and z is the session after it
    pub line_fed : (d : Decision) → d ≡ line_decision s (line_read line) → (now : List ℕ) → now ≡ paste out at (output_line (numbers_of d.answer)) output_width
        → (z : Session) → z ≡ (replied s d).session → length z.table.trains ≡ places
        → (bytes₂ : List ℕ) → length bytes₂ ≡ kept_width → (f : ℕ) → LineEnd piece (e + 1) f
        → Feeding piece before first now z bytes₂ 0 (at + output_width) (e + 1) f
    line_fed d decided now written z after trains bytes₂ long f end =
        let a = numbers_of d.answer in
        record {
          end = end;
          room = omega (arith, v.room, v.end.from);
          size = ap length written ∙ output_all out at a line_room ∙ v.size;
          line = long;
          bounded = omega arith;
          trains = trains;
          others = ap (drop (at + output_width)) written ∙ output_back out at a line_room ∙ same_further output_width at out before v.others;
          stands =
              v.stands
              ∙ part_taken (λ g. standing s g (take at out)) (λ g. standing_byte s g (take at out)) piece (take count bytes) i e v.end
              ∙ ap (standing s line (take at out)) (feed_at piece e more (v.end.feed more))
              ∙ line_taken s line (take at out) (drop (e + 1) piece) (replied s d) _ (ap (replied s) decided) (ap (take (at + output_width)) written ∙ output_front out at a line_room)
              ∙ ap (λ (q : Session). standing q [] (take (at + output_width) now) (drop (e + 1) piece)) (sym after);
        }

  -- no line feed is left: the rest is kept
  pub piece_fed : (x : Stream) → first ≡ standing x.session (kept (begun x)) [] piece → e ≡ length piece
      → (bytes₂ : List ℕ) (count₂ : ℕ) → take count₂ bytes₂ ≡ kept line → count₂ ≤ kept_width
      → Taken x piece before at (record { session = s; bytes = bytes₂; count = count₂ }) out
  piece_fed x began end bytes₂ count₂ rest bounded =
      let w = take at out in
      let none : drop e piece ≡ [] = ap (λ (n : ℕ). drop n piece) end ∙ drop-length piece in
      let begins : kept line ≡ kept (take count₂ bytes₂) = sym (ap kept rest ∙ take-take kept_width kept_width line (omega arith)) in
      let taken =
      sym (standing_kept x.session (begun x) [] piece)
      ∙ sym began
      ∙ v.stands
      ∙ part_taken (λ g. standing s g w) (λ g. standing_byte s g w) piece (take count bytes) i e v.end
      ∙ ap (standing s line w) none
      ∙ standing_end s line w
      ∙ ap (λ (l : List ℕ). record { session = s; begins = l; written = w }) begins in
      piece_taken x piece before out (record { session = s; bytes = bytes₂; count = count₂ }) at (omega (arith, v.room, v.size, v.end.from, v.end.within)) bounded v.others taken
