-- Laws of a piece that is taken line by line, as the loop in `feed_all` takes it. Assumes nothing.
use Rattle.std.proofs.Common.{◌≡◌, ℕ, ◌+◌, ◌*◌, ◌≤◌, min, List, [], ◌∷◌, ◌++◌, length, take, drop, sym, ap, ◌∙◌, arith, append-nil, length-append}
use Rattle.std.proofs.Math.Seq.{paste, take-take}
use Rattle.stream.specs.declared.Session.{Session}
use Rattle.stream.specs.declared.Stream.{Stream}
use Rattle.stream.specs.declared.Reply.{Reply}
use Rattle.stream.specs.Session.{answered}
use Rattle.stream.specs.Input.{output_line, begun, kept_width, kept, output_width, Taken}
use Rattle.stream.proofs.Bytes.{keep_first, output_all, output_front, output_back, same_further}
use Rattle.stream.proofs.Lines.{standing, standing_kept, standing_end, standing_bytes, line_taken, piece_taken}
use Rattle.stream_line_code.specs.Feeds.{NoFeed, Split}

module _ (x : Stream) (piece before : List ℕ) where
  -- Before what is left of the piece: `at` bytes of out are written, and the others are as before. What is still to come leaves the stream y
  -- where the whole piece leaves x.
  pub record Feeding (y : Stream) (out : List ℕ) (at : ℕ) (left : List ℕ) : Type 0 where
    pub room : at + output_width * length left ≤ length out
    pub bounded : y.count ≤ kept_width
    pub others : drop at out ≡ drop at before
    pub stands : standing x.session (begun x) [] piece ≡ standing y.session (begun y) (take at out) left

  -- at first no more bytes of the line that has begun are counted than are kept
  pub begins : (n : ℕ) → n ≡ min x.count kept_width
      → standing x.session (begun x) [] piece ≡ standing x.session (take n x.bytes) [] piece
  begins n e =
      sym (standing_kept x.session (begun x) [] piece)
      ∙ ap (λ (g : List ℕ). standing x.session g [] piece) (sym (keep_first x.bytes x.count n e))

  module _ (y : Stream) (out : List ℕ) (at : ℕ) (left : List ℕ) (v : Feeding y out at left) where
    -- there is room for the output line of a line
    pub line_room : (line rest : List ℕ) → Split left line rest → at + output_width + output_width * length rest ≤ length out
    line_room line rest s = omega (arith, v.room, ap length s.all, length-append line (10 ∷ rest))

    -- it is answered, its output line is written, and z is the stream after it
    pub line_fed : (line rest : List ℕ) → Split left line rest → (r : Reply) → r ≡ answered y.session (begun y ++ line)
        → (now : List ℕ) → now ≡ paste out at (output_line r.answer) output_width
        → (z : Stream) → z.session ≡ r.session → z.count ≡ 0 → Feeding z now (at + output_width) rest
    line_fed line rest s r replies now written z after none =
        let w = take at out in
        let room : at + output_width ≤ length out = omega (arith, line_room line rest s) in
        record {
          room = omega (arith, line_room line rest s, ap length written ∙ output_all out at r.answer room);
          bounded = omega arith;
          others = ap (drop (at + output_width)) written ∙ output_back out at r.answer room ∙ same_further output_width at out before v.others;
          stands =
              v.stands
              ∙ ap (standing y.session (begun y) w) s.all
              ∙ standing_bytes y.session (begun y) w line (10 ∷ rest) (λ k h. s.none k (omega arith) h)
              ∙ line_taken y.session (begun y ++ line) w rest r _ replies (ap (take (at + output_width)) written ∙ output_front out at r.answer room)
              ∙ ap (λ (q : Session). standing q [] (take (at + output_width) now) rest) (sym after)
              ∙ ap (λ (n : ℕ). standing z.session (take n z.bytes) (take (at + output_width) now) rest) (sym none);
        }

    -- no line feed is left: the rest is kept, and z is the stream after it
    pub piece_fed : NoFeed left 0 (length left) → (z : Stream) → z.session ≡ y.session → begun z ≡ kept (begun y ++ left) → z.count ≤ kept_width
        → Taken x piece before at z out
    piece_fed none z same rest bounded =
        let w = take at out in
        let g = begun y ++ left in
        let kept_so : kept g ≡ kept (begun z) = sym (ap kept rest ∙ take-take kept_width kept_width g (omega arith)) in
        piece_taken x piece before out z at (omega (arith, v.room)) bounded v.others
        (v.stands
        ∙ ap (standing y.session (begun y) w) (sym (append-nil left))
        ∙ standing_bytes y.session (begun y) w left [] (λ k h. none k (omega arith) h)
        ∙ standing_end y.session g w
        ∙ ap (λ (q : Session). record { session = q; begins = kept g; written = w }) (sym same)
        ∙ ap (λ (l : List ℕ). record { session = z.session; begins = l; written = w }) kept_so)
