-- A session as text: input lines, each with its answer.
use Rattle.std.specs.Prelude.{ℕ, List, [], ◌∷◌, ◌++◌}
use Prim.Native.Char.{code}
use Prim.Native.String.{String, [] as no_text, ◌∷◌ as ◌then◌}

-- an input line and its answer
pub record Exchange : Type 0 where
  pub input : String
  pub output : String

abbrev pub line : String → String → Exchange
line i o = record { input = i; output = o }

unfoldable pub bytes_of : String → List ℕ
bytes_of no_text = []
bytes_of (c then s) = code c ∷ bytes_of s

-- each line with its line feed
unfoldable pub input_of : List Exchange → List ℕ
input_of [] = []
input_of (x ∷ xs) = bytes_of x.input ++ (10 ∷ input_of xs)

unfoldable pub output_of : List Exchange → List ℕ
output_of [] = []
output_of (x ∷ xs) = bytes_of x.output ++ (10 ∷ output_of xs)
