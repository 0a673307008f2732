-- Where a line ends in a piece of the input, as the code looks for it.
use Rattle.std.specs.Prelude.{ℕ, ◌≤◌, ◌<◌, ◌≡◌, List, ◌∷◌, ◌++◌, length, get_or}

-- ---- words of inner contracts

-- no line feed from place a on, before place b
abbrev pub NoFeed : List ℕ → ℕ → ℕ → Type 0
NoFeed l a b = (k : ℕ) → a ≤ k → k < b → get_or l k 0 ≡ 10 → ⊥

-- e is the place of the first line feed from place a on, or the end
pub record LineEnd (l : List ℕ) (a e : ℕ) : Type 0 where
  pub from : a ≤ e
  pub within : e ≤ length l
  pub none : NoFeed l a e
  pub feed : e < length l → get_or l e 0 ≡ 10

-- the first line of l, and what stands after its line feed
pub record Split (l line rest : List ℕ) : Type 0 where
  pub all : l ≡ line ++ (10 ∷ rest)
  pub none : NoFeed line 0 (length line)
