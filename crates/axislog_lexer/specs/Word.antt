-- Words in a line (document 01, "The program axislog"). Positions are counted from 0.
use Rattle.std.specs.Prelude.{◌+◌, ◌∷◌}
use Rattle.std.specs.Prelude.{ℕ, List, [], Bool, false, cond, eqb, length, drop, Option, Some, None, option_and_then}

-- a step that may find nothing, and the next step on what it found
infixl 10 ◌>>=◌
abbrev pub ◌>>=◌ : {A B : Type 0} → Option A → (A → Option B) → Option B
o >>= f = option_and_then f o

-- a word, and a text from position p on that begins with it: the position after the word
unfoldable pub past : List ℕ → ℕ → List ℕ → Option ℕ
past [] p text = Some p
past (w ∷ ws) p [] = None
past (w ∷ ws) p (x ∷ xs) = cond (eqb x w) (past ws (p + 1) xs) None

-- a place is position q
abbrev pub is_at : Option ℕ → ℕ → Bool
is_at (Some p) q = eqb p q
is_at None q = false

-- the word stands at position p, and the line ends there
unfoldable pub ends : List ℕ → ℕ → List ℕ → Bool
ends word p line = is_at (past word p (drop p line)) (length line)
