-- Lines of a text, positions in it, its parts, and excerpts of it.
use Rattle.std.specs.Prelude.{if◌then◌else◌, ◌≡◌, ◌==◌, ℕ, false, List, [], ◌∷◌, ◌++◌, ◌+◌, not, length, filter, reverse, take, Some, slice_get}
use Rattle.std.specs.List.{before_first, take_while, concat}
use Rattle.bp_text.specs.declared.lines.Position.{Position}

-- Texts on one line, and the first line of a text.

-- the bytes before the first line feed
abbrev pub first_line : List ℕ → List ℕ
first_line text = before_first (λ b. b == 10) text

-- no byte is a line end
abbrev pub IsOneLine : List ℕ → Type 0
IsOneLine [] = Unit {0}
IsOneLine (b ∷ bs) = ((b == 10) ≡ false) × IsOneLine bs

-- the byte, with a space in place of a line end
abbrev pub on_one_line : ℕ → ℕ
on_one_line b = if b == 10 then 32 else b

-- the new bytes are the old ones and then a text on one line
pub record AddsOneLine (old new : List ℕ) : Type 0 where
  pub more : List ℕ
  pub is : new ≡ old ++ more
  pub one_line : IsOneLine more

-- Lines and columns of a text, both from 1; a column is a byte.

-- the position after these bytes: one line more for each line feed, and one column more for each
-- byte after the last of them
abbrev pub position_after : List ℕ → Position
position_after before = record {
  line = 1 + length (filter (λ b. b == 10) before);
  column = 1 + length (take_while (λ b. not (b == 10)) (reverse before));
}

-- the position of the byte at this offset of a text
abbrev pub position_at : List ℕ → ℕ → Position
position_at text at = position_after (take at text)

-- Texts of parts.

-- the new bytes are the old ones, and then such bytes
pub record Adds (Are : List ℕ → Type 0) (old new : List ℕ) : Type 0 where
  pub more : List ℕ
  pub is : new ≡ old ++ more
  pub more_are : Are more

-- A text of n parts, one after the other: part k, from 0, is such a text.
pub record IsInParts (IsPart : ℕ → List ℕ → Type 0) (n : ℕ) (text : List ℕ) : Type 0 where
  pub parts : List (List ℕ)
  pub count : length parts ≡ n
  pub is : text ≡ concat parts
  pub each : (k : ℕ) (part : List ℕ) → slice_get parts k ≡ Some part → IsPart k part
