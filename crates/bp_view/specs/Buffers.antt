-- The text given to a buffer in memory, if no memory was refused.
use Rattle.std.specs.Prelude.{◌≡◌, ◌++◌, ℕ, List, [], ◌∷◌, false, length}
use Rattle.bp_text.specs.Lines.{Adds}
use Rattle.bp_text.specs.declared.pieces.Piece.{Piece}
use Rattle.bp_text.specs.Pieces.{list_text, piece_text}
use Rattle.bp_view.specs.Lines.{led, shortened}
use Rattle.bp_view.specs.declared.buffers.Buffer.{Buffer}

-- the buffer has no text
pub record IsEmpty (new : Buffer) : Type 0 where
  pub fine : new.refused ≡ false
  pub none : new.bytes.items ≡ []

-- the buffer was given the text after its old one
pub record Grown (old new : Buffer) (text : List ℕ) : Type 0 where
  pub grown : new.refused ≡ false
      → (old.refused ≡ false) × (new.bytes.items ≡ old.bytes.items ++ text)

-- the buffer was given such a text
abbrev pub Gains : (List ℕ → Type 0) → Buffer → Buffer → Type 0
Gains Are old new =
    new.refused ≡ false → (old.refused ≡ false) × Adds Are old.bytes.items new.bytes.items

-- the texts of the pieces, and then the rest
abbrev pub then : List Piece → (rest : List ℕ) → List ℕ
then [] rest = rest
then (piece ∷ pieces) rest = piece_text piece ++ then pieces rest

-- the buffer has this text
abbrev pub HasTaken : Buffer → List ℕ → Type 0
HasTaken new text = new.refused ≡ false → new.bytes.items ≡ text

-- the items that begin at this place are made a list
pub record IsListed (start : ℕ) (old new : Buffer) : Type 0 where
  pub kept : new.refused ≡ false → old.refused ≡ false
  pub is : (before items : List ℕ)
      → start ≡ length before
      → new.refused ≡ false
      → old.bytes.items ≡ before ++ items
      → new.bytes.items ≡ before ++ list_text items

-- the lead that begins at `start` is removed if no note follows it, at `middle`
pub record IsLed (start middle : ℕ) (old new : Buffer) : Type 0 where
  pub same : new.refused ≡ old.refused
  pub is : (before lead note : List ℕ)
      → start ≡ length before
      → middle ≡ length (before ++ lead)
      → old.bytes.items ≡ before ++ lead ++ note
      → new.bytes.items ≡ before ++ led lead note

-- the text after the first `start` bytes is cut
pub record IsCutAfter (start room : ℕ) (old new : Buffer) : Type 0 where
  pub kept : new.refused ≡ false → old.refused ≡ false
  pub is : (before text : List ℕ)
      → start ≡ length before
      → new.refused ≡ false
      → old.bytes.items ≡ before ++ text
      → new.bytes.items ≡ before ++ shortened room text
