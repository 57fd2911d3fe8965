-- The text that a call leaves in its writer, and the text given to a sink.
use Rattle.std.specs.Prelude.{ℕ, ◌<◌, List, Option, Result, MatchResult, length, take, ◌++◌, ◌≡◌, Bool, true, false, Ok, Err}
use Rattle.std.specs.Io.KnownBytes.{Appends}
use Rattle.std.specs.Borrow.{MutBor}
use Rattle.bp_text.specs.declared.sinks.WriteError.{WriteError}
use Rattle.bp_text.specs.declared.sinks.WriteError.TheVariants.{Write}
use Rattle.bp_text.specs.declared.sinks.Sink.{Sink}

-- The text that a writing call leaves in its writer, if the writer's bytes are known.

-- the whole text was appended
pub record AppendsAll (old new : Option (List ℕ)) (text : List ℕ) : Type 0 where
  pub grown : Appends old new text

-- a proper prefix of the text was appended
pub record AppendsPart (old new : Option (List ℕ)) (text : List ℕ) : Type 0 where
  pub count : ℕ
  pub short : count < length text
  pub grown : Appends old new (take count text)

-- a call that writes a text: all of it at Ok, a proper prefix of it at Err
abbrev pub Writes
    : {T E : Type 0} → Option (List ℕ) → Option (List ℕ) → List ℕ → Result T E → Type 0
Writes old new text r = MatchResult r (λ _. AppendsAll old new text) (λ _. AppendsPart old new text)

-- The part that a writer has of a text that is written as it is made.

-- A text of this kind was to be written; the bytes of the writer are those before and after it.
module _ (IsText : List ℕ → Type 0) (old new : Option (List ℕ)) where
  -- it was written
  pub record IsWritten : Type 0 where
    pub text : List ℕ
    pub is : IsText text
    pub written : AppendsAll old new text

  -- a beginning of it was written, which may be empty or the whole
  pub record IsBegun : Type 0 where
    pub begun : List ℕ
    pub rest : List ℕ
    pub is : IsText (begun ++ rest)
    pub written : AppendsAll old new begun

  -- a proper prefix of it was written
  pub record IsCutShort : Type 0 where
    pub text : List ℕ
    pub is : IsText text
    pub written : AppendsPart old new text

-- The contents of a sink after texts.

-- since `first` the writer took all of the text; or, if a write was refused, a proper prefix
abbrev pub HasTaken : Option (List ℕ) → Option (List ℕ) → Bool → List ℕ → Type 0
HasTaken first now false text = AppendsAll first now text
HasTaken first now true text = AppendsPart first now text

-- whatever the sink was given before, it has now also been given the text
pub record Given
    {W : Type 0} (contents : W → Option (List ℕ)) (old new : Sink W) (text : List ℕ)
    : Type 0 where
  pub same_reference : new.out.ghost_name ≡ old.out.ghost_name
  pub takes : (first : Option (List ℕ)) (before : List ℕ)
      → HasTaken first (contents old.out.now) old.refused before
      → HasTaken first (contents new.out.now) new.refused (before ++ text)

-- a new sink of this writer, which has refused nothing
pub record IsFresh {W : Type 0} (new : Sink W) (out : MutBor W) : Type 0 where
  pub same_reference : new.out.ghost_name ≡ out.ghost_name
  pub now : new.out.now ≡ out.now
  pub fine : new.refused ≡ false

abbrev pub result_of : Bool → Result (Unit {0}) WriteError
result_of true = Err Write
result_of false = Ok tt
