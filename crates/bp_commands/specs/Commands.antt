-- Commands, their inputs, their results and their output.
use Rattle.std.specs.Prelude.{◌≡◌, ℕ, ◌+◌, ◌≤◌, List, Option, length, ⊤, ◌⊎◌, [], Result, MatchResult}
use Rattle.std.specs.Io.KnownBytes.{Consumes, IsAtEnd, Keeps}
use Rattle.std.specs.declared.io.ErrorKind.{ErrorKind}
use Rattle.std.specs.declared.io.ErrorKind.TheVariants.{OutOfMemory}
use Rattle.bp_text.specs.Writing.{AppendsAll, AppendsPart}
use Rattle.bp_syntax.specs.declared.limits.TheConstants.{TEXT_LIMIT}
use Rattle.bp_messages.specs.declared.error_lines.InputError.{InputError}
use Rattle.bp_messages.specs.declared.error_lines.InputError.TheVariants.{Device, TooLong, Memory}
use Rattle.bp_messages.specs.declared.errors.Error.{Error}
use Rattle.bp_messages.specs.ErrorTable.{error_of_input, error_of_text}
use Rattle.bp_messages.specs.declared.errors.Error.TheVariants.{Write}
use Rattle.bp_trace.specs.declared.limits.TheConstants.{MAX_SCHEDULE, MAX_TRACE}
use Rattle.bp_commands.specs.declared.explanations.SecondInput.{SecondInput}
use Rattle.bp_commands.specs.declared.explanations.SecondInput.TheVariants.{Schedule, Steps, Trace}
use Rattle.bp_commands.specs.declared.limits.TheConstants.{MAX_BUNDLE}

-- The bytes that reading an input within its limit takes, and its result.

-- why an input is not opened or read, by the kind of the system's error
abbrev pub reading_error_of : ErrorKind → InputError
reading_error_of OutOfMemory = Memory
reading_error_of _ = Device

-- all bytes that the reader had, within the limit
pub record IsInput (limit : ℕ) (old new : Option (List ℕ)) (bytes : List ℕ) : Type 0 where
  pub taken : Consumes old new bytes
  pub ended : IsAtEnd new
  pub short : length bytes ≤ limit

pub record TookAtMost (old new : Option (List ℕ)) (n : ℕ) : Type 0 where
  pub bytes : List ℕ
  pub taken : Consumes old new bytes
  pub short : length bytes ≤ n

-- the reader gave one byte more than the limit
pub record IsTooLong (limit : ℕ) (old new : Option (List ℕ)) : Type 0 where
  pub bytes : List ℕ
  pub taken : Consumes old new bytes
  pub long : length bytes ≡ limit + 1

-- it does not say when a read fails or memory is refused
abbrev pub IsInputRefusal : ℕ → Option (List ℕ) → Option (List ℕ) → InputError → Type 0
IsInputRefusal limit old new Device = ⊤
IsInputRefusal limit old new TooLong = IsTooLong limit old new
IsInputRefusal limit old new Memory = TookAtMost old new limit

-- the most bytes of a second input of this kind
abbrev pub limit_of : SecondInput → ℕ
limit_of Schedule = MAX_SCHEDULE
limit_of Steps = MAX_SCHEDULE
limit_of Trace = MAX_TRACE

-- The inputs of a command: their contents if they are read, and why they are not.

-- the contents of the inputs, and the errors for which they are not read
pub record Inputs (X : Type 0) : Type 1 where
  pub Holds : X → Type 0
  pub Unread : Error → Type 0

-- The bytes left to a reader before and after it was read, if they are known. At most one byte more
-- than the limit is taken. It does not say when a read fails or memory is refused.
module _ (error_of : InputError → Error) (limit : ℕ) (old new : Option (List ℕ)) where
  pub record IsRefusedInput (f : Error) : Type 0 where
    pub cause : InputError
    pub why : IsInputRefusal limit old new cause
    pub within : TookAtMost old new (limit + 1)
    pub is : f ≡ error_of cause

-- an input other than a program text
abbrev pub IsReadRefused : ℕ → Option (List ℕ) → Option (List ℕ) → Error → Type 0
IsReadRefused limit old new f = IsRefusedInput error_of_input limit old new f

-- a bundle
abbrev pub bundle_alone : Option (List ℕ) → Option (List ℕ) → Inputs (List ℕ)
bundle_alone old new = record {
  Holds = IsInput MAX_BUNDLE old new;
  Unread = IsReadRefused MAX_BUNDLE old new;
}

-- a program text
module _ (old new : Option (List ℕ)) where
  abbrev pub IsText : List ℕ → Type 0
  IsText text = IsInput TEXT_LIMIT old new text

  abbrev pub IsTextUnread : Error → Type 0
  IsTextUnread f = IsRefusedInput error_of_text TEXT_LIMIT old new f

  abbrev pub text_alone : Inputs (List ℕ)
  text_alone = record { Holds = IsText; Unread = IsTextUnread }

-- the contents of a program and a second input
pub record Pair : Type 0 where
  pub text : List ℕ
  pub input : List ℕ

-- a program text without a second input
abbrev pub text_alone_of : List ℕ → Pair
text_alone_of text = record { text = text; input = [] }

-- a program text, and then a second input, which has a limit
module _ (limit : ℕ) (text_old text_new old new : Option (List ℕ)) where
  pub record IsPairIn (pair : Pair) : Type 0 where
    pub text : IsText text_old text_new pair.text
    pub input : IsInput limit old new pair.input

  -- the text was read, and the second input was not
  pub record IsInputUnread (f : Error) : Type 0 where
    pub text : List ℕ
    pub whole : IsText text_old text_new text
    pub unread : IsReadRefused limit old new f

  -- the text was not read, and the second input was not touched
  abbrev pub IsPairUnread : Error → Type 0
  IsPairUnread f = ((new ≡ old) × IsTextUnread text_old text_new f) ⊎ IsInputUnread f

  abbrev pub text_and : Inputs Pair
  text_and = record { Holds = IsPairIn; Unread = IsPairUnread }

-- Commands, and their results and output.

-- A command: the texts that it may write of its inputs; its report after a whole one; the errors
-- for which it refuses the inputs; and the errors that end it after a text was written.
pub record Command (X R : Type 0) : Type 1 where
  pub Writes : X → List ℕ → Type 0
  pub Reports : X → List ℕ → R → Type 0
  pub Refuses : X → Error → Type 0
  pub Spoils : X → List ℕ → Error → Type 0

-- The bytes of the writer are those before and after the command.
module _ {X R : Type 0} (command : Command X R) (old new : Option (List ℕ)) where
  -- The command was given these inputs.
  module _ (given : X) where
    -- a text was written and reported
    pub record IsDoneWith (report : R) : Type 0 where
      pub text : List ℕ
      pub reports : command.Reports given text report
      pub written : AppendsAll old new text

    -- a proper prefix of a text was written
    pub record IsCutShort : Type 0 where
      pub text : List ℕ
      pub writes : command.Writes given text
      pub written : AppendsPart old new text

    -- an error ended the command after this was written
    pub record IsSpoilt (f : Error) : Type 0 where
      pub text : List ℕ
      pub spoils : command.Spoils given text f
      pub written : AppendsAll old new text

    -- the inputs are refused, and nothing is written; or the writer refused; or the error ended the
    -- command after something was written
    abbrev pub IsRefusedWith : Error → Type 0
    IsRefusedWith f =
        (Keeps old new × command.Refuses given f)
        ⊎ (((f ≡ Write) × IsCutShort)
        ⊎ IsSpoilt f)

  -- The inputs are those that the readers had.
  module _ (inputs : Inputs X) where
    -- the inputs were read, and a text was written and reported
    pub record IsDone (report : R) : Type 0 where
      pub given : X
      pub read : inputs.Holds given
      pub done : IsDoneWith given report

    -- the inputs were read, and refused
    pub record IsRefused (f : Error) : Type 0 where
      pub given : X
      pub read : inputs.Holds given
      pub refused : IsRefusedWith given f

    -- the inputs were not read, and nothing is written; or they were read, and refused
    abbrev pub IsNotDone : Error → Type 0
    IsNotDone f = (Keeps old new × inputs.Unread f) ⊎ IsRefused f

-- the result of a command on given inputs
abbrev pub AnswersOf
    : {X R : Type 0} → Command X R → X → Option (List ℕ) → Option (List ℕ) → Result R Error → Type 0
AnswersOf command given old new r =
    MatchResult r (IsDoneWith command old new given) (IsRefusedWith command old new given)

-- the result of a command on inputs that it reads
abbrev pub Answers
    : {X R : Type 0}
    → Command X R → Inputs X → Option (List ℕ) → Option (List ℕ) → Result R Error
    → Type 0
Answers command inputs old new r =
    MatchResult r (IsDone command old new inputs) (IsNotDone command old new inputs)
