-- How a run ends, and how a refusal is reported and explained.
use Rattle.std.specs.Prelude.{◌≡◌, ℕ, List, [], ◌∷◌, Option, None, Result, Ok, Err, Bool, false, if◌then◌else◌, ◌⊎◌, ◌++◌, Some, IsErr, IsErrAnd, Vec}
use Rattle.std.specs.declared.alloc.AllocError.{AllocError}
use Rattle.std.specs.declared.alloc.Global.{Global}
use Rattle.bp_text.specs.Writing.{Writes}
use Rattle.bp_text.specs.declared.sinks.WriteError.{WriteError}
use Rattle.bp_text.specs.Lines.{IsOneLine}
use Rattle.bp_machine.specs.declared.calls.Report.{Report}
use Rattle.bp_machine.specs.Histories.{is_failure}
use Rattle.bp_trace.specs.declared.errors.ReplayError.TheVariants as replay
use Rattle.bp_advice.specs.declared.explanations.Explanation.{Explanation}
use Rattle.bp_advice.specs.Explanations.{ExplainsProgram, lines_of, sentence_of, IsUnexplained}
use Rattle.bp_source.specs.declared.tasks.ErrorFormat.{ErrorFormat}
use Rattle.bp_source.specs.declared.tasks.ErrorFormat.TheVariants as format
use Rattle.bp_explain.specs.ExplainedErrors.{ExplainsTrace, ExplainsSchedule, ExplainsSteps}
use Rattle.bp_run.specs.declared.answers.RunReport.{RunReport}
use Rattle.bp_messages.specs.declared.errors.Error.{Error}
use Rattle.bp_messages.specs.ErrorTable.{exit_status, error_line, status_of, error_row}
use Rattle.bp_messages.specs.declared.errors.Error.TheVariants.{Program, Setup, Schedule, Steps, Trace, Write, Device, TooLong, NoFailure}
use Rattle.bp_messages.specs.ErrorObjects.{error_object, IsValueIn}
use Rattle.bp_commands.specs.declared.run_ends.Explained.{Explained}
use Rattle.bp_commands.specs.declared.run_ends.RunEnd.{RunEnd}
use Rattle.bp_commands.specs.declared.explanations.SecondInput.{SecondInput}
use Rattle.bp_commands.specs.declared.explanations.SecondInput.TheVariants as second
use Rattle.bp_commands.specs.Commands.{Inputs, Pair, text_alone_of}

-- How a run ends: its exit status, and its text on standard error.

-- an assertion failed
abbrev pub report_failed : Report → Bool
report_failed r = is_failure r.outcome

-- the exit status and the text on standard error for a command's answer
pub record AnswerRule (T : Type 0) : Type 0 where
  pub status : T → ℕ
  pub summary : T → List ℕ

-- a report has no summary
abbrev pub of_report : AnswerRule Report
of_report = record { status = λ r. exit_status (report_failed r) None; summary = λ _. [] }

-- the answer of a run by workers has none either
abbrev pub of_run : AnswerRule RunReport
of_run = record { status = λ r. exit_status (report_failed r.report) None; summary = λ _. [] }

-- all was done, no assertion failed, and there is no summary
abbrev pub done : {T : Type 0} → AnswerRule T
done = record { status = λ _. exit_status false None; summary = λ _. [] }

-- there was nothing to explain
abbrev pub nothing_explained : Explained
nothing_explained = record { lines = Ok tt; told = Ok tt }

-- a summary was written, with a result that tells whether it was written whole; an empty one was
-- not written
abbrev pub HasSummary
    : List ℕ → Option (List ℕ) → Option (List ℕ) → Result (Unit {0}) WriteError → Type 0
HasSummary [] old new told = (new ≡ old) × (told ≡ Ok tt)
HasSummary (b ∷ bs) old new told = Writes old new (b ∷ bs) told

-- the line of an error was written, with a result that tells whether it was written whole
abbrev pub HasErrorLine
    : Error → Option (List ℕ) → Option (List ℕ) → Result (Unit {0}) WriteError → Type 0
HasErrorLine f old new told = Writes old new (error_line f) told

module _
    {T : Type 0} (rule : AnswerRule T)
    (IsReported
    : Error → Option (List ℕ) → Option (List ℕ) → Result (Unit {0}) WriteError → Type 0) where
  -- the status of the answer, and its summary or the report of its error
  abbrev pub IsEndOf : Result T Error → RunEnd → Option (List ℕ) → Option (List ℕ) → Type 0
  IsEndOf (Ok answer) e old new =
      (e.status ≡ rule.status answer)
      × HasSummary (rule.summary answer) old new e.told
  IsEndOf (Err f) e old new = (e.status ≡ status_of f) × IsReported f old new e.told

-- The text that `--explain` adds after the line of an error: the explanation of that error in the
-- text that was read, or else its sentence.

-- this explains an error of the program's text in the file of this name
abbrev pub ExplainsText : List ℕ → List ℕ → Error → Explanation → Type 0
ExplainsText name text (Program f) e = ExplainsProgram name text f e
ExplainsText name text f e = ⊥

-- this explains an error of the second input, in the file of this name
abbrev pub ExplainsInput : SecondInput → List ℕ → List ℕ → Error → Explanation → Type 0
ExplainsInput second.Trace name trace (Trace f) e = ExplainsTrace name trace f e
ExplainsInput second.Trace name trace (Setup f) e = ExplainsTrace name trace (replay.Setup f) e
ExplainsInput second.Schedule name schedule (Schedule f) e = ExplainsSchedule name f e
ExplainsInput second.Steps name steps (Steps f) e = ExplainsSteps name f e
ExplainsInput kind name input f e = ⊥

-- this explains an error of either input
abbrev pub ExplainsPair : SecondInput → List ℕ → List ℕ → Pair → Error → Explanation → Type 0
ExplainsPair kind name input_name given f e =
    ExplainsText name given.text f e ⊎ ExplainsInput kind input_name given.input f e

-- a sentence on one line
pub record IsSentenceLine (said : List ℕ) : Type 0 where
  pub sentence : List ℕ
  pub one_line : IsOneLine sentence
  pub is : said ≡ sentence ++ 10 ∷ []

-- the text is the lines of an explanation, or its sentence, or None without an explanation
abbrev pub IsTextOf
    : (in_lines : Bool) → (Explanation → Type 0) → Option (Vec ℕ Global) → Type 0
IsTextOf in_lines Explains (Some text) =
    (e : Explanation) × Explains e
    × (text.items ≡ (if in_lines then lines_of e else sentence_of e))
IsTextOf in_lines Explains None = IsUnexplained Explains

-- the message is the sentence of an explanation, if there is one
abbrev pub IsSentence : (Explanation → Type 0) → List ℕ → Type 0
IsSentence Explains message =
    ((e : Explanation) × Explains e × (message ≡ sentence_of e)) ⊎ IsUnexplained Explains

-- it is that message, or memory for the sentence was refused
abbrev pub IsMessage : (Explanation → Type 0) → Explained → List ℕ → Type 0
IsMessage Explains told message =
    ((told.lines ≡ Ok tt) × IsSentence Explains message) ⊎ IsErr told.lines

-- the text is the lines of an explanation, or a sentence if nothing explains the error
abbrev pub AreLinesOf : (Explanation → Type 0) → List ℕ → Type 0
AreLinesOf Explains said =
    ((e : Explanation) × Explains e × (said ≡ lines_of e))
    ⊎ (IsUnexplained Explains × IsSentenceLine said)

-- it is that text, or a sentence if memory for the lines was refused
abbrev pub IsSaid : (Explanation → Type 0) → Explained → List ℕ → Type 0
IsSaid Explains told said =
    ((told.lines ≡ Ok tt) × AreLinesOf Explains said)
    ⊎ (IsErr told.lines × IsSentenceLine said)

-- the text if these lines were made, or memory for them was refused
abbrev pub IsSaidFor
    : Result (Option (Vec ℕ Global)) AllocError → Explained → List ℕ → Type 0
IsSaidFor (Ok (Some lines)) told said = (told.lines ≡ Ok tt) × (said ≡ lines.items)
IsSaidFor (Ok None) told said = (told.lines ≡ Ok tt) × IsSentenceLine said
IsSaidFor (Err refused) told said = IsErr told.lines × IsSentenceLine said

-- No line of an explanation was to be written. In JSON its sentence is in the object; otherwise
-- there was nothing to explain.
abbrev pub IsUntold : {R : Type 0} → ErrorFormat → Result R Error → Explained → Type 0
IsUntold format.Json (Err f) e = e.told ≡ Ok tt
IsUntold other _ e = e ≡ nothing_explained

-- Standard error has these bytes before and after the addition. After a refusal that this format
-- explains by lines, those lines are added, with a result that tells whether they were written
-- whole. Otherwise nothing is added.
abbrev pub IsTold
    : {R : Type 0} → ErrorFormat → (Error → Explained → List ℕ → Type 0) → Result R Error
    → Explained → Option (List ℕ) → Option (List ℕ) → Type 0
IsTold format.Explained IsSaid (Err f) e old new =
    (said : List ℕ) × IsSaid f e said × Writes old new said e.told
IsTold other IsSaid done e old new = (new ≡ old) × IsUntold other done e

-- these inputs were read, or the answer is why they were not
abbrev pub AreReadOr : {X R : Type 0} → Inputs X → X → Result R Error → Type 0
AreReadOr inputs given done = inputs.Holds given ⊎ IsErrAnd done inputs.Unread

-- these inputs were not read; the reported error is why, or that the output was not written
abbrev pub AreUnread : {X : Type 0} → Inputs X → Error → Type 0
AreUnread inputs told = (why : Error) × inputs.Unread why × ((told ≡ why) ⊎ (told ≡ Write))

-- these inputs were read, or the reported error is of inputs that were not
abbrev pub AreReadOrNot : {X : Type 0} → Inputs X → X → Error → Type 0
AreReadOrNot inputs given f = inputs.Holds given ⊎ AreUnread inputs f

-- The text on an error: it is of the inputs that were read, or of why they were not.
module _ {X : Type 0} (inputs : Inputs X) (Explains : X → Error → Explanation → Type 0) where
  pub record IsSaidOfRead (f : Error) (e : Explained) (said : List ℕ) : Type 0 where
    pub given : X
    pub read : AreReadOrNot inputs given f
    pub is : IsSaid (Explains given f) e said

-- The report of a refusal on standard error, in each format.

-- The error is reported in this format: its line was written, or else one of these objects; the
-- result tells whether it was written whole.
abbrev pub IsReported
    : ErrorFormat → (Error → List ℕ → Type 0) → Error
    → Option (List ℕ) → Option (List ℕ) → Result (Unit {0}) WriteError → Type 0
IsReported format.Json IsObject f old new told =
    (object : List ℕ) × IsObject f object × Writes old new object told
IsReported other IsObject f old new told = HasErrorLine f old new told

-- the file of an error of a command on one program
abbrev pub IsFileOfText : List ℕ → Error → Option (List ℕ) → Type 0
IsFileOfText name Device file = file ≡ Some name
IsFileOfText name (Program f) file = file ≡ Some name
IsFileOfText name f file = file ≡ None

-- The file of an error of a command on a program and a second input. It does not say which of them
-- could not be read.
abbrev pub IsFileOfPair : SecondInput → List ℕ → List ℕ → Error → Option (List ℕ) → Type 0
IsFileOfPair kind name input_name Device file = (file ≡ Some name) ⊎ (file ≡ Some input_name)
IsFileOfPair kind name input_name (Program f) file = file ≡ Some name
IsFileOfPair kind name input_name TooLong file = file ≡ Some input_name
IsFileOfPair kind name input_name (Schedule f) file = file ≡ Some input_name
IsFileOfPair kind name input_name (Steps f) file = file ≡ Some input_name
IsFileOfPair kind name input_name (Trace f) file = file ≡ Some input_name
IsFileOfPair kind name input_name NoFailure file = file ≡ Some input_name
IsFileOfPair second.Trace name input_name (Setup f) file = file ≡ Some input_name
IsFileOfPair kind name input_name f file = file ≡ None

-- an error is in such a file, of these inputs
module _ (IsIn : Error → Option (List ℕ) → Type 0) (given : Pair) where
  -- its object with this message
  pub record IsObjectWith (f : Error) (message object : List ℕ) : Type 0 where
    pub file : Option (List ℕ)
    pub named : IsIn f file
    pub value : Option (List ℕ × Bool)
    pub value_is : let r = error_row f in IsValueIn given.input r.detail value
    pub is : object ≡ error_object f file given.text value message

  -- its object, whose message is the sentence of its explanation
  module _ (Explains : Error → Explanation → Type 0) where
    pub record IsObjectIn (e : Explained) (f : Error) (object : List ℕ) : Type 0 where
      pub message : List ℕ
      pub said : IsMessage (Explains f) e message
      pub is : IsObjectWith f message object

-- the report of errors of these inputs: the explanation of one, and its object
pub record ErrorReport (X : Type 0) : Type 1 where
  pub Explains : X → Error → Explanation → Type 0
  pub IsObject : X → Explained → Error → List ℕ → Type 0

abbrev pub on_text : List ℕ → ErrorReport (List ℕ)
on_text name = record {
  Explains = ExplainsText name;
  IsObject = λ text. IsObjectIn (IsFileOfText name) (text_alone_of text) (ExplainsText name text);
}

abbrev pub on_pair : SecondInput → List ℕ → List ℕ → ErrorReport Pair
on_pair kind name input_name = record {
  Explains = ExplainsPair kind name input_name;
  IsObject = λ given.
      let Explains = ExplainsPair kind name input_name given in
      IsObjectIn (IsFileOfPair kind name input_name) given Explains;
}

-- an error of a bundle is told only in a sentence, and is in no file
abbrev pub on_bytes : ErrorReport (List ℕ)
on_bytes = record {
  Explains = λ _ _ _. ⊥;
  IsObject = λ bytes. IsObjectIn (λ _ file. file ≡ None) (text_alone_of bytes) (λ _ _. ⊥);
}

-- the object of an error, of the inputs that were read or of why they were not
module _
    {X : Type 0} (inputs : Inputs X) (IsObject : X → Explained → Error → List ℕ → Type 0) where
  pub record IsObjectRead (e : Explained) (f : Error) (object : List ℕ) : Type 0 where
    pub given : X
    pub read : AreReadOrNot inputs given f
    pub is : IsObject given e f object

-- A run ended in this way: its summary was written, or its refusal in this format, as an object in
-- JSON. Then the explanation of the refusal was, if the format explains by lines.
abbrev pub IsConcluded
    : {R : Type 0} → AnswerRule R → ErrorFormat → (Explained → Error → List ℕ → Type 0)
    → (Error → Explained → List ℕ → Type 0) → Result R Error → RunEnd
    → Option (List ℕ) → Option (List ℕ) → Type 0
IsConcluded rule format IsObject IsSaid done end old new =
    (between : Option (List ℕ))
    × IsEndOf rule (IsReported format (IsObject end.explained)) done end old between
    × IsTold format IsSaid done end.explained between new
