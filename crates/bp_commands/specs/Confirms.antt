-- The command `confirm`.
use Rattle.std.specs.Prelude.{if◌then◌else◌, ◌≡◌, ◌⊎◌, ◌∷◌, ℕ, Bool, true, false, List, [], Option, None, Some, codes, decimal, drop, flat_map}
use Rattle.std.specs.List.{concat}
use Rattle.bp_text.specs.Pieces.{bit_text}
use Rattle.bp_syntax.specs.Ast.{Program}
use Rattle.bp_machine.specs.declared.calls.Call.{Call}
use Rattle.bp_machine.specs.Histories.{IsReport}
use Rattle.bp_machine.specs.Setups.{SetupOf}
use Rattle.bp_trace.specs.TraceText.{trace_text}
use Rattle.bp_confirm.specs.declared.confirmations.ConfirmError.{ConfirmError}
use Rattle.bp_confirm.specs.declared.choices.LastChoice.{LastChoice}
use Rattle.bp_confirm.specs.ConfirmedTexts.{IsConfirmedText, IsStepsRefusal}
use Rattle.bp_source.specs.declared.tasks.ConfirmTask.{ConfirmTask}
use Rattle.bp_source.specs.declared.tasks.Verdict.{Verdict}
use Rattle.bp_source.specs.declared.tasks.Verdict.TheVariants.{Failure, Deadlock, Run}
use Rattle.bp_messages.specs.declared.errors.Error.{Error}
use Rattle.bp_messages.specs.ErrorTable.{exit_status, error_of_steps}
use Rattle.bp_messages.specs.ErrorObjects.{verdict_object, ShownVerdict}
use Rattle.bp_commands.specs.Commands.{Command, Pair}
use Rattle.bp_commands.specs.Programs.{IsNotOpened, IsOpened}
use Rattle.bp_commands.specs.EndTexts.{is_verdict, AreEndTexts}
use Rattle.bp_commands.specs.ErrorReports.{AnswerRule}
use Rattle.bp_commands.specs.declared.confirmations.Confirmation.{Confirmation}

abbrev pub verdict_word : Verdict → List ℕ
verdict_word Failure = codes "failure"
verdict_word Deadlock = codes "deadlock"
verdict_word Run = codes "run"

-- the exit status: 1 for a failure; if a verdict is expected, 0 for this one and 4 for another
abbrev pub status_of_verdict : (expected : Option Verdict) → Verdict → ℕ
status_of_verdict None v = exit_status (is_verdict v Failure) None
status_of_verdict (Some w) v = if is_verdict w v then 0 else 4

-- a last bit on which a deadlock depends, after a comma as an object, else after a word
abbrev pub choice_text : (json : Bool) → LastChoice → List ℕ
choice_text true c =
    concat (
    codes ",{\"thread\":" ∷ decimal c.thread
    ∷ codes ",\"bit\":" ∷ bit_text c.bit ∷ codes "}" ∷ [])
choice_text false c =
    concat (
    codes " and ?=" ∷ bit_text c.bit
    ∷ codes " at the last step of thread " ∷ decimal c.thread ∷ [])

abbrev pub choices_text : (json : Bool) → List LastChoice → List ℕ
choices_text json choices = flat_map (choice_text json) choices

-- the text on a deadlock before the last bits on which it depends
abbrev pub deadlock_lead : (choices : List ℕ) → List ℕ
deadlock_lead [] = codes "the steps are a run of the program; they end in a deadlock"
deadlock_lead choices = codes "the steps are a run of the program; they may end in a deadlock, by"

-- the line of a deadlock; no word comes before the first of these bits
abbrev pub deadlock_line : (choices : List ℕ) → List ℕ
deadlock_line choices =
    concat (deadlock_lead choices ∷ drop 4 choices ∷ codes "\n" ∷ [])

-- the line of a verdict for people
abbrev pub verdict_line : (choices : List ℕ) → Verdict → List ℕ
verdict_line choices Failure =
    codes "the steps are a run of the program; an assertion fails at the last one\n"
verdict_line choices Deadlock = deadlock_line choices
verdict_line choices Run =
    codes "the steps are a run of the program; no assertion fails at the last one\n"

-- a failure has a line only if a verdict is expected
abbrev pub line_as : (expected : Option Verdict) → (choices : List ℕ) → Verdict → List ℕ
line_as None choices Failure = []
line_as expected choices v = verdict_line choices v

-- the verdict as shown to programs
abbrev pub confirmation_shown : Confirmation → ShownVerdict
confirmation_shown x = record {
  word = verdict_word x.said.verdict;
  steps = x.report.calls;
  contexts = Some x.report.contexts;
  failure = x.said.outcome.items;
  waits = x.said.waits.items;
  choices = x.choices.items;
}

abbrev pub of_confirm : AnswerRule Confirmation
of_confirm = record {
  status = λ x. status_of_verdict x.expected x.said.verdict;
  summary = λ x.
      if x.json then verdict_object (confirmation_shown x)
      else line_as x.expected x.choices.items x.said.verdict;
}

-- this is the verdict on the steps of a program, which the history takes, under the options; its
-- deadlock depends on these last bits
pub record IsConfirmation
    (text : List ℕ) (t : Program) (s : SetupOf) (h : List Call) (choices : List LastChoice)
    (task : ConfirmTask) (x : Confirmation)
    : Type 0 where
  pub expected_is : x.expected ≡ task.expected
  pub json_is : x.json ≡ task.json
  pub reported : IsReport s h x.report
  pub said : AreEndTexts true [] text t s h x.report x.said
  pub choices_are : x.choices.items ≡ choices_text task.json choices

-- Reported steps of the program of a text are confirmed, under the options of the task.
module _ (x : ConfirmTask) (given : Pair) where
  -- a history takes the steps, and its trace is written
  pub record IsOfSteps (written : List ℕ) : Type 0 where
    pub program : Program
    pub start : SetupOf
    pub opened : IsOpened x.start x.named given.text program start
    pub setup : SetupOf
    pub history : List Call
    pub choices : List LastChoice
    pub confirmed :
        IsConfirmedText program start given.input given.text x.bound setup history choices
    pub is : written ≡ trace_text setup history

  -- this is also the verdict
  pub record IsStepsReport (written : List ℕ) (answer : Confirmation) : Type 0 where
    pub trace : IsOfSteps written
    pub verdict :
        IsConfirmation given.text trace.program trace.setup trace.history trace.choices x answer

  -- the program accepts the setup, and no history is written that takes the steps
  pub record AreStepsRefused (f : Error) : Type 0 where
    pub program : Program
    pub start : SetupOf
    pub opened : IsOpened x.start x.named given.text program start
    pub cause : ConfirmError
    pub why : IsStepsRefusal program start given.input given.text x.bound cause
    pub is : f ≡ error_of_steps cause

-- the command writes the trace of the history that takes the steps
abbrev pub confirms : ConfirmTask → Command Pair Confirmation
confirms x = record {
  Writes = IsOfSteps x;
  Reports = IsStepsReport x;
  Refuses = λ given f. IsNotOpened x.start x.named given.text f ⊎ AreStepsRefused x given f;
  Spoils = λ _ _ _. ⊥;
}
