-- Runs of commands, from their inputs to the exit status, and their text on both streams.
use Rattle.std.specs.Prelude.{ℕ, List, Option, None, Some, ◌≡◌, ◌≢◌, ◌⊎◌, [], Result, Err}
use Rattle.std.specs.Io.KnownBytes.{append_known, Keeps}
use Rattle.bp_machine.specs.declared.calls.Report.{Report}
use Rattle.bp_source.specs.declared.tasks.ErrorFormat.{ErrorFormat}
use Rattle.bp_messages.specs.declared.errors.Error.{Error}
use Rattle.bp_messages.specs.declared.errors.Error.TheVariants.{Write}
use Rattle.bp_commands.specs.Commands.{text_and, Inputs, Pair, Command, Answers, bundle_alone, text_alone}
use Rattle.bp_commands.specs.Traces.{bundles}
use Rattle.bp_commands.specs.declared.run_ends.Explained.{Explained}
use Rattle.bp_commands.specs.declared.run_ends.RunEnd.{RunEnd}
use Rattle.bp_commands.specs.declared.explanations.SecondInput.{SecondInput}
use Rattle.bp_commands.specs.ErrorReports.{of_report, AnswerRule, IsSaidOfRead, ErrorReport, on_bytes, on_pair, on_text, IsConcluded, IsObjectRead}

-- The bytes left of files.

-- the bytes left of a file that is opened or not
abbrev pub rest_of
    : {A : Type 0} → Option (List ℕ) → (A → Option (List ℕ)) → Option A → Option (List ℕ)
rest_of unopened remaining None = unopened
rest_of unopened remaining (Some file) = remaining file

-- the inputs of a command on two files, a program and another, with these bytes left of them
abbrev pub pair_of_files
    : ℕ → Option (List ℕ) → Option (List ℕ) → Option (List ℕ) × Option (List ℕ) → Inputs Pair
pair_of_files limit text input left = text_and limit text left.0 input left.1

-- The output of a command that wrote through a buffer.

-- the output has the bytes, except for one or more at their end
pub record LacksEnd (held now : Option (List ℕ)) : Type 0 where
  pub lost : List ℕ
  pub some : lost ≢ []
  pub rest : Keeps held (append_known now lost)

-- The output has everything that the buffer held, also before a refusal, and the answer is the
-- command's; or it lacks some of the end, and the answer is that it was not written.
abbrev pub IsFlushed
    : {T : Type 0}
    → Result T Error → Option (List ℕ) → Result T Error → Option (List ℕ) → Type 0
IsFlushed done held answer now =
    (Keeps held now × (answer ≡ done)) ⊎ (LacksEnd held now × (answer ≡ Err Write))

-- a command on inputs that it may leave unread in part, how it ends, the reports of errors of the
-- inputs, and their format
pub record Job : Type 1 where
  pub Left : Type 0
  pub Given : Type 0
  pub Answer : Type 0
  pub command : Command Given Answer
  pub rule : AnswerRule Answer
  pub inputs : Left → Inputs Given
  pub report : ErrorReport Given
  pub format : ErrorFormat

-- the contents of the output and of standard error
pub record Held : Type 0 where
  pub output : Option (List ℕ)
  pub errors : Option (List ℕ)

abbrev pub held : (output errors : Option (List ℕ)) → Held
held output errors = record { output = output; errors = errors }

-- The streams held this before and after a run was ended by this answer: the output took the
-- command's text, or not all of its end; and standard error has its summary, or its refusal.
module _
    {R : Type 0} (rule : AnswerRule R) (format : ErrorFormat)
    (IsObject : Explained → Error → List ℕ → Type 0)
    (IsSaid : Error → Explained → List ℕ → Type 0) where
  pub record IsFinished (done : Result R Error) (before after : Held) (end : RunEnd) : Type 0 where
    pub final : Result R Error
    pub flushed : IsFlushed done before.output final after.output
    pub concluded : IsConcluded rule format IsObject IsSaid final end before.errors after.errors

-- The streams held this before and after the job was done: its command answered on the inputs, and
-- the run was ended by that answer; a refusal names the inputs read.
pub record IsRun (job : Job) (before after : Held) (end : RunEnd) : Type 0 where
  pub left : job.Left
  pub buffered : Option (List ℕ)
  pub done : Result job.Answer Error
  pub answers : Answers job.command (job.inputs left) before.output buffered done
  pub finished :
      let IsObject = IsObjectRead (job.inputs left) job.report.IsObject in
      let IsSaid = IsSaidOfRead (job.inputs left) job.report.Explains in
      let wrote = held buffered before.errors in
      IsFinished job.rule job.format IsObject IsSaid done wrote after end

module _ (bytes : List ℕ → Option (List ℕ)) (format : ErrorFormat) where
  -- a command on the program of a file
  abbrev pub on_file : {R : Type 0} → Command (List ℕ) R → AnswerRule R → List ℕ → Job
  on_file {R} command rule path = record {
    Left = Option (List ℕ);
    Given = List ℕ;
    Answer = R;
    command = command;
    rule = rule;
    inputs = text_alone (bytes path);
    report = on_text path;
    format = format;
  }

  -- a command on the program of a file and the second input, which has a limit
  abbrev pub on_files
      : {R : Type 0} → Command Pair R → AnswerRule R → ℕ → SecondInput
      → (path input_path : List ℕ) → Job
  on_files {R} command rule limit kind path input_path = record {
    Left = Option (List ℕ) × Option (List ℕ);
    Given = Pair;
    Answer = R;
    command = command;
    rule = rule;
    inputs = pair_of_files limit (bytes path) (bytes input_path);
    report = on_pair kind path input_path;
    format = format;
  }

-- the bundle of a reader that has these bytes
abbrev pub on_bundle : ErrorFormat → Option (List ℕ) → Job
on_bundle format bytes = record {
  Left = Option (List ℕ);
  Given = List ℕ;
  Answer = Report;
  command = bundles;
  rule = of_report;
  inputs = bundle_alone bytes;
  report = on_bytes;
  format = format;
}
