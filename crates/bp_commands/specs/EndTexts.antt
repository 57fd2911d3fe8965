-- What is said of the end of a run.
use Rattle.std.specs.Prelude.{if◌then◌else◌, ◌≡◌, ℕ, Bool, true, false, List, [], is_some}
use Rattle.bp_syntax.specs.Ast.{Program}
use Rattle.bp_machine.specs.declared.calls.Call.{Call}
use Rattle.bp_machine.specs.declared.calls.Report.{Report}
use Rattle.bp_machine.specs.Setups.{SetupOf}
use Rattle.bp_source.specs.declared.options.ViewFormat.{ViewFormat}
use Rattle.bp_source.specs.declared.options.ViewFormat.TheVariants.{Columns, Json}
use Rattle.bp_source.specs.declared.tasks.Verdict.{Verdict}
use Rattle.bp_source.specs.declared.tasks.Verdict.TheVariants.{Failure, Deadlock, Run}
use Rattle.bp_view.specs.FooterFacts.{AreFooterFacts, ShownFooter}
use Rattle.bp_view.specs.Views.{clean_text, outcome_text, waits_text}
use Rattle.bp_commands.specs.declared.end_texts.EndTexts.{EndTexts}

-- the verdict on a run, by the facts of its end
abbrev pub verdict_of : ShownFooter → Verdict
verdict_of x = if is_some x.failure then Failure else if x.deadlocked then Deadlock else Run

abbrev pub is_verdict : Verdict → Verdict → Bool
is_verdict Failure Failure = true
is_verdict Deadlock Deadlock = true
is_verdict Run Run = true
is_verdict v w = false

abbrev pub format_of : (json : Bool) → ViewFormat
format_of true = Json
format_of false = Columns

-- the end of a history with this report, of the program of a text in this file: its verdict, which
-- assertion failed, if one did, and which threads wait in a deadlock
pub record AreEndTexts
    (json : Bool) (file text : List ℕ) (t : Program) (s : SetupOf) (h : List Call) (r : Report)
    (x : EndTexts)
    : Type 0 where
  pub facts : ShownFooter
  pub facts_are : AreFooterFacts t text s h r facts
  pub verdict : x.verdict ≡ verdict_of facts
  pub outcome :
      x.outcome.items ≡ outcome_text (format_of json) file facts.deadlocked facts.failure
  pub waits : x.waits.items ≡ waits_text (format_of json) file facts.waits

-- there is no run
abbrev pub AreNoTexts : (json : Bool) → EndTexts → Type 0
AreNoTexts json x =
    (x.verdict ≡ Run)
    × (x.outcome.items ≡ clean_text (format_of json) false)
    × (x.waits.items ≡ [])
