-- How an exploration ends: its facts and its exit status.
use Rattle.std.specs.Prelude.{ℕ, Bool, true, false, Option, None, Some, length}
use Rattle.bp_explore.specs.declared.explorations.Ending.{Ending}
use Rattle.bp_explore.specs.declared.explorations.Ending.TheVariants as endings
use Rattle.bp_explore.specs.declared.explorations.Finding.{Finding}
use Rattle.bp_explore.specs.declared.explorations.Finding.TheVariants as findings
use Rattle.bp_explore.specs.declared.explorations.Reason.{Reason}
use Rattle.bp_explore.specs.declared.explorations.ThroughEnding.{ThroughEnding}
use Rattle.bp_explore.specs.declared.explorations.ThroughEnding.TheVariants.{Found, Unplayed, Missing, MissingWithin, Unfinished}
use Rattle.bp_source.specs.declared.tasks.Verdict.{Verdict}
use Rattle.bp_source.specs.declared.tasks.Verdict.TheVariants as verdicts
use Rattle.bp_messages.specs.ErrorTable.{exit_status}
use Rattle.bp_commands.specs.EndTexts.{is_verdict}
use Rattle.bp_commands.specs.declared.exploration_ends.EndFacts.{EndFacts}
use Rattle.bp_commands.specs.declared.exploration_ends.Exploration.{Exploration}
use Rattle.bp_commands.specs.declared.exploration_ends.FoundKind.{FoundKind}
use Rattle.bp_commands.specs.declared.exploration_ends.FoundKind.TheVariants.{Nothing, Failure, Deadlock, Steps}
use Rattle.bp_commands.specs.declared.exploration_ends.ListedSteps.{ListedSteps}

-- nothing was found
abbrev pub missed_end : (contexts : ℕ) → (complete : Bool) → Option Reason → EndFacts
missed_end k complete reason = record {
  found = Nothing;
  contexts = k;
  complete = complete;
  reason = reason;
  calls = None;
  trace = false;
}

-- something was found
abbrev pub found_end : FoundKind → (contexts calls : ℕ) → (trace : Bool) → EndFacts
found_end kind k calls trace = record {
  found = kind;
  contexts = k;
  complete = false;
  reason = None;
  calls = Some calls;
  trace = trace;
}

abbrev pub kind_of : Finding → FoundKind
kind_of findings.Failure = Failure
kind_of findings.Deadlock = Deadlock

abbrev pub facts_of_ending : Ending → EndFacts
facts_of_ending (endings.Nothing last) = missed_end last true None
facts_of_ending (endings.NothingWithin k) = missed_end k false None
facts_of_ending (endings.Found r) =
    found_end (kind_of r.finding) r.contexts (length r.history.items) true
facts_of_ending (endings.Unplayed k f calls) = found_end (kind_of f) k calls false
facts_of_ending (endings.Unfinished k reason) = missed_end k false (Some reason)

abbrev pub facts_through : ThroughEnding → EndFacts
facts_through (Found r) = found_end Steps r.contexts (length r.history.items) true
facts_through (Unplayed k calls) = found_end Steps k calls false
facts_through (Missing last made) = missed_end last true None
facts_through (MissingWithin k made) = missed_end k false None
facts_through (Unfinished k reason) = missed_end k false (Some reason)

-- the number of the n steps that are made, if known
abbrev pub made_through : (n : ℕ) → ThroughEnding → Option ℕ
made_through n (Found r) = Some n
made_through n (Unplayed k calls) = Some n
made_through n (Missing last m) = Some m
made_through n (MissingWithin k m) = Some m
made_through n (Unfinished k reason) = None

-- the exit status: 5 if nothing was found and not all was explored, 4 if no run makes listed steps;
-- a run that makes them has failed or not in the last of them
abbrev pub status_found : FoundKind → Option Reason → Option ListedSteps → Verdict → ℕ
status_found Nothing (Some reason) steps verdict = 5
status_found Nothing None (Some steps) verdict = 4
status_found Nothing None None verdict = exit_status false None
status_found Failure reason steps verdict = exit_status true None
status_found Deadlock reason steps verdict = exit_status true None
status_found Steps reason steps verdict = exit_status (is_verdict verdict verdicts.Failure) None

abbrev pub status_of : Exploration → ℕ
status_of x = status_found x.facts.found x.facts.reason x.steps x.said.verdict
