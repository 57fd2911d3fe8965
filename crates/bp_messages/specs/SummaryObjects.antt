-- The report of a test on standard error for tools: an object of the finding and of the reached
-- statements, and one for each statement that no run reached.
use Rattle.std.specs.Prelude.{ℕ, List, [], ◌∷◌, ◌++◌, Option, None, Some, codes, decimal}
use Rattle.std.specs.List.{concat}
use Rattle.bp_test.specs.declared.counts.Counts.{Counts}
use Rattle.bp_test.specs.declared.counts.Distinct.{Distinct}
use Rattle.bp_test.specs.declared.tests.Found.{Found}
use Rattle.bp_test.specs.declared.tests.Found.TheVariants.{Nothing, Failed, Deadlock}
use Rattle.bp_text.specs.Pieces.{string_text, key_text, number_or_null}
use Rattle.bp_messages.specs.declared.summaries.TestReport.{TestReport}
use Rattle.bp_messages.specs.Summaries.{asked_member, failure_member, failed_assertion, statement_of, unreached_text, waits_member}
use Rattle.bp_messages.specs.Notes.{notes_members, notes_of, new_percent}

abbrev pub found_name : Found → List ℕ
found_name Nothing = codes "nothing"
found_name (Failed run report) = codes "failed"
found_name (Deadlock run report) = codes "deadlock"

-- the run in which something was found
abbrev pub found_run : Found → Option ℕ
found_run Nothing = None
found_run (Failed run report) = Some run
found_run (Deadlock run report) = Some run

-- the finding, and its run
abbrev pub finding_members : Found → List ℕ
finding_members found =
    concat (
    codes "{\"kind\":\"test\",\"version\":4"
    ∷ key_text (codes "found") ∷ string_text (found_name found)
    ∷ key_text (codes "run") ∷ number_or_null (found_run found) ∷ [])

-- the number of runs made, how they ended, and the resources that those lacked that ended too early
abbrev pub ends_members : Counts → List ℕ
ends_members x =
    concat (
    key_text (codes "runs") ∷ decimal x.runs
    ∷ key_text (codes "calls") ∷ decimal x.calls
    ∷ key_text (codes "longest") ∷ decimal x.longest
    ∷ codes ",\"ended\":{\"finished\":" ∷ decimal x.ends.finished
    ∷ key_text (codes "out_of_contexts") ∷ decimal x.ends.out_of_contexts
    ∷ key_text (codes "cut_off") ∷ decimal x.ends.cut_off
    ∷ key_text (codes "starved") ∷ decimal x.ends.starved
    ∷ key_text (codes "deadlocked") ∷ decimal x.ends.deadlocked
    ∷ codes "},\"lacked\":{\"contexts\":" ∷ decimal x.ends.lacking_contexts
    ∷ key_text (codes "calls") ∷ decimal x.ends.lacking_calls
    ∷ key_text (codes "frames") ∷ decimal x.ends.lacking_frames
    ∷ codes "}" ∷ [])

-- the number of contexts that the runs used, and the statements and threads that they reached
abbrev pub reach_members : Counts → List ℕ
reach_members x =
    concat (
    codes ",\"contexts\":{\"least\":" ∷ decimal x.contexts.least
    ∷ key_text (codes "middle") ∷ decimal x.contexts.middle
    ∷ key_text (codes "most") ∷ decimal x.contexts.most
    ∷ codes "},\"statements\":{\"reached\":" ∷ decimal x.statements.reached
    ∷ key_text (codes "all") ∷ decimal x.statements.all
    ∷ codes "},\"assertions\":{\"reached\":" ∷ decimal x.assertions.reached
    ∷ key_text (codes "all") ∷ decimal x.assertions.all
    ∷ codes "},\"threads\":{\"reached\":" ∷ decimal x.threads.reached
    ∷ key_text (codes "all") ∷ decimal x.threads.all
    ∷ codes "}" ∷ [])

-- the number of different runs, and the share of further ones that would be new
abbrev pub distinct_member : Distinct → List ℕ
distinct_member x =
    concat (
    codes ",\"distinct\":{\"runs\":" ∷ decimal x.runs
    ∷ key_text (codes "of") ∷ decimal x.of
    ∷ key_text (codes "once") ∷ decimal x.once
    ∷ key_text (codes "new_percent") ∷ number_or_null (new_percent x)
    ∷ codes "}" ∷ [])

abbrev pub summary_object : TestReport → List ℕ
summary_object x =
    let failure = failed_assertion x in
    finding_members x.found
    ++ (failure_member failure (statement_of x.statements.items failure)
    ++ (waits_member x.positions.items x.waiting.items
    ++ (asked_member x
    ++ (ends_members x.counts
    ++ (reach_members x.counts
    ++ (distinct_member x.distinct ++ notes_members (notes_of x)))))))

-- the summary, and the objects of the statements that were not reached
abbrev pub summary_objects : TestReport → List ℕ
summary_objects x = summary_object x ++ unreached_text x.lines.items x.reached.items
