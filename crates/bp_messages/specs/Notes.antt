-- Possible caveats of a test: what it did not explore, and what it did not search for.
use Rattle.std.specs.Prelude.{if◌then◌else◌, ◌*◌, ◌/◌, ◌==◌, ℕ, List, [], ◌∷◌, Option, None, Some, codes, decimal, Bool, true, false, not, ◌&&◌, nat_le, nat_lt}
use Rattle.std.specs.List.{concat}
use Rattle.bp_text.specs.Pieces.{key_text, truth_text}
use Rattle.bp_test.specs.declared.counts.Distinct.{Distinct}
use Rattle.bp_test.specs.Tallies.{capped}
use Rattle.bp_test.specs.declared.tests.Found.{Found}
use Rattle.bp_test.specs.declared.tests.Found.TheVariants.{Nothing, Failed, Deadlock}
use Rattle.bp_messages.specs.declared.limits.TheConstants.{NOTED_SHARE}
use Rattle.bp_messages.specs.declared.notes.Notes.{Notes}
use Rattle.bp_messages.specs.declared.summaries.TestReport.{TestReport}

-- The share of further runs that would be new. Good and Turing estimate it by the share of the runs
-- that were seen once.

-- the number of new runs among a hundred further ones, rounded down, if there were runs
abbrev pub new_percent : Distinct → Option ℕ
new_percent x = if x.of == 0 then None else Some (capped (x.once * 100) / x.of)

-- the text if `once` runs were seen once, and `percent` of a hundred further runs would be new
abbrev pub novelty_said : (once percent : ℕ) → List ℕ
novelty_said once percent =
    if once == 0 then
    codes "note: every run was seen before: about all that this drawing reaches was tried\n"
    else
    (if percent == 0 then codes "note: less than 1% of new runs would be new\n"
    else
    concat (
    codes "note: about " ∷ decimal percent ∷ codes "% of new runs would be new\n" ∷ []))

abbrev pub novelty_of : (once : ℕ) → (percent : Option ℕ) → List ℕ
novelty_of once None = []
novelty_of once (Some percent) = novelty_said once percent

abbrev pub novelty_note : Distinct → List ℕ
novelty_note x = novelty_of x.once (new_percent x)

-- a test found a run that it searches for
abbrev pub has_found : Found → Bool
has_found Nothing = false
has_found (Failed run report) = true
has_found (Deadlock run report) = true

-- one run in twenty, or more
abbrev pub are_many : (count runs : ℕ) → Bool
are_many count runs = nat_lt 0 count && nat_le runs (capped (count * NOTED_SHARE))

-- A test which does not search for deadlocks may mislead by those it met, and one without a finding
-- by the rest: its bounds, that it made no run, or that there was nothing to find.
abbrev pub notes_of : TestReport → Notes
notes_of x =
    let is_clean = not (has_found x.found) in
    let is_of_assertions = not x.options.with_deadlock in
    let runs = x.counts.runs in
    let assertions = x.counts.assertions in
    record {
      deadlocked = is_of_assertions && nat_lt 0 x.counts.ends.deadlocked;
      few_contexts = is_clean && nat_lt x.setup.contexts x.counts.threads.all;
      no_run = is_clean && (runs == 0);
      no_assertion = is_clean && (is_of_assertions && (assertions.all == 0));
      no_assertion_reached =
          is_clean && (nat_lt 0 runs && (nat_lt 0 assertions.all && (assertions.reached == 0)));
      out_of_contexts = is_clean && are_many x.counts.ends.lacking_contexts runs;
      cut_off = is_clean && are_many x.counts.ends.lacking_calls runs;
      full_stack = is_clean && are_many x.counts.ends.lacking_frames runs;
    }

-- the number of runs with this property
abbrev pub count_note : (count runs : ℕ) → (said : List ℕ) → List ℕ
count_note count runs said =
    concat (
    codes "note: " ∷ decimal count
    ∷ codes " of " ∷ decimal runs
    ∷ codes " runs " ∷ said ∷ [])

abbrev pub note_if : Bool → List ℕ → List ℕ
note_if applies note = if applies then note else []

-- a line for each note that applies; if nothing was found, also on the share of new runs
abbrev pub notes_text : TestReport → List ℕ
notes_text tested =
    let notes = notes_of tested in
    let x = tested.counts in
    concat (
    note_if (not (has_found tested.found)) (novelty_note tested.distinct)
    ∷ note_if notes.few_contexts (codes "note: fewer contexts than threads; raise --contexts\n")
    ∷ note_if notes.no_run (codes "note: no run was made\n")
    ∷ note_if notes.no_assertion (codes "note: the program has no assertion\n")
    ∷ note_if notes.no_assertion_reached (codes "note: no run reached an assertion\n")
    ∷ note_if notes.deadlocked
    (count_note x.ends.deadlocked x.runs
    (codes "ended in a deadlock; --deadlock stops at the first\n"))
    ∷ note_if notes.out_of_contexts
    (count_note x.ends.lacking_contexts x.runs
    (codes "ran out of contexts; raise --contexts\n"))
    ∷ note_if notes.cut_off
    (count_note x.ends.lacking_calls x.runs (codes "ran out of calls; raise --calls\n"))
    ∷ note_if notes.full_stack
    (count_note x.ends.lacking_frames x.runs
    (codes "ended with a full stack of 1,024 frames\n"))
    ∷ [])

-- the notes that apply, as the last member of an object
abbrev pub notes_members : Notes → List ℕ
notes_members x =
    concat (
    codes ",\"notes\":{\"few_contexts\":" ∷ truth_text x.few_contexts
    ∷ key_text (codes "no_run") ∷ truth_text x.no_run
    ∷ key_text (codes "no_assertion") ∷ truth_text x.no_assertion
    ∷ key_text (codes "no_assertion_reached") ∷ truth_text x.no_assertion_reached
    ∷ key_text (codes "deadlocked") ∷ truth_text x.deadlocked
    ∷ key_text (codes "out_of_contexts") ∷ truth_text x.out_of_contexts
    ∷ key_text (codes "cut_off") ∷ truth_text x.cut_off
    ∷ key_text (codes "full_stack") ∷ truth_text x.full_stack
    ∷ codes "}}\n" ∷ [])
