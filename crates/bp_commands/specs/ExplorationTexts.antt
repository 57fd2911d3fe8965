-- The report of an exploration on standard error.
use Rattle.std.specs.Prelude.{if◌then◌else◌, ◌==◌, ◌+◌, ◌-◌, ◌/◌, ◌%◌, ℕ, nat_le, nat_lt, Bool, true, false, List, [], ◌∷◌, ◌++◌, Option, None, Some, codes, decimal, option_map}
use Rattle.std.specs.List.{concat}
use Rattle.bp_text.specs.Pieces.{displayed, key_text, list_text, number_or_null, string_or_null, string_text, truth_text}
use Rattle.bp_explore.specs.declared.explorations.Reason.{Reason}
use Rattle.bp_explore.specs.declared.explorations.Reason.TheVariants.{States, Stopped, Memory}
use Rattle.bp_source.specs.declared.tasks.Verdict.{Verdict}
use Rattle.bp_source.specs.declared.tasks.Verdict.TheVariants as verdicts
use Rattle.bp_commands.specs.EndTexts.{is_verdict}
use Rattle.bp_commands.specs.declared.exploration_ends.Exploration.{Exploration}
use Rattle.bp_commands.specs.declared.exploration_ends.FoundKind.{FoundKind}
use Rattle.bp_commands.specs.declared.exploration_ends.FoundKind.TheVariants.{Nothing, Failure, Deadlock, Steps}
use Rattle.bp_commands.specs.declared.exploration_ends.ListedSteps.{ListedSteps}

-- For people: numbers, and the steps that are listed.

abbrev pub digit : ℕ → ℕ
digit n = 48 + n % 10

-- a comma and the last three digits of a number
abbrev pub last_three : ℕ → List ℕ
last_three n = 44 ∷ digit (n / 100) ∷ digit (n / 10) ∷ digit n ∷ []

-- a number with a comma before each three of its last nine digits
abbrev pub grouped : ℕ → List ℕ
grouped n =
    if nat_lt n 1000 then decimal n
    else if nat_lt n 1000000 then concat (decimal (n / 1000) ∷ last_three n ∷ [])
    else if nat_lt n 1000000000 then
    concat (decimal (n / 1000000) ∷ last_three (n / 1000) ∷ last_three n ∷ [])
    else
    concat (
    decimal (n / 1000000000)
    ∷ last_three (n / 1000000) ∷ last_three (n / 1000) ∷ last_three n ∷ [])

abbrev pub plural : ℕ → List ℕ
plural n = if n == 1 then [] else codes "s"

-- a number of these, as `1 state` and `2 states`
abbrev pub count_of : ℕ → (noun : List ℕ) → List ℕ
count_of n noun = concat (grouped n ∷ codes " " ∷ noun ∷ plural n ∷ [])

abbrev pub states_text : ℕ → List ℕ
states_text n = count_of n (codes "state")

abbrev pub contexts_text : ℕ → List ℕ
contexts_text n = count_of n (codes "context")

-- the n steps that are listed
abbrev pub steps_text : ℕ → List ℕ
steps_text n =
    concat (codes "makes the " ∷ count_of n (codes "listed step") ∷ codes " in this order" ∷ [])

-- the first steps that no run makes, if the first m are made
abbrev pub first_text : (m : ℕ) → List ℕ
first_text m =
    if m == 0 then codes "makes the first listed step"
    else
    concat (
    codes "makes the first " ∷ grouped (m + 1)
    ∷ codes " listed steps in this order; a run makes " ∷ grouped m
    ∷ codes " of them" ∷ [])

-- The end that no explored run has.

-- the listed steps that no run makes: the first ones if `made` is known, else all n
abbrev pub unmade_text : (n : ℕ) → (made : Option ℕ) → List ℕ
unmade_text n None = steps_text n
unmade_text n (Some m) = first_text m

abbrev pub end_text : (with_deadlock : Bool) → List ℕ
end_text false = codes "fails"
end_text true = codes "fails or ends in a deadlock"

-- the aim of the search: an end, or listed steps
abbrev pub sought_by : Option ListedSteps → (with_deadlock : Bool) → List ℕ
sought_by None with_deadlock = end_text with_deadlock
sought_by (Some steps) with_deadlock = unmade_text steps.count steps.made

abbrev pub sought_text : Exploration → List ℕ
sought_text x = sought_by x.steps x.task.now.options.with_deadlock

-- why not everything was explored, and the remedy
abbrev pub reason_text : Reason → List ℕ
reason_text States = codes "note: no more states are kept; raise --states\n"
reason_text Stopped = codes "note: the time was over; raise --time\n"
reason_text Memory = codes "note: memory was refused\n"

abbrev pub were_text : ℕ → List ℕ
were_text n = if n == 1 then codes " was" else codes " were"

-- runs of k contexts were not explored
abbrev pub unfinished_text : Exploration → Reason → List ℕ
unfinished_text x reason =
    let k = x.facts.contexts in
    concat (
    codes "no run within " ∷ contexts_text (k - 1)
    ∷ codes " " ∷ sought_text x
    ∷ codes "; " ∷ contexts_text k
    ∷ were_text k ∷ codes " not looked through: " ∷ states_text x.states
    ∷ codes "\n" ∷ reason_text reason
    ∷ [])

-- no run does so, with any number of contexts
abbrev pub anywhere_by : Option ListedSteps → Exploration → List ℕ
anywhere_by None x =
    concat (
    codes "no run of " ∷ displayed x.task.now.program.now
    ∷ codes " " ∷ sought_text x
    ∷ codes ", within any number of contexts" ∷ [])
anywhere_by (Some steps) x = codes "no run, within any number of contexts, " ++ sought_text x

abbrev pub anywhere_text : Exploration → List ℕ
anywhere_text x =
    concat (
    anywhere_by x.steps x
    ∷ codes ": " ∷ states_text x.states
    ∷ codes ", the last new one within " ∷ decimal x.facts.contexts
    ∷ codes "\n" ∷ [])

-- the program whose runs are meant, unless steps are listed
abbrev pub of_program : Option ListedSteps → (file : List ℕ) → List ℕ
of_program None file = concat (codes " of " ∷ displayed file ∷ [])
of_program (Some steps) file = []

-- no run does so within this number of contexts
abbrev pub within_text : Exploration → List ℕ
within_text x =
    concat (
    codes "no run" ∷ of_program x.steps x.task.now.program.now
    ∷ codes " within " ∷ contexts_text x.facts.contexts
    ∷ codes " " ∷ sought_text x
    ∷ codes ": " ∷ states_text x.states
    ∷ codes "\n" ∷ [])

-- The finding.

abbrev pub finding_text : FoundKind → List ℕ
finding_text Failure = codes "an assertion fails"
finding_text other = codes "deadlock"

-- the note on the last step if an assertion fails in it
abbrev pub made_end : Verdict → (outcome : List ℕ) → List ℕ
made_end verdict outcome = if is_verdict verdict verdicts.Failure then codes "\n" ++ outcome else []

-- a run that ends in the finding, and a run that makes listed steps
abbrev pub run_by : Option ListedSteps → (trace : Bool) → Exploration → List ℕ
run_by None true x = x.said.outcome.items ++ x.said.waits.items
run_by None false x = finding_text x.facts.found
run_by (Some steps) trace x =
    codes "a run " ++ (steps_text steps.count ++ made_end x.said.verdict x.said.outcome.items)

-- the run has no trace
abbrev pub it_text : Option ListedSteps → List ℕ
it_text None = codes "the run"
it_text (Some steps) = codes "it"

abbrev pub traceless_by : (trace : Bool) → (calls : Option ℕ) → Option ListedSteps → List ℕ
traceless_by false (Some n) steps =
    codes ", but no trace can hold "
    ++ (it_text steps ++ (codes ": a thread makes " ++ count_of n (codes "call")))
traceless_by trace calls steps = []

-- the end that no run within fewer contexts has
abbrev pub less_by : Option ListedSteps → (with_deadlock : Bool) → List ℕ
less_by None with_deadlock = end_text with_deadlock
less_by (Some steps) with_deadlock = codes "makes them"

-- the result for runs within fewer contexts than k; nothing if k is 1 or 0
abbrev pub below_text : Exploration → (k : ℕ) → List ℕ
below_text x k =
    if nat_le k 1 then []
    else
    concat (
    codes "no run within " ∷ contexts_text (k - 1)
    ∷ codes " " ∷ less_by x.steps x.task.now.options.with_deadlock ∷ codes "\n" ∷ [])

-- it was found within this number of contexts, and no fewer
abbrev pub found_text : Exploration → List ℕ
found_text x =
    codes "within "
    ++ (contexts_text x.facts.contexts
    ++ (codes ": "
    ++ (run_by x.steps x.facts.trace x
    ++ (traceless_by x.facts.trace x.facts.calls x.steps
    ++ (codes "\n" ++ below_text x x.facts.contexts)))))

-- The report of an exploration.

abbrev pub ending_by : FoundKind → Option Reason → (complete : Bool) → Exploration → List ℕ
ending_by Nothing (Some reason) complete x = unfinished_text x reason
ending_by Nothing None true x = anywhere_text x
ending_by Nothing None false x = within_text x
ending_by found reason complete x = found_text x

-- the number of states that were cut off at a full stack
abbrev pub cut_text : ℕ → List ℕ
cut_text n =
    if n == 0 then []
    else
    concat (
    codes "note: in " ∷ states_text n
    ∷ codes " a call had no room on a stack of 1,024 frames; "
    ∷ codes "what follows it was not looked through\n"
    ∷ [])

-- for people: lines
abbrev pub exploration_lines : Exploration → List ℕ
exploration_lines x =
    ending_by x.facts.found x.facts.reason x.facts.complete x ++ cut_text x.full_stacks

abbrev pub found_word : FoundKind → List ℕ
found_word Nothing = codes "nothing"
found_word Failure = codes "failed"
found_word Deadlock = codes "deadlock"
found_word Steps = codes "steps"

abbrev pub reason_word : Reason → List ℕ
reason_word States = codes "states"
reason_word Stopped = codes "time"
reason_word Memory = codes "memory"

-- the last members of the object: the threads that wait in a deadlock, or the listed steps
abbrev pub last_members : Option ListedSteps → (waits : List ℕ) → List ℕ
last_members None waits = concat (key_text (codes "deadlock") ∷ list_text waits ∷ [])
last_members (Some steps) waits =
    concat (
    key_text (codes "steps") ∷ decimal steps.count
    ∷ key_text (codes "made") ∷ number_or_null steps.made ∷ [])

-- for programs: an object
abbrev pub exploration_object : Exploration → List ℕ
exploration_object x =
    concat (
    codes "{\"kind\":\"explore\",\"version\":1"
    ∷ key_text (codes "found") ∷ string_text (found_word x.facts.found)
    ∷ key_text (codes "contexts") ∷ decimal x.facts.contexts
    ∷ key_text (codes "complete") ∷ truth_text x.facts.complete
    ∷ key_text (codes "states") ∷ decimal x.states
    ∷ key_text (codes "full_stacks") ∷ decimal x.full_stacks
    ∷ key_text (codes "reason") ∷ string_or_null (option_map reason_word x.facts.reason)
    ∷ key_text (codes "calls") ∷ number_or_null x.facts.calls
    ∷ key_text (codes "trace") ∷ truth_text x.facts.trace
    ∷ key_text (codes "failure") ∷ x.said.outcome.items
    ∷ [])
    ++ (last_members x.steps x.said.waits.items ++ codes "}\n")

-- the report, as JSON or not
abbrev pub exploration_text : Exploration → List ℕ
exploration_text x =
    if x.task.now.json then exploration_object x else exploration_lines x
