-- The summary of a test on standard error.
use Rattle.std.specs.Prelude.{if◌then◌else◌, ◌==◌, ℕ, Bool, not, List, [], Option, None, Some, codes, decimal, true, false, ◌∷◌, ◌++◌, flat_map, option_map, slice_index_or, Vec, slice_get}
use Rattle.std.specs.List.{concat}
use Rattle.std.specs.declared.alloc.Global.{Global}
use Rattle.bp_text.specs.Pieces.{string_text, displayed, bit_text, key_text, number_or_null, truth_text}
use Rattle.bp_text.specs.declared.lines.Position.{Position}
use Rattle.bp_machine.specs.declared.calls.Outcome.{Outcome}
use Rattle.bp_machine.specs.declared.calls.Outcome.TheVariants as outcome
use Rattle.bp_test.specs.declared.waits.Waiting.{Waiting}
use Rattle.bp_test.specs.declared.tests.Found.{Found}
use Rattle.bp_test.specs.declared.tests.Found.TheVariants.{Nothing, Failed, Deadlock}
use Rattle.bp_test.specs.declared.counts.Counts.{Counts}
use Rattle.bp_test.specs.declared.counts.Distinct.{Distinct}
use Rattle.bp_messages.specs.declared.limits.TheConstants.{MOST_RUNS}
use Rattle.bp_messages.specs.declared.summaries.TestReport.{TestReport}
use Rattle.bp_messages.specs.declared.failures.FailedAssertion.{FailedAssertion}
use Rattle.bp_messages.specs.Notes.{notes_text}

-- The number of runs that a test was to make, after the number of runs made.

-- a number of runs is a limit, unless it is the greatest one
abbrev pub is_limit : ℕ → Bool
is_limit runs = not (runs == MOST_RUNS)

abbrev pub limit_of : ℕ → Option ℕ
limit_of runs = if is_limit runs then Some runs else None

-- the word before a limit
abbrev pub of_word : ℕ → List ℕ
of_word runs = if is_limit runs then codes " of " else []

abbrev pub limit_text : ℕ → List ℕ
limit_text runs = if is_limit runs then decimal runs else []

-- The request for a test: its program, and the start of each run.

-- a name as it is, or as a string of JSON
abbrev pub name_text : (json : Bool) → List ℕ → List ℕ
name_text false name = name
name_text true name = string_text name

-- names, with these bytes before the first and those before each other one
abbrev pub names_text : (json : Bool) → (before between : List ℕ) → List (List ℕ) → List ℕ
names_text json before between [] = []
names_text json before between (name ∷ names) =
    concat (before ∷ name_text json name ∷ []) ++ names_text json between between names

-- a digit for each global
abbrev pub bits_text : List Bool → List ℕ
bits_text bits = flat_map bit_text bits

-- the digits, or a dash if there is none
abbrev pub init_text : List Bool → List ℕ
init_text [] = codes "-"
init_text (bit ∷ bits) = bits_text (bit ∷ bits)

-- the bounds of the runs, and the seed of the first
abbrev pub bounds_text : TestReport → List ℕ
bounds_text x =
    concat (
    codes ", contexts " ∷ decimal x.setup.contexts
    ∷ codes ", calls " ∷ decimal x.setup.calls
    ∷ codes ", seed " ∷ decimal x.options.seed
    ∷ codes "\n" ∷ [])

-- the line from which the test can be repeated
abbrev pub asked_line : TestReport → List ℕ
asked_line x =
    concat (codes "test of " ∷ displayed x.file.items ∷ codes ": threads" ∷ [])
    ++ (names_text false (codes " ") (codes " ") x.setup.entries
    ++ (codes ", init " ++ (init_text x.setup.init ++ bounds_text x)))

-- the bounds as members of an object, with the rest of the request
abbrev pub bounds_members : TestReport → List ℕ
bounds_members x =
    concat (
    codes "\"" ∷ key_text (codes "contexts") ∷ decimal x.setup.contexts
    ∷ key_text (codes "calls") ∷ decimal x.setup.calls
    ∷ key_text (codes "seed") ∷ decimal x.options.seed
    ∷ key_text (codes "runs") ∷ number_or_null (limit_of x.options.runs)
    ∷ key_text (codes "seconds") ∷ number_or_null x.options.seconds
    ∷ key_text (codes "deadlock") ∷ truth_text x.options.with_deadlock
    ∷ codes "}" ∷ [])

abbrev pub asked_member : TestReport → List ℕ
asked_member x =
    concat (
    codes ",\"asked\":{\"file\":" ∷ string_text x.file.items
    ∷ key_text (codes "entries") ∷ [])
    ++ (names_text true (codes "[") (codes ",") x.setup.entries
    ++ (codes "],\"init\":\"" ++ (bits_text x.setup.init ++ bounds_members x)))

-- The threads that wait at the end of a run, and their places.

-- the position of the statement of an instruction, from the positions of all
abbrev pub position_of : List (Option Position) → (number : ℕ) → Option Position
position_of positions number = slice_index_or positions number None

-- a thread that waits, after these words, and its place in a file
abbrev pub wait_text : (file before verb : List ℕ) → (thread : ℕ) → Option Position → List ℕ
wait_text file before verb i None = concat (before ∷ decimal i ∷ [])
wait_text file before verb i (Some p) =
    concat (
    before
    ∷ decimal i
    ∷ verb
    ∷ displayed file
    ∷ codes ":"
    ∷ decimal p.line
    ∷ codes ":"
    ∷ decimal p.column
    ∷ [])

-- the threads that wait, one after the other; these words are for the first
abbrev pub waits_after
    : (file before verb : List ℕ) → List (Option Position) → List Waiting → List ℕ
waits_after file before verb positions [] = []
waits_after file before verb positions (x ∷ xs) =
    wait_text file before verb x.thread (position_of positions x.number)
    ++ waits_after file (codes ", thread ") (codes " at ") positions xs

abbrev pub waits_text : (file : List ℕ) → List (Option Position) → List Waiting → List ℕ
waits_text file positions xs =
    waits_after file (codes ": thread ") (codes " waits at ") positions xs

-- the object of a thread that waits, after this text
abbrev pub wait_object : (before : List ℕ) → (thread : ℕ) → Option Position → List ℕ
wait_object before i position =
    concat (
    before
    ∷ codes "{\"thread\":" ∷ decimal i
    ∷ key_text (codes "line") ∷ number_or_null (option_map (λ p. p.line) position)
    ∷ key_text (codes "column") ∷ number_or_null (option_map (λ p. p.column) position)
    ∷ codes "}" ∷ [])

abbrev pub wait_objects : (before : List ℕ) → List (Option Position) → List Waiting → List ℕ
wait_objects before positions [] = []
wait_objects before positions (x ∷ xs) =
    wait_object before x.thread (position_of positions x.number)
    ++ wait_objects (codes ",") positions xs

-- the member of an object with the threads that wait
abbrev pub waits_member : List (Option Position) → List Waiting → List ℕ
waits_member positions xs =
    codes ",\"waiting\":[" ++ (wait_objects [] positions xs ++ codes "]")

-- The assertion that failed in the run that a test found, and its place.

-- the assertion of thread i at instruction n, if that has a position
abbrev pub failure_at : (i n : ℕ) → Option Position → Option FailedAssertion
failure_at i n None = None
failure_at i n (Some p) = Some (record { thread = i; number = n; position = p })

abbrev pub failure_by : List (Option Position) → (i : ℕ) → Option ℕ → Option FailedAssertion
failure_by positions i None = None
failure_by positions i (Some n) = failure_at i n (position_of positions n)

abbrev pub failure_in : List (Option Position) → Option ℕ → Outcome → Option FailedAssertion
failure_in positions number outcome.Clean = None
failure_in positions number (outcome.Failed i) = failure_by positions i number

-- the assertion that failed, if one did
abbrev pub failure_found : List (Option Position) → Option ℕ → Found → Option FailedAssertion
failure_found positions number Nothing = None
failure_found positions number (Failed run report) = failure_in positions number report.outcome
failure_found positions number (Deadlock run report) = None

abbrev pub failed_assertion : TestReport → Option FailedAssertion
failed_assertion x = failure_found x.positions.items x.failed x.found

abbrev pub items_of : Option (Vec ℕ Global) → List ℕ
items_of None = []
items_of (Some v) = v.items

-- the text of its statement
abbrev pub statement_of : List (Vec ℕ Global) → Option FailedAssertion → List ℕ
statement_of statements None = []
statement_of statements (Some x) = items_of (slice_get statements x.number)

-- the number of the run in which it failed, and the place of the assertion in a file
abbrev pub failure_text
    : Option FailedAssertion → (statement file : List ℕ) → (run runs : ℕ) → List ℕ
failure_text None statement file run runs =
    concat (
    codes "an assertion failed in run " ∷ decimal run
    ∷ of_word runs ∷ limit_text runs
    ∷ codes "\n" ∷ [])
failure_text (Some x) statement file run runs =
    concat (
    codes "an assertion of thread " ∷ decimal x.thread
    ∷ codes " failed in run " ∷ decimal run
    ∷ of_word runs ∷ limit_text runs
    ∷ codes ", at " ∷ displayed file
    ∷ codes ":" ∷ decimal x.position.line
    ∷ codes ":" ∷ decimal x.position.column
    ∷ codes ": " ∷ statement
    ∷ codes "\n" ∷ [])

-- the member of an object with the assertion
abbrev pub failure_member : Option FailedAssertion → (statement : List ℕ) → List ℕ
failure_member None statement = codes ",\"failure\":null"
failure_member (Some x) statement =
    concat (
    codes ",\"failure\":{\"thread\":" ∷ decimal x.thread
    ∷ key_text (codes "line") ∷ decimal x.position.line
    ∷ key_text (codes "column") ∷ decimal x.position.column
    ∷ key_text (codes "statement") ∷ string_text statement
    ∷ codes "}" ∷ [])

-- a deadlock in a run of this test, and the places at which its threads wait
abbrev pub deadlock_text : TestReport → (run : ℕ) → List ℕ
deadlock_text x run =
    let runs = x.options.runs in
    concat (codes "deadlock in run " ∷ decimal run ∷ of_word runs ∷ limit_text runs ∷ [])
    ++ (waits_text x.file.items x.positions.items x.waiting.items ++ codes "\n")

-- nothing was found in the runs that were made, within k contexts; if they are not all, the time
-- was over
abbrev pub nothing_text : List ℕ → (made runs k : ℕ) → List ℕ
nothing_text phrase made runs k =
    if made == runs then
    concat (
    phrase
    ∷ codes " in " ∷ decimal runs
    ∷ codes " runs within " ∷ decimal k
    ∷ codes " contexts\n" ∷ [])
    else
    concat (
    phrase
    ∷ codes " in " ∷ decimal made
    ∷ of_word runs ∷ limit_text runs
    ∷ codes " runs within " ∷ decimal k
    ∷ codes " contexts: the time is over\n" ∷ [])

-- the end that was searched for and not found
abbrev pub nothing_phrase : Bool → List ℕ
nothing_phrase false = codes "no assertion failed"
nothing_phrase true = codes "no assertion failed and no deadlock"

-- the first line: the finding
abbrev pub finding_text : TestReport → Found → List ℕ
finding_text x Nothing =
    let phrase = nothing_phrase x.options.with_deadlock in
    nothing_text phrase x.counts.runs x.options.runs x.setup.contexts
finding_text x (Failed run report) =
    let failure = failed_assertion x in
    let statement = statement_of x.statements.items failure in
    failure_text failure statement x.file.items run x.options.runs
finding_text x (Deadlock run report) = deadlock_text x run

-- the number of runs made, how they ended, and the statements and threads that they reached
abbrev pub counts_text : Counts → List ℕ
counts_text x =
    concat (
    codes "runs " ∷ decimal x.runs
    ∷ codes ", calls " ∷ decimal x.calls
    ∷ codes ", longest " ∷ decimal x.longest
    ∷ codes "\nended: finished " ∷ decimal x.ends.finished
    ∷ codes ", out of contexts " ∷ decimal x.ends.out_of_contexts
    ∷ codes ", cut off " ∷ decimal x.ends.cut_off
    ∷ codes ", starved " ∷ decimal x.ends.starved
    ∷ codes ", deadlocked " ∷ decimal x.ends.deadlocked
    ∷ codes "\ncontexts: least " ∷ decimal x.contexts.least
    ∷ codes ", middle " ∷ decimal x.contexts.middle
    ∷ codes ", most " ∷ decimal x.contexts.most
    ∷ codes "\nreached: statements " ∷ decimal x.statements.reached
    ∷ codes " of " ∷ decimal x.statements.all
    ∷ codes ", assertions " ∷ decimal x.assertions.reached
    ∷ codes " of " ∷ decimal x.assertions.all
    ∷ codes ", threads " ∷ decimal x.threads.reached
    ∷ codes " of " ∷ decimal x.threads.all
    ∷ codes "\n" ∷ [])

-- the number of different runs
abbrev pub distinct_text : Distinct → List ℕ
distinct_text x =
    concat (
    codes "distinct: runs " ∷ decimal x.runs
    ∷ codes " of " ∷ decimal x.of
    ∷ codes ", seen once " ∷ decimal x.once
    ∷ codes "\n" ∷ [])

-- the line of a statement that was not reached
abbrev pub line_unless : Bool → Vec ℕ Global → List ℕ
line_unless true line = []
line_unless false line = line.items

-- the lines, of these, whose statements were not reached
abbrev pub unreached_text : List (Vec ℕ Global) → List Bool → List ℕ
unreached_text [] marks = []
unreached_text (line ∷ lines) [] = []
unreached_text (line ∷ lines) (is_reached ∷ marks) =
    line_unless is_reached line ++ unreached_text lines marks

abbrev pub summary_text : TestReport → List ℕ
summary_text x =
    finding_text x x.found
    ++ (asked_line x
    ++ (counts_text x.counts
    ++ (distinct_text x.distinct
    ++ (notes_text x ++ unreached_text x.lines.items x.reached.items))))
