-- Laws of histories.
use Rattle.std.specs.Prelude.{◌≡◌, ◌≢◌, ◌≤◌, ◌*◌, ℕ, Bool, false, List, ◌++◌, [], Some, All, length}
use Rattle.bp_syntax.specs.Ast.{Program}
use Rattle.bp_syntax.specs.Texts.{HasText}
use Rattle.bp_flat.specs.Moves.{Configuration}
use Rattle.bp_flat.specs.Flat.{Flat}
use Rattle.bp_flat.specs.StandsFor.{StandsFor}
use Rattle.bp_machine.specs.declared.calls.Call.{Call}
use Rattle.bp_machine.specs.declared.calls.Reply.{Reply}
use Rattle.bp_machine.specs.declared.calls.Outcome.TheVariants.{Failed}
use Rattle.bp_machine.specs.Histories.{reply_of, IsWithin, is_granted, configuration_after, granted_threads, granted_calls, IsLegal, IsRun, outcome_of, IsRealFailure}
use Rattle.bp_machine.specs.Runs.{IsBoundedRun, history_of_run, IsHistoryOfSteps, HasBoundedRun, IsDeadlocked, printed_rows}
use Rattle.bp_machine.specs.Setups.{SetupOf, start, threads, Fits}

-- the granted steps of a legal history are moves, one after the other, from the start
abbrev pub StepsAreARun : Type 0
StepsAreARun =
    (t : Program) (s : SetupOf) (h : List Call)
    → IsLegal t s h
    → IsRun t (start t s) (granted_calls h) (configuration_after t s h)

-- and their threads are within the allowed contexts
abbrev pub StepsAreWithin : Type 0
StepsAreWithin =
    (t : Program) (s : SetupOf) (h : List Call)
    → IsLegal t s h
    → IsWithin s.contexts (granted_threads h)

-- a run within the bounds of a setup is a legal history, with the replies of its steps
abbrev pub RunsAreHistories : Type 0
RunsAreHistories =
    (t : Program) (s : SetupOf) (steps : List Call) (d : Configuration)
    → IsBoundedRun t s steps d
    → IsHistoryOfSteps t s (history_of_run steps d.failed) d

-- and the granted attempts of a legal history are such a run, with these replies
abbrev pub HistoriesAreRuns : Type 0
HistoriesAreRuns =
    (t : Program) (s : SetupOf) (h : List Call)
    → IsLegal t s h
    → HasBoundedRun t s h

-- a reported failure is a false assertion
abbrev pub FailuresAreReal : Type 0
FailuresAreReal =
    (t : Program) (s : SetupOf) (h : List Call) (i : ℕ)
    → IsLegal t s h
    → outcome_of h ≡ Failed i
    → IsRealFailure t s h i

-- a legal history has at most as many attempts as its threads may make together
abbrev pub HistoriesAreShort : Type 0
HistoriesAreShort =
    (t : Program) (s : SetupOf) (h : List Call)
    → IsLegal t s h
    → length h ≤ threads s * s.calls

-- in a deadlock no thread is granted a step, whatever its choice bit, and whether one more step is
-- within the contexts or not
abbrev pub DeadlocksGrantNothing : Type 0
DeadlocksGrantNothing =
    (t : Program) (c : Configuration) (fits : Bool) (i : ℕ) (bit : Bool) (r : Reply)
    → IsDeadlocked t c
    → reply_of t fits c i bit ≡ Some r
    → is_granted r ≡ false

-- so a legal history that reaches a deadlock has no granted attempt after it, whatever contexts and
-- attempts of a thread its setup allows
abbrev pub DeadlocksLast : Type 0
DeadlocksLast =
    (t : Program) (s : SetupOf) (h more : List Call)
    → IsLegal t s (h ++ more)
    → IsDeadlocked t (configuration_after t s h)
    → granted_calls more ≡ []

-- the names of a program's entry procedures hold no line feed
abbrev pub EntriesOnOneLine : Type 0
EntriesOnOneLine =
    (t : Program) (s : SetupOf)
    → HasText t
    → Fits t s
    → All (λ e. All (λ b. b ≢ 10) e) s.entries

-- programs of one code have the same legal histories, which print the same rows; their reports are
-- equal as well, since a report depends only on the setup and the attempts
abbrev pub OneCodeOneMeaning : Type 0
OneCodeOneMeaning =
    (c : Flat) (t u : Program) (s : SetupOf) (h : List Call)
    → StandsFor c t
    → StandsFor c u
    → ((v : Program) → StandsFor c v → Fits v s)
    → IsLegal t s h
    → IsLegal u s h × (printed_rows t s h ≡ printed_rows u s h)
