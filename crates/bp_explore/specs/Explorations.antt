-- The configurations that a program reaches, and the results of an exploration.
use Rattle.std.specs.Prelude.{◌≡◌, ◌⊎◌, ◌<◌, ℕ, zero, suc, true, List, None, length, max, ◌+◌, Bool, [], ◌∷◌, map, ◌≤◌, false, Option, Some}
use Rattle.bp_syntax.specs.Ast.{Program}
use Rattle.bp_flat.specs.Moves.{Configuration, Moves}
use Rattle.bp_flat.specs.Flat.{Flat}
use Rattle.bp_machine.specs.declared.calls.Call.{Call}
use Rattle.bp_machine.specs.declared.limits.TheConstants.{DEFAULT_CALLS, MAX_CALLS, MAX_CONTEXTS}
use Rattle.bp_machine.specs.Runs.{IsDeadlocked, EachHasRoom}
use Rattle.bp_machine.specs.Histories.{configuration_after, granted_calls, calls_of_thread, IsWithin, IsRun}
use Rattle.bp_machine.specs.Sessions.{Stands}
use Rattle.bp_machine.specs.Setups.{SetupOf, threads, start}
use Rattle.bp_explore.specs.declared.explorations.Ending.{Ending}
use Rattle.bp_explore.specs.declared.explorations.Ending.TheVariants.{Nothing, NothingWithin, Found, Unplayed, Unfinished}
use Rattle.bp_explore.specs.declared.explorations.Finding.{Finding}
use Rattle.bp_explore.specs.declared.explorations.Finding.TheVariants.{Failure, Deadlock}
use Rattle.bp_explore.specs.declared.explorations.FoundRun.{FoundRun}

-- The finding of an exploration: a run that ends in a false assertion or in a deadlock.

-- in this configuration an assertion has failed, or the threads are deadlocked
abbrev pub IsFinding : Program → Configuration → Finding → Type 0
IsFinding t d Failure = d.failed ≡ true
IsFinding t d Deadlock = IsDeadlocked t d

-- the largest number of attempts of one of the first n threads
abbrev pub most_calls : ℕ → List Call → ℕ
most_calls zero h = 0
most_calls (suc i) h = max (most_calls i h) (length (calls_of_thread i h))

-- The setup of the trace of a run within k contexts: it has no seed, and allows the default number
-- of attempts, or the number that some thread of the run makes if it is larger.
abbrev pub setup_of_run : SetupOf → ℕ → List Call → SetupOf
setup_of_run s k h = record {
  entries = s.entries;
  init = s.init;
  contexts = k;
  calls = max DEFAULT_CALLS (most_calls (threads s) h);
  seed = None;
}

-- The session is in the setup of the run's trace, and stands after the run's history. Each attempt
-- of the history is a granted step, and the history ends in the finding.
pub record IsFoundRun (c : Flat) (t : Program) (s : SetupOf) (r : FoundRun) : Type 0 where
  pub code : r.session.code ≡ c
  pub setup : r.session.setup ≡ setup_of_run s r.contexts r.history.items
  pub stands : Stands t r.session r.history.items
  pub granted : granted_calls r.history.items ≡ r.history.items
  pub found : IsFinding t (configuration_after t r.session.setup r.history.items) r.finding

-- no setup allows a run with this number of contexts, or with this number of attempts of a thread
abbrev pub IsTooLong : ℕ → ℕ → Type 0
IsTooLong contexts calls = (MAX_CONTEXTS < contexts) ⊎ (MAX_CALLS < calls)

-- the ending if a run within k contexts ends in this finding
abbrev pub IsPlayed : Flat → Program → SetupOf → ℕ → Finding → Ending → Type 0
IsPlayed c t s k f (Found r) = (r.contexts ≡ k) × (r.finding ≡ f) × IsFoundRun c t s r
IsPlayed c t s k f (Unplayed contexts finding calls) =
    (contexts ≡ k) × (finding ≡ f) × IsTooLong contexts calls
IsPlayed c t s k f (Nothing last) = ⊥
IsPlayed c t s k f (NothingWithin contexts) = ⊥
IsPlayed c t s k f (Unfinished contexts reason) = ⊥

-- Listed steps, and the runs that make them in their order, with any other steps between them.

-- the number of listed steps; whether a step of a thread, from one configuration to the next, is
-- the listed step of a number, from 0; and the programs of these configurations
pub record ListedSteps : Type 1 where
  pub count : ℕ
  pub makes : (number : ℕ) → Configuration → (thread : ℕ) → Configuration → Bool
  pub is_of : Program → Type 0

-- A step of thread i makes the listed step of number n. A step at which an assertion fails makes
-- only the last one, because the run ends with it.
pub record IsMade (o : ListedSteps) (n : ℕ) (c : Configuration) (i : ℕ) (d : Configuration)
    : Type 0 where
  pub is : o.makes n c i d ≡ true
  pub last : d.failed ≡ true → n + 1 ≡ o.count

-- These attempts are moves, one after the other, from c to d. If the first m listed steps were made
-- before them, some of the moves make the listed steps from there on, in their order, so that the
-- first n are made.
pub data MakesFrom (t : Program) (o : ListedSteps)
    : (m : ℕ) → Configuration → List Call → (n : ℕ) → Configuration → Type 0 where
  ends : (m : ℕ) (c : Configuration) → MakesFrom t o m c [] m c
  passes : (m : ℕ) (c : Configuration) (x : Call) (d : Configuration)
      (xs : List Call) (n : ℕ) (e : Configuration)
      → Moves t c x.thread x.bit d
      → MakesFrom t o m d xs n e
      → MakesFrom t o m c (x ∷ xs) n e
  makes : (m : ℕ) (c : Configuration) (x : Call) (d : Configuration)
      (xs : List Call) (n : ℕ) (e : Configuration)
      → Moves t c x.thread x.bit d
      → IsMade o m c x.thread d
      → MakesFrom t o (m + 1) d xs n e
      → MakesFrom t o m c (x ∷ xs) n e

-- the run of these steps, from the start of the setup to d, makes the first n listed steps in order
abbrev pub MakesInOrder
    : Program → SetupOf → ListedSteps → List Call → ℕ → Configuration → Type 0
MakesInOrder t s o steps n d = MakesFrom t o 0 (start t s) steps n d

-- Some run makes the first n listed steps in order: with any choices and number of steps, within k
-- contexts, and with room for a frame at each call.
pub record CanMake (t : Program) (s : SetupOf) (o : ListedSteps) (k n : ℕ) : Type 0 where
  pub steps : List Call
  pub end : Configuration
  pub run : MakesInOrder t s o steps n end
  pub contexts : IsWithin k (map (λ x. x.thread) steps)
  pub room : EachHasRoom t (start t s) steps

-- The configurations that a program reaches within k contexts, and when it is safe.

-- A run from the start of the setup leads to d: with any choices and number of steps, within k
-- contexts, and with room for a frame at each call.
pub record IsReachable (t : Program) (s : SetupOf) (k : ℕ) (d : Configuration) : Type 0 where
  pub steps : List Call
  pub run : IsRun t (start t s) steps d
  pub contexts : IsWithin k (map (λ x. x.thread) steps)
  pub room : EachHasRoom t (start t s) steps

-- no assertion fails within k contexts
abbrev pub IsSafe : Program → SetupOf → ℕ → Type 0
IsSafe t s k = (d : Configuration) → IsReachable t s k d → d.failed ≡ false

-- the threads are not deadlocked within k contexts
abbrev pub HasNoDeadlock : Program → SetupOf → ℕ → Type 0
HasNoDeadlock t s k = (d : Configuration) → IsReachable t s k d → IsDeadlocked t d → ⊥

-- this number of contexts is within the bound, if there is one
abbrev pub IsInBound : (bound : Option ℕ) → (contexts : ℕ) → Type 0
IsInBound None k = Unit {0}
IsInBound (Some n) k = k ≤ n

-- The result of an exploration.

-- Within k contexts there is no finding: no false assertion, and no deadlock if deadlocks are
-- searched for as well.
pub record HasNone (t : Program) (s : SetupOf) (with_deadlock : Bool) (k : ℕ) : Type 0 where
  pub safe : IsSafe t s k
  pub live : with_deadlock ≡ true → HasNoDeadlock t s k

-- the fewest contexts with a finding: fewer have none, and a deadlock is found only if deadlocks
-- are searched for and no assertion fails within as many
module _ (t : Program) (s : SetupOf) (with_deadlock : Bool) where
  abbrev pub HasNoneBelow : ℕ → Type 0
  HasNoneBelow k = (m : ℕ) → m < k → HasNone t s with_deadlock m

  abbrev pub IsLooked : ℕ → Finding → Type 0
  IsLooked k Failure = Unit {0}
  IsLooked k Deadlock = (with_deadlock ≡ true) × IsSafe t s k

  abbrev pub IsFirst : ℕ → Finding → Type 0
  IsFirst k f = HasNoneBelow k × IsLooked k f

-- the result for a code that stands for the program, with this bound on contexts
module _ (c : Flat) (t : Program) (s : SetupOf) (bound : Option ℕ) (with_deadlock : Bool) where
  abbrev pub IsExploration : Ending → Type 0
  IsExploration (Nothing last) = (k : ℕ) → HasNone t s with_deadlock k
  IsExploration (NothingWithin contexts) =
      (bound ≡ Some contexts) × HasNone t s with_deadlock contexts
  IsExploration (Found r) =
      IsFirst t s with_deadlock r.contexts r.finding
      × IsFoundRun c t s r
      × IsInBound bound r.contexts
  IsExploration (Unplayed contexts finding calls) =
      IsFirst t s with_deadlock contexts finding
      × IsTooLong contexts calls
      × IsInBound bound contexts
  IsExploration (Unfinished contexts reason) =
      HasNoneBelow t s with_deadlock contexts × IsInBound bound contexts
