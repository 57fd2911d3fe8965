-- Histories that end as another one does, and are no longer.
use Rattle.std.specs.Prelude.{◌≡◌, List, ◌≤◌, ℕ, None, length}
use Rattle.bp_syntax.specs.Ast.{Program}
use Rattle.bp_machine.specs.declared.calls.Call.{Call}
use Rattle.bp_machine.specs.declared.calls.Outcome.TheVariants.{Clean}
use Rattle.bp_machine.specs.Runs.{IsDeadlocked}
use Rattle.bp_machine.specs.Histories.{configuration_after, outcome_of, IsLeastWithin, granted_calls, granted_threads, IsLegal, IsReport}
use Rattle.bp_machine.specs.Sessions.{SessionOf, Stands}
use Rattle.bp_machine.specs.Setups.{SetupOf, setup_error, Fits}
use Rattle.bp_machine.specs.declared.calls.Report.{Report}
use Rattle.bp_test.specs.declared.waits.Waiting.{Waiting}
use Rattle.bp_test.specs.Tests.{FailsAt, IsDeadlock, Wait}
use Rattle.bp_test.specs.declared.shrinks.HistoryEnd.{HistoryEnd}
use Rattle.bp_test.specs.declared.shrinks.HistoryEnd.TheVariants.{Failure, Deadlock, Other}
use Rattle.bp_test.specs.declared.searches.Driven.{Driven}
use Rattle.bp_test.specs.declared.searches.Search.{Search}
use Rattle.bp_test.specs.declared.shrinks.Shrunk.{Shrunk}

-- How histories end.

-- the history ends in a deadlock, in which these threads wait, each at its instruction
abbrev pub DeadlocksAt : Program → SetupOf → List Call → List Waiting → Type 0
DeadlocksAt t s h waiting = IsDeadlock t s h × Wait t s h waiting

-- no assertion failed, and the threads are not deadlocked
pub record IsOtherEnd (t : Program) (s : SetupOf) (h : List Call) : Type 0 where
  pub clean : outcome_of h ≡ Clean
  pub lives : IsDeadlocked t (configuration_after t s h) → ⊥

-- the history has this end: an assertion failed at this instruction, or a deadlock in which these
-- threads wait, or neither
abbrev pub IsEnd : Program → SetupOf → List Call → HistoryEnd → Type 0
IsEnd t s h (Failure number) = FailsAt t s h number
IsEnd t s h (Deadlock waiting) = DeadlocksAt t s h waiting.items
IsEnd t s h Other = IsOtherEnd t s h

-- the history at which the session stands has this end
abbrev pub EndsIn : SessionOf → HistoryEnd → Type 0
EndsIn x end = (h : List Call) → Stands x.code.tree x h → IsEnd x.code.tree x.setup h end

-- the same setup without a seed
abbrev pub unseeded : SetupOf → SetupOf
unseeded s = record s { seed = None }

-- the setup without a seed, and with this number of contexts
abbrev pub with_contexts : SetupOf → ℕ → SetupOf
with_contexts s k = record s { contexts = k; seed = None }

-- g is a legal history, in the setup of the contexts that it uses, each of whose attempts made a
-- step. It has the outcome of h and this end, by no more attempts and no more contexts.
pub record IsShrunk (t : Program) (s : SetupOf) (h : List Call) (end : HistoryEnd) (g : Shrunk)
    : Type 0 where
  pub setup : g.setup ≡ with_contexts s g.report.contexts
  pub fine : setup_error t g.setup ≡ None
  pub legal : IsLegal t g.setup g.history.items
  pub report : IsReport g.setup g.history.items g.report
  pub steps : granted_calls g.history.items ≡ g.history.items
  pub outcome : outcome_of g.history.items ≡ outcome_of h
  pub ends : IsEnd t g.setup g.history.items end
  pub calls : length g.history.items ≤ length h
  pub contexts : (n : ℕ) → IsLeastWithin n (granted_threads h) → g.report.contexts ≤ n

-- The rest are devices of the proofs.

-- a legal history with this end, and its report
pub record IsDriven (t : Program) (s : SetupOf) (end : HistoryEnd) (d : Driven) : Type 0 where
  pub legal : IsLegal t s d.history.items
  pub report : IsReport s d.history.items d.report
  pub ends : IsEnd t s d.history.items end

-- the same outcome, by no more attempts and no more contexts
pub record IsNoMore (d : Driven) (report : Report) : Type 0 where
  pub outcome : d.report.outcome ≡ report.outcome
  pub calls : d.report.calls ≤ report.calls
  pub contexts : d.report.contexts ≤ report.contexts

-- the best history of a search is driven in the setup of its session, which has no seed
pub record IsSearch (x : Search) : Type 0 where
  pub fits : Fits x.session.code.tree x.session.setup
  pub unseeded_is : x.session.setup.seed ≡ None
  pub driven : IsDriven x.session.code.tree x.session.setup x.end x.best

-- g is the result of shrinking the best history of a search at the end
abbrev pub IsShrunkOf : Program → SetupOf → Search → Shrunk → Type 0
IsShrunkOf t s x g = IsShrunk t s x.best.history.items x.end g

-- the search y continues from x
pub record GoesOn (x y : Search) : Type 0 where
  pub search : IsSearch y
  pub code : y.session.code ≡ x.session.code
  pub setup : y.session.setup ≡ x.session.setup
  pub end : y.end ≡ x.end
  pub no_more : IsNoMore y.best x.best.report
