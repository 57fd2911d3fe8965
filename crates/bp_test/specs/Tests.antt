-- The finding of a test of a program.
use Rattle.std.specs.Prelude.{◌≡◌, ℕ, List, ◌⊎◌, ◌<◌, true, [], ◌↔◌, ◌≤◌, ◌+◌, ◌-◌, ◌%◌, ◌^◌, suc, max, min, Bool, ◌∷◌, ◌++◌, Option, None, Some, All, length, IsTrue, MatchOption, ◌||◌, ◌&&◌, IfSome}
use Rattle.std.specs.declared.collections.VecDeque.{VecDeque}
use Rattle.bp_text.specs.Writing.{AppendsAll, AppendsPart}
use Rattle.bp_syntax.specs.Ast.{Program}
use Rattle.bp_flat.specs.Moves.{Configuration}
use Rattle.bp_machine.specs.declared.calls.Call.{Call}
use Rattle.bp_machine.specs.declared.calls.Outcome.TheVariants.{Failed, Clean}
use Rattle.bp_machine.specs.declared.tops.Top.{Top}
use Rattle.bp_machine.specs.Histories.{configuration_after, outcome_of, stack_of, is_terminated, is_failure, IsWithin, granted_threads, IsLegal, IsReport, HasSeededBits}
use Rattle.bp_machine.specs.Setups.{SetupOf, threads}
use Rattle.bp_machine.specs.Runs.{IsTop, waits, IsDeadlocked}
use Rattle.bp_machine.specs.Sessions.{SessionOf, Stands}
use Rattle.bp_machine.specs.declared.calls.Outcome.{Outcome}
use Rattle.bp_machine.specs.declared.calls.Report.{Report}
use Rattle.bp_trace.specs.TraceText.{trace_text}
use Rattle.bp_source.specs.declared.options.TestOptions.{TestOptions}
use Rattle.bp_test.specs.declared.batches.FoundRun.{FoundRun}
use Rattle.bp_test.specs.declared.tests.TestError.{TestError}
use Rattle.bp_test.specs.declared.tests.TestError.TheVariants as error
use Rattle.bp_test.specs.declared.tallies.Tally.{Tally}
use Rattle.bp_test.specs.declared.tests.Found.{Found}
use Rattle.bp_test.specs.declared.tests.Found.TheVariants as found
use Rattle.bp_test.specs.declared.tests.Tested.{Tested}
use Rattle.bp_test.specs.declared.waits.Waiting.{Waiting}
use Rattle.bp_test.specs.Tallies.{MadeRun, made, IsTally}
use Rattle.bp_test.specs.Reach.{AreWaiting}
use Rattle.bp_test.specs.declared.batches.Block.{Block}
use Rattle.bp_test.specs.declared.plans.Plan.{Plan}

-- The place at which an assertion failed.

-- an assertion failed after this history, and its thread is at the instruction of this number
pub record FailsAt (t : Program) (s : SetupOf) (h : List Call) (number : ℕ) : Type 0 where
  pub thread : ℕ
  pub failed : outcome_of h ≡ Failed thread
  pub top : Top
  pub stands : IsTop t (configuration_after t s h) thread top
  pub is : top.number ≡ number

-- Threads that rest, and histories that are over.

-- each of n threads is at the end of its program
abbrev pub HaveReturned : Configuration → ℕ → Type 0
HaveReturned c n = (i : ℕ) → i < n → stack_of c i ≡ []

-- thread i has terminated, or the thread waits
abbrev pub Rests : Program → SetupOf → List Call → ℕ → Type 0
Rests t s h i = (is_terminated s h i ≡ true) ⊎ (waits t (configuration_after t s h) i ≡ true)

abbrev pub EachRests : Program → SetupOf → List Call → Type 0
EachRests t s h = (i : ℕ) → i < threads s → Rests t s h i

-- an assertion failed, or each thread rests
abbrev pub IsOver : Program → SetupOf → List Call → Type 0
IsOver t s h = (is_failure (outcome_of h) ≡ true) ⊎ EachRests t s h

-- thread i of the session rests
abbrev pub RestsIn : SessionOf → ℕ → Type 0
RestsIn x i = (h : List Call) → Stands x.code.tree x h → Rests x.code.tree x.setup h i

-- the setup of run r, from 0: its seed is the r-th after the first one, modulo 2 ^ 64
abbrev pub setup_of_run : SetupOf → ℕ → ℕ → SetupOf
setup_of_run s seed r = record s { seed = Some ((seed + r) % 2 ^ 64) }

-- a history of the machine within its contexts, with the bits of the seed
pub record IsSample (t : Program) (s : SetupOf) (h : List Call) : Type 0 where
  pub legal : IsLegal t s h
  pub seeded : HasSeededBits s h
  pub within : IsWithin s.contexts (granted_threads h)

-- no assertion failed, and the threads are deadlocked
pub record IsDeadlock (t : Program) (s : SetupOf) (h : List Call) : Type 0 where
  pub clean : outcome_of h ≡ Clean
  pub deadlocked : IsDeadlocked t (configuration_after t s h)

-- a finding of a test: an assertion failed, or the history is a deadlock if deadlocks are searched
-- for too
abbrev pub IsSought : Program → SetupOf → Bool → List Call → Type 0
IsSought t s with_deadlock h =
    (is_failure (outcome_of h) ≡ true) ⊎ ((with_deadlock ≡ true) × IsDeadlock t s h)

-- a run that reached its end: its history is over, and has this report; the run tells whether its
-- threads are deadlocked, and whether each is at the end of its program
pub record IsMadeRun (t : Program) (s : SetupOf) (r : MadeRun) : Type 0 where
  pub sample : IsSample t s r.history
  pub over : IsOver t s r.history
  pub report : IsReport s r.history r.report
  pub deadlock : IsTrue r.deadlocked ↔ IsDeadlocked t (configuration_after t s r.history)
  pub returns : IsTrue r.returned ↔ HaveReturned (configuration_after t s r.history) (threads s)

-- a run that the test does not search for
pub record IsCleanRun (t : Program) (s : SetupOf) (with_deadlock : Bool) (r : MadeRun)
    : Type 0 where
  pub made : IsMadeRun t s r
  pub clean : outcome_of r.history ≡ Clean
  pub lives : with_deadlock ≡ true → IsDeadlocked t (configuration_after t s r.history) → ⊥

-- a run that the test searches for
pub record IsSoughtRun (t : Program) (s : SetupOf) (with_deadlock : Bool) (r : MadeRun)
    : Type 0 where
  pub made : IsMadeRun t s r
  pub sought : IsSought t s with_deadlock r.history

-- these are the runs from number n on, each with its own seed: each reached its end, and the test
-- does not search for it
abbrev pub AreCleanRuns : Program → SetupOf → Bool → (seed n : ℕ) → List MadeRun → Type 0
AreCleanRuns t s with_deadlock seed n [] = Unit {0}
AreCleanRuns t s with_deadlock seed n (r ∷ rs) =
    IsCleanRun t (setup_of_run s seed n) with_deadlock r
    × AreCleanRuns t s with_deadlock seed (suc n) rs

-- these are the threads that wait after the history
abbrev pub Wait : Program → SetupOf → List Call → List Waiting → Type 0
Wait t s h xs = AreWaiting t (configuration_after t s h) (threads s) xs

-- These are the runs up to the finding: the first one from `from` to before `to` that the test
-- searches for. Its failed instruction is known, if it has one.
pub record IsFoundRun (t : Program) (s : SetupOf) (with_deadlock : Bool) (seed from to : ℕ)
    (f : FoundRun) (runs : List MadeRun) : Type 0 where
  pub others : List MadeRun
  pub deadlocked : Bool
  pub returned : Bool
  pub whole : runs ≡ others ++ made f.history.items f.report deadlocked returned ∷ []
  pub number : from + length others ≡ f.run
  pub below : f.run < to
  pub clean : AreCleanRuns t s with_deadlock seed from others
  pub found :
      let run = made f.history.items f.report deadlocked returned in
      IsSoughtRun t (setup_of_run s seed f.run) with_deadlock run
  pub at : MatchOption f.number
      (outcome_of f.history.items ≡ Clean)
      (FailsAt t (setup_of_run s seed f.run) f.history.items)
  pub waiting : Wait t (setup_of_run s seed f.run) f.history.items f.waiting.items

-- the finding among the runs from one number to before another, and the runs up to it, or all of
-- them without a finding
abbrev pub IsFirstFound
    : Program → SetupOf → Bool → (seed from to : ℕ) → Option FoundRun → List MadeRun → Type 0
IsFirstFound t s with_deadlock seed from to None runs =
    (length runs ≡ to - from) × AreCleanRuns t s with_deadlock seed from runs
IsFirstFound t s with_deadlock seed from to (Some f) runs =
    IsFoundRun t s with_deadlock seed from to f runs

-- the finding, and the tally of the runs up to it
pub record IsTallied (t : Program) (s : SetupOf) (with_deadlock : Bool) (seed from to : ℕ)
    (found : Option FoundRun) (tally : Tally) : Type 0 where
  pub runs : List MadeRun
  pub first : IsFirstFound t s with_deadlock seed from to found runs
  pub tallied : IsTally t s runs tally

-- the finding for a run with this report
abbrev pub found_by : ℕ → Report → Outcome → Found
found_by run r (Failed i) = found.Failed run r
found_by run r Clean = found.Deadlock run r

abbrev pub found_in : ℕ → Report → Found
found_in run r = found_by run r r.outcome

-- an assertion failed, at the instruction of this number
abbrev pub HasFailed : Program → SetupOf → List Call → Option ℕ → Type 0
HasFailed t s h None = ⊥
HasFailed t s h (Some number) = (is_failure (outcome_of h) ≡ true) × FailsAt t s h number

-- the bytes of the writer before and after the test
module _ (t : Program) (s : SetupOf) (x : TestOptions) (old new : Option (List ℕ)) where
  -- the first run that the test searches for, of which this holds, after these others; its trace
  -- was written
  pub record IsWrittenRun (Holds : SetupOf → List Call → Type 0) (run : ℕ) (report : Report)
      (runs : List MadeRun) : Type 0 where
    pub history : List Call
    pub others : List MadeRun
    pub deadlocked : Bool
    pub returned : Bool
    pub whole : runs ≡ others ++ made history report deadlocked returned ∷ []
    pub number : length others ≡ run
    pub below : run < x.runs
    pub clean : AreCleanRuns t s x.with_deadlock x.seed 0 others
    pub found :
        let made_run = made history report deadlocked returned in
        IsSoughtRun t (setup_of_run s x.seed run) x.with_deadlock made_run
    pub holds : Holds (setup_of_run s x.seed run) history
    pub written : AppendsAll old new (trace_text (setup_of_run s x.seed run) history)

  -- all runs were made, or the time was over before that
  abbrev pub AreAll : List MadeRun → Type 0
  AreAll runs = (length runs ≤ x.runs) × (x.seconds ≡ None → length runs ≡ x.runs)

  -- the finding, the instruction at which an assertion failed, if one did, the threads that wait
  -- then, and the runs up to it
  abbrev pub IsFound : Found → Option ℕ → List Waiting → List MadeRun → Type 0
  IsFound found.Nothing failed waiting runs =
      (new ≡ old)
      × (failed ≡ None)
      × (waiting ≡ [])
      × AreAll runs
      × AreCleanRuns t s x.with_deadlock x.seed 0 runs
  IsFound (found.Failed run report) failed waiting runs =
      IsWrittenRun (λ z h. HasFailed t z h failed × Wait t z h waiting) run report runs
  IsFound (found.Deadlock run report) failed waiting runs =
      (x.with_deadlock ≡ true)
      × (failed ≡ None)
      × IsWrittenRun (λ z h. IsDeadlock t z h × Wait t z h waiting) run report runs

  -- the finding, and the tally of the runs up to it, that one included
  pub record IsTest (tested : Tested) : Type 0 where
    pub runs : List MadeRun
    pub few : length runs < 2 ^ 64
    pub found : IsFound tested.found tested.failed tested.waiting.items runs
    pub tallied : IsTally t s runs tested.tally

  -- a proper prefix of the trace of the first run that the test searches for was written
  pub record IsCutRun : Type 0 where
    pub run : ℕ
    pub history : List Call
    pub report : Report
    pub deadlocked : Bool
    pub returned : Bool
    pub others : List MadeRun
    pub number : length others ≡ run
    pub below : run < x.runs
    pub clean : AreCleanRuns t s x.with_deadlock x.seed 0 others
    pub found :
        let made_run = made history report deadlocked returned in
        IsSoughtRun t (setup_of_run s x.seed run) x.with_deadlock made_run
    pub written : AppendsPart old new (trace_text (setup_of_run s x.seed run) history)

  abbrev pub IsTestRefusal : TestError → Type 0
  IsTestRefusal error.Memory = new ≡ old
  IsTestRefusal error.Write = IsCutRun

-- Blocks of runs that are made side by side.

-- a test searches for a run with this report, which ended in a deadlock or not
abbrev pub is_sought : Bool → Report → Bool → Bool
is_sought with_deadlock r deadlocked = is_failure r.outcome || (with_deadlock && deadlocked)

-- Runs were to be made from one number to before another, and were made to before `end`: up to the
-- finding, or all of them if there is no deadline and no finding.
abbrev pub IsEnd : (deadline : Option ℕ) → (from to : ℕ) → Option FoundRun → (end : ℕ) → Type 0
IsEnd deadline from to found end =
    (from ≤ end)
    × (end ≤ max from to)
    × (deadline ≡ None → found ≡ None → end ≡ max from to)
    × IfSome found (λ f. end ≡ f.run + 1)

-- the result of a block of this size, in a batch that ends before run `to`
pub record IsBlock (t : Program) (s : SetupOf) (p : Plan) (size to : ℕ) (block : Block)
    : Type 0 where
  pub end : IsEnd p.deadline block.from (min (block.from + size) to) block.found block.end
  pub tallied : IsTallied t s p.with_deadlock p.seed block.from block.end block.found block.tally

-- the blocks that each job made
abbrev pub AreBlocks
    : {Z : Type 0} → Program → SetupOf → Plan → (size to : ℕ) → List (VecDeque Block Z) → Type 0
AreBlocks t s p size to = All (λ blocks. All (IsBlock t s p size to) blocks.items)
