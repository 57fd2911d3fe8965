-- The shown part of the end of a history, as plain facts.
use Rattle.std.specs.Prelude.{if◌then◌else◌, ◌≡◌, ◌↔◌, IsTrue, ℕ, zero, suc, Bool, List, [], ◌∷◌, ◌++◌, Option, None, Some, drop, flat_map, map, option_map}
use Rattle.std.specs.List.{All}
use Rattle.bp_syntax.specs.Ast.{Decision, Procedure, Program}
use Rattle.bp_flat.specs.Moves.{Frame, Configuration, Store, frame_store, Valuation, lookup}
use Rattle.bp_flat.specs.StandsFor.{start_of_block}
use Rattle.bp_machine.specs.declared.calls.Call.{Call}
use Rattle.bp_machine.specs.declared.calls.Outcome.{Outcome}
use Rattle.bp_machine.specs.declared.calls.Outcome.TheVariants.{Clean, Failed}
use Rattle.bp_machine.specs.declared.calls.Report.{Report}
use Rattle.bp_machine.specs.Histories.{stack_of, configuration_after, IsRealFailure}
use Rattle.bp_machine.specs.Runs.{IsDeadlocked, waits}
use Rattle.bp_machine.specs.Setups.{SetupOf, threads}
use Rattle.bp_text.specs.declared.lines.Position.{Position}
use Rattle.bp_text.specs.Lines.{position_at}
use Rattle.bp_source.specs.Names.{next_decision, variables_read}
use Rattle.bp_source.specs.SourceStatements.{IsStatement}
use Rattle.bp_view.specs.declared.footer_facts.ConditionFacts.{ConditionFacts}
use Rattle.bp_view.specs.declared.footer_facts.FooterFacts.{FooterFacts}
use Rattle.bp_view.specs.CallFacts.{entry_of, Entry}

-- The shown facts of a condition, which is an assertion or an assumption: the thread that is at it,
-- its start, its text, and the variables that it reads with their values.
pub record ShownCondition : Type 0 where
  pub thread : ℕ
  pub position : Position
  pub text : List ℕ
  pub values : List Entry

-- The shown facts of the end: the report, whether the threads are deadlocked, the assertion that
-- failed, and the assumptions at which threads wait in a deadlock.
pub record ShownFooter : Type 0 where
  pub report : Report
  pub deadlocked : Bool
  pub failure : Option ShownCondition
  pub waits : List ShownCondition

-- the facts of the values of src/
abbrev pub condition_in : ConditionFacts → ShownCondition
condition_in x =
    record {
      thread = x.thread;
      position = x.position;
      text = x.text.now;
      values = map entry_of x.values.items;
    }

abbrev pub footer_in : FooterFacts → ShownFooter
footer_in x =
    record {
      report = x.report;
      deadlocked = x.deadlocked;
      failure = option_map condition_in x.failure;
      waits = map condition_in x.waits.items;
    }

-- the local of this name, else the global of this name, with its value; nothing if neither is
-- declared
abbrev pub resolved : Procedure → List ℕ → (local global : Option Bool) → List Entry
resolved p name (Some b) global = record { owner = Some p; name = name; value = b } ∷ []
resolved p name None (Some b) = record { owner = None; name = name; value = b } ∷ []
resolved p name None None = []

-- the variable that a name means in a procedure, with its value in a store
abbrev pub named_entry : Procedure → Store Valuation → List ℕ → List Entry
named_entry p s name = resolved p name (lookup s.locals name) (lookup s.globals name)

-- the variables of each of these names
abbrev pub named_entries : Procedure → Store Valuation → List (List ℕ) → List Entry
named_entries p s names = flat_map (named_entry p s) names

-- These are the facts of a condition that begins at this offset of the text, has this decision, and
-- is tried in this procedure with this store.
pub record AreConditionFacts
    (text : List ℕ) (at : ℕ) (d : Decision) (p : Procedure) (s : Store Valuation)
    (x : ShownCondition)
    : Type 0 where
  pub position : x.position ≡ position_at text at
  pub reads : Bool
  pub statement : IsStatement (drop at text) x.text reads
  pub values : x.values ≡ named_entries p s (variables_read d)

-- thread i is at a condition, which begins at this offset and has this decision
pub record IsAtCondition (c : Configuration) (i : ℕ) : Type 0 where
  pub frame : Frame
  pub below : List Frame
  pub stack : stack_of c i ≡ frame ∷ below
  pub at : ℕ
  pub begins : start_of_block frame.left ≡ Some at
  pub decision : Decision
  pub decides : next_decision frame.left ≡ Some decision

-- these are the facts of the condition at which its thread is
pub record AreStandingFacts (text : List ℕ) (c : Configuration) (x : ShownCondition) : Type 0 where
  pub stands : IsAtCondition c x.thread
  pub are :
      let store = frame_store c.globals stands.frame in
      AreConditionFacts text stands.at stands.decision stands.frame.procedure store x

-- the threads below n that wait, in ascending order
abbrev pub waiting : Program → Configuration → (n : ℕ) → List ℕ
waiting t c zero = []
waiting t c (suc n) = if waits t c n then waiting t c n ++ n ∷ [] else waiting t c n

-- these are the facts of these threads, which wait
pub record AreWaitsFacts
    (text : List ℕ) (c : Configuration) (waiting : List ℕ) (xs : List ShownCondition)
    : Type 0 where
  pub each : All (AreStandingFacts text c) xs
  pub of : map (λ x. x.thread) xs ≡ waiting

-- Of a program and its text, in a setup; at the end of the history h.
module _ (t : Program) (text : List ℕ) (s : SetupOf) (h : List Call) where
  -- these are the facts of the assertion that failed, as it was tried
  pub record AreAssertionFacts (x : ShownCondition) : Type 0 where
    pub failure : IsRealFailure t s h x.thread
    pub are :
        let frame = failure.stands.frame in
        let store = frame_store (configuration_after t s failure.before).globals frame in
        let d = failure.stands.decision in
        AreConditionFacts text failure.stands.at d frame.procedure store x

  -- these are the facts for a failed outcome; a clean one has none
  abbrev pub AreFailureFacts : Outcome → Option ShownCondition → Type 0
  AreFailureFacts Clean x = x ≡ None
  AreFailureFacts (Failed i) None = ⊥
  AreFailureFacts (Failed i) (Some x) = (x.thread ≡ i) × AreAssertionFacts x

  -- these are the facts of the end, with this report
  pub record AreFooterFacts (r : Report) (x : ShownFooter) : Type 0 where
    pub report : x.report ≡ r
    pub decides : IsTrue x.deadlocked ↔ IsDeadlocked t (configuration_after t s h)
    pub failure : AreFailureFacts r.outcome x.failure
    pub waits_are :
        let now = configuration_after t s h in
        let stuck = if x.deadlocked then waiting t now (threads s) else [] in
        AreWaitsFacts text now stuck x.waits
