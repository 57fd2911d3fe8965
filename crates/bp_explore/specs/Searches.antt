-- The start of an exploration, and its search's end. How it works, which no public clause names.
use Rattle.std.specs.Prelude.{◌≡◌, ◌≢◌, ℕ, [], Option, MatchOption, if◌then◌else◌, ◌+◌, ◌↔◌, Bool, IsTrue, true, false, List, Some, slice_get, ◌⊎◌, ◌<◌, ◌≤◌, ◌∷◌, ◌++◌, length, map, None}
use Rattle.bp_syntax.specs.Ast.{Program}
use Rattle.bp_flat.specs.InstrEffects.{bits_of}
use Rattle.bp_flat.specs.Moves.{Configuration}
use Rattle.bp_flat.specs.StandsFor.{valuation_of, StepsAlike}
use Rattle.bp_flat.specs.Flat.{Instruction, Flat}
use Rattle.bp_machine.specs.declared.tops.Top.{Top}
use Rattle.bp_machine.specs.Histories.{stack_of, configuration_after, granted_calls}
use Rattle.bp_machine.specs.Runs.{IsTop, EachHasRoom, IsDeadlocked}
use Rattle.bp_machine.specs.declared.stacks.ActivationRecord.{ActivationRecord}
use Rattle.bp_machine.specs.declared.threads.Transition.{Transition}
use Rattle.bp_machine.specs.declared.threads.Transition.TheVariants as transition
use Rattle.bp_machine.specs.Transitions.{IsTransitionOn}
use Rattle.bp_machine.specs.declared.calls.Call.{Call}
use Rattle.bp_machine.specs.declared.contexts.ContextCount.{ContextCount}
use Rattle.bp_machine.specs.Sessions.{IsCountOf, contexts_opened, Stands}
use Rattle.bp_machine.specs.Setups.{SetupOf, threads, start}
use Rattle.bp_explore.specs.declared.observers.SeenStep.{SeenStep}
use Rattle.bp_explore.specs.Explorations.{ListedSteps, IsMade, MakesInOrder, setup_of_run, CanMake, IsInBound, IsReachable}
use Rattle.bp_explore.specs.States.{StateOf, Shows, state_after, IsNext, NodeOf as Node}
use Rattle.bp_explore.specs.declared.found_runs.Replay.{Replay}
use Rattle.bp_explore.specs.ThroughExplorations.{EndsInLast}
use Rattle.bp_explore.specs.declared.searches.SearchEnd.{SearchEnd}
use Rattle.bp_explore.specs.declared.searches.SearchEnd.TheVariants.{Closed, Bound, Deadlocked, Found, Short}

-- Steps as an exploration sees them.

-- the top of thread i, or None if its stack is empty
abbrev pub IsTopOrNone : Program → Configuration → ℕ → Option Top → Type 0
IsTopOrNone t c i top = MatchOption top (stack_of c i ≡ []) (IsTop t c i)

-- the seen step goes from c to d
pub record ShowsStep (t : Program) (x : SeenStep) (c d : Configuration) : Type 0 where
  pub before : IsTopOrNone t c x.thread x.before
  pub after : IsTopOrNone t d x.thread x.after
  pub globals : d.globals ≡ valuation_of t.globals (bits_of x.globals)
  pub failed : d.failed ≡ x.failed

-- Counting the listed steps that are made. How an exploration works, which no public clause names.

-- one step is listed: a false assertion
abbrev pub failures : ListedSteps
failures = record { count = 1; makes = λ n c i d. d.failed; is_of = λ t. Unit {0} }

-- After the first m, n listed steps are made with a step of thread i: one more if it makes that of
-- number m. This holds for all configurations that it goes from and to.
pub record IsCount
    (o : ListedSteps) (m i n : ℕ) (AreShown : Program → Configuration → Configuration → Type 0)
    : Type 0 where
  pub is_made : Bool
  pub told : (t : Program) (c d : Configuration)
      → o.is_of t
      → AreShown t c d
      → (IsTrue is_made ↔ IsMade o m c i d)
  pub count : n ≡ (if is_made then m + 1 else m)

abbrev pub IsCountedStep : ListedSteps → ℕ → SeenStep → ℕ → Type 0
IsCountedStep o m step n = IsCount o m step.thread n (λ t c d. ShowsStep t step c d)

-- The result of a step of a thread. How an exploration works, which no public clause names.

-- no step, since the thread has ended, waits or has no room for a frame; a false assertion; or the
-- state after the step. The last two have the number of listed steps made so far.
pub data Step : Type 0 where
  Stays : Step
  Fails : (made : ℕ) → Step
  Leads : (made : ℕ) → StateOf → Step

-- the count after a step of thread i from the state x to the state y, in which an assertion fails
-- or not
abbrev pub IsCountTo : ListedSteps → ℕ → ℕ → ℕ → StateOf → StateOf → Bool → Type 0
IsCountTo o m i n x y failed =
    IsCount o m i n (λ t c d. Shows t x c × Shows t y d × (d.failed ≡ failed))

module _ (o : ListedSteps) (m : ℕ) (x : StateOf) (i : ℕ) where
  -- the result of a step of thread i in the state x, after m listed steps, by its transition
  abbrev pub IsFollowed : Transition → Step → Type 0
  IsFollowed (transition.Stays r) y = y ≡ Stays
  IsFollowed transition.Fails y = (n : ℕ) × IsCountTo o m i n x x true × (y ≡ Fails n)
  IsFollowed (transition.Steps d) y =
      (n : ℕ) × (z : StateOf)
      × IsCountTo o m i n x z false
      × ((stack : List ActivationRecord)
      → slice_get x.stacks i ≡ Some stack
      → z ≡ state_after x i stack d)
      × (y ≡ Leads n z)

  -- the result of the next step of thread i with this choice bit: it stays if it does not exist
  pub record IsStep (code : List Instruction) (bit : Bool) (y : Step) : Type 0 where
    pub transition : Transition
    pub is : IsNext code x i bit transition
    pub led : IsFollowed transition y

-- the node of a state, to which a step of thread i led with n listed steps made
abbrev pub node_with : StateOf → ℕ → ℕ → ℕ → Node
node_with x n i level = record { state = x; made = n; last = Some i; level = level }

-- The nodes of an exploration: the states that were found, in order of their contexts. How an
-- exploration works, which no public clause names.

-- the number of contexts used with a step of thread i from the node
abbrev pub level_with : Node → ℕ → ℕ
level_with node i = node.level + contexts_opened node.last i

-- a node has this state within this number of contexts, and a step of thread i led to it, with n
-- listed steps made
pub record Has (nodes : List Node) (x : StateOf) (i n level : ℕ) : Type 0 where
  pub at : ℕ
  pub used : ℕ
  pub is : slice_get nodes at ≡ Some (node_with x n i used)
  pub low : used ≤ level

-- a step of thread i does not make all of the listed steps, and leads to a node within this number
-- of contexts if no assertion fails
abbrev pub IsSeen : ListedSteps → List Node → ℕ → ℕ → Step → Type 0
IsSeen o nodes i level Stays = Unit {0}
IsSeen o nodes i level (Fails n) = n < o.count
IsSeen o nodes i level (Leads n y) = (n < o.count) × Has nodes y i n level

-- after it at most the node of the step was added, which is then there
abbrev pub IsTaken : ListedSteps → List Node → ℕ → ℕ → Step → List Node → Type 0
IsTaken o old i level Stays new = new ≡ old
IsTaken o old i level (Fails n) new = (n < o.count) × (new ≡ old)
IsTaken o old i level (Leads n x) new =
    (n < o.count)
    × ((new ≡ old) ⊎ (new ≡ old ++ node_with x n i level ∷ []))
    × Has new x i n level

-- the step of thread i with this choice bit is seen, and with either choice bit
module _ (o : ListedSteps) (code : List Instruction) (nodes : List Node) where
  abbrev pub IsSeenStep : Node → ℕ → ℕ → Bool → Type 0
  IsSeenStep node i level bit =
      (y : Step) × IsStep o node.made node.state i code bit y × IsSeen o nodes i level y

  abbrev pub IsExpanded : Node → ℕ → ℕ → Type 0
  IsExpanded node i level = (bit : Bool) → IsSeenStep node i level bit

-- the nodes below p are closed under the steps that are within k contexts
abbrev pub IsClosed : ListedSteps → List Instruction → ℕ → List Node → ℕ → ℕ → Type 0
IsClosed o code threads nodes p k =
    (n : ℕ) (node : Node) (i : ℕ)
    → n < p
    → slice_get nodes n ≡ Some node
    → i < threads
    → level_with node i ≤ k
    → IsExpanded o code nodes node i (level_with node i)

-- the nodes from p on use k contexts, those before it fewer
abbrev pub AreLayered : List Node → ℕ → ℕ → Type 0
AreLayered nodes p k =
    (n : ℕ) (node : Node)
    → slice_get nodes n ≡ Some node
    → (n < p → node.level < k) × (p ≤ n → node.level ≡ k)

abbrev pub AreAtMost : List Node → ℕ → Type 0
AreAtMost nodes k =
    (n : ℕ) (node : Node) → slice_get nodes n ≡ Some node → node.level ≤ k

module _ (o : ListedSteps) (code : List Instruction) where
  -- a step from a node before it leads to this node, of number n, and makes not all listed steps
  pub record IsFrom (nodes : List Node) (n : ℕ) (node : Node) : Type 0 where
    pub at : ℕ
    pub parent : Node
    pub before : at < n
    pub is : slice_get nodes at ≡ Some parent
    pub thread : ℕ
    pub bit : Bool
    pub step : IsStep o parent.made parent.state thread code bit (Leads node.made node.state)
    pub few : node.made < o.count
    pub last : node.last ≡ Some thread
    pub low : level_with parent thread ≤ node.level

  -- a step leads to each node but the first
  abbrev pub AreFrom : List Node → Type 0
  AreFrom nodes =
      (n : ℕ) (node : Node) → 0 < n → slice_get nodes n ≡ Some node → IsFrom nodes n node

  -- the nodes were kept, and to the added ones steps lead, within this number of contexts
  pub record IsGrown (level : ℕ) (old new : List Node) : Type 0 where
    pub longer : length old ≤ length new
    pub kept : (n : ℕ) (node : Node)
        → slice_get old n ≡ Some node
        → slice_get new n ≡ Some node
    pub added : (n : ℕ) (node : Node)
        → length old ≤ n
        → slice_get new n ≡ Some node
        → (node.level ≡ level) × IsFrom new n node

  -- the nodes were grown, and the steps of these threads from the node of this number are seen
  pub record Expands (at level : ℕ) (AreOf : Node → ℕ → Type 0) (old new : List Node) : Type 0 where
    pub grown : IsGrown level old new
    pub expanded : (node : Node) (i : ℕ)
        → slice_get old at ≡ Some node
        → AreOf node i
        → IsExpanded o code new node i level

-- everything within k contexts was seen, and the nodes from p on use k contexts
pub record IsExplored
    (o : ListedSteps) (code : List Instruction) (threads : ℕ) (nodes : List Node) (p k : ℕ)
    : Type 0 where
  pub layered : AreLayered nodes p k
  pub closed : IsClosed o code threads nodes (length nodes) k
  pub few : p ≤ length nodes

-- the threads below n other than that whose step led to the node
abbrev pub AreOthers : ℕ → Node → ℕ → Type 0
AreOthers n node i = (i < n) × (node.last ≢ Some i)

-- the nodes of the next layer, from `next` on, were added, and everything within it was seen
pub record IsNextLayer
    (o : ListedSteps) (code : List Instruction) (threads level : ℕ) (old new : List Node) (next : ℕ)
    : Type 0 where
  pub first : next ≡ length old
  pub grown : IsGrown o code level old new
  pub explored : IsExplored o code threads new next level

-- Runs that are played on a session. How an exploration works, which no public clause names.

-- the history makes the first n listed steps, and the last of all with its last attempt
pub record IsPlayedTo (t : Program) (s : SetupOf) (o : ListedSteps) (h : List Call) (n : ℕ)
    : Type 0 where
  pub makes : MakesInOrder t s o h n (configuration_after t s h)
  pub last : o.count ≤ n → EndsInLast t s o h (configuration_after t s h)

-- the session stands after the history, each attempt of which is a granted step
pub record IsReplay
    (c : Flat) (t : Program) (s : SetupOf) (o : ListedSteps) (k : ℕ) (h : List Call) (r : Replay)
    : Type 0 where
  pub code : r.session.code ≡ c
  pub setup : r.session.setup ≡ setup_of_run s k h
  pub stands : Stands t r.session h
  pub granted : granted_calls h ≡ h
  pub made : o.is_of t → IsPlayedTo t r.session.setup o h r.made

-- the state of the first node shows the start
pub record BeginsAt (c : Flat) (s : SetupOf) (nodes : List Node) : Type 0 where
  pub state : StateOf
  pub is : slice_get nodes 0 ≡ Some (record { state = state; made = 0; last = None; level = 0 })
  pub shows : Shows c.tree state (start c.tree s)

-- the nodes that have not made all listed steps have made fewer than n
abbrev pub HaveFewer : ListedSteps → List Node → ℕ → Type 0
HaveFewer o nodes n =
    (at : ℕ) (node : Node)
    → slice_get nodes at ≡ Some node
    → node.made < o.count
    → node.made < n

-- within k contexts some run makes as many listed steps as a node, which are not all
abbrev pub HasMade : Program → SetupOf → ListedSteps → List Node → ℕ → Type 0
HasMade t s o nodes k =
    (at : ℕ) (node : Node)
    → slice_get nodes at ≡ Some node
    → (node.made < o.count) × CanMake t s o k node.made

module _ (t : Program) (s : SetupOf) (o : ListedSteps) (with_deadlock : Bool) where
  -- within k contexts no run makes all listed steps, and no run whose last step is not a false
  -- assertion leads to a deadlock, if deadlocks are searched for
  pub record HasNeither (k : ℕ) : Type 0 where
    pub none : CanMake t s o k o.count → ⊥
    pub live : with_deadlock ≡ true
        → (d : Configuration)
        → IsReachable t s k d
        → d.failed ≡ false
        → IsDeadlocked t d
        → ⊥

  abbrev pub HasNeitherBelow : ℕ → Type 0
  HasNeitherBelow k = (m : ℕ) → m < k → HasNeither m

  -- there is neither, and no run makes n listed steps if the nodes have made fewer
  pub record IsExhausted (nodes : List Node) (k : ℕ) : Type 0 where
    pub neither : HasNeither k
    pub none_more : (n : ℕ) → HaveFewer o nodes n → CanMake t s o k n → ⊥

-- how the search within a bound ends, with these nodes
module _
    (t : Program) (s : SetupOf) (o : ListedSteps)
    (bound : Option ℕ) (with_deadlock : Bool) (nodes : List Node) where
  abbrev pub IsSearchEnd : SearchEnd → Type 0
  IsSearchEnd (Closed last) =
      HasMade t s o nodes last
      × ((k : ℕ) → IsExhausted t s o with_deadlock nodes k)
  IsSearchEnd (Bound contexts) =
      (bound ≡ Some contexts)
      × HasMade t s o nodes contexts
      × IsExhausted t s o with_deadlock nodes contexts
  IsSearchEnd (Deadlocked contexts at) =
      HasNeitherBelow t s o with_deadlock contexts
      × (with_deadlock ≡ true)
      × (CanMake t s o contexts o.count → ⊥)
      × IsInBound bound contexts
  IsSearchEnd (Found contexts step reply) =
      HasNeitherBelow t s o with_deadlock contexts × IsInBound bound contexts
  IsSearchEnd (Short contexts reason) =
      HasNeitherBelow t s o with_deadlock contexts × IsInBound bound contexts

-- a node has made this number of listed steps
pub record HasOneMade (nodes : List Node) (made : ℕ) : Type 0 where
  pub at : ℕ
  pub node : Node
  pub is : slice_get nodes at ≡ Some node
  pub same : node.made ≡ made

-- this is the most that a node has made, or 0 if there is no node
pub record IsMostMade (nodes : List Node) (made : ℕ) : Type 0 where
  pub at_most : (at : ℕ) (node : Node) → slice_get nodes at ≡ Some node → node.made ≤ made
  pub attained : (made ≡ 0) ⊎ HasOneMade nodes made
