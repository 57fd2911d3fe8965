-- A node to which a step from a reached node leads is reached.
use Rattle.bp_explore.proofs.Common.{◌≡◌, length, Option, None, Some, refl, ap, sym, ◌∙◌, subst, ◌<◌, ◌≤◌, ◌+◌, ◌&&◌, nat_le, ℕ, Bool, true, false, cond, List, [], ◌∷◌, ◌++◌, inl, inr, arith, slice_get, map, option_map, rules, length-map, slice_get-map, cases_lt, Program, ShowsStack, StandsFor, StepsAlike, bits_of, Flat, Configuration, effect, Moves, stack_of, reply_of, reply_on_stack, reply_to_effect, configuration_after_call, IsRun, first_thread, contexts_opened, count_with, IsCountOf, SetupOf, start, Fits, Call, Reply, Stopped, Full, Stepped, ActivationRecord, Transition, EachHasRoom, HasRoom, IsTransitionOn, starts, counts_more, is_step, step_moves, first_step, ended, one_move, on_stack, StateOf, first_stack_of, Shows, ListedSteps, MakesFrom, level_with, node_with, BeginsAt, AreFrom, IsFollowed, count_of_none, ends, suc, zero, IsStep, Step, Stays, Leads}
use Rattle.bp_flat.specs.Steps.{bits_from}
use Rattle.bp_machine.specs.declared.calls.Outcome.TheVariants.{Clean}
use Rattle.bp_machine.specs.declared.contexts.ContextCount.{ContextCount}
use Rattle.bp_explore.specs.Explorations.{MakesInOrder}
use Rattle.bp_machine.specs.Sessions as states
use Rattle.bp_machine.specs.declared.limits.TheConstants.{MAX_FRAMES}
use Rattle.bp_machine.specs.declared.threads.Transition.TheVariants as transition
use Rattle.bp_machine.specs.Histories as reports
use Rattle.bp_explore.specs.States.{NodeOf as Node}
use Rattle.bp_explore.proofs.Growth.{item_at, one_item}
use Rattle.bp_explore.proofs.MadeSteps.{makes_one, makes_run, passes_one, IsCounted, step_matches}

-- The first state shows the start.

of_map : {X Y : Type 0} (f : X → Y) (o : Option X) (y : Y) → option_map f o ≡ Some y → (x : X) × (o ≡ Some x) × (f x ≡ y)
of_map given1 = grind (arith)

pub start_shown : (c : Flat) (t : Program) (s : SetupOf) → StandsFor c t → Fits t s → (x : StateOf)
    → bits_of x.globals ≡ bits_from s.init → x.stacks ≡ map (first_stack_of c) s.entries → Shows t x (start t s)
start_shown c t s is fits x word stacks =
    let y : states.State = record { globals = x.globals; threads = map (first_thread c) s.entries; contexts = record { used = 0; last = None }; outcome = Clean } in
    let stands = starts c t s is y fits word refl refl refl in
    record {
      globals = stands.globals;
      count = ap length stacks ∙ length-map s.entries (first_stack_of c) ∙ sym stands.stacks;
      stack = λ i stack at.
          let found = sym (slice_get-map (first_stack_of c) s.entries i) ∙ sym (ap (λ l. slice_get l i) stacks) ∙ at in
          let (e, has, stack_is) = of_map (first_stack_of c) (slice_get s.entries i) stack found in
          let guest : slice_get (map (first_thread c) s.entries) i ≡ Some (first_thread c e) =
          slice_get-map (first_thread c) s.entries i ∙ ap (option_map (first_thread c)) has in
          subst (λ z. ShowsStack t (states.activations z) (stack_of (start t s) i)) stack_is (stands.thread i (first_thread c e) guest).stack;
    }

-- a step that was made had room
room_of : (t : Program) (c : Configuration) (i : ℕ) (bit : Bool) → reply_on_stack t true c.globals (stack_of c i) bit ≡ Some Stepped → HasRoom c i
room_of t c i bit told frame below stack call = by_test (nat_le MAX_FRAMES (length (frame ∷ below))) refl
  where
    e : Option Reply
    e = reply_to_effect (effect t.procedures frame.left c.globals frame below bit)

    full : cond (true && nat_le MAX_FRAMES (length (frame ∷ below))) (Some Full) e ≡ Some Stepped
    full = grind (arith)

    by_test : (b : Bool) → nat_le MAX_FRAMES (length (frame ∷ below)) ≡ b → length (frame ∷ below) < MAX_FRAMES
    by_test b given1 = grind (arith)

pub no_split : (before : List Call) (x : Call) (later : List Call) → [] ≡ before ++ x ∷ later → ⊥
no_split [] x later e = cc
no_split (y ∷ ys) x later e = cc

-- a run with one more step has room, too
room_one : (t : Program) (c : Configuration) (steps : List Call) (d : Configuration) (x : Call) → IsRun t c steps d → EachHasRoom t c steps
    → HasRoom d x.thread → EachHasRoom t c (steps ++ x ∷ [])
room_one t c [] d x run room own = by_front
  where
    by_front : EachHasRoom t c (x ∷ [])
    by_front [] y later e split to =
        let same : x ≡ y = cc in
        subst (λ z. HasRoom e z.thread) same (subst (λ z. HasRoom z x.thread) (sym (ended run) ∙ ended to) own)
    by_front (z ∷ zs) y later e split to = absurd (no_split zs y later cc)
room_one t c (w ∷ ws) d x run room own =
    let first = first_step run in
    by_front first.next first.move (room_one t first.next ws d x first.rest
    (λ before y later e split to. room (w ∷ before) y later e (ap (λ zs. w ∷ zs) split) (reports.moves c w first.next before e first.move to)) own)
  where
    by_front : (next : Configuration) → Moves t c w.thread w.bit next → EachHasRoom t next (ws ++ x ∷ []) → EachHasRoom t c (w ∷ (ws ++ x ∷ []))
    by_front next move rest [] y later e split to =
        let same : w ≡ y = cc in
        subst (λ z. HasRoom e z.thread) same (room [] w ws e refl to)
    by_front next move rest (z ∷ zs) y later e split to =
        let same : w ≡ z = cc in
        let left : ws ++ x ∷ [] ≡ zs ++ y ∷ later = cc in
        let first = first_step (subst (λ v. IsRun t c (v ∷ zs) e) (sym same) to) in
        let there = one_move t c w.thread w.bit first.next next first.move move in
        rest zs y later e left (subst (λ v. IsRun t v zs e) there first.rest)

map_one : (steps : List Call) (x : Call) → map (λ (y : Call). y.thread) (steps ++ x ∷ []) ≡ map (λ (y : Call). y.thread) steps ++ x.thread ∷ []
map_one [] x = refl
map_one (y ∷ ys) x = ap (λ ts. y.thread ∷ ts) (map_one ys x)

-- a run leads to the node's configuration, within its contexts and with a step of its last thread,
-- and makes its number of listed steps, which are not all
pub record IsReached (t : Program) (s : SetupOf) (o : ListedSteps) (node : Node) : Type 0 where
  pub steps : List Call
  pub end : Configuration
  pub run : MakesInOrder t s o steps node.made end
  pub few : node.made < o.count
  pub room : EachHasRoom t (start t s) steps
  pub count : ContextCount
  pub counts : IsCountOf count (map (λ x. x.thread) steps)
  pub contexts : count.used ≤ node.level
  pub last : count.last ≡ node.last
  pub shows : Shows t node.state end
  pub going : end.failed ≡ false

module _ (c : Flat) (t : Program) (s : SetupOf) (o : ListedSteps) (own : o.is_of t) (alike : StepsAlike c t) (node : Node) (r : IsReached t s o node)
    (i : ℕ) (bit : Bool) (n level : ℕ) (z : StateOf) where
  -- the step is made
  told : (stack : List ActivationRecord) → slice_get node.state.stacks i ≡ Some stack
      → (v : Transition) → IsTransitionOn c.instructions node.state.globals bit true stack v → IsFollowed o node.made node.state i v (Leads n z)
      → reply_on_stack t true r.end.globals (stack_of r.end i) bit ≡ Some Stepped
  told stack has (transition.Stays reply) is led = absurd cc
  told stack has transition.Fails is (k, counted, led) = absurd cc
  told stack has (transition.Steps e) is led =
      (on_stack c t alike bit node.state.globals r.end.globals r.shows.globals stack (stack_of r.end i) true (transition.Steps e) (r.shows.stack i stack has) is).reply

  module _ (few : n < o.count) (step : IsStep o node.made node.state i c.instructions bit (Leads n z)) (low : level_with node i ≤ level) where
    -- so its thread exists
    within : i < length node.state.stacks
    within = elim (cases_lt i (length node.state.stacks)) [
      | inl near ↦ near
      | inr past ↦
          let no : Leads n z ≡ Stays = subst (λ v. IsFollowed o node.made node.state i v (Leads n z)) (step.is.none past) step.led in
          absurd cc
    ]

    pub reached_more : IsReached t s o (node_with z n i level)
    reached_more =
        let now = r.end in
        let (stack, has) = item_at node.state.stacks i within in
        let stepped = told stack has step.transition (step.is.some stack has) step.led in
        let reply : reply_of t true now i bit ≡ Some Stepped = ap (λ b. cond b (Some Stopped) (reply_on_stack t true now.globals (stack_of now i) bit)) r.going ∙ stepped in
        let d = configuration_after_call t now i bit Stepped in
        let move : Moves t now i bit d = step_moves t now i bit Stepped refl (is_step t now i bit Stepped refl true reply).1 in
        let room = room_of t now i bit stepped in
        let (counted, shows, going) = step_matches c t o own alike node.made node.state now r.shows i bit d move room (Leads n z) step in
        let x : Call = record { thread = i; bit = bit; reply = Stepped } in
        let used = r.contexts in
        let same = ap (λ l. contexts_opened l i) r.last in
        record {
          steps = r.steps ++ x ∷ [];
          end = d;
          run = by_count d move counted counted.is_made refl;
          few = few;
          room = room_one t (start t s) r.steps now x (makes_run t o 0 (start t s) r.steps node.made now r.run) r.room room;
          count = count_with r.count i;
          counts = subst (IsCountOf (count_with r.count i)) (sym (map_one r.steps x)) (counts_more r.count (map (λ (y : Call). y.thread) r.steps) i r.counts);
          contexts = omega (arith, used, same, low);
          last = refl;
          shows = shows;
          going = going;
        }
      where
        x : Call
        x = record { thread = i; bit = bit; reply = Stepped }

        by_count : (d : Configuration) → Moves t r.end i bit d → (counted : IsCounted o node.made r.end i d n) → (b : Bool) → counted.is_made ≡ b
            → MakesFrom t o 0 (start t s) (r.steps ++ x ∷ []) n d
        by_count d given1 counted b given2 = search (rules, makes_one, told, passes_one)

-- so each node is reached: the first shows the start, and a step leads to each other one
module _ (c : Flat) (s : SetupOf) (o : ListedSteps) (own : o.is_of c.tree) (some : 0 < o.count) (alike : StepsAlike c c.tree)
    (nodes : List Node) (b : BeginsAt c s nodes) (from : AreFrom o c.instructions nodes) where
  first_reached : IsReached c.tree s o (record { state = b.state; made = 0; last = None; level = 0 })
  first_reached = record {
    steps = [];
    end = start c.tree s;
    run = ends 0 (start c.tree s);
    few = some;
    room = λ before y later d split run. absurd (no_split before y later split);
    count = record { used = 0; last = None };
    counts = count_of_none;
    contexts = omega arith;
    last = refl;
    shows = b.shows;
    going = refl;
  }

  reached_below : (k n : ℕ) (node : Node) → n < k → slice_get nodes n ≡ Some node → IsReached c.tree s o node
  reached_below zero n node few at = absurd (omega (arith, few))
  reached_below (suc k) zero node few at = subst (IsReached c.tree s o) (one_item nodes 0 _ node b.is at) first_reached
  reached_below (suc k) (suc n) node few at =
      let f = from (suc n) node (omega arith) at in
      let earlier = f.before in
      let there = reached_below k f.at f.parent (omega (arith, few, earlier)) f.is in
      let same : node_with node.state node.made f.thread node.level ≡ node =
      λ j. record { state = node.state; made = node.made; last = sym f.last j; level = node.level } in
      subst (IsReached c.tree s o) same (reached_more c c.tree s o own alike f.parent there f.thread f.bit node.made node.level node.state f.few f.step f.low)

  pub each_reached : (n : ℕ) (node : Node) → slice_get nodes n ≡ Some node → IsReached c.tree s o node
  each_reached n node at = reached_below (suc n) n node (omega arith) at
