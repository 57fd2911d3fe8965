-- If everything was explored, a run ends at a node that has made as many of the listed steps.
use Rattle.bp_explore.proofs.Common.{◌≡◌, ◌⊎◌, ℕ, ◌+◌, ◌<◌, ◌≤◌, Bool, true, false, List, [], ◌∷◌, length, Option, None, Some, refl, ap, sym, ◌∙◌, subst, inl, inr, arith, slice_get, map, slice_get_within, Program, StepsAlike, Configuration, Flat, Call, EachHasRoom, IsDeadlocked, contexts_opened, SetupOf, threads, start, opened, opened_more, least, move_keeps, thread_below, stacks_at_start, ListedSteps, MakesFrom, CanMake, IsReachable, AreLiveFrom, Shows, HaveFewer, IsStep, Step, level_with, IsSeen, IsClosed, BeginsAt}
use Rattle.bp_machine.specs.Histories as reports
use Rattle.bp_explore.specs.States.{NodeOf as Node}
use Rattle.bp_explore.proofs.MadeSteps.{FirstMade, no_more, first_made, run_passes, Matches, step_matches}

abbrev thread_of : Call → ℕ
thread_of x = x.thread

-- a node shows the configuration, to which a step of the last thread led within this number of
-- contexts, and has made as many listed steps, but not all
record IsShown (t : Program) (o : ListedSteps) (nodes : List Node) (last : Option ℕ) (level made : ℕ) (d : Configuration) : Type 0 where
  at : ℕ
  node : Node
  is : slice_get nodes at ≡ Some node
  last_is : node.last ≡ last
  low : node.level ≤ level
  enough : made ≤ node.made
  few : node.made < o.count
  shows : Shows t node.state d
  going : d.failed ≡ false

-- the end of a run that makes this number of listed steps
record IsEnd (t : Program) (o : ListedSteps) (nodes : List Node) (made : ℕ) (d : Configuration) : Type 0 where
  at : ℕ
  node : Node
  is : slice_get nodes at ≡ Some node
  enough : made ≤ node.made
  few : node.made < o.count
  ends : (d.failed ≡ true) ⊎ Shows t node.state d

module _ (c : Flat) (t : Program) (o : ListedSteps) (own : o.is_of t) (alike : StepsAlike c t) (nodes : List Node) (count k : ℕ)
    (closed : (n : ℕ) (node : Node) (i : ℕ) → slice_get nodes n ≡ Some node → i < count → level_with node i ≤ k
    → (bit : Bool) → (y : Step) × IsStep o node.made node.state i c.instructions bit y × IsSeen o nodes i (level_with node i) y) where
  -- a run that continues after its first step, or ends with it at a false assertion
  goes_on : (x : Call) (xs : List Call) (l : Option ℕ) (level m n : ℕ) (d e : Configuration) (s : IsShown t o nodes l level m d) (first : FirstMade t o m d x xs n e)
      → level_with s.node x.thread ≤ level + contexts_opened l x.thread
      → (IsShown t o nodes (Some x.thread) (level + contexts_opened l x.thread) first.made first.next → IsEnd t o nodes n e)
      → (y : Step) → Matches t o s.node.made d x.thread first.next y → IsSeen o nodes x.thread (level_with s.node x.thread) y → IsEnd t o nodes n e
  goes_on x xs l level m n d e s first given1 given2 y given3 given4 = grind (arith)

  -- a configuration reached from one that a node shows is shown by a node
  stays_shown : (xs : List Call) (l : Option ℕ) (level m n : ℕ) (d e : Configuration) → IsShown t o nodes l level m d → length d.stacks ≡ count
      → MakesFrom t o m d xs n e → EachHasRoom t d xs → level + opened l (map thread_of xs) ≤ k → IsEnd t o nodes n e
  stays_shown [] l level m n d e s stacks run room fits =
      let (made, there) = no_more run in
      let enough = s.enough in
      record { at = s.at; node = s.node; is = s.is; few = s.few; enough = omega (arith, made, enough); ends = inr (subst (Shows t s.node.state) there s.shows) }
  stays_shown (x ∷ xs) l level m n d e s stacks run room fits =
      let first = first_made run in
      let i = x.thread in
      let more = opened_more l i (map thread_of xs) in
      let below = thread_below t d i x.bit first.next first.move in
      let same = ap (λ z. contexts_opened z i) s.last_is in
      let low = s.low in
      let here : level_with s.node i ≤ k = omega (arith, fits, more, same, low) in
      let (y, step, seen) = closed s.at s.node i s.is (omega (arith, below, stacks)) here x.bit in
      let matches = step_matches c t o own alike s.node.made s.node.state d s.shows i x.bit first.next first.move
      (room [] x xs d refl (reports.ends d)) y step in
      goes_on x xs l level m n d e s first (omega (arith, same, low))
      (λ next. stays_shown xs (Some i) (level + contexts_opened l i) first.made n first.next e next
      (move_keeps t d i x.bit first.next first.move ∙ stacks) first.rest
      (λ before z later f split run_to. room (x ∷ before) z later f (ap (λ zs. x ∷ zs) split)
      (reports.moves d x first.next before f first.move run_to))
      (omega (arith, fits, more))) y matches seen

-- if everything within k contexts was seen, from a node that shows the start
module _ (c : Flat) (s : SetupOf) (o : ListedSteps) (own : o.is_of c.tree) (some : 0 < o.count) (alike : StepsAlike c c.tree) (nodes : List Node) (k : ℕ)
    (closed : IsClosed o c.instructions (threads s) nodes (length nodes) k) (b : BeginsAt c s nodes) where
  shown : (n : ℕ) (run : CanMake c.tree s o k n) → IsEnd c.tree o nodes n run.end
  shown n run =
      let fewest = least k (map thread_of run.steps) run.contexts in
      stays_shown c c.tree o own alike nodes (threads s) k
      (λ n node i at within fits bit. closed n node i (slice_get_within nodes n node at) at within fits bit)
      run.steps None 0 0 n (start c.tree s) run.end
      (record { at = 0; node = _; is = b.is; last_is = refl; low = omega arith; enough = omega arith; few = some; shows = b.shows; going = refl })
      (stacks_at_start c.tree s) run.run run.room (omega (arith, fewest))

  pub explored_makes_fewer : (n : ℕ) → HaveFewer o nodes n → CanMake c.tree s o k n → ⊥
  explored_makes_fewer n fewer run =
      let there = shown n run in
      let less = fewer there.at there.node there.is there.few in
      let enough = there.enough in
      omega (arith, less, enough)

  pub explored_is_live : AreLiveFrom c.tree nodes 0 → (d : Configuration) → IsReachable c.tree s k d → d.failed ≡ false → IsDeadlocked c.tree d → ⊥
  explored_is_live live d reached going dead =
      let run : CanMake c.tree s o k 0 = record {
        steps = reached.steps;
        end = d;
        run = run_passes c.tree o 0 (start c.tree s) reached.steps d reached.run;
        contexts = reached.contexts;
        room = reached.room;
      } in
      let there = shown 0 run in
      elim there.ends [
        | inl failed ↦ absurd (let no : false ≡ true = sym going ∙ failed in cc)
        | inr at ↦ live there.at there.node (omega arith) there.is d at dead
      ]
