-- A search from layer to layer, and its invariant after each.
use Rattle.bp_explore.proofs.Common.{◌≡◌, ◌<◌, ◌≤◌, ℕ, Bool, true, inl, inr, ◌+◌, List, length, Option, None, Some, refl, sym, ◌∙◌, subst, arith, slice_get, map, unwrap_or, cases_lt, slice_get_within, Program, StepsAlike, Flat, Instruction, SetupOf, threads, within_more, AreLiveFrom, ListedSteps, CanMake, IsInBound, BeginsAt, HasMade, HasNeither, HasNeitherBelow, IsExhausted, AreFrom, IsNextLayer, AreAtMost, IsClosed, IsExplored}
use Rattle.bp_explore.specs.States.{NodeOf as Node}
use Rattle.bp_explore.proofs.Growth.{at_most_layered, are_from_kept, before, opened_small}
use Rattle.bp_explore.proofs.ReachedNodes.{each_reached}
use Rattle.bp_explore.proofs.Soundness.{explored_makes_fewer, explored_is_live}

-- all within k contexts was searched, and the nodes from `from` on use k contexts
pub record IsSearched (c : Flat) (s : SetupOf) (o : ListedSteps) (b : Bool) (nodes : List Node) (from k : ℕ) : Type 0 where
  pub explored : IsExplored o c.instructions (threads s) nodes from k
  pub live : b ≡ true → AreLiveFrom c.tree nodes 0
  pub begins : BeginsAt c s nodes
  pub are_from : AreFrom o c.instructions nodes

-- less is reached within fewer contexts
pub neither_less : (t : Program) (s : SetupOf) (o : ListedSteps) (b : Bool) (m k : ℕ) → m ≤ k → HasNeither t s o b k → HasNeither t s o b m
neither_less t s o b m k h none = record {
  none = λ r. none.none (record { steps = r.steps; end = r.end; run = r.run; contexts = within_more m k (map (λ x. x.thread) r.steps) h r.contexts; room = r.room });
  live = λ e d r. none.live e d (record { steps = r.steps; run = r.run; contexts = within_more m k (map (λ x. x.thread) r.steps) h r.contexts; room = r.room });
}

pub neither_below : (t : Program) (s : SetupOf) (o : ListedSteps) (b : Bool) (k : ℕ) → HasNeither t s o b k → HasNeitherBelow t s o b (k + 1)
neither_below t s o b k none m below = neither_less t s o b m k (omega (arith, below)) none

-- the result once everything within k contexts was searched
module _ (c : Flat) (s : SetupOf) (o : ListedSteps) (some : 0 < o.count) (b : Bool) (nodes : List Node) (from k : ℕ) (x : IsSearched c s o b nodes from k) where
  module _ (own : o.is_of c.tree) (alike : StepsAlike c c.tree) where
    closed_exhausted : (m : ℕ) → IsClosed o c.instructions (threads s) nodes (length nodes) m → IsExhausted c.tree s o b nodes m
    closed_exhausted m closed =
        let more = explored_makes_fewer c s o own some alike nodes m closed x.begins in
        record {
          neither = record {
            none = more o.count (λ at node is few. few);
            live = λ yes. explored_is_live c s o own some alike nodes m closed x.begins (x.live yes);
          };
          none_more = more;
        }

    pub exhausted_so_far : IsExhausted c.tree s o b nodes k
    exhausted_so_far = closed_exhausted k x.explored.closed

    made_in : (m : ℕ) → AreAtMost nodes m → HasMade c.tree s o nodes m
    made_in m low at node is =
        let there = each_reached c s o own some alike nodes x.begins x.are_from at node is in
        let enough = there.contexts in
        let small = low at node is in (
          there.few,
          record {
            steps = there.steps;
            end = there.end;
            run = there.run;
            contexts = within_more there.count.used m (map (λ y. y.thread) there.steps) (omega (arith, enough, small)) there.counts.used.within;
            room = there.room;
          },
        )

    pub made_so_far : HasMade c.tree s o nodes k
    made_so_far = made_in k (at_most_layered nodes from k x.explored.layered)

    -- if the last layer brought no node
    pub made_before : (last : ℕ) → k ≡ last + 1 → from ≡ length nodes → HasMade c.tree s o nodes last
    made_before last next all = made_in last (λ n node is.
        let near = slice_get_within nodes n node is in
        let low = (x.explored.layered n node is).0 (omega (arith, near, all)) in
        omega (arith, low, next))

    pub neither_in_next : HasNeitherBelow c.tree s o b (k + 1)
    neither_in_next = neither_below c.tree s o b k exhausted_so_far.neither

    -- if the last layer brought no node, the nodes are closed within any number of contexts
    pub exhausted_at_all : from ≡ length nodes → (m : ℕ) → IsExhausted c.tree s o b nodes m
    exhausted_at_all all m = closed_exhausted m (λ n node i below is within fits.
        let low = (x.explored.layered n node is).0 (omega (arith, below, all)) in
        let small = opened_small node.last i in
        x.explored.closed n node i below is within (omega (arith, low, small)))

  -- the next layer, of which it is not known yet whether its nodes are live
  module _ (new : List Node) (next count : ℕ) (all : count ≡ threads s) (layer : IsNextLayer o c.instructions count (k + 1) nodes new next) where
    next_explored : IsExplored o c.instructions (threads s) new next (k + 1)
    next_explored = subst (λ n. IsExplored o c.instructions n new next (k + 1)) all layer.explored

    next_begins : BeginsAt c s new
    next_begins = record { state = x.begins.state; is = layer.grown.kept 0 _ x.begins.is; shows = x.begins.shows }

    pub none_in_layer : o.is_of c.tree → StepsAlike c c.tree → CanMake c.tree s o (k + 1) o.count → ⊥
    none_in_layer own alike = explored_makes_fewer c s o own some alike new (k + 1) next_explored.closed next_begins o.count (λ at node is few. few)

    pub next_searched : (after : List Node) → after ≡ new → (b ≡ true → AreLiveFrom c.tree new next) → IsSearched c s o b after next (k + 1)
    next_searched after same live = subst (λ (l : List Node). IsSearched c s o b l next (k + 1)) (sym same) (record {
      explored = next_explored;
      live = λ yes n node h e. elim (cases_lt n next) [
        | inl near ↦ x.live yes n node h (before o c.instructions (k + 1) nodes new layer.grown n node (let first = layer.first in omega (arith, near, first)) e)
        | inr past ↦ live yes n node past e
      ];
      begins = next_begins;
      are_from = are_from_kept o c.instructions (k + 1) nodes new layer.grown x.are_from;
    })

-- before any step nothing is within no context
pub one_explored : (o : ListedSteps) (code : List Instruction) (threads : ℕ) (nodes : List Node) (f : Node) → length nodes ≡ 1 → slice_get nodes 0 ≡ Some f
    → f.last ≡ None → f.level ≡ 0 → IsExplored o code threads nodes 0 0
one_explored o code threads nodes f given1 given2 given3 given4 = grind (arith, slice_get_within)

pub first_searched : (c : Flat) (s : SetupOf) (o : ListedSteps) (b : Bool) (nodes after : List Node) → BeginsAt c s nodes → length nodes ≡ 1 → after ≡ nodes
    → (b ≡ true → AreLiveFrom c.tree nodes 0) → IsSearched c s o b after 0 0
first_searched c s o b nodes after begins one same live = subst (λ (l : List Node). IsSearched c s o b l 0 0) (sym same) (record {
  explored = one_explored o c.instructions (threads s) nodes _ one begins.is refl refl;
  live = live;
  begins = begins;
  are_from = λ n node some is. absurd (let within = slice_get_within nodes n node is in omega (arith, one, some, within));
})

-- one more context than are searched is within the bound while the loop's test holds
pub next_in_bound : (bound : Option ℕ) (end last : ℕ) → end ≡ unwrap_or bound 4294967295 → last < end → IsInBound bound (last + 1)
next_in_bound bound end last given1 given2 = grind (arith)
