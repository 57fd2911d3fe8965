-- The result once a search for listed steps has ended.
use Rattle.bp_explore.proofs.Common.{◌<◌, ◌+◌, ℕ, List, [], Option, refl, sym, subst, inl, inr, arith, map, Program, Flat, EachHasRoom, IsWithin, configuration_after, SetupOf, start, history_is_run, ListedSteps, CanMake, MakesFrom, ends, IsInBound, NodeOf, HasMade, HaveFewer, IsMostMade}
use Rattle.bp_explore.specs.declared.explorations.RunThrough.{RunThrough}
use Rattle.bp_explore.specs.declared.explorations.ThroughEnding.{ThroughEnding}
use Rattle.bp_explore.specs.declared.explorations.ThroughEnding.TheVariants.{Found, Unplayed, Missing, MissingWithin, Unfinished}
use Rattle.bp_explore.specs.ThroughExplorations.{IsPlayedThrough, IsRunThrough, CannotMakeBelow, IsThrough}
use Rattle.bp_explore.proofs.MadeSteps.{makes_one}
use Rattle.bp_explore.proofs.ReachedNodes.{no_split}

-- the run that was found is within its contexts, and has room
run_can_be_made : (c : Flat) (t : Program) (s : SetupOf) (o : ListedSteps) (r : RunThrough) → IsRunThrough c t s o r → CanMake t s o r.contexts o.count
run_can_be_made c t s o r found =
    let h = r.history.items in
    let own = r.session.setup in
    let end = configuration_after t own h in
    let m = found.made in
    let bounded = (history_is_run t own h found.stands.state.legal).run in
    let within = subst (λ l. IsWithin own.contexts (map (λ x. x.thread) l)) found.granted bounded.contexts in
    let room = subst (λ l. EachHasRoom t (start t own) l) found.granted bounded.room in
    let all = makes_one t o 0 (start t s) m.before m.number m.at m.last end m.makes m.moves m.made in
    record {
      steps = h;
      end = end;
      run = subst (λ n. MakesFrom t o 0 (start t s) h n end) m.count (subst (λ l. MakesFrom t o 0 (start t s) l (m.number + 1) end) (sym m.whole) all);
      contexts = subst (λ (z : SetupOf). IsWithin z.contexts (map (λ x. x.thread) h)) found.setup within;
      room = subst (λ (z : SetupOf). EachHasRoom t (start t z) h) found.setup room;
    }

pub through_answer : (c : Flat) (t : Program) (s : SetupOf) (o : ListedSteps) (bound : Option ℕ) (k : ℕ) → CannotMakeBelow t s o k → IsInBound bound k
    → (e : ThroughEnding) → IsPlayedThrough c t s o k e → IsThrough c t s o bound e
through_answer c t s o bound k below within (Found r) (k_is, found) = (subst (CannotMakeBelow t s o) (sym k_is) below, run_can_be_made c t s o r found, found, subst (IsInBound bound) (sym k_is) within)
through_answer c t s o bound k below within (Unplayed contexts calls) (k_is, long) = (subst (CannotMakeBelow t s o) (sym k_is) below, long, subst (IsInBound bound) (sym k_is) within)
through_answer c t s o bound k below within (Missing last made) is = absurd is
through_answer c t s o bound k below within (MissingWithin contexts made) is = absurd is
through_answer c t s o bound k below within (Unfinished contexts reason) is = absurd is

module _ (o : ListedSteps) (nodes : List NodeOf) (made : ℕ) (most : IsMostMade nodes made) where
  pub one_more : HaveFewer o nodes (made + 1)
  one_more at node is few = let low = most.at_most at node is in omega (arith, low)

  pub most_can_be_made : (t : Program) (s : SetupOf) (k : ℕ) → 0 < o.count → HasMade t s o nodes k → (made < o.count) × CanMake t s o k made
  most_can_be_made t s k some has = elim most.attained [
    | inl none ↦ subst (λ n. (n < o.count) × CanMake t s o k n) (sym none) (
      some,
      record {
        steps = [];
        end = start t s;
        run = ends 0 (start t s);
        contexts = record { pieces = []; few = omega arith; each = tt; whole = refl };
        room = λ before y later d split run. absurd (no_split before y later split);
      },
    )
    | inr one ↦ subst (λ n. (n < o.count) × CanMake t s o k n) one.same (has one.at one.node one.is)
  ]
