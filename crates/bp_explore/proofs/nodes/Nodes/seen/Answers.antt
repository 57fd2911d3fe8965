use Rattle.bp_explore.proofs.Common.{ap, sym, subst, NodesOf, StateOf, Shows}
use Rattle.bp_explore.proofs.nodes.Nodes.seen.Goals as goal

pub returns-clause-shows : goal.returns-clause-shows
returns-clause-shows c = λ t a d before shows failed.
    c.seen.ensures.shows t a d before (subst (λ (x : StateOf). Shows t x d) (sym (ap (λ (m : NodesOf). m.spare) c.self.view_is)) shows) failed
