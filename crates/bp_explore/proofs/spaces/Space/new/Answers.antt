use Rattle.bp_explore.proofs.Common.{List, ap, slice_get, NodeOf}
use Rattle.bp_explore.proofs.ReachedNodes.{start_shown}
use Rattle.bp_explore.proofs.spaces.Space.new.Goals as goal

pub returns-clause-begins : goal.returns-clause-begins
returns-clause-begins c = record {
  state = c.in_ok-first.first;
  is = ap (λ (l : List NodeOf). slice_get l 0) c.in_ok-nodes.ensures;
  shows = start_shown c.args.code.now c.args.code.now.tree c.args.setup.now c.is_of_a_program.ensures.stands c.requires c.in_ok-first.first c.in_ok-first.ensures.globals c.in_ok-first.ensures.stacks;
}
