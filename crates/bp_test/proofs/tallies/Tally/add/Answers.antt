use Rattle.bp_test.proofs.Common.{length, subst, ◌≤◌}
use Rattle.bp_test.proofs.TallyLemmas.{tally_both, all_added, few_contexts}
use Rattle.bp_test.proofs.tallies.Tally.add.Goals as goal

pub returns : goal.returns
returns c = λ t s runs more was also.
    let is = c.loop-used.invariant in
    let past = subst (λ v. length v ≤ c.loop-used.used) is.items c.loop-used-test.false in
    tally_both t s runs more c.args.self.now c.args.other.now c.loop-used.self was also is.count is.calls is.longest is.ends
    (all_added c.loop-used.used c.args.self.now.contexts.items c.loop-used.self.contexts.items
    c.args.other.now.contexts.items past is.below is.above (few_contexts s runs c.args.self.now was.counted))
    is.keys is.stepped is.reached
