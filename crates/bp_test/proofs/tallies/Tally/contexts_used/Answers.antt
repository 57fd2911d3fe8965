use Rattle.bp_test.proofs.Common.{refl, subst, length, ◌≤◌}
use Rattle.bp_test.proofs.ContextLemmas.{none_so_far, seen_none, seen_some, all_seen}
use Rattle.bp_test.proofs.tallies.Tally.contexts_used.Goals.{then-runs-gt0, else-runs-gt0}
use Rattle.bp_test.proofs.tallies.Tally.contexts_used.Goals as goal

pub loop-contexts-init : goal.loop-contexts-init
loop-contexts-init c = record { items = c.deref-runs-items.ensures.value; so_far = λ s runs few is. none_so_far runs _ refl refl refl }

pub loop-contexts-preserved : goal.loop-contexts-preserved
loop-contexts-preserved c = record {
  items = c.loop-contexts.invariant.items;
  so_far = λ s runs few is.
      let tally = c.args.self.now in
      let items = c.deref-runs-items.result.now in
      let all = c.loop-contexts.invariant.items in
      let i = c.loop-contexts.contexts in
      let before = c.loop-contexts.before in
      let used = c.loop-contexts.used in
      let was = c.loop-contexts.invariant.so_far s runs few is in elim c.if-runs-gt0.branch [
        | then-runs-gt0 w ↦
            rw (w.used-is, w.before-is) (seen_some s runs tally few is items all i before used was w.if-runs-gt0.true _
            c.div_ceil-half.ensures _ w.saturating_add-before.ensures _ w.add.ensures)
        | else-runs-gt0 w ↦ rw (w.used-is, w.before-is) (seen_none s runs tally few is items all i before used was w.if-runs-gt0.false)
      ];
}

pub returns : goal.returns
returns c = λ s runs few is.
    let past = subst (λ v. length v ≤ c.loop-contexts.contexts) c.loop-contexts.invariant.items c.loop-contexts-test.false in
    all_seen s runs c.args.self.now few is c.loop-contexts.contexts c.loop-contexts.before c.loop-contexts.used past
    (c.loop-contexts.invariant.so_far s runs few is)
