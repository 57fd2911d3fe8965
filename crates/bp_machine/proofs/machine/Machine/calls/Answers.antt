use Rattle.bp_machine.proofs.Common.{◌+◌, ◌∙◌, ap, sym, arith, length, slice_get, rules, length-map, guests, calls_of_thread}
use Rattle.bp_machine.proofs.HistoriesAreRuns.{total, total_zero, total_next, all_calls}
use Rattle.bp_machine.proofs.TransitionIsAnswer.{guest_here}
use Rattle.bp_machine.proofs.machine.Machine.calls.Goals as goal

pub loop-thread-init : goal.loop-thread-init
loop-thread-init c = search (rules, total_zero)

pub loop-thread-preserved : goal.loop-thread-preserved
loop-thread-preserved c =
    let i = c.loop-thread.thread-index in
    let found = guest_here c.as_slice-thread-items.result.now i c.thread-item.result c.loop-thread-test.true c.thread-item.is in
    let threads = ap guests c.as_slice-thread-items.ensures.value ∙ ap (λ m. m.state.threads) c.self.view_is in
    let has = sym (ap (λ ls. slice_get ls i) threads) ∙ found in
    record {
      few = omega (arith, c.loop-thread.invariant.few, c.from-sum.ensures, c.calls.type_inv);
      counted = λ t s h stands.
          let own = c.from-sum.ensures ∙ c.calls.ensures ∙ (stands.thread i c.thread-item.result.guest has).calls in
          ap (λ n. c.loop-thread.sum + n) own ∙ ap (λ n. n + length (calls_of_thread i h)) (c.loop-thread.invariant.counted t s h stands) ∙ total_next i h;
    }

pub returns : goal.returns
returns c = search (rules, length-map, total, all_calls)
