use Rattle.bp_machine.proofs.Common.{◌∙◌, ap, sym, arith, ◌||◌, nat_le, slice_get, guests}
use Rattle.bp_machine.proofs.SessionAnswers.{count_more}
use Rattle.bp_machine.proofs.TransitionIsAnswer.{guest_here}
use Rattle.bp_machine.proofs.machine.Machine.live_threads.Goals as goal
use Rattle.bp_machine.proofs.machine.Machine.live_threads.Goals.{then-not-is_terminated, else-not-is_terminated}

pub loop-thread-preserved : goal.loop-thread-preserved
loop-thread-preserved c =
    let i = c.loop-thread.thread-index in
    let guest = c.thread-item.result.guest in
    let found = guest_here c.as_slice-thread-items.result.now i c.thread-item.result c.loop-thread-test.true c.thread-item.is in
    let threads = ap guests c.as_slice-thread-items.ensures.value ∙ ap (λ m. m.state.threads) c.self.view_is in
    let has = sym (ap (λ ls. slice_get ls i) threads) ∙ found in
    elim c.if-not-is_terminated.branch [
      | then-not-is_terminated w ↦ record {
        few = omega arith;
        counted = λ t s h calls stands.
            let over = c.is_terminated.ensures ∙ ap (λ n. guest.ended || nat_le n guest.calls) (sym calls) in
            let base = count_more t s c.args.self.now.state h stands i guest has c.is_terminated.result over
            c.loop-thread.count (c.loop-thread.invariant.counted t s h calls stands) in
            w.count-is ∙ (rw w.if-not-is_terminated.true at base);
      }
      | else-not-is_terminated w ↦ record {
        few = omega arith;
        counted = λ t s h calls stands.
            let over = c.is_terminated.ensures ∙ ap (λ n. guest.ended || nat_le n guest.calls) (sym calls) in
            let base = count_more t s c.args.self.now.state h stands i guest has c.is_terminated.result over
            c.loop-thread.count (c.loop-thread.invariant.counted t s h calls stands) in
            w.count-is ∙ (rw w.if-not-is_terminated.false at base);
      }
    ]
