use Rattle.bp_test.proofs.Common.{on_ok_weaker, made}
use Rattle.bp_test.proofs.TallyLemmas.{counted_run}
use Rattle.bp_test.proofs.tallies.Tally.add_run.Goals as goal

pub returns-clause-counted : goal.returns-clause-counted
returns-clause-counted c = on_ok_weaker c.count_contexts.result (λ contexts s runs was.
    let run = made c.args.history.now c.args.report.now c.args.is_deadlocked c.args.has_returned in
    counted_run s runs run c.args.self.now _ was
    c.saturating_add-self.ensures
    c.saturating_add-self-2.ensures
    c.max-self.ensures
    (c.add_run.ensures runs was.ends)
    contexts
    c.note_steps.ensures) c.count_contexts.ensures
