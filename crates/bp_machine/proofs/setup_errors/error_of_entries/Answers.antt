use Rattle.bp_machine.proofs.Common.{◌∙◌, sym, string_bytes}
use Rattle.bp_machine.proofs.SetupInRange.{refused, fine}
use Rattle.bp_machine.proofs.setup_errors.error_of_entries.Goals as goal

pub returns-then-is_some : goal.returns-then-is_some
returns-then-is_some c =
    let own = rw c.as_bytes.ensures.value at c.error_of_entry-error.ensures in
    let some = rw own at c.if-is_some.ensures in
    own ∙ sym (c.loop-thread.invariant
    ∙ refused c.args.code.now.tree string_bytes c.args.entries.now c.loop-thread.thread c.index-entries-thread.result
    c.index-entries-thread.result c.loop-thread-test.true c.index-entries-thread.is (sym some))

pub loop-thread-preserved : goal.loop-thread-preserved
loop-thread-preserved c =
    let own = rw c.as_bytes.ensures.value at c.error_of_entry-error.ensures in
    let none = rw own at c.if-is_some.ensures in
    c.loop-thread.invariant
    ∙ fine c.args.code.now.tree string_bytes c.args.entries.now c.loop-thread.thread c.index-entries-thread.result
    c.index-entries-thread.result c.loop-thread-test.true c.index-entries-thread.is (sym none)
