use Rattle.bp_machine.proofs.Common.{◌∙◌, sym, refl, []}
use Rattle.bp_machine.proofs.SetupInRange.{refused, fine}
use Rattle.bp_machine.proofs.starts.error_of_names.Goals as goal

pub returns-then-is_some : goal.returns-then-is_some
returns-then-is_some c =
    let own = c.error_of_entry-error.ensures in
    let some = rw own at c.if-is_some.ensures in
    own ∙ sym (c.loop-thread.invariant
    ∙ refused c.args.code.now.tree (λ n. n.now) c.args.entries.now c.loop-thread.thread _ (record { ref_ptr = (0, 0); now = [] })
    c.loop-thread-test.true refl (sym some))

pub loop-thread-preserved : goal.loop-thread-preserved
loop-thread-preserved c =
    let own = c.error_of_entry-error.ensures in
    let none = rw own at c.if-is_some.ensures in
    c.loop-thread.invariant
    ∙ fine c.args.code.now.tree (λ n. n.now) c.args.entries.now c.loop-thread.thread _ (record { ref_ptr = (0, 0); now = [] })
    c.loop-thread-test.true refl (sym none)
