use Rattle.bp_machine.proofs.Common.{◌∙◌, ap, map, bits_from, first_thread}
use Rattle.bp_machine.proofs.SessionsInOrder.{stands_at_start, in_order_at_start}
use Rattle.bp_machine.proofs.sessions.Session.new.Goals as goal

pub invariant_of-result : goal.invariant_of-result
invariant_of-result c =
    let word = c.word_of.ensures ∙ ap bits_from c.bits.ensures in
    let threads = c.in_ok-threads.ensures ∙ ap (map (first_thread c.args.code.now)) c.entries.ensures in
    rw (c.in_ok-code.ensures, c.in_ok-setup.ensures)
    (in_order_at_start c.args.code.now c.args.setup.now c.start-machine.result c.in_ok-choices.choices.items _ _
    c.start-machine.ensures word threads c.requires c.in_ok-choices.ensures c.is_in_range.ensures
    c.is_of_a_program.ensures)

pub returns-clause-stands : goal.returns-clause-stands
returns-clause-stands c =
    let word = c.word_of.ensures ∙ ap bits_from c.bits.ensures in
    let threads = c.in_ok-threads.ensures ∙ ap (map (first_thread c.args.code.now)) c.entries.ensures in
    rw (c.in_ok-code.ensures, c.in_ok-setup.ensures)
    (stands_at_start c.args.code.now c.args.setup.now c.start-machine.result c.in_ok-choices.choices.items _ _
    c.start-machine.ensures word threads c.requires c.in_ok-choices.ensures c.is_of_a_program.ensures.stands)
