use Rattle.bp_confirm.proofs.Common.{◌∙◌, ap, subst, sym, slice_get, option_map, configuration_after, inferred_bit, place_of, location_in, IsInferred}
use Rattle.bp_machine.proofs.SetupInRange.{stands_for_own}
use Rattle.bp_confirm.proofs.BitsOfInstructions.{inferred_is}
use Rattle.bp_confirm.proofs.StepsFollowed.{inferred_here}
use Rattle.bp_confirm.proofs.ValuesSeen.{numbers_are}
use Rattle.bp_confirm.proofs.followed_steps.bit_at.Goals as goal

pub returns : goal.returns
returns c = λ text h last x later are tells top.
    let session = c.args.session.now in
    let t = session.code.tree in
    let stands = stands_for_own c.code-code.ensures c.is_of_a_program.ensures in
    let next = location_in c.args.lines.now c.args.next.number in
    let place = option_map (place_of text) next in
    inferred_here t last session.code (configuration_after t session.setup h) x.thread c.args.top later stands top
    c.get.result c.in-Some.instr c.in-Some.is (c.get.ensures ∙ ap (λ k. slice_get k.instructions c.args.top.number) c.code-code.ensures)
    place c.args.next.last c.args.next.follows c.inferred_bit.result (sym tells.place) (sym tells.last_is) (sym tells.follows)
    (λ p left does. subst (IsInferred t left place c.args.next.last c.args.next.follows)
    (ap (λ n. inferred_bit n c.args.next.last c.args.next.follows c.in-Some.instr.now) (sym (numbers_are text t c.args.points.now next are)) ∙ sym c.inferred_bit.ensures)
    (inferred_is t p place c.args.next.last c.args.next.follows left c.in-Some.instr.now does))
