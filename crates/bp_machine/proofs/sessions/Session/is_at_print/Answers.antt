use Rattle.bp_machine.proofs.Common.{ap, sym, ◌∙◌, is_some, slice_get, rules, top_of}
use Rattle.bp_machine.proofs.SetupInRange.{stands_for_own}
use Rattle.bp_machine.proofs.PrintsAlike.{nothing_printed, none_printed, instruction_printed, print_prints, other_prints_nothing}
use Rattle.bp_machine.proofs.Deadlocks.{no_stack}
use Rattle.bp_machine.proofs.sessions.Session.is_at_print.Goals as goal

pub returns-in_default : goal.returns-in_default
returns-in_default c = search (rules, no_stack)

pub returns-in_default-top : goal.returns-in_default-top
returns-in_default-top c = search (rules, nothing_printed, stands_for_own)

pub returns-in_default-get : goal.returns-in_default-get
returns-in_default-get c = search (rules, none_printed, stands_for_own)

pub returns-in-Print : goal.returns-in-Print
returns-in-Print c = λ h stands.
    let x = c.args.self.now in
    let t = x.code.tree in
    let is = stands_for_own c.code.ensures c.is_of_a_program.ensures in
    let guest = c.in-Some.guest.now.guest in
    let has = ap (λ y. slice_get y.machine.state.threads c.args.thread) (sym c.self.view_is) ∙ sym c.in-Some.ensures in
    let top = c.in-Some-top.ensures ∙ ap top_of c.stack.ensures in
    let found = c.in-Some-get.ensures ∙ ap (λ y. slice_get y.code.instructions c.in-Some-top.top.number) c.self.view_is in
    let prints = instruction_printed x.code t is x.setup x.machine.state h stands.state c.args.thread guest has
    c.in-Some-top.top top c.in-Some-get.instr.now found in
    print_prints c.in-Some-get.instr.now _ (sym c.in-Print.ensures) ∙ ap is_some prints

pub returns-in_default-matches : goal.returns-in_default-matches
returns-in_default-matches c = λ h stands.
    let x = c.args.self.now in
    let t = x.code.tree in
    let is = stands_for_own c.code.ensures c.is_of_a_program.ensures in
    let guest = c.in-Some.guest.now.guest in
    let has = ap (λ y. slice_get y.machine.state.threads c.args.thread) (sym c.self.view_is) ∙ sym c.in-Some.ensures in
    let top = c.in-Some-top.ensures ∙ ap top_of c.stack.ensures in
    let found = c.in-Some-get.ensures ∙ ap (λ y. slice_get y.code.instructions c.in-Some-top.top.number) c.self.view_is in
    let prints = instruction_printed x.code t is x.setup x.machine.state h stands.state c.args.thread guest has
    c.in-Some-top.top top c.in-Some-get.instr.now found in
    other_prints_nothing c.in-Some-get.instr.now _ (λ e. c.in_default-matches.not-Print (c.kind.ensures ∙ e)) ∙ ap is_some prints
