use Rattle.bp_machine.proofs.Common.{◌-◌, ap, sym, ◌∙◌, drop, drop_of_length-le, length, length-drop, slice_get, rules, bits_of, valuation_of, top_of, stack_of, configuration_after}
use Rattle.bp_machine.proofs.Deadlocks.{none_shown, top_shown, shown_below, no_stack}
use Rattle.bp_machine.proofs.sessions.Session.top_below.Goals as goal

pub returns-in_default : goal.returns-in_default
returns-in_default c = search (rules, no_stack, drop_of_length-le)

pub returns-in_default-below : goal.returns-in_default-below
returns-in_default-below c = λ h stands.
    let x = c.args.self.now in
    let t = x.code.tree in
    let n = c.args.returned in
    let guest = c.in-Some.guest.now.guest in
    let frames = stack_of (configuration_after t x.setup h) c.args.thread in
    let has = ap (λ y. slice_get y.machine.state.threads c.args.thread) (sym c.self.view_is) ∙ sym c.in-Some.ensures in
    let shown = shown_below t n guest.stack frames (stands.state.thread c.args.thread guest has).stack in
    let top = c.in_default-below.ensures ∙ ap (λ s. top_of (drop n s)) c.stack.ensures in
    none_shown t (drop n guest.stack) (drop n frames) shown top

pub returns : goal.returns
returns c = λ h stands.
    let x = c.args.self.now in
    let t = x.code.tree in
    let n = c.args.returned in
    let guest = c.in-Some.guest.now.guest in
    let frames = stack_of (configuration_after t x.setup h) c.args.thread in
    let has = ap (λ y. slice_get y.machine.state.threads c.args.thread) (sym c.self.view_is) ∙ sym c.in-Some.ensures in
    let shown = shown_below t n guest.stack frames (stands.state.thread c.args.thread guest has).stack in
    let top = c.in-Some-below.ensures ∙ ap (λ s. top_of (drop n s)) c.stack.ensures in
    let there = top_shown t (drop n guest.stack) (drop n frames) c.in-Some-below.top shown top in
    let globals = c.globals.ensures ∙ ap (λ y. y.machine.state.globals) c.self.view_is in
    let size = c.saturating_sub.ensures ∙ ap (λ k. k - n) (c.len.ensures ∙ ap length c.stack-2.ensures) ∙ sym (length-drop n guest.stack) in
    record {
      frame = there.frame;
      below = there.below;
      stack = there.are;
      next = there.shows.left;
      globals = stands.state.globals ∙ ap (λ g. valuation_of t.globals (bits_of g)) (sym globals);
      locals = there.shows.locals;
      depth = size ∙ there.depth;
    }
