use Rattle.bp_explore.proofs.Common.{◌≡◌, ◌<◌, Some, [], length, reverse, refl, ap, sym, ◌∙◌, arith, slice_get, option_map, rules, length-reverse, slice_get_read, slice_get-map, stack_of, StackOf, top_of, none_shown, top_is, StateOf, frames_of}
use Rattle.bp_explore.proofs.Growth.{item_at}
use Rattle.bp_explore.proofs.LiveStates.{no_frames}
use Rattle.bp_explore.proofs.MadeSteps.{index_is, state_top}
use Rattle.bp_explore.proofs.states.State.top.Goals as goal

pub returns-then-depth-eq0 : goal.returns-then-depth-eq0
returns-then-depth-eq0 c = λ t d shows.
    let i = c.args.thread in
    let items = c.self.inside.stacks.items in
    let own = c.index.result.now in
    let shown : frames_of items ≡ c.args.self.now.stacks = ap (λ (m : StateOf). m.stacks) c.self.view_is in
    let within : i < length items = omega (arith, c.if-thread-len.false, c.len.ensures, c.self.inside.stacks.ok.0) in
    let has : slice_get c.args.self.now.stacks i ≡ Some own.frames =
    sym (ap (λ l. slice_get l i) shown) ∙ slice_get-map (λ (s : StackOf). s.frames) items i
    ∙ ap (option_map (λ (s : StackOf). s.frames)) (slice_get_read items (length items) i own refl within c.index.ensures) in
    let none : own.frames ≡ [] = sym c.frames-frames.ensures ∙ ap reverse (no_frames c.frames-frames.result.now c.if-depth-eq0.true) in
    none_shown t own.frames (stack_of d i) (shows.stack i own.frames has) (sym (ap top_of none))

pub returns : goal.returns
returns c = search (rules, slice_get-map, slice_get_read, item_at, index_is, top_is, length-reverse, state_top)
