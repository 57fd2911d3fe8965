use Rattle.bp_confirm.proofs.Common.{◌++◌, ◌∷◌, [], sym, subst, Difference, configuration_after, IsDifference, AreShown, StepLineOf, values_in}
use Rattle.bp_confirm.proofs.LastChanges.{difference_is}
use Rattle.bp_confirm.proofs.followed_steps.first_difference.Goals as goal

pub returns : goal.returns
returns c = λ text call are stands.
    let t = c.args.checked.now in
    let s = c.args.session.now.setup in
    let h = c.args.history.now in
    let after = h ++ call ∷ [] in
    let found : Difference = record { place = c.in-Some.mismatch.place; seen = c.in-Some.mismatch.seen; changed = c.last_seen_after-changed.result.changed } in
    let now = configuration_after t s after in
    let shown : AreShown t now c.line.inside.thread c.top-top.result c.globals-globals.result = record {
      tops = rw c.requires.code at (c.top-top.ensures after (rw (sym c.requires.code) at stands));
      globals_are = c.globals-globals.ensures t after stands;
    } in
    let mismatch = c.in-Some.ensures.first text now c.line.inside.thread are shown in
    let differs = difference_is t s h call c.line.inside.thread (values_in c.line.inside.values.now)
    c.in-Some.mismatch.name.now found.place found.seen c.in-Some.ensures.name mismatch
    c.in_ok-before.before.seen c.in_ok-before.before.changed found.changed (c.in_ok-before.ensures text are) c.last_seen_after-changed.ensures.changed in
    subst (λ (z : StepLineOf). IsDifference t s after z.thread z.values found) c.line.view_is differs
