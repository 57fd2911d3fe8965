use Rattle.bp_confirm.proofs.Common.{◌≡◌, ◌∙◌, ◌+◌, ◌<◌, Some, [], length, ap, arith, drop, map, get_or, contexts_opened, opened, End, thread_of}
use Rattle.bp_confirm.proofs.LastChanges.{used_more, used_small, used_all}
use Rattle.bp_confirm.proofs.declarations.contexts_used.Goals as goal

pub loop-n-preserved : goal.loop-n-preserved
loop-n-preserved c =
    let lines = c.args.lines.now in
    let n = c.loop-n.n in
    let x = c.at-line.result.now in
    let last = c.loop-n.last in
    let used = c.loop-n.used in
    let inv = c.loop-n.invariant in
    let within : n < length lines = omega (arith, c.loop-n-test.true, c.len.ensures) in
    let thread : c.line.inside.thread ≡ (get_or lines n x).thread = ap (λ z. z.thread) (c.line.view_is ∙ c.at-line.ensures) in
    let one : c.opened-used.result ≡ contexts_opened last (get_or lines n x).thread = c.opened-used.ensures ∙ ap (contexts_opened last) thread in
    record {
      few = let small = used_small lines n x last used inv.few in omega (arith, one, small);
      used =
          (λ j. used + one j + opened (Some (thread j)) (map thread_of (drop (n + 1) lines)))
          ∙ used_more lines n x last used within inv.used;
    }

pub returns : goal.returns
returns c =
    used_all c.args.lines.now c.loop-n.n (record { thread = 0; location = End; values = [] })
    c.loop-n.last c.loop-n.used (omega (arith, c.loop-n-test.false, c.len.ensures)) c.loop-n.invariant.used
