use Rattle.bp_view.proofs.Common.{◌≡◌, ◌<◌, ◌≤◌, ◌++◌, ◌∷◌, [], suc, map, take, length, subst, sym, add-one, arith, rules, map-append, take_all, stack_of, configuration_after, item_at, frame_in, AreStackFacts}
use Rattle.bp_view.proofs.WholeFacts.{one_frame_more}
use Rattle.bp_view.proofs.state_facts.frames_of.Goals as goal

-- each frame within the depth is there
pub returns-in_default : goal.returns-in_default
returns-in_default c = λ text h set stands.
    let t = c.args.session.now.code.tree in
    let stack = stack_of (configuration_after t c.args.session.now.setup h) c.args.thread in
    let inside : c.loop-above.above < length stack = omega (arith, c.depth_of-above-end.ensures h stands, c.loop-above-test.true) in
    let (f, at) = item_at stack c.loop-above.above inside in
    absurd (rw c.in_default.is at c.frame_below.ensures text h f set stands at)

pub loop-above-preserved : goal.loop-above-preserved
loop-above-preserved c = λ text h set stands.
    let t = c.args.session.now.code.tree in
    let stack = stack_of (configuration_after t c.args.session.now.setup h) c.args.thread in
    let n = c.loop-above.above in
    let inside : n < length stack = omega (arith, c.depth_of-above-end.ensures h stands, c.loop-above-test.true) in
    let (f, at) = item_at stack n inside in
    let frame = c.in-Some.frame in
    let facts = rw c.in-Some.is at c.frame_below.ensures text h f set stands at in
    let pushed : map frame_in c.push.new.self.items ≡ map frame_in c.loop-above.frames.items ++ frame_in frame ∷ [] = search (rules, map-append) in
    subst (λ k. AreStackFacts text 0 (take k stack) (map frame_in c.push.new.self.items)) (sym (add-one n))
    (subst (AreStackFacts text 0 (take (suc n) stack)) (sym pushed)
    (one_frame_more text 0 n n (omega arith) stack _ f (frame_in frame) (c.loop-above.invariant text h set stands) at facts))

pub returns : goal.returns
returns c = λ text h set stands.
    let t = c.args.session.now.code.tree in
    let stack = stack_of (configuration_after t c.args.session.now.setup h) c.args.thread in
    let all : length stack ≤ c.loop-above.above = omega (arith, c.depth_of-above-end.ensures h stands) in
    subst (λ fs. AreStackFacts text 0 fs (map frame_in c.loop-above.frames.items)) (take_all c.loop-above.above stack all)
    (c.loop-above.invariant text h set stands)
