use Rattle.bp_view.proofs.Common.{List, ℕ, map, take, Call, stack_of, configuration_after, Stands, AreProgramFacts, frame_in, AreStackFacts}
use Rattle.bp_view.proofs.state_facts.frames_of.Given as goal

abbrev pub invariant-loop-above : goal.invariant-loop-above
invariant-loop-above l =
    (text : List ℕ) (h : List Call) → AreProgramFacts l.session.code.tree text l.program → Stands l.session.code.tree l.session h
    → AreStackFacts text 0 (take l.above (stack_of (configuration_after l.session.code.tree l.session.setup h) l.thread)) (map frame_in l.frames.items)
