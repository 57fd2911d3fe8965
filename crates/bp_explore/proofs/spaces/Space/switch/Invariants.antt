use Rattle.bp_explore.proofs.Common.{AreOthers, Expands}
use Rattle.bp_explore.proofs.spaces.Space.switch.Given as goal

abbrev pub invariant-loop-thread : goal.invariant-loop-thread
invariant-loop-thread g l = Expands (g.O.Observer.listed l.observer) l.code.instructions l.at l.level (AreOthers l.thread) l.fn.self.nodes.items l.self.nodes.items
