use Rattle.bp_view.proofs.Common.{List, ℕ, map, Call, configuration_after, Stands, condition_in, waiting, AreWaitsFacts, AreProgramFacts}
use Rattle.bp_view.proofs.footer_facts.waits_of.Given as goal

abbrev pub invariant-loop-thread : goal.invariant-loop-thread
invariant-loop-thread l =
    (text : List ℕ) (h : List Call) → AreProgramFacts l.session.code.tree text l.program → Stands l.session.code.tree l.session h
    → let now = configuration_after l.session.code.tree l.session.setup h in
    AreWaitsFacts text now (waiting l.session.code.tree now l.thread) (map condition_in l.waits.items)
