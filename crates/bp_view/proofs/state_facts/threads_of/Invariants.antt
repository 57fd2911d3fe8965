use Rattle.bp_view.proofs.Common.{◌≡◌, List, ℕ, length, map, Stands, AreProgramFacts, thread_in, AreThreadsFacts}
use Rattle.bp_view.proofs.state_facts.threads_of.Given as goal

pub record Filled (count : ℕ) (n : ℕ) (Are : Type 0) : Type 0 where
  pub all : count ≡ n
  pub are : Are

abbrev pub invariant-loop-thread : goal.invariant-loop-thread
invariant-loop-thread l =
    Filled (length l.threads.items) l.thread
    ((text : List ℕ) → AreProgramFacts l.session.code.tree text l.program → Stands l.session.code.tree l.session l.history
    → AreThreadsFacts l.session.code.tree text l.session.setup l.history 0 (map thread_in l.threads.items))
