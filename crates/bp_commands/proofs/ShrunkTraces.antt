-- The answer of the command `shrink`, from the result of shrinking a trace's history.
use Rattle.bp_commands.proofs.Common.{◌≡◌, ◌⊎◌, true, List, refl, ap, sym, subst, arith, inl, inr, Program, IsWellFormedText, Call, outcome_of, is_failure, SetupOf, IsDeadlock, IsEnd, with_contexts, IsShrunk, One, trace_text, IsReplayed, IsTrace, Error, Memory, Pair, IsOfTrace, IsTraceOf, IsTraceReport, FailAlike, DeadlockAlike, IsEndRefusal, IsShrunkText, HasNoFailure, LacksMemory}
use Rattle.bp_test.specs.declared.shrinks.HistoryEnd.{HistoryEnd}
use Rattle.bp_test.specs.declared.shrinks.HistoryEnd.TheVariants.{Failure, Deadlock, Other}
use Rattle.bp_test.specs.declared.shrinks.Shrunk.{Shrunk}
use Rattle.bp_trace.specs.declared.replays.Replayed.{Replayed}

-- histories of one end that is kept end alike
alike : (t : Program) (s z : SetupOf) (h g : List Call) (end : HistoryEnd) → (end ≡ Other → ⊥) → IsEnd t s h end
    → IsEnd t z g end → FailAlike t s z h g ⊎ DeadlockAlike t s z h g
alike t s z h g end given1 given2 given3 = grind (arith)

module _ (given : Pair) (t : Program) (of : IsWellFormedText given.text t) (r : Replayed) (is : IsReplayed t given.input r) where
  pub read : IsTraceOf given.text given.input t r.setup r.history.items
  read = record { of = of; version = is.version; is = is.trace }

  pub end_refuses : (f : Error) → IsEndRefusal t r.setup r.history.items f → HasNoFailure given f ⊎ LacksMemory given f
  end_refuses f given1 = grind (arith)

  pub memory_refuses : (end : HistoryEnd) → (end ≡ Other → ⊥) → IsEnd t r.setup r.history.items end → LacksMemory given Memory
  memory_refuses end kept ends = record { program = t; setup = r.setup; history = r.history.items; legal = read; ended = ended end kept ends; is = refl }
    where
      ended : (e : HistoryEnd) → (e ≡ Other → ⊥) → IsEnd t r.setup r.history.items e
          → (is_failure (outcome_of r.history.items) ≡ true) ⊎ IsDeadlock t r.setup r.history.items
      ended (Failure n) any fails = inl (ap is_failure fails.failed)
      ended (Deadlock waiting) any dead = inr dead.0
      ended Other not other = absurd (not refl)

  module _ (end : HistoryEnd) (kept : end ≡ Other → ⊥) (ends : IsEnd t r.setup r.history.items end) (g : Shrunk)
      (shrunk : IsShrunk t r.setup r.history.items end g) where
    contexts_are : g.setup.contexts ≡ g.report.contexts
    contexts_are = ap (λ (s : SetupOf). s.contexts) shrunk.setup

    is_trace : IsTrace t One g.setup g.history.items (trace_text g.setup g.history.items)
    is_trace = grind (arith)

    is_text : IsShrunkText given.text t r.setup r.history.items (trace_text g.setup g.history.items)
    is_text = record {
      setup = g.setup;
      history = g.history.items;
      trace = is_trace;
      same = subst (λ k. g.setup ≡ with_contexts r.setup k) (sym contexts_are) shrunk.setup;
      used = rw contexts_are shrunk.report.contexts;
      steps = shrunk.steps;
      alike = alike t r.setup g.setup r.history.items g.history.items end kept ends shrunk.ends;
      outcome = shrunk.outcome;
      calls = shrunk.calls;
      contexts = λ n least. let most = shrunk.contexts n least in omega (arith, most, contexts_are);
    }

    pub written : IsOfTrace IsShrunkText given (trace_text g.setup g.history.items)
    written = record { program = t; setup = r.setup; history = r.history.items; legal = read; is = is_text }

    pub reported : IsTraceReport IsShrunkText given (trace_text g.setup g.history.items) r.report
    unfolding written
    reported = record { trace = written; reported = is.report }
