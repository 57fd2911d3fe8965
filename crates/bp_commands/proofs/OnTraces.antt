-- The answer of a command on a trace, from a text of its history.
use Rattle.bp_commands.proofs.Common.{ℕ, List, Option, arith, AppendsAll, AppendsPart, Program, IsWellFormedText, Call, Report, IsReport, SetupOf, IsReplayRefusal, IsTrace, error_of_trace, Write, IsDoneWith, IsRefusedWith, Pair, on_trace, IsOfTrace, TextRule}
use Rattle.bp_trace.specs.declared.errors.ReplayError.{ReplayError}
use Rattle.bp_trace.specs.declared.traces.Version.{Version}
use Rattle.bp_commands.proofs.Answered.{cut_short}

module _ (rule : TextRule) (given : Pair) (t : Program) (of : IsWellFormedText given.text t) where
  -- the text is no trace of the program
  pub no_trace : (old : Option (List ℕ)) (f : ReplayError) → IsReplayRefusal t given.input f
      → IsRefusedWith (on_trace rule) old old given (error_of_trace f)
  no_trace old f given1 = grind (arith)

  -- it is the trace of a history, which has this text
  module _ (version : Version) (s : SetupOf) (h : List Call) (is : IsTrace t version s h given.input)
      (text : List ℕ) (is_text : rule given.text t s h text) (old new : Option (List ℕ)) where
    trace : IsOfTrace rule given text
    trace = record {
      program = t;
      setup = s;
      history = h;
      legal = record { of = of; version = version; is = is };
      is = is_text;
    }

    pub cut : AppendsPart old new text → IsRefusedWith (on_trace rule) old new given Write
    cut part = cut_short (on_trace rule) given old new text trace part

    pub done : AppendsAll old new text → (r : Report) → IsReport s h r → IsDoneWith (on_trace rule) old new given r
    unfolding trace
    done all r reported = record { text = text; reports = record { trace = trace; reported = reported }; written = all }
