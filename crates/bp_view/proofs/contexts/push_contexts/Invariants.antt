use Rattle.bp_view.proofs.Common.{List, ℕ, suc, Program, Call, SetupOf, IsInParts, Gains, AreSpans, IsContextLine, IsViewContextOf}
use Rattle.bp_view.proofs.contexts.push_contexts.Given as goal

abbrev pub invariant-loop-n : goal.invariant-loop-n
invariant-loop-n l =
    (t : Program) (text : List ℕ) (s : SetupOf) (h : List Call) → IsViewContextOf t text l.context → AreSpans t s h l.spans
    → Gains (IsInParts (λ k part. IsContextLine l.context.options.format t text s h l.context.widths (suc k) part) l.n) l.fn.view l.view
