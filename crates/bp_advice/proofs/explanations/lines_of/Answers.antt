use Rattle.bp_advice.proofs.Common.{Result, IfOk, Vec, ℕ, List, map, ◌≡◌, rules, shown, IsPlain}
use Rattle.std.specs.declared.alloc.AllocError.{AllocError}
use Rattle.std.specs.declared.alloc.Global.{Global}
use Rattle.bp_advice.proofs.PlainTexts.{plain_all}
use Rattle.bp_advice.proofs.explanations.lines_of.Goals as goal

plain : (bytes : List ℕ) (r : Result (Vec ℕ Global) AllocError) → IfOk r (λ v. v.items ≡ map shown bytes) → IfOk r (λ v. IsPlain v.items)
plain bytes r given1 = search (rules, plain_all)

pub returns-clause-plain : goal.returns-clause-plain
returns-clause-plain c = plain c.as_slice-3.result.now c.shown_bytes.result c.shown_bytes.ensures
