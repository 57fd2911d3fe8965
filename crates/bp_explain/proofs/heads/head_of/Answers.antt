use Rattle.std.proofs.Common.{sym, subst, ◌∙◌}
use Rattle.bp_trace.specs.Readings.{IsHeadRefusal}
use Rattle.bp_trace.proofs.HeadsRead.{no_break, one_head}
use Rattle.bp_explain.proofs.heads.head_of.Goals as goal

pub returns-in-Ok : goal.returns-in-Ok
returns-in-Ok c = λ b.
    let is = c.in-Ok.ensures in
    (one_head _ b.version _ b.setup is.rest b.rest is.has b.has (sym is.parts ∙ b.parts)).1

pub returns-in-Head : goal.returns-in-Head
returns-in-Head c = λ b.
    let breaks = subst (λ f. IsHeadRefusal c.args.trace.now f) c.in-Head.is c.in-Err.ensures in
    no_break b.version b.setup c.args.trace.now b.rest c.in-Head.field-0 b.has b.parts breaks
