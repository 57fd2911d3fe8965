use Rattle.bp_syntax.proofs.Common.{◌∙◌, Calls, ListedThen, CallThen}
use Rattle.bp_syntax.proofs.ResultAfterToken.{at_exit}
use Rattle.bp_syntax.proofs.parser.Parser.call.Goals as goal

pub returns-in_err-arguments-clause-reads : goal.returns-in_err-arguments-clause-reads
returns-in_err-arguments-clause-reads c next =
    at_exit _ c.in_err-arguments.field-0.0 (CallThen next) c.args.self.now c.arguments.new.self _ _ c.from_residual-in_err-arguments.ensures.1
    (c.in_ok-callee.ensures.reads (λ n. ListedThen (λ es. next (Calls n es))))
    (c.in_err-arguments.ensures.reads (λ es. next (Calls c.in_ok-callee.callee es)))

pub returns-clause-reads : goal.returns-clause-reads
returns-clause-reads c next =
    c.in_ok-callee.ensures.reads (λ n. ListedThen (λ es. next (Calls n es)))
    ∙ c.in_ok-arguments.ensures.reads (λ es. next (Calls c.in_ok-callee.callee es))
