use Rattle.bp_syntax.proofs.Common.{[], sym, ap, map, expression_of, ExprsThen, parse_result}
use Rattle.bp_syntax.proofs.ResultAfterToken.{at_exit}
use Rattle.bp_syntax.proofs.parser.Parser.expr_list.Goals as goal

pub returns-in_err-exprs-clause-reads : goal.returns-in_err-exprs-clause-reads
returns-in_err-exprs-clause-reads c next =
    at_exit _ c.in_err-exprs.field-0.0 (ExprsThen [] next) c.args.self.now c.exprs.new.self next _ c.from_residual.ensures.1
    (ap (λ l. parse_result (ExprsThen (map expression_of l) next) c.args.self.now) (sym c.new-exprs.ensures.items))
    (c.in_err-exprs.ensures.reads next)
