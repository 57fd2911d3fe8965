use Rattle.bp_syntax.proofs.Common.{◌∙◌, sym, ap, subst, rules, Operation, expression_of, ExprThen, MoreImplied, MoreOperands, MoreTighter, ReadsBy, parse_result, wanted_after_un, Disjunction}
use Rattle.bp_syntax.specs.declared.exprs.Op.TheVariants as op
use Rattle.bp_syntax.proofs.ResultAfterToken.{at_exit, passed_on, ahead_name, implies_ahead, no_implies}
use Rattle.bp_syntax.proofs.parser.Parser.+expr.Goals as goal

pub expr-returns-in_err-first-clause-reads : goal.expr-returns-in_err-first-clause-reads
expr-returns-in_err-first-clause-reads t c next = search (rules, at_exit)

pub expr-returns-in_err-operand-clause-reads : goal.expr-returns-in_err-operand-clause-reads
expr-returns-in_err-operand-clause-reads t c next =
    at_exit _ c.in_err-operand.field-0.0 (ExprThen next) c.args.self.now c.tighter.new.self _ _ c.from_residual-in_err-operand.ensures.1
    (c.in_ok-first.ensures.reads (wanted_after_un next))
    (c.in_err-operand.ensures.reads (λ a. MoreOperands Disjunction a (λ b. MoreImplied b next)))

pub expr-returns-in_err-left-clause-reads : goal.expr-returns-in_err-left-clause-reads
expr-returns-in_err-left-clause-reads t c next =
    at_exit _ c.in_err-left.field-0.0 (ExprThen next) c.args.self.now c.operators.new.self _ _ c.from_residual-in_err-left.ensures.1
    (c.in_ok-first.ensures.reads (wanted_after_un next)
    ∙ c.in_ok-operand.ensures.reads (λ a. MoreOperands Disjunction a (λ b. MoreImplied b next)))
    (c.in_err-left.ensures.reads (λ a. MoreImplied a next))

pub expr-returns-in_err-right-clause-reads : goal.expr-returns-in_err-right-clause-reads
expr-returns-in_err-right-clause-reads t c next =
    let a = expression_of c.in_ok-left.left in
    at_exit _ c.in_err-right.field-0.0 (ExprThen next) c.args.self.now c.expr.new.self _ _ c.from_residual-in_err-right.ensures.1
    (c.in_ok-first.ensures.reads (wanted_after_un next)
    ∙ c.in_ok-operand.ensures.reads (λ e. MoreOperands Disjunction e (λ d. MoreImplied d next))
    ∙ c.in_ok-left.ensures.reads (λ d. MoreImplied d next)
    ∙ implies_ahead a next c.operators.new.self c.eat.new.self (sym c.if-eat.ensures.value) c.if-eat.ensures.left)
    (c.in_err-right.ensures.reads (λ b. next (Operation op.Implies a b)))

pub expr-returns-then-eat-clause-reads : goal.expr-returns-then-eat-clause-reads
expr-returns-then-eat-clause-reads t c next =
    let a = expression_of c.in_ok-left.left in
    c.in_ok-first.ensures.reads (wanted_after_un next)
    ∙ c.in_ok-operand.ensures.reads (λ e. MoreOperands Disjunction e (λ d. MoreImplied d next))
    ∙ c.in_ok-left.ensures.reads (λ d. MoreImplied d next)
    ∙ implies_ahead a next c.operators.new.self c.eat.new.self (sym c.if-eat.ensures.value) c.if-eat.ensures.left
    ∙ c.in_ok-right.ensures.reads (λ b. next (Operation op.Implies a b))
    ∙ ap (λ e. parse_result (next e) c.expr.new.self) (sym c.in_ok-operation.ensures)

pub expr-returns-clause-reads : goal.expr-returns-clause-reads
expr-returns-clause-reads t c next =
    let a = expression_of c.in_ok-left.left in
    c.in_ok-first.ensures.reads (wanted_after_un next)
    ∙ c.in_ok-operand.ensures.reads (λ e. MoreOperands Disjunction e (λ d. MoreImplied d next))
    ∙ c.in_ok-left.ensures.reads (λ d. MoreImplied d next)
    ∙ no_implies a next c.operators.new.self (sym c.if-eat.ensures.value)
    ∙ ap (parse_result (next a)) (sym c.if-eat.ensures.left)

pub operand-returns-clause-reads : goal.operand-returns-clause-reads
operand-returns-clause-reads t c next = search (rules, passed_on)

pub tighter-returns-in-Conjunction-clause-reads : goal.tighter-returns-in-Conjunction-clause-reads
tighter-returns-in-Conjunction-clause-reads t c next =
    subst (λ s. ReadsBy c.operators.result (MoreTighter s (expression_of c.args.first) next) c.args.self.now
    c.operators.new.self (λ e. next (expression_of e))) (sym c.in-Conjunction.is)
    (c.operators.ensures.reads next)

pub tighter-returns-in_ok-left-in-Exclusion-clause-reads : goal.tighter-returns-in_ok-left-in-Exclusion-clause-reads
tighter-returns-in_ok-left-in-Exclusion-clause-reads t c next = search (rules, passed_on)

pub tighter-returns-in_ok-left-in-Disjunction-2-clause-reads : goal.tighter-returns-in_ok-left-in-Disjunction-2-clause-reads
tighter-returns-in_ok-left-in-Disjunction-2-clause-reads t c next = search (rules, passed_on)

pub unary-returns-in_err-name-in-Some-Name-clause-reads : goal.unary-returns-in_err-name-in-Some-Name-clause-reads
unary-returns-in_err-name-in-Some-Name-clause-reads t c next = search (rules, at_exit, ahead_name)

pub unary-returns-in_ok-name-in-Some-Name-clause-reads : goal.unary-returns-in_ok-name-in-Some-Name-clause-reads
unary-returns-in_ok-name-in-Some-Name-clause-reads t c next = search (rules, ahead_name)
