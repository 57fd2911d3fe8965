-- The expression and the decision of an enum of src/ whose parts are seen by their models.
use Rattle.bp_syntax.specs.declared.exprs.Expr.{Expr}
use Rattle.bp_syntax.specs.declared.exprs.Expr.TheVariants.{Const, Var, Not, Binary}
use Rattle.bp_syntax.specs.declared.exprs.Decider.{Decider}
use Rattle.bp_syntax.specs.declared.exprs.Decider.TheVariants.{Choice, Value}
use Rattle.bp_syntax.specs.Ast.{Expression, Constant, Variable, Negation, Operation, Decision, Choose, Decide}

abbrev pub expression_of : Expr → Expression
expression_of (Const b) = Constant b
expression_of (Var n) = Variable n
expression_of (Not e) = Negation e
expression_of (Binary o a b) = Operation o a b

abbrev pub decision_of : Decider → Decision
decision_of Choice = Choose
decision_of (Value e) = Decide (expression_of e)
