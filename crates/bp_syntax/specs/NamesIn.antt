-- Properties of each name in a program, wherever it appears.
use Rattle.std.specs.Prelude.{ℕ, ◌≤◌, length, List, [], ◌∷◌, Option, None, Some}
use Rattle.bp_syntax.specs.Ast.{Name, Expression, Constant, Variable, Negation, Operation, Decision, Choose, Decide, Block, Done, Then, Statement, Skips, GoesTo, Returns, Assigns, Branches, Loops, Asserts, Assumes, Prints, Calls, Procedure, Program}
use Rattle.bp_syntax.specs.Tokens.{IsSpelled}

module _ (P : Name → Type 0) where
  abbrev pub EachName : List Name → Type 0
  EachName [] = Unit {0}
  EachName (n ∷ ns) = P n × EachName ns

  abbrev pub NamesInExpression : Expression → Type 0
  NamesInExpression (Constant b) = Unit {0}
  NamesInExpression (Variable n) = P n
  NamesInExpression (Negation e) = NamesInExpression e
  NamesInExpression (Operation o a b) = NamesInExpression a × NamesInExpression b

  abbrev pub NamesInExpressions : List Expression → Type 0
  NamesInExpressions [] = Unit {0}
  NamesInExpressions (e ∷ es) = NamesInExpression e × NamesInExpressions es

  abbrev pub NamesInDecision : Decision → Type 0
  NamesInDecision Choose = Unit {0}
  NamesInDecision (Decide e) = NamesInExpression e

  abbrev pub NamesInLabel : Option Name → Type 0
  NamesInLabel None = Unit {0}
  NamesInLabel (Some n) = P n

  abbrev mutual
    pub NamesInBlock : Block → Type 0
    NamesInBlock Done = Unit {0}
    NamesInBlock (Then l at s t) = NamesInLabel l × NamesInStatement s × NamesInBlock t

    pub NamesInStatement : Statement → Type 0
    NamesInStatement Skips = Unit {0}
    NamesInStatement (GoesTo to) = P to
    NamesInStatement Returns = Unit {0}
    NamesInStatement (Assigns targets values) = EachName targets × NamesInExpressions values
    NamesInStatement (Branches d a b) = NamesInDecision d × NamesInBlock a × NamesInBlock b
    NamesInStatement (Loops d a) = NamesInDecision d × NamesInBlock a
    NamesInStatement (Asserts d) = NamesInDecision d
    NamesInStatement (Assumes d) = NamesInDecision d
    NamesInStatement (Prints values) = NamesInExpressions values
    NamesInStatement (Calls callee arguments) = P callee × NamesInExpressions arguments

  abbrev pub NamesInProcedure : Procedure → Type 0
  NamesInProcedure p = P p.name × EachName p.formals × EachName p.locals × NamesInBlock p.body

  abbrev pub NamesInProcedures : List Procedure → Type 0
  NamesInProcedures [] = Unit {0}
  NamesInProcedures (p ∷ ps) = NamesInProcedure p × NamesInProcedures ps

  abbrev pub NamesInProgram : Program → Type 0
  NamesInProgram p = EachName p.globals × NamesInProcedures p.procedures

-- no name of the program has more bytes than the limit
abbrev pub HasShortNames : ℕ → Program → Type 0
HasShortNames most p = NamesInProgram (λ n. length n.text ≤ most) p

-- each name of the program is an identifier that is not reserved, or a braced name
abbrev pub HasSpelledNames : Program → Type 0
HasSpelledNames p = NamesInProgram (λ n. IsSpelled n.text) p
