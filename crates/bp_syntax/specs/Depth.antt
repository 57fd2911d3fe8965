-- The depths of the data of Ast: a whole is deeper than its parts. They measure recursions; no
-- contract names them.
use Rattle.std.specs.Prelude.{ℕ, ◌+◌, max}
use Rattle.bp_syntax.specs.Ast.{Expression, Constant, Variable, Negation, Operation, Block, Done, Then, Statement, Branches, Loops}

abbrev pub height : Expression → ℕ
height (Constant b) = 1
height (Variable n) = 1
height (Negation e) = height e + 1
height (Operation o a b) = max (height a) (height b) + 1

abbrev mutual
  pub depth : Block → ℕ
  depth Done = 1
  depth (Then l at s t) = max (statement_depth s) (depth t)

  pub statement_depth : Statement → ℕ
  statement_depth (Branches d a b) = max (depth a) (depth b) + 1
  statement_depth (Loops d a) = depth a + 1
  statement_depth s = 1
