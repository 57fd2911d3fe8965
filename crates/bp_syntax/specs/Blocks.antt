-- The statement and the block that a form and statements of src/ stand for.
use Rattle.std.specs.Prelude.{List, [], ◌∷◌}
use Rattle.bp_syntax.specs.declared.stmts.Form.{Form}
use Rattle.bp_syntax.specs.declared.stmts.Form.TheVariants.{Skip, Goto, Return, Assign, If, While, Assert, Assume, Print, Call}
use Rattle.bp_syntax.specs.declared.stmts.Stmt.{Stmt}
use Rattle.bp_syntax.specs.Views.{decision_of}
use Rattle.bp_syntax.specs.Ast.{Block, Done, Then, Statement, Skips, GoesTo, Returns, Assigns, Branches, Loops, Asserts, Assumes, Prints, Calls}

abbrev pub statement_of : Form → Statement
statement_of Skip = Skips
statement_of (Goto to) = GoesTo to
statement_of Return = Returns
statement_of (Assign targets values) = Assigns targets values
statement_of (If d a b) = Branches (decision_of d) a b
statement_of (While d a) = Loops (decision_of d) a
statement_of (Assert d) = Asserts (decision_of d)
statement_of (Assume d) = Assumes (decision_of d)
statement_of (Print values) = Prints values
statement_of (Call callee arguments) = Calls callee arguments

abbrev pub block_of : List Stmt → Block
block_of [] = Done
block_of (s ∷ rest) = Then s.label s.at (statement_of s.form) (block_of rest)
