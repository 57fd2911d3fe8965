-- The size of a block decreases to each block inside it. A model needs it; no contract names it.
use Rattle.std.proofs.Common.{arith, ◌≤◌, max, List, [], ◌∷◌}
use denote.Param.Weighed.{most}
use Rattle.bp_syntax.specs.declared.stmts.Form.{Form}
use Rattle.bp_syntax.specs.declared.stmts.Form.TheVariants.{Skip, Goto, Return, Assign, If, While, Assert, Assume, Print, Call}
use Rattle.bp_syntax.specs.declared.stmts.Stmt.{Stmt}
use Rattle.bp_syntax.specs.declared.stmts.Block.TheDeep.{deep-Form, deep-Stmt}
use Rattle.bp_syntax.specs.Depth.{depth, statement_depth}
use Rattle.bp_syntax.specs.Blocks.{block_of, statement_of}

form_size_decreases : (f : Form) → deep-Form f ≤ statement_depth (statement_of f)
form_size_decreases Skip = omega arith
form_size_decreases (Goto to) = omega arith
form_size_decreases Return = omega arith
form_size_decreases (Assign targets values) = omega arith
form_size_decreases (If d a b) = omega arith
form_size_decreases (While d a) = omega arith
form_size_decreases (Assert d) = omega arith
form_size_decreases (Assume d) = omega arith
form_size_decreases (Print values) = omega arith
form_size_decreases (Call callee arguments) = omega arith

statements_size_decreases : (items : List Stmt) → most deep-Stmt items ≤ depth (block_of items)
statements_size_decreases [] = omega arith
statements_size_decreases (s ∷ rest) =
    omega (arith, form_size_decreases s.form, statements_size_decreases rest)

pub block_size_decreases :
    (items : List Stmt) → max (most deep-Stmt items) 0 ≤ depth (block_of items)
block_size_decreases items = omega (arith, statements_size_decreases items)
