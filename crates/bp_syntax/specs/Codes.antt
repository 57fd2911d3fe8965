-- An encoding of the data of Ast, which models need; no contract names it. An expression or a block
-- is coded as the list of its nodes in postfix order, from which a stack rebuilds it.
use Rattle.std.specs.Coded.{Coded, code_by, coded×, coded⊎, coded_ℕ, coded_bool, coded_list, coded_option}
use Rattle.std.proofs.Common.{inl, inr, ◌∙◌, ◌≡◌, ℕ, zero, suc, Bool, true, false, cond, List, [], ◌∷◌, ◌⊎◌, Option, None, Some, refl}
use Rattle.bp_syntax.specs.declared.exprs.Op.{Op}
use Rattle.bp_syntax.specs.declared.exprs.Op.TheVariants.{Equal, Differ, And, Xor, Or, Implies}
use Rattle.bp_syntax.specs.Ast.{Name, Expression, Constant, Variable, Negation, Operation, Decision, Choose, Decide, Block, Done, Then, Statement, Skips, GoesTo, Returns, Assigns, Branches, Loops, Asserts, Assumes, Prints, Calls, Procedure, Program}

abbrev pub coded_name : Coded Name
coded_name =
    code_by (List ℕ × ℕ) (coded× (coded_list coded_ℕ) coded_ℕ) (λ n. (n.text, n.at)) (λ p. record { text = p.0; at = p.1 }) (λ _. refl)

abbrev pub op_number : Op → ℕ
op_number Equal = 0
op_number Differ = 1
op_number And = 2
op_number Xor = 3
op_number Or = 4
op_number Implies = 5

abbrev pub op_of : ℕ → Op
op_of zero = Equal
op_of (suc zero) = Differ
op_of (suc (suc zero)) = And
op_of (suc (suc (suc zero))) = Xor
op_of (suc (suc (suc (suc zero)))) = Or
op_of (suc (suc (suc (suc (suc n))))) = Implies

pub op_again : (o : Op) → op_of (op_number o) ≡ o
op_again Equal = refl
op_again Differ = refl
op_again And = refl
op_again Xor = refl
op_again Or = refl
op_again Implies = refl

abbrev pub coded_op : Coded Op
coded_op = code_by ℕ coded_ℕ op_number op_of op_again

-- A node of an expression: a constant, a variable, a negation (0) or an operation.

abbrev pub ExpressionNode : Type 0
ExpressionNode = (Bool ⊎ Name) ⊎ (ℕ ⊎ Op)

abbrev pub coded_expression_node : Coded ExpressionNode
coded_expression_node = coded⊎ (coded⊎ coded_bool coded_name) (coded⊎ coded_ℕ coded_op)

-- the nodes of an expression, followed by the rest
abbrev pub expression_nodes : Expression → List ExpressionNode → List ExpressionNode
expression_nodes (Constant b) rest = inl (inl b) ∷ rest
expression_nodes (Variable n) rest = inl (inr n) ∷ rest
expression_nodes (Negation e) rest = expression_nodes e (inr (inl 0) ∷ rest)
expression_nodes (Operation o a b) rest = expression_nodes a (expression_nodes b (inr (inr o) ∷ rest))

-- pushes one node onto the stack
abbrev pub with_node : ExpressionNode → List Expression → List Expression
with_node (inl (inl b)) stack = Constant b ∷ stack
with_node (inl (inr n)) stack = Variable n ∷ stack
with_node (inr (inl k)) [] = []
with_node (inr (inl k)) (e ∷ stack) = Negation e ∷ stack
with_node (inr (inr o)) [] = []
with_node (inr (inr o)) (b ∷ []) = []
with_node (inr (inr o)) (b ∷ a ∷ stack) = Operation o a b ∷ stack

abbrev pub topmost : List Expression → Expression
topmost [] = Constant false
topmost (e ∷ stack) = e

abbrev pub expression_from : List ExpressionNode → List Expression → Expression
expression_from [] stack = topmost stack
expression_from (n ∷ ns) stack = expression_from ns (with_node n stack)

pub expression_again : (e : Expression) (rest : List ExpressionNode) (stack : List Expression)
    → expression_from (expression_nodes e rest) stack ≡ expression_from rest (e ∷ stack)
expression_again (Constant b) rest stack = refl
expression_again (Variable n) rest stack = refl
expression_again (Negation e) rest stack = expression_again e (inr (inl 0) ∷ rest) stack
expression_again (Operation o a b) rest stack =
    expression_again a (expression_nodes b (inr (inr o) ∷ rest)) stack ∙ expression_again b (inr (inr o) ∷ rest) (a ∷ stack)

abbrev pub coded_expression : Coded Expression
coded_expression =
    code_by (List ExpressionNode) (coded_list coded_expression_node) (λ e. expression_nodes e []) (λ ns. expression_from ns []) (λ e. expression_again e [] [])

-- A decision as an optional expression.

abbrev pub decision_part : Decision → Option Expression
decision_part Choose = None
decision_part (Decide e) = Some e

abbrev pub decision_from : Option Expression → Decision
decision_from None = Choose
decision_from (Some e) = Decide e

pub decision_again : (d : Decision) → decision_from (decision_part d) ≡ d
decision_again Choose = refl
decision_again (Decide e) = refl

abbrev pub coded_decision : Coded Decision
coded_decision = code_by (Option Expression) (coded_option coded_expression) decision_part decision_from decision_again

-- A node of a block: its end (0), or a statement with its label and place. A statement without
-- blocks is whole in its node: skip (0) or return (1), a jump, an assignment, an assertion (true)
-- or an assumption (false), a print or a call. A branch (true) or a loop (false) keeps its decision
-- there, and takes its blocks from the stack.

abbrev pub PlainNode : Type 0
PlainNode =
    (ℕ ⊎ Name) ⊎ ((List Name × List Expression) ⊎ ((Bool × Decision) ⊎ (List Expression ⊎ (Name × List Expression))))

abbrev pub coded_plain_node : Coded PlainNode
coded_plain_node =
    coded⊎ (coded⊎ coded_ℕ coded_name) (coded⊎ (coded× (coded_list coded_name) (coded_list coded_expression)) (coded⊎ (coded× coded_bool coded_decision) (coded⊎ (coded_list coded_expression) (coded× coded_name (coded_list coded_expression)))))

abbrev pub BlockNode : Type 0
BlockNode = ℕ ⊎ ((Option Name × ℕ) × (PlainNode ⊎ (Bool × Decision)))

abbrev pub coded_block_node : Coded BlockNode
coded_block_node =
    coded⊎ coded_ℕ (coded× (coded× (coded_option coded_name) coded_ℕ) (coded⊎ coded_plain_node (coded× coded_bool coded_decision)))

-- the nodes of a block, followed by the rest
abbrev mutual
  pub block_nodes : Block → List BlockNode → List BlockNode
  block_nodes Done rest = inl 0 ∷ rest
  block_nodes (Then l at s t) rest = statement_nodes s (l, at) (λ node. block_nodes t (node ∷ rest))

  pub statement_nodes : Statement → (Option Name × ℕ) → (BlockNode → List BlockNode) → List BlockNode
  statement_nodes Skips p after = after (inr (p, inl (inl (inl 0))))
  statement_nodes Returns p after = after (inr (p, inl (inl (inl 1))))
  statement_nodes (GoesTo n) p after = after (inr (p, inl (inl (inr n))))
  statement_nodes (Assigns ns es) p after = after (inr (p, inl (inr (inl (ns, es)))))
  statement_nodes (Asserts d) p after = after (inr (p, inl (inr (inr (inl (true, d))))))
  statement_nodes (Assumes d) p after = after (inr (p, inl (inr (inr (inl (false, d))))))
  statement_nodes (Prints es) p after = after (inr (p, inl (inr (inr (inr (inl es))))))
  statement_nodes (Calls n es) p after = after (inr (p, inl (inr (inr (inr (inr (n, es)))))))
  statement_nodes (Branches d a b) p after = block_nodes a (block_nodes b (after (inr (p, inr (true, d)))))
  statement_nodes (Loops d a) p after = block_nodes a (after (inr (p, inr (false, d))))

abbrev pub plain_from : PlainNode → Statement
plain_from (inl (inl zero)) = Skips
plain_from (inl (inl (suc k))) = Returns
plain_from (inl (inr n)) = GoesTo n
plain_from (inr (inl p)) = Assigns p.0 p.1
plain_from (inr (inr (inl p))) = cond p.0 (Asserts p.1) (Assumes p.1)
plain_from (inr (inr (inr (inl es)))) = Prints es
plain_from (inr (inr (inr (inr p)))) = Calls p.0 p.1

-- a branch or a loop whose blocks are taken from the stack below the rest of the block
abbrev pub with_blocks : Bool → Decision → (Option Name × ℕ) → Block → List Block → List Block
with_blocks true d p t [] = []
with_blocks true d p t (b ∷ []) = []
with_blocks true d p t (b ∷ a ∷ stack) = Then p.0 p.1 (Branches d a b) t ∷ stack
with_blocks false d p t [] = []
with_blocks false d p t (a ∷ stack) = Then p.0 p.1 (Loops d a) t ∷ stack

-- pushes one node onto the stack
abbrev pub with_block_node : BlockNode → List Block → List Block
with_block_node (inl k) stack = Done ∷ stack
with_block_node (inr n) [] = []
with_block_node (inr n) (t ∷ stack) =
    elim n.1 [ inl s ↦ Then n.0.0 n.0.1 (plain_from s) t ∷ stack | inr s ↦ with_blocks s.0 s.1 n.0 t stack ]

abbrev pub topmost_block : List Block → Block
topmost_block [] = Done
topmost_block (b ∷ stack) = b

abbrev pub block_from : List BlockNode → List Block → Block
block_from [] stack = topmost_block stack
block_from (n ∷ ns) stack = block_from ns (with_block_node n stack)

pub block_again : (b : Block) (rest : List BlockNode) (stack : List Block)
    → block_from (block_nodes b rest) stack ≡ block_from rest (b ∷ stack)
block_again Done rest stack = refl
block_again (Then l at Skips t) rest stack = block_again t _ stack
block_again (Then l at Returns t) rest stack = block_again t _ stack
block_again (Then l at (GoesTo n) t) rest stack = block_again t _ stack
block_again (Then l at (Assigns ns es) t) rest stack = block_again t _ stack
block_again (Then l at (Asserts d) t) rest stack = block_again t _ stack
block_again (Then l at (Assumes d) t) rest stack = block_again t _ stack
block_again (Then l at (Prints es) t) rest stack = block_again t _ stack
block_again (Then l at (Calls n es) t) rest stack = block_again t _ stack
block_again (Then l at (Branches d a b) t) rest stack =
    block_again a _ stack ∙ block_again b _ (a ∷ stack) ∙ block_again t _ (b ∷ a ∷ stack)
block_again (Then l at (Loops d a) t) rest stack = block_again a _ stack ∙ block_again t _ (a ∷ stack)

abbrev pub coded_block : Coded Block
coded_block =
    code_by (List BlockNode) (coded_list coded_block_node) (λ b. block_nodes b []) (λ ns. block_from ns []) (λ b. block_again b [] [])

abbrev pub coded_procedure : Coded Procedure
coded_procedure =
    code_by ((Name × List Name) × (List Name × Block))
    (coded× (coded× coded_name (coded_list coded_name)) (coded× (coded_list coded_name) coded_block))
    (λ p. ((p.name, p.formals), (p.locals, p.body)))
    (λ p. record { name = p.0.0; formals = p.0.1; locals = p.1.0; body = p.1.1 })
    (λ _. refl)

abbrev pub coded_program : Coded Program
coded_program =
    code_by (List Name × List Procedure) (coded× (coded_list coded_name) (coded_list coded_procedure))
    (λ p. (p.globals, p.procedures))
    (λ p. record { globals = p.0; procedures = p.1 })
    (λ _. refl)
