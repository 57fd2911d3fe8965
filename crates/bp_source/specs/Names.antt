-- Names of variables, lists of them, and the deciders of assertions.
use Rattle.std.specs.Prelude.{◌==◌, ◌&&◌, if◌then◌else◌, ℕ, suc, Bool, true, false, not, List, [], ◌∷◌, Option, None, Some, bytes_eq, ◌||◌, ◌++◌, is_some, codes, option_map}
use Rattle.std.specs.Borrow.{Bor}
use Rattle.std.specs.List.{onto_first, list_any}
use Rattle.bp_syntax.specs.Ast.{Procedure, Program, Expression, Constant, Variable, Negation, Operation, Decision, Choose, Decide, Block, Done, Then, Statement, Branches, Loops, Asserts, Assumes}
use Rattle.bp_syntax.specs.Views.{decision_of}
use Rattle.bp_syntax.specs.declared.exprs.Decider.{Decider}
use Rattle.bp_syntax.specs.Errors.{first_index}
use Rattle.bp_flat.specs.StandsFor.{variables}

-- The pieces of a text that is cut at its commas. A comma inside braces cuts nothing.

-- the next byte is inside braces, if this byte is inside or outside
abbrev pub is_braced_after : (braced : Bool) → ℕ → Bool
is_braced_after true b = not (b == 125)
is_braced_after false b = b == 123

-- the pieces of a text that is cut at its commas outside braces, and begins inside or outside
abbrev pub pieces : (braced : Bool) → List ℕ → List (List ℕ)
pieces braced [] = [] ∷ []
pieces braced (b ∷ bs) =
    if not braced && b == 44 then [] ∷ pieces false bs
    else onto_first b (pieces (is_braced_after braced b) bs)

-- A device: the pieces of the text that is left, or none if nothing is.
abbrev pub pieces_left : Option (Bor (List ℕ)) → List (List ℕ)
pieces_left None = []
pieces_left (Some text) = pieces false text.now

-- A device: the number of bytes before the first comma outside braces, or of all if there is none.
abbrev pub piece_size : (braced : Bool) → List ℕ → ℕ
piece_size braced [] = 0
piece_size braced (b ∷ bs) =
    if not braced && b == 44 then 0 else suc (piece_size (is_braced_after braced b) bs)

-- Whether a name is one of some names.

module _ (names : List (List ℕ)) where
  -- this is one of the names
  abbrev pub is_named : List ℕ → Bool
  is_named x = list_any (λ n. bytes_eq n x) names

-- A device: also for names by reference.
abbrev pub is_among : List (Bor (List ℕ)) → List ℕ → Bool
is_among names x = list_any (λ n. bytes_eq n.now x) names

-- The names of variables, with the names of their procedures or without.

-- the name of a local after that of its procedure and a dot
abbrev pub qualified : (procedure name : List ℕ) → List ℕ
qualified procedure name = procedure ++ codes "." ++ name

-- a formal or local of one of these procedures has this name
abbrev pub has_local : List Procedure → List ℕ → Bool
has_local ps x = list_any (λ p. is_some (first_index (variables p) x)) ps

-- a formal or local of one of these procedures is that of this text, with its procedure's name
abbrev pub has_qualified : List Procedure → List ℕ → Bool
has_qualified ps text =
    list_any (λ p. list_any (λ v. bytes_eq text (qualified p.name.text v.text)) (variables p)) ps

-- a text says which variable of the program is meant
abbrev pub declares : Program → List ℕ → Bool
declares t x =
    (is_some (first_index t.globals x) || has_local t.procedures x) || has_qualified t.procedures x

-- The deciders of the assertions and the assumptions of a program, and the variables that a decider
-- reads.

-- the names with this one, if it is not among them
abbrev pub with_name : List (List ℕ) → List ℕ → List (List ℕ)
with_name names x = if is_named names x then names else names ++ x ∷ []

-- these names, and those of the variables that an expression reads, each once
abbrev pub names_after : List (List ℕ) → Expression → List (List ℕ)
names_after names (Constant b) = names
names_after names (Variable x) = with_name names x.text
names_after names (Negation e) = names_after names e
names_after names (Operation op a b) = names_after (names_after names a) b

-- the variables that a decider reads, each once, in the order of their first use
abbrev pub variables_read : Decision → List (List ℕ)
variables_read Choose = []
variables_read (Decide e) = names_after [] e

-- a device: the decision of a statement, if it is an assertion or an assumption
abbrev pub decision_in : Statement → Option Decision
decision_in (Asserts d) = Some d
decision_in (Assumes d) = Some d
decision_in s = None

-- a device: the decision of the next statement
abbrev pub next_decision : Block → Option Decision
next_decision Done = None
next_decision (Then label at s rest) = decision_in s

-- a device: the decisions of a block's statements, at any depth, and of those inside a statement
abbrev mutual
  pub block_decisions : Block → List (Option Decision)
  block_decisions Done = []
  block_decisions (Then label at s t) = decision_in s ∷ (inner_decisions s ++ block_decisions t)

  pub inner_decisions : Statement → List (Option Decision)
  inner_decisions (Branches d a b) = block_decisions a ++ block_decisions b
  inner_decisions (Loops d a) = block_decisions a
  inner_decisions s = []

-- a device: the decision of a decider
abbrev pub reading_of : Option (Bor Decider) → Option Decision
reading_of d = option_map (λ x. decision_of x.now) d
