-- Devices: sets of errors, and the least error as the code finds it. No public clause names them.
use Rattle.std.specs.Prelude.{◌≡◌, ◌⊎◌, ℕ, ◌++◌, List, map, Option, Bool, ◌||◌, ◌&&◌, nat_lt, nat_eq, nat_le, if◌then◌else◌, None, Some, MatchOption}
use Rattle.std.specs.Borrow.{Bor}
use Rattle.std.specs.BTreeMap.{BTreeMap, get_by}
use Rattle.std.specs.Cmp.Lexicographic.{slice_cmp}
use Rattle.std.specs.Ordering.{nat_cmp}
use Rattle.bp_syntax.specs.Ast.{Name, Statement, Procedure, variables}
use Rattle.bp_syntax.specs.declared.stmts.Stmt.{Stmt}
use Rattle.bp_syntax.specs.Blocks.{statement_of}
use Rattle.bp_syntax.specs.declared.errors.CheckError.{CheckError}
use Rattle.bp_syntax.specs.declared.errors.CheckError.TheVariants.{TwiceLocal, TwiceLabel, UnknownVariable, UnknownProcedure, UnknownLabel, Arity, Lengths, TwiceTarget, Limit}
use Rattle.bp_syntax.specs.Errors.{Among, Labelled, statements, labels, IsTwice, IsPast, IsUndeclared, CallsNone, CallsWrongly, JumpsNowhere, IsUneven, HasTargetTwice, IsStrayIn, first_index, check_error_number}
use Rattle.bp_syntax.specs.declared.limits.TheConstants.{MAX_OWN_NAMES}
use Rattle.bp_code.specs.Refusals.{IsLeast}
use Rattle.bp_code.specs.declared.checks.Found.{Found}

-- A device: sets of errors of the parts of a program, which together are the whole set. No public
-- contract names them.

-- the names to which the references refer
abbrev pub names_of : List (Bor Name) → List Name
names_of ns = map (λ n. n.now) ns

abbrev pub labelled_of : Stmt → Labelled
labelled_of s = record { label = s.label; statement = statement_of s.form }

abbrev pub all_labelled : List (Bor Stmt) → List Labelled
all_labelled ss = map (λ s. labelled_of s.now) ss

-- one kind of error at some places
abbrev pub Only : CheckError → (ℕ → Type 0) → CheckError → ℕ → Type 0
Only error Is g at = (g ≡ error) × Is at

-- a name with this use that is not declared, as an error
abbrev pub IsStray : List Name → (Name → Type 0) → CheckError → ℕ → Type 0
IsStray declared Uses = Only UnknownVariable (IsStrayIn declared Uses)

-- an error of a statement that is not an undeclared name
abbrev pub IsMisuse : List Procedure → List Name → Statement → CheckError → ℕ → Type 0
IsMisuse qs ls s UnknownProcedure at = CallsNone qs s at
IsMisuse qs ls s UnknownLabel at = JumpsNowhere ls s at
IsMisuse qs ls s Arity at = CallsWrongly qs s at
IsMisuse qs ls s Lengths at = IsUneven s at
IsMisuse qs ls s TwiceTarget at = HasTargetTwice s at
IsMisuse qs ls s _ at = ⊥

-- an error of a statement among declared names, procedures and labels
abbrev pub IsStatementError :
    List Name → List Procedure → List Name → Statement → CheckError → ℕ → Type 0
IsStatementError declared qs ls s UnknownVariable at = IsUndeclared declared s at
IsStatementError declared qs ls s g at = IsMisuse qs ls s g at

-- an error of one of some statements
abbrev pub IsErrorOfStatements :
    List Name → List Procedure → List Name → List Labelled → CheckError → ℕ → Type 0
IsErrorOfStatements declared qs ls ss g at =
    (s : Labelled) × Among ss s × IsStatementError declared qs ls s.statement g at

-- names of one kind: one that appears twice, or the first past their limit
abbrev pub IsErrorOfNames : CheckError → ℕ → List Name → CheckError → ℕ → Type 0
IsErrorOfNames error limit ns g at =
    Only error (IsTwice ns) g at ⊎ Only Limit (IsPast limit ns) g at

-- an error of a statement or label of a procedure, among declared names and procedures
abbrev pub IsErrorOfBody : List Name → List Procedure → Procedure → CheckError → ℕ → Type 0
IsErrorOfBody declared qs q g at =
    IsErrorOfStatements declared qs (labels q.body) (statements q.body) g at
    ⊎ Only TwiceLabel (IsTwice (labels q.body)) g at

-- an error inside a procedure, among these globals and procedures
abbrev pub IsProcedureError : List Name → List Procedure → Procedure → CheckError → ℕ → Type 0
IsProcedureError globals qs q g at =
    IsErrorOfNames TwiceLocal MAX_OWN_NAMES (variables q) g at
    ⊎ IsErrorOfBody (variables q ++ globals) qs q g at

-- an error inside one of some procedures
abbrev pub IsErrorOfProcedures :
    List Name → List Procedure → List Procedure → CheckError → ℕ → Type 0
IsErrorOfProcedures globals qs some g at =
    (q : Procedure) × Among some q × IsProcedureError globals qs q g at

-- Maps from names to their first index in a list.

-- the value of a map at a text
abbrev pub index_in : BTreeMap (Bor (List ℕ)) ℕ → List ℕ → Option ℕ
index_in m text = get_by (λ k. slice_cmp nat_cmp text k.now) m

-- the map has, at each text, the index of the first name with this text
abbrev pub HasFirstIndices : BTreeMap (Bor (List ℕ)) ℕ → List Name → Type 0
HasFirstIndices m ns = (text : List ℕ) → index_in m text ≡ first_index ns text

-- A device: the least of a set of errors, as the code finds it. No public contract names it.

-- the least of the set, or None if it is empty
abbrev pub Finds : (CheckError → ℕ → Type 0) → Option Found → Type 0
Finds Is o =
    MatchOption o ((g : CheckError) (at : ℕ) → Is g at → ⊥) (λ f. IsLeast Is f.error f.at)

-- f comes before g, or is equal to it, by place and then by number
abbrev pub is_not_after : Found → Found → Bool
is_not_after f g =
    nat_lt f.at g.at
    || (nat_eq f.at g.at && nat_le (check_error_number f.error) (check_error_number g.error))

-- the least of two errors, if there are two
abbrev pub least_of : Option Found → Option Found → Option Found
least_of None o = o
least_of (Some f) None = Some f
least_of (Some f) (Some g) = if is_not_after f g then Some f else Some g
