-- The places of names in a program, its errors, and properties that each well-formed program has.
use Rattle.std.specs.Prelude.{◌≡◌, ◌⊎◌, ℕ, ◌++◌, Bool, List, [], ◌∷◌, Option, Some, slice_get, ◌≢◌, true, false, None, take, map, length, ◌<◌, ◌≤◌}
use Rattle.std.specs.Option.{option_to_list}
use Rattle.std.specs.List.{list_any, position_from}
use Rattle.std.specs.Str.{bytes_eq}
use Rattle.bp_syntax.specs.Ast.{Name, Expression, Constant, Variable, Negation, Operation, Decision, Choose, Decide, Block, Done, Then, Statement, Assigns, Branches, Loops, Asserts, Assumes, Prints, Calls, GoesTo, Procedure, Program, variables, procedure_named}
use Rattle.bp_syntax.specs.declared.errors.CheckError.{CheckError}
use Rattle.bp_syntax.specs.declared.errors.CheckError.TheVariants.{TwiceGlobal, TwiceProcedure, TwiceLocal, TwiceLabel, UnknownVariable, UnknownProcedure, UnknownLabel, Arity, Lengths, TwiceTarget, Limit, Memory}
use Rattle.bp_syntax.specs.declared.limits.TheConstants.{MAX_PROCEDURES, MAX_GLOBALS, MAX_OWN_NAMES}

-- The places of names in a program, and the names that a statement may use.

-- the list has a name with this text
abbrev pub has : List Name → List ℕ → Bool
has ns text = list_any (λ n. bytes_eq n.text text) ns

-- the list has this name at this index, and the name is at this place in the text
pub record IsNameAt (ns : List Name) (k : ℕ) (n : Name) (at : ℕ) : Type 0 where
  pub stands : slice_get ns k ≡ Some n
  pub place : n.at ≡ at

-- the value is in the list
abbrev pub Among : {X : Type 0} → List X → X → Type 0
Among [] x = ⊥
Among (y ∷ ys) x = (y ≡ x) ⊎ Among ys x

-- the expression uses the name
abbrev pub Uses : Expression → Name → Type 0
Uses (Constant b) n = ⊥
Uses (Variable m) n = m ≡ n
Uses (Negation e) n = Uses e n
Uses (Operation o a b) n = Uses a n ⊎ Uses b n

abbrev pub DecisionUses : Decision → Name → Type 0
DecisionUses Choose n = ⊥
DecisionUses (Decide e) n = Uses e n

abbrev pub SomeUses : List Expression → Name → Type 0
SomeUses es n = (e : Expression) × Among es e × Uses e n

-- the statement itself uses or writes the variable, apart from the blocks inside it
abbrev pub Mentions : Statement → Name → Type 0
Mentions (Assigns targets values) n = Among targets n ⊎ SomeUses values n
Mentions (Branches d a b) n = DecisionUses d n
Mentions (Loops d a) n = DecisionUses d n
Mentions (Asserts d) n = DecisionUses d n
Mentions (Assumes d) n = DecisionUses d n
Mentions (Prints values) n = SomeUses values n
Mentions (Calls callee arguments) n = SomeUses arguments n
Mentions _ n = ⊥

-- a statement with its label
pub record Labelled : Type 0 where
  pub label : Option Name
  pub statement : Statement

-- the statements of a block, at any depth, in the order of the text
abbrev mutual
  pub statements : Block → List Labelled
  statements Done = []
  statements (Then l at w t) =
      record { label = l; statement = w } ∷ (statements_inside w ++ statements t)

  pub statements_inside : Statement → List Labelled
  statements_inside (Branches d a b) = statements a ++ statements b
  statements_inside (Loops d a) = statements a
  statements_inside _ = []

-- the labels of these statements
abbrev pub labels_of : List Labelled → List Name
labels_of [] = []
labels_of (s ∷ rest) = option_to_list s.label ++ labels_of rest

abbrev pub labels : Block → List Name
labels body = labels_of (statements body)

-- Tables of names: the first name of each text in a list.

-- the index of the first name with this text, if the list begins at index i
abbrev pub first_index_from : ℕ → List Name → List ℕ → Option ℕ
first_index_from i ns text = position_from (λ n. bytes_eq n.text text) i ns

abbrev pub first_index : List Name → List ℕ → Option ℕ
first_index ns text = first_index_from 0 ns text

-- The errors of a program: for each kind, the places with that error.

-- the number by which users know the error
abbrev pub check_error_number : CheckError → ℕ
check_error_number TwiceGlobal = 11
check_error_number TwiceProcedure = 12
check_error_number TwiceLocal = 13
check_error_number TwiceLabel = 14
check_error_number UnknownVariable = 15
check_error_number UnknownProcedure = 16
check_error_number UnknownLabel = 17
check_error_number Arity = 18
check_error_number Lengths = 19
check_error_number TwiceTarget = 20
check_error_number Limit = 21
check_error_number Memory = 7

-- the place that a refusal for the error reports; memory has none
abbrev pub check_error_place : CheckError → ℕ → Option ℕ
check_error_place Memory at = None
check_error_place f at = Some at

-- the name at this place has the text of an earlier name of the list
abbrev pub IsTwice : List Name → ℕ → Type 0
IsTwice ns at = (k : ℕ) × (n : Name) × IsNameAt ns k n at × (has (take k ns) n.text ≡ true)

-- the first name past the limit is at this place
abbrev pub IsPast : ℕ → List Name → ℕ → Type 0
IsPast limit ns at = (n : Name) × IsNameAt ns limit n at

-- the name at this place is used in this way, but not declared
abbrev pub IsStrayIn : List Name → (Name → Type 0) → ℕ → Type 0
IsStrayIn declared Uses at = (n : Name) × Uses n × (has declared n.text ≡ false) × (n.at ≡ at)

-- the statement mentions the variable at this place, which is not declared
abbrev pub IsUndeclared : List Name → Statement → ℕ → Type 0
IsUndeclared declared s at = IsStrayIn declared (Mentions s) at

-- the statement calls the name at this place, which no procedure has
abbrev pub CallsNone : List Procedure → Statement → ℕ → Type 0
CallsNone qs (Calls callee arguments) at =
    (procedure_named qs callee.text ≡ None) × (callee.at ≡ at)
CallsNone qs _ at = ⊥

-- the call at this place has another number of arguments than the procedure has formals
abbrev pub CallsWrongly : List Procedure → Statement → ℕ → Type 0
CallsWrongly qs (Calls callee arguments) at =
    (q : Procedure)
    × (procedure_named qs callee.text ≡ Some q)
    × (length arguments ≢ length q.formals)
    × (callee.at ≡ at)
CallsWrongly qs _ at = ⊥

-- the statement jumps to the name at this place, which is none of the labels
abbrev pub JumpsNowhere : List Name → Statement → ℕ → Type 0
JumpsNowhere ls (GoesTo to) at = (has ls to.text ≡ false) × (to.at ≡ at)
JumpsNowhere ls _ at = ⊥

-- the two sides of the assignment differ in number, and its first target is at this place
abbrev pub IsUneven : Statement → ℕ → Type 0
IsUneven (Assigns targets values) at =
    (length targets ≢ length values) × (n : Name) × IsNameAt targets 0 n at
IsUneven _ at = ⊥

-- the target at this place appears earlier on the same left side
abbrev pub HasTargetTwice : Statement → ℕ → Type 0
HasTargetTwice (Assigns targets values) at = IsTwice targets at
HasTargetTwice _ at = ⊥

-- some statement of some procedure has the error at this place
abbrev pub InSome : Program → (Procedure → Statement → ℕ → Type 0) → ℕ → Type 0
InSome p Is at =
    (q : Procedure)
    × (s : Labelled)
    × Among p.procedures q
    × Among (statements q.body) s
    × Is q s.statement at

-- the first name past one of the limits is at this place
abbrev pub IsOverLimit : Program → ℕ → Type 0
IsOverLimit p at =
    IsPast MAX_PROCEDURES (map (λ q. q.name) p.procedures) at
    ⊎ (IsPast MAX_GLOBALS p.globals at
    ⊎ (q : Procedure) × Among p.procedures q × IsPast MAX_OWN_NAMES (variables q) at)

-- the program has the error at this place
abbrev pub IsError : Program → CheckError → ℕ → Type 0
IsError p TwiceGlobal at = IsTwice p.globals at
IsError p TwiceProcedure at = IsTwice (map (λ q. q.name) p.procedures) at
IsError p TwiceLocal at = (q : Procedure) × Among p.procedures q × IsTwice (variables q) at
IsError p TwiceLabel at = (q : Procedure) × Among p.procedures q × IsTwice (labels q.body) at
IsError p UnknownVariable at = InSome p (λ q. IsUndeclared (variables q ++ p.globals)) at
IsError p UnknownProcedure at = InSome p (λ q. CallsNone p.procedures) at
IsError p UnknownLabel at = InSome p (λ q. JumpsNowhere (labels q.body)) at
IsError p Arity at = InSome p (λ q. CallsWrongly p.procedures) at
IsError p Lengths at = InSome p (λ q. IsUneven) at
IsError p TwiceTarget at = InSome p (λ q. HasTargetTwice) at
IsError p Limit at = IsOverLimit p at
IsError p Memory at = ⊥

-- the program has no error
abbrev pub IsWellFormed : Program → Type 0
IsWellFormed p = (f : CheckError) (at : ℕ) → IsError p f at → ⊥

-- Properties of each well-formed program.

-- no more names of a kind than their limit
pub record HasFewNames (p : Program) : Type 0 where
  pub procedures : length p.procedures ≤ MAX_PROCEDURES
  pub globals : length p.globals ≤ MAX_GLOBALS
  pub own : (q : Procedure) → Among p.procedures q → length (variables q) ≤ MAX_OWN_NAMES

-- no two names of the list have the same text
abbrev pub AreDistinct : List Name → Type 0
AreDistinct ns =
    (k : ℕ) (n : Name) → slice_get ns k ≡ Some n → has (take k ns) n.text ≡ false

-- no two names of a kind have the same text
pub record HasDistinctNames (p : Program) : Type 0 where
  pub procedures : AreDistinct (map (λ q. q.name) p.procedures)
  pub globals : AreDistinct p.globals
  pub own : (q : Procedure) → Among p.procedures q → AreDistinct (variables q)
  pub labels_in : (q : Procedure) → Among p.procedures q → AreDistinct (labels q.body)

-- in the procedure q a jump has its label; a call has its procedure, and as many arguments as that
-- has formals; an assignment has distinct targets, and as many right sides
abbrev pub IsSound : Program → Procedure → Statement → Type 0
IsSound p q (GoesTo to) = has (labels q.body) to.text ≡ true
IsSound p q (Calls callee arguments) =
    (r : Procedure)
    × (procedure_named p.procedures callee.text ≡ Some r)
    × (length arguments ≡ length r.formals)
IsSound p q (Assigns targets values) =
    (0 < length targets) × (length targets ≡ length values) × AreDistinct targets
IsSound p q _ = Unit {0}

-- each statement of each procedure is sound, and names only variables that its procedure sees
pub record HasSoundStatements (p : Program) : Type 0 where
  pub sound : (q : Procedure) (s : Labelled)
      → Among p.procedures q
      → Among (statements q.body) s
      → IsSound p q s.statement
  pub declared : (q : Procedure) (s : Labelled) (n : Name)
      → Among p.procedures q
      → Among (statements q.body) s
      → Mentions s.statement n
      → has (variables q ++ p.globals) n.text ≡ true
