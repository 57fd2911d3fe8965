-- Texts of programs.
use Rattle.std.specs.Prelude.{◌≡◌, ℕ, ◌+◌, ◌-◌, ◌≤◌, List, [], ◌∷◌, ◌++◌, Bool, true, false, length}
use Rattle.bp_syntax.specs.Ast.{Program}
use Rattle.bp_syntax.specs.declared.limits.TheConstants.{NESTING_LIMIT, SUCCESSION_LIMIT, TEXT_LIMIT}
use Rattle.bp_syntax.specs.Tokens.{Token, HasTokens}
use Rattle.bp_syntax.specs.declared.tokens.TokenKind.{TokenKind}
use Rattle.bp_syntax.specs.declared.tokens.TokenKind.TheVariants as kind
use Rattle.bp_syntax.specs.Grammar.{Derives}

-- The depth at which statements nest.

-- the depth after a token of the kind, if it was n before; it never falls below 0
abbrev pub depth_after : TokenKind → ℕ → ℕ
depth_after kind.If n = n + 1
depth_after kind.While n = n + 1
depth_after kind.Fi n = n - 1
depth_after kind.Od n = n - 1
depth_after _ n = n

-- the depth after the tokens, if it was n before
abbrev pub depth_from : ℕ → List Token → ℕ
depth_from n [] = n
depth_from n (t ∷ ts) = depth_from (depth_after t.kind n) ts

abbrev pub depth : List Token → ℕ
depth ts = depth_from 0 ts

-- the depth is at most the limit after each token
abbrev pub IsShallow : List Token → Type 0
IsShallow ts = (front rest : List Token) → ts ≡ front ++ rest → depth front ≤ NESTING_LIMIT

-- Tokens in succession without a separator.

-- the token ends a statement, or begins or ends a sequence of statements
abbrev pub is_separator : TokenKind → Bool
is_separator kind.Semicolon = true
is_separator kind.Then = true
is_separator kind.Do = true
is_separator kind.Else = true
is_separator kind.Fi = true
is_separator kind.Od = true
is_separator kind.Begin = true
is_separator kind.End = true
is_separator _ = false

-- none of the tokens is a separator
abbrev pub NoSeparator : List Token → Type 0
NoSeparator [] = Unit {0}
NoSeparator (t ∷ ts) = (is_separator t.kind ≡ false) × NoSeparator ts

-- no run of tokens without a separator is longer than the limit
abbrev pub IsSparse : List Token → Type 0
IsSparse ts =
    (before run after : List Token)
    → ts ≡ before ++ (run ++ after)
    → NoSeparator run
    → length run ≤ SUCCESSION_LIMIT

-- the text is within the limits, and the grammar derives the tree from it
pub record IsTextOf (text : List ℕ) (p : Program) : Type 0 where
  pub short : length text ≤ TEXT_LIMIT
  pub tokens : List Token
  pub scanned : HasTokens text tokens
  pub shallow : IsShallow tokens
  pub sparse : IsSparse tokens
  pub derives : Derives tokens p

-- the tree is that of some text
abbrev pub HasText : Program → Type 0
HasText p = ∥ ((text : List ℕ) × IsTextOf text p) ∥₁
