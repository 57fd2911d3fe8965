-- A text begins with one lexeme, so a statement has one list of lexemes.
use Rattle.bp_source.proofs.Common.{◌≡◌, ◌∙◌, ℕ, Bool, true, false, List, [], ◌∷◌, ◌++◌, sym, refl, append-nil, ◌+◌, ◌⊎◌, ⊎_elim, inl, inr, Option, None, Some, length, drop, ap, ap₂, subst, arith, length-take, ◌||◌, list_any, false≢true, rest_left, Procedure, Place, start_of_block, HasLexemes, IsAtEnd, Lexeme, Takes, more, is_choice, is_gap, lexeme_text, lexemes_text, AreStatements, IsStatementAt, is_ending, IsStatement, ending, none_left}
use Rattle.bp_syntax.specs.Tokens as cut
use Rattle.bp_syntax.specs.Tokens.{Fit, Brace, Bad, IsCut}
use Rattle.bp_syntax.specs.declared.tokens.LexemeKind.{LexemeKind}
use Rattle.bp_syntax.specs.Lexer.{lexeme_of, TakesLexeme}
use Rattle.bp_syntax.proofs.OneCut.{has_cut, one_cut}
use Rattle.bp_source.specs.SourceStatements.{ends}

-- The text of a statement, lexeme by lexeme.

-- the text begins with a statement that is shown so, before they are cut
pub record Reads (text shown : List ℕ) (reads : Bool) : Type 0 where
  pub lexemes : List Lexeme
  pub lexemes_are : HasLexemes text lexemes
  pub shown_is : shown ≡ lexemes_text false lexemes
  pub reads_is : reads ≡ list_any (λ l. is_choice l.bytes) lexemes

-- whatever lexemes are left, the statement has those read of it, and then their shown
pub record ReadsTo (text shown : List ℕ) (gap reads : Bool) (rest : List ℕ) : Type 0 where
  pub with_left : (left : List Lexeme) → HasLexemes rest left → Reads text (shown ++ lexemes_text gap left) (reads || list_any (λ l. is_choice l.bytes) left)

pub begins : (text : List ℕ) → ReadsTo text [] false false text
begins text = grind (arith)

or_assoc : (a b c : Bool) → ((a || b) || c) ≡ (a || (b || c))
or_assoc a b c = grind (arith)

or_false : (a : Bool) → (a || false) ≡ a
or_false a = grind (arith)

module _ (text shown : List ℕ) (gap reads : Bool) (rest : List ℕ) (read : ReadsTo text shown gap reads rest) where
  pub reads_more : (l : Lexeme) (new next : List ℕ) → Takes rest l.kind l.bytes next → new ≡ shown ++ lexeme_text gap l.kind l.bytes
      → ReadsTo text new (is_gap l.kind) (reads || is_choice l.bytes) next
  reads_more l new next takes is = record {
    with_left = λ left are.
        let all = read.with_left (l ∷ left) (more takes are) in
        let others = lexemes_text (is_gap l.kind) left in
        record {
          lexemes = all.lexemes;
          lexemes_are = all.lexemes_are;
          shown_is = rest_left shown new (lexeme_text gap l.kind l.bytes) others _ is all.shown_is;
          reads_is = or_assoc reads (is_choice l.bytes) (list_any (λ x. is_choice x.bytes) left) ∙ all.reads_is;
        };
  }

  pub reads_all : IsAtEnd rest → Reads text shown reads
  reads_all at =
      let all = read.with_left [] (ends at) in
      record {
        lexemes = all.lexemes;
        lexemes_are = all.lexemes_are;
        shown_is = sym (append-nil shown) ∙ all.shown_is;
        reads_is = sym (or_false reads) ∙ all.reads_is;
      }

-- the place of a lexeme of a cut, and whether it is a byte that begins none
abbrev place : cut.Lexeme → ℕ
place (Fit kind at bytes) = at
place (Brace at) = at
place (Bad at) = at

abbrev is_byte : cut.Lexeme → Bool
is_byte (Fit kind at bytes) = false
is_byte (Brace at) = true
is_byte (Bad at) = true

place_of_first : (at : ℕ) (text : List ℕ) (x : cut.Lexeme) (xs : List cut.Lexeme) → IsCut at text (x ∷ xs) → place x ≡ at
place_of_first at text x xs given1 = grind (arith)

-- two texts with one cut are both empty, or are at one place
one_place : (a b : ℕ) (s r : List ℕ) (xs : List cut.Lexeme) → IsCut a s xs → IsCut b r xs → (length r ≡ 0) ⊎ (a ≡ b)
one_place a b s r [] first second = inl (none_left_of b r second)
  where
    none_left_of : (at : ℕ) (text : List ℕ) → IsCut at text [] → length text ≡ 0
    none_left_of _ _ cut.ends = refl
one_place a b s r (x ∷ xs) first second = inr (sym (place_of_first a s x xs first) ∙ place_of_first b r x xs second)

-- the text after such a byte
record AfterByte (at : ℕ) (text : List ℕ) (xs : List cut.Lexeme) : Type 0 where
  rest : List ℕ
  cut : IsCut (at + 1) rest xs
  size : length text ≡ length rest + 1

after_byte : (at : ℕ) (text : List ℕ) (x : cut.Lexeme) (xs : List cut.Lexeme) → IsCut at text (x ∷ xs) → is_byte x ≡ true → AfterByte at text xs
after_byte at text x xs given1 given2 = grind (arith)

byte_lexeme : (bytes : List ℕ) → is_byte (lexeme_of None 0 bytes) ≡ true
byte_lexeme bytes = grind (arith)

byte_size : (text bytes rest : List ℕ) (is : TakesLexeme text None bytes rest) → is.size ≡ 1
byte_size text bytes rest is =
    let size = is.size in
    let some = is.some in
    let within = is.within in
    let left = has_cut (0 + size) rest in
    let after = after_byte 0 text (lexeme_of None 0 bytes) left.0 (is.cut 0 left.0 left.1) (byte_lexeme bytes) in
    let long = after.size in
    ⊎_elim (λ none. let n = none in omega arith) (λ same. let s = same in omega arith) (one_place (0 + size) (0 + 1) rest after.rest left.0 left.1 after.cut)

-- two lexemes that begin one text are one
record OneLexeme (k j : Option LexemeKind) (b c r q : List ℕ) : Type 0 where
  kind : k ≡ j
  bytes : b ≡ c
  rest : r ≡ q

module _ (text : List ℕ) where
  first_lexeme : (k j : Option LexemeKind) (b c r q : List ℕ) → TakesLexeme text k b r → TakesLexeme text j c q → lexeme_of k 0 b ≡ lexeme_of j 0 c
  first_lexeme k j b c r q x y =
      let left = has_cut (0 + x.size) r in
      let other = has_cut (0 + y.size) q in
      let same = one_cut 0 text (lexeme_of k 0 b ∷ left.0) (lexeme_of j 0 c ∷ other.0) (x.cut 0 left.0 left.1) (y.cut 0 other.0 other.1) in
      cc

  by_size : (k j : Option LexemeKind) (b c r q : List ℕ) (x : TakesLexeme text k b r) (y : TakesLexeme text j c q) → k ≡ j → x.size ≡ y.size
      → OneLexeme k j b c r q
  by_size k j b c r q x y given1 given2 = grind (arith)

  one_lexeme : (k j : Option LexemeKind) (b c r q : List ℕ) → TakesLexeme text k b r → TakesLexeme text j c q → OneLexeme k j b c r q
  one_lexeme (Some k) (Some j) b c r q x y =
      let same : Fit k 0 b ≡ Fit j 0 c = first_lexeme (Some k) (Some j) b c r q x y in
      let kind : k ≡ j = cc in
      let bytes : b ≡ c = cc in
      let one = x.within in
      let other = y.within in
      let size : x.size ≡ y.size = omega (arith, ap length x.front, ap length y.front, ap length bytes, length-take {A = ℕ}) in
      by_size (Some k) (Some j) b c r q x y (ap Some kind) size
  one_lexeme (Some k) None b c r q x y = absurd (false≢true (ap is_byte (first_lexeme (Some k) None b c r q x y) ∙ byte_lexeme c))
  one_lexeme None (Some j) b c r q x y = absurd (false≢true (ap is_byte (first_lexeme (Some j) None c b q r y x) ∙ byte_lexeme b))
  one_lexeme None None b c r q x y = by_size None None b c r q x y refl (byte_size text b r x ∙ sym (byte_size text c q y))

-- no lexeme of a statement is at its end
not_at_end : (text rest bytes : List ℕ) (kind : Option LexemeKind) → IsAtEnd text → Takes text kind bytes rest → ⊥
not_at_end _ rest bytes kind none_left takes = let some = takes.takes.some in let within = takes.takes.within in omega arith
not_at_end text rest bytes kind (ending {rest = q} {bytes = c} {kind = j} other is) takes =
    let same = one_lexeme text kind j bytes c rest q takes.takes other in
    false≢true (sym takes.goes_on ∙ ap is_ending same.bytes ∙ is)

-- the lexemes after the first
pub record NextLexemes (rest : List ℕ) (kind : Option LexemeKind) (bytes : List ℕ) (ls : List Lexeme) : Type 0 where
  pub left : List Lexeme
  pub is : ls ≡ record { kind = kind; bytes = bytes } ∷ left
  pub has : HasLexemes rest left

pub next_lexemes : (text rest bytes : List ℕ) (kind : Option LexemeKind) (ls : List Lexeme) → HasLexemes text ls → Takes text kind bytes rest
    → NextLexemes rest kind bytes ls
next_lexemes text rest bytes kind _ (ends at) takes = absurd (not_at_end text rest bytes kind at takes)
next_lexemes text rest bytes kind _ (more {rest = q} {l = l} {ls = ls} other has) takes =
    let same = one_lexeme text l.kind kind l.bytes bytes q rest other.takes takes.takes in
    record {
      left = ls;
      is = λ i. record { kind = same.kind i; bytes = same.bytes i } ∷ ls;
      has = subst (λ x. HasLexemes x ls) same.rest has;
    }

pub no_lexemes : (text : List ℕ) (ls : List Lexeme) → HasLexemes text ls → IsAtEnd text → ls ≡ []
no_lexemes text _ (ends at) end = refl
no_lexemes text _ (more {rest = q} {l = l} takes has) end = absurd (not_at_end text q l.bytes l.kind end takes)

pub one_list_of_lexemes : (text : List ℕ) (ls ms : List Lexeme) → HasLexemes text ls → HasLexemes text ms → ls ≡ ms
one_list_of_lexemes text _ ms (ends at) has = sym (no_lexemes text ms has at)
one_list_of_lexemes text _ ms (more {rest = q} {l = l} {ls = ls} takes rest) has =
    let next = next_lexemes text q l.bytes l.kind ms has takes in
    ap (λ xs. l ∷ xs) (one_list_of_lexemes q ls next.left rest next.has) ∙ sym next.is

-- so a statement has one text, and reads a choice bit or not
pub one_statement : (text a b : List ℕ) (p q : Bool) → IsStatement text a p → IsStatement text b q → (a ≡ b) × (p ≡ q)
one_statement text a b p q x y =
    let same = one_list_of_lexemes text x.lexemes y.lexemes x.lexemes_are y.lexemes_are in (
      x.shown_is ∙ ap (λ ls. lexemes_text false ls) same ∙ sym y.shown_is,
      x.reads_is ∙ ap (λ ls. list_any (λ l. is_choice l.bytes) ls) same ∙ sym y.reads_is,
    )

pub one_statement_at : (text : List ℕ) (r : Procedure) (start : Option ℕ) (a b : List ℕ) (p q : Bool) → IsStatementAt text r start a p
    → IsStatementAt text r start b q
    → (a ≡ b) × (p ≡ q)
one_statement_at text r None a b p q x y = (x.shown_is ∙ sym y.shown_is, x.reads_none ∙ sym y.reads_none)
one_statement_at text r (Some at) a b p q x y = one_statement (drop at text) a b p q x y

-- the texts of the statements of places are one list
pub one_list_of_statements : (text : List ℕ) (xs : List Place) (a b : List (List ℕ)) → AreStatements text xs a → AreStatements text xs b → a ≡ b
one_list_of_statements text [] [] [] x y = refl
one_list_of_statements text [] [] (w ∷ b) x y = elim y [ ]
one_list_of_statements text [] (v ∷ a) b x y = elim x [ ]
one_list_of_statements text (z ∷ xs) [] b x y = elim x [ ]
one_list_of_statements text (z ∷ xs) (v ∷ a) [] x y = elim y [ ]
one_list_of_statements text (z ∷ xs) (v ∷ a) (w ∷ b) ((p, x), xs_are) ((q, y), ys_are) =
    ap₂ (λ u us. u ∷ us) (one_statement_at text z.procedure (start_of_block z.left) v w p q x y).0 (one_list_of_statements text xs a b xs_are ys_are)
