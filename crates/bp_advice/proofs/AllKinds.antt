-- Each kind of token is tried, and offered if it may follow.
use Rattle.bp_advice.proofs.Common.{◌≡◌, ◌&&◌, ℕ, Bool, true, false, cond, List, [], ◌∷◌, Option, None, Some, refl, sym, ap, ◌∙◌, nat_eq, ◌<◌, ◌+◌, ◌++◌, get_or, subst, arith, below_more, ◌≢◌, ◌↔◌, IsTrue, length, inl, inr, ◌⊎◌, rules, All-contains, All-push, Contains-append_left, Contains-push, false≢true, constants, symbols, long_symbols, reserved_word, reserved_words, kind_of, IsReal, Lexeme, IsCut, ends, first_bad_byte, first_open_brace, tokens_of, HasTokens, MayFollow, MayFollowAs, IsJudged, IsProgram, BeginsProgram}
use Rattle.std.proofs.lemmas.Bool.Decides.{Decides-eqb}
use Rattle.std.proofs.lemmas.Slice.Eq.{bytes_eq-Decides}
use Rattle.std.specs.Map.{lookup}
use Rattle.std.specs.Option.{unwrap_or}
use Rattle.std.specs.Str.{bytes_eq}
use Rattle.std.specs.List.{All, Contains}
use Rattle.bp_syntax.specs.declared.tokens.LexemeKind.{LexemeKind}
use Rattle.bp_syntax.specs.declared.tokens.LexemeKind.TheVariants.{White, Comment, Identifier, Braced, Constant, Symbol}
use Rattle.bp_syntax.specs.declared.tokens.TokenKind.{TokenKind}
use Rattle.bp_syntax.specs.declared.tokens.TokenKind.TheVariants.{Name}
use Rattle.bp_syntax.specs.declared.tokens.TokenKind.TheVariants as kind
use Rattle.bp_syntax.specs.Spellings.{spelling}
use Rattle.bp_syntax.specs.declared.tokens.TheConstants.{TOKEN_KINDS}
use Rattle.bp_syntax.specs.Refusals.{read_error_number, OneRefusal, NoRefusalOfPrograms, IsRefusal}
use Rattle.bp_syntax.specs.declared.errors.ReadError.{ReadError}
use Rattle.bp_syntax.specs.declared.errors.ReadError.TheVariants.{Syntax, Memory}
use Rattle.bp_syntax.specs.Lexer.{TakesLexeme, lexeme_of}

-- A kind of token has one spelling, unless it is that of names.

-- the text is the spelling of each kind that a table finds
module _ {K : Type 0} (test : K → Bool) (text : List ℕ) where
  abbrev Spelled : List (K × TokenKind) → Type 0
  Spelled [] = Unit {0}
  Spelled (e ∷ es) = (test e.0 ≡ true → text ≡ spelling e.1) × Spelled es

  found : (es : List (K × TokenKind)) → Spelled es → (k : TokenKind) → lookup test es ≡ Some k → text ≡ spelling k
  found [] p k e = absurd (cc)
  found (x ∷ es) p k e = by (test x.0) refl (found es p.1 k) e
    where
      by : (b : Bool) → test x.0 ≡ b → (lookup test es ≡ Some k → text ≡ spelling k) → cond b (Some x.1) (lookup test es) ≡ Some k → text ≡ spelling k
      by true passes later e = let same : x.1 ≡ k = cc in p.0 passes ∙ ap spelling same
      by false fails later e = later e

also : {A B : Type 0} → A → B → A × B
also a b = (a, b)

word : (s w : List ℕ) → bytes_eq s w ≡ true → s ≡ w
word s w = (bytes_eq-Decides s w).0

byte : (b c : ℕ) → nat_eq b c ≡ true → b ∷ [] ≡ c ∷ []
byte b c e = ap (λ n. n ∷ []) ((Decides-eqb b c).0 e)

two : (b c d f : ℕ) → (nat_eq b d && nat_eq c f) ≡ true → b ∷ c ∷ [] ≡ d ∷ f ∷ []
two b c d f given1 = grind (arith)

of_word : (s : List ℕ) (k : TokenKind) → reserved_word s ≡ Some k → s ≡ spelling k
of_word s k =
    found (bytes_eq s) s reserved_words
    (also (word s _) (also (word s _) (also (word s _) (also (word s _) (also (word s _) (also (word s _) (also (word s _) (also (word s _)
    (also (word s _) (also (word s _) (also (word s _) (also (word s _) (also (word s _) (also (word s _) (also (word s _) (also (word s _) tt)))))))))))))))) k

of_constant : (b : ℕ) (k : TokenKind) → lookup (nat_eq b) constants ≡ Some k → b ∷ [] ≡ spelling k
of_constant b k = found (nat_eq b) (b ∷ []) constants (byte b _, (byte b _, tt)) k

of_symbol : (b : ℕ) (k : TokenKind) → lookup (nat_eq b) symbols ≡ Some k → b ∷ [] ≡ spelling k
of_symbol b k given1 = search (rules, found, byte)

of_long : (b c : ℕ) (k : TokenKind) → lookup (λ (p : ℕ × ℕ). nat_eq b p.0 && nat_eq c p.1) long_symbols ≡ Some k → b ∷ c ∷ [] ≡ spelling k
of_long b c k = found (λ (p : ℕ × ℕ). nat_eq b p.0 && nat_eq c p.1) (b ∷ c ∷ []) long_symbols (two b c _ _, (two b c _ _, (two b c _ _, tt))) k

of_identifier : (s : List ℕ) (o : Option TokenKind) (k : TokenKind) → reserved_word s ≡ o → unwrap_or o Name ≡ k → (k ≡ Name → ⊥) → s ≡ spelling k
of_identifier s o k given1 given2 given3 = search (rules, of_word)

module _ (k : TokenKind) (other : k ≡ Name → ⊥) where
  of_lexeme : (l : LexemeKind) (s : List ℕ) → kind_of l s ≡ Some k → s ≡ spelling k
  of_lexeme White s e = absurd (cc)
  of_lexeme Comment s e = absurd (cc)
  of_lexeme Identifier s e = of_identifier s (reserved_word s) k refl (cc) other
  of_lexeme Braced s e = absurd (other (cc))
  of_lexeme Constant [] e = absurd (cc)
  of_lexeme Constant (b ∷ []) e = of_constant b k e
  of_lexeme Constant (b ∷ c ∷ s) e = absurd (cc)
  of_lexeme Symbol [] e = absurd (cc)
  of_lexeme Symbol (b ∷ []) e = of_symbol b k e
  of_lexeme Symbol (b ∷ c ∷ []) e = of_long b c k e
  of_lexeme Symbol (b ∷ c ∷ d ∷ s) e = absurd (cc)

  pub one_spelling : (s t : List ℕ) → IsReal (record { kind = k; at = 0; text = s }) → IsReal (record { kind = k; at = 0; text = t }) → s ≡ t
  one_spelling s t p q = of_lexeme p.lexeme s p.spells ∙ sym (of_lexeme q.lexeme t q.spells)

-- a token of the kind was tried, and is among these kinds if it may follow
pub record IsTried (front : List ℕ) (kinds : List TokenKind) (kind : TokenKind) : Type 0 where
  pub token : List ℕ
  pub real : IsReal (record { kind = kind; at = 0; text = token })
  pub tried : MayFollow front token → Contains kinds kind

module _ (front : List ℕ) (kinds : List TokenKind) where
  pub tried_still : (k kind : TokenKind) → IsTried front kinds kind → IsTried front (kinds ++ k ∷ []) kind
  tried_still k kind p = record { token = p.token; real = p.real; tried = λ f. Contains-append_left kinds (k ∷ []) kind (p.tried f) }

  judged : (kind : TokenKind) → All (MayFollowAs front) kinds → IsTried front kinds kind → IsJudged front kind (Contains kinds kind)
  judged kind only p = record {
    only = All-contains (MayFollowAs front) kinds kind only;
    all = λ other f. p.tried (subst (MayFollow front) (one_spelling kind other f.token p.token f.real p.real) f.follows);
    name = p.token;
    real = p.real;
    tried = p.tried;
  }

-- of each kind before this place a token was tried, and the kinds are those that may follow
pub record AreTried (front : List ℕ) (kinds : List TokenKind) (n : ℕ) : Type 0 where
  pub only : All (MayFollowAs front) kinds
  pub tried : (i : ℕ) → i < n → IsTried front kinds (get_or TOKEN_KINDS i kind.Name)

-- one more of all kinds was tried
module _ (front : List ℕ) (kinds : List TokenKind) (n : ℕ) (token : List ℕ) where
  abbrev next : TokenKind
  next = get_or TOKEN_KINDS n kind.Name

  module _ (real : IsReal (record { kind = next; at = 0; text = token })) (before : AreTried front kinds n) (new : List TokenKind) where
    pub offered : MayFollow front token → new ≡ kinds ++ next ∷ [] → AreTried front new (n + 1)
    offered follows is = subst (λ ks. AreTried front ks (n + 1)) (sym is) (record {
      only = All-push (MayFollowAs front) kinds next before.only (record { token = token; real = real; follows = follows });
      tried =
          below_more (λ i. IsTried front (kinds ++ next ∷ []) (get_or TOKEN_KINDS i kind.Name)) n
          (λ i less. tried_still front kinds next (get_or TOKEN_KINDS i kind.Name) (before.tried i less))
          (record { token = token; real = real; tried = λ f. Contains-push kinds next });
    })

    pub left_out : (MayFollow front token → ⊥) → new ≡ kinds → AreTried front new (n + 1)
    left_out never is = subst (λ ks. AreTried front ks (n + 1)) (sym is) (record {
      only = before.only;
      tried =
          below_more (λ i. IsTried front kinds (get_or TOKEN_KINDS i kind.Name)) n before.tried
          (record { token = token; real = real; tried = λ f. absurd (never f) });
    })

-- the place of a kind among all kinds
record IsPlaced (k : TokenKind) : Type 0 where
  place : ℕ
  within : place < 33
  is : get_or TOKEN_KINDS place kind.Name ≡ k

placed : (k : TokenKind) → IsPlaced k
placed kind.Decl = record { place = 0; within = omega arith; is = refl }
placed kind.Name = record { place = 1; within = omega arith; is = refl }
placed kind.Begin = record { place = 2; within = omega arith; is = refl }
placed kind.End = record { place = 3; within = omega arith; is = refl }
placed kind.Skip = record { place = 4; within = omega arith; is = refl }
placed kind.Goto = record { place = 5; within = omega arith; is = refl }
placed kind.Return = record { place = 6; within = omega arith; is = refl }
placed kind.If = record { place = 7; within = omega arith; is = refl }
placed kind.Then = record { place = 8; within = omega arith; is = refl }
placed kind.Else = record { place = 9; within = omega arith; is = refl }
placed kind.Fi = record { place = 10; within = omega arith; is = refl }
placed kind.While = record { place = 11; within = omega arith; is = refl }
placed kind.Do = record { place = 12; within = omega arith; is = refl }
placed kind.Od = record { place = 13; within = omega arith; is = refl }
placed kind.Assert = record { place = 14; within = omega arith; is = refl }
placed kind.Assume = record { place = 15; within = omega arith; is = refl }
placed kind.Print = record { place = 16; within = omega arith; is = refl }
placed kind.Zero = record { place = 17; within = omega arith; is = refl }
placed kind.One = record { place = 18; within = omega arith; is = refl }
placed kind.Question = record { place = 19; within = omega arith; is = refl }
placed kind.Bang = record { place = 20; within = omega arith; is = refl }
placed kind.Open = record { place = 21; within = omega arith; is = refl }
placed kind.Close = record { place = 22; within = omega arith; is = refl }
placed kind.Comma = record { place = 23; within = omega arith; is = refl }
placed kind.Semicolon = record { place = 24; within = omega arith; is = refl }
placed kind.Colon = record { place = 25; within = omega arith; is = refl }
placed kind.Becomes = record { place = 26; within = omega arith; is = refl }
placed kind.Bar = record { place = 27; within = omega arith; is = refl }
placed kind.Caret = record { place = 28; within = omega arith; is = refl }
placed kind.Ampersand = record { place = 29; within = omega arith; is = refl }
placed kind.Equal = record { place = 30; within = omega arith; is = refl }
placed kind.Differ = record { place = 31; within = omega arith; is = refl }
placed kind.Implies = record { place = 32; within = omega arith; is = refl }

pub all_judged : (front : List ℕ) (kinds : List TokenKind) (n : ℕ) → AreTried front kinds n → 33 < n + 1 → (k : TokenKind) → IsJudged front k (Contains kinds k)
all_judged front kinds n p all k =
    let q = placed k in
    let within = q.within in
    judged front kinds k p.only (subst (IsTried front kinds) q.is (p.tried q.place (omega (arith, within, all))))

-- The meaning of a refusal for a text that may be the front of a program.

-- an error of the text that is not of memory
module _ (text : List ℕ) (e : ReadError) (refused : IsRefusal text e) (is_memory : Bool)
    (means : IsTrue is_memory ↔ (e ≡ Memory)) (other : is_memory ≡ false) where
  differs : e ≢ Memory
  differs m = false≢true (sym other ∙ means.1 m)

  syntax_differs : (n : ℕ) → Syntax n ≢ Memory
  syntax_differs n m = let six : 6 ≡ 7 = ap read_error_number m in omega (arith, six)

  pub no_program : NoRefusalOfPrograms → IsTrue false ↔ IsProgram text
  no_program none = ((λ t. absurd (false≢true t)), λ p. absurd (differs (none text p.program e p.derived refused)))

  pub front_of_program : OneRefusal → NoRefusalOfPrograms → (early : Bool) → (IsTrue early ↔ (e ≡ Syntax (length text))) → IsTrue early ↔ BeginsProgram text
  front_of_program one none early is = (
    (λ t. inr (subst (IsRefusal text) (is.0 t) refused)),
    λ b.
        elim b [
          | inl p ↦ absurd (differs (none text p.program e p.derived refused))
          | inr r ↦ is.1 (one text e (Syntax (length text)) differs (syntax_differs (length text)) refused r)
        ],
  )

-- A text that begins with white or a comment has the tokens of the rest.

-- the lexemes of the text from this place on are white and comments
pub record HasGapsFrom (at : ℕ) (text : List ℕ) : Type 0 where
  pub lexemes : List Lexeme
  pub cut : IsCut at text lexemes
  pub good : first_bad_byte lexemes ≡ None
  pub closed : first_open_brace lexemes ≡ None
  pub tokens : tokens_of lexemes ≡ []

abbrev pub HasOnlyGaps : List ℕ → Type 0
HasOnlyGaps text = (at : ℕ) → HasGapsFrom at text

pub no_gaps : HasOnlyGaps []
no_gaps at = record { lexemes = []; cut = ends; good = refl; closed = refl; tokens = refl }

pub has_no_tokens : (text : List ℕ) → HasOnlyGaps text → HasTokens text []
has_no_tokens text gaps =
    let all = gaps 0 in
    record { lexemes = all.lexemes; cut = all.cut; good = all.good; closed = all.closed; tokens = all.tokens }

module _ (text bytes rest : List ℕ) (gaps : HasOnlyGaps rest) where
  after_lexeme : (kind : LexemeKind) → kind_of kind bytes ≡ None → TakesLexeme text (Some kind) bytes rest → HasOnlyGaps text
  after_lexeme kind none taken at =
      let more = gaps (at + taken.size) in
      record {
        lexemes = lexeme_of (Some kind) at bytes ∷ more.lexemes;
        cut = taken.cut at more.lexemes more.cut;
        good = more.good;
        closed = more.closed;
        tokens = rw none more.tokens;
      }

  pub after_gap : (kind : Option LexemeKind) → TakesLexeme text kind bytes rest → (kind ≡ Some White) ⊎ (kind ≡ Some Comment) → HasOnlyGaps text
  after_gap kind taken (inl is) = after_lexeme White refl (subst (λ k. TakesLexeme text k bytes rest) is taken)
  after_gap kind taken (inr is) = after_lexeme Comment refl (subst (λ k. TakesLexeme text k bytes rest) is taken)
