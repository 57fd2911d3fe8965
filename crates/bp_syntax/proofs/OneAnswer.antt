-- A text has one result: its tree, or its first error.
use Rattle.bp_syntax.proofs.Common.{◌≡◌, ℕ, ◌≤◌, List, [], ◌∷◌, ◌++◌, length, Some, None, Result, Ok, Err, refl, sym, ap, subst, ◌∙◌, ⊎_elim, arith, ◌≢◌, ◌⊎◌, ◌<◌, inl, inr, MatchResult, IsErrAnd, rules, cases_lt, Program, TEXT_LIMIT, Token, tokens_of, HasTokens, HasBadByte, HasOpenName, AllReal, Derives, IsShallow, IsSparse, IsTextOf, IsScanError, first_too_deep, first_too_many, Opens, BreaksAt, HasSyntaxError, IsRefusal, read_error_number, whole_program, parse_result, Got, place_or, IsParseError, ReadError}
use Rattle.bp_syntax.proofs.SpelledNames.{all_real}
use Rattle.bp_syntax.proofs.GrownLists.{regrouped}
use Rattle.bp_syntax.specs.declared.errors.ReadError.TheVariants as error
use Rattle.bp_syntax.proofs.OneCut.{one_cut}
use Rattle.bp_syntax.proofs.FirstTooMany.{none_is_sparse, some_is_crowded, none_is_shallow, some_is_deep, shallow_front}
use Rattle.bp_syntax.proofs.ProgramsAreRead.{one_tree}
use Rattle.bp_syntax.proofs.StopIsSyntaxError.{read_is_derived, stops_at_error}

-- a text has one list of tokens
pub same_tokens : (text : List ℕ) (ts us : List Token) → HasTokens text ts → HasTokens text us → ts ≡ us
same_tokens text ts us a b = sym a.tokens ∙ ap tokens_of (one_cut 0 text a.lexemes b.lexemes a.cut b.cut) ∙ b.tokens

pub good_or_bad : (text : List ℕ) (ts : List Token) (at : ℕ) → HasTokens text ts → HasBadByte text at → ⊥
good_or_bad text ts at given1 given2 = search (rules, one_cut)

pub closed_or_open : (text : List ℕ) (ts : List Token) (at : ℕ) → HasTokens text ts → HasOpenName text at → ⊥
closed_or_open text ts at given1 given2 = search (rules, one_cut)

pub real_rest : (front rest : List Token) → AllReal (front ++ rest) → AllReal rest
real_rest [] rest r = r
real_rest (x ∷ front) rest r = real_rest front rest r.1

pub sparse_front : (front rest : List Token) → IsSparse (front ++ rest) → IsSparse front
sparse_front front rest given1 = search (rules, regrouped)

derived_opens : (front rest : List Token) (x : Token) (p : Program) → AllReal (front ++ x ∷ rest) → Derives (front ++ x ∷ rest) p → Opens (front ++ x ∷ [])
derived_opens front rest x p real d = record {
  more = rest;
  real = (real_rest front (x ∷ rest) real).1;
  tree = p;
  derives = simp regrouped d;
}

no_syntax_error : (text : List ℕ) (ts : List Token) (at : ℕ) (p : Program) → AllReal ts → Derives ts p → HasSyntaxError text ts at → ⊥
no_syntax_error text ts at p given1 given2 given3 = search (rules, ⊎_elim, derived_opens)

pub shallow_or_nested : (ts : List Token) (at : ℕ) → IsShallow ts → BreaksAt IsShallow ts at → ⊥
shallow_or_nested ts at all b =
    let here : IsShallow (b.front ++ b.token ∷ b.rest) = subst IsShallow b.parts all in
    b.after (shallow_front (b.front ++ b.token ∷ []) b.rest (simp regrouped here))

pub sparse_or_crowded : (ts : List Token) (at : ℕ) → IsSparse ts → BreaksAt IsSparse ts at → ⊥
sparse_or_crowded ts at all b =
    let here : IsSparse (b.front ++ b.token ∷ b.rest) = subst IsSparse b.parts all in
    b.after (sparse_front (b.front ++ b.token ∷ []) b.rest (simp regrouped here))

-- a program's text has no error
pub only_memory : (text : List ℕ) (p : Program) (e : ReadError) → IsTextOf text p → IsRefusal text e → e ≡ error.Memory
only_memory text p error.TooLong t f = let s = t.short in absurd (omega arith)
only_memory text p (error.BadByte at) t f = absurd (good_or_bad text t.tokens at t.scanned f.1)
only_memory text p (error.OpenName at) t f = absurd (closed_or_open text t.tokens at t.scanned f.1)
only_memory text p (error.TooNested at) t f =
    absurd (shallow_or_nested f.1 at (subst IsShallow (same_tokens text t.tokens f.1 t.scanned f.2) t.shallow) f.3)
only_memory text p (error.TooManyTokens at) t f =
    absurd (sparse_or_crowded f.1 at (subst IsSparse (same_tokens text t.tokens f.1 t.scanned f.2) t.sparse) f.4)
only_memory text p (error.Syntax at) t f =
    let real : AllReal t.tokens = subst AllReal t.scanned.tokens (all_real t.scanned.cut) in
    let same = same_tokens text f.1 t.tokens f.2 t.scanned in
    absurd (no_syntax_error text t.tokens at p real t.derives (subst (λ l. HasSyntaxError text l at) same f.5))
only_memory text p error.Memory t f = refl

-- a program's text has one tree
pub one_program : (text : List ℕ) (p q : Program) → IsTextOf text p → IsTextOf text q → p ≡ q
one_program text p q a b =
    one_tree a.tokens p q a.derives (subst (λ l. Derives l q) (same_tokens text b.tokens a.tokens b.scanned a.scanned) b.derives)

-- an answer that is right is the only one but for memory
pub only_answer : (text : List ℕ) (r : Result Program ReadError) → MatchResult r (IsTextOf text) (IsRefusal text)
    → (p : Program) → IsTextOf text p → MatchResult r (λ t. t ≡ p) (λ e. e ≡ error.Memory)
only_answer text (Ok q) a p t = one_program text q p a t
only_answer text (Err e) a p t = only_memory text p e t a

pub scan_error : (text : List ℕ) (e : ReadError) → length text ≤ TEXT_LIMIT → IsScanError text e → IsRefusal text e
scan_error text e given1 given2 = grind (arith)

place_is : (end : ℕ) (left : List Token) (x : Token) (r : List Token) → left ≡ x ∷ r → place_or end left ≡ x.at
place_is end left x r given1 = grind (arith)

end_is : (end : ℕ) (left : List Token) → left ≡ [] → place_or end left ≡ end
end_is end left given1 = grind (arith)

pub parse_error : (text : List ℕ) (ts : List Token) (e : ReadError) → length text ≤ TEXT_LIMIT → HasTokens text ts
    → IsShallow ts → IsSparse ts → IsParseError ts (length text) e → IsRefusal text e
parse_error text ts (error.Syntax at) le has shallow sparse f = (
  le,
  ts,
  has,
  shallow,
  sparse,
  stops_at_error text ts f.0 at f.1 (λ x r e. sym (place_is (length text) f.0 x r e) ∙ sym f.2)
      (λ e. f.2 ∙ end_is (length text) f.0 e),
)
parse_error text ts error.Memory le has shallow sparse f = le
parse_error text ts error.TooLong le has shallow sparse f = absurd f
parse_error text ts (error.BadByte at) le has shallow sparse f = absurd f
parse_error text ts (error.OpenName at) le has shallow sparse f = absurd f
parse_error text ts (error.TooNested at) le has shallow sparse f = absurd f
parse_error text ts (error.TooManyTokens at) le has shallow sparse f = absurd f

pub nested_error : (text : List ℕ) (ts : List Token) (at : ℕ) → length text ≤ TEXT_LIMIT → HasTokens text ts
    → first_too_deep 0 ts ≡ Some at → IsRefusal text (error.TooNested at)
nested_error text ts at le has e = (le, ts, has, some_is_deep ts at e)

pub crowd_error : (text : List ℕ) (ts : List Token) (at : ℕ) → length text ≤ TEXT_LIMIT → HasTokens text ts
    → first_too_deep 0 ts ≡ None → first_too_many 0 ts ≡ Some at → IsRefusal text (error.TooManyTokens at)
crowd_error text ts at le has flat e = (le, ts, has, none_is_shallow ts flat, some_is_crowded ts at e)

pub parsed : (text : List ℕ) (ts : List Token) (p : Program) → length text ≤ TEXT_LIMIT → HasTokens text ts
    → first_too_deep 0 ts ≡ None → first_too_many 0 ts ≡ None → parse_result whole_program ts ≡ Got p → IsTextOf text p
parsed text ts p given1 given2 given3 given4 given5 = search (rules, none_is_shallow, none_is_sparse, read_is_derived)

-- a refusal that is passed on
pub error_passed_on : (text : List ℕ) (r : Result Program ReadError) (e : ReadError) → IsErrAnd r (λ d. d ≡ e)
    → IsRefusal text e → MatchResult r (IsTextOf text) (IsRefusal text)
error_passed_on text r e given1 given2 = grind (arith)

-- A text has at most one refusal, memory aside.

-- two places in one list: they are one, or one comes before the other
places : (f g : List Token) (x y : Token) (r s : List Token)
    → f ++ x ∷ r ≡ g ++ y ∷ s
    → (x ≡ y) ⊎ (((m : List Token) × (g ≡ (f ++ x ∷ []) ++ m)) ⊎ ((m : List Token) × (f ≡ (g ++ y ∷ []) ++ m)))
places [] [] x y r s e = let z : x ≡ y = cc in inl z
places [] (z ∷ g) x y r s e = let h : z ≡ x = cc in inr (inl (g, ap (λ t. t ∷ g) h))
places (z ∷ f) [] x y r s e = let h : z ≡ y = cc in inr (inr (f, ap (λ t. t ∷ f) h))
places (z ∷ f) (w ∷ g) x y r s e =
    let h : z ≡ w = cc in
    let t : f ++ x ∷ r ≡ g ++ y ∷ s = cc in
    elim (places f g x y r s t) [
      | inl same ↦ inl same
      | inr (inl (m, is)) ↦ inr (inl (m, λ i. sym h i ∷ is i))
      | inr (inr (m, is)) ↦ inr (inr (m, λ i. h i ∷ is i))
    ]

real_front : (front rest : List Token) → AllReal (front ++ rest) → AllReal front
real_front [] rest r = tt
real_front (x ∷ front) rest r = (r.0, real_front front rest r.1)

-- a property of each front of real tokens with it breaks at one place
one_break : (P : List Token → Type 0) (ts : List Token) (at place : ℕ)
    → ((front rest : List Token) → AllReal (front ++ rest) → P (front ++ rest) → P front)
    → AllReal ts
    → BreaksAt P ts at
    → BreaksAt P ts place
    → at ≡ place
one_break P ts at place given1 given2 given3 given4 = search (rules, real_front, places)

-- tokens open a program if they do with more real tokens
opens_front : (front rest : List Token) → AllReal (front ++ rest) → Opens (front ++ rest) → Opens front
opens_front front rest real o = record {
  more = rest ++ o.more;
  real = both rest o.more (real_rest front rest real) o.real;
  tree = o.tree;
  derives = simp regrouped at o.derives;
}
  where
    both : (ts us : List Token) → AllReal ts → AllReal us → AllReal (ts ++ us)
    both [] us a b = b
    both (t ∷ ts) us a b = (a.0, both ts us a.1 b)

opens_or_breaks : (ts : List Token) (at : ℕ) → AllReal ts → Opens ts → BreaksAt Opens ts at → ⊥
opens_or_breaks ts at real o b =
    let parts : ts ≡ (b.front ++ b.token ∷ []) ++ b.rest = b.parts ∙ simp regrouped in
    b.after (opens_front (b.front ++ b.token ∷ []) b.rest (subst AllReal parts real) (subst Opens parts o))

-- a syntax error has one place
one_syntax_error : (text : List ℕ) (ts : List Token) (at place : ℕ) → AllReal ts → HasSyntaxError text ts at → HasSyntaxError text ts place → at ≡ place
one_syntax_error text ts at place real (inl a) (inl b) = one_break Opens ts at place opens_front real a b
one_syntax_error text ts at place real (inl a) (inr b) = absurd (opens_or_breaks ts at real b.0 a)
one_syntax_error text ts at place real (inr a) (inl b) = absurd (opens_or_breaks ts place real a.0 b)
one_syntax_error text ts at place real (inr a) (inr b) = a.2 ∙ sym b.2

bad_or_open : (text : List ℕ) (at place : ℕ) → HasBadByte text at → HasOpenName text place → ⊥
bad_or_open text at place given1 given2 = search (rules, one_cut)

one_bad_byte : (text : List ℕ) (at place : ℕ) → HasBadByte text at → HasBadByte text place → at ≡ place
one_bad_byte text at place given1 given2 = search (rules, one_cut)

one_open_name : (text : List ℕ) (at place : ℕ) → HasOpenName text at → HasOpenName text place → at ≡ place
one_open_name text at place given1 given2 = search (rules, one_cut)

real_tokens : (text : List ℕ) (ts : List Token) → HasTokens text ts → AllReal ts
real_tokens text ts h = subst AllReal h.tokens (all_real h.cut)

module _ (text : List ℕ) where
  -- if an earlier error applies, no later one does
  apart : (e f : ReadError) → read_error_number e < read_error_number f → f ≢ error.Memory → IsRefusal text e → IsRefusal text f → ⊥
  apart error.TooLong (error.BadByte n) less other a b = let short = b.0 in omega arith
  apart error.TooLong (error.OpenName n) less other a b = let short = b.0 in omega arith
  apart error.TooLong (error.TooNested n) less other a b = let short = b.0 in omega arith
  apart error.TooLong (error.TooManyTokens n) less other a b = let short = b.0 in omega arith
  apart error.TooLong (error.Syntax n) less other a b = let short = b.0 in omega arith
  apart (error.BadByte m) (error.OpenName n) less other a b = bad_or_open text m n a.1 b.1
  apart (error.BadByte m) (error.TooNested n) less other a b = good_or_bad text b.1 m b.2 a.1
  apart (error.BadByte m) (error.TooManyTokens n) less other a b = good_or_bad text b.1 m b.2 a.1
  apart (error.BadByte m) (error.Syntax n) less other a b = good_or_bad text b.1 m b.2 a.1
  apart (error.OpenName m) (error.TooNested n) less other a b = closed_or_open text b.1 m b.2 a.1
  apart (error.OpenName m) (error.TooManyTokens n) less other a b = closed_or_open text b.1 m b.2 a.1
  apart (error.OpenName m) (error.Syntax n) less other a b = closed_or_open text b.1 m b.2 a.1
  apart (error.TooNested m) (error.TooManyTokens n) less other a b =
      shallow_or_nested a.1 m (subst IsShallow (same_tokens text b.1 a.1 b.2 a.2) b.3) a.3
  apart (error.TooNested m) (error.Syntax n) less other a b =
      shallow_or_nested a.1 m (subst IsShallow (same_tokens text b.1 a.1 b.2 a.2) b.3) a.3
  apart (error.TooManyTokens m) (error.Syntax n) less other a b =
      sparse_or_crowded a.1 m (subst IsSparse (same_tokens text b.1 a.1 b.2 a.2) b.4) a.4
  apart _ error.Memory less other a b = other refl
  apart _ _ less other a b = omega arith

  -- an error applies at one place
  at_one_place : (e f : ReadError) → read_error_number e ≡ read_error_number f → IsRefusal text e → IsRefusal text f → e ≡ f
  at_one_place error.TooLong error.TooLong same a b = refl
  at_one_place (error.BadByte m) (error.BadByte n) same a b = ap error.BadByte (one_bad_byte text m n a.1 b.1)
  at_one_place (error.OpenName m) (error.OpenName n) same a b = ap error.OpenName (one_open_name text m n a.1 b.1)
  at_one_place (error.TooNested m) (error.TooNested n) same a b =
      ap error.TooNested (one_break IsShallow a.1 m n (λ front rest real. shallow_front front rest) (real_tokens text a.1 a.2) a.3
      (subst (λ ts. BreaksAt IsShallow ts n) (same_tokens text b.1 a.1 b.2 a.2) b.3))
  at_one_place (error.TooManyTokens m) (error.TooManyTokens n) same a b =
      ap error.TooManyTokens (one_break IsSparse a.1 m n (λ front rest real. sparse_front front rest) (real_tokens text a.1 a.2) a.4
      (subst (λ ts. BreaksAt IsSparse ts n) (same_tokens text b.1 a.1 b.2 a.2) b.4))
  at_one_place (error.Syntax m) (error.Syntax n) same a b =
      ap error.Syntax (one_syntax_error text a.1 m n (real_tokens text a.1 a.2) a.5
      (subst (λ ts. HasSyntaxError text ts n) (same_tokens text b.1 a.1 b.2 a.2) b.5))
  at_one_place error.Memory error.Memory same a b = refl
  at_one_place _ _ same a b = absurd (omega (arith, same))

  pub one_refusal : (e f : ReadError) → e ≢ error.Memory → f ≢ error.Memory → IsRefusal text e → IsRefusal text f → e ≡ f
  one_refusal e f one other a b =
      elim (cases_lt (read_error_number e) (read_error_number f)) [
        | inl less ↦ absurd (apart e f less other a b)
        | inr le ↦
            elim (cases_lt (read_error_number f) (read_error_number e)) [
              | inl less ↦ absurd (apart f e less one b a)
              | inr ge ↦ at_one_place e f (omega arith) a b
            ]
      ]
