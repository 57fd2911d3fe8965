-- Values of composed formats at the front of a text, or none.
use Rattle.bp_text.proofs.Common.{MatchOption, Option, Bor, ◌≡◌, ◌≢◌, inl, inr, ℕ, length, length-append, ◌≤◌, arith, List, [], ◌∷◌, ◌++◌, refl, sym, ap, ◌∙◌, subst, rules, FindsAfter, Fits, Format, HasNone, IsAt, Lacks, text_of, After, As, Before, Chain, Either, Line, Many, Then, Word}
use Rattle.bp_text.proofs.OneWay.{one_way}
use Rattle.bp_text.proofs.PartsOfTexts.{regrouped}

pub one_at : {A : Type 0} {F : Format A} {text u v : List ℕ} {x y : A} → IsAt F text x u → IsAt F text y v → (x ≡ y) × (u ≡ v)
one_at {F} p q = one_way F _ _ _ _ p.fits q.fits (sym p.parts ∙ q.parts)

-- a word
pub word_at : {w text rest : List ℕ} → text ≡ w ++ rest → IsAt (Word w) text tt rest
word_at e = record { fits = tt; parts = e }

pub no_word : {w text : List ℕ} → ((rest : List ℕ) → text ≢ w ++ rest) → HasNone (Word w) text
no_word none = record { none = λ x rest fits e. none rest e }

pub finds_after : (w text : List ℕ) (answer : Option (Bor (List ℕ))) → MatchOption answer ((rest : List ℕ) → text ≢ w ++ rest) (λ rest. text ≡ w ++ rest.now)
    → FindsAfter w text answer
finds_after w text answer given1 = grind (arith)

module _ {A : Type 0} {F : Format A} where
  -- a value after a word
  pub after_at : {w text middle rest : List ℕ} {x : A} → IsAt (Word w) text tt middle → IsAt F middle x rest → IsAt (After w F) text x rest
  after_at {w} p q = record { fits = q.fits; parts = p.parts ∙ ap (λ z. w ++ z) q.parts ∙ simp regrouped }

  pub no_word_before : {w text : List ℕ} → HasNone (Word w) text → HasNone (After w F) text
  no_word_before lacks = record { none = λ x rest fits e. lacks.none tt (text_of F x ++ rest) tt (e ∙ simp regrouped) }

  pub none_after : {w text middle : List ℕ} → IsAt (Word w) text tt middle → HasNone F middle → HasNone (After w F) text
  none_after {w} at lacks = record {
    none = λ x rest fits e. lacks.none x rest fits (one_way (Word w) tt tt _ _ tt tt (sym at.parts ∙ e ∙ simp regrouped)).1;
  }

  -- a value before a word
  pub before_at : {w text middle rest : List ℕ} {x : A} → IsAt F text x middle → IsAt (Word w) middle tt rest → IsAt (Before F w) text x rest
  before_at {x} p q = record { fits = subst (Fits F x) q.parts p.fits; parts = p.parts ∙ ap (λ z. text_of F x ++ z) q.parts ∙ simp regrouped }

  pub none_before : {w text : List ℕ} → HasNone F text → HasNone (Before F w) text
  none_before lacks = record { none = λ x rest fits e. lacks.none x _ fits (e ∙ simp regrouped) }

  pub no_word_after : {w text middle : List ℕ} {x : A} → IsAt F text x middle → HasNone (Word w) middle → HasNone (Before F w) text
  no_word_after at lacks = record {
    none = λ y rest fits e. lacks.none tt rest tt (one_way F _ y _ _ at.fits fits (sym at.parts ∙ e ∙ simp regrouped)).1;
  }

  -- a value on a line of its own
  pub line_at : {text middle rest : List ℕ} {x : A} → IsAt F text x middle → IsAt (Word (10 ∷ [])) middle tt rest → IsAt (Line F) text x rest
  line_at p q = let at = before_at p q in record { fits = at.fits; parts = at.parts }

  pub none_in_line : {text : List ℕ} → HasNone F text → HasNone (Line F) text
  none_in_line lacks = record { none = λ x rest fits e. lacks.none x (10 ∷ rest) fits (e ∙ simp regrouped) }

  pub no_feed : {text middle : List ℕ} {x : A} → IsAt F text x middle → HasNone (Word (10 ∷ [])) middle → HasNone (Line F) text
  no_feed {text} at lacks = let none : HasNone (Before F (10 ∷ [])) text = no_word_after at lacks in record { none = none.none }

  -- a value that is written as another
  pub at_as : {B : Type 0} {f : B → A} {back : A → B} {again : (x : B) → back (f x) ≡ x} {text rest : List ℕ} {x : B}
      → IsAt F text (f x) rest → IsAt (As f back again F) text x rest
  at_as p = record { fits = p.fits; parts = p.parts }

  pub none_as : {B : Type 0} {f : B → A} {back : A → B} {again : (x : B) → back (f x) ≡ x} {text : List ℕ} → HasNone F text → HasNone (As f back again F) text
  none_as {f} lacks = record { none = λ x rest fits e. lacks.none (f x) rest fits e }

  -- as many values as there are
  pub no_more : {text : List ℕ} → HasNone F text → IsAt (Many F) text [] text
  no_more lacks = record { fits = lacks.none; parts = refl }

  pub one_more : {text middle rest : List ℕ} {x : A} {xs : List A} → IsAt F text x middle → IsAt (Many F) middle xs rest → IsAt (Many F) text (x ∷ xs) rest
  one_more given1 given2 = search (rules, regrouped)

  pub first_of_many : {text rest : List ℕ} {x : A} {xs : List A} → IsAt (Many F) text (x ∷ xs) rest
      → (middle : List ℕ) × IsAt F text x middle × IsAt (Many F) middle xs rest
  first_of_many given1 = search (rules, regrouped)

  pub none_of_many : {text rest : List ℕ} → IsAt (Many F) text [] rest → HasNone F text
  none_of_many at = record { none = subst (Lacks (text_of F) (Fits F)) (sym at.parts) at.fits }

  pub within : {text rest : List ℕ} {x : A} → IsAt F text x rest → length rest ≤ length text
  within {rest} {x} at = let size = ap length at.parts ∙ length-append (text_of F x) rest in omega (arith, size)

module _ {A B : Type 0} {F : Format A} {G : Format B} where
  -- two values, one after the other
  pub both_at : {text middle rest : List ℕ} {x : A} {y : B} → IsAt F text x middle → IsAt G middle y rest → IsAt (Then F G) text (x, y) rest
  both_at given1 given2 = search (rules, regrouped)

  pub no_first : {text : List ℕ} → HasNone F text → HasNone (Then F G) text
  no_first lacks = record { none = λ z rest fits e. lacks.none z.0 _ fits.0 (e ∙ simp regrouped) }

  pub no_second : {text middle : List ℕ} {x : A} → IsAt F text x middle → HasNone G middle → HasNone (Then F G) text
  no_second given1 given2 = search (rules, one_way, regrouped)

  -- a value of either format
  pub left_at : {text rest : List ℕ} {x : A} → IsAt F text x rest → IsAt (Either F G) text (inl x) rest
  left_at p = record { fits = p.fits; parts = p.parts }

  pub right_at : {text rest : List ℕ} {y : B} → HasNone F text → IsAt G text y rest → IsAt (Either F G) text (inr y) rest
  right_at lacks p = record { fits = (p.fits, subst (Lacks (text_of F) (Fits F)) p.parts lacks.none); parts = p.parts }

  pub neither : {text : List ℕ} → HasNone F text → HasNone G text → HasNone (Either F G) text
  neither {text} lacks other = record { none = by_side }
    where
      by_side : Lacks (text_of (Either F G)) (Fits (Either F G)) text
      by_side (inl x) rest fits e = lacks.none x rest fits e
      by_side (inr y) rest fits e = other.none y rest fits.0 e

-- two values, the second of a format that the first one tells
module _ {A B : Type 0} {F : Format A} {G : A → Format B} where
  pub no_first_of_chain : {text : List ℕ} → HasNone F text → HasNone (Chain F G) text
  no_first_of_chain lacks = record { none = λ z rest fits e. lacks.none z.0 _ fits.0 (e ∙ simp regrouped) }

  pub no_second_of_chain : {text middle : List ℕ} {x : A} → IsAt F text x middle → HasNone (G x) middle → HasNone (Chain F G) text
  no_second_of_chain given1 given2 = search (rules, one_way, regrouped)

-- `search (rules, reading)`: a format that is made of others
pub ruleset reading = (
  word_at,
  no_word,
  after_at,
  no_word_before,
  none_after,
  before_at,
  none_before,
  no_word_after,
  at_as,
  none_as,
  no_more,
  one_more,
  both_at,
  no_first,
  no_second,
  left_at,
  right_at,
  neither,
)
