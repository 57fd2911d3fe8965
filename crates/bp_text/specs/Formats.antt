-- Formats: how values are written one after the other, so that a text is read in one way.
use Rattle.std.proofs.Common.{inl, inr, refl}
use Rattle.std.specs.Borrow.{Bor}
use Rattle.std.specs.Prelude.{◌≡◌, ◌≢◌, ◌<◌, ◌+◌, ◌^◌, ◌⊎◌, ℕ, Bool, true, List, [], ◌∷◌, ◌++◌, Option, None, Some, MatchOption, length, flat_map, decimal, ◌==◌, false}

-- Values have texts, and each fits before some rests: no text begins with two of them.
abbrev pub IsReadInOneWay : {A : Type 0} → (A → List ℕ) → (A → List ℕ → Type 0) → Type 0
IsReadInOneWay {A} text fits =
    (x y : A) (u v : List ℕ)
    → fits x u
    → fits y v
    → text x ++ u ≡ text y ++ v
    → (x ≡ y) × (u ≡ v)

pub data Format : Type 0 → Type 1 where
  -- a word
  Word : (w : List ℕ) → Format (Unit {0})
  -- a decimal number of 64 bits below a bound, with all of its digits
  Number : (bound : ℕ) → Format ℕ
  -- a byte for each value, which determines it
  Letter :
      {A : Type 0}
      → (byte : A → ℕ)
      → (back : ℕ → A)
      → ((x : A) → back (byte x) ≡ x)
      → Format A
  -- as many bytes as a machine takes from this state on, if it may end after them
  Span :
      {S : Type 0}
      → (next : S → ℕ → Option S)
      → (may_end : S → Bool)
      → (state : S)
      → Format (List ℕ)
  -- a value after a word, or before it
  After : {A : Type 0} → (w : List ℕ) → (F : Format A) → Format A
  Before : {A : Type 0} → (F : Format A) → (w : List ℕ) → Format A
  -- a value on a line of its own
  Line : {A : Type 0} → (F : Format A) → Format A
  -- two values, one after the other
  Then : {A B : Type 0} → (F : Format A) → (G : Format B) → Format (A × B)
  -- two values, the second of a format that the first one determines
  Chain : {A B : Type 0} → (F : Format A) → (G : A → Format B) → Format (A × B)
  -- a value of the first format, or one of the second if there is none of the first
  Either : {A B : Type 0} → (F : Format A) → (G : Format B) → Format (A ⊎ B)
  -- as many values as there are
  Many : {A : Type 0} → (F : Format A) → Format (List A)
  -- values that are written as others, which determine them
  As :
      {A B : Type 0}
      → (f : B → A)
      → (back : A → B)
      → ((x : B) → back (f x) ≡ x)
      → (F : Format A)
      → Format B

-- none of these values is at the front of a text
abbrev pub Lacks : {A : Type 0} → (A → List ℕ) → (A → List ℕ → Type 0) → List ℕ → Type 0
Lacks {A} text fits whole = (x : A) (rest : List ℕ) → fits x rest → whole ≢ text x ++ rest

-- no digit begins this text
abbrev pub EndsNumber : List ℕ → Type 0
EndsNumber rest = (digit : ℕ) (more : List ℕ) → 47 < digit → digit < 58 → rest ≢ digit ∷ more

-- the machine takes no byte from here on
abbrev pub Stops : {S : Type 0} → (ℕ → Option S) → List ℕ → Type 0
Stops go [] = Unit {0}
Stops go (b ∷ rest) = go b ≡ None

abbrev pub SpanFits : {S : Type 0} → (S → ℕ → Option S) → (S → Bool) → S → List ℕ → List ℕ → Type 0
SpanFits next may_end s [] rest = (may_end s ≡ true) × Stops (next s) rest
SpanFits {S} next may_end s (b ∷ bs) rest =
    (t : S) × (next s b ≡ Some t) × SpanFits next may_end t bs rest

-- the text of either value
abbrev pub text_of_either : {A B : Type 0} → (A → List ℕ) → (B → List ℕ) → A ⊎ B → List ℕ
text_of_either f g (inl x) = f x
text_of_either f g (inr y) = g y

abbrev pub text_of : {A : Type 0} → Format A → A → List ℕ
text_of (Word w) x = w
text_of (Number bound) n = decimal n
text_of (Letter byte back again) x = byte x ∷ []
text_of (Span next may_end s) bs = bs
text_of (After w F) x = w ++ text_of F x
text_of (Before F w) x = text_of F x ++ w
text_of (Line F) x = text_of F x ++ 10 ∷ []
text_of (Then F G) p = text_of F p.0 ++ text_of G p.1
text_of (Chain F G) p = text_of F p.0 ++ text_of (G p.0) p.1
text_of (Either F G) x = text_of_either (text_of F) (text_of G) x
text_of (Many F) xs = flat_map (text_of F) xs
text_of (As f back again F) x = text_of F (f x)

-- the value can be written, and this rest after it
abbrev pub EitherFits :
    {A B : Type 0} → (A → List ℕ) → (A → List ℕ → Type 0) → (B → List ℕ) → (B → List ℕ → Type 0)
    → A ⊎ B → List ℕ → Type 0
EitherFits f p g q (inl x) rest = p x rest
EitherFits f p g q (inr y) rest = q y rest × Lacks f p (g y ++ rest)

abbrev pub EachFits :
    {A : Type 0} → (A → List ℕ) → (A → List ℕ → Type 0) → List A → List ℕ → Type 0
EachFits f p [] rest = Lacks f p rest
EachFits f p (x ∷ xs) rest = p x (flat_map f xs ++ rest) × EachFits f p xs rest

abbrev pub Fits : {A : Type 0} → Format A → A → List ℕ → Type 0
Fits (Word w) x rest = Unit {0}
Fits (Number bound) n rest = (n < bound) × (n < 2 ^ 64) × EndsNumber rest
Fits (Letter byte back again) x rest = Unit {0}
Fits (Span next may_end s) bs rest = SpanFits next may_end s bs rest
Fits (After w F) x rest = Fits F x rest
Fits (Before F w) x rest = Fits F x (w ++ rest)
Fits (Line F) x rest = Fits F x (10 ∷ rest)
Fits (Then F G) p rest = Fits F p.0 (text_of G p.1 ++ rest) × Fits G p.1 rest
Fits (Chain F G) p rest = Fits F p.0 (text_of (G p.0) p.1 ++ rest) × Fits (G p.0) p.1 rest
Fits (Either F G) x rest = EitherFits (text_of F) (Fits F) (text_of G) (Fits G) x rest
Fits (Many F) xs rest = EachFits (text_of F) (Fits F) xs rest
Fits (As f back again F) x rest = Fits F (f x) rest

-- the value is at the front of the text, and then comes the rest
pub record IsAt {A : Type 0} (F : Format A) (text : List ℕ) (x : A) (rest : List ℕ) : Type 0 where
  pub fits : Fits F x rest
  pub parts : text ≡ text_of F x ++ rest

-- no value is at the front of the text
pub record HasNone {A : Type 0} (F : Format A) (text : List ℕ) : Type 0 where
  pub none : Lacks (text_of F) (Fits F) text

-- the text is that of these values, one after the other
abbrev pub AreAll : {A : Type 0} → Format A → List ℕ → List A → Type 0
AreAll F text xs = IsAt (Many F) text xs []

-- value n, from 1, is the first that is malformed
pub record IsBad {A : Type 0} (F : Format A) (text : List ℕ) (n : ℕ) : Type 0 where
  pub front : List A
  pub rest : List ℕ
  pub at : IsAt (Many F) text front rest
  pub some : rest ≢ []
  pub number : n ≡ length front + 1

-- the result of a reader: the value at the front of the text and the text after it, or None
abbrev pub Finds : {A : Type 0} → Format A → List ℕ → Option (A × Bor (List ℕ)) → Type 0
Finds F text answer = MatchOption answer (HasNone F text) (λ p. IsAt F text p.0 p.1.now)

-- a part of the text
abbrev pub FindsPart :
    Format (List ℕ) → List ℕ → Option (Bor (List ℕ) × Bor (List ℕ)) → Type 0
FindsPart F text answer =
    MatchOption answer (HasNone F text) (λ p. IsAt F text p.0.now p.1.now)

-- the text after a word
abbrev pub FindsAfter : List ℕ → List ℕ → Option (Bor (List ℕ)) → Type 0
FindsAfter w text answer =
    MatchOption answer (HasNone (Word w) text) (λ rest. IsAt (Word w) text tt rest.now)

-- the result of a reader that keeps the rest of the text
abbrev pub Reads : {A : Type 0} → Format A → List ℕ → List ℕ → Option A → Type 0
Reads F old new answer = MatchOption answer (HasNone F old) (λ x. IsAt F old x new)

-- Bits as digits.

abbrev pub bit_digit : Bool → ℕ
bit_digit false = 48
bit_digit true = 49

abbrev pub bit_again : (b : Bool) → (bit_digit b == 49) ≡ b
bit_again false = refl
bit_again true = refl

abbrev pub bit : Format Bool
bit = Letter bit_digit (λ c. c == 49) bit_again

-- Formats of several lines, and the line at which a text breaks one of them.

-- the number of lines of values
abbrev pub lines_of_each : {A : Type 0} → (A → ℕ) → List A → ℕ
lines_of_each f [] = 0
lines_of_each f (x ∷ xs) = f x + lines_of_each f xs

abbrev pub lines_of : {A : Type 0} → Format A → A → ℕ
lines_of (Line F) x = 1
lines_of (Then F G) p = lines_of F p.0 + lines_of G p.1
lines_of (Chain F G) p = lines_of F p.0 + lines_of (G p.0) p.1
lines_of (Many F) xs = lines_of_each (lines_of F) xs
lines_of (As f back again F) x = lines_of F (f x)
lines_of F x = 0

-- a value is at the front of the text, and after it the text breaks
pub record BreaksAfter
    {A : Type 0} (F : Format A) (Breaks : A → List ℕ → ℕ → Type 0) (text : List ℕ) (k : ℕ)
    : Type 0 where
  pub value : A
  pub rest : List ℕ
  pub at : IsAt F text value rest
  pub line : ℕ
  pub breaks : Breaks value rest line
  pub number : k ≡ lines_of F value + line

-- the first part that is not in the text is missing at line k, from 1
abbrev pub BreaksAt : {A : Type 0} → Format A → List ℕ → ℕ → Type 0
BreaksAt (Then F G) text k = BreaksAt F text k ⊎ BreaksAfter F (λ x. BreaksAt G) text k
BreaksAt (Chain F G) text k = BreaksAt F text k ⊎ BreaksAfter F (λ x. BreaksAt (G x)) text k
BreaksAt (As f back again F) text k = BreaksAt F text k
BreaksAt F text k = HasNone F text × (k ≡ 1)
