-- A match on an argument's value determines the rows of a parse.
use Rattle.btrun.proofs.Common.{◌≡◌, refl, codes, map, option_map, unwrap_or, List, [], ◌∷◌, Bor, Option, Some, None, ◌∙◌, ap, sym, Bool, true, if◌then◌else◌, ◌^◌, ◌<◌, ℕ, Result, find, option_and_then, length, nat_lt, ltb-true, lt-ltb, arith, rules, Text, Row, row_of, rows_of, bytes_eq, find_row, both, matched_of, ReadsOne, list_all, is_from_line, is_on_line, option_name, is_number_text, number_in, number_of}
use Rattle.clap.specs.Facts.{Entry}
use Rattle.clap.specs.declared.parser.matches.Found.{Found}
use Rattle.clap.specs.declared.parser.matches.MatchedArg.{MatchedArg}
use Rattle.clap.specs.declared.parser.matches.ValueSource.{ValueSource}
use Rattle.std.specs.Char.{digit_value}
use Rattle.std.specs.Str.Parse.{AllDigits, IsNumeral, without_leading_plus, ParsesUnsigned}
use Rattle.clap.specs.ValueTests.{is_numeral}
use Rattle.btrun.specs.declared.arguments.misuses.OptionName.{OptionName}

module _ (given : Option (Bor (List (Bor Text)))) (all : Option (List Text)) (same : option_map (λ s. map (λ v. v.now) s.now) given ≡ all) where
  pub names_read : (names : Bor (List (Bor Text))) → given ≡ Some names → map (λ v. v.now) names.now ≡ unwrap_or all (codes "main" ∷ [])
  names_read names is = rw (← same, is) refl

  pub no_names_read : given ≡ None → (codes "main" ∷ []) ≡ unwrap_or all (codes "main" ∷ [])
  no_names_read is = rw (← same, is) refl

-- Which options the arguments gave.

-- the source of an argument's value, by the rows
pub source-rows : (f : Found) (id : Text) → option_and_then (λ (a : MatchedArg). a.source) (matched_of f id)
    ≡ option_and_then (λ (r : Row). r.source) (find (λ r. bytes_eq r.id id) (rows_of f))
source-rows f id = go (find (λ e. bytes_eq e.0.now id) f.entries.items) ∙ ap (option_and_then (λ (r : Row). r.source)) (sym (find_row f.entries.items id))
  where
    go : (o : Option Entry) → option_and_then (λ (a : MatchedArg). a.source) (option_map (λ e. e.1) o)
        ≡ option_and_then (λ (r : Row). r.source) (option_map row_of o)
    go None = refl
    go (Some e) = refl

pub given_is : (f : Found) (o : OptionName) (name : Text) (source : Option ValueSource) → name ≡ option_name o
    → source ≡ option_and_then (λ (a : MatchedArg). a.source) (matched_of f name) → is_from_line source ≡ is_on_line (rows_of f) o
given_is f o name source given1 given2 = search (rules, source-rows, option_and_then, find)

-- The number of an option, from the text that a parse reads of it.

abbrev IsNumberText : ℕ → Text → Type 0
IsNumberText bits text = IsNumeral 10 (without_leading_plus text) × (number_of text < 2 ^ bits)

digits_from : (ds : List ℕ) → list_all (λ d. nat_lt (digit_value d) 10) ds ≡ true → AllDigits 10 ds
digits_from [] e = tt
digits_from (d ∷ ds) e = let parts = both _ _ e in (ltb-true _ _ parts.0, digits_from ds parts.1)

digits_back : (ds : List ℕ) → AllDigits 10 ds → list_all (λ d. nat_lt (digit_value d) 10) ds ≡ true
digits_back [] h = refl
digits_back (d ∷ ds) h = rw (lt-ltb (digit_value d) 10 h.0) (digits_back ds h.1)

numeral_back : (ds : List ℕ) → IsNumeral 10 ds → is_numeral ds ≡ true
numeral_back ds h = rw (lt-ltb 0 (length ds) h.0) (digits_back ds h.1)

is_a_number : (bits : ℕ) (t : Text) → IsNumberText bits t → is_number_text bits t ≡ true
is_a_number bits t h = rw (numeral_back (without_leading_plus t) h.0) (lt-ltb (number_of t) (2 ^ bits) h.1)

a_number_is : (bits : ℕ) (t : Text) → is_number_text bits t ≡ true → IsNumberText bits t
a_number_is bits t given1 = search (rules, both, ltb-true, digits_from)

-- a parse reads the number of a text, and none if the text is no such number
abbrev pub IsNumberIn : ℕ → Option Text → Option ℕ → Type 0
IsNumberIn bits None read = read ≡ None
IsNumberIn bits (Some text) (Some n) = IsNumberText bits text × (n ≡ number_of text)
IsNumberIn bits (Some text) None = IsNumberText bits text → ⊥

no_number : (b : Bool) (n : ℕ) → (b ≡ true → ⊥) → None ≡ (if b then Some n else None)
no_number b n given1 = grind (arith)

pub number_is : (bits : ℕ) (text : Option Text) (read : Option ℕ) → IsNumberIn bits text read → read ≡ option_and_then (number_in bits) text
number_is bits None read is = is
number_is bits (Some t) (Some n) is = rw (is_a_number bits t is.0) (ap Some is.1)
number_is bits (Some t) None is = no_number (is_number_text bits t) (number_of t) (λ e. is (a_number_is bits t e))

module _ {E : Type 0} (bits : ℕ) (gives : Text → Result ℕ E → Type 0) (parses : (t : Text) (r : Result ℕ E) → gives t r → ParsesUnsigned bits 10 t r) where
  read_in : (t : Text) (read : Option ℕ) → ReadsOne gives t read → IsNumberIn bits (Some t) read
  read_in t read given1 = grind (arith)

  pub number_read : (text : Option Text) (read : Option ℕ) → (text ≡ None → read ≡ None)
      → ((t : Text) → text ≡ Some t → ReadsOne gives t read) → IsNumberIn bits text read
  number_read text read given1 given2 = search (rules, read_in)
