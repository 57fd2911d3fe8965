-- A text begins with at most one number; and the first bytes of a text that are digits.
use Rattle.bp_text.proofs.Common.{append-nil, ◌≡◌, ◌≢◌, ◌⊎◌, inl, inr, ℕ, ◌+◌, ◌-◌, ◌*◌, ◌<◌, ◌≤◌, ◌^◌, List, [], ◌∷◌, ◌++◌, length, length-append, take, get_or, refl, sym, ap, ◌∙◌, arith, decimal, rules, cases_lt, IsNoNumber, IsAt, HasNone, EndsNumber, Number}
use Rattle.std.specs.Str.Parse.{AllDigits, digits_value}
use Rattle.std.proofs.lemmas.Int.Digits.{digits_push, digits_value_push}
use Rattle.std.proofs.lemmas.Str.{digit_value_digit}
use Rattle.std.proofs.lemmas.Str.Parse.{IsNumeralModel, numerals_by_value, tells_digits, digit_from_value, digits_value-take-le}
use Rattle.std.proofs.lemmas.Fmt.{decimal_digit, decimal_injective, decimal_nonempty, decimal-digits_value, digits_decimal, digits_value-decimal, first_decimal}
use Rattle.bp_text.proofs.PartsOfTexts.{regrouped}

-- Decimal digits are numerals of their values.
pub numerals : IsNumeralModel (AllDigits 10) (digits_value 10)
numerals = numerals_by_value (AllDigits 10) tells_digits

same_head : (a b : ℕ) (x y : List ℕ) → a ∷ x ≡ b ∷ y → (a ≡ b) × (x ≡ y)
same_head a b x y e = (cc, cc)

-- this byte ends a number
abbrev pub IsNoDigit : ℕ → Type 0
IsNoDigit byte = (byte < 48) ⊎ (57 < byte)

pub ends_at : (c : ℕ) (more : List ℕ) → IsNoDigit c → EndsNumber (c ∷ more)
ends_at c more odd = λ d others low high e. by_odd d odd (same_head c d more others e).0 low high
  where
    by_odd : (d : ℕ) → IsNoDigit c → c ≡ d → 47 < d → d < 58 → ⊥
    by_odd d (inl under) same low high = omega (arith, under, same, low)
    by_odd d (inr over) same low high = omega (arith, over, same, high)

pub ends_empty : (rest : List ℕ) → length rest ≡ 0 → EndsNumber rest
ends_empty rest none d more low high e = omega (arith, none, ap length e)

decimal_digits : (n : ℕ) → n < 2 ^ 64 → AllDigits 10 (decimal n)
decimal_digits n fits = digits_decimal numerals n fits

no_first_digit : (c : ℕ) (cs rest : List ℕ) → AllDigits 10 (c ∷ cs) → EndsNumber rest → (more : List ℕ) → rest ≢ c ∷ more
no_first_digit c cs rest given1 given2 more = grind (arith)

-- the digits up to the first byte that is none
one_run : (a b x y : List ℕ) → AllDigits 10 a → AllDigits 10 b → EndsNumber x → EndsNumber y → a ++ x ≡ b ++ y → (a ≡ b) × (x ≡ y)
one_run [] [] x y p q s r e = (refl, e)
one_run [] (d ∷ b) x y p q s r e = absurd (no_first_digit d b x q s (b ++ y) e)
one_run (c ∷ a) [] x y p q s r e = absurd (no_first_digit c a y p r (a ++ x) (sym e))
one_run (c ∷ a) (d ∷ b) x y p q s r e =
    let heads = same_head c d (a ++ x) (b ++ y) e in
    let rest = one_run a b x y p.1 q.1 s r heads.1 in
    (cc (heads.0, rest.0), rest.1)

pub one_number : (m n : ℕ) (x y : List ℕ) → m < 2 ^ 64 → n < 2 ^ 64 → EndsNumber x → EndsNumber y → decimal m ++ x ≡ decimal n ++ y → (m ≡ n) × (x ≡ y)
one_number m n x y given1 given2 given3 given4 given5 = search (rules, one_run, decimal, decimal_digits, decimal_injective)

-- digits at the front of a text are those of the number that begins it
run_begins : (a b x y : List ℕ) → AllDigits 10 a → EndsNumber y → a ++ x ≡ b ++ y → (tail : List ℕ) × (b ≡ a ++ tail)
run_begins [] b x y p ends e = (b, refl)
run_begins (c ∷ a) [] x y p ends e = absurd (no_first_digit c a y p ends (a ++ x) (sym e))
run_begins (c ∷ a) (d ∷ b) x y p ends e =
    let heads = same_head c d (a ++ x) (b ++ y) e in
    let (tail, is) = run_begins a b x y p.1 ends heads.1 in
    (tail, cc (heads.0, is))

take_run : (a b : List ℕ) → take (length a) (a ++ b) ≡ a
take_run [] b = refl
take_run (c ∷ a) b = ap (λ xs. c ∷ xs) (take_run a b)

zero_first : (n : ℕ) → n < 2 ^ 64 → get_or (decimal n) 0 0 ≡ 48 → length (decimal n) ≡ 1
zero_first n fits e = go (cases_lt 0 n)
  where
    go : (0 < n) ⊎ (n ≤ 0) → length (decimal n) ≡ 1
    go (inl more) = absurd (omega (arith, first_decimal n more fits, e))
    go (inr none) = let zero : n ≡ 0 = omega arith in ap (λ k. length (decimal k)) zero ∙ ap length (decimal_digit 0 (omega arith))

-- the text begins with digits of this value, the first of them no leading zero
pub record IsFront (text : List ℕ) (value : ℕ) (rest : List ℕ) : Type 0 where
  pub digits : List ℕ
  pub parts : text ≡ digits ++ rest
  pub all : AllDigits 10 digits
  pub value_is : value ≡ digits_value 10 digits
  pub short : value < 2 ^ 64
  pub some : 0 < length digits
  pub plain : get_or digits 0 0 ≡ 48 → length digits ≡ 1

module _ (text : List ℕ) where
  pub no_number_of_none : length text ≡ 0 → HasNone (Number (2 ^ 64)) text
  no_number_of_none given1 = search (rules, length-append, decimal, decimal_nonempty)

  pub no_digit_first : (c : ℕ) (rest : List ℕ) → text ≡ c ∷ rest → IsNoDigit c → HasNone (Number (2 ^ 64)) text
  no_digit_first c others is odd = record { none = λ n rest fits e. by_digits (decimal n) rest (decimal_digits n fits.0) (decimal_nonempty n fits.0) e }
    where
      by_digits : (ds rest : List ℕ) → AllDigits 10 ds → 0 < length ds → text ≡ ds ++ rest → ⊥
      by_digits [] rest all some e = omega (arith, some)
      by_digits (d ∷ ds) rest all some e =
          let range = digit_from_value d all.0 in
          ends_at c others odd d (ds ++ rest) (omega (arith, range)) (omega (arith, range)) (sym is ∙ e)

  pub first_front : (c : ℕ) (rest : List ℕ) → text ≡ c ∷ rest → 48 ≤ c → c ≤ 57 → IsFront text (c - 48) rest
  first_front c rest is low high =
      let digit = digit_value_digit c (low, high) in
      record {
        digits = c ∷ [];
        parts = is;
        all = (omega (arith, digit, high), tt);
        value_is = omega (arith, digit);
        short = omega (arith, high);
        some = omega arith;
        plain = λ zero. refl;
      }

  module _ (value : ℕ) (rest : List ℕ) (front : IsFront text value rest) where
    is_decimal : decimal value ≡ front.digits
    is_decimal =
        ap decimal front.value_is ∙ decimal-digits_value numerals front.digits front.all front.some front.plain (omega (arith, front.short, front.value_is))

    pub number_there : EndsNumber rest → IsAt (Number (2 ^ 64)) text value rest
    number_there ends = record { fits = (front.short, front.short, ends); parts = front.parts ∙ ap (λ ds. ds ++ rest) (sym is_decimal) }

    module _ (c : ℕ) (more : List ℕ) (is : rest ≡ c ∷ more) (low : 48 ≤ c) (high : c ≤ 57) where
      all_longer : AllDigits 10 (front.digits ++ c ∷ [])
      all_longer = digits_push 10 front.digits c front.all (omega (arith, digit_value_digit c (low, high)))

      longer_parts : text ≡ (front.digits ++ c ∷ []) ++ more
      longer_parts = front.parts ∙ ap (λ xs. front.digits ++ xs) is ∙ simp regrouped

      longer_value : digits_value 10 (front.digits ++ c ∷ []) ≡ value * 10 + (c - 48)
      longer_value = omega (arith, digits_value_push 10 front.digits c, front.value_is, digit_value_digit c (low, high))

      begins : (n : ℕ) (others : List ℕ) → EndsNumber others → text ≡ decimal n ++ others → (tail : List ℕ) × (decimal n ≡ (front.digits ++ c ∷ []) ++ tail)
      begins n others ends e = run_begins (front.digits ++ c ∷ []) (decimal n) more others all_longer ends (sym longer_parts ∙ e)

      pub too_large : 2 ^ 64 ≤ value * 10 + (c - 48) → HasNone (Number (2 ^ 64)) text
      too_large large = record {
        none = λ n others fits e.
            let (tail, is) = begins n others fits.2 e in
            let whole = digits_value-decimal numerals n fits.0 in
            let part = digits_value-take-le 10 (decimal n) (length (front.digits ++ c ∷ [])) (omega arith) in
            let same = ap (λ ds. digits_value 10 (take (length (front.digits ++ c ∷ [])) ds)) is ∙ ap (digits_value 10) (take_run (front.digits ++ c ∷ []) tail) in
            omega (arith, large, whole, part, same, longer_value, fits.0);
      }

      pub leading_zero : value ≡ 0 → HasNone (Number (2 ^ 64)) text
      leading_zero zero = record {
        none = λ n others fits e.
            let (tail, is) = begins n others fits.2 e in
            let padded = padded_by tail (decimal n) is in
            omega (arith, padded.0, zero_first n fits.0 padded.1);
      }
        where
          first_zero : (ds : List ℕ) → AllDigits 10 ds → 0 < length ds → digits_value 10 ds ≡ 0 → (tail : List ℕ) → get_or (ds ++ tail) 0 0 ≡ 48
          first_zero [] all some none tail = absurd (omega (arith, some))
          first_zero (d ∷ ds) all some none tail =
              let range = digit_from_value d all.0 in
              omega (arith, digit_value_digit d range, digits_value-take-le 10 (d ∷ ds) 1 (omega arith), none, range.0, range.1)

          padded_by : (tail ds : List ℕ) → ds ≡ (front.digits ++ c ∷ []) ++ tail → (1 < length ds) × (get_or ds 0 0 ≡ 48)
          padded_by tail ds e =
              let whole = simp regrouped at e in (
                omega (arith, ap length whole, length-append front.digits (c ∷ tail), front.some),
                ap (λ xs. get_or xs 0 0) whole ∙ first_zero front.digits front.all front.some (sym front.value_is ∙ zero) (c ∷ tail),
              )

      pub more_front : (next : ℕ) → next ≡ value * 10 + (c - 48) → next < 2 ^ 64 → value ≢ 0 → IsFront text next more
      more_front next next_is short some = record {
        digits = front.digits ++ c ∷ [];
        parts = longer_parts;
        all = all_longer;
        value_is = next_is ∙ sym longer_value;
        short = short;
        some = omega (arith, length-append front.digits (c ∷ []));
        plain = λ zero. absurd (some (no_value front.digits front.value_is front.some front.plain zero));
      }
        where
          no_value : (ds : List ℕ) → value ≡ digits_value 10 ds → 0 < length ds → (get_or ds 0 0 ≡ 48 → length ds ≡ 1)
              → get_or (ds ++ c ∷ []) 0 0 ≡ 48 → value ≡ 0
          no_value [] is some plain zero = absurd (omega (arith, some))
          no_value (d ∷ []) is some plain zero = is ∙ ap (λ x. digits_value 10 (x ∷ [])) zero
          no_value (d ∷ e ∷ ds) is some plain zero = absurd (omega (arith, plain zero))

-- a number below a bound is a long one that is
module _ (bound : ℕ) {text : List ℕ} where
  module _ {n : ℕ} {rest : List ℕ} (at : IsAt (Number (2 ^ 64)) text n rest) where
    pub not_below : bound ≤ n → HasNone (Number bound) text
    not_below high = record {
      none = λ m others fits e.
          let same = (one_number n m rest others at.fits.0 fits.1 at.fits.2 fits.2 (sym at.parts ∙ e)).0 in
          omega (arith, same, fits.0, high);
    }

-- A whole text that is a number.

pub no_whole_number : {digits : List ℕ} → HasNone (Number (2 ^ 64)) digits → IsNoNumber digits
no_whole_number lacks = λ n fits e. lacks.none n [] (fits, fits, ends_empty [] refl) (e ∙ sym (append-nil (decimal n)))

pub more_than_number : {digits rest : List ℕ} {n : ℕ} → IsAt (Number (2 ^ 64)) digits n rest → rest ≢ [] → IsNoNumber digits
more_than_number {rest = rest} {n} at some = λ m fits e.
    some (sym (one_number m n [] rest fits at.fits.1 (ends_empty [] refl) at.fits.2 (append-nil (decimal m) ∙ sym e ∙ at.parts)).1)
