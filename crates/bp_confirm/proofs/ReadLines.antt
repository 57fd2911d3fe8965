-- A line of steps is read in the same way whatever follows it; and the values on it.
use Rattle.bp_confirm.proofs.Common.{◌≡◌, ◌≢◌, ◌<◌, ◌≤◌, ◌+◌, ◌^◌, ◌∙◌, inl, inr, ℕ, List, [], ◌∷◌, ◌++◌, flat_map, length, length-append, refl, ap, sym, subst, arith, codes, decimal, append_assoc, suc, Some, drop, ◌-◌, Bool, take, rules, EachFits, EndsNumber, Fits, HasNone, IsAt, text_of, AreAll, Lacks, SpanFits, regrouped, Valuation, Location, End, Line, Column, StepLineOf, after_byte, location, may_end, step_line, value, append-nil, take_at, IsNext, next_value, no_next, after_name, values_from, values_in, SaysValues}
use Rattle.bp_text.specs.Formats.Format.{Many}
use Rattle.bp_text.proofs.NumbersInTurn.{ends_at, no_digit_first}
use Rattle.bp_text.proofs.SpansInTurn.{same_stop}
use Rattle.bp_confirm.specs.declared.fields.NameState.TheVariants.{Start}
use Rattle.std.specs.Prelude.{slice_get}
use Rattle.bp_confirm.specs.declared.fields.NameState.{NameState}
use Rattle.bp_confirm.proofs.Elements.{past_none}
use Rattle.bp_confirm.specs.LineReadings.Reading.{Name, Bit}

-- Each line of a step has a byte.

pub step_shorter : {text rest : List ℕ} {x : StepLineOf} → IsAt step_line text x rest → length rest + 1 ≤ length text
step_shorter given1 = search (rules, codes, length-append, decimal)

pub no_step_in_nothing : HasNone step_line []
no_step_in_nothing = record { none = λ x rest fits e. let size = step_shorter (record { fits = fits; parts = e }) in omega (arith, size) }

-- A line can be written before any text, or before none.

same_head : (a b : ℕ) (x y : List ℕ) → a ∷ x ≡ b ∷ y → a ≡ b
same_head a b x y e = cc

values_fit : (vs : Valuation) (rest other : List ℕ) → EachFits (text_of value) (Fits value) vs rest → EachFits (text_of value) (Fits value) vs (10 ∷ other)
values_fit [] rest other fits = λ v more fits e. omega (arith, same_head 10 32 _ _ e)
values_fit (v ∷ vs) rest other fits = ((same_stop after_byte may_end 61 _ _ Start v.0 fits.0.0, tt), values_fit vs rest other fits.1)

-- the text after a location: a space or a line feed
record Ends (rest : List ℕ) : Type 0 where
  byte : ℕ
  more : List ℕ
  is : rest ≡ byte ∷ more
  odd : byte < 48

ends_with : (byte : ℕ) (more : List ℕ) → byte < 48 → Ends (byte ∷ more)
ends_with byte more odd = record { byte = byte; more = more; is = refl; odd = odd }

after_location : (vs : Valuation) (rest : List ℕ) → Ends (flat_map (text_of value) vs ++ 10 ∷ rest)
after_location [] rest = ends_with 10 rest (omega arith)
after_location (v ∷ vs) rest = ends_with 32 _ (omega arith)

ends_number : (rest : List ℕ) → Ends rest → EndsNumber rest
ends_number rest next = subst EndsNumber (sym next.is) (ends_at next.byte next.more (inl next.odd))

no_dash : (n : ℕ) (rest : List ℕ) → n < 2 ^ 32 → EndsNumber rest → (more : List ℕ) → decimal n ++ rest ≢ 45 ∷ more
no_dash n rest short ends more e =
    (no_digit_first (45 ∷ more) 45 more refl (inl (omega arith))).none n rest (omega (arith, short), omega (arith, short), ends) (sym e)

-- its numbers have 32 bits
abbrev pub IsShortLocation : Location → Type 0
IsShortLocation End = Unit {0}
IsShortLocation (Line n) = n < 2 ^ 32
IsShortLocation (Column n m) = (n < 2 ^ 32) × (m < 2 ^ 32)

location_fits : (x : Location) (rest : List ℕ) → Ends rest → IsShortLocation x → Fits location x rest
location_fits End rest next short = tt
location_fits (Line n) rest next short =
    let ends = ends_number rest next in (
      ((short, omega (arith, short), ends), (tt, λ m more fits e. omega (arith, next.odd, same_head next.byte 58 _ _ (sym next.is ∙ e)))),
      λ x more fits e. no_dash n rest short ends more (simp regrouped at e),
    )
location_fits (Column n m) rest next short =
    let ends = ends_number rest next in
    let colon = ends_at 58 (decimal m ++ rest) (inr (omega arith)) in (
      ((short.0, omega (arith, short), colon), (short.1, omega (arith, short), ends)),
      λ x more fits e. no_dash n (58 ∷ (decimal m ++ rest)) short.0 colon more (simp regrouped at e),
    )

short_location : (x : Location) (rest : List ℕ) → Fits location x rest → IsShortLocation x
short_location x rest given1 = grind (arith)

pub line_fits : (x : StepLineOf) (rest other : List ℕ) → x.thread < 2 ^ 32 → IsShortLocation x.location → EachFits (text_of value) (Fits value) x.values rest
    → Fits step_line x other
line_fits x rest other thread short values =
    let next = subst Ends (sym (append_assoc (flat_map (text_of value) x.values) (10 ∷ []) other)) (after_location x.values other) in (
      (thread, omega (arith, thread), ends_at 32 _ (inl (omega arith))),
      (location_fits x.location _ next short, values_fit x.values rest other values),
    )

fits_before : (x : StepLineOf) (rest other : List ℕ) → Fits step_line x rest → Fits step_line x other
fits_before x rest other fits = line_fits x _ other fits.0.0 (short_location x.location _ fits.1.0) fits.1.1

-- a line is read before any other text as before this one
pub line_before : {x : StepLineOf} {own rest text other : List ℕ} → IsAt step_line own x rest → text ≡ text_of step_line x ++ other → IsAt step_line text x other
line_before {x} {rest = rest} {other = other} at parts = record { fits = fits_before x rest other at.fits; parts = parts }

-- The values on a line, and the part of a text with them.

name_read : (front name : List ℕ) (s : NameState) (rest : List ℕ) → SpanFits after_byte may_end s name (61 ∷ rest)
    → values_from (Name front s) (name ++ 61 ∷ rest) ≡ values_from (Bit (front ++ name)) rest
name_read front [] s rest fits =
    ap (λ o. values_from (after_name front 61 o) rest) fits.1 ∙ ap (λ n. values_from (Bit n) rest) (sym (append-nil front))
name_read front (c ∷ name) s rest (t, on, fits) =
    ap (λ o. values_from (after_name front c o) (name ++ 61 ∷ rest)) on ∙ name_read (front ++ c ∷ []) name t rest fits ∙ simp regrouped

value_read : (v : List ℕ × Bool) (rest : List ℕ) → Fits value v rest → values_in (text_of value v ++ rest) ≡ v ∷ values_in rest
value_read v rest given1 = search (rules, regrouped, name_read)

values_read : (vs : Valuation) → EachFits (text_of value) (Fits value) vs [] → values_in (flat_map (text_of value) vs) ≡ vs
values_read [] fits = refl
values_read (v ∷ vs) fits =
    let parts : flat_map (text_of value) vs ++ [] ≡ flat_map (text_of value) vs = append-nil _ in
    ap (λ t. values_in (text_of value v ++ t)) (sym parts)
    ∙ value_read v (flat_map (text_of value) vs ++ []) fits.0
    ∙ ap (λ t. v ∷ values_in t) parts
    ∙ ap (λ ws. v ∷ ws) (values_read vs fits.1)

no_value : Lacks (text_of value) (Fits value) []
no_value v rest fits e = absurd cc

fit_alone : (vs : Valuation) (rest : List ℕ) → EachFits (text_of value) (Fits value) vs rest → EachFits (text_of value) (Fits value) vs []
fit_alone [] rest fits = no_value
fit_alone (v ∷ vs) rest fits = ((same_stop after_byte may_end 61 _ _ Start v.0 fits.0.0, tt), fit_alone vs rest fits.1)

-- the part of a text that its values are
module _ {text own rest : List ℕ} {vs : Valuation} (at : IsAt (Many value) text vs rest) (own_is : own ≡ take (length text - length rest) text) where
  part : own ≡ flat_map (text_of value) vs
  part = search (rules, length-append, take_at)

  values_are : values_in own ≡ vs
  values_are = ap values_in part ∙ values_read vs (fit_alone vs rest at.fits)

  pub says : SaysValues own
  says = subst (AreAll value own) (sym values_are) (record { fits = fit_alone vs rest at.fits; parts = part ∙ sym (append-nil (flat_map (text_of value) vs)) })

  pub values_at : IsAt (Many value) text (values_in own) rest
  values_at = subst (λ ws. IsAt (Many value) text ws rest) (sym values_are) at

pub value_shorter : {text rest : List ℕ} {v : List ℕ × Bool} → IsAt value text v rest → length rest + 1 ≤ length text
value_shorter {rest} {v} at = let size = ap length at.parts ∙ length-append (text_of value v) rest in omega (arith, size)

-- the first values of a text are read, and this is the rest
pub record AreReadTo (text rest : List ℕ) (n : ℕ) : Type 0 where
  pub all : AreAll value rest (drop n (values_in text))
  pub few : n + length rest ≤ length text

module _ {text rest : List ℕ} {n : ℕ} (read : AreReadTo text rest n) where
  pub all_read : HasNone value rest → take n (values_in text) ≡ values_in text
  all_read none = past_none (values_in text) n (no_next (values_in text) n n read.all none (omega arith))

  module _ {v : List ℕ × Bool} {more : List ℕ} (at : IsAt value rest v more) where
    next : IsNext value (values_in text) n v more
    next = next_value (values_in text) n read.all at

    pub value_there : slice_get (values_in text) n ≡ Some v
    value_there = next.at

    pub one_more_read : AreReadTo text more (n + 1)
    one_more_read =
        let one : suc n ≡ n + 1 = omega arith in
        let shorter = value_shorter at in
        record {
          all = subst (λ k. AreAll value more (drop k (values_in text))) one next.rest;
          few = omega (arith, read.few, shorter);
        }
