-- A text has one head, or stops being one at one line.
use Rattle.bp_trace.proofs.Common.{append_assoc, append-nil, ◌≡◌, ◌≢◌, ◌<◌, ◌≤◌, ◌+◌, ◌-◌, ◌^◌, ◌∙◌, inl, inr, ℕ, Bool, true, false, cond, Option, None, Some, List, [], ◌∷◌, ◌++◌, flat_map, map, length, get_or, refl, ap, sym, arith, codes, decimal, rules, AllByRecursion, concat, false≢true, ne_eqb, length-map, bit, BreaksAt, EachFits, Fits, Format, IsAt, lines_of, SpanFits, After, As, Line, Many, Span, Then, breaks_after, has_none, lines_each, ends_at, no_digit_first, regrouped, one_at, within, few_values, SetupOf, setup_of, Call, Head, Version, after_byte, bits, entry, head, may_end, seed, seed_value, settings, version_word, IsHeadOf, setup_of_head, IsEntryName, entry_line, field_line, init_digits, init_line, limit_lines, seed_word, Without, IsWritable, HasHead, version_line, setting_lines, head_lines, head_text}
use Rattle.std.proofs.lemmas.List.{length-append}
use Rattle.bp_text.specs.Formats.{bit_digit, text_of}
use Rattle.bp_text.specs.Pieces.{bit_text}
use Rattle.bp_trace.specs.declared.heads.EntryState.{EntryState}
use Rattle.bp_trace.specs.declared.heads.EntryState.TheVariants.{Start, Within}

-- A property of each element of two lists holds of each of both, and one of both of each.

module _ {X : Type 0} (P : X → Type 0) where
  pub all_of_both : (a b : List X) → AllByRecursion P a → AllByRecursion P b → AllByRecursion P (a ++ b)
  all_of_both [] b p q = q
  all_of_both (x ∷ a) b p q = (p.0, all_of_both a b p.1 q)

  pub all_of_second : (a b : List X) → AllByRecursion P (a ++ b) → AllByRecursion P b
  all_of_second [] b p = p
  all_of_second (x ∷ a) b p = all_of_second a b p.1

pub line_total : (v : Version) (s : SetupOf) → length (head_lines v s) ≡ length s.entries + 5
line_total v s = omega (arith, length-append (map entry_line s.entries) (setting_lines s), length-map s.entries entry_line)

-- The text of a head: its entries, its initial bits and its limits, one after the other.

abbrev pub limits_text : SetupOf → List ℕ
limits_text s = concat (
    codes "contexts " ∷ decimal s.contexts
    ∷ codes "\ncalls " ∷ decimal s.calls
    ∷ codes "\nseed " ∷ seed_word s.seed
    ∷ codes "\n" ∷ [])

abbrev pub setup_text : SetupOf → List ℕ
setup_text s = flat_map entry_line s.entries ++ (init_line s.init ++ limits_text s)

entries_joined : (es : List (List ℕ)) → concat (map entry_line es) ≡ flat_map entry_line es
entries_joined [] = refl
entries_joined (n ∷ es) = ap (λ t. entry_line n ++ t) (entries_joined es)

pub head_parts : (v : Version) (s : SetupOf) → head_text v s ≡ version_line v ++ (flat_map entry_line s.entries ++ (init_line s.init ++ concat (limit_lines s)))
head_parts v s = simp (regrouped, entries_joined)

pub head_joined : (v : Version) (s : SetupOf) → head_text v s ≡ version_line v ++ setup_text s
head_joined v s = simp (regrouped, entries_joined)

digits_joined : (bs : List Bool) → flat_map bit_text bs ≡ map bit_digit bs
digits_joined [] = refl
digits_joined (false ∷ bs) = ap (λ ds. 48 ∷ ds) (digits_joined bs)
digits_joined (true ∷ bs) = ap (λ ds. 49 ∷ ds) (digits_joined bs)

-- if there is a global, its digit and those of the others
pub some_digits : (bs : List Bool) → 0 < length bs → flat_map bit_text bs ≡ init_digits bs
some_digits bs given1 = search (rules, digits_joined)

-- The format's texts are those of the heads. Names have a byte, or may be empty if they begin
-- within one.

abbrev entry_from : EntryState → Format (List ℕ)
entry_from state = Line (After (codes "entry ") (Span after_byte may_end state))

abbrev head_from : EntryState → Format (Version × SetupOf)
head_from state =
    As (λ h. (h.0, (h.1.entries, (h.1.init, (h.1.contexts, (h.1.calls, h.1.seed))))))
    (λ p. (p.0, setup_of p.1.0 p.1.1.0 p.1.1.1.0 p.1.1.1.1.0 p.1.1.1.1.1)) (λ h. refl)
    (Then (Line version_word) (Then (Many (entry_from state)) settings))

same_version : (v : Version) → text_of (Line version_word) v ≡ version_line v
same_version v = grind (arith)

same_entries : (state : EntryState) (es : List (List ℕ)) → flat_map (text_of (entry_from state)) es ≡ flat_map entry_line es
same_entries state [] = refl
same_entries state (n ∷ es) = grind (arith)

same_seed : (o : Option ℕ) → text_of seed_value o ≡ seed_word o
same_seed o = grind (arith)

module _ (s : SetupOf) where
  init_part : (codes "init " ++ text_of bits s.init) ++ codes "\n" ≡ init_line s.init
  init_part = grind (arith)

  limit_part : (word : List ℕ) (n : ℕ) → (word ++ decimal n) ++ codes "\n" ≡ field_line word (decimal n)
  limit_part word n = append_assoc word (decimal n) (codes "\n")

  seed_part : (codes "seed " ++ text_of seed_value s.seed) ++ codes "\n" ≡ field_line (codes "seed ") (seed_word s.seed) ++ []
  seed_part = search (rules, codes, same_seed, append_assoc, append-nil)

  same_settings : text_of settings (s.init, (s.contexts, (s.calls, s.seed))) ≡ init_line s.init ++ concat (limit_lines s)
  same_settings = search (rules, init_part, limit_part, codes, seed_part)

same_head : (state : EntryState) (v : Version) (s : SetupOf) → text_of (head_from state) (v, s) ≡ head_text v s
same_head state v s = (λ i. same_version v i ++ (same_entries state s.entries i ++ same_settings s i)) ∙ sym (head_parts v s)

-- A setup that a head can hold fits.

version_fits : (v : Version) (rest : List ℕ) → Fits (Line version_word) v rest
version_fits v rest = grind (arith)

goes_on : (s : EntryState) (b : ℕ) → b ≢ 10 → after_byte s b ≡ Some Within
goes_on s b other = ap (λ t. cond t None (Some Within)) (ne_eqb b 10 other)

span_fits : (bs rest : List ℕ) → Without 10 bs → SpanFits after_byte may_end Within bs (10 ∷ rest)
span_fits [] rest without = (refl, refl)
span_fits (b ∷ bs) rest without = (Within, goes_on Within b without.0, span_fits bs rest without.1)

name_fits : (name rest : List ℕ) → IsEntryName name → SpanFits after_byte may_end Start name (10 ∷ rest)
name_fits [] rest is = absurd (is.some refl)
name_fits (b ∷ bs) rest is = (Within, goes_on Start b (is.line).0, span_fits bs rest (is.line).1)

-- if the property of the names makes them fit
entries_fit : (state : EntryState) (P : List ℕ → Type 0) → ((name rest : List ℕ) → P name → SpanFits after_byte may_end state name (10 ∷ rest))
    → (es : List (List ℕ)) (rest more : List ℕ) → rest ≡ 105 ∷ more → AllByRecursion P es
    → EachFits (text_of (entry_from state)) (Fits (entry_from state)) es rest
entries_fit state P fit [] rest more is names = λ name after fits e. absurd (omega (arith, ap (λ t. get_or t 0 0) (sym is ∙ e)))
entries_fit state P fit (n ∷ es) rest more is names = (fit n _ names.0, entries_fit state P fit es rest more is names.1)

digit_is : (b : Bool) (n : ℕ) → n < 48 → n ≢ bit_digit b
digit_is b n given1 = grind (arith)

digits_fit : (bs : List Bool) (rest : List ℕ) → EachFits (text_of bit) (Fits bit) bs (10 ∷ rest)
digits_fit [] rest = λ b more fits e. digit_is b 10 (omega arith) (ap (λ t. get_or t 0 0) e)
digits_fit (b ∷ bs) rest = (tt, digits_fit bs rest)

bits_fit : (bs : List Bool) (rest : List ℕ) → Fits bits bs (10 ∷ rest)
bits_fit [] rest = tt
bits_fit (b ∷ bs) rest = ((tt, digits_fit bs rest), λ x more fits e. digit_is b 45 (omega arith) (sym (ap (λ t. get_or t 0 0) e)))

seed_fits : (o : Option ℕ) (rest : List ℕ) → ((n : ℕ) → o ≡ Some n → n < 2 ^ 64) → Fits seed_value o (10 ∷ rest)
seed_fits None rest small = tt
seed_fits (Some n) rest small =
    let fits = small n refl in
    let ends = ends_at 10 rest (inl (omega arith)) in (
      (fits, fits, ends),
      λ x more other e. (no_digit_first (codes "none" ++ more) 110 (codes "one" ++ more) refl (inr (omega arith))).none n (10 ∷ rest) (fits, fits, ends) (sym e),
    )

at_head : (state : EntryState) (P : List ℕ → Type 0) → ((name rest : List ℕ) → P name → SpanFits after_byte may_end state name (10 ∷ rest))
    → (v : Version) (s : SetupOf) (text rest : List ℕ) → AllByRecursion P s.entries → s.contexts < 2 ^ 64 → s.calls < 2 ^ 64
    → ((n : ℕ) → s.seed ≡ Some n → n < 2 ^ 64) → text ≡ head_text v s ++ rest → IsAt (head_from state) text (v, s) rest
at_head state P fit v s text rest names contexts calls seed parts = record {
  fits = (
    version_fits v _,
    (
      entries_fit state P fit s.entries _ _ refl names,
      (
        bits_fit s.init _,
        ((contexts, contexts, ends_at 10 _ (inl (omega arith))), ((calls, calls, ends_at 10 _ (inl (omega arith))), seed_fits s.seed _ seed)),
      ),
    ),
  );
  parts = parts ∙ ap (λ t. t ++ rest) (sym (same_head state v s));
}

head_at : (v : Version) (s : SetupOf) (text rest : List ℕ) → HasHead s → text ≡ head_text v s ++ rest → IsAt head text (v, s) rest
head_at v s text rest has parts = at_head Start IsEntryName name_fits v s text rest has.names has.contexts has.calls has.seed parts

-- so one head begins a text, also of setups that can be written with an empty name
pub one_head : (v w : Version) (s r : SetupOf) (x y : List ℕ) → HasHead s → HasHead r → head_text v s ++ x ≡ head_text w r ++ y → (v ≡ w) × (s ≡ r) × (x ≡ y)
one_head v w s r x y p q e =
    let (same, rest) = one_at (head_at v s _ x p refl) (head_at w r _ y q e) in
    (ap (λ z. z.0) same, ap (λ z. z.1) same, rest)

written_at : (v : Version) (s : SetupOf) (h : List Call) (text rest : List ℕ) → IsWritable s h → text ≡ head_text v s ++ rest
    → IsAt (head_from Within) text (v, s) rest
written_at v s h text rest p parts = at_head Within (Without 10) span_fits v s text rest p.names p.contexts p.calls p.seed parts

pub heads_alike : (v w : Version) (s r : SetupOf) (h g : List Call) (x y : List ℕ) → IsWritable s h → IsWritable r g
    → head_text v s ++ x ≡ head_text w r ++ y → (v ≡ w) × (s ≡ r) × (x ≡ y)
heads_alike v w s r h g x y p q e =
    let (same, rest) = one_at (written_at v s h _ x p refl) (written_at w r g _ y q e) in
    (ap (λ z. z.0) same, ap (λ z. z.1) same, rest)

-- so a text that begins with a head is one at each line
pub no_break : (v : Version) (s : SetupOf) (text rest : List ℕ) (k : ℕ) → HasHead s → text ≡ head_text v s ++ rest → BreaksAt head text k → ⊥
no_break v s text rest k has parts breaks =
    let at = head_at v s text rest has parts in
    (has_none head text k breaks).none (v, s) rest at.fits at.parts

-- And a setup that fits can be held by a head.

span_without : (s : EntryState) (bs rest : List ℕ) → SpanFits after_byte may_end s bs rest → Without 10 bs
span_without s [] rest fits = tt
span_without s (b ∷ bs) rest (t, on, fits) = search (rules, (span_without t bs rest fits))

is_name : (name rest : List ℕ) → SpanFits after_byte may_end Start name rest → IsEntryName name
is_name name rest given1 = search (rules, false≢true, span_without)

are_names : (es : List (List ℕ)) (rest : List ℕ) → EachFits (text_of entry) (Fits entry) es rest → AllByRecursion IsEntryName es
are_names [] rest fits = tt
are_names (n ∷ es) rest fits = (is_name n _ fits.0, are_names es rest fits.1)

small_seed : (o : Option ℕ) (rest : List ℕ) → Fits seed o rest → (n : ℕ) → o ≡ Some n → n < 2 ^ 64
small_seed o rest given1 n given2 = grind (arith)

module _ (text rest : List ℕ) (read : Head) (at : IsAt head text (read.version, setup_of_head read) rest) where
  parts : text ≡ head_text read.version (setup_of_head read) ++ rest
  parts = at.parts ∙ ap (λ t. t ++ rest) (same_head Start read.version (setup_of_head read))

  pub is_head : read.size ≡ length text - length rest → read.lines ≡ length (map (λ n. n.now) read.entries.items) + 5 → IsHeadOf text read
  is_head size lines = record {
    has = record {
      names = are_names _ _ at.fits.1.0;
      contexts = at.fits.1.1.1.0.0;
      calls = at.fits.1.1.1.1.0.0;
      seed = small_seed read.seed _ at.fits.1.1.1.1.1;
    };
    rest = rest;
    parts = parts;
    size = let whole = ap length parts ∙ length-append (head_text read.version (setup_of_head read)) rest in omega (arith, size, whole);
    lines = lines ∙ sym (line_total read.version (setup_of_head read));
  }

-- The line at which a text is no longer a head.

entry_has_byte : (name : List ℕ) → 0 < length (text_of entry name)
entry_has_byte name = omega arith

module _ {text first rest : List ℕ} {v : Version} {names : List (List ℕ)} (version : IsAt (Line version_word) text v first)
    (entries : IsAt (Many entry) first names rest) where
  pub few_entries : length names ≤ length text
  few_entries = let few = few_values entry entry_has_byte first names rest entries in let all = within version in omega (arith, few, all)

  pub breaks_after_entries : (k m : ℕ) → BreaksAt settings rest m → k ≡ length names + 1 + m → BreaksAt head text k
  breaks_after_entries k m breaks number =
      let lines : lines_of (Many entry) names ≡ length names = lines_each (After (codes "entry ") (Span after_byte may_end Start)) names in
      let later = breaks_after settings (length names + m) m entries breaks (omega (arith, lines)) in
      breaks_after (Then (Many entry) settings) k (length names + m) version later (omega (arith, number))
