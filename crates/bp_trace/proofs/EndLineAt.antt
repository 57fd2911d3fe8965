-- The decimals of any length, and the end line, that begin a text.
use Rattle.bp_trace.proofs.Common.{None, true, false, cond, ◌==◌, ◌≡◌, ◌≢◌, ℕ, ◌+◌, ◌-◌, ◌<◌, ◌≤◌, Bool, List, [], ◌∷◌, ◌++◌, length, drop, Some, ap, sym, ◌∙◌, arith, length-append, decimal, take, get_or, refl, subst, codes, map, flat_map, Option, slice_get, rules, drop_at, map-append, take_more, AllDigits, digit_from_value, flat_map-append, regrouped, both_added, flat_map_at, Reply, MAX_THREADS, Call, HasNone, IsAt, SpanFits, one_at, after_digit, end_numbers, is_whole, more_digits, thread_field, HasNoTail, HasNoCall, IsEndAt, HasNoEnd, IsSymbolAt, HasSymbols, IsBodyLineAt, HasNoBodyLine, nat_tests, false≢true, IsDecimal, IsEndLine, IsBodyLine, Two, Symbol, Piece, call_of, symbol_text, piece_line, Version}
use Rattle.std.proofs.lemmas.Option.{same_Some}
use Rattle.bp_trace.specs.declared.end_lines.DecimalState.{DecimalState}
use Rattle.bp_trace.specs.declared.end_lines.DecimalState.TheVariants.{Start, Zero, Digits}
use Rattle.std.specs.Char.{digit_value, is_ascii_digit}
use Rattle.std.proofs.lemmas.Str.{digit_value_digit}
use Rattle.bp_trace.proofs.OneText.{call_then, front_cut, piece_then, symbols_alike, no_symbol_at_end, number_begins, one_call_line, one_piece_line}
use Rattle.bp_trace.proofs.ScheduleLines.{thread_parts, thread_there}

-- The thread that begins a text, with a space after it, and the attempt that does.

module _ (n : ℕ) (text : List ℕ) (few : n ≤ MAX_THREADS) where
  there : (i : ℕ) (more : List ℕ) → i < n → text ≡ decimal i ++ 32 ∷ more → IsAt (thread_field n) text i more
  there i more below e = thread_there n (omega (arith, few)) text i more below e

  pub no_thread_no_call : HasNone (thread_field n) text → HasNoCall n text
  no_thread_no_call lacks = λ x more below e.
      let at = there x.thread _ below (e ∙ call_then x more) in
      lacks.none x.thread _ at.fits at.parts

  module _ (t : ℕ) (rest : List ℕ) (at : IsAt (thread_field n) text t rest) where
    pub begins_rest : text ≡ decimal t ++ 32 ∷ rest
    begins_rest = thread_parts n (omega (arith, few)) text t rest at

    pub one_thread : (i : ℕ) (more : List ℕ) → i < n → text ≡ decimal i ++ 32 ∷ more → (t ≡ i) × (rest ≡ more)
    one_thread i more below e = one_at at (there i more below e)

    pub size_of_front : length text ≡ length (decimal t) + 1 + length rest
    size_of_front = let whole = ap length begins_rest in omega (arith, whole, length-append (decimal t) (32 ∷ rest))

    pub no_tail_no_call : HasNoTail rest → HasNoCall n text
    no_tail_no_call none = λ x more below e. none x.bit x.reply more (one_thread x.thread _ below (e ∙ call_then x more)).1

    module _ (bit : Bool) (reply : Reply) where
      abbrev call : Call
      call = record { thread = t; bit = bit; reply = reply }

-- ---- a decimal of any length

digit_on : (b : ℕ) → 48 ≤ b → b ≤ 57 → more_digits b ≡ Some Digits
digit_on b low high = let digit : is_ascii_digit b ≡ true = grind (arith, nat_tests) in ap (λ t. cond t (Some Digits) None) digit

no_digit_on : (b : ℕ) → b < 48 → more_digits b ≡ None
no_digit_on b low = let none : is_ascii_digit b ≡ false = grind (arith, nat_tests) in ap (λ t. cond t (Some Digits) None) none

only_digits : (b : ℕ) (t : DecimalState) → more_digits b ≡ Some t → (digit_value b < 10) × (Digits ≡ t)
only_digits b t on = by_test (is_ascii_digit b) refl
  where
    by_test : (k : Bool) → is_ascii_digit b ≡ k → (digit_value b < 10) × (Digits ≡ t)
    by_test true e =
        let low : 48 ≤ b = grind (arith, nat_tests) in
        let high : b ≤ 57 = grind (arith, nat_tests) in
        let both : Some Digits ≡ Some t = sym (ap (λ k. cond k (Some Digits) None) e) ∙ on in
        (omega (arith, digit_value_digit b (low, high), high), cc)
    by_test false e = absurd (let both : None ≡ Some t = sym (ap (λ k. cond k (Some Digits) None) e) ∙ on in cc)

digits_fit : (ds : List ℕ) (byte : ℕ) (rest : List ℕ) → byte < 48 → AllDigits 10 ds → SpanFits after_digit is_whole Digits ds (byte ∷ rest)
digits_fit [] byte rest low all = (refl, no_digit_on byte low)
digits_fit (d ∷ ds) byte rest low all = search (rules, (digits_fit ds byte rest low all.1), digit_from_value, digit_on)

decimal_fits : (ds : List ℕ) (byte : ℕ) (rest : List ℕ) → byte < 48 → IsDecimal ds → SpanFits after_digit is_whole Start ds (byte ∷ rest)
decimal_fits [] byte rest low is = absurd (omega (arith, is.some))
decimal_fits (d ∷ ds) byte rest low is = by_zero (d == 48) refl
  where
    by_zero : (b : Bool) → (d == 48) ≡ b → SpanFits after_digit is_whole Start (d ∷ ds) (byte ∷ rest)
    by_zero true e =
        let alone = is.first (grind (arith, nat_tests)) in
        (Zero, ap (λ t. cond t (Some Zero) (more_digits d)) e, zero_alone ds (omega (arith, alone)))
      where
        zero_alone : (xs : List ℕ) → length xs ≡ 0 → SpanFits after_digit is_whole Zero xs (byte ∷ rest)
        zero_alone [] none = (refl, refl)
        zero_alone (x ∷ xs) none = absurd (omega (arith, none))
    by_zero false e =
        let range = digit_from_value d is.each.0 in
        let on = digit_on d (omega (arith, range)) (omega (arith, range)) in
        (Digits, ap (λ t. cond t (Some Zero) (more_digits d)) e ∙ on, digits_fit ds byte rest low is.each.1)

of_digits : (ds rest : List ℕ) → SpanFits after_digit is_whole Digits ds rest → AllDigits 10 ds
of_digits [] rest fits = tt
of_digits (d ∷ ds) rest (t, on, fits) =
    let is = only_digits d t on in
    (is.0, of_digits ds rest (subst (λ z. SpanFits after_digit is_whole z ds rest) (sym is.1) fits))

none_after_zero : (ds rest : List ℕ) → SpanFits after_digit is_whole Zero ds rest → [] ≡ ds
none_after_zero [] rest fits = refl
none_after_zero (d ∷ ds) rest (t, on, fits) = absurd cc

decimal_of : (ds rest : List ℕ) → SpanFits after_digit is_whole Start ds rest → IsDecimal ds
decimal_of [] rest fits = absurd (false≢true fits.0)
decimal_of (d ∷ ds) rest (t, on, fits) = by_zero (d == 48) refl
  where
    by_zero : (b : Bool) → (d == 48) ≡ b → IsDecimal (d ∷ ds)
    by_zero true e =
        let both : Some Zero ≡ Some t = sym (ap (λ k. cond k (Some Zero) (more_digits d)) e) ∙ on in
        let state : t ≡ Zero = cc in
        let zero : d ≡ 48 = grind (arith, nat_tests) in
        let none = none_after_zero ds rest (subst (λ z. SpanFits after_digit is_whole z ds rest) state fits) in
        record {
          some = omega arith;
          each = (omega (arith, digit_value_digit d (omega (arith, zero), omega (arith, zero)), zero), subst (AllDigits 10) none tt);
          first = λ _. ap (λ xs. length (d ∷ xs)) (sym none);
        }
    by_zero false e =
        let is = only_digits d t (sym (ap (λ k. cond k (Some Zero) (more_digits d)) e) ∙ on) in
        record {
          some = omega arith;
          each = (is.0, of_digits ds rest (subst (λ z. SpanFits after_digit is_whole z ds rest) (sym is.1) fits));
          first = λ zero. absurd (grind (arith, nat_tests));
        }

-- ---- the end line

end_there : (line more text : List ℕ) (e : IsEndLine line) → text ≡ line ++ more → IsAt end_numbers text (e.calls, e.left_live) more
end_there line more text e given1 = search (rules, decimal_fits, regrouped)

pub no_end : {text : List ℕ} → HasNone end_numbers text → HasNoEnd text
no_end {text} lacks = λ line more e begins. let at = end_there line more text e begins in lacks.none (e.calls, e.left_live) more at.fits at.parts

pub has_end : {text rest : List ℕ} {x : List ℕ × List ℕ} → IsAt end_numbers text x rest → IsEndAt text (length text - length rest)
has_end {text} {rest} {x} at =
    let line = codes "end " ++ (x.0 ++ (codes " " ++ (x.1 ++ codes "\n"))) in
    let begins : text ≡ line ++ rest = at.parts ∙ simp regrouped in
    record {
      line = line;
      more = rest;
      is_end = record { calls = x.0; left_live = x.1; first = decimal_of x.0 _ at.fits.0; second = decimal_of x.1 _ at.fits.1; is = refl };
      begins = begins;
      size_is = let size = ap length begins ∙ length-append line rest in omega (arith, size);
    }

-- two end lines that begin one text are one
pub one_end_line : (line other x y : List ℕ) → IsEndLine line → IsEndLine other → line ++ x ≡ other ++ y → (line ≡ other) × (x ≡ y)
one_end_line line other x y p q e =
    let (same, rest) = one_at (end_there line x _ p refl) (end_there other y _ q e) in
    (p.is ∙ ap (λ (z : List ℕ × List ℕ). codes "end " ++ (z.0 ++ (codes " " ++ (z.1 ++ codes "\n")))) same ∙ sym q.is, rest)

-- The line of attempts that begins a text.

-- ---- the symbols

-- the symbols that were read at the front of a text, up to this place
pub record HasRead (i : ℕ) (text : List ℕ) (old new : List Call) (size : ℕ) : Type 0 where
  pub symbols : List Symbol
  pub within : size ≤ length text
  pub added : new ≡ old ++ map (call_of i) symbols
  pub begins : text ≡ flat_map symbol_text symbols ++ drop size text
  pub size_is : size ≡ length (flat_map symbol_text symbols)

module _ (i : ℕ) (text : List ℕ) (old : List Call) where
  module _ (new : List Call) (size : ℕ) (read : HasRead i text old new size) where
    pub symbol_read : (bit : Bool) (reply : Reply) (newer : List Call) → IsSymbolAt (drop size text) (bit, reply)
        → newer ≡ new ++ record { thread = i; bit = bit; reply = reply } ∷ [] → HasRead i text old newer (size + 2)
    symbol_read bit reply newer pair added =
        let symbol : Symbol = record { bit = bit; reply = reply } in
        let before = flat_map symbol_text read.symbols in
        let now = before ++ symbol_text symbol in
        let texts : flat_map symbol_text (read.symbols ++ symbol ∷ []) ≡ now = flat_map-append symbol_text read.symbols (symbol ∷ []) in
        let long : length now ≡ size + 2 = omega (arith, read.size_is, length-append before (symbol_text symbol)) in
        let whole : text ≡ now ++ pair.0 = read.begins ∙ ap (λ t. before ++ t) pair.1 ∙ simp regrouped in
        let rest : drop (size + 2) text ≡ pair.0 = ap (drop (size + 2)) whole ∙ drop_at now pair.0 (size + 2) long in
        record {
          symbols = read.symbols ++ symbol ∷ [];
          within = omega (arith, long, ap length whole, length-append now pair.0);
          added = both_added old new newer _ _ _ added read.added (sym (map-append (call_of i) read.symbols (symbol ∷ [])));
          begins = whole ∙ ap (λ t. t ++ pair.0) (sym texts) ∙ ap (λ t. flat_map symbol_text (read.symbols ++ symbol ∷ []) ++ t) (sym rest);
          size_is = sym long ∙ ap length (sym texts);
        }

-- ---- the line of a piece

-- the byte after a front of a text
byte_after : (front more : List ℕ) (d : ℕ) → slice_get (front ++ more) (length front) ≡ Some d → more ≡ d ∷ drop 1 more
byte_after [] [] d e = absurd (cc)
byte_after [] (m ∷ ms) d e = ap (λ x. x ∷ ms) (same_Some m d e)
byte_after (f ∷ fs) more d e = byte_after fs more d e

reads_after : (front more : List ℕ) (d : ℕ) → slice_get (front ++ d ∷ more) (length front) ≡ Some d
reads_after [] more d = refl
reads_after (f ∷ fs) more d = reads_after fs more d

module _ (n : ℕ) (last : Option ℕ) (text : List ℕ) where
  pub no_thread_no_piece : n ≤ MAX_THREADS → HasNone (thread_field n) text → HasNoBodyLine Two n last text
  no_thread_no_piece few lacks = λ line calls more b begins.
      let whole = begins ∙ ap (λ l. l ++ more) b.is ∙ piece_then b.piece more in
      let at = there n text few b.piece.thread _ b.thread whole in
      lacks.none b.piece.thread _ at.fits at.parts

  module _ (few : n ≤ MAX_THREADS) (t : ℕ) (rest : List ℕ) (at : IsAt (thread_field n) text t rest) where
    -- the thread of a piece that begins the text, and the text after it
    same_thread : (p : Piece) (more : List ℕ) → p.thread < n → text ≡ piece_line p ++ more
        → (t ≡ p.thread) × (rest ≡ flat_map symbol_text (p.first ∷ p.others) ++ 10 ∷ more)
    same_thread p more below begins =
        one_thread n text few t rest at p.thread _ below (begins ∙ piece_then p more)

    pub no_piece_of_last : last ≡ Some t → HasNoBodyLine Two n last text
    no_piece_of_last is = λ line calls more b begins.
        let same = same_thread b.piece more b.thread (begins ∙ ap (λ l. l ++ more) b.is) in
        b.other (ap Some (sym same.0) ∙ sym is)

    module _ (calls : List Call) (size : ℕ) (read : HasSymbols t rest [] calls size) where
      pub no_piece : (0 < size → slice_get rest size ≡ Some 10 → ⊥) → HasNoBodyLine Two n last text
      no_piece none = λ line others more b begins.
          let symbols = b.piece.first ∷ b.piece.others in
          let same = same_thread b.piece more b.thread (begins ∙ ap (λ l. l ++ more) b.is) in
          let alike = symbols_alike read.symbols symbols read.more (10 ∷ more) read.ends (no_symbol_at_end more) (sym read.begins ∙ same.1) in
          let long : size ≡ length (flat_map symbol_text symbols) = read.size_is ∙ ap (λ ts. length (flat_map symbol_text ts)) alike.0 in
          none (omega (arith, long))
          (ap (λ text. slice_get text size) same.1 ∙ ap (slice_get (flat_map symbol_text symbols ++ 10 ∷ more)) long
          ∙ reads_after (flat_map symbol_text symbols) more 10)

      pub has_piece : last ≢ Some t → 0 < size → slice_get rest size ≡ Some 10 → IsBodyLineAt Two n last text calls (length text - length rest + size + 1)
      has_piece other some ended = go read.symbols read.more read.added read.begins read.size_is
        where
          go : (ts : List Symbol) (more : List ℕ) → calls ≡ map (call_of t) ts → rest ≡ flat_map symbol_text ts ++ more
              → size ≡ length (flat_map symbol_text ts)
              → IsBodyLineAt Two n last text calls (length text - length rest + size + 1)
          go [] more added begins long = absurd (omega (arith, long, some))
          go (u ∷ us) more added begins long =
              let symbols = flat_map symbol_text (u ∷ us) in
              let p : Piece = record { thread = t; first = u; others = us } in
              let at_end : slice_get (symbols ++ more) (length symbols) ≡ Some 10 =
              ap (slice_get (symbols ++ more)) (sym long) ∙ ap (λ text. slice_get text size) (sym begins) ∙ ended in
              let line = byte_after symbols more 10 at_end in
              record {
                line = piece_line p;
                more = drop 1 more;
                is_line = record { piece = p; thread = at.fits.0; other = λ e. other (sym e); is = refl; holds = added };
                begins =
                    begins_rest n text few t rest at
                    ∙ ap (λ r. decimal t ++ 32 ∷ r) (begins ∙ ap (λ r. symbols ++ r) line)
                    ∙ sym (piece_then p (drop 1 more));
                size_is =
                    let front = size_of_front n text few t rest at in
                    omega (arith, long, front, length-append (decimal t) (32 ∷ (symbols ++ codes "\n")), length-append symbols (codes "\n"));
              }

-- One line begins a text: no two lines of attempts do, no two end lines, and no line of each kind.

module _ (n : ℕ) (few : n ≤ MAX_THREADS) (last : Option ℕ) where
  -- two lines of attempts that begin one text are one
  pub one_body_line : (v : Version) (line other : List ℕ) (calls others : List Call) (x y : List ℕ)
      → IsBodyLine n last line calls v → IsBodyLine n last other others v → line ++ x ≡ other ++ y → (line ≡ other) × (calls ≡ others) × (x ≡ y)
  one_body_line v line other calls others x y given1 given2 given3 = search (rules, one_call_line, one_piece_line)

  -- a line of attempts begins with a digit, and an end line with a letter
  pub not_both : (v : Version) (line end : List ℕ) (calls : List Call) (x y : List ℕ)
      → IsBodyLine n last line calls v → IsEndLine end → line ++ x ≢ end ++ y
  not_both v line end calls x y given1 given2 = search (rules, number_begins, call_then, piece_then)

-- A text that is the texts of a list's elements, read one after the other.

module _ {X : Type 0} (f : X → List ℕ) (xs : List X) (i : ℕ) (x : X) (within : i < length xs) (text rest : List ℕ)
    (before : text ≡ flat_map f (take i xs) ++ rest) where
  -- the i-th begins the rest
  pub one_more : (after : List ℕ) → rest ≡ f (get_or xs i x) ++ after → text ≡ flat_map f (take (i + 1) xs) ++ after
  one_more after e =
      before ∙ rw (e, take_more xs i x within) (simp (regrouped, flat_map-append))

  -- it does not
  pub one_missing : ((after : List ℕ) → rest ≢ f (get_or xs i x) ++ after) → text ≢ flat_map f xs
  one_missing none = λ whole.
      none (flat_map f (drop (i + 1) xs)) (front_cut (flat_map f (take i xs)) rest _ (sym before ∙ whole ∙ flat_map_at f xs i x within))
