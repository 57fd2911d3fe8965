-- The trace of a legal history is short enough to be replayed.
use Rattle.bp_trace.proofs.Common.{◌≡◌, ◌∙◌, ℕ, zero, suc, ◌+◌, ◌*◌, ◌<◌, ◌≤◌, ◌^◌, Bool, true, false, cond, List, [], ◌∷◌, ◌++◌, length, flat_map, Option, Some, refl, ap, arith, length-append, codes, decimal, rules, AllByRecursion, mul-le-mul_left, mul-le-mul_right, length-map, length-decimal-le, digits_decimal, decimal_nonempty, first_decimal, decimal_digit, cases_lt, numerals, Program, TEXT_LIMIT, MAX_THREADS, MAX_CALLS, Call, SetupOf, threads, IsInRange, is_terminated, live_below, live_threads, IsLegal, AllBelow, all_below, legal_length, MAX_TRACE, Version, One, Two, Symbol, Piece, calls_of_pieces, pieces_of, version_line, entry_line, init_digits, seed_word, head_text, call_line, symbol_text, piece_line, calls_text, end_line, text_of, IsDecimal, IsEndLine}
use Rattle.bp_trace.proofs.HeadsRead.{limits_text, setup_text, head_joined}
use Rattle.bp_trace.proofs.PiecesAreFewest.{pieces_threads, pieces_whole}
use Rattle.bp_trace.proofs.ScheduleLines.{few_digits}

number_short : (n : ℕ) → n < 2 ^ 64 → length (decimal n) ≤ 20
number_short n fits = length-decimal-le 20 n (omega arith) (omega (arith, fits)) fits

entries_short : (es : List (List ℕ)) → AllByRecursion (λ e. length e ≤ TEXT_LIMIT) es → length (flat_map entry_line es) ≤ length es * 65543
entries_short [] each = omega arith
entries_short (e ∷ es) each = search (rules, (entries_short es each.1), length-append, codes)

init_short : (bs : List Bool) → length (init_digits bs) ≤ length bs + 1
init_short bs = search (rules, length-map)

seed_short : (o : Option ℕ) → ((n : ℕ) → o ≡ Some n → n < 2 ^ 64) → length (seed_word o) ≤ 20
seed_short o given1 = search (rules, number_short)

calls_short : (n : ℕ) (h : List Call) → n ≤ MAX_THREADS → AllBelow n h → length (flat_map call_line h) ≤ 7 * length h
calls_short n [] few all = omega arith
calls_short n (x ∷ xs) few (below, all) = search (rules, (calls_short n xs few all), few_digits, length-append, decimal)

symbols_length : (ts : List Symbol) → length (flat_map symbol_text ts) ≡ 2 * length ts
symbols_length [] = refl
symbols_length (t ∷ ts) = omega (arith, symbols_length ts)

pieces_short : (ps : List Piece) → AllByRecursion (λ (p : Piece). p.thread < 100) ps → length (flat_map piece_line ps) ≤ 7 * length (calls_of_pieces ps)
pieces_short [] each = omega arith
pieces_short (p ∷ ps) each = search (rules, (pieces_short ps each.1), few_digits, length-append, codes, decimal, length-map, symbols_length)

few_threads : (n : ℕ) (h : List Call) → n ≤ MAX_THREADS → AllBelow n h → AllByRecursion (λ (x : Call). x.thread < 100) h
few_threads n [] few all = tt
few_threads n (x ∷ xs) few (below, all) = (omega (arith, few, below), few_threads n xs few all)

history_short : (v : Version) (n : ℕ) (h : List Call) → n ≤ MAX_THREADS → AllBelow n h → length (calls_text v h) ≤ 7 * length h
history_short One n h few all = calls_short n h few all
history_short Two n h few all =
    let pieces = pieces_short (pieces_of h) (pieces_threads (λ i. i < 100) h (few_threads n h few all)) in
    omega (arith, pieces, ap length (pieces_whole h))

version_short : (v : Version) → length (version_line v) ≤ 9
version_short v = grind (arith)

pub live_few : (n : ℕ) (s : SetupOf) (h : List Call) → live_below n s h ≤ n
live_few zero s h = omega arith
live_few (suc n) s h = go (is_terminated s h n) (live_few n s h)
  where
    go : (b : Bool) → live_below n s h ≤ n → cond b (live_below n s h) (live_below n s h + 1) ≤ suc n
    go true few = omega (arith, few)
    go false few = omega (arith, few)

module _ (t : Program) (v : Version) (s : SetupOf) (h : List Call) (range : IsInRange s) (legal : IsLegal t s h)
    (names : AllByRecursion (λ e. length e ≤ TEXT_LIMIT) s.entries) (seed : (n : ℕ) → s.seed ≡ Some n → n < 2 ^ 64) where
  few_calls : length h ≤ 6400000
  few_calls = search (rules, legal_length, mul-le-mul_right, mul-le-mul_left)

  limits_short : length (limits_text s) ≤ 100
  limits_short = search (rules, number_short, seed_short, length-append, codes, decimal)

  setup_short : length (setup_text s) ≤ 4200000
  setup_short = search (rules, entries_short, mul-le-mul_right, init_short, length-append, codes, limits_text, limits_short)

  end_short : length (end_line (length h) (live_threads s h)) ≤ 50
  end_short = search (rules, number_short, few_calls, live_few, length-append, decimal, codes)

  pub trace_short : length (text_of v s h) < MAX_TRACE
  trace_short =
      let head = ap length (head_joined v s) ∙ length-append (version_line v) (setup_text s) in
      let body = length-append (calls_text v h) (end_line (length h) (live_threads s h)) in
      let whole = length-append (head_text v s) (calls_text v h ++ end_line (length h) (live_threads s h)) in
      omega (arith, version_short v, head, body, whole, setup_short, end_short, history_short v (threads s) h range.few (all_below t s h legal), few_calls)

-- The end of a history is an end line.

decimal_is : (n : ℕ) → n < 2 ^ 64 → IsDecimal (decimal n)
decimal_is n given1 = search (rules, decimal_nonempty, digits_decimal, numerals, cases_lt, first_decimal, decimal_digit)

-- the numbers of an end have 64 bits
pub counts_fit : (t : Program) (s : SetupOf) (h : List Call) → threads s ≤ MAX_THREADS → s.calls ≤ MAX_CALLS
    → IsLegal t s h → (length h < 2 ^ 64) × (live_threads s h < 2 ^ 64)
counts_fit t s h given1 given2 given3 = search (rules, legal_length, mul-le-mul_right, mul-le-mul_left, live_few)

pub own_end : (t : Program) (s : SetupOf) (h : List Call) → threads s ≤ MAX_THREADS → s.calls ≤ MAX_CALLS
    → IsLegal t s h → IsEndLine (end_line (length h) (live_threads s h))
own_end t s h few calls legal =
    let fit = counts_fit t s h few calls legal in
    record {
      calls = decimal (length h);
      left_live = decimal (live_threads s h);
      first = decimal_is (length h) fit.0;
      second = decimal_is (live_threads s h) fit.1;
      is = refl;
    }
