-- The pieces of a history are its attempts, cut into the fewest lists of one thread each.
use Rattle.bp_trace.proofs.Common.{◌≡◌, ℕ, ◌<◌, ◌==◌, Bool, true, false, cond, List, [], ◌∷◌, ◌++◌, length, flat_map, None, Some, refl, ap, sym, ◌∙◌, arith, codes, decimal, ◌≢◌, Option, subst, map, ◌+◌, length-append, append-nil, rules, nat_tests, AllByRecursion, flat_map-append, regrouped, Call, IsLeastWithin, letter_of, contexts_opened, last_thread, Piece, symbol_of, piece_of, with_call, pieces_of, symbol_text, piece_line, call_of, calls_of_piece, calls_of_pieces, Symbol, bit_digit, call_line, calls_text, symbols_after, Version, One, Two, IsBodyLine, line_count}
use Rattle.bp_machine.proofs.ContextCounts.{opened, opened_none, opened_more, opened_least}

-- The pieces of a history have the text that its attempts have one by one.

abbrev symbols_text : Piece → List ℕ
symbols_text p = flat_map symbol_text (p.first ∷ p.others)

abbrev pieces_text : List Piece → List ℕ
pieces_text ps = flat_map piece_line ps

abbrev pub thread_of : Call → ℕ
thread_of x = x.thread

-- the pieces of attempts of which y is the first
pub record Cut (y : Call) (ys : List Call) : Type 0 where
  pub piece : Piece
  pub rest : List Piece
  pub is : pieces_of (y ∷ ys) ≡ piece ∷ rest
  thread : piece.thread ≡ y.thread
  calls : calls_of_piece piece ++ calls_of_pieces rest ≡ y ∷ ys
  count : length rest ≡ opened (Some y.thread) (map thread_of ys)
  body : symbols_text piece ++ (10 ∷ pieces_text rest) ≡ symbol_text (symbol_of y) ++ (symbols_after (Some y.thread) ys ++ codes "\n")

-- an attempt after one of its thread
goes_on : (x y : Call) (ys : List Call) → (x.thread == y.thread) ≡ true
    → symbol_text (symbol_of y) ++ (symbols_after (Some y.thread) ys ++ codes "\n") ≡ symbols_after (Some x.thread) (y ∷ ys) ++ codes "\n"
goes_on x y ys e = rw e (simp regrouped)

-- an attempt after one of another thread
breaks : (x y : Call) (ys : List Call) → (x.thread == y.thread) ≡ false
    → 10 ∷ (decimal y.thread ++ 32 ∷ (symbol_text (symbol_of y) ++ (symbols_after (Some y.thread) ys ++ codes "\n")))
    ≡ symbols_after (Some x.thread) (y ∷ ys) ++ codes "\n"
breaks x y ys e = rw e (simp regrouped)

-- the line of the first piece and those after it
next_line : (y : Call) (ys : List Call) (b : Cut y ys)
    → piece_line b.piece ++ pieces_text b.rest ≡ decimal y.thread ++ 32 ∷ (symbol_text (symbol_of y) ++ (symbols_after (Some y.thread) ys ++ codes "\n"))
next_line y ys b = simp regrouped (rw (b.thread, b.body))

-- whether one more context is opened
opens : (i j : ℕ) (b : Bool) → (i == j) ≡ b → contexts_opened (Some i) j ≡ cond b 0 1
opens i j b e = ap (λ c. cond c 0 1) e

pub cut : (y : Call) (ys : List Call) → Cut y ys
cut y [] = record { piece = piece_of y []; rest = []; is = refl; thread = refl; calls = refl; count = sym (opened_none (Some y.thread)); body = refl }
cut x (y ∷ ys) = go (cut y ys) (x.thread == (cut y ys).piece.thread) refl
  where
    is_cut : (b : Cut y ys) (t : Bool) → (x.thread == b.piece.thread) ≡ t
        → pieces_of (x ∷ y ∷ ys) ≡ cond t (piece_of x (b.piece.first ∷ b.piece.others) ∷ b.rest) (piece_of x [] ∷ b.piece ∷ b.rest)
    is_cut b t e = ap (with_call x) b.is ∙ ap (λ k. cond k (piece_of x (b.piece.first ∷ b.piece.others) ∷ b.rest) (piece_of x [] ∷ b.piece ∷ b.rest)) e

    go : (b : Cut y ys) (t : Bool) → (x.thread == b.piece.thread) ≡ t → Cut x (y ∷ ys)
    -- the same thread continues
    go b true e =
        let equal : x.thread ≡ b.piece.thread = grind (arith, nat_tests) in
        let goes : (x.thread == y.thread) ≡ true = ap (λ n. x.thread == n) (sym b.thread) ∙ e in
        record {
          piece = piece_of x (b.piece.first ∷ b.piece.others);
          rest = b.rest;
          is = is_cut b true e;
          thread = refl;
          calls = ap (λ (i : ℕ). x ∷ (map (call_of i) (b.piece.first ∷ b.piece.others) ++ calls_of_pieces b.rest)) equal ∙ ap (λ cs. x ∷ cs) b.calls;
          count = omega (arith, b.count, opened_more (Some x.thread) y.thread (map thread_of ys), opens x.thread y.thread true goes);
          body = ap (λ t. symbol_text (symbol_of x) ++ t) (b.body ∙ goes_on x y ys goes);
        }
    -- another thread begins
    go b false e =
        let other : (x.thread == y.thread) ≡ false = ap (λ n. x.thread == n) (sym b.thread) ∙ e in
        record {
          piece = piece_of x [];
          rest = b.piece ∷ b.rest;
          is = is_cut b false e;
          thread = refl;
          calls = ap (λ cs. x ∷ cs) b.calls;
          count = omega (arith, b.count, opened_more (Some x.thread) y.thread (map thread_of ys), opens x.thread y.thread false other);
          body =
              ap (λ t. symbol_text (symbol_of x) ++ 10 ∷ t) (next_line y ys b)
              ∙ ap (λ t. symbol_text (symbol_of x) ++ t) (breaks x y ys other);
        }

-- the text of the pieces is that of the attempts one by one, and the end of the last line
pieces_are_symbols : (x : Call) (xs : List Call) → flat_map piece_line (pieces_of (x ∷ xs)) ≡ symbols_after None (x ∷ xs) ++ codes "\n"
pieces_are_symbols x xs =
    let b = cut x xs in
    ap pieces_text b.is
    ∙ next_line x xs b
    ∙ simp regrouped

pub some_pieces : (h : List Call) → 0 < length h → flat_map piece_line (pieces_of h) ≡ symbols_after None h ++ codes "\n"
some_pieces [] some = absurd (omega arith)
some_pieces (x ∷ xs) some = pieces_are_symbols x xs

-- The pieces of a history have the threads of its attempts, and no two neighbours have one.

module _ (P : ℕ → Type 0) where
  with_one : (x : Call) (ps : List Piece) → P x.thread → AllByRecursion (λ (p : Piece). P p.thread) ps
      → AllByRecursion (λ (p : Piece). P p.thread) (with_call x ps)
  with_one x [] own each = (own, tt)
  with_one x (p ∷ ps) own each = go (x.thread == p.thread)
    where
      go : (b : Bool) → AllByRecursion (λ (p : Piece). P p.thread) (cond b (piece_of x (p.first ∷ p.others) ∷ ps) (piece_of x [] ∷ p ∷ ps))
      go true = (own, each.1)
      go false = (own, each)

  pub pieces_threads : (h : List Call) → AllByRecursion (λ (x : Call). P x.thread) h → AllByRecursion (λ (p : Piece). P p.thread) (pieces_of h)
  pieces_threads [] each = tt
  pieces_threads (x ∷ xs) each = with_one x (pieces_of xs) each.0 (pieces_threads xs each.1)

-- each piece is of another thread than the one before it
abbrev pub Alternate : Option ℕ → List Piece → Type 0
Alternate last [] = Unit {0}
Alternate last (p ∷ ps) = (Some p.thread ≢ last) × Alternate (Some p.thread) ps

one_more : (x : Call) (ps : List Piece) → Alternate None ps → Alternate None (with_call x ps)
one_more x [] each = (λ e. absurd cc, tt)
one_more x (p ∷ ps) each = go (x.thread == p.thread) refl
  where
    go : (b : Bool) → (x.thread == p.thread) ≡ b → Alternate None (cond b (piece_of x (p.first ∷ p.others) ∷ ps) (piece_of x [] ∷ p ∷ ps))
    go true e =
        let same : p.thread ≡ x.thread = grind (arith, nat_tests) in
        (λ none. absurd cc, subst (λ i. Alternate (Some i) ps) same each.1)
    go false e =
        let other : Some p.thread ≢ Some x.thread = λ same. (let alike : p.thread ≡ x.thread = cc in absurd (grind (arith, nat_tests))) in
        (λ none. absurd cc, (other, each.1))

pub pieces_alternate : (h : List Call) → Alternate None (pieces_of h)
pieces_alternate [] = tt
pieces_alternate (x ∷ xs) = one_more x (pieces_of xs) (pieces_alternate xs)

pub pieces_whole : (h : List Call) → calls_of_pieces (pieces_of h) ≡ h
pieces_whole [] = refl
pieces_whole (x ∷ xs) = let c = cut x xs in ap calls_of_pieces c.is ∙ c.calls

pieces_count : (h : List Call) → opened None (map thread_of h) ≡ length (pieces_of h)
pieces_count [] = opened_none None
pieces_count (x ∷ xs) = let c = cut x xs in omega (arith, opened_more None x.thread (map thread_of xs), c.count, ap length c.is)

pub pieces_fewest : (h : List Call) → IsLeastWithin (length (pieces_of h)) (map thread_of h)
pieces_fewest h = subst (λ n. IsLeastWithin n (map thread_of h)) (pieces_count h) (opened_least (map thread_of h))

-- The attempts of a line are of one thread, which is the last after them.

-- some attempts, and all of them of this thread
pub record AreOfThread (i : ℕ) (calls : List Call) : Type 0 where
  pub some : calls ≢ []
  pub each : AllByRecursion (λ (x : Call). x.thread ≡ i) calls

pub record HasThread (n : ℕ) (calls : List Call) : Type 0 where
  pub thread : ℕ
  pub below : thread < n
  pub are : AreOfThread thread calls

symbols_of : (i : ℕ) (ts : List Symbol) → AllByRecursion (λ (x : Call). x.thread ≡ i) (map (call_of i) ts)
symbols_of i [] = tt
symbols_of i (t ∷ ts) = (refl, symbols_of i ts)

pub piece_thread : (p : Piece) → AreOfThread p.thread (calls_of_piece p)
piece_thread p = record { some = λ e. absurd (cc); each = (refl, symbols_of p.thread p.others) }

pub line_thread : (v : Version) (n : ℕ) (last : Option ℕ) (line : List ℕ) (calls : List Call) → IsBodyLine n last line calls v → HasThread n calls
line_thread One n last line calls b = record {
  thread = b.call.thread;
  below = b.thread;
  are = subst (AreOfThread b.call.thread) (sym b.holds) (record { some = λ e. absurd (cc); each = (refl, tt) });
}
line_thread Two n last line calls b = record {
  thread = b.piece.thread;
  below = b.thread;
  are = subst (AreOfThread b.piece.thread) (sym b.holds) (piece_thread b.piece);
}

all_below : (n i : ℕ) (calls : List Call) → i < n → AllByRecursion (λ (x : Call). x.thread ≡ i) calls → AllByRecursion (λ (x : Call). x.thread < n) calls
all_below n i [] below each = tt
all_below n i (x ∷ xs) below each = (omega (arith, below, each.0), all_below n i xs below each.1)

pub line_below : (v : Version) (n : ℕ) (last : Option ℕ) (line : List ℕ) (calls : List Call)
    → IsBodyLine n last line calls v → AllByRecursion (λ (x : Call). x.thread < n) calls
line_below v n last line calls b =
    let one = line_thread v n last line calls b in
    all_below n one.thread calls one.below one.are.each

-- the last of some threads is that after the others
last_behind : (ts : List ℕ) (u : ℕ) (us : List ℕ) → last_thread (ts ++ u ∷ us) ≡ last_thread (u ∷ us)
last_behind [] u us = refl
last_behind (t ∷ []) u us = refl
last_behind (t ∷ s ∷ ts) u us = last_behind (s ∷ ts) u us

last_of_one : (i : ℕ) (x : Call) (xs : List Call) → AllByRecursion (λ (y : Call). y.thread ≡ i) (x ∷ xs) → last_thread (map thread_of (x ∷ xs)) ≡ Some i
last_of_one i x [] each = ap Some each.0
last_of_one i x (y ∷ ys) each = last_of_one i y ys each.1

threads_after : (h calls : List Call) → map thread_of (h ++ calls) ≡ map thread_of h ++ map thread_of calls
threads_after [] calls = refl
threads_after (x ∷ xs) calls = ap (λ ts. x.thread ∷ ts) (threads_after xs calls)

pub last_is_thread : (i : ℕ) (h calls : List Call) → AreOfThread i calls → last_thread (map thread_of (h ++ calls)) ≡ Some i
last_is_thread i h [] are = absurd (are.some refl)
last_is_thread i h (x ∷ xs) are =
    ap last_thread (threads_after h (x ∷ xs)) ∙ last_behind (map thread_of h) x.thread (map thread_of xs) ∙ last_of_one i x xs are.each

-- The text of a history grows by one line, with the attempts of that line.

-- the attempts of one piece are cut into only it
one_piece : (i : ℕ) (t : Symbol) (ts : List Symbol) → pieces_of (map (call_of i) (t ∷ ts)) ≡ record { thread = i; first = t; others = ts } ∷ []
one_piece i t [] = refl
one_piece i t (u ∷ us) =
    let same : (i == i) ≡ true = grind (arith, nat_tests) in
    let rest : Piece = record { thread = i; first = u; others = us } in
    ap (with_call (call_of i t)) (one_piece i u us)
    ∙ ap (λ b. cond b (piece_of (call_of i t) (u ∷ us) ∷ []) (piece_of (call_of i t) [] ∷ rest ∷ [])) same

-- an attempt before some pieces leaves the others as they are
call_before : (x : Call) (p : Piece) (ps qs : List Piece) → with_call x ((p ∷ ps) ++ qs) ≡ with_call x (p ∷ ps) ++ qs
call_before x p ps qs = go (x.thread == p.thread)
  where
    go : (b : Bool)
        → cond b (piece_of x (p.first ∷ p.others) ∷ (ps ++ qs)) (piece_of x [] ∷ p ∷ (ps ++ qs))
        ≡ cond b (piece_of x (p.first ∷ p.others) ∷ ps) (piece_of x [] ∷ p ∷ ps) ++ qs
    go true = refl
    go false = refl

-- a piece of another thread than the last attempt is one piece more
pub one_piece_more : (h : List Call) (p : Piece) → Some p.thread ≢ last_thread (map thread_of h) → pieces_of (h ++ calls_of_piece p) ≡ pieces_of h ++ p ∷ []
one_piece_more [] p other = one_piece p.thread p.first p.others
one_piece_more (x ∷ []) p other =
    let apart : x.thread ≢ p.thread = λ e. other (ap Some (sym e)) in
    let differs : (x.thread == p.thread) ≡ false = grind (arith, nat_tests) in
    ap (with_call x) (one_piece p.thread p.first p.others)
    ∙ ap (λ b. cond b (piece_of x (p.first ∷ p.others) ∷ []) (piece_of x [] ∷ p ∷ [])) differs
one_piece_more (x ∷ y ∷ ys) p other =
    let c = cut y ys in
    ap (with_call x) (one_piece_more (y ∷ ys) p other)
    ∙ ap (λ ps. with_call x (ps ++ p ∷ [])) c.is
    ∙ call_before x c.piece c.rest (p ∷ [])
    ∙ ap (λ ps. with_call x ps ++ p ∷ []) (sym c.is)

pub text_grows : (v : Version) (n : ℕ) (h : List Call) (line : List ℕ) (calls : List Call)
    → IsBodyLine n (last_thread (map thread_of h)) line calls v → calls_text v (h ++ calls) ≡ calls_text v h ++ line
text_grows One n h line calls is_line =
    ap (λ cs. flat_map call_line (h ++ cs)) is_line.holds
    ∙ flat_map-append call_line h (is_line.call ∷ [])
    ∙ ap (λ t. flat_map call_line h ++ t) (append-nil (call_line is_line.call) ∙ sym is_line.is)
text_grows Two n h line calls is_line =
    ap (λ cs. flat_map piece_line (pieces_of (h ++ cs))) is_line.holds
    ∙ ap (flat_map piece_line) (one_piece_more h is_line.piece is_line.other)
    ∙ flat_map-append piece_line (pieces_of h) (is_line.piece ∷ [])
    ∙ ap (λ t. flat_map piece_line (pieces_of h) ++ t) (append-nil (piece_line is_line.piece) ∙ sym is_line.is)

pub count_grows : (v : Version) (n : ℕ) (h : List Call) (line : List ℕ) (calls : List Call)
    → IsBodyLine n (last_thread (map thread_of h)) line calls v → line_count v (h ++ calls) ≡ line_count v h + 1
count_grows One n h line calls is_line = search (rules, length-append)
count_grows Two n h line calls is_line =
    ap (λ cs. length (pieces_of (h ++ cs))) is_line.holds
    ∙ ap length (one_piece_more h is_line.piece is_line.other)
    ∙ length-append (pieces_of h) (is_line.piece ∷ [])

-- the line is not empty
pub some_line : (v : Version) (n : ℕ) (last : Option ℕ) (line : List ℕ) (calls : List Call) → IsBodyLine n last line calls v → 0 < length line
some_line One n last line calls is_line =
    omega (
      arith,
      ap length is_line.is,
      length-append (decimal is_line.call.thread)
          (32 ∷ bit_digit is_line.call.bit ∷ 32 ∷ letter_of is_line.call.reply ∷ 10 ∷ []),
    )
some_line Two n last line calls is_line =
    omega (
      arith,
      ap length is_line.is,
      length-append (decimal is_line.piece.thread)
          (32 ∷ (flat_map symbol_text (is_line.piece.first ∷ is_line.piece.others) ++ codes "\n")),
    )
