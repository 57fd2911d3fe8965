-- No two triples of version, setup and history have one text.
use Rattle.bp_trace.proofs.Common.{inl, ◌≡◌, ℕ, ◌<◌, ◌^◌, List, [], ◌∷◌, ◌++◌, length, refl, sym, arith, decimal, Bool, flat_map, ap, ◌≤◌, ◌==◌, ◌∙◌, if◌then◌else◌, rules, AllDigits, digit_from_value, digits_decimal, decimal_nonempty, AllByRecursion, ends_at, numerals, regrouped, SetupOf, Call, Reply, letter_of, live_threads, bit_digit, Symbol, Piece, pieces_of, calls_of_pieces, call_line, symbol_text, piece_line, calls_text, end_line, text_of, IsWritable, Version, One, Two, HasNoSymbol}
use Rattle.bp_text.proofs.NumbersInTurn as numbers
use Rattle.bp_machine.specs.declared.calls.Reply.TheVariants.{Stopped, Ended, NoContexts, Full, Blocked, Failed, Stepped}
use Rattle.bp_trace.proofs.PiecesAreFewest.{pieces_threads, pieces_whole}
use Rattle.bp_trace.proofs.HeadsRead.{heads_alike}

-- Numbers at the front of a text.

pub same_head : {A : Type 0} (a b : A) (x y : List A) → a ∷ x ≡ b ∷ y → (a ≡ b) × (x ≡ y)
same_head a b x y e = (cc, cc)

-- a number ends at such a byte
pub one_number : (byte : ℕ) → byte < 48 → (m n : ℕ) (x y : List ℕ) → m < 2 ^ 64 → n < 2 ^ 64 → decimal m ++ byte ∷ x ≡ decimal n ++ byte ∷ y → (m ≡ n) × (x ≡ y)
one_number byte low m n x y p q e =
    let (same, rest) = numbers.one_number m n (byte ∷ x) (byte ∷ y) p q (ends_at byte x (inl low)) (ends_at byte y (inl low)) e in
    (same, (same_head byte byte x y rest).1)

digits_begin : (ds rest : List ℕ) (letter : ℕ) (text : List ℕ) → AllDigits 10 ds → 0 < length ds → 57 < letter → ds ++ rest ≡ letter ∷ text → ⊥
digits_begin [] rest letter text p some high e = absurd (omega arith)
digits_begin (d ∷ ds) rest letter text p some high e = absurd (omega (arith, digit_from_value d p.0, (same_head d letter (ds ++ rest) text e).0))

-- a number does not begin with a letter
pub number_begins : (n : ℕ) (rest : List ℕ) (letter : ℕ) (text : List ℕ) → n < 2 ^ 64 → 57 < letter → decimal n ++ rest ≡ letter ∷ text → ⊥
number_begins n rest letter text fits high e = digits_begin (decimal n) rest letter text (digits_decimal numerals n fits) (decimal_nonempty n fits) high e

one_digit : (a b : Bool) → bit_digit a ≡ bit_digit b → a ≡ b
one_digit a b given1 = grind (arith)

-- the reply of a letter
reply_of_letter : ℕ → Reply
reply_of_letter n =
    if n == 120 then Stopped
    else if n == 101 then Ended
    else if n == 110 then NoContexts
    else if n == 117 then Full
    else if n == 98 then Blocked
    else if n == 102 then Failed
    else Stepped

letter_again : (r : Reply) → reply_of_letter (letter_of r) ≡ r
unfolding reply_of_letter
letter_again Stopped = refl
letter_again Ended = refl
letter_again NoContexts = refl
letter_again Full = refl
letter_again Blocked = refl
letter_again Failed = refl
letter_again Stepped = refl

one_letter : (a b : Reply) → letter_of a ≡ letter_of b → a ≡ b
one_letter a b e = sym (letter_again a) ∙ ap reply_of_letter e ∙ letter_again b

pub front_cut : (front a b : List ℕ) → front ++ a ≡ front ++ b → a ≡ b
front_cut [] a b e = e
front_cut (c ∷ front) a b e = front_cut front a b (same_head c c (front ++ a) (front ++ b) e).1

-- ---- the attempts

pub call_then : (c : Call) (rest : List ℕ) → call_line c ++ rest ≡ decimal c.thread ++ 32 ∷ bit_digit c.bit ∷ 32 ∷ letter_of c.reply ∷ 10 ∷ rest
call_then c rest = simp regrouped

same_call : (c d : Call) → c.thread ≡ d.thread → c.bit ≡ d.bit → c.reply ≡ d.reply → c ≡ d
same_call c d thread bit reply = λ i. record { thread = thread i; bit = bit i; reply = reply i }

-- one line of an attempt begins a text
pub one_call_line : (c d : Call) (x y : List ℕ) → c.thread < 2 ^ 64 → d.thread < 2 ^ 64 → call_line c ++ x ≡ call_line d ++ y → (c ≡ d) × (x ≡ y)
one_call_line c d x y given1 given2 given3 = search (rules, one_number, call_then, same_head, same_call, one_digit, one_letter)

calls_alike : (h g : List Call) (x y : List ℕ) → AllByRecursion (λ (c : Call). c.thread < 2 ^ 64) h → AllByRecursion (λ (c : Call). c.thread < 2 ^ 64) g
    → flat_map call_line h ++ (101 ∷ x) ≡ flat_map call_line g ++ (101 ∷ y) → (h ≡ g) × (x ≡ y)
calls_alike [] [] x y p q e = (refl, (same_head _ _ _ _ e).1)
calls_alike [] (d ∷ g) x y p q e = search (rules, number_begins, regrouped)
calls_alike (c ∷ h) [] x y p q e = search (rules, number_begins, regrouped)
calls_alike (c ∷ h) (d ∷ g) x y p q e =
    let line = one_call_line c d (flat_map call_line h ++ (101 ∷ x)) (flat_map call_line g ++ (101 ∷ y)) p.0 q.0 (simp regrouped (simp regrouped at e)) in
    let rest = calls_alike h g x y p.1 q.1 line.1 in
    (cc (line.0, rest.0), rest.1)

-- ---- the pieces

digit_high : (b : Bool) → 48 ≤ bit_digit b
digit_high b = grind (arith)

-- symbols that no other symbol is after
pub symbols_alike : (ts us : List Symbol) (x y : List ℕ) → HasNoSymbol x → HasNoSymbol y
    → flat_map symbol_text ts ++ x ≡ flat_map symbol_text us ++ y → (ts ≡ us) × (x ≡ y)
symbols_alike [] [] x y p q e = (refl, e)
symbols_alike [] (u ∷ us) x y p q e = absurd (p u.bit u.reply (flat_map symbol_text us ++ y) e)
symbols_alike (t ∷ ts) [] x y p q e = absurd (q t.bit t.reply (flat_map symbol_text ts ++ x) (sym e))
symbols_alike (t ∷ ts) (u ∷ us) x y p q e =
    let bit = same_head _ _ _ _ e in
    let letter = same_head _ _ _ _ bit.1 in
    let rest = symbols_alike ts us x y p q letter.1 in
    let bits = one_digit t.bit u.bit bit.0 in
    let replies = one_letter t.reply u.reply letter.0 in
    let same : t ≡ u = λ i. record { bit = bits i; reply = replies i } in
    (cc (same, rest.0), rest.1)

pub no_symbol_at_end : (rest : List ℕ) → HasNoSymbol (10 ∷ rest)
no_symbol_at_end rest b r more e = omega (arith, digit_high b, (same_head 10 (bit_digit b) rest (letter_of r ∷ more) e).0)

pub piece_then : (p : Piece) (rest : List ℕ) → piece_line p ++ rest ≡ decimal p.thread ++ 32 ∷ (flat_map symbol_text (p.first ∷ p.others) ++ 10 ∷ rest)
piece_then p rest = simp regrouped

same_piece : (p q : Piece) → p.thread ≡ q.thread → p.first ∷ p.others ≡ q.first ∷ q.others → p ≡ q
same_piece p q given1 given2 = grind (arith)

-- one line of a piece begins a text
pub one_piece_line : (c d : Piece) (x y : List ℕ) → c.thread < 2 ^ 64 → d.thread < 2 ^ 64 → piece_line c ++ x ≡ piece_line d ++ y → (c ≡ d) × (x ≡ y)
one_piece_line c d x y given1 given2 given3 = search (rules, one_number, piece_then, symbols_alike, no_symbol_at_end, same_piece, same_head)

pieces_alike : (ps qs : List Piece) (x y : List ℕ) → AllByRecursion (λ (p : Piece). p.thread < 2 ^ 64) ps → AllByRecursion (λ (p : Piece). p.thread < 2 ^ 64) qs
    → flat_map piece_line ps ++ (101 ∷ x) ≡ flat_map piece_line qs ++ (101 ∷ y) → (ps ≡ qs) × (x ≡ y)
pieces_alike [] [] x y p q e = (refl, (same_head _ _ _ _ e).1)
pieces_alike [] (d ∷ qs) x y p q e = search (rules, number_begins, regrouped)
pieces_alike (c ∷ ps) [] x y p q e = search (rules, number_begins, regrouped)
pieces_alike (c ∷ ps) (d ∷ qs) x y p q e =
    let line = one_piece_line c d (flat_map piece_line ps ++ (101 ∷ x)) (flat_map piece_line qs ++ (101 ∷ y)) p.0 q.0 (simp regrouped (simp regrouped at e)) in
    let rest = pieces_alike ps qs x y p.1 q.1 line.1 in
    (cc (line.0, rest.0), rest.1)

-- ---- the whole text

histories_alike : (v : Version) (h g : List Call) (x y : List ℕ) → AllByRecursion (λ (c : Call). c.thread < 2 ^ 64) h
    → AllByRecursion (λ (c : Call). c.thread < 2 ^ 64) g
    → calls_text v h ++ (101 ∷ x) ≡ calls_text v g ++ (101 ∷ y) → h ≡ g
histories_alike One h g x y p q e = (calls_alike h g x y p q e).0
histories_alike Two h g x y p q e =
    sym (pieces_whole h) ∙ ap calls_of_pieces (pieces_alike (pieces_of h) (pieces_of g) x y
    (pieces_threads (λ i. i < 2 ^ 64) h p) (pieces_threads (λ i. i < 2 ^ 64) g q) e).0 ∙ pieces_whole g

module _ (v w : Version) (s r : SetupOf) (h g : List Call) (p : IsWritable s h) (q : IsWritable r g) (e : text_of v s h ≡ text_of w r g) where
  abbrev end : SetupOf → List Call → List ℕ
  end z k = end_line (length k) (live_threads z k)

  heads : (v ≡ w) × (s ≡ r) × (calls_text v h ++ end s h ≡ calls_text w g ++ end r g)
  heads = heads_alike v w s r h g (calls_text v h ++ end s h) (calls_text w g ++ end r g) p q e

  pub one_text : (v ≡ w) × (s ≡ r) × (h ≡ g)
  one_text = search (rules, heads, histories_alike)
