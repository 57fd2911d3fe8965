-- The line of an attempt, if it has one, or nothing.
use Rattle.bp_view.proofs.Common.{AreReady, Next, front_members, text_members, if◌then◌else◌, ◌≡◌, ◌∙◌, ◌+◌, ◌-◌, ◌<◌, ◌++◌, ℕ, suc, true, List, [], ◌∷◌, codes, nat_lt, take, length, ap, ap₂, refl, sym, arith, ◌≤◌, length-append, ◌/◌, ◌%◌, ◌^◌, ◌==◌, ◌⊎◌, inl, inr, false, decimal, append_assoc, max, Bool, Option, None, ◌&&◌, subst, slice_set, rules, nat_tests, concat, cases_lt, replicate-append-replicate, spaces, at_right, at_left, regrouped, Program, Configuration, Call, is_granted, configuration_after, SetupOf, ViewFormat, ViewOptions, ShownCall, changes_by, AreCallFacts, IsReplayedCall, CallFilter, calls_at, calls_of, is_asked, is_seen, watched_names, shortened, prefix_text, tens_digits, tens_text, field_texts, mark_text, Widths, line_in, next_print_in, printed_in, filter_of, has_line, IsShownLine, IsViewLineIf, Gains, Grown, Buffer, ViewContext}
use Rattle.std.proofs.lemmas.Fmt.{decimal_digit, decimal_step}
use Rattle.std.proofs.Math.ListN.{length-replicate}
use Rattle.std.proofs.lemmas.List.Folds.{concat-append}
use Rattle.bp_view.specs.declared.checkpoints.ReplayedCall.{ReplayedCall}
use Rattle.bp_view.specs.declared.prefixes.PrefixKey.{PrefixKey}
use Rattle.bp_view.proofs.Growth.{gains, nothing}

-- The first bytes of a line, and a text that is cut.

pub taken : (a b : List ℕ) → take (length a) (a ++ b) ≡ a
taken [] b = refl
taken (x ∷ a) b = ap (λ ys. x ∷ ys) (taken a b)

pub cut_long : (room : ℕ) (text : List ℕ) → room < length text → shortened room text ≡ take (room - 2) text ++ codes ".."
cut_long room text given1 = grind (arith)

-- The fields of a line before its place, by their parts that are kept.

abbrev pub key_of : Widths → ShownCall → PrefixKey
key_of w f =
    record {
      tens = f.number / 10;
      thread = f.call.thread;
      context = f.context;
      number_width = w.number;
      thread_width = w.thread;
      context_width = w.context;
    }

-- a number is its digits before the last, and the last
digits_split : (n : ℕ) → n < 2 ^ 64 → tens_digits (n / 10) ++ (48 + n % 10) ∷ [] ≡ decimal n
digits_split n fits = by_size (cases_lt n 10)
  where
    by_size : (n < 10) ⊎ (10 ≤ n) → tens_digits (n / 10) ++ (48 + n % 10) ∷ [] ≡ decimal n
    by_size (inl few) =
        let none : n / 10 ≡ 0 = omega arith in
        let own : n % 10 ≡ n = omega arith in
        ap₂ (λ t d. tens_digits t ++ (48 + d) ∷ []) none own ∙ sym (decimal_digit n few)
    by_size (inr many) =
        let tens = n / 10 in
        let some : (tens == 0) ≡ false = let more : 1 ≤ tens = omega arith in grind (arith, nat_tests, more) in
        ap (λ b. (if b then [] else decimal tens) ++ (48 + n % 10) ∷ []) some ∙ sym (decimal_step n many fits)

-- in its column, with the digits before the last in a column that is one narrower
number_split : (width n : ℕ) → n < 2 ^ 64 → at_right (width - 1) (tens_digits (n / 10)) ++ (48 + n % 10) ∷ [] ≡ at_right width (decimal n)
number_split width n fits =
    let front = tens_digits (n / 10) in
    let last = (48 + n % 10) ∷ [] in
    let gap : (width - 1) - length front ≡ width - length (front ++ last) = omega (arith, length-append front last) in
    append_assoc (spaces ((width - 1) - length front)) front last
    ∙ ap (λ k. spaces k ++ (front ++ last)) gap
    ∙ ap (at_right width) (digits_split n fits)

-- the members of the next statement, its depth, and the rest
pub with_ready : (n : Next) (before depth : List ℕ) (rest : List (List ℕ)) {front text : List ℕ} → AreReady n front text
    → before ++ (front ++ (depth ++ (text ++ concat rest))) ≡ before ++ concat (front_members n ++ depth ∷ (text_members n ++ rest))
with_ready n before depth rest ready =
    let all = concat-append (front_members n) (depth ∷ (text_members n ++ rest)) in
    let after = ap (λ y. concat (front_members n) ++ (depth ++ y)) (concat-append (text_members n) rest) in
    rw (ready.front_is, ready.text_is) (ap (λ y. before ++ y) (sym (all ∙ after)))

-- the fields of an attempt
pub fields_are : (w : Widths) (f : ShownCall) (mark digit : ℕ) → f.number < 2 ^ 64
    → mark ∷ [] ≡ mark_text f.switch → digit ≡ 48 + f.number % 10 → prefix_text (key_of w f) mark digit ≡ concat (field_texts w f)
fields_are w f mark digit given1 given2 given3 = search (rules, decimal, append_assoc, number_split)

-- another last digit
pub digit_put : (a : List ℕ) (d e : ℕ) (b : List ℕ) → slice_set (a ++ d ∷ b) (length a) e ≡ a ++ e ∷ b
digit_put [] d e b = refl
digit_put (x ∷ a) d e b = ap (λ ys. x ∷ ys) (digit_put a d e b)

-- another sign and another last digit
pub parts_put : (k : PrefixKey) (text : List ℕ) (m d mark digit last : ℕ) → text ≡ prefix_text k m d → last ≡ suc (length (tens_text k))
    → slice_set (slice_set text 0 mark) last digit ≡ prefix_text k mark digit
parts_put k text m d mark digit last given1 given2 = search (rules, digit_put)

-- The place of an attempt and its statement, the spaces between, and the length of its column.

pub statement_is : (place shown end whole : List ℕ) (padding indent gap : ℕ) → gap ≡ padding + indent → shown ++ end ≡ whole
    → place ++ (spaces gap ++ (shown ++ end)) ≡ (place ++ spaces padding) ++ concat (spaces indent ∷ whole ∷ [])
statement_is place shown end whole padding indent gap gap_is cut =
    ap₂ (λ n x. place ++ (spaces n ++ x)) gap_is cut
    ∙ ap (λ g. place ++ (g ++ whole)) (sym (replicate-append-replicate padding indent 32))
    ∙ simp regrouped

pub place_length : (width : ℕ) (place : List ℕ) → length (at_left width place) ≡ max width (length place)
place_length width place = omega (arith, length-append place (spaces (width - length place)), length-replicate {A = ℕ} (width - length place) 32)

-- The values that an attempt prints are the next ones, if it made a step.

pub printed_of : (format : ViewFormat) (c : Configuration) (x : Call) (values next : Option (List Bool)) → next ≡ next_print_in format c x.thread
    → values ≡ (if is_granted x.reply then next else None) → values ≡ printed_in format c x
printed_of format c x values next given1 given2 = grind (arith)

module _ (t : Program) (text : List ℕ) (s : SetupOf) (context : ViewContext) (h : List Call) (x : Call) where
  abbrev o : ViewOptions
  o = context.options

  abbrev w : Widths
  w = context.widths

  abbrev whole : List Call
  whole = context.history.now

  abbrev has : Bool
  has = has_line t text s o w whole h x

  -- a filter of the attempt is one of its replayed attempt
  module _ (m : ReplayedCall) (of : IsReplayedCall t s h x m) (f : CallFilter) (filter : f ≡ filter_of o) where
    pub asked_of : (b : Bool) → is_asked f (length whole) m.number m.call.thread ≡ b
        → is_asked (filter_of o) (length whole) (suc (length h)) x.thread ≡ b
    asked_of b given1 = grind (arith)

    pub calls_are : (calls : ℕ) → calls ≡ calls_at f whole m.number m.call → calls ≡ calls_of (filter_of o) whole h x
    calls_are calls given1 = grind (arith)

  pub line_if : (a b c : Bool) → is_asked (filter_of o) (length whole) (suc (length h)) x.thread ≡ a
      → is_seen (watched_names o.watch) (changes_by t s h x) ≡ b → nat_lt 0 (calls_of (filter_of o) whole h x) ≡ c → has ≡ (a && (b && c))
  line_if a b c asked seen some = ap₂ (λ p q. p && q) asked (ap₂ (λ p q. p && q) seen some)

  pub no_calls : nat_lt 0 (calls_of (filter_of o) whole h x) ≡ false → has ≡ false
  no_calls given1 = grind (arith)

  pub hidden : has ≡ false → (v : Buffer) → Gains (IsShownLine t text s o w whole h x) v v
  hidden none v = gains (nothing {a = v}) (subst (λ b. IsViewLineIf t text s o w whole b h x []) (sym none) refl)

  pub shown : has ≡ true → (f : ShownCall) → AreCallFacts t text s h x f → (printed : Option (List Bool))
      → printed ≡ printed_in o.format (configuration_after t s h) x → (calls : ℕ) → calls ≡ calls_of (filter_of o) whole h x
      → (old new : Buffer) → Grown old new (line_in o.format o.has_colour w f calls printed) → Gains (IsShownLine t text s o w whole h x) old new
  shown given1 f given2 printed given3 calls given4 old new given5 = grind (arith)
