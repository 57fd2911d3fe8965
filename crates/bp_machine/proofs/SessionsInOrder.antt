-- A new session is in order, and one that makes room for a call stays so; an attempt that was
-- judged may be made.
use Rattle.bp_machine.proofs.Common.{◌≡◌, ℕ, zero, suc, ◌+◌, ◌==◌, Bool, false, List, [], ◌∷◌, ◌++◌, length, map, Option, None, Some, refl, ap, sym, ◌∙◌, subst, ◌<◌, ◌^◌, nat_le, true, arith, ◌⊎◌, ◌-◌, drop, reverse, inl, inr, slice_get, option_map, slice_set, rules, option_or, length-map, reverse-append, slice_get-map, get_or_from_slice_get, ∥∥₁_map, set-append_seam, Name, Procedure, Program, regrouped, bits_of, binding, procedure_named, first_stack, Flat, Heading, heading_named, Instruction, bits_from, StandsFor, valuation_of, places_of, ShowsStack, IsOfProgram, SameHeading, heading_of_procedure, SetupError, IsCountOf, State, activations, ShowsThread, StandsAfter, GuestThreadOf, first_thread, used_with, MachineOf, SessionOf, Stands, IsInOrder, top_of, with_top, entered_top, SetupOf, start, entry_error, entries_error, Fits, IsInRange, Clean, is_failure, ChoicesOf, Call, Judged, ActivationRecord, is_over, session_of, AreFirstChoices, IsJudged}
use Rattle.std.proofs.Math.Path.{fun_ext}
use Rattle.std.proofs.lemmas.List.{length-append}
use Rattle.std.proofs.lemmas.Nat.Bits.{bit_at-zero}
use Rattle.bp_machine.proofs.ContextCounts.{count_of_none}

-- A new session stands after the empty history.

-- names with these bits, and with 0 past them
pub bound_is : (ns : List Name) (bs : List Bool) → binding ns bs ≡ valuation_of ns (bits_from bs)
bound_is [] bs = refl
bound_is (n ∷ ns) [] = ap (λ m. (n.text, false) ∷ m) (bound_is ns [])
bound_is (n ∷ ns) (b ∷ bs) = ap (λ m. (n.text, b) ∷ m) (bound_is ns bs)

zero_bits : (ns ms : List Name) → binding ns [] ++ binding ms [] ≡ valuation_of (ns ++ ms) (λ k. false)
zero_bits [] ms = bound_is ms []
zero_bits (n ∷ ns) ms = ap (λ m. (n.text, false) ∷ m) (zero_bits ns ms)

no_bits : bits_of 0 ≡ (λ k. false)
no_bits = fun_ext (λ k. ap (λ n. n == 1) (bit_at-zero k))

pub entry_fine : (k : ℕ) (o : Option Procedure) (rest : Option SetupError) → option_or (entry_error k o) rest ≡ None → (p : Procedure) × (o ≡ Some p)
entry_fine k o rest given1 = grind (arith)

pub others_fine : (o rest : Option SetupError) → option_or o rest ≡ None → rest ≡ None
others_fine o rest given1 = grind (arith)

of_map : {X Y : Type 0} (f : X → Y) (o : Option X) (y : Y) → option_map f o ≡ Some y → (x : X) × (o ≡ Some x) × (f x ≡ y)
of_map given1 = grind (arith)

module _ (c : Flat) (t : Program) (s : SetupOf) (is : StandsFor c t) where
  -- the entry of a thread, if the setup fits
  entry_here : (es : List (List ℕ)) (k i : ℕ) (e : List ℕ) → entries_error t k es ≡ None → slice_get es i ≡ Some e
      → (p : Procedure) × (procedure_named t.procedures e ≡ Some p)
  entry_here [] k i e none found = absurd cc
  entry_here (d ∷ es) k zero e none found = search (rules, entry_fine)
  entry_here (d ∷ es) k (suc i) e none found = search (rules, (entry_here es (k + 1) i e (others_fine (entry_error k (procedure_named t.procedures d)) (entries_error t (k + 1) es) none) found), others_fine)

  -- the first thread at a procedure shows its first stack
  at_heading : (e : List ℕ) (p : Procedure) (o : Option Heading) → heading_named c.headings e ≡ o → procedure_named t.procedures e ≡ Some p
      → SameHeading (places_of t.procedures) o (procedure_named t.procedures e)
      → ShowsStack t (activations (first_thread c e).stack) (first_stack (procedure_named t.procedures e))
  at_heading e p o given1 given2 given3 = search (rules, zero_bits, no_bits)

  pub shown : (e : List ℕ) (p : Procedure) → procedure_named t.procedures e ≡ Some p
      → ShowsStack t (activations (first_thread c e).stack) (first_stack (procedure_named t.procedures e))
  shown e p is_named = at_heading e p (heading_named c.headings e) refl is_named (heading_of_procedure c t e is)

  guest_here : (x : State) → Fits t s → x.threads ≡ map (first_thread c) s.entries → (i : ℕ) (l : GuestThreadOf)
      → slice_get x.threads i ≡ Some l → ShowsThread t (start t s) [] i l
  guest_here x fits threads i l at =
      let found = sym (slice_get-map (first_thread c) s.entries i) ∙ sym (ap (λ ls. slice_get ls i) threads) ∙ at in
      let (e, has, line_is) = of_map (first_thread c) (slice_get s.entries i) l found in
      let (p, is_named) = entry_here s.entries 0 i e fits.entries has in
      let stack =
      slice_get-map (λ n. first_stack (procedure_named t.procedures n)) s.entries i
      ∙ ap (option_map (λ n. first_stack (procedure_named t.procedures n))) has in
      let stack_is = get_or_from_slice_get (map (λ n. first_stack (procedure_named t.procedures n)) s.entries) i
      (first_stack (procedure_named t.procedures e)) [] stack in
      subst (λ m. ShowsThread t (start t s) [] i m) line_is
      (record {
        stack = subst (λ fs. ShowsStack t (activations (first_thread c e).stack) fs) (sym stack_is) (shown e p is_named);
        calls = refl;
        ended = refl;
      })

  pub starts : (x : State) → Fits t s → bits_of x.globals ≡ bits_from s.init
      → x.threads ≡ map (first_thread c) s.entries → x.contexts ≡ record { used = 0; last = None } → x.outcome ≡ Clean
      → StandsAfter t s x []
  starts x fits word threads contexts clean = record {
    legal = tt;
    globals = bound_is t.globals s.init ∙ ap (valuation_of t.globals) (sym word);
    failed = sym (ap is_failure clean);
    outcome = clean;
    stacks = length-map s.entries (λ e. first_stack (procedure_named t.procedures e));
    thread_count = ap length threads ∙ length-map s.entries (first_thread c);
    thread = guest_here x fits threads;
    contexts = subst (λ k. IsCountOf k []) (sym contexts) count_of_none;
  }

-- a new session
module _ (c : Flat) (s : SetupOf) (machine : MachineOf) (choices : List ChoicesOf) (word : ℕ) (gs : List GuestThreadOf)
    (is : machine.state ≡ record { globals = word; threads = gs; contexts = record { used = 0; last = None }; outcome = Clean })
    (bits : bits_of word ≡ bits_from s.init) (threads_are : gs ≡ map (first_thread c) s.entries) (fits : Fits c.tree s) (first : AreFirstChoices s choices) where
  abbrev x : SessionOf
  x = session_of c s machine choices

  pub stands_at_start : StandsFor c c.tree → Stands c.tree x []
  stands_at_start stands_for = record {
    state =
        starts c c.tree s stands_for machine.state fits (ap (λ z. bits_of z.globals) is ∙ bits)
        (ap (λ z. z.threads) is ∙ threads_are) (ap (λ z. z.contexts) is) (ap (λ z. z.outcome) is);
    seeded = λ seed e. λ i n y at. cc;
    choices = first.each;
  }

  pub in_order_at_start : IsInRange s → IsOfProgram c → IsInOrder x
  in_order_at_start range of_some = record {
    range = range;
    thread_count = ap (λ z. length z.threads) is ∙ ap length threads_are ∙ length-map s.entries (first_thread c);
    choice_count = first.count;
    stands = ∣ ([], stands_at_start of_some.stands) ∣₁;
  }

-- the same setup with another seed, or with none
pub fits_anew : (t : Program) (s z : SetupOf) (seed : Option ℕ) → z ≡ record s { seed = seed } → Fits t s → Fits t z
fits_anew t s z seed e fits = subst (Fits t) (sym e) (record { entries = fits.entries; init = fits.init })

pub in_range_anew : (s z : SetupOf) (seed : Option ℕ) → z ≡ record s { seed = seed } → IsInRange s → IsInRange z
in_range_anew s z seed given1 given2 = grind (arith)

-- after room was made
module _ (c : Flat) (s : SetupOf) (machine later : MachineOf) (same : later.state ≡ machine.state) (choices : List ChoicesOf) where
  abbrev before : SessionOf
  before = session_of c s machine choices

  abbrev after : SessionOf
  after = session_of c s later choices

  pub still_stands : (t : Program) (h : List Call) → Stands t before h → Stands t after h
  still_stands t h given1 = grind (arith)

  pub stays_in_order : IsInOrder before → IsInOrder after
  stays_in_order order = record {
    range = order.range;
    thread_count = ap (λ z. length z.threads) same ∙ order.thread_count;
    choice_count = order.choice_count;
    stands = ∥∥₁_map order.stands (λ p. (p.0, still_stands c.tree p.0 p.1));
  }

  pub still_judged : (i : ℕ) (given : Option Bool) (p : Judged) → IsJudged before i given p → IsJudged after p.call.thread given p
  still_judged i given p given1 = grind (arith)

-- an attempt that was judged may be made
module _ (s : SetupOf) (range : IsInRange s) where
  pub few_calls : (guest : GuestThreadOf) → is_over s guest ≡ false → guest.calls + 1 < 2 ^ 32
  few_calls guest given1 = grind (arith)

  module _ (code : List Instruction) (x : State) (i : ℕ) (guest : GuestThreadOf) (bit : Bool) where
    within : (fits : Bool) → nat_le (used_with x.contexts i) s.contexts ≡ fits → fits ≡ true → used_with x.contexts i < 2 ^ 32
    within fits given1 given2 = grind (arith)

-- A stack that is kept with its top last.

-- a list has no element, or a last one
snoc : {X : Type 0} (xs : List X) → (xs ≡ []) ⊎ ((ys : List X) × (y : X) × (xs ≡ ys ++ y ∷ []))
snoc [] = inl refl
snoc {X} (x ∷ xs) = inr (go (snoc xs))
  where
    go : (xs ≡ []) ⊎ ((ys : List X) × (y : X) × (xs ≡ ys ++ y ∷ [])) → (ys : List X) × (y : X) × (x ∷ xs ≡ ys ++ y ∷ [])
    go (inl e) = ([], x, ap (λ zs. x ∷ zs) e)
    go (inr (ys, y, e)) = (x ∷ ys, y, ap (λ zs. x ∷ zs) e)

reverse_last : {X : Type 0} (ys : List X) (y : X) → reverse (ys ++ y ∷ []) ≡ y ∷ reverse ys
reverse_last ys y = reverse-append ys (y ∷ [])

last_at : {X : Type 0} (ys zs : List X) (y : X) → slice_get (ys ++ y ∷ zs) (length ys) ≡ Some y
last_at [] zs y = refl
last_at (x ∷ ys) zs y = last_at ys zs y

pub replaced : (xs : List ActivationRecord) (f : ActivationRecord) (n : ℕ) → n ≡ length xs → 0 < n → reverse (slice_set xs (n - 1) f) ≡ with_top f (reverse xs)
replaced xs f n e some = elim (snoc xs) [ inl none ↦ absurd (omega (arith, ap length none)) | inr at ↦ go at.0 at.1 at.2 ]
  where
    go : (ys : List ActivationRecord) (y : ActivationRecord) → xs ≡ ys ++ y ∷ [] → reverse (slice_set xs (n - 1) f) ≡ with_top f (reverse xs)
    go ys y is =
        let size : n - 1 ≡ length ys = omega (arith, e, ap length is, length-append ys (y ∷ [])) in
        rw (size, is, set-append_seam ys y [] f, reverse_last ys f, reverse_last ys y) refl

pub top_is : (xs : List ActivationRecord) → slice_get xs (length xs - 1) ≡ top_of (reverse xs)
top_is xs = elim (snoc xs) [ inl none ↦ rw none refl | inr at ↦ go at.0 at.1 at.2 ]
  where
    go : (ys : List ActivationRecord) (y : ActivationRecord) → xs ≡ ys ++ y ∷ [] → slice_get xs (length xs - 1) ≡ top_of (reverse xs)
    go ys y is =
        let size : length (ys ++ y ∷ []) - 1 ≡ length ys = omega (arith, length-append ys (y ∷ [])) in
        rw (is, size, last_at ys [] y, reverse_last ys y) refl

pub entered : (xs : List ActivationRecord) (f c : ActivationRecord) (next n : ℕ) → top_of (reverse xs) ≡ Some c → n ≡ length xs + 1
    → reverse (slice_set (xs ++ f ∷ []) (n - 2) (record { number = next; locals = c.locals })) ≡ entered_top f next (reverse xs)
entered xs f c next n top e = elim (snoc xs) [ inl none ↦ absurd (nothing none) | inr at ↦ go at.0 at.1 at.2 ]
  where
    nothing : xs ≡ [] → ⊥
    nothing none = let gone = ap (λ ys. top_of (reverse ys)) none in cc

    go : (ys : List ActivationRecord) (y : ActivationRecord) → xs ≡ ys ++ y ∷ []
        → reverse (slice_set (xs ++ f ∷ []) (n - 2) (record { number = next; locals = c.locals })) ≡ entered_top f next (reverse xs)
    go ys y is =
        let size : n - 2 ≡ length ys = omega (arith, e, ap length is, length-append ys (y ∷ [])) in
        let same : y ≡ c = let t = ap (λ zs. top_of (reverse zs)) is ∙ ap top_of (reverse_last ys y) in cc in
        let caller : ActivationRecord = record { number = next; locals = c.locals } in
        rw (size, is)
        (simp regrouped (rw (set-append_seam ys y (f ∷ []) caller, reverse-append ys (caller ∷ f ∷ []), reverse_last ys y, same)))

front_at : {X : Type 0} (xs ys : List X) (n : ℕ) → n < length xs → slice_get (xs ++ ys) n ≡ slice_get xs n
front_at [] ys n inside = absurd (omega (arith, inside))
front_at (x ∷ xs) ys zero inside = refl
front_at (x ∷ xs) ys (suc n) inside = front_at xs ys n (omega (arith, inside))

-- frame n from the end of a list is at the top after n calls have returned
abbrev pub IsBelow : ℕ → List ActivationRecord → Type 0
IsBelow n xs = n < length xs → slice_get xs (length xs - 1 - n) ≡ top_of (drop n (reverse xs))

one_more : (n : ℕ) (xs ys : List ActivationRecord) (y : ActivationRecord) → IsBelow n ys → xs ≡ ys ++ y ∷ [] → IsBelow (suc n) xs
one_more n xs ys y given1 given2 = search (rules, length-append, within, reverse_last, front_at)

pub below_is : (n : ℕ) (xs : List ActivationRecord) → IsBelow n xs
below_is zero xs inside =
    let size : length xs - 1 - 0 ≡ length xs - 1 = omega arith in
    rw size (top_is xs)
below_is (suc n) xs inside =
    elim (snoc xs) [
      | inl none ↦ absurd (omega (arith, inside, ap length none))
      | inr at ↦ one_more n xs at.0 at.1 (below_is n at.0) at.2 inside
    ]
