-- A setup without an error fits its program, and its numbers are within their limits, since a program has few globals.
use Rattle.bp_machine.proofs.Common.{◌≡◌, ℕ, Bool, true, false, List, refl, sym, ◌<◌, ◌≤◌, ◌==◌, ◌||◌, nat_lt, not, length, [], ◌∷◌, Option, None, Some, arith, ◌≢◌, ◌+◌, cond, All, ◌∙◌, subst, bytes_eq, zero, suc, ap, option_map, map, get_or, take, ◌++◌, Bor, String, Global, string_bytes, if◌then◌else◌, drop, add-one, replicate, slice_get, is_some, rules, option_or, option_copied, nat_tests, AllByRecursion, map-append, take_more, take-replicate, slice_get-map, slice_get-get_or, Program, Procedure, Flat, Heading, heading_named, StandsFor, IsOfProgram, procedure_named, formals_of_procedure, Call, SessionOf, Stands, SetupError, MAX_THREADS, MAX_CALLS, SetupOf, threads, entries_error, error_if, first_of, has_bad_threads, is_out_of_range, setup_error, Fits, IsInRange, entry_error, IsSetupRefusal, initial_bits}
use Rattle.std.proofs.lemmas.List.Elements.{All-nil, All-cons}
use Rattle.std.proofs.lemmas.Slice.Eq.{bytes_eq-Decides}
use Rattle.bp_syntax.specs.Texts.{HasText}
use Rattle.bp_syntax.specs.Errors.{IsWellFormed}
use Rattle.bp_syntax.specs.declared.limits.TheConstants.{MAX_GLOBALS}
use Rattle.bp_syntax.specs.NamesIn.{NamesInProcedures}
use Rattle.bp_syntax.specs.Tokens.{IsSpelled}
use Rattle.bp_syntax.proofs.LawsOfWellFormedPrograms.{few_names}
use Rattle.bp_syntax.proofs.SpelledNames.{on_one_line, spelled_names}
use Rattle.bp_flat.specs.declared.headings.Heading as kept
use Rattle.bp_machine.specs.declared.setup_errors.SetupError.TheVariants.{Threads, InitLength, OutOfRange, EntryHasFormals, Memory}

-- a code by another name stands for its program
pub stands_for_own : {c d : Flat} → d ≡ c → IsOfProgram d → StandsFor c c.tree
stands_for_own e of = (subst IsOfProgram e of).stands

-- a session that stands after a history of the program of a code does so by another name of the code
pub stands_of : {c d : Flat} {x : SessionOf} {h : List Call} → c ≡ d → Stands c.tree x h → Stands d.tree x h
stands_of {x = x} {h = h} e stands = subst (λ (k : Flat). Stands k.tree x h) e stands

pub few_globals : (c : Flat) → IsOfProgram c → c.globals ≤ MAX_GLOBALS
few_globals c of_some = omega (arith, (few_names c.tree of_some.well_formed).globals, of_some.stands.globals)

pub neither : {X : Type 0} (a b : Option X) → option_or a b ≡ None → (a ≡ None) × (b ≡ None)
neither given1 = grind (arith)

untrue : (b : Bool) (f : SetupError) → error_if b f ≡ None → b ≡ false
untrue b f given1 = grind (arith)

no_other : (a b : Bool) → (a || b) ≡ false → (a ≡ false) × (b ≡ false)
no_other a b given1 = grind (arith)

equal : (a b : ℕ) → not (a == b) ≡ false → a ≡ b
equal a b e = grind (arith, nat_tests)

above : (a b : ℕ) → nat_lt a b ≡ false → b ≤ a
above a b e = grind (arith, nat_tests)

range_by : (s : SetupOf) → has_bad_threads s ≡ false → is_out_of_range s ≡ false → length s.init ≤ MAX_GLOBALS → IsInRange s
range_by s given1 given2 given3 = grind (arith)

module _ (t : Program) (s : SetupOf) (none : setup_error t s ≡ None) where
  -- no error of the four, the first first
  rest : (entries_error t 0 s.entries ≡ None)
      × (first_of (error_if (not (length s.init == length t.globals)) InitLength ∷ error_if (is_out_of_range s) OutOfRange ∷ [])
      ≡ None)
  rest = neither (entries_error t 0 s.entries) _ (neither (error_if (has_bad_threads s) Threads) _ none).1

  bits : not (length s.init == length t.globals) ≡ false
  bits = untrue _ InitLength (neither (error_if (not (length s.init == length t.globals)) InitLength) _ rest.1).0

  threads_fine : has_bad_threads s ≡ false
  threads_fine = untrue (has_bad_threads s) Threads (neither (error_if (has_bad_threads s) Threads) _ none).0

  numbers_fine : is_out_of_range s ≡ false
  numbers_fine = grind (arith)

  pub fits : Fits t s
  fits = record { entries = rest.0; init = equal (length s.init) (length t.globals) bits }

  pub few_threads : threads s ≤ MAX_THREADS
  few_threads = above MAX_THREADS (threads s) (no_other (threads s == 0) (nat_lt MAX_THREADS (threads s)) threads_fine).1

  pub few_calls : s.calls ≤ MAX_CALLS
  few_calls = grind (arith)

  pub range_of : IsWellFormed t → IsInRange s
  range_of is_well_formed = range_by s threads_fine numbers_fine (omega (arith, (few_names t is_well_formed).globals, fits.init))

-- The entries of a setup without an error are names of the program, and have the property of each
-- of its names.

module _ (P : List ℕ → Type 0) where
  -- the name of the procedure that was found
  found_name : (ps : List Procedure) (e : List ℕ) (p : Procedure) → NamesInProcedures (λ n. P n.text) ps → procedure_named ps e ≡ Some p → P e
  found_name [] e p each found = absurd cc
  found_name (q ∷ qs) e p each found = go (bytes_eq q.name.text e) refl (λ rest. found_name qs e p each.1 rest)
    where
      go : (b : Bool) → bytes_eq q.name.text e ≡ b → (procedure_named qs e ≡ Some p → P e) → P e
      go true is later = subst P ((bytes_eq-Decides q.name.text e).0 is) each.0.0
      go false is later = later (sym (λ i. cond (is i) (Some q) (procedure_named qs e)) ∙ found)

  fine_name : (t : Program) (k : ℕ) (e : List ℕ) (o : Option Procedure) → NamesInProcedures (λ n. P n.text) t.procedures
      → procedure_named t.procedures e ≡ o → entry_error k o ≡ None → P e
  fine_name t k e o given1 given2 given3 = search (rules, found_name)

  pub entries_are_names : (t : Program) (k : ℕ) (es : List (List ℕ)) → NamesInProcedures (λ n. P n.text) t.procedures
      → entries_error t k es ≡ None → AllByRecursion P es
  entries_are_names t k [] each none = tt
  entries_are_names t k (e ∷ es) each none =
      let parts = neither (entry_error k (procedure_named t.procedures e)) (entries_error t (k + 1) es) none in
      (fine_name t k e (procedure_named t.procedures e) each refl parts.0, entries_are_names t (k + 1) es each parts.1)

abbrev HasNoFeed : List ℕ → Type 0
HasNoFeed name = All (λ b. b ≢ 10) name

spelled_on_one_line : (es : List (List ℕ)) → AllByRecursion IsSpelled es → All HasNoFeed es
spelled_on_one_line [] spelled = All-nil HasNoFeed
spelled_on_one_line (e ∷ es) spelled = All-cons HasNoFeed e es (on_one_line e spelled.0) (spelled_on_one_line es spelled.1)

pub entries_hold_no_feed : (t : Program) (s : SetupOf) → HasText t → Fits t s → All HasNoFeed s.entries
entries_hold_no_feed t s of_text fits = spelled_on_one_line s.entries (entries_are_names IsSpelled t 0 s.entries (spelled_names t of_text).1 fits.entries)

-- A name that finds a heading is the name of that heading; and the entries of a setup without an error find theirs.

pub name_of_found : (hs : List Heading) (x : List ℕ) (h : Heading) → heading_named hs x ≡ Some h → h.name ≡ x
name_of_found [] x h e = absurd cc
name_of_found (k ∷ hs) x h e = go (bytes_eq k.name x) refl (λ later. name_of_found hs x h later) e
  where
    go : (b : Bool) → bytes_eq k.name x ≡ b → (heading_named hs x ≡ Some h → h.name ≡ x) → cond b (Some k) (heading_named hs x) ≡ Some h → h.name ≡ x
    go true is later found = let same : k ≡ h = cc in ap (λ (z : Heading). z.name) (sym same) ∙ (bytes_eq-Decides k.name x).0 is
    go false is later found = later found

-- an entry without an error has a procedure, and so a heading
some_heading : (h : Option Heading) (k : ℕ) (o : Option Procedure)
    → option_map (λ (z : Heading). z.formals) h ≡ option_map (λ (p : Procedure). length p.formals) o
    → entry_error k o ≡ None → is_some h ≡ true
some_heading h k o given1 given2 = grind (arith)

module _ (c : Flat) (t : Program) (is : StandsFor c t) where
  each_found : (es : List (List ℕ)) (k i : ℕ) (name : List ℕ) → entries_error t k es ≡ None → slice_get es i ≡ Some name
      → is_some (heading_named c.headings name) ≡ true
  each_found [] k i name none at = absurd cc
  each_found (e ∷ es) k zero name none at = search (rules, neither, some_heading, formals_of_procedure)
  each_found (e ∷ es) k (suc i) name none at = search (rules, (each_found es (k + 1) i name (neither (entry_error k (procedure_named t.procedures e)) (entries_error t (k + 1) es) none).1 at), neither)

pub names_found : (c : Flat) (es : List (List ℕ)) → IsOfProgram c → entries_error c.tree 0 es ≡ None
    → (i : ℕ) (name : List ℕ) → slice_get es i ≡ Some name → is_some (heading_named c.headings name) ≡ true
names_found c es of_some none i name at = each_found c c.tree of_some.stands es 0 i name none at

-- the result of a search
pub found_somewhere : (o : Option (Bor kept.Heading)) (h : Option Heading) → option_copied o ≡ h → is_some h ≡ true → ((x : Bor Heading) → o ≡ Some x → ⊥) → ⊥
found_somewhere o h given1 given2 given3 = grind (arith)

-- the i-th name of borrowed ones
pub name_at : (xs : List (Bor (List ℕ))) (i : ℕ) (d : Bor (List ℕ)) → i < length xs → slice_get (map (λ n. n.now) xs) i ≡ Some ((get_or xs i d).now)
name_at xs i d within = slice_get-map (λ n. n.now) xs i ∙ ap (option_map (λ n. n.now)) (slice_get-get_or xs i d within)

-- one more of them
pub names_more : (xs : List (Bor (List ℕ))) (i : ℕ) (d : Bor (List ℕ)) → i < length xs → (old : List (String Global)) (name : String Global)
    → map string_bytes old ≡ map (λ n. n.now) (take i xs) → string_bytes name ≡ (get_or xs i d).now
    → map string_bytes (old ++ name ∷ []) ≡ map (λ n. n.now) (take (i + 1) xs)
names_more xs i d within old name same is =
    map-append string_bytes old (name ∷ [])
    ∙ ap (λ ns. ns ++ string_bytes name ∷ []) same
    ∙ ap (λ n. map (λ n. n.now) (take i xs) ++ n ∷ []) is
    ∙ sym (map-append (λ n. n.now) (take i xs) (get_or xs i d ∷ []))
    ∙ ap (map (λ n. n.now)) (sym (take_more xs i d within))

-- An error of a setup is never that memory was refused.

either : (a b : Option SetupError) → (a ≡ Some Memory → ⊥) → (b ≡ Some Memory → ⊥) → option_or a b ≡ Some Memory → ⊥
either a b given1 given2 given3 = grind (arith)

entry : (k : ℕ) (o : Option Procedure) → entry_error k o ≡ Some Memory → ⊥
entry k None e = cc
entry k (Some p) e = by_test (length p.formals == 0) e
  where
    by_test : (b : Bool) → (if b then None else Some (EntryHasFormals k)) ≡ Some Memory → ⊥
    by_test true e = cc
    by_test false e = cc

entries : (t : Program) (k : ℕ) (es : List (List ℕ)) → entries_error t k es ≡ Some Memory → ⊥
entries t k [] e = cc
entries t k (x ∷ es) e = search (rules, (entries t (k + 1) es), either, entry)

module _ (t : Program) (s : SetupOf) where
  test : (b : Bool) (f : SetupError) → (Some f ≡ Some Memory → ⊥) → error_if b f ≡ Some Memory → ⊥
  test b f given1 given2 = grind (arith)

  never_memory : setup_error t s ≡ Some Memory → ⊥
  never_memory given1 = search (rules, either, test, entries)

  -- an error refuses the setup
  pub error_refuses : (f : SetupError) → setup_error t s ≡ Some f → IsSetupRefusal t s f
  error_refuses f given1 = search (rules, never_memory)

-- Entries of threads, one after the other.

map_at : {X Y : Type 0} (f : X → Y) (xs : List X) (i : ℕ) (x d : X) → i < length xs → x ≡ get_or xs i d → drop i (map f xs) ≡ f x ∷ drop (suc i) (map f xs)
map_at f [] i x d h e = absurd (omega arith)
map_at f (y ∷ xs) zero x d h e = ap (λ z. f z ∷ map f xs) (sym e)
map_at f (y ∷ xs) (suc i) x d h e = map_at f xs i x d (omega arith) e

first_is : (o r : Option SetupError) → is_some o ≡ true → option_or o r ≡ o
first_is o r given1 = grind (arith)

second_is : (o r : Option SetupError) → is_some o ≡ false → option_or o r ≡ r
second_is o r given1 = grind (arith)

-- the entries from thread i on, if x is the entry of that thread
module _ (t : Program) {X : Type 0} (name : X → List ℕ) (xs : List X) (i : ℕ) (x d : X) (within : i < length xs) (is : x ≡ get_or xs i d) where
  abbrev own : Option SetupError
  own = entry_error i (procedure_named t.procedures (name x))

  abbrev others : Option SetupError
  others = entries_error t (i + 1) (drop (i + 1) (map name xs))

  here : entries_error t i (drop i (map name xs)) ≡ option_or own others
  here = ap (entries_error t i) (map_at name xs i x d within is) ∙ ap (λ n. option_or own (entries_error t (i + 1) (drop n (map name xs)))) (sym (add-one i))

  pub refused : is_some own ≡ true → entries_error t i (drop i (map name xs)) ≡ own
  refused some = here ∙ first_is own others some

  pub fine : is_some own ≡ false → entries_error t i (drop i (map name xs)) ≡ others
  fine none = here ∙ second_is own others none

-- The initial bits of a setup: those that are given, else a 0 for each global.

pub bits_given : {B : Type 0} (now : B → List Bool) (given : Option B) (r : List Bool) (n : ℕ) (b : B) → given ≡ Some b
    → r ≡ now b → r ≡ initial_bits (option_map now given) n
bits_given now given r n b is value = rw (is) value

pub bits_not_given : {B : Type 0} (now : B → List Bool) (given : Option B) (r : List Bool) (n m : ℕ) → given ≡ None
    → r ≡ take m (replicate 128 false) → m ≤ 128 → m ≡ n → r ≡ initial_bits (option_map now given) n
bits_not_given now given r n m is value few same =
    rw (is) (value ∙ (take-replicate m 128 false few ∙ ap (λ k. replicate k false) same))
