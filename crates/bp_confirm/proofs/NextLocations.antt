-- The location of a thread before its next step is that of the place of the next step.
use Rattle.bp_confirm.proofs.Common.{◌≡◌, ◌≢◌, ◌==◌, ◌<◌, ◌+◌, ◌-◌, ◌∙◌, ℕ, zero, suc, Bool, true, false, cond, List, [], ◌∷◌, length, drop, get_or, map, replicate, set, Option, None, Some, refl, ap, sym, option_map, arith, subst, nat_lt, slice_get, rules, AllByRecursion, nat_tests, slice_get-get_or, slice_get_past, drop-set, length-map, map-set, set_other, set_same, drop-length, false≢true, position_at, Block, Done, Then, Program, IsTextOf, Configuration, chain, start_of_block, starts_of, MAX_THREADS, stack_of, configuration_after, Location, LastBits, some_follow, AreBothAt, AreBothWays, IsAmbiguous, IsAmbiguousOnStack, TellsNext, place_of, StepLineOf, step_of, steps_of, location_in, next_location, next_locations, next_place, Place, End, Line, Column, GoesOnAt, IsReason, OnlyLinesAreAmbiguous}
use Rattle.bp_confirm.proofs.Elements.{all_at_place, rest_at}
use Rattle.bp_confirm.proofs.OnePosition.{IsFull, full_place, one_byte_each}
use Rattle.bp_confirm.proofs.StartsInOrder.{start_within, starts_distinct}

abbrev nowhere : Option Location
nowhere = None

module _ (text : List ℕ) where
  pub next_place_of : (i : ℕ) (xs : List StepLineOf) → next_place i (steps_of text xs) ≡ option_map (place_of text) (next_location i xs)
  next_place_of i [] = refl
  next_place_of i (x ∷ xs) = by_test (x.thread == i) (next_place_of i xs)
    where
      by_test : (b : Bool) → next_place i (steps_of text xs) ≡ option_map (place_of text) (next_location i xs)
          → cond b (Some (place_of text x.location)) (next_place i (steps_of text xs))
          ≡ option_map (place_of text) (cond b (Some x.location) (next_location i xs))
      by_test true rest = refl
      by_test false rest = rest

-- there is one for each line
pub as_many : (xs : List StepLineOf) → length (next_locations xs) ≡ length xs
as_many [] = refl
as_many (x ∷ xs) = ap suc (as_many xs)

next_at : (xs : List StepLineOf) (n : ℕ) (d : StepLineOf) (e : Option Location) → n < length xs
    → get_or (next_locations xs) n e ≡ next_location (get_or xs n d).thread (drop (suc n) xs)
next_at [] n d e within = absurd (omega (arith, within))
next_at (x ∷ xs) zero d e within = refl
next_at (x ∷ xs) (suc n) d e within = next_at xs n d e (omega (arith, within))

some_after : (text : List ℕ) (k : ℕ) (xs : List StepLineOf) → some_follow (steps_of text (drop k xs)) ≡ nat_lt k (length xs)
some_after text zero [] = grind arith
some_after text (suc k) [] = grind arith
some_after text zero (x ∷ xs) = grind arith
some_after text (suc k) (x ∷ xs) = some_after text k xs ∙ (grind (arith, nat_tests))

mapped_at : (f : ℕ → Option Location) (nexts : List ℕ) (n d : ℕ) (e : Option Location) → n < length nexts → get_or (map f nexts) n e ≡ f (get_or nexts n d)
mapped_at f [] n d e within = absurd (omega (arith, within))
mapped_at f (k ∷ nexts) zero d e within = refl
mapped_at f (k ∷ nexts) (suc n) d e within = mapped_at f nexts n d e (omega (arith, within))

pub as_many_nexts : (xs : List StepLineOf) (nexts : List ℕ) → map (location_in xs) nexts ≡ next_locations xs → length nexts ≡ length xs
as_many_nexts xs nexts are = sym (length-map nexts (location_in xs)) ∙ ap length are ∙ as_many xs

-- the information of the later lines on line n
pub tells_next : (text : List ℕ) (last : LastBits) (xs : List StepLineOf) (nexts : List ℕ) (n : ℕ) (d x : StepLineOf) (k : ℕ)
    (next count : ℕ) (bit : Bool) → last x.thread ≡ bit → next ≡ get_or nexts n k → count ≡ length xs → map (location_in xs) nexts ≡ next_locations xs
    → n < length xs → x ≡ get_or xs n d
    → TellsNext text last (step_of text x) (steps_of text (drop (n + 1) xs)) xs (record { number = next; follows = nat_lt (n + 1) count; last = bit })
tells_next text last xs nexts n d x k next count bit bit_is next_is count_is are within is =
    let one : suc n ≡ n + 1 = omega arith in
    let i = (get_or xs n d).thread in
    let there = mapped_at (location_in xs) nexts n k nowhere (omega (arith, within, as_many_nexts xs nexts are)) in
    let location : location_in xs next ≡ next_location i (drop (n + 1) xs) =
    ap (location_in xs) next_is ∙ sym there ∙ ap (λ ys. get_or ys n nowhere) are ∙ next_at xs n d nowhere within ∙ ap (λ m. next_location i (drop m xs)) one in
    record {
      place =
          ap (λ z. next_place z.thread (steps_of text (drop (n + 1) xs))) is ∙ next_place_of text i (drop (n + 1) xs)
          ∙ ap (option_map (place_of text)) (sym location);
      follows = some_after text (n + 1) xs ∙ ap (nat_lt (n + 1)) (sym count_is);
      last_is = bit_is;
    }

-- the table of the threads' next steps, from the last line on
none_at : (f : ℕ → Option Location) (size none i : ℕ) → f none ≡ nowhere → i < size → slice_get (map f (replicate size none)) i ≡ Some nowhere
none_at f zero none i past within = absurd (omega (arith, within))
none_at f (suc size) none zero past within = ap Some past
none_at f (suc size) none (suc i) past within = none_at f size none i past (omega (arith, within))

pub none_yet : (size i : ℕ) (xs : List StepLineOf) → i < size
    → slice_get (map (location_in xs) (replicate size (length xs))) i ≡ Some (next_location i (drop (length xs) xs))
none_yet size i xs given1 = search (rules, slice_get_past, none_at, drop-length)

location_there : (xs : List StepLineOf) (n : ℕ) (d : StepLineOf) → n < length xs → location_in xs n ≡ Some (get_or xs n d).location
location_there xs n d within = ap (option_map (λ x. x.location)) (slice_get-get_or xs n d within)

module _ (xs : List StepLineOf) (n : ℕ) (d : StepLineOf) (within : n - 1 < length xs) (some : 0 < n) where
  abbrev m : ℕ
  m = n - 1

  rest_is : drop (n - 1) xs ≡ get_or xs (n - 1) d ∷ drop n xs
  rest_is = let one : n - 1 + 1 ≡ n = omega (arith, some) in rest_at xs (n - 1) d within ∙ ap (λ k. get_or xs (n - 1) d ∷ drop k xs) one

  -- the table has one more location
  pub table_more : (table : List (Option Location)) (size : ℕ) (i : ℕ) → length table ≡ size → (get_or xs (n - 1) d).thread < size
      → slice_get table i ≡ Some (next_location i (drop n xs))
      → slice_get (set table (get_or xs (n - 1) d).thread (Some (get_or xs (n - 1) d).location)) i ≡ Some (next_location i (drop (n - 1) xs))
  table_more table size i long few old = by_test ((get_or xs (n - 1) d).thread == i) refl
    where
      x : StepLineOf
      x = get_or xs (n - 1) d

      by_test : (b : Bool) → ((get_or xs (n - 1) d).thread == i) ≡ b
          → slice_get (set table (get_or xs (n - 1) d).thread (Some (get_or xs (n - 1) d).location)) i ≡ Some (next_location i (drop (n - 1) xs))
      by_test b given1 = search (rules, nat_tests, set_same, slice_get-get_or, rest_is, set_other)

  pub table_next : (table : List ℕ) (thread : ℕ) → thread ≡ (get_or xs (n - 1) d).thread
      → AllByRecursion (λ y. y.thread < MAX_THREADS) xs → (i : ℕ) → length table ≡ MAX_THREADS
      → slice_get (map (location_in xs) table) i ≡ Some (next_location i (drop n xs))
      → slice_get (map (location_in xs) (set table thread (n - 1))) i ≡ Some (next_location i (drop (n - 1) xs))
  table_next table thread given1 given2 i given3 given4 = search (rules, length-map, map-set, location_there, table_more, all_at_place)

  -- and one more line is done
  pub done_next : (table : List ℕ) (thread k : ℕ) → thread ≡ (get_or xs (n - 1) d).thread
      → AllByRecursion (λ y. y.thread < MAX_THREADS) xs → length table ≡ MAX_THREADS
      → ((i : ℕ) → i < MAX_THREADS → slice_get (map (location_in xs) table) i ≡ Some (next_location i (drop n xs)))
      → (steps : List ℕ) → length steps ≡ length xs → map (location_in xs) (drop n steps) ≡ next_locations (drop n xs)
      → map (location_in xs) (drop (n - 1) (set steps (n - 1) (get_or table thread k))) ≡ next_locations (drop (n - 1) xs)
  done_next table thread k thread_is all long each steps many done =
      let i = (get_or xs (n - 1) d).thread in
      let few = all_at_place (λ y. y.thread < MAX_THREADS) xs (n - 1) d all within in
      let one : n - 1 + 1 ≡ n = omega (arith, some) in
      let entries = map (location_in xs) table in
      let wide : i < length entries = omega (arith, few, long, length-map table (location_in xs)) in
      let found : Some (get_or entries i nowhere) ≡ Some (next_location i (drop n xs)) = sym (slice_get-get_or entries i nowhere wide) ∙ each i few in
      let next : get_or entries i nowhere ≡ next_location i (drop n xs) = cc in
      let value : location_in xs (get_or table thread k) ≡ next_location i (drop n xs) =
      ap (λ m. location_in xs (get_or table m k)) thread_is ∙ sym (mapped_at (location_in xs) table i k nowhere (omega (arith, few, long))) ∙ next in
      ap (map (location_in xs)) (drop-set steps (n - 1) (get_or table thread k) (omega (arith, many, within)))
      ∙ (λ j. value j ∷ map (location_in xs) (drop (one j) steps))
      ∙ ap (λ ys. next_location i (drop n xs) ∷ ys) done
      ∙ sym (ap next_locations rest_is)

-- A location with a column is at one statement, and no `?` has two ways to a procedure's end, so that only a line does not tell which way it went.

module _ (text : List ℕ) (t : Program) (is : IsTextOf text t) (line column : ℕ) where
  there : (at : ℕ) → place_of text (Column line column) (Some at) ≡ true → ((position_at text at).line ≡ line) × ((position_at text at).column ≡ column)
  there at given1 = grind (arith)

  two_there : (a b : ℕ) → place_of text (Column line column) (Some a) ≡ true
      → place_of text (Column line column) (Some b) ≡ true → position_at text a ≡ position_at text b
  two_there a b given1 given2 = grind (arith)

  by_starts : (m n : ℕ) → m ≢ n → (x y : Option ℕ) → slice_get (starts_of t) m ≡ Some x → slice_get (starts_of t) n ≡ Some y
      → place_of text (Column line column) x ≡ true → place_of text (Column line column) y ≡ true → ⊥
  by_starts m n given1 x y given2 given3 given4 given5 = search (rules, false≢true, one_byte_each, start_within, two_there, starts_distinct)

  not_both : (taken other : Block) → AreBothAt t (place_of text (Column line column)) taken other → ⊥
  not_both taken other given1 = search (rules, by_starts)

  -- nor are both ways at a procedure's end
  not_ended : (a k : Block) → a ≢ Done → place_of text End (start_of_block (chain a k)) ≡ true → ⊥
  not_ended Done k some at = some refl
  not_ended (Then label at x b) k some is = false≢true is

-- so only a line is at both
module _ (text : List ℕ) (t : Program) (is : IsTextOf text t) where
  abbrev at_next : Option Location → Option Place
  at_next next = option_map (place_of text) next

  abbrev IsLineOf : Option Location → Type 0
  IsLineOf next = (n : ℕ) × (next ≡ Some (Line n))

  by_ways : (next : Option Location) (a k other : Block) → a ≢ Done → AreBothWays t (at_next next) (chain a k) other → IsLineOf next
  by_ways None a k other some both = absurd both
  by_ways (Some End) a k other some both = absurd (not_ended text t is 0 0 a k some both.taken_at)
  by_ways (Some (Line n)) a k other some both = (n, refl)
  by_ways (Some (Column line column)) a k other some both = absurd (not_both text t is line column (chain a k) other both)

  by_block : (left : Block) (next : Option Location) → IsFull left → IsAmbiguous t left (at_next next) → IsLineOf next
  by_block left next given1 given2 = search (rules, by_ways)

  by_stack : (c : Configuration) (i : ℕ) (later : List StepLineOf) (number : Option ℕ) → GoesOnAt t c i number
      → IsAmbiguousOnStack t i (steps_of text later) (stack_of c i) → IsLineOf (next_location i later)
  by_stack c i later number given1 given2 = search (rules, by_block, full_place, next_place_of)

pub only_lines : OnlyLinesAreAmbiguous
only_lines text t s last lines r is refused ambiguous =
    let x = step_of text refused.step in
    let later = steps_of text refused.later in
    let now = configuration_after t s refused.history in
    let unclear = subst (IsReason t s refused.history x later) ambiguous refused.reason in
    let both = subst (λ i. IsAmbiguousOnStack t i later (stack_of now i)) (sym refused.thread) unclear.ambiguous in
    by_stack text t is now r.thread refused.later r.number refused.number both
