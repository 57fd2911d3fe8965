-- Lines that are kept, and the places at which they are found.
use Rattle.bp_confirm.proofs.Common.{◌≡◌, ◌∙◌, ◌++◌, ◌∷◌, [], ◌<◌, ◌-◌, ◌≢◌, ℕ, zero, suc, List, Option, None, Some, Bor, length, take, get_or, refl, ap, sym, subst, arith, length-append, ◌&&◌, ◌==◌, Bool, true, false, not, ap₂, ◌+◌, slice_get, IfSome, MatchOption, is_some, rules, AllByRecursion, append-nil, map-append, get_or_append_left, get_or_push, take_at, slice_get-get_or, slice_get-map, cases_lt, Configuration, Valuation, stack_of, KeptLine, kept_lines, lines_at, no_line, AreWithin, GrowsByOne, IsKeptLine, IsStepThere, IsAt, text_of, StepLineOf, step_line, stands_at, step_of, steps_of, StepOf, value_seen, IsFirstMismatch, SeesValues, is_value, sees_values}
use Rattle.bp_confirm.proofs.Elements.{all_at_place}
use Rattle.bp_confirm.proofs.ReadLines.{line_before}
use Rattle.std.proofs.Math.Bool.{and-false}
use Rattle.bp_confirm.specs.OwnSteps.{is_step}

-- if more lines are kept, those at the same places are the same
lines_same : (xs more : List StepLineOf) (ks : List ℕ) → AreWithin xs ks → lines_at (xs ++ more) ks ≡ lines_at xs ks
lines_same xs more [] within = refl
lines_same xs more (k ∷ ks) within =
    let one = get_or_append_left xs more no_line k within.0 in
    let others = lines_same xs more ks within.1 in
    λ j. one j ∷ others j

pub within_more : (xs more : List StepLineOf) (ks : List ℕ) (k : ℕ) → AreWithin xs ks → k < length (xs ++ more) → AreWithin (xs ++ more) (ks ++ k ∷ [])
within_more xs more [] k within here = (here, tt)
within_more xs more (m ∷ ks) k within here = (let size = length-append xs more in omega (arith, within.0, size), within_more xs more ks k within.1 here)

-- one more line is at one more place
pub line_more_at : (xs more : List StepLineOf) (ks : List ℕ) (k : ℕ) → AreWithin xs ks
    → lines_at (xs ++ more) (ks ++ k ∷ []) ≡ lines_at xs ks ++ get_or (xs ++ more) k no_line ∷ []
line_more_at xs more ks k given1 = search (rules, map-append, lines_same)

-- a line was read: it is at one more place
module _ (old new : List KeptLine) (ks : List ℕ) (k : ℕ) (grows : GrowsByOne old new)
    (within : AreWithin (kept_lines old) ks) (here : k < length (kept_lines new)) where
  lines_are : kept_lines new ≡ kept_lines old ++ kept_lines grows.0
  lines_are = ap kept_lines grows.1 ∙ map-append (λ (x : KeptLine). x.line) old grows.0

  pub within_grown : AreWithin (kept_lines new) (ks ++ k ∷ [])
  within_grown = search (rules, lines_are, within_more)

  pub lines_grown : lines_at (kept_lines new) (ks ++ k ∷ []) ≡ lines_at (kept_lines old) ks ++ get_or (kept_lines new) k no_line ∷ []
  lines_grown = search (rules, lines_are, line_more_at)

-- a text that begins with the text of a kept line begins with the line
pub step_there : (kept : List KeptLine) (k : ℕ) (x : KeptLine) (text rest : List ℕ) → AllByRecursion IsKeptLine kept → slice_get kept k ≡ Some x
    → text ≡ x.text.now ++ rest → IsStepThere (kept_lines kept) k text rest
step_there [] k x text rest each at parts = absurd cc
step_there (y ∷ kept) zero x text rest each at parts =
    let same : x ≡ y = cc in
    let is = (subst IsKeptLine (sym same) each.0).at in
    let whole : text ≡ text_of step_line x.line ++ rest = parts ∙ ap (λ z. z ++ rest) (is.parts ∙ append-nil _) in
    record { within = omega arith; at = subst (λ z. IsAt step_line text z.line rest) same (line_before is whole) }
step_there (y ∷ kept) (suc k) x text rest each at parts =
    let there = step_there kept k x text rest each.1 at parts in
    record { within = omega (arith, there.within); at = there.at }

pub step_after : (kept : List KeptLine) (k : ℕ) (x : KeptLine) (text : List ℕ) (r : Option (Bor (List ℕ))) → AllByRecursion IsKeptLine kept
    → slice_get kept k ≡ Some x → MatchOption r ((rest : List ℕ) → text ≢ x.text.now ++ rest) (λ rest. text ≡ x.text.now ++ rest.now)
    → IfSome r (λ rest. IsStepThere (kept_lines kept) k text rest.now)
step_after kept k x text None each at begins = tt
step_after kept k x text (Some rest) each at begins = step_there kept k x text rest.now each at begins

-- the text of a line that is read
pub kept_line : (text more : List ℕ) (x : KeptLine) → IsAt step_line text x.line more → x.text.now ≡ take (length text - length more) text → IsKeptLine x
kept_line text more x at own =
    let size = ap length at.parts ∙ length-append (text_of step_line x.line) more in
    let is =
    own ∙ ap (take (length text - length more)) at.parts ∙ take_at (text_of step_line x.line) more (length text - length more) (omega (arith, size)) in
    record { at = line_before at (is ∙ sym (append-nil _)) }

pub each_kept : (kept : List KeptLine) (x : KeptLine) → AllByRecursion IsKeptLine kept → IsKeptLine x → AllByRecursion IsKeptLine (kept ++ x ∷ [])
each_kept [] x each here = (here, tt)
each_kept (y ∷ kept) x each here = (each.0, each_kept kept x each.1 here)

-- if each kept line is such a one, so is each line
pub all_at : (P : StepLineOf → Type 0) (xs : List StepLineOf) (ks : List ℕ) → AllByRecursion P xs → AreWithin xs ks → AllByRecursion P (lines_at xs ks)
all_at P xs [] all within = tt
all_at P xs (k ∷ ks) all within = (all_at_place P xs k no_line all within.0, all_at P xs ks all within.1)

-- Values that are seen and places that are stood at, by tests and by relations.

own_value_is : (b : Bool) → is_value (Some b) b ≡ true
own_value_is b = grind (arith)

no_other_value : (o : Option Bool) (b : Bool) → o ≢ Some b → is_value o b ≡ false
no_other_value o b given1 = grind (arith)

module _ (c : Configuration) (i : ℕ) where
  abbrev test : List ℕ × Bool → Bool
  test v = is_value (value_seen c.globals (stack_of c i) v.0) v.1

  all_seen : (vs : Valuation) → SeesValues c i vs → sees_values c i vs ≡ true
  all_seen [] sees = refl
  all_seen (v ∷ vs) sees =
      ap₂ (λ a b. a && b) (ap (λ o. is_value o v.1) sees.0 ∙ own_value_is v.1) (all_seen vs sees.1)

  one_mismatch : (vs : Valuation) (n : ℕ) (v : List ℕ × Bool) → slice_get vs n ≡ Some v → test v ≡ false → sees_values c i vs ≡ false
  one_mismatch [] n v at off = absurd cc
  one_mismatch (w ∷ vs) zero v at off = grind (arith)
  one_mismatch (w ∷ vs) (suc n) v at off = ap (λ b. test w && b) (one_mismatch vs n v at off) ∙ and-false (test w)

  pub seen_or_not : {X : Type 0} (o : Option X) (vs : Valuation) (place : X → ℕ) (seen : X → Option Bool) (all : Bool)
      → is_some o ≡ not all
      → MatchOption o (SeesValues c i vs) (λ r. IsFirstMismatch c i vs (place r) (seen r))
      → all ≡ sees_values c i vs
  seen_or_not None vs place seen true is found = sym (all_seen vs found)
  seen_or_not None vs place seen false is found = absurd cc
  seen_or_not (Some r) vs place seen true is first = absurd cc
  seen_or_not (Some r) vs place seen false is first =
      sym (one_mismatch vs (place r) first.value first.at
      (no_other_value (value_seen c.globals (stack_of c i) first.value.0) first.value.1 (λ same. first.differs (first.is_seen ∙ same))))

-- a step of thread i from c to d, and a reported one
module _ (x : StepOf) (c d : Configuration) (i : ℕ) where
  pub elsewhere : stands_at x.place (stack_of c i) ≡ false → is_step x c i d ≡ false
  elsewhere away = ap (λ b. ((i == x.thread) && b) && sees_values d i x.values) away ∙ ap (λ b. b && sees_values d i x.values) (and-false (i == x.thread))

  pub if_it_sees : (i == x.thread) ≡ true → stands_at x.place (stack_of c i) ≡ true → is_step x c i d ≡ sees_values d i x.values
  if_it_sees own here = λ j. (own j && here j) && sees_values d i x.values

-- the line of a number is that of the step of this number
pub step_listed : (text : List ℕ) (lines : List StepLineOf) (n : ℕ) (x : StepLineOf) → n < length lines → x ≡ get_or lines n x
    → slice_get (steps_of text lines) n ≡ Some (step_of text x)
step_listed text lines n x given1 given2 = search (rules, slice_get-map, slice_get-get_or)

-- A table that tells of each thread whether it waits.

-- one more thread
pub table_more : (f : ℕ → Bool) (xs new : List Bool) (b : Bool) (n : ℕ) → length xs ≡ n → new ≡ xs ++ b ∷ [] → b ≡ f n
    → ((i : ℕ) → i < n → get_or xs i false ≡ f i) → (i : ℕ) → i < n + 1 → get_or new i false ≡ f i
table_more f xs new b n given1 given2 given3 given4 i given5 = search (rules, cases_lt, get_or_append_left, get_or_push)
