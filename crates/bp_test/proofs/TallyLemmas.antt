-- Counts of runs, and of more of them.
use Rattle.bp_test.proofs.Common.{◌≡◌, ◌≤◌, ℕ, zero, suc, List, [], ◌∷◌, ◌++◌, take, Option, sym, subst, arith, ◌⊎◌, ◌<◌, ◌+◌, ◌^◌, ◌-◌, min, max, Bool, true, cond, length, Some, ap, ◌∙◌, inl, inr, if◌then◌else◌, ◌==◌, fold, count_by, sum_by, slice_index_or, Any, rules, cases_lt, get_or_past, sum_by-append, fold-append, Program, Place, places_of, Call, Reply, configuration_after, SetupOf, threads, MAX_KEYS, key_after, no_call, one_call, IsKey, IsRunKey, next_place, IsNumberOf, is_marked, place_of, AreMarks, HasStep, MarksGrow, Reaches, MadeRun, AreKeys, capped, calls_of, longest_of, ends_of, ends_sum, using_contexts, count_with, IsCounted, IsTally, Tally}
use Rattle.std.proofs.Common.{length-append}
use Rattle.bp_test.proofs.MarkLemmas.{other_marks, grown_marks, both_marks, any_first, any_later, any_of_both, any_one, one_of_any}

-- The key of a run with one more attempt, the keys of more runs, and that no seed changes them.

-- the key, by the results of an attempt of a run
pub key_of_call : (t : Program) (s z : SetupOf) (h new : List Call) (thread : ℕ) (number : Option ℕ) (r : Reply) (key now : ℕ) → z ≡ s
    → ((x : Call) × (new ≡ h ++ x ∷ []) × (x.thread ≡ thread) × (x.reply ≡ r))
    → IsNumberOf t (next_place (configuration_after t s h) thread) number
    → now ≡ key_after key thread number r
    → IsKey t s h key
    → IsKey t z new now
key_of_call t s z h new thread number r key now setup grown is_number made was =
    let x = grown.0 in
    let own = subst (λ i. IsNumberOf t (next_place (configuration_after t s h) i) number) (sym grown.2) is_number in
    let all : IsKey t s (h ++ x ∷ []) (key_after key x.thread number x.reply) = one_call x number was own in
    let threaded = subst (λ i. IsKey t s (h ++ x ∷ []) (key_after key i number x.reply)) grown.2 all in
    let replied = subst (λ p. IsKey t s (h ++ x ∷ []) (key_after key thread number p)) grown.3 threaded in
    let keyed = subst (λ k. IsKey t s (h ++ x ∷ []) k) (sym made) replied in
    let whole = subst (λ g. IsKey t s g now) (sym grown.1) keyed in
    subst (λ y. IsKey t y new now) (sym setup) whole

-- no seed changes the key
key_without : (t : Program) (s : SetupOf) (o : Option ℕ) (h : List Call) (key : ℕ) → IsKey t (record s { seed = o }) h key → IsKey t s h key
key_without t s o h key no_call = no_call
key_without t s o h key (one_call call number was next) = one_call call number (key_without t s o _ _ was) next

pub run_key_without : (t : Program) (s : SetupOf) (o : Option ℕ) (h : List Call) (key : ℕ) → IsRunKey t (record s { seed = o }) h key → IsRunKey t s h key
run_key_without t s o h key is = record { steps = is.steps; of_steps = key_without t s o h is.steps is.of_steps; of_end = is.of_end }

module _ (t : Program) (s : SetupOf) where
  fewer_taken : (m n : ℕ) → m ≤ n → (runs : List MadeRun) (keys : List ℕ) → AreKeys t s (take n runs) keys → AreKeys t s (take m runs) (take m keys)
  fewer_taken zero n le runs keys are = tt
  fewer_taken (suc m) zero le runs keys are = absurd (omega (arith, le))
  fewer_taken (suc m) (suc n) le [] [] are = tt
  fewer_taken (suc m) (suc n) le [] (k ∷ ks) are = absurd are
  fewer_taken (suc m) (suc n) le (r ∷ rs) [] are = absurd are
  fewer_taken (suc m) (suc n) le (r ∷ rs) (k ∷ ks) are = (are.0, fewer_taken m n (omega (arith, le)) rs ks are.1)

  -- the keys of the first runs, and of more
  taken_both : (m n : ℕ) → m ≤ n → (runs more : List MadeRun) (keys others : List ℕ) → AreKeys t s (take m runs) keys
      → AreKeys t s (take n more) others → AreKeys t s (take m (runs ++ more)) (take m (keys ++ others))
  taken_both zero n le runs more keys others are also = tt
  taken_both (suc m) n le [] more [] others are also = fewer_taken (suc m) n le more others also
  taken_both (suc m) n le [] more (k ∷ ks) others are also = absurd are
  taken_both (suc m) n le (r ∷ rs) more [] others are also = absurd are
  taken_both (suc m) n le (r ∷ rs) more (k ∷ ks) others are also = (are.0, taken_both m n (omega (arith, le)) rs more ks others are.1 also)

  pub keys_both : (runs more : List MadeRun) (keys others new : List ℕ) → new ≡ take MAX_KEYS (keys ++ others)
      → AreKeys t s (take MAX_KEYS runs) keys → AreKeys t s (take MAX_KEYS more) others
      → AreKeys t s (take MAX_KEYS (runs ++ more)) new
  keys_both runs more keys others new same are also =
      subst (AreKeys t s (take MAX_KEYS (runs ++ more))) (sym same)
      (taken_both MAX_KEYS MAX_KEYS (omega arith) runs more keys others are also)

  pub keys_with : (runs : List MadeRun) (r : MadeRun) (keys new : List ℕ) (key : ℕ)
      → new ≡ take MAX_KEYS (keys ++ key ∷ []) → AreKeys t s (take MAX_KEYS runs) keys → IsRunKey t s r.history key
      → AreKeys t s (take MAX_KEYS (runs ++ r ∷ [])) new
  keys_with runs r keys new key same are is = keys_both runs (r ∷ []) keys (key ∷ []) new same are (is, tt)

-- the stored count of both is the sum of the stored counts of each
pub capped_both : (a b n : ℕ) → n ≡ a + b → capped n ≡ capped (capped a + capped b)
capped_both a b n e = omega (arith, e)

pub count_both : (p : MadeRun → Bool) (xs ys : List MadeRun) → capped (count_by p (xs ++ ys)) ≡ capped (capped (count_by p xs) + capped (count_by p ys))
count_both p xs ys = capped_both (count_by p xs) (count_by p ys) (count_by p (xs ++ ys)) (sum_by-append _ xs ys)

pub ends_both : (xs ys : List MadeRun) → ends_of (xs ++ ys) ≡ ends_sum (ends_of xs) (ends_of ys)
ends_both xs ys = simp count_both

pub most_from : (a : ℕ) (xs : List MadeRun) → fold (λ most r. max most (calls_of r)) a xs ≡ max a (longest_of xs)
most_from a [] = omega arith
most_from a (x ∷ xs) = search (rules, (most_from (max a (calls_of x)) xs), (most_from (max 0 (calls_of x)) xs), max)

pub longest_both : (xs ys : List MadeRun) → longest_of (xs ++ ys) ≡ max (longest_of xs) (longest_of ys)
longest_both xs ys = fold-append (λ most r. max most (calls_of r)) 0 xs ys ∙ most_from (longest_of xs) ys

-- the steps of some run, if there are more runs
abbrev pub SomeSteps : List MadeRun → ℕ → Type 0
SomeSteps runs i = Any (λ r. HasStep r.history i) runs

abbrev pub SomeReaches : Program → SetupOf → List MadeRun → Place → Type 0
SomeReaches t s runs p = Any (λ r. Reaches t s r.history p) runs

-- the counts of runs and of more of them
module _ (s : SetupOf) (runs more : List MadeRun) (old new : Tally) (was : IsCounted s runs old) where
  pub counted_both : new.runs ≡ capped (old.runs + capped (length more))
      → new.calls ≡ capped (old.calls + capped (sum_by calls_of more))
      → new.longest ≡ max old.longest (longest_of more)
      → new.ends ≡ ends_of (runs ++ more)
      → ((k : ℕ) → slice_index_or new.contexts.items k 0 ≡ capped (slice_index_or old.contexts.items k 0 + capped (using_contexts k more)))
      → AreMarks (λ i. Some i) (λ i. SomeSteps runs i ⊎ SomeSteps more i) (threads s) new.stepped.items
      → IsCounted s (runs ++ more) new
  counted_both count calls longest ends contexts stepped = record {
    count =
        count ∙ (ap (λ n. capped (n + capped (length more))) was.count
        ∙ sym (capped_both (length runs) (length more) (length (runs ++ more)) (length-append runs more)));
    calls =
        calls ∙ (ap (λ n. capped (n + capped (sum_by calls_of more))) was.calls
        ∙ sym (capped_both (sum_by calls_of runs) (sum_by calls_of more) (sum_by calls_of (runs ++ more))
        (sum_by-append calls_of runs more)));
    longest = longest ∙ (ap (λ n. max n (longest_of more)) was.longest ∙ sym (longest_both runs more));
    ends = ends;
    contexts = λ k.
        contexts k ∙ (ap (λ n. capped (n + capped (using_contexts k more))) (was.contexts k)
        ∙ sym (count_both (λ r. r.report.contexts == k) runs more));
    stepped = other_marks (λ i. Some i) (λ i. SomeSteps runs i ⊎ SomeSteps more i) (SomeSteps (runs ++ more)) (threads s) new.stepped.items
        (λ i is. elim is [ inl one ↦ any_first (λ r. HasStep r.history i) runs more one | inr two ↦ any_later (λ r. HasStep r.history i) runs more two ])
        (λ i is. any_of_both (λ r. HasStep r.history i) runs more is)
        stepped;
  }

-- the marks of the places, likewise
pub reached_both : (t : Program) (s : SetupOf) (runs more : List MadeRun) (count : ℕ) (marks : List Bool)
    → AreMarks (place_of t) (λ p. SomeReaches t s runs p ⊎ SomeReaches t s more p) count marks
    → AreMarks (place_of t) (SomeReaches t s (runs ++ more)) count marks
reached_both t s runs more count marks are =
    other_marks (place_of t) (λ p. SomeReaches t s runs p ⊎ SomeReaches t s more p) (SomeReaches t s (runs ++ more)) count marks
    (λ p is. elim is [ inl one ↦ any_first (λ r. Reaches t s r.history p) runs more one | inr two ↦ any_later (λ r. Reaches t s r.history p) runs more two ])
    (λ p is. any_of_both (λ r. Reaches t s r.history p) runs more is)
    are

pub few_contexts : (s : SetupOf) (runs : List MadeRun) (x : Tally) → IsCounted s runs x → (k : ℕ) → slice_index_or x.contexts.items k 0 ≤ 2 ^ 64 - 1
few_contexts s runs x was k = let here = was.contexts k in omega (arith, here)

-- one more run
module _ (s : SetupOf) (runs : List MadeRun) (r : MadeRun) (old new : Tally) (was : IsCounted s runs old) where
  one_used : (b : Bool) (a : ℕ) → a ≤ 2 ^ 64 - 1 → (if b then capped (a + 1) else a) ≡ capped (a + capped (0 + cond b 1 0))
  one_used b a given1 = grind (arith)

  pub counted_run : new.runs ≡ min (old.runs + 1) (2 ^ 64 - 1)
      → new.calls ≡ min (old.calls + r.report.calls) (2 ^ 64 - 1)
      → new.longest ≡ max old.longest r.report.calls
      → new.ends ≡ ends_of (runs ++ r ∷ [])
      → ((k : ℕ) → slice_index_or new.contexts.items k 0 ≡ count_with r.report.contexts 1 old.contexts.items k)
      → MarksGrow (λ i. Some i) (HasStep r.history) old.stepped.items new.stepped.items
      → IsCounted s (runs ++ r ∷ []) new
  counted_run count calls longest ends contexts stepped = counted_both s runs (r ∷ []) old new was
      (omega (arith, count))
      (omega (arith, calls))
      (omega (arith, longest))
      ends
      (λ k. contexts k ∙ one_used (r.report.contexts == k) (slice_index_or old.contexts.items k 0) (few_contexts s runs old was k))
      (other_marks (λ i. Some i) (λ i. SomeSteps runs i ⊎ HasStep r.history i) (λ i. SomeSteps runs i ⊎ SomeSteps (r ∷ []) i) (threads s) new.stepped.items
      (λ i is. elim is [ inl one ↦ inl one | inr here ↦ inr (any_one (λ q. HasStep q.history i) r here) ])
      (λ i is. elim is [ inl one ↦ inl one | inr here ↦ inr (one_of_any (λ q. HasStep q.history i) r here) ])
      (grown_marks (λ i. Some i) (SomeSteps runs) (HasStep r.history) (threads s) old.stepped.items new.stepped.items was.stepped stepped))

-- a run whose marks were set before it was counted
pub tally_run : (t : Program) (s : SetupOf) (runs : List MadeRun) (r : MadeRun) (old new : Tally) (cur : List Bool) (key : ℕ)
    → IsTally t s runs old
    → IsRunKey t s r.history key
    → new.keys.items ≡ take MAX_KEYS (old.keys.items ++ key ∷ [])
    → MarksGrow (place_of t) (Reaches t s r.history) old.reached.items cur
    → new.reached.items ≡ cur
    → IsCounted s (runs ++ r ∷ []) new
    → IsTally t s (runs ++ r ∷ []) new
tally_run t s runs r old new cur key was keyed keys grow same counted = record {
  counted = counted;
  keys = keys_with t s runs r old.keys.items new.keys.items key keys was.keys keyed;
  reached =
      subst (λ marks. AreMarks (place_of t) (SomeReaches t s (runs ++ r ∷ [])) (length (places_of t.procedures)) marks)
      (sym same) (reached_both t s runs (r ∷ []) (length (places_of t.procedures)) cur
      (other_marks (place_of t) (λ p. SomeReaches t s runs p ⊎ Reaches t s r.history p)
      (λ p. SomeReaches t s runs p ⊎ SomeReaches t s (r ∷ []) p) (length (places_of t.procedures)) cur
      (λ p is. elim is [ inl one ↦ inl one | inr here ↦ inr (any_one (λ q. Reaches t s q.history p) r here) ])
      (λ p is. elim is [ inl one ↦ inl one | inr here ↦ inr (one_of_any (λ q. Reaches t s q.history p) r here) ])
      (grown_marks (place_of t) (SomeReaches t s runs) (Reaches t s r.history) (length (places_of t.procedures)) old.reached.items cur was.reached grow)));
}

-- a tally that differs only in its marks has the same counts
pub same_counts : (s : SetupOf) (runs : List MadeRun) (old new : Tally) → new.runs ≡ old.runs → new.calls ≡ old.calls
    → new.longest ≡ old.longest → new.ends ≡ old.ends → new.contexts ≡ old.contexts → new.stepped ≡ old.stepped
    → IsCounted s runs old → IsCounted s runs new
same_counts s runs old new given1 given2 given3 given4 given5 given6 given7 = grind (arith)

-- the tallies of runs and of more of them
pub tally_both : (t : Program) (s : SetupOf) (runs more : List MadeRun) (old other new : Tally)
    → IsTally t s runs old
    → IsTally t s more other
    → new.runs ≡ min (old.runs + other.runs) (2 ^ 64 - 1)
    → new.calls ≡ min (old.calls + other.calls) (2 ^ 64 - 1)
    → new.longest ≡ max old.longest other.longest
    → new.ends ≡ ends_sum old.ends other.ends
    → ((k : ℕ) → slice_index_or new.contexts.items k 0 ≡ capped (slice_index_or old.contexts.items k 0 + slice_index_or other.contexts.items k 0))
    → new.keys.items ≡ take MAX_KEYS (old.keys.items ++ other.keys.items)
    → MarksGrow (λ i. Some i) (λ n. is_marked other.stepped.items n ≡ true) old.stepped.items new.stepped.items
    → MarksGrow (λ i. Some i) (λ n. is_marked other.reached.items n ≡ true) old.reached.items new.reached.items
    → IsTally t s (runs ++ more) new
tally_both t s runs more old other new was also count calls longest ends contexts keys stepped reached = record {
  keys = keys_both t s runs more old.keys.items other.keys.items new.keys.items keys was.keys also.keys;
  counted = counted_both s runs more old new was.counted
      (count ∙ ap (λ n. capped (old.runs + n)) also.counted.count)
      (calls ∙ ap (λ n. capped (old.calls + n)) also.counted.calls)
      (longest ∙ ap (λ n. max old.longest n) also.counted.longest)
      (ends ∙ (ap (λ e. ends_sum old.ends e) also.counted.ends
      ∙ (ap (λ e. ends_sum e (ends_of more)) was.counted.ends ∙ sym (ends_both runs more))))
      (λ k. contexts k ∙ ap (λ n. capped (slice_index_or old.contexts.items k 0 + n)) (also.counted.contexts k))
      (both_marks (λ i. Some i) (SomeSteps runs) (SomeSteps more) (threads s) old.stepped.items other.stepped.items
      new.stepped.items was.counted.stepped also.counted.stepped stepped);
  reached = reached_both t s runs more (length (places_of t.procedures)) new.reached.items
      (both_marks (place_of t) (SomeReaches t s runs) (SomeReaches t s more)
      (length (places_of t.procedures)) old.reached.items other.reached.items new.reached.items was.reached
      also.reached reached);
}

pub all_added : (i : ℕ) (start now items : List ℕ) → length items ≤ i
    → ((k : ℕ) → k < i → slice_index_or now k 0 ≡ capped (slice_index_or start k 0 + slice_index_or items k 0))
    → ((k : ℕ) → i ≤ k → slice_index_or now k 0 ≡ slice_index_or start k 0)
    → ((k : ℕ) → slice_index_or start k 0 ≤ 2 ^ 64 - 1)
    → (k : ℕ) → slice_index_or now k 0 ≡ capped (slice_index_or start k 0 + slice_index_or items k 0)
all_added i start now items given1 given2 given3 given4 k = search (rules, cases_lt, get_or_past)
