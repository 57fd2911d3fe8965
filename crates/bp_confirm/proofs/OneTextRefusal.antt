-- A text of steps has at most one refusal, and none if a history confirms it.
use Rattle.bp_confirm.proofs.Common.{◌≡◌, ◌∙◌, ◌<◌, ◌+◌, ℕ, Bool, true, false, List, [], ◌∷◌, length, take, drop, get_or, Some, refl, ap, sym, subst, arith, ◌≢◌, slice_get, rules, length-take, false≢true, Program, Valuation, SetupOf, Call, least_opened, IsWellFormedText, declares, ContextBound, Kept, AsUsed, StepLineOf, HasLines, IsBadLine, AreDeclared, IsFirstUndeclared, AreDeclaredLines, IsFirstUndeclaredLine, AreRead, HasFitLength, IsConfirmedText, IsStepsRefusal, IsSetupFor, contexts_allowed, IsDeclared, IsOfNoThread, IsOfNoVariable, IsStepRefusal, ConfirmError, TooLong, NoSteps, NoThread, NoVariable, Step, Memory, StepRefusal, LastChoice, zeros, NoRefusalOfConfirmed, OneRefusal, none_bad, one_bad, one_reading, slice_get_within}
use Rattle.bp_trace.specs.declared.limits.TheConstants.{MAX_SCHEDULE}
use Rattle.bp_confirm.specs.declared.confirmations.ConfirmError.TheVariants.{Line}
use Rattle.bp_trace.proofs.HeadsRead.{all_of_both}
use Rattle.bp_confirm.proofs.Elements.{all_here, first_once, parts_at, parts_got, take_got}
use Rattle.bp_confirm.proofs.OneStepRefusal.{not_followed_too, one_step_refusal}

-- The first undeclared value, and the first line with one.

module _ (t : Program) (v : List ℕ × Bool) where
  pub first_undeclared : (vs : Valuation) (n : ℕ) → slice_get vs n ≡ Some v → AreDeclared t (take n vs) → declares t v.0 ≡ false → IsFirstUndeclared t vs n
  first_undeclared vs n at first none = record {
    before = take n vs;
    value = v;
    after = drop (n + 1) vs;
    parts = parts_got vs n v at;
    first = first;
    number = let within = slice_get_within vs n v at in let size : length (take n vs) ≡ n = simp length-take (omega arith) in sym size;
    undeclared = none;
  }

  pub declared_more : (vs : Valuation) (n : ℕ) → slice_get vs n ≡ Some v → AreDeclared t (take n vs) → declares t v.0 ≡ true → AreDeclared t (take (n + 1) vs)
  declared_more vs n at first here = subst (AreDeclared t) (sym (take_got vs n v at)) (all_of_both (λ x. declares t x.0 ≡ true) (take n vs) (v ∷ []) first (here, tt))

-- the lines
module _ (t : Program) (s : SetupOf) (xs : List StepLineOf) (n : ℕ) (d x : StepLineOf) (within : n < length xs)
    (first : AreDeclaredLines t s (take n xs)) (is : x ≡ get_or xs n d) where
  pub first_undeclared_line : (Is : StepLineOf → Type 0) → Is x → IsFirstUndeclaredLine t s xs (n + 1) Is
  first_undeclared_line Is here = record {
    before = take n xs;
    line = get_or xs n d;
    later = drop (n + 1) xs;
    parts = parts_at xs n d within;
    first = first;
    number = let size : length (take n xs) ≡ n = simp length-take (omega arith) in omega (arith, size);
    is = subst Is is here;
  }

-- lines with undeclared names
module _ (t : Program) (s : SetupOf) where
  not_both : (vs : Valuation) (n : ℕ) → IsFirstUndeclared t vs n → AreDeclared t vs → ⊥
  not_both vs n given1 given2 = search (rules, false≢true, all_here)

  one_undeclared : (vs : Valuation) (m n : ℕ) → IsFirstUndeclared t vs m → IsFirstUndeclared t vs n → m ≡ n
  one_undeclared vs m n given1 given2 = search (rules, first_once, false≢true)

  abbrev pub IsUndeclared : (StepLineOf → Type 0) → Type 0
  IsUndeclared Is = (x : StepLineOf) → Is x → IsDeclared t s x → ⊥

  pub no_thread : (i : ℕ) → IsUndeclared (IsOfNoThread s i)
  no_thread i x is declared = omega (arith, is.is, is.none, declared.thread)

  pub no_variable : (n : ℕ) → IsUndeclared (IsOfNoVariable t s n)
  no_variable n x is declared = not_both x.values n is.variable declared.variables

  module _ (lines : List StepLineOf) where
    pub undeclared_line_alone : (n : ℕ) (Is : StepLineOf → Type 0) → IsUndeclared Is → IsFirstUndeclaredLine t s lines n Is → AreDeclaredLines t s lines → ⊥
    undeclared_line_alone n Is undeclared_line p all = undeclared_line p.line p.is (all_here (IsDeclared t s) p.before p.line p.later (subst (AreDeclaredLines t s) p.parts all))

    one_undeclared_line : (m n : ℕ) (Is Are : StepLineOf → Type 0) → IsUndeclared Is → IsUndeclared Are → (p : IsFirstUndeclaredLine t s lines m Is) → (q : IsFirstUndeclaredLine t s lines n Are)
        → (m ≡ n) × (p.line ≡ q.line)
    one_undeclared_line m n Is Are given1 given2 p q = search (rules, first_once)

one_setup : (s : SetupOf) (lines : List StepLineOf) (bound : ContextBound) (a b : SetupOf) → IsSetupFor s lines bound a → IsSetupFor s lines bound b → a ≡ b
one_setup s lines Kept a b p q = p ∙ sym q
one_setup s lines AsUsed a b p q =
    let used : p.used ≡ q.used = least_opened p.used _ p.least ∙ sym (least_opened q.used _ q.least) in
    p.is ∙ ap (λ k. record s { contexts = contexts_allowed k }) used ∙ sym q.is

module _ (text : List ℕ) (t : Program) (is : IsWellFormedText text t) (s : SetupOf) (steps : List ℕ) (bound : ContextBound) where
  -- the errors for which the lines of the text are refused
  data OnLines (lines : List StepLineOf) : ConfirmError → Type 0 where
    of_no_thread : (n i : ℕ) → IsFirstUndeclaredLine t s lines n (IsOfNoThread s i) → OnLines lines (NoThread n i)
    of_no_variable : (n k : ℕ) → IsFirstUndeclaredLine t s lines n (IsOfNoVariable t s k) → OnLines lines (NoVariable n k)
    of_step : (r : StepRefusal) (setup : SetupOf) → AreDeclaredLines t s lines → IsSetupFor s lines bound setup
        → IsStepRefusal text t setup zeros lines r → OnLines lines (Step r)

  data OnText : ConfirmError → Type 0 where
    of_length : MAX_SCHEDULE < length steps → OnText TooLong
    of_nothing : length steps ≡ 0 → OnText NoSteps
    of_line : (n : ℕ) → HasFitLength t s steps → IsBadLine steps n → OnText (Line n)
    of_lines : (f : ConfirmError) (lines : List StepLineOf) → AreRead t s steps lines → OnLines lines f → OnText f

  sorted : (f : ConfirmError) → f ≢ Memory → IsStepsRefusal t s steps text bound f → OnText f
  sorted TooLong other p = of_length p
  sorted NoSteps other p = of_nothing p
  sorted (Line n) other p = of_line n p.0 p.1
  sorted (NoThread n i) other p = of_lines (NoThread n i) p.lines p.read (of_no_thread n i p.undeclared_line)
  sorted (NoVariable n k) other p = of_lines (NoVariable n k) p.lines p.read (of_no_variable n k p.undeclared_line)
  sorted (Step r) other p = of_lines (Step r) p.lines p.told.read (of_step r p.setup p.told.declared p.allows p.refused)
  sorted Memory other p = absurd (other refl)

  too_long : {X : Type 0} → MAX_SCHEDULE < length steps → HasFitLength t s steps → X
  too_long long fit = absurd (omega (arith, long, fit.1))

  empty : {X : Type 0} → length steps ≡ 0 → HasFitLength t s steps → X
  empty none fit = absurd (omega (arith, none, fit.0))

  long_or_empty : {X : Type 0} → MAX_SCHEDULE < length steps → length steps ≡ 0 → X
  long_or_empty long none = absurd (omega (arith, long, none))

  bad_or_read : {X : Type 0} (n : ℕ) (lines : List StepLineOf) → IsBadLine steps n → HasLines steps lines → X
  bad_or_read n lines bad has = absurd (none_bad has bad)

  same_bad : (m n : ℕ) → IsBadLine steps m → IsBadLine steps n → m ≡ n
  same_bad m n p q = one_bad p q

  same_lines : (xs ys : List StepLineOf) → AreRead t s steps xs → AreRead t s steps ys → xs ≡ ys
  same_lines xs ys p q = one_reading p.has q.has

  module _ (lines : List StepLineOf) where
    thread_or_variable : {X : Type 0} (m n i k : ℕ) → IsFirstUndeclaredLine t s lines m (IsOfNoThread s i) → IsFirstUndeclaredLine t s lines n (IsOfNoVariable t s k) → X
    thread_or_variable m n i k p q =
        let same = (one_undeclared_line t s lines m n (IsOfNoThread s i) (IsOfNoVariable t s k) (no_thread t s i) (no_variable t s k) p q).1 in
        let thread = ap (λ x. x.thread) same in
        absurd (omega (arith, thread, p.is.is, p.is.none, q.is.thread))

    one_on_lines : (f g : ConfirmError) → OnLines lines f → OnLines lines g → f ≡ g
    one_on_lines _ _ (of_no_thread m i p) (of_no_thread n j q) =
        let same = one_undeclared_line t s lines m n (IsOfNoThread s i) (IsOfNoThread s j) (no_thread t s i) (no_thread t s j) p q in
        let thread : i ≡ j = sym p.is.is ∙ ap (λ x. x.thread) same.1 ∙ q.is.is in
        λ x. NoThread (same.0 x) (thread x)
    one_on_lines _ _ (of_no_thread m i p) (of_no_variable n k q) = thread_or_variable m n i k p q
    one_on_lines _ _ (of_no_thread m i p) (of_step r setup declared allows q) = absurd (undeclared_line_alone t s lines m (IsOfNoThread s i) (no_thread t s i) p declared)
    one_on_lines _ _ (of_no_variable m k p) (of_no_thread n i q) = thread_or_variable n m i k q p
    one_on_lines _ _ (of_no_variable m k p) (of_no_variable n l q) =
        let same = one_undeclared_line t s lines m n (IsOfNoVariable t s k) (IsOfNoVariable t s l) (no_variable t s k) (no_variable t s l) p q in
        let value : k ≡ l = one_undeclared t s q.line.values k l (subst (λ x. IsFirstUndeclared t x.values k) same.1 p.is.variable) q.is.variable in
        λ x. NoVariable (same.0 x) (value x)
    one_on_lines _ _ (of_no_variable m k p) (of_step r setup declared allows q) =
        absurd (undeclared_line_alone t s lines m (IsOfNoVariable t s k) (no_variable t s k) p declared)
    one_on_lines _ _ (of_step r setup declared allows p) (of_no_thread n i q) = absurd (undeclared_line_alone t s lines n (IsOfNoThread s i) (no_thread t s i) q declared)
    one_on_lines _ _ (of_step r setup declared allows p) (of_no_variable n k q) =
        absurd (undeclared_line_alone t s lines n (IsOfNoVariable t s k) (no_variable t s k) q declared)
    one_on_lines _ _ (of_step r setup declared allows p) (of_step o other as_well permits q) =
        let same = one_setup s lines bound other setup permits allows in
        ap Step (one_step_refusal text t is setup zeros lines r o p (subst (λ z. IsStepRefusal text t z zeros lines o) same q))

  one_sorted : (f g : ConfirmError) → OnText f → OnText g → f ≡ g
  one_sorted _ _ (of_length long) (of_length more) = refl
  one_sorted _ _ (of_length long) (of_nothing none) = long_or_empty long none
  one_sorted _ _ (of_length long) (of_line n fit bad) = too_long long fit
  one_sorted _ _ (of_length long) (of_lines g lines read on) = too_long long read.fit
  one_sorted _ _ (of_nothing none) (of_length long) = long_or_empty long none
  one_sorted _ _ (of_nothing none) (of_nothing also) = refl
  one_sorted _ _ (of_nothing none) (of_line n fit bad) = empty none fit
  one_sorted _ _ (of_nothing none) (of_lines g lines read on) = empty none read.fit
  one_sorted _ _ (of_line n fit bad) (of_length long) = too_long long fit
  one_sorted _ _ (of_line n fit bad) (of_nothing none) = empty none fit
  one_sorted _ _ (of_line m fit bad) (of_line n also worse) = ap Line (same_bad m n bad worse)
  one_sorted _ _ (of_line n fit bad) (of_lines g lines read on) = bad_or_read n lines bad read.has
  one_sorted _ _ (of_lines f lines read on) (of_length long) = too_long long read.fit
  one_sorted _ _ (of_lines f lines read on) (of_nothing none) = empty none read.fit
  one_sorted _ _ (of_lines f lines read on) (of_line n fit bad) = bad_or_read n lines bad read.has
  one_sorted _ _ (of_lines f xs read on) (of_lines g ys also to) = one_on_lines xs f g on (subst (λ zs. OnLines zs g) (same_lines ys xs also read) to)

  module _ (setup : SetupOf) (h : List Call) (choices : List LastChoice) (confirmed : IsConfirmedText t s steps text bound setup h choices) where
    none_on_lines : (f : ConfirmError) → OnLines confirmed.lines f → ⊥
    none_on_lines _ (of_no_thread n i p) = undeclared_line_alone t s confirmed.lines n (IsOfNoThread s i) (no_thread t s i) p confirmed.told.declared
    none_on_lines _ (of_no_variable n k p) = undeclared_line_alone t s confirmed.lines n (IsOfNoVariable t s k) (no_variable t s k) p confirmed.told.declared
    none_on_lines _ (of_step r other declared allows p) =
        let same = one_setup s confirmed.lines bound other setup allows confirmed.allows in
        not_followed_too text t is setup zeros confirmed.lines r (subst (λ z. IsStepRefusal text t z zeros confirmed.lines r) same p)
        confirmed.confirmed.zeroed confirmed.confirmed.take.by_zeros

    none_sorted : (f : ConfirmError) → OnText f → ⊥
    none_sorted _ (of_length long) = too_long long confirmed.told.read.fit
    none_sorted _ (of_nothing none) = empty none confirmed.told.read.fit
    none_sorted _ (of_line n fit bad) = bad_or_read n confirmed.lines bad confirmed.told.read.has
    none_sorted _ (of_lines f lines read on) = none_on_lines f (subst (λ zs. OnLines zs f) (same_lines lines confirmed.lines read confirmed.told.read) on)

    by_error : (f : ConfirmError) → IsStepsRefusal t s steps text bound f → f ≡ Memory
    by_error f given1 = search (rules, none_sorted, sorted)

pub one_refusal : OneRefusal
one_refusal text t s steps bound f g is one two p q =
    one_sorted text t is s steps bound f g (sorted text t is s steps bound f one p) (sorted text t is s steps bound g two q)

pub no_refusal_of_confirmed : NoRefusalOfConfirmed
no_refusal_of_confirmed text t s steps bound setup h choices f is confirmed p = by_error text t is s steps bound setup h choices confirmed f p
