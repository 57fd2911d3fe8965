-- Marks that are set one after the other.
use Rattle.bp_test.proofs.Common.{◌≡◌, ◌⊎◌, ◌<◌, ◌+◌, ◌-◌, ℕ, zero, suc, Bool, true, false, List, [], ◌∷◌, ◌++◌, Option, Some, length, take, get_or, refl, arith, ap, sym, ◌∙◌, subst, inl, inr, slice_get, slice_set, Any, slice_index_or, rules, cases_lt, length-set, get_or-set_same, get_or-set_other, get_or_append_left, get_or-append-add, get_or_past, length-append, take_more, Call, is_granted, at_end, same_or_not, is_marked, AreMarks, HasStep, MarksGrow}

-- the elements of a front, and the last one
pub in_front : {X : Type 0} (xs ys : List X) (n : ℕ) (x : X) → slice_get xs n ≡ Some x → slice_get (xs ++ ys) n ≡ Some x
in_front [] ys n x e = absurd cc
in_front (z ∷ zs) ys zero x e = e
in_front (z ∷ zs) ys (suc n) x e = in_front zs ys n x e

pub last_at : {X : Type 0} (xs : List X) (x : X) → slice_get (xs ++ x ∷ []) (length xs) ≡ Some x
last_at [] x = refl
last_at (z ∷ zs) x = last_at zs x

-- one more mark is set
pub set_kept : (marks : List Bool) (i n : ℕ) → is_marked marks n ≡ true → is_marked (slice_set marks i true) n ≡ true
set_kept marks i n given1 = search (rules, same_or_not, cases_lt, get_or-set_same, get_or_past, get_or-set_other)

pub set_here : (marks : List Bool) (i : ℕ) → i < length marks → is_marked (slice_set marks i true) i ≡ true
set_here marks i within = get_or-set_same marks i true false within

pub set_marked : (marks : List Bool) (i n : ℕ) → is_marked (slice_set marks i true) n ≡ true → (n ≡ i) ⊎ (is_marked marks n ≡ true)
set_marked marks i n given1 = search (rules, same_or_not, get_or-set_other)

-- no mark is set
pub no_marks : {X : Type 0} (at : ℕ → Option X) (P : X → Type 0) (old : List Bool) → ((x : X) → P x → ⊥) → MarksGrow at P old old
no_marks given1 = grind (arith)

-- no mark can be set if all are
pub all_marked : (P : ℕ → Type 0) (marks : List Bool) → ((n : ℕ) → n < length marks → is_marked marks n ≡ true) → MarksGrow (λ i. Some i) P marks marks
all_marked P marks all = record {
  size = refl;
  kept = λ n is. is;
  only = λ n is. inl is;
  all = λ i p. (i, refl, all i);
}

module _ {X : Type 0} (at : ℕ → Option X) (P Q : X → Type 0) (old cur : List Bool) (was : MarksGrow at P old cur) where
  -- equal things have the same marks
  pub same_marks : ((x : X) → P x → Q x) → ((x : X) → Q x → P x) → MarksGrow at Q old cur
  same_marks given1 given2 = grind (arith)

  -- one more is set
  pub one_mark : (n : ℕ) (x : X) → at n ≡ Some x → Q x → ((y : X) → P y → Q y) → ((y : X) → Q y → P y ⊎ (at n ≡ Some y))
      → MarksGrow at Q old (slice_set cur n true)
  one_mark n x given1 given2 given3 given4 = search (rules, length-set, set_kept, set_marked, set_here)

  -- and those of something else
  pub more_marks : (new : List Bool) → MarksGrow at Q cur new → MarksGrow at (λ x. P x ⊎ Q x) old new
  more_marks new given1 = grind (arith)

-- marks of equal things
pub other_marks : {X : Type 0} (at : ℕ → Option X) (P Q : X → Type 0) (count : ℕ) (marks : List Bool)
    → ((x : X) → P x → Q x) → ((x : X) → Q x → P x) → AreMarks at P count marks → AreMarks at Q count marks
other_marks given1 given2 given3 = grind (arith)

-- marks that have grown
pub grown_marks : {X : Type 0} (at : ℕ → Option X) (P Q : X → Type 0) (count : ℕ) (old new : List Bool)
    → AreMarks at P count old → MarksGrow at Q old new → AreMarks at (λ x. P x ⊎ Q x) count new
grown_marks given1 given2 = grind (arith)

-- marks of both, if those of the other marks were set too
pub both_marks : {X : Type 0} (at : ℕ → Option X) (P Q : X → Type 0) (count : ℕ) (old others new : List Bool)
    → AreMarks at P count old → AreMarks at Q count others
    → MarksGrow (λ i. Some i) (λ n. is_marked others n ≡ true) old new → AreMarks at (λ x. P x ⊎ Q x) count new
both_marks at P Q count old others new are more grow = record {
  size = grow.size ∙ are.size;
  only = λ n is. elim (grow.only n is) [
    | inl before ↦ ((are.only n before).0, (are.only n before).1, inl (are.only n before).2)
    | inr some ↦
        let here : is_marked others n ≡ true = (let same : n ≡ some.0 = cc (some.1) in rw same some.2) in
        ((more.only n here).0, (more.only n here).1, inr (more.only n here).2)
  ];
  all = λ x is. elim is [
    | inl p ↦ ((are.all x p).0, (are.all x p).1, λ within. grow.kept (are.all x p).0 ((are.all x p).2 within))
    | inr q ↦ ((more.all x q).0, (more.all x q).1, λ within. here (more.all x q).0 within ((more.all x q).2 within))
  ];
}
  where
    here : (n : ℕ) → n < count → is_marked others n ≡ true → is_marked new n ≡ true
    here n within is =
        let one = grow.all n is in
        let same : n ≡ one.0 = cc (one.1) in
        rw same (one.2 (subst (λ k. one.0 < k) (sym (grow.size ∙ are.size)) (rw (← same) within)))

-- an element of some run, if there are more runs
module _ {X : Type 0} (P : X → Type 0) (xs ys : List X) where
  pub any_first : Any P xs → Any P (xs ++ ys)
  any_first (k, x, within, is, p) = (k, x, rw length-append (omega (arith, within)), get_or_append_left xs ys x k within ∙ is, p)

  pub any_later : Any P ys → Any P (xs ++ ys)
  any_later (k, x, within, is, p) = (length xs + k, x, rw length-append (omega (arith, within)), get_or-append-add xs ys k x ∙ is, p)

  pub any_of_both : Any P (xs ++ ys) → Any P xs ⊎ Any P ys
  any_of_both (k, x, within, is, p) = elim (cases_lt k (length xs)) [
    | inl first ↦ inl (k, x, first, sym (get_or_append_left xs ys x k first) ∙ is, p)
    | inr past ↦ inr (
      k - length xs,
      x,
      (let all = rw length-append at within in omega (arith, all, past)),
      (let whole : length xs + (k - length xs) ≡ k = omega (arith, past) in
          sym (get_or-append-add xs ys (k - length xs) x) ∙ (ap (λ n. slice_index_or (xs ++ ys) n x) whole ∙ is)),
      p,
    )
  ]

-- of one run
pub any_one : {X : Type 0} (P : X → Type 0) (x : X) → P x → Any P (x ∷ [])
any_one P x p = (0, x, omega arith, refl, p)

pub one_of_any : {X : Type 0} (P : X → Type 0) (x : X) → Any P (x ∷ []) → P x
one_of_any given1 = grind (arith)

-- the threads that step, with one more attempt
module _ (h : List Call) (c : Call) where
  steps_then : (i : ℕ) → HasStep h i → HasStep (h ++ c ∷ []) i
  steps_then i given1 = search (rules, in_front)

  steps_cases : (i : ℕ) → HasStep (h ++ c ∷ []) i → HasStep h i ⊎ ((is_granted c.reply ≡ true) × (c.thread ≡ i))
  steps_cases i given1 = search (rules, at_end)

  module _ (old cur : List Bool) (was : MarksGrow (λ i. Some i) (HasStep h) old cur) where
    pub step_made : is_granted c.reply ≡ true → MarksGrow (λ i. Some i) (HasStep (h ++ c ∷ [])) old (slice_set cur c.thread true)
    step_made granted = one_mark (λ i. Some i) (HasStep h) (HasStep (h ++ c ∷ [])) old cur was c.thread c.thread refl
        (record { number = length h; call = c; has = last_at h c; granted = granted; thread = refl })
        steps_then
        (λ i step. elim (steps_cases i step) [
          | inl earlier ↦ inl earlier
          | inr last ↦ inr (ap (λ n. Some n) last.1)
        ])

    pub no_step : is_granted c.reply ≡ false → MarksGrow (λ i. Some i) (HasStep (h ++ c ∷ [])) old cur
    no_step given1 = search (rules, same_marks, steps_then, steps_cases)

-- the marks of other marks below n
abbrev pub IsMarkedBelow : List Bool → ℕ → ℕ → Type 0
IsMarkedBelow others n i = (i < n) × (is_marked others i ≡ true)

module _ (others : List Bool) (n : ℕ) (old cur : List Bool) (was : MarksGrow (λ i. Some i) (IsMarkedBelow others n) old cur) where
  below_then : (i : ℕ) → IsMarkedBelow others n i → IsMarkedBelow others (n + 1) i
  below_then i is = let below = is.0 in (omega (arith, below), is.1)

  below_cases : (i : ℕ) → IsMarkedBelow others (n + 1) i → IsMarkedBelow others n i ⊎ (i ≡ n)
  below_cases i given1 = grind (arith)

  pub if_marked : is_marked others n ≡ true → MarksGrow (λ i. Some i) (IsMarkedBelow others (n + 1)) old (slice_set cur n true)
  if_marked is =
      one_mark (λ i. Some i) (IsMarkedBelow others n) (IsMarkedBelow others (n + 1)) old cur was n n refl
      (omega arith, is) below_then (λ i at. elim (below_cases i at) [
        | inl earlier ↦ inl earlier
        | inr same ↦ inr (ap (λ k. Some k) (sym same))
      ])

  pub if_unmarked : is_marked others n ≡ false → MarksGrow (λ i. Some i) (IsMarkedBelow others (n + 1)) old cur
  if_unmarked given1 = grind (arith)

-- the marks after the attempt at i
module _ (h : List Call) (i : ℕ) (within : i < length h) (d : Call) (old cur : List Bool) (was : MarksGrow (λ i. Some i) (HasStep (take i h)) old cur) where
  pub step_at : is_granted (get_or h i d).reply ≡ true → MarksGrow (λ i. Some i) (HasStep (take (i + 1) h)) old (slice_set cur (get_or h i d).thread true)
  step_at granted =
      subst (λ g. MarksGrow (λ i. Some i) (HasStep g) old (slice_set cur (get_or h i d).thread true))
      (sym (take_more h i d within)) (step_made (take i h) (get_or h i d) old cur was granted)

  pub no_step_at : is_granted (get_or h i d).reply ≡ false → MarksGrow (λ i. Some i) (HasStep (take (i + 1) h)) old cur
  no_step_at refused =
      subst (λ g. MarksGrow (λ i. Some i) (HasStep g) old cur) (sym (take_more h i d within))
      (no_step (take i h) (get_or h i d) old cur was refused)
