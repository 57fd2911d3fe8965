-- The places that a history reaches, with one more attempt, and with one more thread that waits.
use Rattle.bp_test.proofs.Common.{◌≡◌, ◌⊎◌, ◌<◌, ◌≤◌, ◌+◌, ℕ, suc, Bool, true, false, List, [], ◌∷◌, ◌++◌, take, length, Option, None, Some, refl, ap, sym, ◌∙◌, subst, arith, inl, inr, if◌then◌else◌, slice_set, rules, length-append, take-append-le, take_all, Program, Place, Call, Reply, configuration_after, SetupOf, at_end, same_or_not, refuses_context, next_place, place_of, marks_after, IsNumberOf, IsReachedByCall, IsTried, IsWaitedAt, IsWaiting, Reaches, MarksGrow}
use Rattle.std.proofs.Math.Seq.{take-append_seam}
use Rattle.std.proofs.lemmas.Option.{slice_get_within}
use Rattle.bp_test.proofs.MarkLemmas.{in_front, last_at, more_marks, no_marks, same_marks, one_mark}

-- one place is marked
one_place : (t : Program) (P : Place → Type 0) (marks : List Bool) (n : ℕ) (x : Place) → place_of t n ≡ Some x → P x
    → ((y : Place) → P y → x ≡ y) → MarksGrow (place_of t) P marks (slice_set marks n true)
one_place t P marks n x here p only =
    one_mark (place_of t) (λ y. ⊥) P marks marks (no_marks (place_of t) (λ y. ⊥) marks (λ y e. e)) n x here p
    (λ y e. absurd e) (λ y q. inr (here ∙ ap Some (only y q)))

module _ (t : Program) (s : SetupOf) (h : List Call) (c : Call) where
  abbrev next : Option Place
  next = next_place (configuration_after t s h) c.thread

  whole : take (suc (length h)) (h ++ c ∷ []) ≡ h ++ c ∷ []
  whole = take_all (suc (length h)) (h ++ c ∷ []) (rw (length-append h (c ∷ [])) (omega arith))

  tried_then : (x : Place) → IsTried t s h x → IsTried t s (h ++ c ∷ []) x
  tried_then x given1 = search (rules, slice_get_within, in_front, take-append-le)

  tried_now : (x : Place) → refuses_context c.reply ≡ false → next ≡ Some x → IsTried t s (h ++ c ∷ []) x
  tried_now x granted here = record {
    before = length h;
    call = c;
    has = last_at h c;
    tried = granted;
    next = subst (λ g. next_place (configuration_after t s g) c.thread ≡ Some x) (sym (take-append_seam h (c ∷ []))) here;
  }

  tried_cases : (x : Place) → IsTried t s (h ++ c ∷ []) x → IsTried t s h x ⊎ ((refuses_context c.reply ≡ false) × (next ≡ Some x))
  tried_cases x given1 = search (rules, at_end, slice_get_within, take-append-le, take-append_seam)

  -- this attempt tried this place
  abbrev pub IsTriedNow : Place → Type 0
  IsTriedNow x = (refuses_context c.reply ≡ false) × (next ≡ Some x)

  -- after it its thread waits there
  abbrev pub WaitsNow : Place → Type 0
  WaitsNow x = IsWaiting t s (h ++ c ∷ []) c.thread x

  pub tried_marks : (marks : List Bool) (number : Option ℕ) → IsNumberOf t next number
      → MarksGrow (place_of t) IsTriedNow marks (marks_after number c.reply marks)
  tried_marks marks None none = no_marks (place_of t) IsTriedNow marks (λ x tried. let a = none in let b = tried.1 in cc)
  tried_marks marks (Some n) some = by (refuses_context c.reply) refl
    where
      by : (b : Bool) → refuses_context c.reply ≡ b → MarksGrow (place_of t) IsTriedNow marks (if b then marks else slice_set marks n true)
      by true refused = no_marks (place_of t) IsTriedNow marks (λ x tried. let a = refused in let b = tried.0 in cc)
      by false granted = one_place t IsTriedNow marks n some.0 some.2 (granted, some.1) (λ y tried. cc (sym some.1 ∙ tried.1))

  held_then : (x : Place) → IsWaitedAt t s h x → IsWaitedAt t s (h ++ c ∷ []) x
  held_then x held = let within = slice_get_within h held.before held.call held.has in record {
    before = held.before;
    call = held.call;
    has = in_front h (c ∷ []) held.before held.call held.has;
    waiting =
        let few : suc held.before ≤ length h = omega (arith, within) in
        subst (λ g. IsWaiting t s g held.call.thread x) (sym (take-append-le (suc held.before) h (c ∷ []) few)) held.waiting;
  }

  held_now : (x : Place) → WaitsNow x → IsWaitedAt t s (h ++ c ∷ []) x
  held_now x given1 = search (rules, last_at, whole)

  held_cases : (x : Place) → IsWaitedAt t s (h ++ c ∷ []) x → IsWaitedAt t s h x ⊎ WaitsNow x
  held_cases x held = elim (at_end h c held.call held.before held.has) [
    | inl earlier ↦ inl (record {
      before = held.before;
      call = held.call;
      has = earlier;
      waiting = let within = slice_get_within h held.before held.call earlier in
          let few : suc held.before ≤ length h = omega (arith, within) in
          subst (λ g. IsWaiting t s g held.call.thread x) (take-append-le (suc held.before) h (c ∷ []) few) held.waiting;
    })
    | inr last ↦ inr (subst (λ y. IsWaiting t s (h ++ c ∷ []) y.thread x) (sym last.1)
        (subst (λ g. IsWaiting t s g held.call.thread x) (ap (λ n. take (suc n) (h ++ c ∷ [])) last.0 ∙ whole) held.waiting))
  ]

  -- the marks after one more attempt
  pub reached_by_call : (old cur tried new : List Bool)
      → MarksGrow (place_of t) (IsReachedByCall t s h) old cur
      → MarksGrow (place_of t) IsTriedNow cur tried
      → MarksGrow (place_of t) WaitsNow tried new
      → MarksGrow (place_of t) (IsReachedByCall t s (h ++ c ∷ [])) old new
  reached_by_call old cur tried new was first after =
      let both = more_marks (place_of t) (IsReachedByCall t s h) IsTriedNow old cur was tried first in
      let all = more_marks (place_of t) (λ x. IsReachedByCall t s h x ⊎ IsTriedNow x) WaitsNow old tried both new after in
      same_marks (place_of t) (λ x. (IsReachedByCall t s h x ⊎ IsTriedNow x) ⊎ WaitsNow x) (IsReachedByCall t s (h ++ c ∷ [])) old new all
      (λ x is. elim is [
        | inl (inl (inl is_tried)) ↦ inl (tried_then x is_tried)
        | inl (inl (inr held)) ↦ inr (held_then x held)
        | inl (inr now) ↦ inl (tried_now x now.0 now.1)
        | inr waits_now ↦ inr (held_now x waits_now)
      ])
      (λ x is. elim is [
        | inl is_tried ↦ elim (tried_cases x is_tried) [
          | inl earlier ↦ inl (inl (inl earlier))
          | inr now ↦ inl (inr now)
        ]
        | inr held ↦ elim (held_cases x held) [
          | inl earlier ↦ inl (inl (inr earlier))
          | inr now ↦ inr now
        ]
      ])

-- no attempt, no place
pub none_by_call : (t : Program) (s : SetupOf) (old : List Bool) → MarksGrow (place_of t) (IsReachedByCall t s []) old old
none_by_call t s old = grind (arith)

-- the place at which thread i waits, and at which a thread below n does
module _ (t : Program) (s : SetupOf) (h : List Call) where
  abbrev pub WaitsBelow : ℕ → Place → Type 0
  WaitsBelow n x = (i : ℕ) × (i < n) × IsWaiting t s h i x

  pub waits_more : (n : ℕ) (old cur new : List Bool) → MarksGrow (place_of t) (WaitsBelow n) old cur
      → MarksGrow (place_of t) (IsWaiting t s h n) cur new → MarksGrow (place_of t) (WaitsBelow (n + 1)) old new
  waits_more n old cur new was here =
      same_marks (place_of t) (λ x. WaitsBelow n x ⊎ IsWaiting t s h n x) (WaitsBelow (n + 1)) old new
      (more_marks (place_of t) (WaitsBelow n) (IsWaiting t s h n) old cur was new here)
      (λ x is. elim is [
        | inl earlier ↦ (earlier.0, let below = earlier.1 in omega (arith, below), earlier.2)
        | inr last ↦ (n, omega arith, last)
      ])
      (λ x is. elim (same_or_not is.0 n) [
        | inl same ↦ inr (subst (λ i. IsWaiting t s h i x) same is.2)
        | inr other ↦ inl (is.0, let below = is.1 in omega (arith, below, other), is.2)
      ])

-- the marks of a whole run: at its start, by its attempts, and at its end
pub whole_marks : (t : Program) (s : SetupOf) (h : List Call) (old first cur new : List Bool)
    → MarksGrow (place_of t) (λ x. (i : ℕ) × IsWaiting t s [] i x) old first
    → MarksGrow (place_of t) (IsReachedByCall t s h) first cur
    → MarksGrow (place_of t) (λ x. (i : ℕ) × IsWaiting t s h i x) cur new
    → MarksGrow (place_of t) (Reaches t s h) old new
whole_marks t s h old first cur new start calls end =
    let at_start = λ (x : Place). (i : ℕ) × IsWaiting t s [] i x in
    let at_end = λ (x : Place). (i : ℕ) × IsWaiting t s h i x in
    let by_call = IsReachedByCall t s h in
    let both = more_marks (place_of t) at_start by_call old first start cur calls in
    let all = more_marks (place_of t) (λ x. at_start x ⊎ by_call x) at_end old cur both new end in
    same_marks (place_of t) (λ x. (at_start x ⊎ by_call x) ⊎ at_end x) (Reaches t s h) old new all
    (λ x is. elim is [
      | inl (inl waits_first) ↦ inr (waits_first.0, inl waits_first.1)
      | inl (inr called) ↦ inl called
      | inr waits_last ↦ inr (waits_last.0, inr waits_last.1)
    ])
    (λ x is. elim is [
      | inl called ↦ inl (inr called)
      | inr (i, inl waits_first) ↦ inl (inl (i, waits_first))
      | inr (i, inr waits_last) ↦ inr (i, waits_last)
    ])

-- the places that a history reaches do not depend on the seed
module _ (t : Program) (s : SetupOf) (o : Option ℕ) (x : Place) where
  pub reaches_with : (h : List Call) → Reaches t (record s { seed = o }) h x → Reaches t s h x
  reaches_with h given1 = grind (arith)

  pub reaches_without : (h : List Call) → Reaches t s h x → Reaches t (record s { seed = o }) h x
  reaches_without h given1 = grind (arith)

-- the marks, by the results of an attempt of a run
pub marks_of_call : (t : Program) (s z : SetupOf) (h new : List Call) (thread : ℕ) (number : Option ℕ) (r : Reply) (old cur tried now : List Bool) → z ≡ s
    → ((x : Call) × (new ≡ h ++ x ∷ []) × (x.thread ≡ thread) × (x.reply ≡ r))
    → IsNumberOf t (next_place (configuration_after t s h) thread) number
    → tried ≡ marks_after number r cur
    → MarksGrow (place_of t) (IsWaiting t z new thread) tried now
    → MarksGrow (place_of t) (IsReachedByCall t s h) old cur
    → MarksGrow (place_of t) (IsReachedByCall t z new) old now
marks_of_call t s z h new thread number r old cur tried now setup grown is_number reach waited was =
    let x = grown.0 in
    let own = subst (λ i. IsNumberOf t (next_place (configuration_after t s h) i) number) (sym grown.2) is_number in
    let replied = subst (λ p. MarksGrow (place_of t) (IsTriedNow t s h x) cur (marks_after number p cur)) grown.3 (tried_marks t s h x cur number own) in
    let marked = subst (λ m. MarksGrow (place_of t) (IsTriedNow t s h x) cur m) (sym reach) replied in
    let of_thread = subst (λ i. MarksGrow (place_of t) (IsWaiting t z new i) tried now) (sym grown.2) waited in
    let of_calls = subst (λ g. MarksGrow (place_of t) (IsWaiting t z g x.thread) tried now) grown.1 of_thread in
    let of_setup = subst (λ y. MarksGrow (place_of t) (IsWaiting t y (h ++ x ∷ []) x.thread) tried now) setup of_calls in
    let all = reached_by_call t s h x old cur tried now was marked of_setup in
    let whole = subst (λ g. MarksGrow (place_of t) (IsReachedByCall t s g) old now) (sym grown.1) all in
    subst (λ y. MarksGrow (place_of t) (IsReachedByCall t y new) old now) (sym setup) whole
