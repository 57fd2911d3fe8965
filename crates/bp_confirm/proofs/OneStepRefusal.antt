-- Steps have at most one refusal, and none if a history confirms them.
use Rattle.bp_confirm.proofs.Common.{◌≡◌, ◌≢◌, ◌∙◌, ℕ, zero, suc, Bool, true, List, [], ◌∷◌, ◌++◌, length, Option, None, Some, refl, ap, sym, subst, ◌+◌, arith, length-append, rules, false≢true, append-nil, map-append, map_push, regrouped, Block, Done, Then, Program, Configuration, chain, Valuation, start_of_block, Call, Reply, stack_of, configuration_after, is_terminated, SetupOf, IsWellFormedText, Difference, StepReason, Elsewhere, Ambiguous, Finished, Refused, Differs, seen_by, seen_after, IsLastChange, GoesOnAt, IsAnswered, IsReason, IsUnclear, SeesOther, StandsAtPlace, ForStuck, IsStepRefusal, thread_place_of, AreBothAt, AreBothWays, IsAmbiguous, IsAmbiguousOnStack, IsClear, IsClearOnStack, IsClearWay, LastBits, Follows, FollowAfter, IsFollowed, Place, StepOf, value_seen, IsFirstMismatch, StepLineOf, step_of, steps_of, Takes, StepRefusal}
use Rattle.bp_confirm.proofs.OnePosition.{IsFull, full_place}
use Rattle.bp_confirm.proofs.StepMoves.{other_values, seen_same}
use Rattle.bp_confirm.proofs.LastChanges.{one_change}
use Rattle.bp_confirm.proofs.StepsFollowed.{mismatch_not, follow_more, taken}
use Rattle.bp_confirm.proofs.StartsInOrder.{starts_distinct, one_goes_on}
use Rattle.bp_confirm.proofs.OneConfirmed.{refused_is_not_taken}
use Rattle.bp_trace.proofs.Walks.{Walk, Stays, Goes, IsSingle, Stops, one_end}
use Rattle.bp_confirm.proofs.Agreement.{same_stack_there}

-- A step has at most one reason against it.

-- if the later steps tell which way a `?` went, it may not have gone either way
module _ (text : List ℕ) (t : Program) (is : IsWellFormedText text t) where
  apart_starts : (p : Place) (a k other : Block) → a ≢ Done → AreBothAt t p (chain a k) other → chain a k ≡ other → ⊥
  apart_starts p Done k other some both same = some refl
  apart_starts p (Then label at x b) k other some both same =
      both.ways.apart (starts_distinct text t is.derived both.ways.one both.ways.two at both.ways.taken_is
      (both.ways.other_is ∙ ap (λ y. Some (start_of_block y)) (sym same)))

  by_ways : (next : Option Place) (a k other : Block) → a ≢ Done → IsClearWay next (chain a k) other → AreBothWays t next (chain a k) other → ⊥
  by_ways None a k other some clear both = both
  by_ways (Some p) a k other some clear both = apart_starts p a k other some both (clear both.taken_at both.other_at)

  by_block : (left : Block) (next : Option Place) → IsFull left → IsClear left next → IsAmbiguous t left next → ⊥
  by_block left next given1 given2 given3 = search (rules, by_ways)

  pub not_clear : (c : Configuration) (i : ℕ) (later : List StepOf) (number : Option ℕ) → GoesOnAt t c i number
      → IsClearOnStack i later (stack_of c i) → IsAmbiguousOnStack t i later (stack_of c i) → ⊥
  not_clear c i later number given1 given2 given3 = search (rules, by_block, full_place)

-- two configurations in which a thread sees the same have the same first unseen value
module _ (c d : Configuration) (i : ℕ) (same : (x : List ℕ) → value_seen c.globals (stack_of c i) x ≡ value_seen d.globals (stack_of d i) x) where
  one_mismatch : (vs : Valuation) (m n : ℕ) (a b : Option Bool) → IsFirstMismatch c i vs m a → IsFirstMismatch d i vs n b → (m ≡ n) × (a ≡ b)
  one_mismatch [] m n a b p q = absurd (let none = p.at in cc)
  one_mismatch (v ∷ vs) zero zero a b p q = grind (arith)
  one_mismatch (v ∷ vs) zero (suc n) a b p q = grind (arith)
  one_mismatch (v ∷ vs) (suc m) zero a b p q = grind (arith)
  one_mismatch (v ∷ vs) (suc m) (suc n) a b p q =
      let rest = one_mismatch vs m n a b
      (record { value = p.value; at = p.at; first = p.first.1; is_seen = p.is_seen; differs = p.differs })
      (record { value = q.value; at = q.at; first = q.first.1; is_seen = q.is_seen; differs = q.differs }) in
      (ap suc rest.0, rest.1)

module _ (t : Program) (s : SetupOf) (h : List Call) (x : StepOf) (later : List StepOf) where
  abbrev IsNotTakenFor : StepReason → Type 0
  IsNotTakenFor Ambiguous = ⊥
  IsNotTakenFor reason = IsReason t s h x later reason

  here_or_elsewhere : {X : Type 0} → StandsAtPlace t s h x true → IsReason t s h x later Elsewhere → X
  here_or_elsewhere there other = absurd (false≢true (sym other ∙ there))

  -- an attempt takes the step, so it is refused for no other reason
  taken_or_not : {X : Type 0} → IsUnclear t s h x later → (reason : StepReason) → IsNotTakenFor reason → X
  taken_or_not unclear reason other = absurd (by_reason reason other)
    where
      a : Call
      a = unclear.call

      by_reason : (reason : StepReason) → IsNotTakenFor reason → ⊥
      by_reason Elsewhere elsewhere = false≢true (sym elsewhere ∙ unclear.takes.at)
      by_reason Finished over = false≢true (sym unclear.takes.allowed.still_live ∙ ap (is_terminated s h) unclear.takes.thread ∙ over.1)
      by_reason (Refused r) refused = grind (arith)
      by_reason (Differs d) other =
          let seen = other.1 in
          let after = configuration_after t s (h ++ seen.call ∷ []) in
          other_values t s h x seen.call seen.takes (mismatch_not after x.thread x.values d.place d.seen seen.differs.mismatch) a unclear.takes
      by_reason Ambiguous none = none

  over_or_answered : {X : Type 0} → is_terminated s h x.thread ≡ true → (r : Reply) → IsAnswered t s h x r → X
  over_or_answered over r answered = absurd (false≢true (sym answered.allowed.still_live ∙ ap (is_terminated s h) answered.thread ∙ over))

  over_or_seen : {X : Type 0} → is_terminated s h x.thread ≡ true → (d : Difference) → SeesOther t s h x d → X
  over_or_seen over d sees = absurd (false≢true (sym sees.takes.allowed.still_live ∙ ap (is_terminated s h) sees.takes.thread ∙ over))

  refused_or_seen : {X : Type 0} → (r : Reply) → IsAnswered t s h x r → (d : Difference) → SeesOther t s h x d → X
  refused_or_seen r given1 d given2 = grind (arith)

  one_reply : (r q : Reply) → IsAnswered t s h x r → IsAnswered t s h x q → r ≡ q
  one_reply r q one two = sym (one.each one.call one.thread one.allowed) ∙ two.each one.call one.thread one.allowed

  one_seen : (d e : Difference) → SeesOther t s h x d → SeesOther t s h x e → Differs d ≡ Differs e
  one_seen d e p q =
      let same = seen_same t s h x p.call q.call p.takes q.takes in
      let one = p.differs.mismatch in
      let other = q.differs.mismatch in
      let both = one_mismatch (configuration_after t s (h ++ p.call ∷ [])) (configuration_after t s (h ++ q.call ∷ []))
      x.thread same x.values d.place e.place d.seen e.seen one other in
      let value : one.value ≡ other.value = (let at = one.at in let there = other.at in let place = both.0 in cc) in
      let name = one.value.0 in
      let own =
      subst (λ v. IsLastChange (seen_after t s (h ++ q.call ∷ []) x.thread v.0) (length (h ++ q.call ∷ [])) e.changed)
      (sym value) q.differs.changed in
      let changed = one_change (seen_by t s x.thread name) h p.call q.call (same name) d.changed e.changed p.differs.changed own in
      λ j. Differs (record { place = both.0 j; seen = both.1 j; changed = changed j })

  pub one_reason : (a b : StepReason) → IsReason t s h x later a → IsReason t s h x later b → a ≡ b
  one_reason Elsewhere Elsewhere p q = refl
  one_reason Finished Finished p q = refl
  one_reason (Refused r) (Refused k) p q = ap Refused (one_reply r k p.1 q.1)
  one_reason (Differs d) (Differs e) p q = one_seen d e p.1 q.1
  one_reason Ambiguous Ambiguous p q = refl
  one_reason Ambiguous b p q = taken_or_not p b q
  one_reason a Ambiguous p q = taken_or_not q a p
  one_reason Elsewhere b p q = here_or_elsewhere q.0 p
  one_reason a Elsewhere p q = here_or_elsewhere p.0 q
  one_reason Finished (Refused r) p q = over_or_answered p.1 r q.1
  one_reason (Refused r) Finished p q = over_or_answered q.1 r p.1
  one_reason Finished (Differs e) p q = over_or_seen p.1 e q.1
  one_reason (Differs d) Finished p q = over_or_seen q.1 d p.1
  one_reason (Refused r) (Differs e) p q = refused_or_seen r p.1 e q.1
  one_reason (Differs d) (Refused r) p q = refused_or_seen r q.1 d p.1

-- the attempts that follow some steps follow those before one of them, and then that one
module _ (t : Program) (s : SetupOf) (last : LastBits) where
  pub record FollowsTo (h : List Call) (xs : List StepOf) (x : StepOf) (later : List StepOf) : Type 0 where
    pub front : List Call
    pub before : FollowAfter t s last h xs (x ∷ later) front
    pub call : Call
    pub here : Follows t s last (h ++ front) x later call

  pub follow_to : (h : List Call) (xs : List StepOf) (x : StepOf) (ys later : List StepOf) (g : List Call)
      → FollowAfter t s last h (xs ++ x ∷ ys) later g → FollowsTo h xs x (ys ++ later)
  follow_to h [] x ys later (a ∷ g) f =
      record { front = []; before = tt; call = a; here = subst (λ k. Follows t s last k x (ys ++ later) a) (sym (append-nil h)) f.0 }
  follow_to h (z ∷ zs) x ys later (m ∷ ms) f =
      let rest = follow_to (h ++ m ∷ []) zs x ys later ms f.1 in
      let first : Follows t s last h z ((zs ++ x ∷ ys) ++ later) m = f.0 in
      record {
        front = m ∷ rest.front;
        before = (simp regrouped at first, rest.before);
        call = rest.call;
        here = simp regrouped at rest.here;
      }
  follow_to h xs x ys later g f = absurd (assumption (f))

-- Some lines are followed to one end.

module _ (text : List ℕ) (t : Program) (s : SetupOf) (last : LastBits) where
  -- a history, and the lines that are left
  abbrev State : Type 0
  State = List Call × List StepLineOf

  -- an attempt follows the first of them
  record IsNext (a b : State) : Type 0 where
    step : StepLineOf
    call : Call
    parts : a.1 ≡ step ∷ b.1
    history : b.0 ≡ a.0 ++ call ∷ []
    follows : Follows t s last a.0 (step_of text step) (steps_of text b.1) call

  single : IsSingle IsNext
  single = grind (arith)

  walk : (h : List Call) (xs later : List StepLineOf) (p : List Call) → FollowAfter t s last h (steps_of text xs) (steps_of text later) p
      → Walk IsNext (h, xs ++ later) (h ++ p, later)
  walk h [] later [] f = subst (λ q. Walk IsNext (h, later) (q, later)) (sym (append-nil h)) Stays
  walk h (x ∷ xs) later (a ∷ p) f =
      let next : IsNext (h, x ∷ (xs ++ later)) (h ++ a ∷ [], xs ++ later) = record {
        step = x;
        call = a;
        parts = refl;
        history = refl;
        follows = subst (λ ys. Follows t s last h (step_of text x) ys a) (sym (map-append (step_of text) xs later)) f.0;
      } in
      Goes next (subst (λ q. Walk IsNext (h ++ a ∷ [], xs ++ later) (q, later)) (simp regrouped) (walk (h ++ a ∷ []) xs later p f.1))
  walk h xs later p f = absurd (assumption (f))

module _ (text : List ℕ) (t : Program) (is : IsWellFormedText text t) (s : SetupOf) (last : LastBits) (lines : List StepLineOf)
    (r : StepRefusal) (refused : IsStepRefusal text t s last lines r) where
  pub goes_on : GoesOnAt t (configuration_after t s refused.history) (step_of text refused.step).thread r.number
  goes_on = subst (λ i. GoesOnAt t (configuration_after t s refused.history) i r.number) refused.thread refused.number

  -- no attempt follows the refused step
  not_followed : (a : Call) → Follows t s last refused.history (step_of text refused.step) (steps_of text refused.later) a → ⊥
  not_followed a follows = by_reason r.reason refused.reason refused.none
    where
      x : StepOf
      x = step_of text refused.step

      later : List StepOf
      later = steps_of text refused.later

      all_taken : Takes t s (steps_of text (refused.before ++ refused.step ∷ [])) (refused.history ++ a ∷ [])
      all_taken =
          subst (λ xs. Takes t s xs (refused.history ++ a ∷ [])) (sym (map_push (step_of text) refused.before refused.step))
          (taken t s last [] (steps_of text refused.before ++ step_of text refused.step ∷ []) (steps_of text refused.later) (refused.history ++ a ∷ [])
          (follow_more t s last [] (steps_of text refused.before) (step_of text refused.step)
          (steps_of text refused.later) refused.history a refused.follows follows))

      by_reason : (reason : StepReason) → IsReason t s refused.history (step_of text refused.step) (steps_of text refused.later) reason
          → ForStuck reason ((g : List Call) → Takes t s (steps_of text (refused.before ++ refused.step ∷ [])) g → ⊥) → ⊥
      by_reason Ambiguous why none =
          not_clear text t is (configuration_after t s refused.history) (step_of text refused.step).thread
          (steps_of text refused.later) r.number goes_on follows.clear why.ambiguous
      by_reason reason why none = none (refused.history ++ a ∷ []) all_taken

  abbrev end : State text t s last
  end = (refused.history, refused.step ∷ refused.later)

  -- so the lines are followed up to that step, and no further
  walk_to : Walk (IsNext text t s last) ([], lines) (refused.history, refused.step ∷ refused.later)
  walk_to =
      subst (λ z. Walk (IsNext text t s last) ([], z) end) (sym refused.whole)
      (walk text t s last [] refused.before (refused.step ∷ refused.later) refused.history refused.follows)

  stops : Stops (IsNext text t s last) (refused.history, refused.step ∷ refused.later)
  stops u next =
      let parts = next.parts in
      let step : next.step ≡ refused.step = cc in
      let left : u.1 ≡ refused.later = cc in
      not_followed next.call (subst (λ (z : StepLineOf × List StepLineOf). Follows t s last refused.history (step_of text z.0) (steps_of text z.1) next.call)
      (λ i. (step i, left i)) next.follows)

  pub not_followed_too : (h : List Call) → IsFollowed t s last (steps_of text lines) h → ⊥
  not_followed_too h confirmed =
      let whole = subst (λ z. Walk (IsNext text t s last) ([], z) (h, [])) (append-nil lines) (walk text t s last [] lines [] h confirmed) in
      let same = one_end (IsNext text t s last) (single text t s last) ([], lines) end (h, []) walk_to whole stops
      (λ u next. let parts = next.parts in absurd cc) in
      let left : refused.step ∷ refused.later ≡ [] = ap (λ z. z.1) same in
      absurd cc

pub one_step_refusal : (text : List ℕ) (t : Program) → IsWellFormedText text t → (s : SetupOf) (last : LastBits) (lines : List StepLineOf) (r q : StepRefusal)
    → IsStepRefusal text t s last lines r → IsStepRefusal text t s last lines q → r ≡ q
one_step_refusal text t is s last lines r q refused other =
    let same = one_end (IsNext text t s last) (single text t s last) ([], lines) (end text t is s last lines r refused) (end text t is s last lines q other)
    (walk_to text t is s last lines r refused) (walk_to text t is s last lines q other)
    (stops text t is s last lines r refused) (stops text t is s last lines q other) in
    let history : refused.history ≡ other.history = ap (λ z. z.0) same in
    let left : refused.step ∷ refused.later ≡ other.step ∷ other.later = ap (λ z. z.1) same in
    let step : refused.step ≡ other.step = cc in
    let later : refused.later ≡ other.later = cc in
    let front : length refused.before ≡ length other.before =
    omega (
      arith,
      ap length (sym refused.whole ∙ other.whole),
      length-append refused.before (refused.step ∷ refused.later),
      length-append other.before (other.step ∷ other.later),
      ap length left,
    ) in
    let line : r.line ≡ q.line = refused.line ∙ ap (λ n. n + 1) front ∙ sym other.line in
    let thread : r.thread ≡ q.thread = refused.thread ∙ ap (λ y. y.thread) step ∙ sym other.thread in
    let location : r.location ≡ q.location = refused.location ∙ ap (λ y. y.location) step ∙ sym other.location in
    let number : r.number ≡ q.number =
    one_goes_on text t is (configuration_after t s refused.history) r.thread r.number q.number refused.number
    (subst (λ i. GoesOnAt t (configuration_after t s refused.history) i q.number) (sym thread)
    (subst (λ k. GoesOnAt t (configuration_after t s k) q.thread q.number) (sym history) other.number)) in
    let thread_place : r.thread_place ≡ q.thread_place = refused.thread_place ∙ ap (thread_place_of text t) number ∙ sym other.thread_place in
    let reason : r.reason ≡ q.reason =
    one_reason t s refused.history (step_of text refused.step) (steps_of text refused.later) r.reason q.reason refused.reason
    (subst (λ (z : List Call × StepLineOf × List StepLineOf). IsReason t s z.0 (step_of text z.1) (steps_of text z.2) q.reason)
    (λ i. (sym history i, sym step i, sym later i)) other.reason) in
    λ j. record { line = line j; thread = thread j; location = location j; number = number j; thread_place = thread_place j; reason = reason j }

-- Steps of a well-formed text that are followed with some last bits are refused with none.

module _ (text : List ℕ) (t : Program) (is : IsWellFormedText text t) (s : SetupOf) (some last : LastBits) (lines : List StepLineOf) (g : List Call)
    (followed : IsFollowed t s some (steps_of text lines) g) where
  module _ (r : StepRefusal) (refused : IsStepRefusal text t s last lines r) where
    x : StepOf
    x = step_of text refused.step

    later : List StepOf
    later = steps_of text refused.later

    whole : steps_of text lines ≡ steps_of text refused.before ++ step_of text refused.step ∷ steps_of text refused.later
    whole = ap (steps_of text) refused.whole ∙ map-append (step_of text) refused.before (refused.step ∷ refused.later)

    by_reason : (reason : StepReason) → IsReason t s refused.history (step_of text refused.step) (steps_of text refused.later) reason
        → ForStuck reason ((k : List Call) → Takes t s (steps_of text lines) k → ⊥) → ⊥
    by_reason Ambiguous why none =
        let before = steps_of text refused.before in
        let found = follow_to t s some [] before (step_of text refused.step) (steps_of text refused.later) [] g
        (subst (λ xs. IsFollowed t s some xs g) whole followed) in
        let follow = found.here in
        let same = same_stack_there t s last before (step_of text refused.step) (steps_of text refused.later) refused.history found.front found.call
        refused.follows (taken t s some [] before (step_of text refused.step ∷ steps_of text refused.later ++ []) found.front found.before) follow.takes in
        let clear = subst (λ ys. IsClearOnStack refused.step.thread ys (stack_of (configuration_after t s found.front) refused.step.thread))
        (append-nil (steps_of text refused.later)) follow.clear in
        not_clear text t is (configuration_after t s refused.history) refused.step.thread (steps_of text refused.later) r.number
        (goes_on text t is s last lines r refused)
        (subst (λ S. IsClearOnStack refused.step.thread (steps_of text refused.later) S) (sym same) clear)
        why.ambiguous
    by_reason reason why none = none g (taken t s some [] (steps_of text lines) [] g followed)

    pub never_refused : ⊥
    never_refused = by_reason r.reason refused.reason (refused_is_not_taken text t s last lines r refused)
