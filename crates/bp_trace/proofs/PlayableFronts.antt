-- A history that may be played is played attempt by attempt: its prefixes may be, and the attempt
-- after a prefix is not refused.
use Rattle.bp_trace.proofs.Common.{◌≡◌, ℕ, ◌==◌, zero, suc, Bool, true, false, cond, List, [], ◌∷◌, ◌++◌, length, Option, None, Some, is_some, refl, ap, sym, ◌∙◌, ◌⊎◌, inl, inr, subst, arith, slice_get, append-nil, false≢true, nat_tests, regrouped, Program, Call, Answers, choice_bit, calls_of_thread, is_terminated, configuration_after, granted_threads, IsAllowed, IsLegalAfter, IsBitOfCall, IsNextCall, given_bit, SetupOf, ReplayError, IsPlayable, IsDue, IsCallError, IsRefusedAmong}
use Rattle.bp_trace.specs.declared.errors.Due.{Due}
use Rattle.bp_trace.specs.declared.errors.ReplayError.TheVariants as error
use Rattle.bp_trace.proofs.ScheduleLines.{same_answer}

calls_after : (i : ℕ) (h g : List Call) → calls_of_thread i (h ++ g) ≡ calls_of_thread i h ++ calls_of_thread i g
calls_after i [] g = refl
calls_after i (x ∷ xs) g = go (x.thread == i) (calls_after i xs g)
  where
    go : (b : Bool) → calls_of_thread i (xs ++ g) ≡ calls_of_thread i xs ++ calls_of_thread i g
        → cond b (x ∷ calls_of_thread i (xs ++ g)) (calls_of_thread i (xs ++ g))
        ≡ cond b (x ∷ calls_of_thread i xs) (calls_of_thread i xs) ++ calls_of_thread i g
    go true e = ap (λ cs. x ∷ cs) e
    go false e = e

own_first : (x : Call) (g : List Call) → calls_of_thread x.thread (x ∷ g) ≡ x ∷ calls_of_thread x.thread g
own_first x g =
    let same : (x.thread == x.thread) ≡ true = grind (arith, nat_tests) in
    ap (λ b. cond b (x ∷ calls_of_thread x.thread g) (calls_of_thread x.thread g)) same

-- an item of the front of a list is one of the list; the item after the front
in_front : (xs ys : List Call) (n : ℕ) (x : Call) → slice_get xs n ≡ Some x → slice_get (xs ++ ys) n ≡ Some x
in_front [] ys n x e = absurd cc
in_front (y ∷ xs) ys zero x e = e
in_front (y ∷ xs) ys (suc n) x e = in_front xs ys n x e

after_front : (xs ys : List Call) (x : Call) → slice_get (xs ++ x ∷ ys) (length xs) ≡ Some x
after_front [] ys x = refl
after_front (y ∷ xs) ys x = after_front xs ys x

module _ (t : Program) (s : SetupOf) where
  legal_front : (p h g : List Call) → IsLegalAfter t s p (h ++ g) → IsLegalAfter t s p h
  legal_front p [] g legal = tt
  legal_front p (x ∷ xs) g (allowed, rest) = (allowed, legal_front (p ++ x ∷ []) xs g rest)

  legal_behind : (p h g : List Call) → IsLegalAfter t s p (h ++ g) → IsLegalAfter t s (p ++ h) g
  legal_behind p [] g legal = subst (λ q. IsLegalAfter t s q g) (sym (append-nil p)) legal
  legal_behind p (x ∷ xs) g (allowed, rest) = simp regrouped at (legal_behind (p ++ x ∷ []) xs g rest)

  pub front : (h g : List Call) → IsPlayable t s (h ++ g) → IsPlayable t s h
  front h g playable = record {
    legal = legal_front [] h g playable.legal;
    seeded = λ seed has i n x at.
        playable.seeded seed has i n x
        (ap (λ cs. slice_get cs n) (calls_after i h g) ∙ in_front (calls_of_thread i h) (calls_of_thread i g) n x at);
  }

  -- the machine has one own attempt
  module _ (h : List Call) (x : Call) where
    bits_alike : (b : Bool) (u v : Bool) → IsBitOfCall s h x.thread (cond b None (Some x.bit)) u → IsBitOfCall s h x.thread (cond b None (Some x.bit)) v → u ≡ v
    bits_alike true u v p q =
        let one : p.seed ≡ q.seed = cc (p.has, q.has) in
        p.is ∙ ap (λ k. choice_bit k x.thread (length (calls_of_thread x.thread h))) one ∙ sym q.is
    bits_alike false u v p q = p.1 ∙ sym q.1

    pub one_own : (a b : Call) → IsNextCall t s h x.thread (given_bit s x.bit) a → IsNextCall t s h x.thread (given_bit s x.bit) b → a ≡ b
    one_own a b p q =
        let now = configuration_after t s h in
        let bit = bits_alike (is_some s.seed) a.bit b.bit p.bit q.bit in
        let first = subst (λ i. Answers t s.contexts now (granted_threads h) i a.bit a.reply) p.thread p.allowed.answers in
        let moved = subst (λ k. Answers t s.contexts now (granted_threads h) x.thread k a.reply) bit first in
        let second = subst (λ i. Answers t s.contexts now (granted_threads h) i b.bit b.reply) q.thread q.allowed.answers in
        let reply = same_answer t s.contexts now (granted_threads h) x.thread b.bit a.reply b.reply moved second in
        λ i. record { thread = (p.thread ∙ sym q.thread) i; bit = bit i; reply = reply i }

  module _ (h : List Call) (x : Call) (g : List Call) (playable : IsPlayable t s (h ++ x ∷ g)) where
    pub next_allowed : IsAllowed t s h x
    next_allowed = (legal_behind [] h (x ∷ g) playable.legal).0

    bit_of_seed : (seed : ℕ) → s.seed ≡ Some seed → x.bit ≡ choice_bit seed x.thread (length (calls_of_thread x.thread h))
    bit_of_seed seed has =
        let calls = calls_after x.thread h (x ∷ g) ∙ ap (λ cs. calls_of_thread x.thread h ++ cs) (own_first x g) in
        let at =
        ap (λ cs. slice_get cs (length (calls_of_thread x.thread h))) calls
        ∙ after_front (calls_of_thread x.thread h) (calls_of_thread x.thread g) x in
        playable.seeded seed has x.thread (length (calls_of_thread x.thread h)) x at

    has_own_bit : (b : Bool) → s.seed ≡ None ⊎ ((seed : ℕ) × (s.seed ≡ Some seed)) → is_some s.seed ≡ b
        → IsBitOfCall s h x.thread (cond b None (Some x.bit)) x.bit
    has_own_bit true (inl none) e = absurd (false≢true (sym (ap is_some none) ∙ e))
    has_own_bit true (inr some) e = record { seed = some.0; has = some.1; is = bit_of_seed some.0 some.1 }
    has_own_bit false (inl none) e = (none, refl)
    has_own_bit false (inr some) e = absurd (false≢true (sym e ∙ ap is_some some.1))

    seed_or_none : (o : Option ℕ) → (o ≡ None) ⊎ ((seed : ℕ) × (o ≡ Some seed))
    seed_or_none None = inl refl
    seed_or_none (Some seed) = inr (seed, refl)

    -- it is the machine's own
    pub is_next : IsNextCall t s h x.thread (given_bit s x.bit) x
    is_next = record { thread = refl; bit = has_own_bit (is_some s.seed) (seed_or_none s.seed) refl; allowed = next_allowed }

    pub own_is : (own : Call) → IsNextCall t s h x.thread (given_bit s x.bit) own → own ≡ x
    own_is own next = one_own h x own x next is_next

    -- so the attempt is not refused
    pub not_refused : (n : ℕ) (f : ReplayError) → IsCallError t s h n x f → ⊥
    not_refused n (error.AfterFinish m made) r = false≢true (sym next_allowed.still_live ∙ r.2)
    not_refused n (error.Bit m due) r = r.2 (ap (λ (y : Call). y.bit) (own_is due.call r.1.own))
    not_refused n (error.Reply m due) r = r.3 (ap (λ (y : Call). y.reply) (own_is due.call r.1.own))
    not_refused n f r = r

  -- one attempt has one refusal
  module _ (h : List Call) (n : ℕ) (x : Call) where
    terminated_or_not : is_terminated s h x.thread ≡ true → is_terminated s h x.thread ≡ false → ⊥
    terminated_or_not a b = false≢true (sym b ∙ a)

    one_due : (a b : Due) → IsDue t s h n x a → IsDue t s h n x b → a ≡ b
    one_due a b p q = λ i. record { calls = (p.calls ∙ sym q.calls) i; call = one_own h x a.call b.call p.own q.own i }

    due_is_live : (d : Due) → IsDue t s h n x d → is_terminated s h x.thread ≡ false
    due_is_live d p = subst (λ i. is_terminated s h i ≡ false) p.own.thread p.own.allowed.still_live

    same_bit : (a b : Due) → IsDue t s h n x a → IsDue t s h n x b → a.call.bit ≡ b.call.bit
    same_bit a b p q = ap (λ (d : Due). d.call.bit) (one_due a b p q)

    pub one_call_error : (f g : ReplayError) → IsCallError t s h n x f → IsCallError t s h n x g → f ≡ g
    one_call_error (error.AfterFinish m made) (error.AfterFinish k also) p q = λ i. error.AfterFinish ((p.0 ∙ sym q.0) i) ((p.1 ∙ sym q.1) i)
    one_call_error (error.AfterFinish m made) (error.Bit k e) p q = absurd (terminated_or_not p.2 (due_is_live e q.1))
    one_call_error (error.AfterFinish m made) (error.Reply k e) p q = absurd (terminated_or_not p.2 (due_is_live e q.1))
    one_call_error (error.Bit m d) (error.AfterFinish k also) p q = absurd (terminated_or_not q.2 (due_is_live d p.1))
    one_call_error (error.Bit m d) (error.Bit k e) p q = λ i. error.Bit ((p.0 ∙ sym q.0) i) (one_due d e p.1 q.1 i)
    one_call_error (error.Bit m d) (error.Reply k e) p q = absurd (p.2 (same_bit d e p.1 q.1 ∙ q.2))
    one_call_error (error.Reply m d) (error.AfterFinish k also) p q = absurd (terminated_or_not q.2 (due_is_live d p.1))
    one_call_error (error.Reply m d) (error.Bit k e) p q = absurd (q.2 (same_bit e d q.1 p.1 ∙ p.2))
    one_call_error (error.Reply m d) (error.Reply k e) p q = λ i. error.Reply ((p.0 ∙ sym q.0) i) (one_due d e p.1 q.1 i)
    one_call_error f g p q = absurd (assumption (p, q))

-- Of the attempts of a line at most one is refused, and with one refusal.

-- of two places in a list one is before the other, or they are one
abbrev pub Places : List Call → Call → List Call → Call → Type 0
Places a x b y =
    ((a ≡ b) × (x ≡ y)) ⊎ (((k : List Call) × (b ≡ a ++ x ∷ k)) ⊎ ((k : List Call) × (a ≡ b ++ y ∷ k)))

pub one_place : (a b after others : List Call) (x y : Call) → a ++ x ∷ after ≡ b ++ y ∷ others → Places a x b y
one_place [] [] after others x y e = inl (refl, cc)
one_place [] (c ∷ b) after others x y e = let same : x ≡ c = cc in inr (inl (b, ap (λ z. z ∷ b) (sym same)))
one_place (c ∷ a) [] after others x y e = let same : c ≡ y = cc in inr (inr (a, ap (λ z. z ∷ a) same))
one_place (c ∷ a) (d ∷ b) after others x y e =
    let same : c ≡ d = cc in
    go same (one_place a b after others x y cc)
  where
    go : c ≡ d → Places a x b y → Places (c ∷ a) x (d ∷ b) y
    go same (inl p) = inl (ap (λ z. z ∷ a) same ∙ ap (λ z. d ∷ z) p.0, p.1)
    go same (inr (inl p)) = inr (inl (p.0, ap (λ z. z ∷ b) (sym same) ∙ ap (λ z. c ∷ z) p.1))
    go same (inr (inr p)) = inr (inr (p.0, ap (λ z. z ∷ a) same ∙ ap (λ z. d ∷ z) p.1))

module _ (t : Program) (s : SetupOf) (h : List Call) (n : ℕ) (calls : List Call) where
  not_before : (f g : ReplayError) (p : IsRefusedAmong t s h n calls f) (q : IsRefusedAmong t s h n calls g) (k : List Call) → q.good ≡ p.good ++ p.call ∷ k → ⊥
  not_before f g p q k e =
      not_refused t s (h ++ p.good) p.call k (simp regrouped (rw e at q.playable)) n f p.refused

  pub one_among : (f g : ReplayError) → IsRefusedAmong t s h n calls f → IsRefusedAmong t s h n calls g → f ≡ g
  one_among f g p q = elim (one_place p.good q.good p.others q.others p.call q.call (sym p.parts ∙ q.parts)) [
    | inl same ↦
        let refused = subst (λ z. IsCallError t s (h ++ z) n p.call f) same.0 p.refused in
        one_call_error t s (h ++ q.good) n q.call f g (subst (λ x. IsCallError t s (h ++ q.good) n x f) same.1 refused) q.refused
    | inr other ↦ elim other [
      | inl before ↦ absurd (not_before f g p q before.0 before.1)
      | inr after ↦ absurd (not_before g f q p after.0 after.1)
    ]
  ]

-- An attempt other than the machine's own is refused, and so is one if the machine makes none.
