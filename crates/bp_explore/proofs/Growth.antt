-- Nodes that are added, and the closure that is kept then.
use Rattle.bp_explore.proofs.Common.{◌≡◌, ◌≢◌, ◌⊎◌, ℕ, zero, suc, ◌+◌, ◌<◌, ◌≤◌, Bool, true, false, List, [], ◌∷◌, ◌++◌, length, Option, Some, refl, ap, sym, ◌∙◌, subst, arith, inl, inr, slice_get, rules, cases_lt, slice_get_within, Instruction, contexts_opened, ListedSteps, StateOf, IsNext, IsFollowed, IsTaken, IsFrom, AreFrom, Expands, IsStep, Step, Stays, Fails, Leads, level_with, node_with, Has, IsSeen, IsSeenStep, IsExpanded, IsClosed, AreLayered, AreAtMost, IsGrown, Transition}
use Rattle.bp_explore.specs.States.{NodeOf as Node}

pub item_at : {X : Type 0} (xs : List X) (k : ℕ) → k < length xs → (z : X) × (slice_get xs k ≡ Some z)
item_at [] k below = absurd (omega (arith, below))
item_at (z ∷ zs) zero below = (z, refl)
item_at (z ∷ zs) (suc k) below = item_at zs k (omega (arith, below))

pub one_item : {X : Type 0} (xs : List X) (k : ℕ) (x y : X) → slice_get xs k ≡ Some x → slice_get xs k ≡ Some y → x ≡ y
one_item xs k x y e f = let both : Some x ≡ Some y = sym e ∙ f in cc

kept_item : {X : Type 0} (xs ys : List X) (k : ℕ) (x : X) → slice_get xs k ≡ Some x → slice_get (xs ++ ys) k ≡ Some x
kept_item [] ys k x e = absurd cc
kept_item (z ∷ zs) ys zero x e = e
kept_item (z ∷ zs) ys (suc k) x e = kept_item zs ys k x e

pub added_item : {X : Type 0} (xs : List X) (y : X) (k : ℕ) (x : X) → length xs ≤ k → slice_get (xs ++ y ∷ []) k ≡ Some x → y ≡ x
added_item [] y zero x h e = cc
added_item [] y (suc k) x h e = absurd cc
added_item (z ∷ zs) y zero x h e = absurd (omega (arith, h))
added_item (z ∷ zs) y (suc k) x h e = added_item zs y k x (omega (arith, h)) e

last_item : {X : Type 0} (xs : List X) (y : X) → slice_get (xs ++ y ∷ []) (length xs) ≡ Some y
last_item [] y = refl
last_item (z ∷ zs) y = last_item zs y

one_longer : {X : Type 0} (xs : List X) (y : X) → length (xs ++ y ∷ []) ≡ length xs + 1
one_longer [] y = refl
one_longer (z ∷ zs) y = let e = one_longer zs y in omega (arith, e)

module _ (o : ListedSteps) (code : List Instruction) (level : ℕ) where
  from_kept : (xs ys : List Node) → ((n : ℕ) (node : Node) → slice_get xs n ≡ Some node → slice_get ys n ≡ Some node)
      → (n : ℕ) (node : Node) → IsFrom o code xs n node → IsFrom o code ys n node
  from_kept xs ys kept n node f =
      record { at = f.at; parent = f.parent; before = f.before; is = kept f.at f.parent f.is; thread = f.thread; bit = f.bit; step = f.step; few = f.few; last = f.last; low = f.low }

  pub grown_none : (xs : List Node) → IsGrown o code level xs xs
  grown_none xs = search (rules, slice_get_within)

  module _ (xs ys : List Node) (g : IsGrown o code level xs ys) where
    pub grown_then : (zs : List Node) → IsGrown o code level ys zs → IsGrown o code level xs zs
    grown_then zs f = record {
      longer = let a = g.longer in let b = f.longer in omega (arith, a, b);
      kept = λ n node e. f.kept n node (g.kept n node e);
      added = λ n node far e. elim (cases_lt n (length ys)) [
        | inl near ↦
            let (own, at) = item_at ys n near in
            let (low, from) = g.added n own far at in
            subst (λ (z : Node). (z.level ≡ level) × IsFrom o code zs n z) (one_item zs n own node (f.kept n own at) e) (low, from_kept ys zs f.kept n own from)
        | inr past ↦ f.added n node past e
      ];
    }

    -- a node that was there before
    pub before : (n : ℕ) (node : Node) → n < length xs → slice_get ys n ≡ Some node → slice_get xs n ≡ Some node
    before n node near e =
        let (own, at) = item_at xs n near in
        at ∙ ap Some (one_item ys n own node (g.kept n own at) e)

    pub are_from_kept : AreFrom o code xs → AreFrom o code ys
    are_from_kept from n node some e = elim (cases_lt n (length xs)) [
      | inl near ↦ from_kept xs ys g.kept n node (from n node some (before n node near e))
      | inr past ↦ (g.added n node past e).1
    ]

    seen_kept : (i k : ℕ) (y : Step) → IsSeen o xs i k y → IsSeen o ys i k y
    seen_kept i k Stays seen = tt
    seen_kept i k (Fails n) seen = seen
    seen_kept i k (Leads n x) (few, h) = (few, record { at = h.at; used = h.used; is = g.kept h.at (node_with x n i h.used) h.is; low = h.low })

    pub seen_step_kept : (node : Node) (i k : ℕ) (bit : Bool) → IsSeenStep o code xs node i k bit → IsSeenStep o code ys node i k bit
    seen_step_kept node i k bit (y, step, seen) = (y, step, seen_kept i k y seen)

    pub expanded_kept : (node : Node) (i k : ℕ) → IsExpanded o code xs node i k → IsExpanded o code ys node i k
    expanded_kept node i k e bit = seen_step_kept node i k bit (e bit)

    pub at_most_kept : AreAtMost xs level → AreAtMost ys level
    at_most_kept low n node e = elim (cases_lt n (length xs)) [
      | inl near ↦ low n node (before n node near e)
      | inr past ↦ let is = (g.added n node past e).0 in omega (arith, is)
    ]

    pub closed_kept : (threads p k : ℕ) → p ≤ length xs → IsClosed o code threads xs p k → IsClosed o code threads ys p k
    closed_kept threads p k few closed n node i below e within fits =
        let at = before n node (omega (arith, below, few)) e in
        expanded_kept node i (level_with node i) (closed n node i below at within fits)

    pub layered_kept : (p : ℕ) → p ≤ length xs → AreLayered xs p level → AreLayered ys p level
    layered_kept p few layered n node e = elim (cases_lt n (length xs)) [
      | inl near ↦ layered n node (before n node near e)
      | inr past ↦ let is = (g.added n node past e).0 in (λ below. absurd (omega (arith, below, few, past)), λ far. is)
    ]

  -- the steps of more threads from a node
  pub expands_then : (at : ℕ) (P Q R : Node → ℕ → Type 0) (xs ys zs : List Node)
      → ((node : Node) (i : ℕ) → slice_get xs at ≡ Some node → R node i → P node i ⊎ Q node i)
      → Expands o code at level P xs ys → Expands o code at level Q ys zs → Expands o code at level R xs zs
  expands_then at P Q R xs ys zs cases a b = record {
    grown = grown_then xs ys a.grown zs b.grown;
    expanded = λ node i is r. elim (cases node i is r) [
      | inl p ↦ expanded_kept ys zs b.grown node i level (a.expanded node i is p)
      | inr q ↦ b.expanded node i (a.grown.kept at node is) q
    ];
  }

  -- the steps of a thread from a node
  module _ (old : List Node) (at : ℕ) (node : Node) (is : slice_get old at ≡ Some node) (i : ℕ) (fits : level_with node i ≤ level) where
    taken_grown : (bit : Bool) (y : Step) (new : List Node) → IsStep o node.made node.state i code bit y → IsTaken o old i level y new → IsGrown o code level old new
    taken_grown bit Stays new step same = subst (IsGrown o code level old) (sym same) (grown_none old)
    taken_grown bit (Fails n) new step (few, same) = subst (IsGrown o code level old) (sym same) (grown_none old)
    taken_grown bit (Leads n x) new step (few, inl same, has) = subst (IsGrown o code level old) (sym same) (grown_none old)
    taken_grown bit (Leads n x) new step (few, inr more, has) = subst (IsGrown o code level old) (sym more) (record {
      longer = (let e = one_longer old last in omega (arith, e));
      kept = kept_item old (last ∷ []);
      added = λ k next past found. subst (λ (z : Node). (z.level ≡ level) × IsFrom o code (old ++ last ∷ []) k z) (added_item old last k next past found) (
        refl,
        record {
          at = at;
          parent = node;
          before = (let low = slice_get_within old at node is in omega (arith, low, past));
          is = kept_item old (last ∷ []) at node is;
          thread = i;
          bit = bit;
          step = step;
          few = few;
          last = refl;
          low = fits;
        },
      );
    })
      where
        last : Node
        last = node_with x n i level

    taken_seen : (y : Step) (new : List Node) → IsTaken o old i level y new → IsSeen o new i level y
    taken_seen Stays new taken = tt
    taken_seen (Fails n) new taken = taken.0
    taken_seen (Leads n x) new (few, may, has) = (few, has)

    -- a step of the state x, which was loaded
    pub made_step : (x : StateOf) (m : ℕ) → x ≡ node.state → m ≡ node.made → (bit : Bool) (v : Transition) → IsNext code x i bit v → (mid new : List Node) → mid ≡ old
        → ((y : Step) × IsFollowed o m x i v y × IsTaken o mid i level y new) → IsGrown o code level old new × IsSeenStep o code new node i level bit
    made_step x m same made bit v next mid new items (y, led, taken) =
        let step = subst (λ n. IsStep o n node.state i code bit y) made
        (subst (λ (w : StateOf). IsStep o m w i code bit y) same (record { transition = v; is = next; led = led })) in
        let own = subst (λ (l : List Node). IsTaken o l i level y new) items taken in
        (taken_grown bit y new step own, (y, step, taken_seen y new own))

    pub expands_both : (new : List Node) → IsGrown o code level old new → IsSeenStep o code new node i level false → IsSeenStep o code new node i level true → Expands o code at level (λ own j. j ≡ i) old new
    expands_both new grown a b = record {
      grown = grown;
      expanded = λ own j found same. subst (λ k. IsExpanded o code new own k level) (sym same)
          (subst (λ (z : Node). IsExpanded o code new z i level) (one_item old at node own is found) both);
    }
      where
        both : IsExpanded o code new node i level
        both false = a
        both true = b

pub has_one : (xs : List Node) (x : StateOf) (i made level : ℕ) → Has (xs ++ node_with x made i level ∷ []) x i made level
has_one xs x i made level = record { at = length xs; used = level; is = last_item xs (node_with x made i level); low = omega arith }

pub at_most_layered : (xs : List Node) (p k : ℕ) → AreLayered xs p k → AreAtMost xs k
at_most_layered xs p k given1 = grind (arith)

opened_cases : (l : Option ℕ) (i : ℕ) → ((l ≡ Some i) × (contexts_opened l i ≡ 0)) ⊎ ((l ≢ Some i) × (contexts_opened l i ≡ 1))
opened_cases l i = grind (arith)

pub opened_own : (l : Option ℕ) (i : ℕ) → l ≡ Some i → contexts_opened l i ≡ 0
opened_own l i is = elim (opened_cases l i) [ inl a ↦ a.1 | inr a ↦ absurd (a.0 is) ]

pub opened_small : (l : Option ℕ) (i : ℕ) → contexts_opened l i ≤ 1
opened_small l i = elim (opened_cases l i) [ inl a ↦ let e = a.1 in omega (arith, e) | inr a ↦ let e = a.1 in omega (arith, e) ]

-- the properties of the nodes below p, and of that at p
module _ (o : ListedSteps) (code : List Instruction) (threads : ℕ) (xs : List Node) (p k : ℕ) (closed : IsClosed o code threads xs p k) where
  pub closed_next : ((node : Node) (i : ℕ) → slice_get xs p ≡ Some node → i < threads → level_with node i ≤ k → IsExpanded o code xs node i (level_with node i))
      → IsClosed o code threads xs (p + 1) k
  closed_next here n node i below e within fits = elim (cases_lt n p) [
    | inl near ↦ closed n node i near e within fits
    | inr past ↦
        let same : n ≡ p = omega (arith, below, past) in
        here node i (subst (λ m. slice_get xs m ≡ Some node) same e) within fits
  ]

-- the own steps of a node on the last layer
pub own_closed : (o : ListedSteps) (code : List Instruction) (xs : List Node) (node : Node) (i k : ℕ) → node.level ≡ k → level_with node i ≤ k
    → ((j : ℕ) → node.last ≡ Some j → IsExpanded o code xs node j k) → IsExpanded o code xs node i (level_with node i)
own_closed o code xs node i k is fits own = elim (opened_cases node.last i) [
  | inl a ↦
      let none = a.1 in
      let level : k ≡ level_with node i = omega (arith, none, is) in
      subst (λ m. IsExpanded o code xs node i m) level (own i a.0)
  | inr a ↦ let one = a.1 in absurd (omega (arith, one, is, fits))
]

-- the steps of the other threads from a node on the layer before
pub other_closed : (o : ListedSteps) (code : List Instruction) (xs : List Node) (node : Node) (i k level : ℕ) → level ≡ k + 1 → node.level ≡ k
    → (level_with node i ≤ k → IsExpanded o code xs node i (level_with node i))
    → (node.last ≢ Some i → IsExpanded o code xs node i level) → IsExpanded o code xs node i (level_with node i)
other_closed o code xs node i k level next is own other = elim (opened_cases node.last i) [
  | inl a ↦ let none = a.1 in own (omega (arith, none, is))
  | inr a ↦
      let one = a.1 in
      let same : level ≡ level_with node i = omega (arith, one, is, next) in
      subst (λ m. IsExpanded o code xs node i m) same (other a.0)
]

-- nodes that use fewer than k contexts are closed within any number if they are within k
pub closed_below : (o : ListedSteps) (code : List Instruction) (threads : ℕ) (xs : List Node) (p k m : ℕ) → AreLayered xs p k → p ≤ length xs
    → IsClosed o code threads xs (length xs) k → IsClosed o code threads xs p m
closed_below o code threads xs p k m layered few closed n node i below e within fits =
    let low = (layered n node e).0 below in
    let small = opened_small node.last i in
    closed n node i (omega (arith, below, few)) e within (omega (arith, low, small))

-- the nodes of a grown space are layered from its old end on
pub layered_next : (o : ListedSteps) (code : List Instruction) (xs ys : List Node) (p k level : ℕ) → level ≡ k + 1 → AreLayered xs p k → IsGrown o code level xs ys
    → AreLayered ys (length xs) level
layered_next o code xs ys p k level is layered g n node e =
    (λ near. let low = at_most_layered xs p k layered n node (before o code level xs ys g n node near e) in omega (arith, is, low), λ past. (g.added n node past e).0)

pub at_most_more : (xs : List Node) (k m : ℕ) → k ≤ m → AreAtMost xs k → AreAtMost xs m
at_most_more xs k m h low n node e = let a = low n node e in omega (arith, h, a)

pub closed_less : (o : ListedSteps) (code : List Instruction) (threads : ℕ) (xs : List Node) (p q k : ℕ) → q ≤ p → IsClosed o code threads xs p k → IsClosed o code threads xs q k
closed_less o code threads xs p q k h closed n node i below = closed n node i (omega (arith, h, below))
