-- The facts of an attempt, and those of a state, are single.
use Rattle.bp_view.proofs.Common.{◌≡◌, ◌≤◌, ◌∙◌, ℕ, List, ap, flat_map, length, map, sym, take, [], ◌∷◌, ◌++◌, Option, None, Some, refl, suc, ap₂, arith, rules, flat_map-map, false≢true, Program, Frame, Call, granted_threads, SetupOf, least_opened, one_statement_at, AreCallFacts, IsNextOf, Next, ShownCall, IsContext, AreFrameFacts, AreStackFacts, AreStateFacts, AreThreadFacts, AreThreadsFacts, ShownFrame, ShownState, ShownThread}
use Rattle.std.proofs.Common.{take_all}

-- A consequence of all values is one of their meanings.

pub all_mapped : {X Y Z : Type 0} (f : Y → List Z) (said : X → Y) (xs : List X) (n : ℕ) → length xs ≤ n
    → flat_map (λ x. f (said x)) (take n xs) ≡ flat_map f (map said xs)
all_mapped f said xs n all = ap (flat_map (λ x. f (said x))) (take_all n xs all) ∙ sym (flat_map-map f said xs)

-- The facts of an attempt are single.

pub one_next : (text : List ℕ) (stack : List Frame) (m n : Next) → IsNextOf text stack m → IsNextOf text stack n → m ≡ n
one_next text stack m n given1 given2 = search (rules, one_statement_at)

pub one_context : (h : List Call) (x : Call) (m n : Option ℕ) → IsContext h x m → IsContext h x n → m ≡ n
one_context h x None None a b = refl
one_context h x None (Some n) a b = absurd (false≢true (sym a ∙ b.0))
one_context h x (Some m) None a b = absurd (false≢true (sym b ∙ a.0))
one_context h x (Some m) (Some n) a b =
    let ts = granted_threads (h ++ x ∷ []) in
    ap Some (least_opened m ts a.1 ∙ sym (least_opened n ts b.1))

pub one_call : (t : Program) (text : List ℕ) (s : SetupOf) (h : List Call) (x : Call) (f g : ShownCall)
    → AreCallFacts t text s h x f → AreCallFacts t text s h x g → f ≡ g
one_call t text s h x f g given1 given2 = search (rules, one_context, one_next)

-- The facts of a state are single.

module _ (text : List ℕ) where
  one_frame : (n : ℕ) (f : Frame) (x y : ShownFrame) → AreFrameFacts text n f x → AreFrameFacts text n f y → x ≡ y
  one_frame n f x y given1 given2 = search (rules, one_statement_at)

  one_stack : (n : ℕ) (stack : List Frame) (xs ys : List ShownFrame) → AreStackFacts text n stack xs → AreStackFacts text n stack ys → xs ≡ ys
  one_stack n [] [] [] a b = refl
  one_stack n [] [] (y ∷ ys) a b = elim b [ ]
  one_stack n [] (x ∷ xs) ys a b = elim a [ ]
  one_stack n (f ∷ fs) [] ys a b = elim a [ ]
  one_stack n (f ∷ fs) (x ∷ xs) [] a b = elim b [ ]
  one_stack n (f ∷ fs) (x ∷ xs) (y ∷ ys) a b = ap₂ (λ z (zs : List ShownFrame). z ∷ zs) (one_frame n f x y a.0 b.0) (one_stack (suc n) fs xs ys a.1 b.1)

module _ (t : Program) (text : List ℕ) (s : SetupOf) (h : List Call) where
  one_thread : (i : ℕ) (x y : ShownThread) → AreThreadFacts t text s h i x → AreThreadFacts t text s h i y → x ≡ y
  one_thread i x y given1 given2 = search (rules, one_stack)

  one_threads : (i : ℕ) (xs ys : List ShownThread) → length xs ≡ length ys → AreThreadsFacts t text s h i xs → AreThreadsFacts t text s h i ys → xs ≡ ys
  one_threads i [] [] count a b = refl
  one_threads i [] (y ∷ ys) count a b = absurd (omega (arith, count))
  one_threads i (x ∷ xs) [] count a b = absurd (omega (arith, count))
  one_threads i (x ∷ xs) (y ∷ ys) count a b = search (rules, (one_threads (suc i) xs ys (omega (arith, count)) a.1 b.1), one_thread)

  pub one_state : (count : ℕ) (x y : ShownState) → AreStateFacts t text s h count x → AreStateFacts t text s h count y → x ≡ y
  one_state count x y given1 given2 = search (rules, one_threads)
