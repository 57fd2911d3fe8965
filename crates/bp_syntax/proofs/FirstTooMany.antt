-- The count of tokens in succession finds the first token that is one too many, if there is one.
use Rattle.bp_syntax.proofs.Common.{◌≡◌, ℕ, ◌+◌, ◌<◌, ◌≤◌, Bool, true, false, cond, List, [], ◌∷◌, ◌++◌, length, Option, Some, None, refl, sym, ap, ◌∙◌, ◌⊎◌, inl, inr, ⊎_elim, length-append, arith, nat_lt, subst, nat_le, append-nil, false≢true, ltb-true, ltb-false, leb-true, leb-false, SUCCESSION_LIMIT, NESTING_LIMIT, Token, is_separator, NoSeparator, IsSparse, depth_after, depth_from, IsShallow, BreaksAt, first_too_many, first_too_deep}
use Rattle.bp_syntax.proofs.GrownLists.{regrouped}

pub cond_none : (b : Bool) (o : Option ℕ) (n : ℕ) → cond b o (Some n) ≡ None → (b ≡ true) × (o ≡ None)
cond_none b o n given1 = grind (arith)

-- if no token is too many, each run is short, and shorter by the tokens before it
Short : ℕ → List Token → Type 0
Short n ts =
    (before run after : List Token) → ts ≡ before ++ (run ++ after) → NoSeparator run
    → (length run ≤ SUCCESSION_LIMIT) × (before ≡ [] → n + length run ≤ SUCCESSION_LIMIT)

short_by : (n : ℕ) (t : Token) (ts : List Token) (y : Bool) → is_separator t.kind ≡ y → n ≤ SUCCESSION_LIMIT
    → cond y (first_too_many 0 ts) (cond (nat_lt n SUCCESSION_LIMIT) (first_too_many (n + 1) ts) (Some t.at)) ≡ None
    → ((m : ℕ) → m ≤ SUCCESSION_LIMIT → first_too_many m ts ≡ None → Short m ts) → Short n (t ∷ ts)
unfolding Short
short_by n t ts y s le e rest [] [] after parts plain = (omega arith, λ _. omega arith)
short_by n t ts true s le e rest [] (r ∷ run) after parts plain =
    let same : t ≡ r = cc in
    absurd (false≢true (sym plain.0 ∙ ap (λ x. is_separator x.kind) (sym same) ∙ s))
short_by n t ts false s le e rest [] (r ∷ run) after parts plain =
    let few = cond_none (nat_lt n SUCCESSION_LIMIT) (first_too_many (n + 1) ts) t.at e in
    let lt : n < SUCCESSION_LIMIT = ltb-true n SUCCESSION_LIMIT few.0 in
    let left : ts ≡ run ++ after = cc in
    let h = (rest (n + 1) (omega arith) few.1 [] run after left plain.1).1 refl in
    (omega (arith, h), λ _. omega (arith, h))
short_by n t ts true s le e rest (b ∷ before) run after parts plain =
    let left : ts ≡ before ++ (run ++ after) = cc in
    ((rest 0 (omega arith) e before run after left plain).0, λ z. let w : ⊥ = cc in absurd w)
short_by n t ts false s le e rest (b ∷ before) run after parts plain =
    let few = cond_none (nat_lt n SUCCESSION_LIMIT) (first_too_many (n + 1) ts) t.at e in
    let lt : n < SUCCESSION_LIMIT = ltb-true n SUCCESSION_LIMIT few.0 in
    let left : ts ≡ before ++ (run ++ after) = cc in
    ((rest (n + 1) (omega arith) few.1 before run after left plain).0, λ z. let w : ⊥ = cc in absurd w)

short : (ts : List Token) (n : ℕ) → n ≤ SUCCESSION_LIMIT → first_too_many n ts ≡ None → Short n ts
unfolding Short
short [] n le e [] [] after parts plain = (omega arith, λ _. omega arith)
short [] n le e [] (r ∷ run) after parts plain = let z : ⊥ = cc in absurd z
short [] n le e (b ∷ before) run after parts plain = let z : ⊥ = cc in absurd z
short (t ∷ ts) n le e before run after parts plain =
    short_by n t ts (is_separator t.kind) refl le e (short ts) before run after parts plain

pub none_is_sparse : (ts : List Token) → first_too_many 0 ts ≡ None → IsSparse ts
unfolding Short
none_is_sparse ts e before run after parts plain = (short ts 0 (omega arith) e before run after parts plain).0

-- the first token too many, and the run before it
record Crowded (n : ℕ) (ts : List Token) (at : ℕ) : Type 0 where
  front : List Token
  token : Token
  rest : List Token
  parts : ts ≡ front ++ token ∷ rest
  few : first_too_many n front ≡ None
  place : token.at ≡ at
  plain : is_separator token.kind ≡ false
  before : List Token
  run : List Token
  split : front ≡ before ++ run
  no_separator : NoSeparator run
  full : (length run ≡ SUCCESSION_LIMIT) ⊎ ((before ≡ []) × (n + length run ≡ SUCCESSION_LIMIT))

pub cond_some_at : (b : Bool) (o : Option ℕ) (m n : ℕ) → cond b o (Some m) ≡ Some n → ((b ≡ true) × (o ≡ Some n)) ⊎ ((b ≡ false) × (m ≡ n))
cond_some_at b o m n given1 = grind (arith)

crowded_by : (n : ℕ) (t : Token) (ts : List Token) (at : ℕ) (y : Bool) → is_separator t.kind ≡ y → n ≤ SUCCESSION_LIMIT
    → cond y (first_too_many 0 ts) (cond (nat_lt n SUCCESSION_LIMIT) (first_too_many (n + 1) ts) (Some t.at)) ≡ Some at
    → ((m : ℕ) → m ≤ SUCCESSION_LIMIT → first_too_many m ts ≡ Some at → Crowded m ts at) → Crowded n (t ∷ ts) at
crowded_by n t ts at true s le e go =
    let c = go 0 (omega arith) e in
    record {
      front = t ∷ c.front;
      token = c.token;
      rest = c.rest;
      parts = ap (λ l. t ∷ l) c.parts;
      few = ap (λ b. cond b (first_too_many 0 c.front) (cond (nat_lt n SUCCESSION_LIMIT) (first_too_many (n + 1) c.front) (Some t.at))) s ∙ c.few;
      place = c.place;
      plain = c.plain;
      before = t ∷ c.before;
      run = c.run;
      split = ap (λ l. t ∷ l) c.split;
      no_separator = c.no_separator;
      full = inl (⊎_elim (λ f. f) (λ f. let g = f.1 in omega arith) c.full);
    }
crowded_by n t ts at false s le e go =
    ⊎_elim
    (λ h.
    let lt : n < SUCCESSION_LIMIT = ltb-true n SUCCESSION_LIMIT h.0 in
    let c = go (n + 1) (omega arith) h.1 in
    let few : first_too_many n (t ∷ c.front) ≡ None =
    ap (λ b. cond b (first_too_many 0 c.front)
    (cond (nat_lt n SUCCESSION_LIMIT) (first_too_many (n + 1) c.front) (Some t.at))) s
    ∙ (ap (λ b. cond b (first_too_many (n + 1) c.front) (Some t.at)) h.0 ∙ c.few) in
    ⊎_elim
    (λ f. record {
      front = t ∷ c.front;
      token = c.token;
      rest = c.rest;
      parts = ap (λ l. t ∷ l) c.parts;
      few = few;
      place = c.place;
      plain = c.plain;
      before = t ∷ c.before;
      run = c.run;
      split = ap (λ l. t ∷ l) c.split;
      no_separator = c.no_separator;
      full = inl f;
    })
    (λ f.
    let g = f.1 in
    record {
      front = t ∷ c.front;
      token = c.token;
      rest = c.rest;
      parts = ap (λ l. t ∷ l) c.parts;
      few = few;
      place = c.place;
      plain = c.plain;
      before = [];
      run = t ∷ c.run;
      split = ap (λ l. t ∷ l) (c.split ∙ ap (λ l. l ++ c.run) f.0);
      no_separator = (s, c.no_separator);
      full = inr (refl, omega arith);
    })
    c.full)
    (λ h.
    let ge : SUCCESSION_LIMIT ≤ n = ltb-false n SUCCESSION_LIMIT h.0 in
    record {
      front = [];
      token = t;
      rest = ts;
      parts = refl;
      few = refl;
      place = h.1;
      plain = s;
      before = [];
      run = [];
      split = refl;
      no_separator = tt;
      full = inr (refl, omega arith);
    })
    (cond_some_at (nat_lt n SUCCESSION_LIMIT) (first_too_many (n + 1) ts) t.at at e)

crowded : (ts : List Token) (n at : ℕ) → n ≤ SUCCESSION_LIMIT → first_too_many n ts ≡ Some at → Crowded n ts at
crowded [] n at le e = let z : ⊥ = cc in absurd z
crowded (t ∷ ts) n at le e = crowded_by n t ts at (is_separator t.kind) refl le e (λ m l h. crowded ts m at l h)

no_separator_more : (run : List Token) (t : Token) → NoSeparator run → is_separator t.kind ≡ false → NoSeparator (run ++ t ∷ [])
no_separator_more [] t n s = (s, tt)
no_separator_more (r ∷ run) t n s = (n.0, no_separator_more run t n.1 s)

pub some_is_crowded : (ts : List Token) (at : ℕ) → first_too_many 0 ts ≡ Some at → BreaksAt IsSparse ts at
some_is_crowded ts at e =
    let c = crowded ts 0 at (omega arith) e in
    let full : length c.run ≡ SUCCESSION_LIMIT = ⊎_elim (λ f. f) (λ f. let g = f.1 in omega arith) c.full in
    record {
      front = c.front;
      token = c.token;
      rest = c.rest;
      parts = c.parts;
      before = none_is_sparse c.front c.few;
      after = λ sparse.
          let parts : c.front ++ c.token ∷ [] ≡ c.before ++ ((c.run ++ c.token ∷ []) ++ []) =
          ap (λ l. l ++ c.token ∷ []) c.split ∙ simp regrouped in
          let most = sparse c.before (c.run ++ c.token ∷ []) [] parts (no_separator_more c.run c.token c.no_separator c.plain) in
          omega (arith, length-append c.run (c.token ∷ []));
      place = c.place;
    }

-- The count of the depth finds the first token that nests too deep, if there is one.

-- also if the depth is n before the tokens
abbrev ShallowFrom : ℕ → List Token → Type 0
ShallowFrom n ts = (front rest : List Token) → ts ≡ front ++ rest → depth_from n front ≤ NESTING_LIMIT

shallow_nothing : (n : ℕ) → n ≤ NESTING_LIMIT → ShallowFrom n []
shallow_nothing n le [] rest parts = le
shallow_nothing n le (x ∷ front) rest parts = let z : ⊥ = cc in absurd z

shallow_more : (n : ℕ) (t : Token) (ts : List Token) → n ≤ NESTING_LIMIT → ShallowFrom (depth_after t.kind n) ts → ShallowFrom n (t ∷ ts)
shallow_more n t ts le h [] rest parts = le
shallow_more n t ts le h (x ∷ front) rest parts =
    let same : t ≡ x = cc in
    let left : ts ≡ front ++ rest = cc in
    subst (λ y. depth_from (depth_after y.kind n) front ≤ NESTING_LIMIT) same (h front rest left)

shallow : (ts : List Token) (n : ℕ) → n ≤ NESTING_LIMIT → first_too_deep n ts ≡ None → ShallowFrom n ts
shallow [] n le e = shallow_nothing n le
shallow (t ∷ ts) n le e =
    let f = cond_none (nat_le (depth_after t.kind n) NESTING_LIMIT) (first_too_deep (depth_after t.kind n) ts) t.at e in
    shallow_more n t ts le (shallow ts (depth_after t.kind n) (leb-true (depth_after t.kind n) NESTING_LIMIT f.0) f.1)

pub none_is_shallow : (ts : List Token) → first_too_deep 0 ts ≡ None → IsShallow ts
none_is_shallow ts e = shallow ts 0 (omega arith) e

-- the first token that goes too deep
record Deep (n : ℕ) (ts : List Token) (at : ℕ) : Type 0 where
  front : List Token
  token : Token
  rest : List Token
  parts : ts ≡ front ++ token ∷ rest
  before : ShallowFrom n front
  past : NESTING_LIMIT < depth_from n (front ++ token ∷ [])
  place : token.at ≡ at

deep : (ts : List Token) (n at : ℕ) → n ≤ NESTING_LIMIT → first_too_deep n ts ≡ Some at → Deep n ts at
deep [] n at le e = let z : ⊥ = cc in absurd z
deep (t ∷ ts) n at le e =
    ⊎_elim
    (λ h.
    let d = deep ts (depth_after t.kind n) at (leb-true (depth_after t.kind n) NESTING_LIMIT h.0) h.1 in
    record {
      front = t ∷ d.front;
      token = d.token;
      rest = d.rest;
      parts = ap (λ l. t ∷ l) d.parts;
      before = shallow_more n t d.front le d.before;
      past = d.past;
      place = d.place;
    })
    (λ h. record {
      front = [];
      token = t;
      rest = ts;
      parts = refl;
      before = shallow_nothing n le;
      past = leb-false (depth_after t.kind n) NESTING_LIMIT h.0;
      place = h.1;
    })
    (cond_some_at (nat_le (depth_after t.kind n) NESTING_LIMIT) (first_too_deep (depth_after t.kind n) ts) t.at at e)

pub some_is_deep : (ts : List Token) (at : ℕ) → first_too_deep 0 ts ≡ Some at → BreaksAt IsShallow ts at
some_is_deep ts at e =
    let d = deep ts 0 at (omega arith) e in
    record {
      front = d.front;
      token = d.token;
      rest = d.rest;
      parts = d.parts;
      before = d.before;
      after = λ all.
          let most = all (d.front ++ d.token ∷ []) [] (sym (append-nil (d.front ++ d.token ∷ []))) in
          let past = d.past in
          omega arith;
      place = d.place;
    }

pub shallow_front : (front rest : List Token) → IsShallow (front ++ rest) → IsShallow front
shallow_front front rest all f r parts = all f (r ++ rest) (ap (λ l. l ++ rest) parts ∙ simp regrouped)
