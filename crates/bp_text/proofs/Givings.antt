-- The texts given to a sink, added up.
use Rattle.bp_text.proofs.Common.{◌≡◌, refl, ℕ, ◌+◌, ◌-◌, ◌<◌, ◌≤◌, List, ◌++◌, Option, length, take, drop, get_or, flat_map, sym, subst, arith, add-one, drop-cons, length-append, length-drop, [], Bool, false, Result, ◌∙◌, rules, take-append-le, take-add, take-length, take-append-add, flat_map-append, Appends, Keeps, AppendsPart, AppendsAll, Writes, HasTaken, Given, IsFresh, result_of, IsBegun, IsCutShort, IsWritten}
use Rattle.std.proofs.Common.{take-append-drop}
use Rattle.std.proofs.lemmas.List.{append-nil, append_assoc}
use Rattle.std.proofs.KnownBytes.{Appends-trans, Appends-nil, Keeps-refl}
use Rattle.std.specs.Borrow.{MutBor}
use Rattle.std.specs.Result.{is_err}
use Rattle.bp_text.specs.declared.sinks.WriteError.{WriteError}
use Rattle.bp_text.specs.declared.sinks.Sink.{Sink}

-- How pieces that were written one after the other add up.

-- the slice from d on
pub all_from : (bs : List ℕ) (d : ℕ) → take (length bs - d) (drop d bs) ≡ drop d bs
all_from bs d = subst (λ n. take n (drop d bs) ≡ drop d bs) (length-drop d bs) (take-length (drop d bs))

-- d bytes are there, and n more of the rest were taken
pub Appends_next : (a b c : Option (List ℕ)) (bs : List ℕ) (d n : ℕ) → Appends a b (take d bs)
    → Appends b c (take n (take (length bs - d) (drop d bs))) → Appends a c (take (d + n) bs)
Appends_next a b c bs d n p q =
    subst (Appends a c) (sym (take-add d n bs)) (Appends-trans a b c _ _ p (rw all_from at q))

-- a text that stops within its middle is a proper prefix of the whole
pub AppendsPart_within : (a b c : Option (List ℕ)) (before text rest : List ℕ) → Appends a b before → AppendsPart b c text
    → AppendsPart a c (before ++ (text ++ rest))
AppendsPart_within a b c before text rest p q = record {
  count = length before + q.count;
  short = let h = q.short in rw (length-append before (text ++ rest), length-append text rest) (omega arith);
  grown =
      rw (take-append-add before (text ++ rest) q.count)
      (Appends-trans a b c _ _ p (subst (Appends b c) (sym (take_within text rest q.count q.short)) q.grown));
}
  where
    take_within : (text rest : List ℕ) (n : ℕ) → n < length text → take n (text ++ rest) ≡ take n text
    take_within text rest n h = let le : n ≤ length text = omega arith in rw take-append-le

-- the pieces before the i-th, the i-th and the others
pub flat_map_at : {X : Type 0} (f : X → List ℕ) (xs : List X) (i : ℕ) (x : X) → i < length xs
    → flat_map f xs ≡ flat_map f (take i xs) ++ (f (get_or xs i x) ++ flat_map f (drop (i + 1) xs))
flat_map_at f xs i x h =
    subst (λ ys. flat_map f ys ≡ flat_map f (take i xs) ++ (f (get_or xs i x) ++ flat_map f (drop (i + 1) xs))) (take-append-drop i xs)
    (rw (flat_map-append f (take i xs) (drop i xs)) (rw (add-one, drop-cons xs i x) refl))

-- How the pieces of a text add up.

pub all_then : (a b c : Option (List ℕ)) (t u : List ℕ) → AppendsAll a b t → AppendsAll b c u → AppendsAll a c (t ++ u)
all_then a b c t u p q = record { grown = Appends-trans a b c t u p.grown q.grown }

pub part_first : (a b : Option (List ℕ)) (t u : List ℕ) → AppendsPart a b t → AppendsPart a b (t ++ u)
part_first a b t u p = AppendsPart_within a a b [] t u (Appends-nil a) p

pub part_then : (a b c : Option (List ℕ)) (t u : List ℕ) → AppendsAll a b t → AppendsPart b c u → AppendsPart a c (t ++ u)
part_then a b c t u p q = subst (λ x. AppendsPart a c (t ++ x)) (append-nil u) (AppendsPart_within a b c t u [] p.grown q)

pub and_then : {W : Type 0} {contents : W → Option (List ℕ)} {a b c : Sink W} {t u : List ℕ}
    → Given contents a b t → Given contents b c u → Given contents a c (t ++ u)
and_then given1 given2 = search (rules, append_assoc)

taken_by : {T E : Type 0} (first old now : Option (List ℕ)) (before text : List ℕ) (r : Result T E)
    → HasTaken first old false before → Writes old now text r → HasTaken first now (is_err r) (before ++ text)
taken_by given1 given2 = search (rules, all_then, part_then)

-- a sink that had refused nothing hands the text to a call that writes it
pub given_written : {W T E : Type 0} (contents : W → Option (List ℕ)) (a b : Sink W) (text : List ℕ) (r : Result T E)
    → b.out.ghost_name ≡ a.out.ghost_name → a.refused ≡ false → b.refused ≡ is_err r
    → Writes (contents a.out.now) (contents b.out.now) text r → Given contents a b text
given_written given1 given2 given3 given4 = search (rules, taken_by)

taken_kept : (first old now : Option (List ℕ)) (refused : Bool) (text : List ℕ)
    → HasTaken first old refused text → Keeps old now → HasTaken first now refused text
taken_kept first old now refused text given1 given2 = grind (arith)

-- a sink whose writer keeps what it has was given nothing
pub given_nothing : {W : Type 0} (contents : W → Option (List ℕ)) (a b : Sink W)
    → b.out.ghost_name ≡ a.out.ghost_name → b.refused ≡ a.refused → Keeps (contents a.out.now) (contents b.out.now)
    → Given contents a b []
given_nothing given1 given2 given3 = search (rules, append-nil, taken_kept)

pub given_none : {W : Type 0} (contents : W → Option (List ℕ)) (a : Sink W) → Given contents a a []
given_none contents a = given_nothing contents a a refl refl (Keeps-refl (contents a.out.now))

-- of a text that the sink is given, the rest is left
pub record IsLeft {W : Type 0} (contents : W → Option (List ℕ)) (a b : Sink W) (text rest : List ℕ) : Type 0 where
  pub done : List ℕ
  pub given : Given contents a b done
  pub is : text ≡ done ++ rest

pub left_after : {W : Type 0} (contents : W → Option (List ℕ)) (a b c : Sink W) (text t u : List ℕ)
    → IsLeft contents a b text (t ++ u) → Given contents b c t → IsLeft contents a c text u
left_after contents a b c text t u h p =
    record { done = h.done ++ t; given = and_then h.given p; is = h.is ∙ sym (append_assoc h.done t u) }

taken_all : (first now : Option (List ℕ)) (refused : Bool) (text : List ℕ) → HasTaken first now refused text → Writes first now text (result_of refused)
taken_all first now refused text given1 = grind (arith)

-- the text given to a sink that had refused nothing is that which its writer took
pub taken_since : {W : Type 0} (contents : W → Option (List ℕ)) (a b : Sink W) (text : List ℕ)
    → a.refused ≡ false → Given contents a b text → HasTaken (contents a.out.now) (contents b.out.now) b.refused text
taken_since contents a b text fine p =
    let old = contents a.out.now in
    p.takes old [] (subst (λ x. HasTaken old old x []) (sym fine) (record { grown = Appends-nil old }))

-- the text given to a new sink is that which was written, as its writer is seen after it
pub written_at_end : {W : Type 0} (contents : W → Option (List ℕ)) (out : MutBor W) (a b : Sink W) (text : List ℕ) (r : Result (Unit {0}) WriteError)
    (last : (v : W) × (out.ghost_name ≡ b.out.ghost_name → v ≡ b.out.now))
    → IsFresh a out → Given contents a b text → r ≡ result_of b.refused → Writes (contents out.now) (contents last.0) text r
written_at_end contents out a b text r last fresh p is =
    rw (is, last.1 (sym (p.same_reference ∙ fresh.same_reference)), ← fresh.now)
    (taken_all (contents a.out.now) (contents b.out.now) b.refused text (taken_since contents a b text fresh.fine p))

-- each text of a kind is one of another
module _ {IsText IsOther : List ℕ → Type 0} (are : (text : List ℕ) → IsText text → IsOther text) {a b : Option (List ℕ)} where
  pub written_as : IsWritten IsText a b → IsWritten IsOther a b
  written_as x = record { text = x.text; is = are x.text x.is; written = x.written }

  pub begun_as : IsBegun IsText a b → IsBegun IsOther a b
  begun_as x = record { begun = x.begun; rest = x.rest; is = are (x.begun ++ x.rest) x.is; written = x.written }

  pub cut_as : IsCutShort IsText a b → IsCutShort IsOther a b
  cut_as x = record { text = x.text; is = are x.text x.is; written = x.written }
