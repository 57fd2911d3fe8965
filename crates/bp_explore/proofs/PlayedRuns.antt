-- The result once a run was played.
use Rattle.bp_explore.proofs.Common.{◌≡◌, ◌++◌, ◌∷◌, [], true, List, ℕ, Bool, Option, sym, subst, rules, Program, Flat, Call, granted_calls, is_granted, SetupOf, IsFirst, IsExploration, IsPlayed, IsInBound}
use Rattle.std.proofs.lemmas.List.Elements.{filter-append}
use Rattle.bp_explore.specs.declared.explorations.Ending.{Ending}
use Rattle.bp_explore.specs.declared.explorations.Ending.TheVariants.{Nothing, NothingWithin, Found, Unplayed, Unfinished}
use Rattle.bp_explore.specs.declared.explorations.Finding.{Finding}

-- Histories of only granted attempts.

pub granted_more : (h : List Call) (x : Call) → granted_calls h ≡ h → is_granted x.reply ≡ true → granted_calls (h ++ x ∷ []) ≡ h ++ x ∷ []
granted_more h x given1 given2 = search (rules, filter-append)

module _ (c : Flat) (t : Program) (s : SetupOf) (bound : Option ℕ) (b : Bool) (k : ℕ) (f : Finding) (first : IsFirst t s b k f) (within : IsInBound bound k) where
  first_of : (m : ℕ) (g : Finding) → m ≡ k → g ≡ f → IsFirst t s b m g
  first_of m g k_is f_is = subst (λ n. IsFirst t s b n g) (sym k_is) (subst (IsFirst t s b k) (sym f_is) first)

  pub played_answer : (e : Ending) → IsPlayed c t s k f e → IsExploration c t s bound b e
  played_answer (Nothing last) is = absurd is
  played_answer (NothingWithin contexts) is = absurd is
  played_answer (Found r) (k_is, f_is, found) = (first_of r.contexts r.finding k_is f_is, found, subst (IsInBound bound) (sym k_is) within)
  played_answer (Unplayed contexts finding calls) (k_is, f_is, long) = (first_of contexts finding k_is f_is, long, subst (IsInBound bound) (sym k_is) within)
  played_answer (Unfinished contexts reason) is = absurd is
