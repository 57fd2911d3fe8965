-- Walks of a step relation that has at most one next state: of two that begin alike one continues
-- from the end of the other.
use Rattle.bp_trace.proofs.Common.{◌≡◌, ◌⊎◌, inl, inr, sym, subst, arith}

pub data Walk {S : Type 0} (Next : S → S → Type 0) : S → S → Type 0 where
  Stays : {s : S} → Walk Next s s
  Goes : {s u v : S} → Next s u → Walk Next u v → Walk Next s v

module _ {S : Type 0} (Next : S → S → Type 0) where
  abbrev pub IsSingle : Type 0
  IsSingle = (s u v : S) → Next s u → Next s v → u ≡ v

  -- nothing is next
  abbrev pub Stops : S → Type 0
  Stops s = (u : S) → Next s u → ⊥

  pub compared : IsSingle → (s a b : S) → Walk Next s a → Walk Next s b → Walk Next a b ⊎ Walk Next b a
  compared single s a b Stays w = inl w
  compared single s a b (Goes n w) Stays = inr (Goes n w)
  compared single s a b (Goes {u = u} n w) (Goes {u = v} m z) = compared single v a b (subst (λ k. Walk Next k a) (single s u v n m) w) z

  pub stays : (a b : S) → Walk Next a b → Stops a → a ≡ b
  stays a b given1 given2 = grind (arith)

  -- if both stop they are one
  pub one_end : IsSingle → (s a b : S) → Walk Next s a → Walk Next s b → Stops a → Stops b → a ≡ b
  one_end single s a b w z p q = elim (compared single s a b w z) [ inl on ↦ stays a b on p | inr back ↦ sym (stays b a back q) ]
