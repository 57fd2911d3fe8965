-- The inferred bit of an instruction is that of the statement for which it stands.
use Rattle.bp_confirm.proofs.Common.{◌≡◌, ◌==◌, ℕ, arith, Bool, true, false, not, ◌&&◌, ◌||◌, List, Option, None, Some, refl, sym, ◌∙◌, slice_get, is_none, MatchBool, rules, slice_get-map, false≢true, nat_tests, Block, Then, Branches, Loops, Choose, Decide, Decision, Procedure, Program, chain, Formula, Instruction, places_of, Remains, Does, IsTestOf, start_of_block, starts_of, bit_towards, IsClearWay, AreBothAt, AreBothWays, NextNumbers, inferred_bit, inferred_way, is_fork, is_fork_block, IsInferred}
use Rattle.bp_flat.specs.StandsFor.{Place}
use Rattle.bp_flat.specs.Moves.{Store}
use Rattle.bp_flat.specs.Steps.{Bits}
use Rattle.bp_confirm.specs.Steps as point

pub if_clear : (b : Bool) → not b ≡ false → (clear ambiguous : Type 0) → MatchBool b clear ambiguous → clear
if_clear b given1 clear ambiguous given2 = grind (arith)

pub if_unclear : (b : Bool) → not b ≡ true → (clear ambiguous : Type 0) → MatchBool b clear ambiguous → ambiguous
if_unclear b given1 clear ambiguous given2 = grind (arith)

by_bits : (b c d : Bool) (clear ambiguous : Type 0) → (b ≡ true → clear) → (c ≡ false → clear) → (d ≡ false → clear)
    → (b ≡ false → c ≡ true → d ≡ true → ambiguous) → MatchBool (b || not (c && d)) clear ambiguous
by_bits b c d clear ambiguous given1 given2 given3 given4 = grind (arith)

abbrev is_choice : Decision → Bool
is_choice Choose = true
is_choice (Decide x) = false

-- whether the statement that begins there is at the place
abbrev pub start_is_at : point.Place → Option (Option ℕ) → Bool
start_is_at p None = false
start_is_at p (Some start) = p start

-- the instructions at the place of a thread's next step
abbrev pub numbers_at : List (Option ℕ) → Option point.Place → NextNumbers
numbers_at starts None = None
numbers_at starts (Some p) = Some (λ n. start_is_at p (slice_get starts n))

module _ (t : Program) (p : Procedure) where
  abbrev starts : List (Option ℕ)
  starts = starts_of t

  abbrev table : List Place
  table = places_of t.procedures

  there : (n : ℕ) (r : Block) → Remains table n p r → slice_get starts n ≡ Some (start_of_block r)
  there n r given1 = search (rules, slice_get-map)

  one_block : (m n : ℕ) (taken other : Block) → (m == n) ≡ true → Remains table m p taken → Remains table n p other → taken ≡ other
  one_block m n taken other given1 given2 given3 = grind (arith, nat_tests)

  apart : (m n : ℕ) → (m == n) ≡ false → m ≡ n → ⊥
  apart m n given1 given2 = grind (arith, nat_tests)

  two_ways : (q : point.Place) (m k : ℕ) (taken other : Block) → (m == k) ≡ false → Remains table m p taken → Remains table k p other
      → q (start_of_block taken) ≡ true → q (start_of_block other) ≡ true → AreBothAt t q taken other
  two_ways q m k taken other given1 given2 given3 given4 given5 = record {
    taken_at = given4;
    other_at = given5;
    ways = record { one = m; two = k; apart = apart m k given1; taken_is = there m taken given2; other_is = there k other given3 };
  }

  way_at : (q : point.Place) (m k : ℕ) (taken other : Block) → Remains table m p taken → Remains table k p other
      → MatchBool (m == k || not (q (start_of_block taken) && q (start_of_block other))) (IsClearWay (Some q) taken other) (AreBothWays t (Some q) taken other)
  way_at q m k taken other one two =
      by_bits (m == k) (q (start_of_block taken)) (q (start_of_block other)) _ _ (λ e at_one at_other. one_block m k taken other e one two)
      (λ e at_one at_other. absurd (false≢true (sym e ∙ at_one))) (λ e at_one at_other. absurd (false≢true (sym e ∙ at_other)))
      (λ e at_one at_other. two_ways q m k taken other e one two at_one at_other)

  way_is : (next : Option point.Place) (last : Bool) (m k : ℕ) (taken other : Block) → Remains table m p taken → Remains table k p other
      → let x = inferred_way (numbers_at starts next) last m k in
      (x.bit ≡ bit_towards last next taken other) × MatchBool x.is_clear (IsClearWay next taken other) (AreBothWays t next taken other)
  way_is None last m k taken other given1 given2 = (refl, tt)
  way_is (Some q) last m k taken other given1 given2 = grind (arith, there, way_at)

  no_bits : Store Bits
  no_bits = record { globals = λ k. false; locals = λ k. false }

  -- the test of a choice is the bit
  decides : (test : Option Formula) (d : Decision) → IsTestOf t p test d → is_none test ≡ is_choice d
  decides None Choose is = refl
  decides (Some f) (Decide x) is = refl
  decides None (Decide x) is = absurd (false≢true (is.equal no_bits false ∙ sym (is.equal no_bits true)))
  decides (Some f) Choose is = absurd (false≢true (sym (is.equal no_bits false) ∙ is.equal no_bits true))

  pub fork_is : (left : Block) (i : Instruction) → Does t (places_of t.procedures) p left i → is_fork i ≡ is_fork_block left
  fork_is left i is = grind (arith, decides)

  pub inferred_is : (next : Option point.Place) (last follow : Bool) (left : Block) (i : Instruction) → Does t (places_of t.procedures) p left i
      → IsInferred t left next last follow (inferred_bit (numbers_at starts next) last follow i)
  inferred_is next last follow (Then label at (Branches d a b) r) i is =
      grind (arith, decides is.test d is.test_is, way_is next last is.next is.else_next (chain a r) (chain b r) is.next_is is.else_is)
  inferred_is next last follow (Then label at (Loops d a) r) i is =
      grind (arith, decides is.test d is.test_is, way_is next last is.next is.else_next (chain a (Then label at (Loops d a) r)) r is.next_is is.else_is)
  inferred_is next last follow left i is = grind (arith, decides)
