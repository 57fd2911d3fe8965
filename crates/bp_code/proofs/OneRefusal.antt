-- A program has at most one refusal, memory aside: two least errors of one set are one error at one
-- place.
use Rattle.bp_code.proofs.Common.{◌≡◌, ◌≢◌, ℕ, List, [], ◌∷◌, refl, arith, Program, CheckError, IsError, IsWellFormed, IsNotAfter, IsLeast, IsRefusal}
use Rattle.bp_syntax.specs.declared.errors.CheckError.TheVariants as error

-- the errors and their numbers
abbrev numbers : List (ℕ × CheckError)
numbers =
    (11, error.TwiceGlobal) ∷ (12, error.TwiceProcedure) ∷ (13, error.TwiceLocal) ∷ (14, error.TwiceLabel)
    ∷ (15, error.UnknownVariable) ∷ (16, error.UnknownProcedure) ∷ (17, error.UnknownLabel) ∷ (18, error.Arity)
    ∷ (19, error.Lengths) ∷ (20, error.TwiceTarget) ∷ (21, error.Limit) ∷ (7, error.Memory) ∷ []

-- of two errors each of which does not come after the other, both are one at one place
one_place : (f g : CheckError) (at place : ℕ) → IsNotAfter f at g place → IsNotAfter g place f at → (f ≡ g) × (at ≡ place)
one_place f g at place given1 given2 = grind (arith)

-- a refusal that is not for memory is the least error
least_of_refusal : (p : Program) (f : CheckError) (at : ℕ) → f ≢ error.Memory → IsRefusal p f at → IsLeast (IsError p) f at
least_of_refusal p f at given1 given2 = grind (arith)

pub one_refusal : (p : Program) (f g : CheckError) (at place : ℕ) → f ≢ error.Memory → g ≢ error.Memory
    → IsRefusal p f at → IsRefusal p g place → (f ≡ g) × (at ≡ place)
one_refusal p f g at place one other r s =
    let a = least_of_refusal p f at one r in
    let b = least_of_refusal p g place other s in
    one_place f g at place (a.first g place b.within) (b.first f at a.within)

pub none_of_well_formed : (p : Program) (f : CheckError) (at : ℕ) → IsWellFormed p → IsRefusal p f at → f ≡ error.Memory
none_of_well_formed p error.Memory at well_formed r = refl
none_of_well_formed p f at well_formed r = absurd (well_formed f at r.within)
