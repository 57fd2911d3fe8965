-- The head of a trace as a format.
use Rattle.std.proofs.Common.{inl, inr, refl}
use Rattle.std.specs.Prelude.{if◌then◌else◌, ◌≡◌, ◌==◌, ◌^◌, ◌⊎◌, ℕ, Bool, true, false, List, [], ◌∷◌, Option, None, Some, codes}
use Rattle.bp_text.specs.Formats.{bit, Format}
use Rattle.bp_text.specs.Formats.Format.{After, As, Either, Line, Many, Number, Span, Then, Word}
use Rattle.bp_machine.specs.Setups.{SetupOf, setup_of}
use Rattle.bp_trace.specs.declared.heads.EntryState.{EntryState}
use Rattle.bp_trace.specs.declared.heads.EntryState.TheVariants.{Start, Within}
use Rattle.bp_trace.specs.declared.traces.Version.{Version}
use Rattle.bp_trace.specs.declared.traces.Version.TheVariants.{One, Two}

abbrev pub side_of : Version → Unit {0} ⊎ Unit {0}
side_of One = inl tt
side_of Two = inr tt

abbrev pub version_of : Unit {0} ⊎ Unit {0} → Version
version_of (inl x) = One
version_of (inr x) = Two

abbrev pub version_again : (v : Version) → version_of (side_of v) ≡ v
version_again One = refl
version_again Two = refl

abbrev pub version_word : Format Version
version_word =
    As side_of version_of version_again (Either (Word (codes "btrace 1")) (Word (codes "btrace 2")))

-- a name has a byte, and no line feed
abbrev pub after_byte : EntryState → ℕ → Option EntryState
after_byte state b = if b == 10 then None else Some Within

abbrev pub may_end : EntryState → Bool
may_end Start = false
may_end Within = true

abbrev pub entry : Format (List ℕ)
entry = Line (After (codes "entry ") (Span after_byte may_end Start))

-- a digit for each global, or a dash if there is none
abbrev pub parts_of_bits : List Bool → Unit {0} ⊎ (Bool × List Bool)
parts_of_bits [] = inl tt
parts_of_bits (b ∷ bs) = inr (b, bs)

abbrev pub bits_of_parts : Unit {0} ⊎ (Bool × List Bool) → List Bool
bits_of_parts (inl x) = []
bits_of_parts (inr (b, bs)) = b ∷ bs

abbrev pub bits_again : (bs : List Bool) → bits_of_parts (parts_of_bits bs) ≡ bs
bits_again [] = refl
bits_again (b ∷ bs) = refl

abbrev pub bits : Format (List Bool)
bits = As parts_of_bits bits_of_parts bits_again (Either (Word (codes "-")) (Then bit (Many bit)))

abbrev pub init : Format (List Bool)
init = Line (After (codes "init ") bits)

-- a number of 64 bits after a word
abbrev pub limit : List ℕ → Format ℕ
limit word = Line (After word (Number (2 ^ 64)))

abbrev pub part_of_seed : Option ℕ → Unit {0} ⊎ ℕ
part_of_seed None = inl tt
part_of_seed (Some n) = inr n

abbrev pub seed_of_part : Unit {0} ⊎ ℕ → Option ℕ
seed_of_part (inl x) = None
seed_of_part (inr n) = Some n

abbrev pub seed_again : (seed : Option ℕ) → seed_of_part (part_of_seed seed) ≡ seed
seed_again None = refl
seed_again (Some n) = refl

abbrev pub seed_value : Format (Option ℕ)
seed_value =
    As part_of_seed seed_of_part seed_again (Either (Word (codes "none")) (Number (2 ^ 64)))

abbrev pub seed : Format (Option ℕ)
seed = Line (After (codes "seed ") seed_value)

-- the lines from those of the limits on, and from the initial bits on
abbrev pub last_limits : Format (ℕ × Option ℕ)
last_limits = Then (limit (codes "calls ")) seed

abbrev pub limits : Format (ℕ × (ℕ × Option ℕ))
limits = Then (limit (codes "contexts ")) last_limits

abbrev pub settings : Format (List Bool × (ℕ × (ℕ × Option ℕ)))
settings = Then init limits

-- a version and a setup
abbrev pub head : Format (Version × SetupOf)
head =
    As (λ h. (h.0, (h.1.entries, (h.1.init, (h.1.contexts, (h.1.calls, h.1.seed))))))
    (λ p. (p.0, setup_of p.1.0 p.1.1.0 p.1.1.1.0 p.1.1.1.1.0 p.1.1.1.1.1)) (λ h. refl)
    (Then (Line version_word) (Then (Many entry) settings))
