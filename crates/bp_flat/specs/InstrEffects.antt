-- The instruction effect for an effect of src/ and the store before it.
use Rattle.std.specs.Prelude.{ℕ, nat_eq, List, ◌∷◌}
use Rattle.std.specs.Int.{bit_at}
use Rattle.bp_flat.specs.declared.stores.Store.{Store}
use Rattle.bp_flat.specs.Moves as effects
use Rattle.bp_flat.specs.Steps as steps
use Rattle.bp_flat.specs.declared.effects.Effect.{Effect}
use Rattle.bp_flat.specs.declared.effects.Effect.TheVariants.{Continues, Enters, Returns, Fails, Blocks}
use Rattle.bp_flat.specs.Steps.{Activation, activation, InstructionEffect}

-- The bits of the words of src/ by their slots.

-- the bits of a word, with that of weight 2 ^ k at k
abbrev pub bits_of : ℕ → steps.Bits
bits_of word k = nat_eq (bit_at word k) 1

abbrev pub store_of : Store → effects.Store steps.Bits
store_of w = record { globals = bits_of w.globals; locals = bits_of w.locals }

-- the effect above the activations below, with the store s before it
abbrev pub effect_of : Store → Effect → List Activation → InstructionEffect
effect_of s (Continues m after) below =
    effects.Leaves (bits_of after.globals) (activation m (bits_of after.locals) ∷ below)
effect_of s (Enters c m l) below =
    let caller = activation m (bits_of s.locals) in
    effects.Leaves (bits_of s.globals) (activation c (bits_of l) ∷ caller ∷ below)
effect_of s Returns below = effects.Leaves (bits_of s.globals) below
effect_of s Fails below = effects.Fails
effect_of s Blocks below = effects.Blocks
