-- The imports of this crate's proofs: from std, the crates below and its own definitions.
pub use Rattle.bp_flat.specs.Flat.{Flat, Instruction, heading_named}
pub use Rattle.bp_flat.specs.InstrEffects.{bits_of, store_of}
pub use Rattle.bp_flat.specs.Moves.{Blocks, Fails, Frame, Leaves, StatementEffect, Store, after_assignment, assignment_effect, binding, chain, decision_value, effect, expression_value, expression_values, lookup, procedure_named, statement_effect}
pub use Rattle.bp_flat.specs.StandsFor.{CarriesOut, Does, Heads, IsEntryOf, Place, Remains, SameEffect, ShowsStack, StandsFor, StepsAlike, named_store, place, places, places_in, places_of, start_of_block, valuation_of, variables}
pub use Rattle.bp_flat.specs.Steps.{Activation, Bits, InstructionEffect, bits_from, formula_value, formula_values, instruction_effect, step, step_to, with_bit, with_slot, with_slots}
pub use Rattle.bp_flat.specs.Views.{formula_of}
pub use Rattle.bp_syntax.specs.Ast.{Asserts, Assigns, Assumes, Block, Branches, Calls, Done, GoesTo, Loops, Name, Prints, Procedure, Program, Returns, Skips, Statement, Then}
pub use Rattle.std.proofs.Common.{Bool, Bor, List, MatchOption, None, Option, Some, [], add-one, ap, arith, bit_and, bit_or, bytes_eq, cond, div-add-mod', drop, drop-cons, false, get_or, if◌then◌else◌, inl, inr, length, map, nat_eq, option_map, refl, rules, slice_get, subst, suc, sym, take, true, zero, ℕ, ◌%◌, ◌*◌, ◌++◌, ◌+◌, ◌-◌, ◌/◌, ◌<◌, ◌^◌, ◌∙◌, ◌∷◌, ◌≡◌, ◌≢◌, ◌≤◌, ◌⊎◌}
pub use Rattle.std.proofs.lemmas.List.{length-map, take_more}
pub use Rattle.std.proofs.lemmas.Nat.Bits.{bit_at_above, bit_at_and, bit_at_cat_high, bit_at_cat_low, bit_at_clear_other, bit_at_clear_same, bit_at_set_other, bit_at_set_same, shr_and_one}
pub use Rattle.std.proofs.lemmas.Option.{slice_get-get_or, slice_get-map, slice_get_read}
pub use Rattle.std.specs.Option.{option_copied, option_or}
