-- The imports of this crate's proofs: from std, the crates below and its own definitions.
pub use Rattle.bp_flat.proofs.SlotsOfNames.{SameHeading, formals_of_procedure, heading_of_procedure}
pub use Rattle.bp_flat.specs.Flat.{Flat, Heading, Instruction, Print, heading_named, instruction_kind}
pub use Rattle.bp_flat.specs.InstrEffects.{bits_of, effect_of, store_of}
pub use Rattle.bp_flat.specs.Moves.{Blocks, Configuration, Frame, Leaves, Misses, Moves, StatementEffect, Store, Valuation, after_effect, binding, decision_value, effect, first_stack, frame_store, is_call, procedure_named}
pub use Rattle.bp_flat.specs.StandsFor.{Does, IsOfProgram, Place, SameEffect, ShowsFrame, ShowsStack, StandsFor, StepsAlike, named_store, places_of, valuation_of}
pub use Rattle.bp_flat.specs.Steps.{Activation, Bits, InstructionEffect, bits_from, effect_at, printed_values, step}
pub use Rattle.bp_flat.specs.declared.effects.Effect.{Effect}
pub use Rattle.bp_flat.specs.declared.effects.Effect.TheVariants.{Continues, Enters, Returns}
pub use Rattle.bp_syntax.proofs.GrownLists.{regrouped}
pub use Rattle.bp_syntax.specs.Ast.{Asserts, Assigns, Assumes, Block, Branches, Calls, Decision, Done, GoesTo, Loops, Name, Prints, Procedure, Program, Skips, Then}
pub use Rattle.bp_machine.specs.Histories.{ChoicesOf, EachIs, EachOfOne, IsAllowed, IsAt, IsAtFalseAssertion, IsBitOfCall, IsLeastWithin, IsLegal, IsLegalAfter, IsRealFailure, IsRun, IsSeeded, IsWithin, calls_of_thread, choice_bit, choice_word, configuration_after, configuration_after_call, configuration_after_calls, configuration_after_step, ends, ends_with_last, terminated_by, granted_calls, granted_threads, is_failure, is_terminated, is_full, is_granted, is_last, live_below, live_threads, outcome_of, outcome_or, reply_of, reply_on_stack, reply_to_effect, stack_of}
pub use Rattle.bp_machine.specs.Runs.{EachHasRoom, HasBoundedRun, HasRoom, IsBoundedRun, IsDeadlocked, IsHistoryOfSteps, has_frames, history_of_run, is_blocked, is_left, printed_rows, reply_of_step, rows_after, rows_of_call, values_at, values_printed, waits}
pub use Rattle.bp_machine.specs.Sessions.{GuestThreadOf, IsLiveThread, IsAskRefusal, IsCallStep, IsCountOf, IsInOrder, IsNextCall, KeptThread, MachineOf, SessionOf, ShowsThread, Stands, StandsAfter, State, activation_of, activations, choices_of, contexts_opened, count_with, entered_top, first_thread, guests, last_thread, rooms, top_of, used_with, with_top}
pub use Rattle.bp_machine.specs.Setups.{Fits, IsInRange, IsSetupRefusal, SetupOf, entries_error, entry_error, error_if, first_of, has_bad_threads, initial_bits, is_out_of_range, setup_error, setup_from, setup_of, start, threads}
pub use Rattle.bp_machine.specs.Transitions.{AreDrawn, AreFirstChoices, IsCallTransition, IsEntering, IsJudged, IsKeptBit, IsKeptRefusal, IsTransition, IsTransitionAt, IsTransitionOn, IsTransitionUnless, TransitionFitsIn, globals_after, is_over, reply_of_transition, session_of, stack_after, state_after, thread_after, transition_of}
pub use Rattle.bp_machine.specs.declared.calls.Call.{Call}
pub use Rattle.bp_machine.specs.declared.calls.Outcome.{Outcome}
pub use Rattle.bp_machine.specs.declared.calls.Outcome.TheVariants.{Clean}
pub use Rattle.bp_machine.specs.declared.calls.Reply.{Reply}
pub use Rattle.bp_machine.specs.declared.calls.Reply.TheVariants.{Blocked, Ended, Failed, Full, NoContexts, Stepped, Stopped}
pub use Rattle.bp_machine.specs.declared.contexts.ContextCount.{ContextCount}
pub use Rattle.bp_machine.specs.declared.limits.TheConstants.{MAX_CALLS, MAX_FRAMES, MAX_THREADS}
pub use Rattle.bp_machine.specs.declared.sessions.Judged.{Judged}
pub use Rattle.bp_machine.specs.declared.setup_errors.SetupError.{SetupError}
pub use Rattle.bp_machine.specs.declared.stacks.ActivationRecord.{ActivationRecord}
pub use Rattle.bp_machine.specs.declared.threads.Transition.{Transition}
pub use Rattle.bp_machine.specs.declared.threads.Transition.TheVariants.{Fails, Stays, Steps}
pub use Rattle.rand_pcg.specs.Lcg.{Lcg, increment_of, started}
pub use Rattle.rand_pcg.specs.Pcg.{multiplier_64, pcg32}
pub use Rattle.std.proofs.Common.{All, Bool, Bor, Global, IsTrue, List, None, Option, Some, String, [], add-one, ap, arith, bytes_eq, cond, drop, drop_of_length-le, false, get_or, if◌then◌else◌, inl, inr, is_some, length, length-append, length-drop, map, nat_le, nat_lt, not, option_map, refl, replicate, reverse, rules, slice_get, slice_index_or, slice_set, string_bytes, subst, suc, sym, take, true, unwrap_or, vec_len, zero, ℕ, ◌&&◌, ◌*◌, ◌++◌, ◌+◌, ◌-◌, ◌/◌, ◌<◌, ◌==◌, ◌^◌, ◌||◌, ◌↔◌, ◌∙◌, ◌∷◌, ◌≡◌, ◌≢◌, ◌≤◌, ◌⊎◌}
pub use Rattle.std.proofs.Math.Logic.{∥∥₁_elim, ∥∥₁_map}
pub use Rattle.std.proofs.Math.Nat.{suc-mul, ℕ_set}
pub use Rattle.std.proofs.Math.Seq.{map-set_same, set-append_seam}
pub use Rattle.std.proofs.lemmas.Bool.{cases_lt, false≢true}
pub use Rattle.std.proofs.lemmas.Bool.Decides.{nat_tests}
pub use Rattle.std.proofs.lemmas.List.{append-nil, get_or-set_other, get_or-set_same, get_or_past, length-map, length-set, map-append, map-set, reverse-append, take-replicate, take_more}
pub use Rattle.std.proofs.lemmas.Option.{get_or_from_slice_get, slice_get-get_or, slice_get-map, slice_get_cases, slice_get_read, slice_get_within}
pub use Rattle.std.proofs.lemmas.Result.{err_from_is_err_and}
pub use Rattle.std.specs.List.{AllByRecursion, concat}
pub use Rattle.std.specs.Option.{option_copied, option_or, option_to_list}
