-- The imports of this crate's proofs: from std, the crates below and its own definitions.
pub use Rattle.bp_explore.specs.Explorations.{CanMake, HasNone, HasNoneBelow, IsExploration, IsFirst, IsInBound, IsMade, IsPlayed, IsReachable, IsSafe, ListedSteps, MakesFrom, ends, makes, most_calls, passes}
pub use Rattle.bp_explore.specs.Searches.{AreAtMost, AreFrom, AreLayered, AreOthers, BeginsAt, Expands, Fails, Has, HasMade, HasNeither, HasNeitherBelow, HasOneMade, HaveFewer, IsClosed, IsCount, IsCountTo, IsCountedStep, IsExhausted, IsExpanded, IsExplored, IsFollowed, IsFrom, IsGrown, IsMostMade, IsNextLayer, IsPlayedTo, IsSearchEnd, IsSeen, IsSeenStep, IsStep, IsTaken, IsTopOrNone, Leads, ShowsStep, Stays, Step, failures, level_with, node_with}
pub use Rattle.bp_explore.specs.States.{AreLiveFrom, HasKey, IsLive, IsNext, IsPacked, IsRecordOf, NodeOf, NodesOf, Shows, StateOf, end_of, first_stack_of, frames_of, goes_on, is_going, last_of, node_of, nodes_from, record_at, start_from, state_after, take_frame, take_key, take_number, take_stack, take_state, take_times}
pub use Rattle.bp_explore.specs.declared.observers.SeenStep.{SeenStep}
pub use Rattle.bp_explore.specs.declared.searches.SearchEnd.{SearchEnd}
pub use Rattle.bp_flat.specs.Flat.{Flat, Instruction}
pub use Rattle.bp_flat.specs.InstrEffects.{bits_of}
pub use Rattle.bp_flat.specs.Moves.{Configuration, Frame, Moves, after_effect, effect}
pub use Rattle.bp_flat.specs.StandsFor.{ShowsStack, StandsFor, StepsAlike, valuation_of}
pub use Rattle.bp_syntax.specs.Ast.{Program}
pub use Rattle.bp_machine.proofs.ContextCounts.{count_of_none, counts_more, least, opened, opened_more, within_more}
pub use Rattle.bp_machine.proofs.Deadlocks.{none_shown, top_shown}
pub use Rattle.bp_machine.proofs.HistoriesAreRuns.{goes, history_is_run}
pub use Rattle.bp_machine.proofs.RealFailures.{ended, first_step, is_step, move_keeps, one_move, stacks_at_start, step_is, step_moves, thread_below}
pub use Rattle.bp_machine.proofs.SessionsInOrder.{starts, top_is}
pub use Rattle.bp_machine.proofs.TransitionIsAnswer.{IsAnswer, on_stack}
pub use Rattle.bp_machine.specs.Histories.{IsAllowed, IsRun, IsWithin, calls_of_thread, configuration_after, configuration_after_call, configuration_after_step, granted_calls, is_granted, reply_of, reply_on_stack, reply_to_effect, stack_of}
pub use Rattle.bp_machine.specs.Runs.{EachHasRoom, HasRoom, IsDeadlocked, IsTop, finds_zero, is_blocked, is_left, reply_of_step}
pub use Rattle.bp_machine.specs.Sessions.{IsCountOf, StackOf, Stands, activations, contexts_opened, count_with, first_thread, top_of}
pub use Rattle.bp_machine.specs.Setups.{Fits, SetupOf, start, threads}
pub use Rattle.bp_machine.specs.Transitions.{IsTransitionOn, reply_of_transition, stack_after}
pub use Rattle.bp_machine.specs.declared.calls.Call.{Call}
pub use Rattle.bp_machine.specs.declared.calls.Reply.{Reply}
pub use Rattle.bp_machine.specs.declared.calls.Reply.TheVariants.{Ended, Full, Stepped, Stopped}
pub use Rattle.bp_machine.specs.declared.stacks.ActivationRecord.{ActivationRecord}
pub use Rattle.bp_machine.specs.declared.threads.Transition.{Transition}
pub use Rattle.std.proofs.Common.{All, Bool, IsTrue, List, None, Option, Some, [], ap, append-nil, append_assoc, arith, cond, drop, eqb-true, false, get_or, get_or-set_other, get_or-set_same, inl, inr, length, length-append, length-drop, length-set, map, nat_le, not, option_map, refl, reverse, rules, slice_get, slice_index_or, slice_set, string_bytes, subst, suc, sym, take, take_all, true, zero, ℕ, ◌%◌, ◌&&◌, ◌*◌, ◌++◌, ◌+◌, ◌-◌, ◌/◌, ◌<◌, ◌^◌, ◌↔◌, ◌∙◌, ◌∷◌, ◌≡◌, ◌≢◌, ◌≤◌, ◌⊎◌}
pub use Rattle.std.proofs.lemmas.Bool.{cases_lt}
pub use Rattle.std.proofs.lemmas.Grind.{common_steps}
pub use Rattle.std.proofs.lemmas.List.{drop-append-le, get_or_past, length-map, length-reverse, map-set, reverse-append, take-append-le, take_more, take_more_set}
pub use Rattle.std.proofs.lemmas.Option.{slice_get-map, slice_get_read, slice_get_within}
pub use Rattle.std.specs.Option.{is_some, unwrap_or}
