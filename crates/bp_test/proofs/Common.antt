-- The imports of this crate's proofs: from std, the crates below and its own definitions.
pub use Rattle.bp_flat.specs.Flat.{Flat}
pub use Rattle.bp_flat.specs.StandsFor.{Place, places_of}
pub use Rattle.bp_syntax.specs.Ast.{Program}
pub use Rattle.bp_machine.proofs.HistoryWithCall.{same_or_not}
pub use Rattle.bp_machine.proofs.StandsAfterTransition.{at_end}
pub use Rattle.bp_machine.specs.Histories.{IsAtFalseAssertion, IsLeastWithin, IsLegal, IsLegalAfter, IsRealFailure, IsReport, IsWithin, configuration_after, configuration_after_call, configuration_after_calls, configuration_after_step, granted_calls, granted_threads, is_failure, is_terminated, is_granted, live_below, live_threads, outcome_of, outcome_or, stack_of}
pub use Rattle.bp_machine.specs.Laws.{FailuresAreReal, HistoriesAreRuns, RunsAreHistories}
pub use Rattle.bp_machine.specs.Runs.{HasBoundedRun, IsBoundedRun, IsDeadlocked, IsHistoryOfSteps, waits}
pub use Rattle.bp_machine.specs.Sessions.{SessionOf, Stands}
pub use Rattle.bp_machine.specs.Setups.{Fits, IsInRange, SetupOf, setup_error, threads}
pub use Rattle.bp_machine.specs.declared.calls.Call.{Call}
pub use Rattle.bp_machine.specs.declared.calls.Outcome.{Outcome}
pub use Rattle.bp_machine.specs.declared.calls.Outcome.TheVariants.{Clean}
pub use Rattle.bp_machine.specs.declared.calls.Reply.{Reply}
pub use Rattle.bp_machine.specs.declared.calls.Report.{Report}
pub use Rattle.bp_test.specs.Reach.{AreMarks, AreWaiting, HasStep, IsEndKey, IsKey, IsNext, IsNextOf, IsNumberOf, IsReachedByCall, IsRunKey, IsTried, IsWait, IsWaitedAt, IsWaiting, MarksGrow, Reaches, has_refusal, is_marked, key_after, marks_after, next_place, no_call, no_thread, one_call, one_thread, place_of, refuses_context, waiting_below}
pub use Rattle.bp_test.specs.Shrinks.{DeadlocksAt, GoesOn, IsDriven, IsEnd, IsNoMore, IsSearch, IsShrunk, IsShrunkOf, with_contexts, unseeded}
pub use Rattle.bp_test.specs.Tallies.{AreContextsUsed, AreKeys, IsCounted, IsLeastFor, IsTally, MadeRun, alone_before, calls_of, capped, contexts_with, count_of, count_with, ends_of, ends_sum, is_alone, longest_of, made, using_contexts, within_contexts}
pub use Rattle.bp_test.specs.Tests.{AreBlocks, AreCleanRuns, FailsAt, HasFailed, HaveReturned, IsBlock, IsCleanRun, IsCutRun, IsFirstFound, IsFound, IsFoundRun, IsMadeRun, IsOver, IsSought, IsSoughtRun, IsTallied, IsWrittenRun, RestsIn, Wait, found_by, found_in, is_sought, setup_of_run}
pub use Rattle.bp_test.specs.declared.limits.TheConstants.{LARGEST_SHARE, MAX_KEYS}
pub use Rattle.bp_test.specs.declared.plans.Plan.{Plan}
pub use Rattle.bp_test.specs.declared.tallies.Tally.{Tally}
pub use Rattle.bp_test.specs.declared.waits.Waiting.{Waiting}
pub use Rattle.std.proofs.Common.{All, Any, Bool, IfNone, IfSome, IsTrue, List, MatchOption, None, Ok, Option, Result, Some, [], add-one, ap, append-nil, arith, below_more, cond, count_by, drop, eqb-true, false, fold, get_or, if◌then◌else◌, inl, inr, is_some, length, map, max, min, nat_eq, nat_le, nat_lt, not, refl, rules, slice_get, slice_index_or, slice_set, subst, suc, sum_by, sym, take, true, unwrap_or, vec_len, zero, ℕ, ◌%◌, ◌&&◌, ◌*◌, ◌++◌, ◌+◌, ◌-◌, ◌/◌, ◌<◌, ◌==◌, ◌^◌, ◌||◌, ◌↔◌, ◌∙◌, ◌∷◌, ◌≡◌, ◌≢◌, ◌≤◌, ◌⊎◌}
pub use Rattle.std.proofs.Crossing.{crosses}
pub use Rattle.std.proofs.lemmas.Bool.{cases_lt}
pub use Rattle.std.proofs.lemmas.Bool.Decides.{nat_tests}
pub use Rattle.std.proofs.lemmas.List.{drop_all, get_or-append-add, get_or-drop, get_or-set_other, get_or-set_same, get_or-take, get_or_append_left, get_or_default, get_or_past, length-append, length-drop, length-set, length-take, length_push, map-append, take-append-le, take_all, take_more}
pub use Rattle.std.proofs.lemmas.List.Sorted.{Contains-permutation, IsNonDecreasingBy-from_sort, IsPermutation-sym, length_permutation, sum_by-IsPermutation}
pub use Rattle.std.proofs.lemmas.List.Sums.{count_by-le-length, fold-append, get_or-le-sum_by, sum_by-append, sum_by-cons, sum_by-drop_more, sum_by-le, sum_by-take-drop, sum_by_more}
pub use Rattle.std.proofs.lemmas.Map.Keys.{IsDistinct-from_apart, IsStrictlyIncreasing-dedup}
pub use Rattle.std.proofs.lemmas.Result.{err_from_is_err_and, on_ok_weaker}
