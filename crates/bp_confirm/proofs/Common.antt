-- The imports of this crate's proofs: from std, the crates below and its own definitions.
pub use Rattle.bp_code.specs.WellFormedTexts.{IsWellFormedText}
pub use Rattle.bp_confirm.specs.ConfirmedTexts.{AreDeclared, AreDeclaredLines, AreKnown, AreRead, HasFitLength, IsConfirmedText, IsDeclared, IsFirstUndeclaredLine, IsFirstUndeclared, IsOfNoThread, IsOfNoVariable, IsSetupFor, IsStepsRefusal, contexts_allowed, thread_of}
pub use Rattle.bp_confirm.specs.Confirms.{ForStuck, GoesOnAt, IsAnswered, IsDifference, IsLastChange, IsNotFollowed, IsReason, IsStepRefusal, IsStuck, IsUnclear, SeesOther, StandsAtPlace, seen_after, seen_by, thread_place_at_point, thread_place_at_start, thread_place_in, thread_place_of}
pub use Rattle.bp_confirm.specs.FollowedSteps.{IsInferred, IsInferredOn, IsNotTaken, IsRefusedHere, NextNumbers, TellsNext, inferred_bit, inferred_way, is_fork, is_fork_block, is_fork_on, is_point_at, is_there, last_bits, points_from, refusal_of, source_points_of}
pub use Rattle.bp_confirm.specs.InferredBits.{AreBothAt, AreBothWays, EndsDeadlocked, EndsOtherwise, FollowAfter, Follows, IsAmbiguous, IsAmbiguousOnStack, IsClear, IsClearOnStack, IsClearWay, IsConfirmed, IsFollowed, IsTaken, LastBits, TakeEach, bit_of_block, bit_of_stack, bit_towards, deciding, differ, ones, some_follow, waiting_bits, waits_after, zeros}
pub use Rattle.bp_confirm.specs.KeptLines.{AreWithin, GrowsByOne, IsKeptLine, IsStepThere, kept_lines, lines_at, no_line}
pub use Rattle.bp_confirm.specs.Laws.{DeadlockIsTaken, IsMoveOf, IsRunOfSteps, MovesTake, NoRefusalOfConfirmed, OneConfirmed, OneRefusal, OnlyLinesAreAmbiguous, OwnDeadlockIsConfirmed, OwnLinesAreConfirmed, OwnTextIsConfirmed, RefusedFrontHasNoRun, RefusedHasNoRun, RefusedIsNotTaken}
pub use Rattle.bp_confirm.specs.LineReadings.{SaysValues, after_name, values_from, values_in}
pub use Rattle.bp_confirm.specs.OwnSteps.{AreOwnLines, AreShown, IsOwnLine, StepsAreOfTheRun, TextIsOfLines, exact_location, is_value, lines_of_steps, next_start, own_line, own_step, own_steps, own_steps_from, own_steps_text, sees_values}
pub use Rattle.bp_confirm.specs.Steps.{HasLines, IsBadLine, IsFirstMismatch, IsStepOf, Place, SeesValues, StepLineOf, StepOf, TakeAfter, Takes, after_byte, local_seen, location, location_in, may_end, next_location, next_locations, next_place, own_value, place_of, qualified_values, stands_at, step_line, step_of, steps_of, value, value_of, value_seen}
pub use Rattle.bp_confirm.specs.declared.choices.LastChoice.{LastChoice}
pub use Rattle.bp_confirm.specs.declared.confirmations.ConfirmError.{ConfirmError}
pub use Rattle.bp_confirm.specs.declared.confirmations.ConfirmError.TheVariants.{Memory, NoSteps, NoThread, NoVariable, Step, TooLong}
pub use Rattle.bp_confirm.specs.declared.confirmations.Difference.{Difference}
pub use Rattle.bp_confirm.specs.declared.confirmations.StepReason.{StepReason}
pub use Rattle.bp_confirm.specs.declared.confirmations.StepReason.TheVariants.{Ambiguous, Differs, Elsewhere, Finished, Refused}
pub use Rattle.bp_confirm.specs.declared.confirmations.StepRefusal.{StepRefusal}
pub use Rattle.bp_confirm.specs.declared.kept_lines.KeptLine.{KeptLine}
pub use Rattle.bp_confirm.specs.declared.source_points.SourcePoint.{SourcePoint}
pub use Rattle.bp_confirm.specs.declared.step_lines.Location.{Location}
pub use Rattle.bp_confirm.specs.declared.step_lines.Location.TheVariants.{Column, End, Line}
pub use Rattle.bp_flat.proofs.ProceduresOfPlaces.{ends, ends_more, few_ends, procedure_of, starts}
pub use Rattle.bp_flat.specs.Flat.{Flat, Formula, If, Instruction, While}
pub use Rattle.bp_flat.specs.InstrEffects.{bits_of, effect_of, store_of}
pub use Rattle.bp_flat.specs.Moves.{Blocks, Configuration, Fails, Frame, Leaves, Misses, Moves, StatementEffect, Valuation, after_effect, chain, effect, lookup, with_left}
pub use Rattle.bp_flat.specs.StandsFor.{Does, IsTestOf, Remains, StandsFor, place, places, places_in, places_of, start_of_block, starts_of, valuation_of, variables}
pub use Rattle.bp_syntax.specs.Ast.{Asserts, Assumes, Block, Branches, Choose, Decide, Decision, Done, Expression, Loops, Name, Procedure, Program, Returns, Statement, Then}
pub use Rattle.bp_syntax.specs.Grammar.{Derives, IsAnd, IsAnyExprs, IsAnyNames, IsAtom, IsDecider, IsDecls, IsEq, IsExpr, IsExprs, IsForm, IsNames, IsOr, IsProc, IsProcs, IsStmt, IsStmts, IsUn, IsXor, assertion, assignment, assumption, brackets, branch, by_value, call, choice, conjunction, constant_0, constant_1, decl, difference, disjunction, equality, exclusion, first_name, first_word, implication, jump, labelled, loop, more_decls, more_exprs, more_names, more_procs, more_stmts, negation, no_decl, no_proc, of_and, of_atom, of_eq, of_or, of_un, of_xor, one_expr, one_name, one_stmt, printing, proc, program, returning, skip, unlabelled, variable}
pub use Rattle.bp_syntax.specs.Texts.{IsTextOf}
pub use Rattle.bp_syntax.specs.Tokens.{IsCut, Lexeme, Token, bad_byte, fit, kind_of, open_brace, tokens_of, with_token}
pub use Rattle.bp_machine.proofs.ContextCounts.{least_opened, opened, opened_least, opened_more, opened_none}
pub use Rattle.bp_machine.proofs.HistoryWithCall.{calls_of_thread-other, calls_of_thread-same, configuration_after-append, ends_with_last-append, granted_threads-append, set_other, set_same}
pub use Rattle.bp_machine.proofs.RealFailures.{IsStep, is_step, step_moves, thread_below}
pub use Rattle.bp_machine.specs.Histories.{Answers, IsAllowed, IsLeastWithin, IsLegal, IsLegalAfter, IsWithin, calls_of_thread, configuration_after, configuration_after_call, configuration_after_calls, ends_with_last, granted_calls, granted_threads, is_terminated, is_granted, is_last, reply_of, reply_on_stack, reply_to_effect, stack_of}
pub use Rattle.bp_machine.specs.Laws.{HistoriesAreRuns, RunsAreHistories}
pub use Rattle.bp_machine.specs.Runs.{IsBoundedRun, IsDeadlocked, IsTop, has_frames, history_of_run, is_blocked, is_left, reply_of_step, waits}
pub use Rattle.bp_machine.specs.Sessions.{IsNextCall, SessionOf, Stands, contexts_opened, given_bit}
pub use Rattle.bp_machine.specs.Setups.{SetupOf, start, threads}
pub use Rattle.bp_machine.specs.declared.calls.Call.{Call}
pub use Rattle.bp_machine.specs.declared.calls.Reply.{Reply}
pub use Rattle.bp_machine.specs.declared.calls.Reply.TheVariants.{Stepped, Stopped}
pub use Rattle.bp_machine.specs.declared.limits.TheConstants.{MAX_CONTEXTS, MAX_THREADS}
pub use Rattle.bp_machine.specs.declared.tops.Top.{Top}
pub use Rattle.bp_source.specs.Names.{declares, qualified}
pub use Rattle.bp_source.specs.declared.tasks.ContextBound.{ContextBound}
pub use Rattle.bp_source.specs.declared.tasks.ContextBound.TheVariants.{AsUsed, Kept}
pub use Rattle.bp_text.proofs.PartsOfTexts.{both_added, none_left, regrouped, some_left}
pub use Rattle.bp_text.proofs.Readings.{after_at, at_as, before_at, both_at, left_at, neither, no_first, no_second, no_word_after, no_word_before, none_after, none_as, right_at, word_at}
pub use Rattle.bp_text.proofs.WholeTexts.{AreReadTo, IsNext, all_read, bad_there, next_value, no_next, none_bad, one_bad, one_more_read, one_reading}
pub use Rattle.bp_text.specs.Formats.{AreAll, EachFits, EndsNumber, Fits, HasNone, IsAt, Lacks, SpanFits, text_of}
pub use Rattle.bp_text.specs.Lines.{position_after, position_at}
pub use Rattle.std.proofs.Common.{Bool, Bor, IfSome, List, MatchBool, MatchOption, None, Option, Some, [], ap, append_assoc, ap₂, arith, codes, cond, decimal, drop, eq-eqb, false, flat_map, get_or, get_or-set_other, get_or-set_same, inl, inr, is_none, is_some, length, length-append, length-set, map, nat_lt, not, option_map, refl, replicate, reverse, rules, set, slice_get, slice_index_or, slice_set, subst, suc, sym, take, true, unwrap_or, vec_len, zero, ℕ, ◌&&◌, ◌++◌, ◌+◌, ◌-◌, ◌<◌, ◌==◌, ◌^◌, ◌||◌, ◌∙◌, ◌∷◌, ◌≡◌, ◌≢◌, ◌≤◌, ◌⊎◌}
pub use Rattle.std.proofs.Math.ListN.{drop_of_length-le, length-take}
pub use Rattle.std.proofs.Math.Path.{fun_ext}
pub use Rattle.std.proofs.Math.Seq.{drop-cons, drop-length}
pub use Rattle.std.proofs.lemmas.Bool.{cases_lt, cases_order, false≢true}
pub use Rattle.std.proofs.lemmas.Bool.Decides.{Decides-eqb, nat_tests}
pub use Rattle.std.proofs.lemmas.List.{append-nil, drop-set, drop-take, get_or_append_left, get_or_push, length-drop, length-map, map-append, map-set, map_push, reverse-append, take-append-drop, take-append-le, take-take, take_all, take_at, take_more}
pub use Rattle.std.proofs.lemmas.Option.{get_or_from_slice_get, slice_get-get_or, slice_get-map, slice_get_past, slice_get_within}
pub use Rattle.std.proofs.lemmas.Result.{err_from_is_err_and}
pub use Rattle.std.proofs.lemmas.Slice.Eq.{bytes_eq-Decides, strip_prefix_is}
pub use Rattle.std.specs.List.{AllByRecursion, filter, prefix_len}
pub use Rattle.std.specs.Option.{option_copied, option_or}
