-- The imports of this crate's proofs: from std, the crates below and its own definitions.
pub use Rattle.bp_flat.proofs.SlotsOfNames.{SameHeading, heading_of_procedure, value_of_slot}
pub use Rattle.bp_flat.specs.Flat.{Flat, Heading, Instruction, heading_named}
pub use Rattle.bp_flat.specs.InstrEffects.{bits_of, store_of}
pub use Rattle.bp_flat.specs.Moves.{Blocks, Configuration, Fails, Frame, Leaves, Misses, StatementEffect, Store, Valuation, after_assignment, after_effect, after_write, binding, call_effect, decision_value, effect, entry_frame, expression_values, first_stack, frame_store, from_label, is_call, jump_effect, lookup, procedure_named, same_bit, statement_effect, update, with_left}
pub use Rattle.bp_flat.specs.StandsFor.{Does, Place, Remains, StandsFor, named_store, place, places_of, start_of_block, starts_of, valuation_of, variables}
pub use Rattle.bp_flat.specs.Steps.{Bits}
pub use Rattle.bp_syntax.specs.Ast.{Asserts, Assigns, Assumes, Block, Branches, Calls, Decision, Done, GoesTo, Loops, Name, Prints, Procedure, Program, Returns, Skips, Statement, Then}
pub use Rattle.bp_syntax.specs.Errors.{Among, AreDistinct, HasDistinctNames, first_index, has}
pub use Rattle.bp_machine.proofs.ContextCounts.{counts_more, least_opened, opened, opened_least, within_front}
pub use Rattle.bp_machine.proofs.HistoryWithCall.{calls_of_thread-same, calls_other, configuration_after-append, granted_threads-append}
pub use Rattle.bp_machine.proofs.RealFailures.{real}
pub use Rattle.bp_machine.specs.Histories.{IsAtFalseAssertion, IsLeastWithin, IsLegal, IsRealFailure, IsWithin, calls_of_thread, configuration_after, configuration_after_call, configuration_after_calls, configuration_after_step, granted_threads, is_full, is_granted, outcome_of, reply_on_stack, reply_to_effect, stack_of}
pub use Rattle.bp_machine.specs.Runs.{IsDeadlocked, IsTop, IsTopOf, finds_zero, has_frames, is_blocked, is_left, waits}
pub use Rattle.bp_machine.specs.Sessions.{IsAskRefusal, IsPrintRefusal, Stands, contexts_opened, given_bit, last_thread, used_with}
pub use Rattle.bp_machine.specs.Setups.{IsInRange, SetupOf, start, threads}
pub use Rattle.bp_machine.specs.declared.calls.Call.{Call}
pub use Rattle.bp_machine.specs.declared.calls.Outcome.{Outcome}
pub use Rattle.bp_machine.specs.declared.calls.Outcome.TheVariants.{Clean, Failed}
pub use Rattle.bp_machine.specs.declared.calls.Reply.{Reply}
pub use Rattle.bp_machine.specs.declared.calls.Report.{Report}
pub use Rattle.bp_machine.specs.declared.tops.Top.{Top}
pub use Rattle.bp_source.proofs.OneStatement.{one_list_of_statements, one_statement, one_statement_at}
pub use Rattle.bp_source.proofs.SourceStatementLists.{SourceStatementAt, got_item, shown_texts, source_statement_at, texts_are}
pub use Rattle.bp_source.specs.Listings.{name_at, string_item}
pub use Rattle.bp_source.specs.Names.{declares, next_decision, piece_size, pieces, variables_read}
pub use Rattle.bp_source.specs.SourceStatements.{AreSourceStatements, AreSourceStatementsAt, IsSourceStatement, IsStatement, IsStatementAt, place_text}
pub use Rattle.bp_source.specs.declared.source_statements.SourceStatement.{SourceStatement}
pub use Rattle.bp_source.specs.declared.options.ViewFormat.{ViewFormat}
pub use Rattle.bp_source.specs.declared.options.ViewFormat.TheVariants.{Columns}
pub use Rattle.bp_source.specs.declared.options.ViewOptions.{ViewOptions}
pub use Rattle.bp_text.proofs.Givings.{begun_as, cut_as, written_as}
pub use Rattle.bp_text.proofs.PartsOfTexts.{both_added, item_at, one_added, one_before, one_last, one_of_parts, part_of_each, regrouped, within}
pub use Rattle.bp_text.specs.Lines.{Adds, IsInParts, position_at}
pub use Rattle.bp_text.specs.Pieces.{at_left, at_right, list_text, piece_text, spaces}
pub use Rattle.bp_text.specs.Writing.{AppendsAll, AppendsPart, IsBegun, IsCutShort, IsWritten}
pub use Rattle.bp_trace.proofs.PlayableFronts.{front, next_allowed, own_is}
pub use Rattle.bp_trace.specs.Replays.{IsOwnRefusal, IsPlayable}
pub use Rattle.bp_view.specs.Buffers.{Gains, Grown, HasTaken, IsEmpty, IsLed, IsListed, then}
pub use Rattle.bp_view.specs.CallFacts.{AreCallFacts, AreProgramFacts, Entry, IsCheckpoint, IsContext, IsKept, IsNext, IsNextOf, IsReplayedCall, IsSameCall, Next, ShownCall, arguments_of, changed, changes_between, changes_by, entry_of, facts_in, frame_changed, frame_entries, is_switch, next_at, next_by, nothing_next, owned, printed_by, slot_entry, stack_entries}
pub use Rattle.bp_view.specs.ContextLines.{AreContextFacts, AreContextLines, AreSpans, AreSpansFrom, IsContextLine, IsContextOf, IsSpan, IsStandingPoint, IsStepIn, ShownContext, changes_within, context_in, context_text, contexts_head, count_of, joined, with_step}
pub use Rattle.bp_view.specs.Filters.{AreDeclared, IsUndeclared, StandForEachOnce, asked_calls, before_last, calls_at, calls_in_line, calls_of, calls_of_lines, is_asked, is_between, is_late, is_of, is_of_thread, is_same_wait, is_seen, is_watched, last_number, owner_name, skipped, trimmed, waits_like, watched_names}
pub use Rattle.bp_view.specs.FooterFacts.{AreAssertionFacts, AreConditionFacts, AreFailureFacts, AreFooterFacts, AreStandingFacts, AreWaitsFacts, IsAtCondition, ShownCondition, ShownFooter, condition_in, footer_in, named_entries, named_entry, resolved, waiting}
pub use Rattle.bp_view.specs.Lines.{AreReady, AreReadyIn, AreWidths, Extent, bit_item, entry_text, extent, extent_of, field_texts, prefix_text, indented, led, front_members, longest, text_members, mark_text, note_text, shortened, standing_text, tens_digits, tens_text, variables_text}
pub use Rattle.bp_view.specs.SetupLines.{AreHeaded, globals_line, thread_line, thread_lines, under_headings, view_head}
pub use Rattle.bp_view.specs.StateFacts.{AreFrameFacts, AreStackFacts, AreStateFacts, AreThreadFacts, AreThreadsFacts, ShownFrame, ShownState, ShownThread, frame_in, last_reply, status, thread_in}
pub use Rattle.bp_view.specs.States.{IsStateText, frame_text, state_text, thread_text}
pub use Rattle.bp_view.specs.Views.{AreLines, AreMembers, HasMade, HaveMembers, IsEnd, IsFooter, IsMissing, IsShownLine, IsSent, IsShownTrace, IsStateIf, IsStopped, IsThere, IsView, IsViewContextOf, IsViewLine, IsViewLineIf, IsViewOfTrace, IsViewRefusal, IsViewable, IsViewed, after_footer, filter_of, footer_text, has_line, line_in, next_print_in, printed_in, wait_text}
pub use Rattle.bp_view.specs.declared.buffers.Buffer.{Buffer}
pub use Rattle.bp_view.specs.declared.change_facts.Change.{Change}
pub use Rattle.bp_view.specs.declared.errors.ViewError.TheVariants.{Memory, NoThread, NoVariable, Replay, Write}
pub use Rattle.bp_view.specs.declared.filters.CallFilter.{CallFilter}
pub use Rattle.bp_view.specs.declared.spans.Span.{Span}
pub use Rattle.bp_view.specs.declared.view_contexts.ViewContext.{ViewContext}
pub use Rattle.bp_view.specs.declared.view_contexts.Widths.{Widths}
pub use Rattle.std.proofs.Common.{Bool, Bor, IsSomeAnd, IsTrue, List, MatchOption, None, Option, Some, [], add-one, add-zero, ap, append-nil, append_assoc, ap₂, arith, bytes_eq, codes, cond, decimal, drop, drop-cons, false, flat_map, get_or, if◌then◌else◌, inl, inr, is_some, length, length-append, length-take, map, max, min, nat_le, nat_lt, ne_eqb, option_map, refl, replicate, reverse, rules, slice_get, slice_index_or, slice_set, subst, suc, sym, take, take-append-drop, true, unwrap_or, vec_len, zero, ℕ, ◌%◌, ◌&&◌, ◌++◌, ◌+◌, ◌-◌, ◌/◌, ◌<◌, ◌==◌, ◌^◌, ◌||◌, ◌↔◌, ◌∙◌, ◌∷◌, ◌≡◌, ◌≢◌, ◌≤◌, ◌⊎◌}
pub use Rattle.std.proofs.Math.Seq.{drop-append-add, drop-append_seam, get_or-append_seam, take-append-add, take-append_seam, take-nil}
pub use Rattle.std.proofs.lemmas.Bool.{cases_lt, false≢true}
pub use Rattle.std.proofs.lemmas.Bool.Decides.{nat_tests}
pub use Rattle.std.proofs.lemmas.Grind.{common_steps, flat_map-append}
pub use Rattle.std.proofs.lemmas.List.{drop_all, get_or-map, get_or-set_other, get_or-set_same, get_or_append_left, get_or_past, length-map, length-reverse, length-take-le, map-append, nil_from_length, replicate-append-replicate, reverse-append, take-append-le, take_all, take_min, take_more}
pub use Rattle.std.proofs.lemmas.List.Elements.{All-head, All-nil, All-push, All-tail}
pub use Rattle.std.proofs.lemmas.List.Folds.{flat_map-map, list_all_more}
pub use Rattle.std.proofs.lemmas.List.Sums.{prefix_len_is, suffix_len_is}
pub use Rattle.std.proofs.lemmas.Option.{get_or_from_slice_get, slice_get-get_or, slice_get_within, unwrap_or-slice_get}
pub use Rattle.std.proofs.lemmas.Result.{IfOk-weaker, err_from_is_err_and, on_ok_weaker}
pub use Rattle.std.specs.List.{All, concat, list_any, suffix_len}
