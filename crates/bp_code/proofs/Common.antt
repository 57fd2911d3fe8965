-- The imports of this crate's proofs: from std, the crates below and its own definitions.
pub use Rattle.bp_code.specs.CompilablePrograms.{AllCompilableIn, AreSizesAt, AreSizesOf, HasNames, HasNamesIn, HaveFew, IsCompilable, IsCompilableIn, block_sizes, inner_sizes}
pub use Rattle.bp_code.specs.CompiledCode.{Environment, block_code, block_entry, block_size, callee_in, flat_of, formula_in, formulas_in, headings_from, inner_number, label_in, label_number, procedures_code, procedures_size, size, slot_in, slot_of, slots_in, statement_code, test_in}
pub use Rattle.bp_code.specs.Environments.{environment_of}
pub use Rattle.bp_code.specs.KnownNames.{HasSlot, IsKnown, IsKnownIn}
pub use Rattle.bp_code.specs.Listing.{end_before, heading_line, instruction_line, instruction_lines, lines_between, listing_text, number_field, procedure_lines}
pub use Rattle.bp_code.specs.Refusals.{IsLeast, IsNotAfter, IsRefusal}
pub use Rattle.bp_code.specs.Sets.{Finds, IsErrorOfBody, IsErrorOfNames, IsErrorOfProcedures, IsErrorOfStatements, IsMisuse, IsProcedureError, IsStatementError, IsStray, Only, all_labelled, index_in, is_not_after, labelled_of, least_of, names_of}
pub use Rattle.bp_code.specs.declared.checks.Found.{Found}
pub use Rattle.bp_flat.proofs.ProceduresOfPlaces.{drop_item, dropped_all}
pub use Rattle.bp_flat.specs.Flat.{Heading, Instruction, heading_named}
pub use Rattle.bp_flat.specs.Moves.{Store, after_assignment, after_write, chain, expression_value, expression_values, from_inside, from_label, has_label, lookup, operation_value, update, variable_value}
pub use Rattle.bp_flat.specs.StandsFor.{AreTargets, AreValues, Does, Heads, IsTestOf, Place, Remains, StandsFor, block_starts, inner_starts, named_store, place, places, places_in, places_of, start_of_block, valuation_of}
pub use Rattle.bp_syntax.proofs.LawsOfWellFormedPrograms.{Among-back, Among-front, Among-split, distinct_names, few_names, sound_statements}
pub use Rattle.bp_syntax.specs.Ast.{Asserts, Assigns, Assumes, Block, Branches, Calls, Constant, Decision, Done, Expression, GoesTo, Loops, Name, Negation, Operation, Prints, Procedure, Program, Returns, Skips, Statement, Then, Variable, procedure_named, variables}
pub use Rattle.bp_syntax.specs.Blocks.{block_of, statement_of}
pub use Rattle.bp_syntax.specs.Depth.{depth, statement_depth}
pub use Rattle.bp_syntax.specs.Errors.{Among, DecisionUses, HasFewNames, HasSoundStatements, HasTargetTwice, IsError, IsWellFormed, IsNameAt, IsPast, IsSound, IsTwice, IsUndeclared, IsUneven, Labelled, Mentions, SomeUses, Uses, first_index, first_index_from, has, labels, labels_of, statements, statements_inside}
pub use Rattle.bp_syntax.specs.NamesIn.{EachName, NamesInDecision, NamesInExpression, NamesInExpressions}
pub use Rattle.bp_syntax.specs.Views.{decision_of, expression_of}
pub use Rattle.bp_syntax.specs.declared.errors.CheckError.{CheckError}
pub use Rattle.bp_syntax.specs.declared.errors.CheckError.TheVariants.{Arity, Lengths, Limit, Memory, TwiceGlobal, TwiceLabel, TwiceLocal, TwiceProcedure, TwiceTarget, UnknownLabel, UnknownProcedure, UnknownVariable}
pub use Rattle.bp_syntax.specs.declared.limits.TheConstants.{MAX_GLOBALS, MAX_OWN_NAMES, MAX_PROCEDURES}
pub use Rattle.bp_syntax.specs.declared.stmts.Stmt.{Stmt}
pub use Rattle.bp_text.proofs.Givings.{IsLeft, left_after, written_at_end}
pub use Rattle.bp_text.proofs.PartsOfTexts.{regrouped}
pub use Rattle.std.proofs.Common.{Bool, IfOk, IsSome, List, None, Option, Result, Some, [], add-one, add-zero, ap, append-nil, ap₂, arith, bytes_eq, cond, drop, drop-cons, drop-drop, drop_at, false, flat_map, get_or, if◌then◌else◌, inl, inr, is_some, length, length-append, map, nat_eq, nat_le, nat_lt, not, option_map, refl, rules, slice_get, subst, suc, sym, take, true, unwrap_or, zero, zero-add, ℕ, ◌&&◌, ◌*◌, ◌++◌, ◌+◌, ◌-◌, ◌<◌, ◌||◌, ◌∙◌, ◌∷◌, ◌≡◌, ◌≢◌, ◌≤◌, ◌⊎◌}
pub use Rattle.std.proofs.lemmas.Bool.Decides.{nat_tests}
pub use Rattle.std.proofs.lemmas.Grind.{common_steps}
pub use Rattle.std.proofs.lemmas.List.{length-map, map-append, set_at, take_all, take_more}
pub use Rattle.std.proofs.lemmas.Map.Text.{btree_map_updates_str}
pub use Rattle.std.proofs.lemmas.Option.{slice_get-get_or, slice_get-map, slice_get_past, slice_get_within}
pub use Rattle.std.proofs.lemmas.Result.{on_ok_weaker}
pub use Rattle.std.specs.Borrow.{Bor}
pub use Rattle.std.specs.Option.{IfSome, option_and_then, option_copied, option_or, option_to_list}
