-- The imports of this crate's proofs: from std, the crates below and its own definitions.
pub use Rattle.bp_flat.proofs.ProceduresOfPlaces.{drop_item, ends, ends_more, few_ends, procedure_of, starts}
pub use Rattle.bp_flat.specs.Moves.{chain}
pub use Rattle.bp_flat.specs.StandsFor.{Place, places, places_in, places_of, start_of_block}
pub use Rattle.bp_source.specs.Listings.{IsSourced, heading_item, instruction_object, instruction_objects, line, line_with, name_item, name_list, nothing, procedure_item, statements_after}
pub use Rattle.bp_source.specs.NamedBits.{AreGlobals, NamedBitOf, are_named, are_named_bits, bit_of, bits_by_name, has_global, is_named_in, is_set, named_bit, named_bit_in, named_bits, values_of}
pub use Rattle.bp_source.specs.Names.{block_decisions, decision_in, inner_decisions, is_among, is_braced_after, is_named, next_decision, piece_size, pieces, pieces_left, qualified, reading_of}
pub use Rattle.bp_source.specs.SourceStatements.{AreSourceStatementsAt, AreStatements, HasLexemes, IsAtEnd, IsSourceStatement, IsStatement, IsStatementAt, Lexeme, Takes, ending, is_choice, is_ending, is_gap, lexeme_text, lexemes_text, more, none_left}
pub use Rattle.bp_source.specs.StatementLines.{position_of, rendering_of}
pub use Rattle.bp_source.specs.declared.initial_bits.NamedBit.{NamedBit}
pub use Rattle.bp_source.specs.declared.source_statements.SourceStatement.{SourceStatement}
pub use Rattle.bp_syntax.specs.Ast.{Asserts, Assigns, Assumes, Block, Branches, Calls, Decision, Done, GoesTo, Loops, Name, Prints, Procedure, Returns, Skips, Statement, Then, block_size, procedures_size, size}
pub use Rattle.bp_syntax.specs.Blocks.{block_of, statement_of}
pub use Rattle.bp_syntax.specs.Depth.{depth, statement_depth}
pub use Rattle.bp_text.proofs.PartsOfTexts.{all_added, one_more, regrouped, rest_left}
pub use Rattle.bp_text.specs.Lines.{IsOneLine, first_line, position_at}
pub use Rattle.std.proofs.Common.{Bool, Bor, IfOk, IfSome, List, None, Ok, OnOk, Option, Result, Some, [], add-one, ap, append-nil, ap₂, arith, bytes_eq, codes, cond, drop, eq-eqb, false, flat_map, fold, get_or, inl, inr, is_some, length, length-take, map, nat_lt, not, option_map, refl, rules, slice_get, string_bytes, subst, suc, sym, take, take_all, true, unwrap_or, zero, ℕ, ⊎_elim, ◌&&◌, ◌*◌, ◌++◌, ◌+◌, ◌<◌, ◌==◌, ◌||◌, ◌∙◌, ◌∷◌, ◌≡◌, ◌≢◌, ◌≤◌, ◌⊎◌}
pub use Rattle.std.proofs.lemmas.Bool.{false≢true}
pub use Rattle.std.proofs.lemmas.Grind.{common_steps}
pub use Rattle.std.proofs.lemmas.List.{length-append, map-append, take_more}
pub use Rattle.std.proofs.lemmas.Option.{get_or_from_slice_get, slice_get-get_or, slice_get-map, slice_get_past, slice_get_within}
pub use Rattle.std.specs.List.{after_first, concat, list_any, onto_first}
