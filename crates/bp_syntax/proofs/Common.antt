-- The imports of this crate's proofs: from std, the crates below and its own definitions.
pub use Rattle.bp_syntax.specs.Ast.{Asserts, Assigns, Assumes, Block, Branches, Calls, Choose, Constant, Decide, Decision, Done, Expression, GoesTo, Loops, Name, Negation, Operation, Prints, Procedure, Program, Returns, Skips, Statement, Then, Variable, block_size, procedure_named, procedures_size, size, variables}
pub use Rattle.bp_syntax.specs.Blocks.{block_of, statement_of}
pub use Rattle.bp_syntax.specs.Grammar.{Derives, IsAnd, IsAnyExprs, IsAnyNames, IsAtom, IsDecider, IsDecl, IsDecls, IsEq, IsExpr, IsExprs, IsForm, IsNames, IsOr, IsProc, IsProcs, IsStmt, IsStmts, IsUn, IsXor, assertion, assignment, assumption, brackets, branch, by_value, call, choice, conjunction, constant_0, constant_1, decl, difference, disjunction, equality, exclusion, first_name, first_word, implication, jump, labelled, loop, more_decls, more_exprs, more_names, more_procs, more_stmts, name_of, negation, no_decl, no_exprs, no_names, no_proc, of_and, of_atom, of_eq, of_or, of_un, of_xor, one_expr, one_name, one_stmt, printing, proc, program, returning, skip, some_exprs, some_names, unlabelled, variable}
pub use Rattle.bp_syntax.specs.Lexer.{IsFirst, IsFirstLexeme, IsNameless, IsScanError, TakesLexeme, comment, first_symbol, first_too_deep, first_too_many, is_continuation, run, token_list, unbraced_lexeme}
pub use Rattle.bp_syntax.specs.NamesIn.{EachName, NamesInBlock, NamesInDecision, NamesInExpression, NamesInExpressions, NamesInLabel, NamesInProcedure, NamesInProcedures, NamesInProgram, NamesInStatement}
pub use Rattle.bp_syntax.specs.ParserState.{AnyExprsThen, AnyNamesThen, ArgumentsThen, AssertThen, AssignThen, AssumeThen, BinaryThen, BodyThen, CallThen, Complete, ConditionThen, DeciderThen, ExprThen, ExprsThen, FormAfter, FormThen, FormalsThen, Got, GotoThen, IfThen, IsParseError, IsStop, KeywordThen, ListedThen, MoreDecls, MoreExprs, MoreImplied, MoreNames, MoreOperands, MoreProcs, MoreStmts, MoreTighter, NameThen, NamesThen, OperandThen, ParseResult, PrintThen, ProcThen, ReadsBy, StmtAfter, StmtThen, StmtsThen, StmtsTo, Stops, TargetsThen, UnThen, ValuesThen, Wanted, WhileThen, WordThen, is_at, is_at_expr, is_at_form, is_form_start, is_same_kind, is_un_start, kind_ahead, operator, operator_ahead, parse_result, place_ahead, place_or, procedure_of, program_at_end, program_of, result_after, result_at_end, wanted_after, wanted_after_name, wanted_after_un, wanted_by_operator, wanted_in_form, wanted_in_stmt, wanted_in_un, whole_program}
pub use Rattle.bp_syntax.specs.Refusals.{BreaksAt, HasSyntaxError, IsRefusal, Opens, read_error_number}
pub use Rattle.bp_syntax.specs.Spellings.{some_token}
pub use Rattle.bp_syntax.specs.Texts.{HasText, IsShallow, IsSparse, IsTextOf, NoSeparator, depth_after, depth_from, is_separator}
pub use Rattle.bp_syntax.specs.Tokens.{AllReal, Bad, Brace, Fit, HasBadByte, HasOpenName, HasTokens, IsCut, IsLongest, IsReal, IsSpelled, Lexeme, NoneFits, Token, bad_byte, constant, constants, ends, first_bad_byte, first_open_brace, fit, fits, is_braced_byte, is_braced_rest, is_comment_byte, is_letter, is_white, is_word_byte, kind_of, long_symbol, long_symbols, open_brace, reserved_word, reserved_words, symbol, symbols, tokens_of, whites, with_token, word_kind}
pub use Rattle.bp_syntax.specs.Views.{decision_of, expression_of}
pub use Rattle.bp_syntax.specs.contracts.tokens.TokenKind.{the_type}
pub use Rattle.bp_syntax.specs.declared.errors.ReadError.{ReadError}
pub use Rattle.bp_syntax.specs.declared.exprs.Op.{Op}
pub use Rattle.bp_syntax.specs.declared.lexemes.FirstLexeme.{FirstLexeme}
pub use Rattle.bp_syntax.specs.declared.limits.TheConstants.{MAX_GLOBALS, MAX_OWN_NAMES, MAX_PROCEDURES, NESTING_LIMIT, SUCCESSION_LIMIT, TEXT_LIMIT}
pub use Rattle.bp_syntax.specs.declared.parser.operators.Precedence.{Precedence}
pub use Rattle.bp_syntax.specs.declared.parser.operators.Precedence.TheVariants.{Conjunction, Disjunction, Equality, Exclusion}
pub use Rattle.bp_syntax.specs.declared.tokens.LexemeKind.{LexemeKind}
pub use Rattle.bp_syntax.specs.declared.tokens.TokenKind.{TokenKind}
pub use Rattle.std.proofs.Common.{All, Bool, Bor, Err, IfSome, IsErrAnd, List, MatchOption, MatchResult, None, Ok, Option, Result, Some, [], ap, append-nil, append_assoc, arith, bytes_eq, cond, drop, drop-drop, false, false-eqb, get_or, if◌then◌else◌, inl, inr, is_some, length, length-append, length-drop, length-take, map, nat_eq, nat_le, nat_lt, not, refl, rules, slice_get, subst, suc, sym, take, take_all, true, zero, ℕ, ⊎_elim, ◌&&◌, ◌*◌, ◌++◌, ◌+◌, ◌-◌, ◌<◌, ◌==◌, ◌||◌, ◌∙◌, ◌∷◌, ◌≡◌, ◌≢◌, ◌≤◌, ◌⊎◌}
pub use Rattle.std.proofs.Math.Logic.{∥∥₁_elim}
pub use Rattle.std.proofs.lemmas.Bool.{cases_eq, cases_lt, eqb-true, false≢true, leb-false, leb-true, ltb-false, ltb-true, ne_eqb}
pub use Rattle.std.proofs.lemmas.Option.{slice_get-get_or, slice_get_past, slice_get_read, slice_get_within}
pub use Rattle.std.specs.Coded.{le_prop}
pub use Rattle.std.specs.List.{list_all, list_any}
pub use Rattle.std.specs.Map.{lookup}
pub use Rattle.std.specs.Option.{option_copied, option_eq, option_or}
