-- The imports of this crate's proofs: from std, the crates below and its own definitions.
pub use Rattle.bp_advice.specs.Explanations.{BeginsProgram, IsJudged, IsPlain, IsProgram, MayFollow, MayFollowAs, is_plain, shown}
pub use Rattle.bp_syntax.specs.Tokens.{HasTokens, IsCut, IsReal, Lexeme, constants, ends, first_bad_byte, first_open_brace, kind_of, long_symbols, reserved_word, reserved_words, symbols, tokens_of}
pub use Rattle.std.proofs.Common.{Bool, Err, IfOk, IsTrue, List, None, Ok, Option, Result, Some, Vec, [], ap, arith, below_more, cond, false, get_or, if◌then◌else◌, inl, inr, length, length-take, map, nat_eq, refl, rules, slice_index_or, subst, sym, take, true, ℕ, ◌&&◌, ◌++◌, ◌+◌, ◌<◌, ◌==◌, ◌||◌, ◌↔◌, ◌∙◌, ◌∷◌, ◌≡◌, ◌≢◌, ◌≤◌, ◌⊎◌}
pub use Rattle.std.proofs.lemmas.Bool.{false≢true}
pub use Rattle.std.proofs.lemmas.List.Elements.{All-contains, All-map, All-push, Contains-append_left, Contains-push}
