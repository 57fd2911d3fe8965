use Rattle.bp_syntax.proofs.Common.{length, Ok, Err, arith, rules, token_list, program_of, IsParseError, IsTextOf, IsRefusal, ReadError}
use Rattle.bp_syntax.specs.declared.errors.ReadError.TheVariants as error
use Rattle.bp_syntax.proofs.FirstTooMany.{none_is_shallow, none_is_sparse}
use Rattle.bp_syntax.proofs.OneAnswer.{only_answer, scan_error, nested_error, crowd_error, parse_error, parsed, error_passed_on}
use Rattle.bp_syntax.proofs.lexer.read.Goals as goal
use Rattle.bp_syntax.proofs.lexer.read.Goals.{In-Some, In-Some-first_too_many, After-parse, In_ok-globals}

pub returns-in_err-scanned-clause-whole : goal.returns-in_err-scanned-clause-whole
returns-in_err-scanned-clause-whole c =
    let text = c.args.text.now in
    only_answer text _ (error_passed_on text _ c.in_err-scanned.field-0.0 c.from_residual.ensures.1 (scan_error text _ (omega arith) c.in_err-scanned.ensures))

-- a token nests too deep
nested_refusal : (c : In-Some) → IsRefusal c.args.text.now (error.TooNested c.in-Some.at)
nested_refusal c = search (rules, nested_error)

pub returns-in-Some-clause-answer : goal.returns-in-Some-clause-answer
returns-in-Some-clause-answer c = nested_refusal (goal.at.returns-in-Some-clause-answer c).In-Some

pub returns-in-Some-clause-whole : goal.returns-in-Some-clause-whole
returns-in-Some-clause-whole c =
    only_answer c.args.text.now (Err (error.TooNested c.in-Some.at)) (nested_refusal (goal.at.returns-in-Some-clause-whole c).In-Some)

-- a token is one too many
crowd_refusal : (c : In-Some-first_too_many) → IsRefusal c.args.text.now (error.TooManyTokens c.in-Some-first_too_many.at)
crowd_refusal c = search (rules, crowd_error)

pub returns-in-Some-first_too_many-clause-answer : goal.returns-in-Some-first_too_many-clause-answer
returns-in-Some-first_too_many-clause-answer c = crowd_refusal (goal.at.returns-in-Some-first_too_many-clause-answer c).In-Some-first_too_many

pub returns-in-Some-first_too_many-clause-whole : goal.returns-in-Some-first_too_many-clause-whole
returns-in-Some-first_too_many-clause-whole c =
    only_answer c.args.text.now (Err (error.TooManyTokens c.in-Some-first_too_many.at))
    (crowd_refusal (goal.at.returns-in-Some-first_too_many-clause-whole c).In-Some-first_too_many)

-- the parser's refusal is the text's
parse_refusal : (c : After-parse) (e : ReadError)
    → IsParseError (token_list c.as_slice-tokens.result.now) (length c.args.text.now) e → IsRefusal c.args.text.now e
parse_refusal c e given1 = search (rules, parse_error, none_is_shallow, none_is_sparse)

pub returns-in_err-globals-clause-answer : goal.returns-in_err-globals-clause-answer
returns-in_err-globals-clause-answer c =
    error_passed_on c.args.text.now _ c.in_err-globals.field-0.0 c.from_residual-in_err-globals.ensures.1
    (parse_refusal (goal.at.returns-in_err-globals-clause-answer c).After-parse c.in_err-globals.field-0.0 c.in_err-globals.ensures)

pub returns-in_err-globals-clause-whole : goal.returns-in_err-globals-clause-whole
returns-in_err-globals-clause-whole c =
    only_answer c.args.text.now _
    (error_passed_on c.args.text.now _ c.in_err-globals.field-0.0 c.from_residual-in_err-globals.ensures.1
    (parse_refusal (goal.at.returns-in_err-globals-clause-whole c).After-parse c.in_err-globals.field-0.0 c.in_err-globals.ensures))

-- the tree is that of the text
of_text : (c : In_ok-globals) → IsTextOf c.args.text.now (program_of c.in_ok-globals.globals c.in_ok-globals.procs)
of_text c = search (rules, parsed)

pub new-requires : goal.new-requires
new-requires c = ∣ (c.args.text.now, of_text c) ∣₁

pub returns-clause-answer : goal.returns-clause-answer
returns-clause-answer c = rw c.in_ok-tree.ensures (of_text (goal.at.returns-clause-answer c).In_ok-globals)

pub returns-clause-whole : goal.returns-clause-whole
returns-clause-whole c =
    only_answer c.args.text.now (Ok _) (rw c.in_ok-tree.ensures (of_text (goal.at.returns-clause-whole c).In_ok-globals))
