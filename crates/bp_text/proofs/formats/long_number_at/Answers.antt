use Rattle.bp_text.proofs.Common.{subst, sym, arith, rules, EndsNumber}
use Rattle.bp_text.proofs.NumbersInTurn.{ends_at, ends_empty, first_front, leading_zero, more_front, no_digit_first, no_number_of_none, number_there, too_large}
use Rattle.bp_text.proofs.formats.long_number_at.Goals as goal

pub returns-in_default : goal.returns-in_default
returns-in_default c = no_number_of_none c.args.text.now c.in_default.ensures.cases

pub returns-then-not-is_ascii_digit : goal.returns-then-not-is_ascii_digit
returns-then-not-is_ascii_digit c =
    no_digit_first c.args.text.now c.in-Some.first.now c.in-Some.others.now
    c.in-Some.ensures.cases.0 c.if-not-is_ascii_digit.ensures.cases

pub loop-digit-init : goal.loop-digit-init
loop-digit-init c = search (rules, first_front)

pub returns-then-not-is_ascii_digit-2 : goal.returns-then-not-is_ascii_digit-2
returns-then-not-is_ascii_digit-2 c =
    number_there c.args.text.now c.loop-digit.number c.loop-digit.rest.now c.loop-digit.invariant
    (subst EndsNumber (sym c.in-Some-split_first.ensures.cases.0)
    (ends_at c.in-Some-split_first.digit.now c.in-Some-split_first.more.now c.if-not-is_ascii_digit-2.ensures.cases))

pub returns-then-number-eq0 : goal.returns-then-number-eq0
returns-then-number-eq0 c =
    let range = c.if-not-is_ascii_digit-2.ensures.cases in
    leading_zero c.args.text.now c.loop-digit.number c.loop-digit.rest.now c.loop-digit.invariant
    c.in-Some-split_first.digit.now c.in-Some-split_first.more.now c.in-Some-split_first.ensures.cases.0 range.0 range.1 c.if-number-eq0.true

pub returns-in_default-with_digit : goal.returns-in_default-with_digit
returns-in_default-with_digit c =
    let range = c.if-not-is_ascii_digit-2.ensures.cases in
    too_large c.args.text.now c.loop-digit.number c.loop-digit.rest.now c.loop-digit.invariant
    c.in-Some-split_first.digit.now c.in-Some-split_first.more.now c.in-Some-split_first.ensures.cases.0 range.0 range.1 c.in_default-with_digit.ensures

pub loop-digit-preserved : goal.loop-digit-preserved
loop-digit-preserved c =
    let range = c.if-not-is_ascii_digit-2.ensures.cases in
    more_front c.args.text.now c.loop-digit.number c.loop-digit.rest.now c.loop-digit.invariant
    c.in-Some-split_first.digit.now c.in-Some-split_first.more.now c.in-Some-split_first.ensures.cases.0 range.0 range.1
    c.in-Some-with_digit.next c.in-Some-with_digit.ensures (omega arith) c.if-number-eq0.false

pub returns : goal.returns
returns c =
    number_there c.args.text.now c.loop-digit.number c.loop-digit.rest.now c.loop-digit.invariant
    (ends_empty c.loop-digit.rest.now c.in_default-split_first.ensures.cases)
