use Rattle.bp_source.proofs.Common.{◌≡◌, ◌∙◌, ◌++◌, Some, suc, drop, slice_get, ap, sym, add-one, rules, rest_left, instruction_object, instruction_objects}
use Rattle.std.specs.Option.{option_copied}
use Rattle.bp_source.proofs.SourceStatementLists.{next_object, without_instruction, without_statement}
use Rattle.bp_source.proofs.listings.push_instructions.Goals as goal

pub returns-in_default : goal.returns-in_default
returns-in_default c =
    let is = c.args.code.now.instructions in
    without_instruction c.args.procs.now c.loop-number.number is c.args.statements.now c.loop-number.out.items _
    (sym c.get.ensures ∙ ap option_copied c.in_default.is) c.loop-number.invariant

pub loop-number-preserved : goal.loop-number-preserved
loop-number-preserved c =
    let ps = c.args.procs.now in
    let is = c.args.code.now.instructions in
    let statements = c.args.statements.now in
    let n = c.loop-number.number in
    let i = c.in-Some.instr.now in
    let statement = c.index-statements-number.result in
    let old = c.loop-number.out.items in
    let new = c.push_instruction.new.out.items in
    let object = instruction_object ps n i statement in
    let left = instruction_objects ps (suc n) (drop (suc n) is) (drop (suc n) statements) in
    let at : slice_get is n ≡ Some i = sym c.get.ensures ∙ ap option_copied c.in-Some.is in
    let next = next_object ps n n is statements i statement at c.loop-number-test.true c.index-statements-number.is in
    ap (λ k. new ++ instruction_objects ps k (drop k is) (drop k statements)) (add-one n)
    ∙ rest_left old new object left _ c.in_ok-push_instruction.ensures (ap (λ x. old ++ x) (sym next) ∙ c.loop-number.invariant)

pub returns : goal.returns
returns c = search (rules, without_statement)
