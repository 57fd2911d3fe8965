use Rattle.bp_test.proofs.Common.{◌≡◌, ◌<◌, ◌++◌, ◌∙◌, ℕ, List, Option, None, Some, IfSome, length, slice_index_or, ap, sym, subst, rules, All, AreBlocks, IsBlock}
use Rattle.std.specs.Option.{option_to_list}
use Rattle.std.proofs.lemmas.List.{get_or_read}
use Rattle.std.proofs.lemmas.List.Elements.{All-head, All-tail, All-set}
use Rattle.bp_test.specs.declared.batches.Block.{Block}
use Rattle.bp_test.proofs.batches.take_block.Goals as goal

-- the first of some blocks, which is known, and the others
first_taken : (P : Block → Type 0) (xs ys : List Block) (o : Option Block) (x : Block) (from : ℕ)
    → xs ≡ option_to_list o ++ ys → x ≡ slice_index_or xs 0 x → x.from ≡ from → All P xs
    → IfSome o (λ y. (y.from ≡ from) × P y) × All P ys
first_taken P xs ys None x from e is at all = (tt, subst (All P) e all)
first_taken P xs ys (Some y) x from e is at all =
    let whole = subst (All P) e all in
    ((ap (λ z. z.from) (sym (rw e at is)) ∙ at, All-head P y ys whole), All-tail P y ys whole)

pub returns-in-Some : goal.returns-in-Some
returns-in-Some c = λ t s p size to are.
    let P = IsBlock t s p size to in
    let made = c.loop-job.made.items in
    let job = c.loop-job.job in
    let inside : job < length made = search rules in
    let each = subst (λ v. AreBlocks t s p size to v.items) (sym c.loop-job.invariant) are in
    let same = get_or_read made job _ inside c.index.ensures c.index_mut.result.now ∙ sym c.index_mut.ensures.value in
    let taken = first_taken P _ c.pop_front.new.self.items c.pop_front.result c.in-Some.block.now c.args.from
    c.pop_front.ensures.items
    (subst (λ b. c.in-Some.block.now ≡ slice_index_or b.items 0 c.in-Some.block.now) same c.in-Some.ensures.lookup)
    c.if-block-from.true
    (subst (λ b. All P b.items) (sym c.index_mut.ensures.value) (each job c.index_mut.result.now inside)) in
    (taken.0, All-set (λ blocks. All P blocks.items) made job c.pop_front.new.self taken.1 each)
