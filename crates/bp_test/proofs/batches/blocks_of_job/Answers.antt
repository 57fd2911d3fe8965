use Rattle.bp_test.proofs.Common.{◌≡◌, ◌++◌, ◌∷◌, [], if◌then◌else◌, Bool, true, false, List, subst, sym, All, IsBlock}
use Rattle.std.proofs.lemmas.List.Elements.{All-push}
use Rattle.bp_test.specs.declared.batches.Block.{Block}
use Rattle.bp_test.proofs.FirstFound.{block_of_runs}
use Rattle.bp_test.proofs.batches.blocks_of_job.Goals as goal

-- blocks with one more, if there was memory for it
pushed : (P : Block → Type 0) (xs ys : List Block) (x : Block) (b : Bool) → ys ≡ (if b then xs ++ x ∷ [] else xs)
    → All P xs → P x → All P ys
pushed P xs ys x true e all here = subst (All P) (sym e) (All-push P xs x all here)
pushed P xs ys x false e all here = subst (All P) (sym e) all

pub loop-preserved : goal.loop-preserved
loop-preserved g c =
    let t = c.args.code.now.tree in
    let made = c.in-Ok.ensures in
    let P = IsBlock t c.args.setup.now c.args.plan.now c.args.batch.size c.args.batch.to in
    pushed P _ c.push_back.new.self.items c.in-Ok.block _ c.push_back.ensures.items c.loop.invariant
    (block_of_runs t c.args.setup.now c.args.plan.now c.args.batch.size c.args.batch.to _ _ c.end_of-end.ensures
    c.in-Ok.block made.from made.end made.tallied)
