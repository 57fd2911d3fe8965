use Rattle.bp_machine.proofs.Common.{◌≡◌, ◌+◌, ◌++◌, ◌∷◌, [], Some, rules, subst, sym, ContextCount, count_with, IsCountOf}
use Rattle.bp_machine.proofs.ContextCounts.{counts_more}
use Rattle.bp_machine.proofs.contexts.ContextCount.add.Goals as goal

pub returns-then-eq-clause-law : goal.returns-then-eq-clause-law
returns-then-eq-clause-law c = λ threads counts.
    let same : c.args.self.now ≡ count_with c.args.self.now c.args.thread = search rules in
    subst (λ k. IsCountOf k (threads ++ c.args.thread ∷ [])) (sym same) (counts_more c.args.self.now threads c.args.thread counts)

pub returns-clause-law : goal.returns-clause-law
returns-clause-law c = λ threads counts.
    let after : ContextCount = record { used = c.args.self.now.used + 1; last = Some c.args.thread } in
    let same : after ≡ count_with c.args.self.now c.args.thread = search rules in
    subst (λ k. IsCountOf k (threads ++ c.args.thread ∷ [])) (sym same) (counts_more c.args.self.now threads c.args.thread counts)
