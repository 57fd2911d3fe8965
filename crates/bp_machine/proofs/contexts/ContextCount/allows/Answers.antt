use Rattle.bp_machine.proofs.ContextCounts.{fits_with}
use Rattle.bp_machine.proofs.contexts.ContextCount.allows.Goals as goal

pub returns-clause-law : goal.returns-clause-law
returns-clause-law c = λ threads counts.
    rw (c.used_with.ensures, c.from.ensures) (fits_with c.args.self.now threads c.args.thread counts c.args.contexts)
