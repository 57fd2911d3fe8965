use Rattle.std.proofs.Common.{◌≡◌, length, nat_lt, rules, sym, ap, ◌∙◌}
use Rattle.std.proofs.lemmas.List.{length-map}
use Rattle.bp_machine.specs.Setups.{threads}
use Rattle.bp_machine.specs.declared.limits.TheConstants.{MAX_CONTEXTS}
use Rattle.bp_trace.specs.Readings.{setup_of_head}
use Rattle.bp_explain.proofs.heads.numbers_of.Goals as goal

pub returns-in-Some-clause-threads : goal.returns-in-Some-clause-threads
returns-in-Some-clause-threads c = λ b.
    let read : setup_of_head c.in-Some.head ≡ b.setup = rw c.in-Some.is at (c.requires b) in
    let entries = c.in-Some.head.entries.items in
    let count : c.len.result ≡ length entries = search rules in
    count ∙ sym (length-map entries (λ n. n.now)) ∙ ap threads read

pub returns-in-Some-clause-contexts : goal.returns-in-Some-clause-contexts
returns-in-Some-clause-contexts c = λ b.
    let read : setup_of_head c.in-Some.head ≡ b.setup = rw c.in-Some.is at (c.requires b) in
    ap (λ limit. nat_lt limit c.in-Some.head.contexts) c.from.ensures ∙ ap (λ s. nat_lt MAX_CONTEXTS s.contexts) read

pub returns-in-None-clause-threads : goal.returns-in-None-clause-threads
returns-in-None-clause-threads c = λ b. absurd (rw c.in-None.is at (c.requires b))

pub returns-in-None-clause-contexts : goal.returns-in-None-clause-contexts
returns-in-None-clause-contexts c = λ b. absurd (rw c.in-None.is at (c.requires b))
