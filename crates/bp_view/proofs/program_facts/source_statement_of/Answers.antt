use Rattle.bp_view.proofs.Common.{◌≡◌, Bor, Option, None, Some, subst, ◌∙◌, option_map, IsSomeAnd, place, places_of, SourceStatement, IsSourceStatement, got_item, source_statement_at}
use Rattle.bp_view.proofs.program_facts.source_statement_of.Goals as goal

-- the result is the source statement at that place
is_got : (P : SourceStatement → Type 0) (o : Option (Bor SourceStatement)) (x : SourceStatement)
    → option_map (λ s. s.now) o ≡ Some x → P x → IsSomeAnd o (λ s. P s.now)
is_got P None x got p = absurd cc
is_got P (Some s) x got p = let same : x ≡ s.now = cc in subst P same p

pub returns-clause-is : goal.returns-clause-is
returns-clause-is c = λ t text d frames set is.
    let x = place is.frame.procedure is.frame.left in
    let statements = c.args.program.now.statements.now in
    let n = c.args.top.number in
    let found = source_statement_at text t.procedures (places_of t.procedures) statements n x set.statements is.next in
    let got = got_item c.get.result statements n c.get.ensures.lookup.0 c.get.ensures.lookup.1 in
    is_got (IsSourceStatement text t.procedures x) c.get.result found.statement (got ∙ found.at) found.is

pub returns-clause-got : goal.returns-clause-got
returns-clause-got c = got_item c.get.result c.args.program.now.statements.now c.args.top.number c.get.ensures.lookup.0 c.get.ensures.lookup.1
