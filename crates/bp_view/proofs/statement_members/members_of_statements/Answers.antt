use Rattle.bp_view.proofs.Common.{◌≡◌, ◌∙◌, ◌++◌, ◌∷◌, ◌+◌, ◌<◌, ◌≤◌, cases_lt, [], List, Some, inl, inr, ◌⊎◌, ap, sym, arith, length, length-append, slice_get, slice_get-get_or, next_at, AreReady, Procedure, SourceStatement}
use Rattle.bp_text.proofs.PartsOfTexts.{one_before, one_last, within}
use Rattle.bp_machine.specs.declared.tops.Top.{Top}
use Rattle.bp_view.specs.declared.statement_members.StatementMembers.{StatementMembers}
use Rattle.bp_view.proofs.statement_members.members_of_statements.Goals as goal

abbrev AreFor : List Procedure → List SourceStatement → List StatementMembers → Type 0
AreFor ps statements members =
    (x : Top) (s : SourceStatement) (m : StatementMembers) → slice_get statements x.number ≡ Some s → slice_get members x.number ≡ Some m
    → AreReady (next_at ps s x) m.front.items m.text.items

one_more : (ps : List Procedure) (statements : List SourceStatement) (members : List StatementMembers) (item : SourceStatement) (made : StatementMembers)
    → slice_get statements (length members) ≡ Some item → ((x : Top) → AreReady (next_at ps item x) made.front.items made.text.items)
    → AreFor ps statements members → AreFor ps statements (members ++ made ∷ [])
one_more ps statements members item made at ready are x s m here got = by_place (cases_lt x.number (length members))
  where
    by_place : (x.number < length members) ⊎ (length members ≤ x.number) → AreReady (next_at ps s x) m.front.items m.text.items
    by_place (inl before) = are x s m here (one_before members made x.number m got before)
    by_place (inr past) =
        let last : x.number ≡ length members = omega (arith, past, within members made x.number m got) in
        let own : item ≡ s = let same = sym at ∙ ap (slice_get statements) (sym last) ∙ here in cc in
        rw (← own, ← one_last members made x.number m got last) (ready x)

pub loop-statement-preserved : goal.loop-statement-preserved
loop-statement-preserved c =
    let has = c.loop-statement.invariant in
    let members = c.loop-statement.members.items in
    let made = c.in_ok-members_of.field-0 in
    let statements = c.args.program.now.statements.now in
    let item = c.statement-item.result in
    let n = c.loop-statement.statement-index in
    let here = slice_get-get_or statements n item c.loop-statement-test.true ∙ ap Some (sym c.statement-item.is) in
    let at = ap (slice_get statements) has.0 ∙ here in
    rw c.in_ok-push.ensures.items (
      length-append members (made ∷ []) ∙ ap (λ n. n + 1) has.0,
      one_more c.args.program.now.procs.now statements members item made at c.in_ok-members_of.ensures has.1,
    )

pub returns : goal.returns
returns c = rw c.in_default.is (record { each = c.loop-statement.invariant.1; all = omega arith })
