use Rattle.bp_source.proofs.Common.{◌≡◌, ◌∙◌, ◌+◌, ℕ, List, IfOk, Ok, Result, ap, subst, sym, arith, take, slice_get, Procedure, places_of, Place, SourceStatement, IsSourceStatement, ends, ends_more, few_ends, procedure_of, starts, position_at}
use Rattle.bp_source.proofs.SourceStatementLists.{more_statements, place_at}
use Rattle.bp_source.proofs.source_statements.source_statements_of.Goals.{in-Some, in_default}
use Rattle.bp_source.proofs.source_statements.source_statements_of.Goals as goal

made : {E : Type 0} (text : List ℕ) (ps : List Procedure) (x : Place) (statement : SourceStatement) (r : Result SourceStatement E)
    → r ≡ Ok statement → IfOk r (IsSourceStatement text ps x) → IsSourceStatement text ps x statement
made text ps x statement r same is = subst (λ q. IfOk q (IsSourceStatement text ps x)) same is

pub loop-start-preserved : goal.loop-start-preserved
loop-start-preserved c =
    let text = c.args.text.now in
    let ps = c.args.checked.now.procedures in
    let xs = places_of ps in
    let n = c.loop-start.start-index in
    let items = c.deref-start-items.result.now in
    let all : items ≡ starts xs = c.deref-start-items.ensures.value ∙ c.in_ok-starts.ensures in
    elim c.match-start.branch [
      | in-Some w ↦
          let x = place_at xs items n _ _ all c.loop-start-test.true w.in-Some.is in
          let number = c.loop-start.invariant.procedure ∙ ap (λ ys. ends (take n ys)) all in
          let own = ap (λ k. slice_get ps k) number ∙ procedure_of ps n x.place x.at in
          record {
            position = w.position-is ∙ w.position_from-position.ensures ∙ ap (position_at text) (sym w.at-is);
            procedure = w.procedure-is ∙ omega (arith, c.loop-start.invariant.procedure, ends_more items n _ _ c.loop-start-test.true w.in-Some.is);
            statements =
                more_statements text ps xs n x.place _ _ _ x.at c.loop-start.invariant.statements c.in_ok-push.ensures.items
                (made text ps x.place _ _ (sym w.statement-is ∙ c.in_ok-statement.was)
                (w.begun_statement-statement.ensures ps x.place own x.begins));
          }
      | in_default w ↦
          let x = place_at xs items n _ _ all c.loop-start-test.true w.in_default.is in
          let number = c.loop-start.invariant.procedure ∙ ap (λ ys. ends (take n ys)) all in
          let own = ap (λ k. slice_get ps k) number ∙ procedure_of ps n x.place x.at in
          let name = w.name_of.ensures x.place.procedure (ap (λ qs. slice_get qs c.loop-start.procedure)
          (c.procs-procs.ensures.value ∙ ap (λ t. t.procedures) c.tree.ensures.value) ∙ own) in
          record {
            position = w.position-is ∙ c.loop-start.invariant.position ∙ ap (position_at text) (sym w.at-is);
            procedure =
                w.procedure-is ∙ omega (
                  arith,
                  c.loop-start.invariant.procedure,
                  ends_more items n _ _ c.loop-start-test.true w.in_default.is,
                  few_ends (n + 1) items,
                );
            statements =
                more_statements text ps xs n x.place _ _ _ x.at c.loop-start.invariant.statements c.in_ok-push.ensures.items
                (made text ps x.place _ _ (sym w.statement-is ∙ c.in_ok-statement.was)
                (w.procedure_end-end.ensures text ps x.place own name x.begins));
          }
    ]
