use Rattle.bp_view.proofs.Common.{◌≡◌, ◌+◌, ◌<◌, map, take, length, ap, add-one, arith, shown_texts, shortened, longest}
use Rattle.bp_view.proofs.BegunViews.{longest_statement_more, shortened_length}
use Rattle.bp_view.proofs.view_contexts.longest_statement.Goals as goal

pub loop-statement-preserved : goal.loop-statement-preserved
loop-statement-preserved c =
    let statements = c.args.statements.now in
    let room = c.args.room in
    let n = c.loop-statement.statement-index in
    let x = c.statement-item.result in
    let within : n < length statements = omega arith in
    let more = longest_statement_more room n statements x within in
    let shown = c.statement-item.result.excerpt.text.items in
    let size = ap (λ y. length (shortened room y.excerpt.text.items)) c.statement-item.is in
    let least = shortened_length room shown c.requires.0 in
    let here : c.max-longest.result ≡ longest (map (shortened room) (shown_texts (take (n + 1) statements))) =
    rw (add-one n) (omega (arith, more, size, least, c.max-longest.ensures, c.min.ensures, c.len.ensures, c.loop-statement.invariant.is)) in
    record {
      is = here;
      fits = omega (arith, c.requires.1, c.max-longest.ensures, c.min.ensures, c.len.ensures, c.loop-statement.invariant.fits);
    }
