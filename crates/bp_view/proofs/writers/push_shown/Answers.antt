use Rattle.bp_view.proofs.Common.{◌≡◌, ◌∙◌, ◌++◌, ◌∷◌, [], List, map, nat_lt, true, ap, ap₂, sym, arith, rules, nat_tests, configuration_after, Change, changes_by, facts_in, entry_of, is_seen, watched_names}
use Rattle.bp_view.proofs.ShownLines.{asked_of, calls_are, hidden, line_if, no_calls, shown}
use Rattle.bp_view.proofs.writers.push_shown.Goals as goal

pub returns-then-not-has_watched : goal.returns-then-not-has_watched
returns-then-not-has_watched c = search (rules, asked_of, hidden, line_if)

pub returns-then-calls-eq0 : goal.returns-then-calls-eq0
returns-then-calls-eq0 c = search (rules, calls_are, nat_tests, hidden, no_calls)

pub returns : goal.returns
returns c = λ t text s h x set members of printed.
    let context = c.args.context.now in
    let m = c.args.replayed.now in
    let wanted = sym c.asks_for.ensures ∙ c.if-not-asks_for.false in
    let asked = asked_of t text s context h x m of context.filter set.filter true wanted in
    let after = configuration_after t s (h ++ x ∷ []) in
    let filled = c.in-Ok.ensures t text (configuration_after t s h) after x.thread set.program of.leads in
    let changed = ap (λ (xs : List Change). map entry_of xs) c.deref.ensures.value ∙ filled in
    let seen : is_seen (watched_names context.options.watch) (changes_by t s h x) ≡ true =
    ap₂ is_seen (sym set.names) (sym changed) ∙ sym c.has_watched.ensures ∙ c.if-not-has_watched.false in
    let calls = calls_are t text s context h x m of context.filter set.filter c.calls_in_line-calls.result c.calls_in_line-calls.ensures in
    let some : nat_lt 0 c.calls_in_line-calls.result ≡ true = grind (arith, nat_tests, c.if-calls-eq0.false) in
    let has = line_if t text s context h x true true true asked seen (ap (nat_lt 0) (sym calls) ∙ some) in
    let changes = ap (λ (xs : List Change). map entry_of xs) c.deref-2.ensures.value ∙ filled in
    let facts = c.facts_of_call-facts.ensures.facts t text s h x set.program of changes in
    shown t text s context h x has (facts_in c.facts_of_call-facts.result) facts _ printed _ calls _ _ (c.push_line_in.ensures context.program members c.facts_of_call-facts.ensures.next)
