use Rattle.bp_syntax.proofs.Common.{[], ◌++◌, ◌∙◌, ap, arith, false-eqb, length, sym, ◌<◌, ◌≡◌, with_token, kind_of, token_list}
use Rattle.std.proofs.Common.{eqb-true}
use Rattle.bp_syntax.proofs.OneCut.{lexeme_taken, brace_taken, all_scanned, open_there, bad_here}
use Rattle.bp_syntax.proofs.lexer.scan.Goals as goal
use Rattle.bp_syntax.proofs.lexer.scan.Goals.{in-Fits+in_ok-push_token-in-Fits, in-OpenBrace}

pub returns-in-BadByte : goal.returns-in-BadByte
returns-in-BadByte c =
    let some : 0 < length c.loop-rest.rest.now = omega (arith, false-eqb _ 0 c.loop-rest-test.ensures) in
    bad_here c.args.text.now c.loop-rest.at c.loop-rest.rest.now (token_list c.loop-rest.tokens.items)
    c.loop-rest.first_open c.loop-rest.invariant.0 some c.in-BadByte.ensures.0 c.in-BadByte.ensures.1

pub loop-rest-preserved : goal.loop-rest-preserved
loop-rest-preserved c =
    let text = c.args.text.now in
    let at = c.loop-rest.at in
    let rest = c.loop-rest.rest.now in
    let ts = token_list c.loop-rest.tokens.items in
    let left = c.split_at-in-loop-rest.ensures.back in
    let fewer = c.saturating_sub-nameless.ensures in
    elim c.match-first_lexeme.branch [
      | in-Fits+in_ok-push_token-in-Fits w ↦
          let k = w.in-Fits.kind in
          let us =
          ap (λ v. token_list v.items) w.tokens-is ∙ w.in_ok-push_token-in-Fits.ensures
          ∙ ap (λ s. ts ++ with_token (kind_of k s) at s []) w.split_at.ensures.front in
          lexeme_taken text at rest _ ts _ c.loop-rest.first_open _ k w.in-Fits.len _ c.loop-rest.nameless _ _
          c.loop-rest.invariant w.in-Fits.ensures w.len-is w.first_open-is w.nameless-is left us fewer
      | in-OpenBrace w ↦
          brace_taken text at rest _ ts _ c.loop-rest.first_open _ w.in-OpenBrace.count _ _ _ c.loop-rest.invariant.0
          w.in-OpenBrace.ensures w.len-is (w.first_open-is ∙ w.or-first_open.ensures) w.nameless-is left
          (ap (λ v. token_list v.items) w.tokens-is) fewer
    ]

pub returns-in-Some : goal.returns-in-Some
returns-in-Some c =
    let none : length c.loop-rest.rest.now ≡ 0 = eqb-true _ 0 (sym c.loop-rest-test.ensures) in
    open_there c.args.text.now c.loop-rest.at c.loop-rest.rest.now (token_list c.loop-rest.tokens.items)
    c.loop-rest.first_open c.in-Some.at c.loop-rest.invariant.0 none c.in-Some.is

pub returns : goal.returns
returns c =
    let none : length c.loop-rest.rest.now ≡ 0 = eqb-true _ 0 (sym c.loop-rest-test.ensures) in
    all_scanned c.args.text.now c.loop-rest.at c.loop-rest.rest.now (token_list c.loop-rest.tokens.items)
    c.loop-rest.first_open c.loop-rest.invariant.0 none c.in-None.is
