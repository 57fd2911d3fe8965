use Rattle.bp_run.proofs.Common.{rules, arith, ◌≡◌, ◌+◌, ℕ, ◌∙◌, threads}
use Rattle.bp_run.proofs.GatheredBooks.{books_at_start}
use Rattle.bp_run.proofs.desks.Desk.open.Goals as goal

total_is : (m n k : ℕ) → m ≡ 0 → n ≡ k → m + n ≡ k
total_is m n k e f = omega (arith, e, f)

pub invariant_of-desk : goal.invariant_of-desk
invariant_of-desk g c =
    let x = c.in_ok-session.session in
    let setup : x.setup ≡ c.args.setup.now = c.in_ok-session.ensures.kept.1 in
    let code : x.code ≡ c.args.code.now = c.in_ok-session.ensures.kept.0 in
    let many : c.from.result ≡ threads x.setup = search rules in
    let books = books_at_start x c.open-made.result.0.total c.add.new.self.total (rw (code, setup) c.requires.fits) (rw setup c.requires.seeded)
    (rw (← code) at c.in_ok-session.ensures.stands) (rw setup c.is_in_range.ensures.one) c.open-made.ensures.total
    (c.add.ensures.total ∙ total_is c.open-live.result.0.total c.from.result (threads x.setup) c.open-live.ensures.total many) in
    (rw c.board_parts.invariant.unsent books, search rules, search rules, search rules, code ∙ c.requires.code, setup ∙ c.requires.setup, search rules, search rules)
