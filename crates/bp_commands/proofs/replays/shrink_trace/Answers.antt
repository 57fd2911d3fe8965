use Rattle.bp_commands.proofs.Common.{refl, sym, subst, inl, inr, err_from_is_err_and, IsEnd, IsShrunk, trace_text, Pair, shrinks, IsEndRefusal}
use Rattle.bp_commands.proofs.Answered.{refused_with, cut_short}
use Rattle.bp_commands.proofs.ShrunkTraces.{end_refuses, memory_refuses, written, reported}
use Rattle.bp_commands.proofs.replays.shrink_trace.Goals as goal

pub returns-in_err-watched : goal.returns-in_err-watched
returns-in_err-watched g c = λ text of.
    let t = c.args.code.now.tree in
    let p = err_from_is_err_and c.from_residual.result c.from_residual.ensures.1 in
    rw (p.1, p.2) (refused_with shrinks (record { text = text; input = c.args.trace.now }) _ _
    (inr (inl (record {
      program = t;
      well_formed = of;
      cause = c.in_err-watched.field-0.0;
      why = c.in_err-watched.ensures;
      is = refl;
    }))))

pub returns-in_err-end : goal.returns-in_err-end
returns-in_err-end g c = λ text of.
    let t = c.args.code.now.tree in
    let p = err_from_is_err_and c.from_residual-in_err-end.result c.from_residual-in_err-end.ensures.1 in
    let given : Pair = record { text = text; input = c.args.trace.now } in
    let r = c.in_ok-watched.watched.replayed in
    let is = c.in_ok-watched.ensures in
    let why = subst (λ s. IsEndRefusal t s r.history.items c.in_err-end.field-0.0) is.setup
    (rw is.program at (c.in_err-end.ensures r.history.items (rw (sym is.program) at is.stands))) in
    rw (p.1, p.2) (refused_with shrinks given _ _ (inr (inr (end_refuses given t of r is.replayed c.in_err-end.field-0.0 why))))

pub returns-in_err-shrunk : goal.returns-in_err-shrunk
returns-in_err-shrunk g c = λ text of.
    let t = c.args.code.now.tree in
    let p = err_from_is_err_and c.from_residual-in_err-shrunk.result c.from_residual-in_err-shrunk.ensures.1 in
    let given : Pair = record { text = text; input = c.args.trace.now } in
    let r = c.in_ok-watched.watched.replayed in
    let is = c.in_ok-watched.ensures in
    let end = c.in_ok-end.end in
    let ends = subst (λ s. IsEnd t s r.history.items end) is.setup (rw is.program at (c.in_ok-end.ensures.0 r.history.items (rw (sym is.program) at is.stands))) in
    rw (p.1, p.2) (refused_with shrinks given _ _ (inr (inr (inr (memory_refuses given t of r is.replayed end c.in_ok-end.ensures.1 ends)))))

pub returns-in_err-write_trace : goal.returns-in_err-write_trace
returns-in_err-write_trace g c = λ text of.
    let t = c.args.code.now.tree in
    let p = err_from_is_err_and c.from_residual-in_err-write_trace.result c.from_residual-in_err-write_trace.ensures.1 in
    let given : Pair = record { text = text; input = c.args.trace.now } in
    let r = c.in_ok-watched.watched.replayed in
    let is = c.in_ok-watched.ensures in
    let end = c.in_ok-end.end in
    let ends = subst (λ s. IsEnd t s r.history.items end) is.setup (rw is.program at (c.in_ok-end.ensures.0 r.history.items (rw (sym is.program) at is.stands))) in
    let shrunk = subst (λ h. IsShrunk t r.setup h end c.in_ok-shrunk.shrunk) c.as_slice-history.ensures.value
    c.in_ok-shrunk.ensures in
    let part = rw c.as_slice.ensures.value at c.in_err-write_trace.ensures in
    rw (p.1, p.2) (cut_short shrinks given _ _ _
    (written given t of r is.replayed end c.in_ok-end.ensures.1 ends c.in_ok-shrunk.shrunk shrunk)
    part)

pub returns : goal.returns
returns g c = λ text of.
    let t = c.args.code.now.tree in
    let given : Pair = record { text = text; input = c.args.trace.now } in
    let r = c.in_ok-watched.watched.replayed in
    let is = c.in_ok-watched.ensures in
    let end = c.in_ok-end.end in
    let ends = subst (λ s. IsEnd t s r.history.items end) is.setup (rw is.program at (c.in_ok-end.ensures.0 r.history.items (rw (sym is.program) at is.stands))) in
    let shrunk = subst (λ h. IsShrunk t r.setup h end c.in_ok-shrunk.shrunk) c.as_slice-history.ensures.value
    c.in_ok-shrunk.ensures in
    record {
      text = trace_text c.in_ok-shrunk.shrunk.setup c.in_ok-shrunk.shrunk.history.items;
      reports = reported given t of r is.replayed end c.in_ok-end.ensures.1 ends c.in_ok-shrunk.shrunk shrunk;
      written = rw c.as_slice.ensures.value at c.in_ok-write_trace.ensures;
    }
