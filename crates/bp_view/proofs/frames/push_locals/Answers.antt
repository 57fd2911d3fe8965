use Rattle.bp_view.proofs.Common.{Some, flat_map-append, bits_of}
use Rattle.bp_view.proofs.ChangedEntries.{from_first, values_both}
use Rattle.bp_view.proofs.Growth.{and_then}
use Rattle.bp_view.proofs.frames.push_locals.Goals as goal

pub returns : goal.returns
returns c =
    let p = c.args.frame.proc.now in
    let bits = bits_of c.args.frame.locals in
    let formals = rw (c.formals-formals.ensures, from_first bits) at c.push_values.ensures in
    let locals = rw (c.locals.ensures, c.formals-formals.ensures) at c.push_values-2.ensures in
    rw (values_both (Some p) p.formals p.locals bits, flat_map-append) (and_then formals locals)
