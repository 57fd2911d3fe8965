use Rattle.bp_trace.proofs.Common.{◌==◌, ap, ◌∙◌, subst, sym, bit, IsAt, Many, none_left, neither, no_first, none_as, none_of_many}
use Rattle.bp_trace.proofs.heads.init_value_at.Goals as goal

pub returns-then-is_empty : goal.returns-then-is_empty
returns-then-is_empty c =
    let size = ap (λ n. n == 0) (sym c.in_ok-bits.bits.ok.0) in
    let none = none_left c.in_ok-bits.bits.items (size ∙ sym c.is_empty.ensures ∙ c.if-is_empty.true) in
    let at = subst (λ bs. IsAt (Many bit) c.args.text.now bs c.in_ok-bits.rest.now) none c.in_ok-bits.ensures in
    none_as (neither c.in_default.ensures (no_first (none_of_many at)))
