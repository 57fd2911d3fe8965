use Rattle.bp_source.proofs.Common.{◌≡◌, ◌∙◌, ◌<◌, ◌&&◌, [], true, false, length, get_or, ap, ap₂, sym, arith, named_bit, values_of, has_global, NamedBit}
use Rattle.std.proofs.lemmas.List.{length-map, get_or-map}
use Rattle.std.proofs.lemmas.List.Folds.{list_all_more}
use Rattle.std.proofs.lemmas.Option.{slice_get-get_or}
use Rattle.bp_source.proofs.initial_bits.first_unknown.Goals as goal

pub returns-then-not-has_global : goal.returns-then-not-has_global
returns-then-not-has_global c =
    let t = c.args.checked.now in
    let named = c.args.named.now in
    let n = c.loop-n.n in
    let value = λ (it : NamedBit). named_bit it.name.now it.bit in
    let none : NamedBit = record { name = record { ref_ptr = (0, 0); now = [] }; bit = false } in
    let within : n < length (values_of named) = omega (arith, c.loop-n-test.true, length-map named value) in
    record {
      before = n;
      number = omega arith;
      name = get_or (values_of named) n (value none);
      at = slice_get-get_or (values_of named) n (value none) within;
      unknown = ap (has_global t) (get_or-map value named n none (value none) c.loop-n-test.true) ∙ sym c.has_global.ensures ∙ c.if-not-has_global.true;
      first = c.loop-n.invariant;
    }

pub loop-n-preserved : goal.loop-n-preserved
loop-n-preserved c =
    let t = c.args.checked.now in
    let named = c.args.named.now in
    let n = c.loop-n.n in
    let value = λ (it : NamedBit). named_bit it.name.now it.bit in
    let none : NamedBit = record { name = record { ref_ptr = (0, 0); now = [] }; bit = false } in
    let within : n < length (values_of named) = omega (arith, c.loop-n-test.true, length-map named value) in
    let here : has_global t (get_or (values_of named) n (value none)) ≡ true =
    ap (has_global t) (get_or-map value named n none (value none) c.loop-n-test.true) ∙ sym c.has_global.ensures ∙ c.if-not-has_global.false in
    list_all_more (has_global t) (values_of named) n (value none) within ∙ ap₂ (λ p q. p && q) c.loop-n.invariant here
