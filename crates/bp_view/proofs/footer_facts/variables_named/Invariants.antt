use Rattle.bp_view.proofs.Common.{◌≡◌, flat_map, map, take, store_of, named_store, entry_of, named_entry}
use Rattle.bp_view.proofs.footer_facts.variables_named.Given as goal

abbrev pub invariant-loop-name : goal.invariant-loop-name
invariant-loop-name l =
    let s = named_store l.globals l.proc (store_of l.store) in
    map entry_of l.values.items ≡ flat_map (λ x. named_entry l.proc s x.now) (take l.name-index l.names)
