use Rattle.bp_code.proofs.Common.{◌≡◌, ℕ, ◌+◌, ◌-◌, List, drop, arith, subst, btree_map_updates_str, names_of, index_in, first_index_from}
use Rattle.bp_code.proofs.RepeatedNames.{first_put, name_at}
use Rattle.bp_code.proofs.tables.first_indices.Goals as goal

pub loop-i-preserved : goal.loop-i-preserved
loop-i-preserved c =
    let i : ℕ = c.loop-i.i - 1 in
    let ns = names_of c.args.names.now in
    let back : c.loop-i.i ≡ i + 1 = omega (arith, c.loop-i-test.true) in
    let before = subst (λ k. (text : List ℕ) → index_in c.loop-i.first text ≡ first_index_from k (drop k ns) text) back c.loop-i.invariant in
    let here = name_at c.args.names.now i c.index-names-i.result (omega (arith, c.loop-i-test.true, c.loop-i.auto.i)) c.index-names-i.is in
    first_put ns i c.index-names-i.result.now here (index_in c.loop-i.first) (index_in c.insert.new.self) c.text.result.now c.text.ensures before
    (btree_map_updates_str c.text.result.now c.loop-i.first c.insert.new.self _ c.in_ok-insert.ensures.updates)
