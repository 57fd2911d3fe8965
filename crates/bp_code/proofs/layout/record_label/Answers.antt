use Rattle.bp_code.proofs.Common.{◌≡◌, None, arith, btree_map_updates_str, index_in}
use Rattle.bp_code.proofs.BlockItems.{noted}
use Rattle.bp_code.proofs.layout.record_label.Goals as goal

pub returns-in_ok-insert : goal.returns-in_ok-insert
returns-in_ok-insert c =
    let free : None ≡ index_in c.args.labels.now c.text-text.result.now = grind (arith, c.get.ensures.value, c.is_none.ensures, c.if-is_none.true) in
    noted c.text-text.result.now c.args.label.now.text c.args.number (index_in c.args.labels.now) (index_in c.insert.new.self) c.text-text.ensures free
    (btree_map_updates_str c.text-text.result.now c.args.labels.now c.insert.new.self _ c.in_ok-insert.ensures.updates)
