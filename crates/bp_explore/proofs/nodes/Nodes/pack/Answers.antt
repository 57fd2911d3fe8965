use Rattle.bp_explore.proofs.Common.{◌≡◌, ◌+◌, ◌*◌, ◌/◌, ◌%◌, ◌^◌, [], ℕ, Option, Some, length, drop, ap, ◌∙◌, subst, arith, IsPacked, take_number, IsRecordOf, NodesOf, take_key}
use Rattle.bp_explore.proofs.PackedNodes.{packed_key, packed_node, last_of_head, made_of_head}
use Rattle.bp_explore.proofs.nodes.Nodes.pack.Goals as goal

pub returns : goal.returns
returns c =
    let x = c.self.inside.spare in
    let threads = length x.stacks in
    let level = c.args.level in
    let thread = c.args.thread in
    let b = c.push_number.new.cells.items in
    let m = c.push_number-2.new.cells.items in
    let d = c.pack.new.cells.items in
    let p : IsPacked take_number [] b level =
    subst (λ l. IsPacked take_number l b level) c.clear.ensures.items
    (subst (λ n. IsPacked take_number c.clear.new.self.items b n) c.from.ensures c.in_ok-push_number.ensures) in
    let made = c.args.made in
    let head = made * 2 ^ 33 + thread + 1 in
    let head_is : c.from-2.result * 2 ^ 33 + c.from-3.result + 1 ≡ head = omega (arith, c.from-2.ensures, c.from-3.ensures) in
    let q : IsPacked take_number b m head = subst (λ n. IsPacked take_number b m n) head_is c.in_ok-push_number-2.ensures in
    let next = last_of_head made thread c.ranges.thread.fits in
    let count = made_of_head made thread c.ranges.made.fits c.ranges.thread.fits in
    let place : c.len-key.result ≡ length b = omega (arith, c.len-key.ensures, c.push_number.new.cells.ok.0) in
    let own : IsRecordOf threads d c.len-key.result level thread made x = record {
      key =
          ap (λ n. take_key threads (drop n d)) place ∙ packed_key threads b m d level head x p q c.in_ok-pack.ensures
          ∙ ap (λ l. ((head / 2 ^ 33 % 2 ^ 32, l, x), [])) next ∙ ap (λ n. ((n, Some thread, x), [])) count;
      node =
          packed_node threads b m d level head x p q c.in_ok-pack.ensures
          ∙ ap (λ (l : Option ℕ). record { state = x; made = head / 2 ^ 33 % 2 ^ 32; last = l; level = level }) next
          ∙ ap (λ (n : ℕ). record { state = x; made = n; last = Some thread; level = level }) count;
    } in
    subst (λ (n : NodesOf). IsRecordOf (length n.spare.stacks) d c.len-key.result level thread made n.spare) c.self.view_is own
