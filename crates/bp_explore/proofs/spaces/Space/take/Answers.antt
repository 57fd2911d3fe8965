use Rattle.bp_explore.proofs.Common.{◌≡◌, ◌-◌, ◌++◌, ◌∷◌, [], List, length, take, drop, ap, sym, ◌∙◌, subst, arith, length-drop, take_all, HasKey, NodeOf, NodesOf, Has}
use Rattle.bp_explore.proofs.Growth.{has_one}
use Rattle.bp_explore.proofs.PackedNodes.{key_held}
use Rattle.bp_explore.proofs.spaces.Space.take.Goals as goal

pub returns-then-holds-clause-held : goal.returns-then-holds-clause-held
returns-then-holds-clause-held c =
    let old = c.args.self.now.nodes in
    let threads = length old.spare.stacks in
    let key = c.in_ok-key.key in
    let cells = c.deref.result.now in
    let long = length-drop key cells in
    let rest : take (length cells - key) (drop key cells) ≡ drop key c.pack.new.packed.items =
    take_all _ (drop key cells) (omega (arith, long)) ∙ ap (drop key) c.deref.ensures.value in
    key_held threads old.items (drop key c.pack.new.packed.items) c.args.step.thread c.args.made c.args.level old.spare
    (subst (HasKey threads old.items) rest (c.holds.ensures c.if-holds.true)) c.in_ok-key.ensures.key c.requires

pub returns-clause-held : goal.returns-clause-held
returns-clause-held c =
    let old = c.args.self.now.nodes in
    let items = ap (λ (m : NodesOf). m.items) c.count_full_stack.ensures ∙ c.in_ok-add.ensures.0 ∙ ap (λ (n : NodeOf). old.items ++ n ∷ []) c.in_ok-key.ensures.node in
    subst (λ (l : List NodeOf). Has l old.spare c.args.step.thread c.args.made c.args.level) (sym items)
    (has_one old.items old.spare c.args.step.thread c.args.made c.args.level)
