use Rattle.std.proofs.Common.{◌≡◌, ℕ, true, length, Some, sym, ◌∙◌, ap, arith}
use Rattle.grove_plan.specs.Tallies.{holds_node}
use Rattle.grove_plan.proofs.LeastFound.{found_first}
use Rattle.grove_plan.proofs.tally.Tally.first_held.Goals as goal

pub returns-then-is_held : goal.returns-then-is_held
returns-then-is_held c =
    let same : length c.deref-hold-items.result.now ≡ length c.args.self.now.holds.items = ap length c.deref-hold-items.ensures.value in
    let here : holds_node c.deref-hold-items.result.now (Some c.loop-node.node) ≡ true = sym c.is_held.ensures ∙ c.if-is_held.true in
    ap (λ (n : ℕ). Some n) c.new.ensures
    ∙ sym (found_first (λ n. n) (length c.args.self.now.holds.items) c.loop-node.node (λ node. holds_node c.args.self.now.holds.items (Some node)) (omega arith)
    c.loop-node.invariant (rw c.deref-hold-items.ensures.value at here))
