use Rattle.std.proofs.Common.{◌≡◌, ◌-◌, ◌<◌, slice_index, pos, ◌+ℤ◌, to_z, of_z, w64, subst, arith}
use Rattle.std.proofs.lemmas.List.{set-get_or}
use borrow.Author.Differences.{ints}
use Rattle.grove_flow.specs.Networks.{place}
use Rattle.grove_flow.proofs.Growing.{read_at, settled_raised, settled_still}
use Rattle.grove_flow.proofs.tree.Tree.settle.Goals as goal
use Rattle.grove_flow.proofs.tree.Tree.settle.Goals.{then-index-gt0, else-index-gt0}

pub loop-v-preserved : goal.loop-v-preserved
loop-v-preserved c =
    let rank_is = read_at c.args.self.now.ranks.items c.loop-v.v c.requires.tree.ranks c.loop-v-test.true c.index.ensures in
    elim c.if-index-gt0.branch [
      | then-index-gt0 w ↦
          let entry_is = read_at c.args.self.now.entries.items c.loop-v.v c.requires.tree.entries c.loop-v-test.true w.index-then-index-gt0.ensures in
          let rank : 0 < slice_index c.args.self.now.ranks.items c.loop-v.v = subst (λ r. 0 < r) rank_is w.if-index-gt0.true in
          let entered = c.requires.entered c.loop-v.v rank in
          let near = c.requires.near c.loop-v.v in
          let same = c.loop-v.invariant.rest c.loop-v.v (omega arith) in
          let by : to_z w64 (c.args.distance - w.index-then-index-gt0.result.now) ≡ pos (c.args.distance - w.index-then-index-gt0.result.now) = omega (arith, ints) in
          let place_is : to_z w64 (of_z w64 (place c.loop-v.places c.loop-v.v)) ≡ place c.loop-v.places c.loop-v.v = omega (arith, ints) in
          let raised_is : to_z w64 (of_z w64 (place c.loop-v.places c.loop-v.v +ℤ pos (c.args.distance - w.index-then-index-gt0.result.now))) ≡ place c.loop-v.places c.loop-v.v +ℤ pos (c.args.distance - w.index-then-index-gt0.result.now) = omega (arith, ints) in
          rw (w.places-is, place_is, by, raised_is) (settled_raised
          (place c.loop-v.places c.loop-v.v +ℤ pos (c.args.distance - w.index-then-index-gt0.result.now)) (omega arith) c.loop-v.invariant rank (omega (arith, ints)))
      | else-index-gt0 w ↦ grind (arith, set-get_or, settled_still)
    ]
