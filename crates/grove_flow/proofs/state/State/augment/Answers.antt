use Rattle.std.proofs.Common.{◌≡◌, ℕ, ◌≤◌, length, slice_index, drop, ap, ◌∙◌, arith, take_at}
use Rattle.grove_flow.proofs.Growing.{farthest, grown_at, read_at}
use Rattle.grove_flow.proofs.Sending.{sent_fits, sent_state}
use Rattle.grove_flow.proofs.state.State.augment.Goals as goal

pub settle-requires-clause-distance : goal.settle-requires-clause-distance
settle-requires-clause-distance c =
    let search = c.in_ok-target.ensures.searched.1.growing in
    rw (read_at c.find.new.self.tree.entries.items c.in_ok-target.target search.tree_of.entries search.grown.within c.index.ensures) (farthest c.requires.state search)

pub push-by-requires-clause-ways : goal.push-by-requires-clause-ways
push-by-requires-clause-ways c = rw (c.deref.ensures.value, c.deref_mut-2.ensures.value) c.in_ok-target.ensures.searched.1.growing.grown.reached.ways

pub push-by-requires-clause-small : goal.push-by-requires-clause-small
push-by-requires-clause-small c = λ i.
    let within = c.in_ok-target.ensures.searched.1.growing.grown.within in
    rw (c.deref_mut-2.ensures.value, read_at c.args.self.now.unmet.items c.in_ok-target.target c.requires.state.unmet_size within c.index-most.ensures)
    (sent_fits c.in_ok-target.target i c.requires.state within)

pub returns-clause-state : goal.returns-clause-state
returns-clause-state c =
    let search = c.in_ok-target.ensures.searched.1.growing in
    let target : ℕ = c.in_ok-target.target in
    let distance_is = read_at c.find.new.self.tree.entries.items target search.tree_of.entries search.grown.within c.index.ensures in
    let most_is : c.index-most.result.now ≡ slice_index c.args.self.now.unmet.items target =
    read_at c.args.self.now.unmet.items target c.requires.state.unmet_size search.grown.within c.index-most.ensures in
    rw (
      take_at c.push-by.new.amounts (drop (length c.push-by.new.amounts) c.args.self.now.amounts.items) c.args.self.now.amounts.len (c.push-by.auto.amounts ∙ c.deref_mut-2.ensures.len),
      take_at c.settle.new.places (drop (length c.settle.new.places) c.args.self.now.places.items) c.args.self.now.places.len (c.settle.auto.places ∙ c.deref_mut.ensures.len),
      read_at c.args.self.now.excess.items c.args.source c.requires.state.excess_size c.requires.source c.index_mut.ensures.value,
      read_at c.args.self.now.unmet.items target c.requires.state.unmet_size search.grown.within c.index_mut-2.ensures.value,
    )
    (sent_state c.push-by.new.amounts c.push-by.result (grown_at search (rw (distance_is, c.deref_mut.ensures.value) at c.settle.ensures)) c.push-by.ensures.room
    (let most : c.push-by.result ≤ c.index-most.result.now = c.push-by.ensures.most in omega arith)
    (c.push-by.auto.amounts ∙ ap length c.deref_mut-2.ensures.value) (rw (c.deref.ensures.value, c.deref_mut-2.ensures.value) at c.push-by.ensures.moved)
    (rw c.deref_mut-2.ensures.value at c.push-by.ensures.bounded) (rw c.deref_mut-2.ensures.value at c.push-by.ensures.along))
