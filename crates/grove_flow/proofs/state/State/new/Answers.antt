use Rattle.std.proofs.Common.{◌≡◌, length, replicate, drop, ◌∙◌, rules, take_at}
use Rattle.grove_flow.proofs.Starting.{start_state}
use Rattle.grove_flow.proofs.state.State.new.Goals as goal

pub returns : goal.returns
returns c =
    let excess_size : length c.share_out.new.excess ≡ c.in_ok-excess.excess.len = c.share_out.auto.excess ∙ c.deref_mut.ensures.len in
    let unmet_size : length c.share_out.new.unmet ≡ c.in_ok-unmet.unmet.len = c.share_out.auto.unmet ∙ c.deref_mut-2.ensures.len in
    let excess_len : c.in_ok-excess.excess.len ≡ length c.args.network.now.needs.items = search rules in
    let unmet_len : c.in_ok-unmet.unmet.len ≡ length c.args.network.now.needs.items = search rules in
    let amounts_is : c.in_ok-amounts.amounts.items ≡ replicate (length c.args.network.now.arcs.items) 0 = search rules in
    let places_is : c.in_ok-places.places.items ≡ c.args.start.now = search rules in
    record {
      state = rw (
        take_at c.share_out.new.excess (drop (length c.share_out.new.excess) c.in_ok-excess.excess.items) c.in_ok-excess.excess.len excess_size,
        take_at c.share_out.new.unmet (drop (length c.share_out.new.unmet) c.in_ok-unmet.unmet.items) c.in_ok-unmet.unmet.len unmet_size,
        amounts_is,
        places_is,
      ) (start_state c.share_out.new.excess c.share_out.new.unmet c.requires.network (rw c.deref.ensures.value at c.read_ends.ensures) c.requires.start
          (excess_size ∙ excess_len) (unmet_size ∙ unmet_len) (rw c.deref-2.ensures.value at c.share_out.ensures.excess) (rw c.deref-2.ensures.value at c.share_out.ensures.unmet));
    }
