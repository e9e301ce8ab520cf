use Rattle.grove_data.proofs.Led.{led_here}
use Rattle.grove_data.proofs.copies.KeptCopies.new.Goals as goal

pub invariant_of-result : goal.invariant_of-result
invariant_of-result g c = λ sound. record {
  last = c.args.store.now;
  is_store = c.tree.ensures.store;
  led = led_here g.B.Opening.store c.args.store.now c.requires.store;
  stands = c.requires.stands;
}
