use Rattle.grove_c.proofs.grove_c_store_open.Goals as goal

pub returns : goal.returns
returns c = c.open.ensures.store c.args.document.now c.store_opened.ensures
