use Rattle.grove.proofs.data_telling.tell_data.Goals as goal

pub returns-in-Err-Refused : goal.returns-in-Err-Refused
returns-in-Err-Refused g c = c.data_refused.ensures.told c.args.checks
