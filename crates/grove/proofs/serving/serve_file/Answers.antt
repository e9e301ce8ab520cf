use Rattle.grove.proofs.serving.serve_file.Goals as goal

pub returns-in-Err-Refused : goal.returns-in-Err-Refused
returns-in-Err-Refused g c = c.data_refused.ensures.resumed c.args.serving.now.place
