use Rattle.std.proofs.Common.{Ok}
use Rattle.serde_json.specs.View.{view}
use Rattle.grove_words.specs.declared.order.Command.TheVariants as command
use Rattle.grove.proofs.serving.serve_document.Goals as goal

pub returns-in-Err-clause-lines : goal.returns-in-Err-clause-lines
returns-in-Err-clause-lines g c =
    c.refused.ensures (command.Serve c.args.serving.now) (Ok (view c.args.document.now))
    (c.in-Err.ensures.refused c.args.serving.now)

pub returns-in-Err-clause-requests : goal.returns-in-Err-clause-requests
returns-in-Err-clause-requests g c =
    c.refused.ensures (command.Page c.args.serving.now) (Ok (view c.args.document.now))
    (c.in-Err.ensures.refused c.args.serving.now)
