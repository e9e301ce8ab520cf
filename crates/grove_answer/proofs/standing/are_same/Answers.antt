use Rattle.std.proofs.lemmas.Slice.Eq.{slice_eq-Decides}
use Rattle.grove_answer.proofs.SameReplies.{reply_decides}
use Rattle.grove_answer.proofs.standing.are_same.Goals as goal

pub returns : goal.returns
returns c = slice_eq-Decides reply_decides c.args.said.now c.args.replies.now c.eq.result c.eq.ensures
