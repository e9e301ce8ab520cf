use Rattle.std.proofs.Common.{◌≡◌, ◌≤◌, length, subst, arith}
use Rattle.grove_answer.proofs.Differences.{AreAlike, same_lists}
use Rattle.grove_answer.proofs.standing.other_record.Goals as goal

pub returns : goal.returns
returns c =
    let within : c.loop-at.at ≤ length c.args.said.now = c.loop-at.invariant.within in
    let end : c.loop-at.at ≡ length c.args.records.now = let past = c.loop-at-test.false in let most = c.loop-at.auto.at-end in omega arith in
    let few : length c.args.said.now ≤ length c.args.records.now = c.if-said-records.false in
    same_lists c.args.said.now c.args.records.now (omega arith) (subst (AreAlike c.args.said.now c.args.records.now) end c.loop-at.invariant.alike)
