use Rattle.std.proofs.Common.{refl, arith}
use Rattle.std.proofs.lemmas.Result.{on_ok_weaker}
use Rattle.serde_json.specs.Data.{array, object}
use Rattle.grove_line.specs.declared.values.Opened.TheVariants.{Array, Object}
use Rattle.grove_line.specs.TokenValues.{Starts, IsOpenedBy}
use Rattle.grove_line.proofs.TokenValues as values
use Rattle.grove_line.proofs.values.+pass.Goals as goal

pub pass_items-loop-reader-smaller : goal.pass_items-loop-reader-smaller
pass_items-loop-reader-smaller t c = grind (arith, values.starts_shorter)

pub pass_items-loop-reader-preserved : goal.pass_items-loop-reader-preserved
pass_items-loop-reader-preserved t c =
    (_, values.items_turn c.loop-reader.invariant.1 (grind arith) c.in_ok-pass.ensures.passed)

pub pass_items-returns-in_err-pass-clause-unread : goal.pass_items-returns-in_err-pass-clause-unread
pass_items-returns-in_err-pass-clause-unread t c refused =
    values.items_stop c.loop-reader.invariant.1 (grind arith) (c.pass.ensures.unread (grind arith))

pub pass_items-returns-clause-passed : goal.pass_items-returns-clause-passed
pass_items-returns-clause-passed t c = (_, values.items_over c.loop-reader.invariant.1 (grind arith))

pub pass_members-loop-reader-init : goal.pass_members-loop-reader-init
pass_members-loop-reader-init t c = (_, values.members_begin c.args.depth c.args.reader.now)

pub pass_members-returns-in_err-next_key-clause-unread : goal.pass_members-returns-in_err-next_key-clause-unread
pass_members-returns-in_err-next_key-clause-unread t c refused =
    values.members_no_name c.loop-reader.invariant.1 c.in_err-next_key.ensures.value

pub pass_members-loop-reader-smaller : goal.pass_members-loop-reader-smaller
pass_members-loop-reader-smaller t c = grind (arith, values.member_shorter)

pub pass_members-loop-reader-preserved : goal.pass_members-loop-reader-preserved
pass_members-loop-reader-preserved t c =
    (_, values.members_turn c.loop-reader.invariant.1 c.in-Some.field-0.now (grind arith) c.in_ok-pass.ensures.passed)

pub pass_members-returns-in_err-pass-clause-unread : goal.pass_members-returns-in_err-pass-clause-unread
pass_members-returns-in_err-pass-clause-unread t c refused =
    values.members_stop c.loop-reader.invariant.1 c.in-Some.field-0.now (grind arith)
    (c.pass.ensures.unread (grind arith))

pub pass_members-returns-clause-passed : goal.pass_members-returns-clause-passed
pass_members-returns-clause-passed t c =
    (_, values.members_over c.loop-reader.invariant.1 (grind arith))

pub pass_opened-returns-in-Array-clause-passed : goal.pass_opened-returns-in-Array-clause-passed
pass_opened-returns-in-Array-clause-passed t c =
    on_ok_weaker c.pass_items.result (λ read depth start opens.
    let starts : Starts depth start c.pass_items.new.reader (IsOpenedBy (Array c.in-Array.inside)) = record {
      whole = array read.0;
      is = values.array_passed (rw c.in-Array.is at opens) read.1;
      holds = (refl, refl);
    } in
    rw c.in-Array.is starts) c.pass_items.ensures.passed

pub pass_opened-returns-in-Array-clause-unread : goal.pass_opened-returns-in-Array-clause-unread
pass_opened-returns-in-Array-clause-unread t c refused depth start opens =
    values.array_unread (rw c.in-Array.is at opens) (c.pass_items.ensures.unread refused)

pub pass_opened-returns-in-Object-clause-passed : goal.pass_opened-returns-in-Object-clause-passed
pass_opened-returns-in-Object-clause-passed t c =
    on_ok_weaker c.pass_members.result (λ read depth start opens.
    let starts : Starts depth start c.pass_members.new.reader (IsOpenedBy (Object c.in-Object.inside)) = record {
      whole = object read.0;
      is = values.object_passed (rw c.in-Object.is at opens) read.1;
      holds = (refl, refl);
    } in
    rw c.in-Object.is starts) c.pass_members.ensures.passed

pub pass_opened-returns-in-Object-clause-unread : goal.pass_opened-returns-in-Object-clause-unread
pass_opened-returns-in-Object-clause-unread t c refused depth start opens =
    values.object_unread (rw c.in-Object.is at opens) (c.pass_members.ensures.unread refused)
