use Rattle.std.proofs.Common.{map, subst}
use Rattle.std.proofs.lemmas.Result.{IfOk-weaker}
use Rattle.grove_store.specs.declared.begun.Begun.{Begun}
use Rattle.grove_store.specs.Parts.{AnswersFirst, Begins}
use Rattle.grove_store.proofs.Beginning.{left_done}
use Rattle.grove_store.proofs.store.Store.reply_round.Goals as goal

pub returns-then-are_worth_threads-clause-length : goal.returns-then-are_worth_threads-clause-length
returns-then-are_worth_threads-clause-length g c =
    let now = c.args.self.now in
    let lines = map (λ asked. asked.line) c.args.lines.now in
    let left = subst (λ (begun : Begun). Begins (AnswersFirst now lines) now begun c.begin_round.new.self) c.in-Jobs.is
    c.in_ok-replies.ensures.begun in
    IfOk-weaker c.run_together.result _ _
    (λ replies doing. (left_done (AnswersFirst now lines) now c.begin_round.new.self c.in-Jobs.jobs.items
    c.deref-then-are_worth_threads.result.now c.in-Jobs.counts.items c.deref-then-are_worth_threads-2.result.now
    replies.items c.run_together.new.self left c.deref-then-are_worth_threads.ensures.value
    c.deref-then-are_worth_threads-2.ensures.value doing).0) c.run_together.ensures.round

pub returns-clause-length : goal.returns-clause-length
returns-clause-length g c =
    let now = c.args.self.now in
    let lines = map (λ asked. asked.line) c.args.lines.now in
    let left = subst (λ (begun : Begun). Begins (AnswersFirst now lines) now begun c.begin_round.new.self) c.in-Jobs.is
    c.in_ok-replies.ensures.begun in
    IfOk-weaker c.run_alone.result _ _
    (λ replies doing. (left_done (AnswersFirst now lines) now c.begin_round.new.self c.in-Jobs.jobs.items
    c.deref-else-are_worth_threads.result.now c.in-Jobs.counts.items c.deref-else-are_worth_threads-2.result.now
    replies.items c.run_alone.new.self left c.deref-else-are_worth_threads.ensures.value
    c.deref-else-are_worth_threads-2.ensures.value doing).0) c.run_alone.ensures.round
