use Rattle.std.proofs.Common.{map, subst}
use Rattle.std.proofs.lemmas.Result.{IfOk-weaker}
use Rattle.grove_store.specs.declared.begun.Begun.{Begun}
use Rattle.grove_store.specs.Parts.{AnswersFirst, RunsFirst, Begins, BeginsRun}
use Rattle.grove_store.proofs.Beginning.{left_done, left_run}
use Rattle.grove_store.proofs.store.Store.reply_round_alone.Goals as goal

pub returns-in-Jobs-clause-answers : goal.returns-in-Jobs-clause-answers
returns-in-Jobs-clause-answers g c =
    let now = c.args.self.now in
    let lines = map (λ asked. asked.line) c.args.lines.now in
    let left = subst (λ (begun : Begun). Begins (AnswersFirst now lines) now begun c.begin_round.new.self) c.in-Jobs.is
    c.in_ok-replies.ensures.begun in
    IfOk-weaker c.run_alone.result _ _
    (λ replies doing. left_done (AnswersFirst now lines) now c.begin_round.new.self c.in-Jobs.jobs.items
    c.deref.result.now c.in-Jobs.counts.items c.deref-in-Jobs.result.now replies.items c.run_alone.new.self left
    c.deref.ensures.value c.deref-in-Jobs.ensures.value doing) c.run_alone.ensures.round

pub returns-in-Jobs-clause-runs : goal.returns-in-Jobs-clause-runs
returns-in-Jobs-clause-runs g c =
    let now = c.args.self.now in
    let lines = map (λ asked. asked.line) c.args.lines.now in
    let left = subst (λ (begun : Begun). Begins (AnswersFirst now lines) now begun c.begin_round.new.self) c.in-Jobs.is
    c.in_ok-replies.ensures.begun in
    let runs = subst (λ (begun : Begun). BeginsRun (RunsFirst now lines) now begun c.begin_round.new.self) c.in-Jobs.is
    c.in_ok-replies.ensures.runs in
    IfOk-weaker c.run_alone.result _ _
    (λ replies doing. left_run (RunsFirst now lines) now c.begin_round.new.self c.in-Jobs.jobs.items
    c.deref.result.now c.in-Jobs.counts.items c.deref-in-Jobs.result.now replies.items c.run_alone.new.self runs left.1
    c.deref.ensures.value c.deref-in-Jobs.ensures.value doing) c.run_alone.ensures.runs
