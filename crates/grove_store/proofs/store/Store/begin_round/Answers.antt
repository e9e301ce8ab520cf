use borrow.Rule.Slice.PartMut.{mid_of, put_mid, put_same}
use Rattle.std.proofs.Common.{◌≡◌, ◌-◌, ◌^◌, ◌<◌, ℕ, List, refl, length, map, drop, sym, ap, subst, ◌∙◌}
use Rattle.std.specs.Prelude.{Ok, Err, IfOk}
use Rattle.std.proofs.lemmas.List.{take_rest}
use Rattle.std.proofs.lemmas.Result.{IfOk-weaker}
use Rattle.grove_meter.specs.Waits.{reweighed}
use Rattle.grove_wire.specs.Names.{wire_name}
use Rattle.grove_wire.specs.Replies.{error_data, weights_data, weights_in_rows, changed_data}
use Rattle.grove_wire.specs.Requests.{Plan, Check, Weights, Reweigh}
use Rattle.grove_store.specs.StoreStates.{StoreState, IsStore, changes}
use Rattle.grove_store.specs.Parts.{AnswersFirst, AnswersReweigh, AnswersRound, RunsFirst, RunsLists, Begins, BeginsRun}
use Rattle.grove_store.specs.Parts.{IsRoundOf}
use Rattle.grove_store.proofs.Beginning.{begins_for, runs_for}
use Rattle.grove_store.proofs.Together.{counts_all, some_line}
use Rattle.grove_store.proofs.Telling.{text_made, one_made}
use Rattle.grove_line.proofs.Lines.{fails_so}
use Rattle.grove_store.proofs.Lawful.{first_alone, first_kept, first_round, first_other, first_run}
use Rattle.grove_store.proofs.store.Store.begin_round.Goals as goal

-- lines that are put back behind the first as they were
put_back : {X : Type 0} (lines others now : List X) → others ≡ mid_of 1 (length lines - 1) lines → lines ≡ now
    → put_mid 1 (length lines - 1) lines others ≡ now
put_back lines others now same is = ap (put_mid 1 (length lines - 1) lines) same ∙ put_same 1 _ lines ∙ is

pub begin_batch-requires-clause-counts : goal.begin_batch-requires-clause-counts
begin_batch-requires-clause-counts g c = counts_all _ _ _ _ _ c.in_ok-round-in-Ok-Batch.ensures.round

pub returns-in_ok-round-in-Ok-Batch-clause-begun : goal.returns-in_ok-round-in-Ok-Batch-clause-begun
returns-in_ok-round-in-Ok-Batch-clause-begun g c =
    let fits = rw c.in-Ok-Batch.field-0-is at c.in-Ok-Batch.ensures.fits in
    let (line, others, is, rest) = some_line (λ asked. asked.line) c.args.lines.now c.requires.count.0 in
    let read = (rw c.in-Ok-Batch.field-0-is at c.in-Ok-Batch.ensures.read) line others is in
    let now = c.args.self.now in
    let round = c.in_ok-round-in-Ok-Batch.round in
    let left = ap (map (λ asked. asked.line)) (take_rest c.first_request.new.lines 1)
    ∙ ap (λ lines. map (λ asked. asked.line) (drop 1 lines)) c.first_request.ensures.same ∙ rest in
    let whole = subst (λ (ls : List (List ℕ)). IsRoundOf c.self.inside.tree c.in-Ok-Batch.lists.items ls
    round.counts.items round.lists.items) left c.in_ok-round-in-Ok-Batch.ensures.round in
    let begun = subst (λ (store : StoreState). IfOk c.begin_batch.result
    (λ begun. Begins (AnswersRound store round.lists.items round.counts.items) store begun c.begin_batch.new.self))
    c.self.view_is c.begin_batch.ensures.begun in
    IfOk-weaker c.begin_batch.result _ _
    (λ begun begins. begins_for (AnswersFirst now (map (λ asked. asked.line) c.args.lines.now))
    (AnswersRound now round.lists.items round.counts.items) now begun c.begin_batch.new.self
    (λ replies after answers. first_round now after c.self.inside.tree _ line others c.in-Ok-Batch.lists.items _ _
    replies (subst IsStore c.self.view_is c.self.invariant.0) (ap (λ (s : StoreState). s.rows) c.self.view_is) is
    read fits.0 whole answers) begins) begun

pub returns-in_ok-replies-in-Ok-Plan-clause-begun : goal.returns-in_ok-replies-in-Ok-Plan-clause-begun
returns-in_ok-replies-in-Ok-Plan-clause-begun g c =
    let (line, others, is, rest) = some_line (λ asked. asked.line) c.args.lines.now c.requires.count.0 in
    let read = (rw c.in-Ok-Plan.field-0-is at c.in-Ok-Plan.ensures.read) line others is in
    let now = c.args.self.now in
    let replies = c.in_ok-replies-in-Ok-Plan.replies.items in
    let made = text_made c.plan_text-text.result replies c.plan_text-text.ensures.text
    c.in_ok-replies-in-Ok-Plan.ensures in
    subst (λ (after : StoreState). AnswersFirst now (map (λ asked. asked.line) c.args.lines.now) replies after)
    (sym c.self.view_is)
    (first_kept _ now _ line others (Ok (Plan c.in-Ok-Plan.list)) made.1.0 made.0 replies c.self.view_is
    c.self.invariant.0 is read refl (made.1.1, refl) made.1.2 made.2)

pub returns-in_ok-replies-in-Ok-Check-clause-begun : goal.returns-in_ok-replies-in-Ok-Check-clause-begun
returns-in_ok-replies-in-Ok-Check-clause-begun g c =
    let (line, others, is, rest) = some_line (λ asked. asked.line) c.args.lines.now c.requires.count.0 in
    let read = (rw c.in-Ok-Check.field-0-is at c.in-Ok-Check.ensures.read) line others is in
    let now = c.args.self.now in
    let replies = c.in_ok-replies-in-Ok-Check.replies.items in
    let made = text_made c.check_text-text.result replies c.check_text-text.ensures
    c.in_ok-replies-in-Ok-Check.ensures in
    subst (λ (after : StoreState). AnswersFirst now (map (λ asked. asked.line) c.args.lines.now) replies after)
    (sym c.self.view_is)
    (first_kept _ now _ line others (Ok (Check c.in-Ok-Check.list c.in-Ok-Check.plan c.in-Ok-Check.flow)) made.1.0
    made.0 replies c.self.view_is c.self.invariant.0 is read refl (made.1.1, refl) made.1.2 made.2)

pub returns-in_ok-replies-in-Ok-Weights-clause-begun : goal.returns-in_ok-replies-in-Ok-Weights-clause-begun
returns-in_ok-replies-in-Ok-Weights-clause-begun g c =
    let (line, others, is, rest) = some_line (λ asked. asked.line) c.args.lines.now c.requires.count.0 in
    let read = (rw c.in-Ok-Weights.field-0-is at c.in-Ok-Weights.ensures.read) line others is in
    let replies = c.in_ok-replies-in-Ok-Weights.replies.items in
    let made = text_made c.weights_text-text.result replies c.weights_text-text.ensures
    c.in_ok-replies-in-Ok-Weights.ensures in
    subst (λ (after : StoreState). AnswersFirst c.args.self.now (map (λ asked. asked.line) c.args.lines.now) replies
    after) (sym c.self.view_is)
    (first_kept _ c.args.self.now _ line others (Ok Weights)
    (weights_data c.deref.result.now (weights_in_rows c.self.inside.tree)) made.0 replies c.self.view_is
    c.self.invariant.0 is read refl
    (ap (λ waits. weights_data waits (weights_in_rows c.self.inside.tree)) c.deref.ensures.value, refl) made.1 made.2)

pub returns-in_ok-replies-in-Ok-Reweigh-clause-begun : goal.returns-in_ok-replies-in-Ok-Reweigh-clause-begun
returns-in_ok-replies-in-Ok-Reweigh-clause-begun g c =
    let (line, others, is, rest) = some_line (λ asked. asked.line) c.args.lines.now c.requires.count.0 in
    let read = (rw c.in-Ok-Reweigh.field-0-is at c.in-Ok-Reweigh.ensures.read) line others is in
    let now = c.args.self.now in
    let replies = c.in_ok-replies-in-Ok-Reweigh.replies.items in
    let answers = subst (λ (store : StoreState). AnswersReweigh store replies c.reweigh.new.self) c.self.view_is
    c.in_ok-replies-in-Ok-Reweigh.ensures.reply in
    first_alone now c.reweigh.new.self c.self.inside.tree _ line others (Ok Reweigh)
    (changed_data (changes now.rows (reweighed now.waits now.rows))) _ replies
    (subst IsStore c.self.view_is c.self.invariant.0) (ap (λ (s : StoreState). s.rows) c.self.view_is) is read refl
    (refl, answers.1) refl answers.0

pub returns-in_ok-replies-in-Err-clause-begun : goal.returns-in_ok-replies-in-Err-clause-begun
returns-in_ok-replies-in-Err-clause-begun g c =
    let (line, others, is, rest) = some_line (λ asked. asked.line) c.args.lines.now c.requires.count.0 in
    let replies = c.in_ok-replies-in-Err.replies.items in
    let made = text_made c.wire_refusal-text.result replies c.wire_refusal-text.ensures
    c.in_ok-replies-in-Err.ensures in
    subst (λ (after : StoreState). AnswersFirst c.args.self.now (map (λ asked. asked.line) c.args.lines.now) replies
    after) (sym c.self.view_is)
    (first_kept _ c.args.self.now _ line others (Err c.in-Err.fault) (error_data (wire_name c.in-Err.fault)) made.0
    replies c.self.view_is c.self.invariant.0 is
    (fails_so c.in-Err.fault _ made.1.0 (c.in-Err.ensures.read line others is)) refl
    (refl, refl) made.1.1 made.2)

pub returns-in_ok-round-in-Ok-Batch-clause-runs : goal.returns-in_ok-round-in-Ok-Batch-clause-runs
returns-in_ok-round-in-Ok-Batch-clause-runs g c =
    let (line, others, is, rest) = some_line (λ asked. asked.line) c.args.lines.now c.requires.count.0 in
    let read = (rw c.in-Ok-Batch.field-0-is at c.in-Ok-Batch.ensures.read) line others is in
    let now = c.args.self.now in
    let round = c.in_ok-round-in-Ok-Batch.round in
    let left = ap (map (λ asked. asked.line)) (take_rest c.first_request.new.lines 1)
    ∙ ap (λ lines. map (λ asked. asked.line) (drop 1 lines)) c.first_request.ensures.same ∙ rest in
    let whole = subst (λ (ls : List (List ℕ)). IsRoundOf c.self.inside.tree c.in-Ok-Batch.lists.items ls
    round.counts.items round.lists.items) left c.in_ok-round-in-Ok-Batch.ensures.round in
    let runs = subst (λ (store : StoreState). IfOk c.begin_batch.result
    (λ begun. BeginsRun (λ replies after. store.rounds < 2 ^ 64 - 1
    → RunsLists store round.lists.items round.counts.items replies after) store begun c.begin_batch.new.self))
    c.self.view_is c.begin_batch.ensures.runs in
    IfOk-weaker c.begin_batch.result _ _
    (λ begun runs. runs_for (RunsFirst now (map (λ asked. asked.line) c.args.lines.now))
    (λ replies after. now.rounds < 2 ^ 64 - 1 → RunsLists now round.lists.items round.counts.items replies after)
    now begun c.begin_batch.new.self
    (λ replies after ran. first_run now after c.self.inside.tree _ line others
    c.in-Ok-Batch.lists.items _ _ replies (ap (λ (s : StoreState). s.rows) c.self.view_is) is read whole ran) runs)
    runs

pub returns-in_ok-replies-in-Ok-Plan-clause-runs : goal.returns-in_ok-replies-in-Ok-Plan-clause-runs
returns-in_ok-replies-in-Ok-Plan-clause-runs g c =
    let (line, others, is, rest) = some_line (λ asked. asked.line) c.args.lines.now c.requires.count.0 in
    let read = (rw c.in-Ok-Plan.field-0-is at c.in-Ok-Plan.ensures.read) line others is in
    let replies = c.in_ok-replies-in-Ok-Plan.replies.items in
    first_other c.args.self.now _ c.self.inside.tree _ line others (Ok (Plan c.in-Ok-Plan.list)) replies
    (ap (λ (s : StoreState). s.rows) c.self.view_is) is read refl
    (one_made c.plan_text-text.result replies c.in_ok-replies-in-Ok-Plan.ensures)

pub returns-in_ok-replies-in-Ok-Check-clause-runs : goal.returns-in_ok-replies-in-Ok-Check-clause-runs
returns-in_ok-replies-in-Ok-Check-clause-runs g c =
    let (line, others, is, rest) = some_line (λ asked. asked.line) c.args.lines.now c.requires.count.0 in
    let read = (rw c.in-Ok-Check.field-0-is at c.in-Ok-Check.ensures.read) line others is in
    let replies = c.in_ok-replies-in-Ok-Check.replies.items in
    first_other c.args.self.now _ c.self.inside.tree _ line others
    (Ok (Check c.in-Ok-Check.list c.in-Ok-Check.plan c.in-Ok-Check.flow)) replies
    (ap (λ (s : StoreState). s.rows) c.self.view_is) is read refl
    (one_made c.check_text-text.result replies c.in_ok-replies-in-Ok-Check.ensures)

pub returns-in_ok-replies-in-Ok-Weights-clause-runs : goal.returns-in_ok-replies-in-Ok-Weights-clause-runs
returns-in_ok-replies-in-Ok-Weights-clause-runs g c =
    let (line, others, is, rest) = some_line (λ asked. asked.line) c.args.lines.now c.requires.count.0 in
    let read = (rw c.in-Ok-Weights.field-0-is at c.in-Ok-Weights.ensures.read) line others is in
    let replies = c.in_ok-replies-in-Ok-Weights.replies.items in
    first_other c.args.self.now _ c.self.inside.tree _ line others (Ok Weights) replies
    (ap (λ (s : StoreState). s.rows) c.self.view_is) is read refl
    (one_made c.weights_text-text.result replies c.in_ok-replies-in-Ok-Weights.ensures)

pub returns-in_ok-replies-in-Ok-Reweigh-clause-runs : goal.returns-in_ok-replies-in-Ok-Reweigh-clause-runs
returns-in_ok-replies-in-Ok-Reweigh-clause-runs g c =
    let (line, others, is, rest) = some_line (λ asked. asked.line) c.args.lines.now c.requires.count.0 in
    let read = (rw c.in-Ok-Reweigh.field-0-is at c.in-Ok-Reweigh.ensures.read) line others is in
    first_other c.args.self.now _ c.self.inside.tree _ line others (Ok Reweigh)
    c.in_ok-replies-in-Ok-Reweigh.replies.items (ap (λ (s : StoreState). s.rows) c.self.view_is) is read refl
    (ap length c.in_ok-replies-in-Ok-Reweigh.ensures.reply.0)

pub returns-in_ok-replies-in-Err-clause-runs : goal.returns-in_ok-replies-in-Err-clause-runs
returns-in_ok-replies-in-Err-clause-runs g c =
    let (line, others, is, rest) = some_line (λ asked. asked.line) c.args.lines.now c.requires.count.0 in
    let replies = c.in_ok-replies-in-Err.replies.items in
    let made = text_made c.wire_refusal-text.result replies c.wire_refusal-text.ensures
    c.in_ok-replies-in-Err.ensures in
    first_other c.args.self.now _ c.self.inside.tree _ line others (Err c.in-Err.fault) replies
    (ap (λ (s : StoreState). s.rows) c.self.view_is) is
    (fails_so c.in-Err.fault _ made.1.0 (c.in-Err.ensures.read line others is)) refl
    (ap length made.2)

pub returns-in_ok-round-in-Ok-Batch-clause-same : goal.returns-in_ok-round-in-Ok-Batch-clause-same
returns-in_ok-round-in-Ok-Batch-clause-same g c =
    put_back c.first_request.new.lines _ _ c.round_of.ensures.same c.first_request.ensures.same

pub returns-in_err-round-in-Ok-Batch-clause-same : goal.returns-in_err-round-in-Ok-Batch-clause-same
returns-in_err-round-in-Ok-Batch-clause-same g c =
    put_back c.first_request.new.lines _ _ c.round_of.ensures.same c.first_request.ensures.same
