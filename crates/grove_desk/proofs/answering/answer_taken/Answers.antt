use Rattle.std.proofs.Common.{◌≡◌, ℕ, ◌+◌, ◌<◌, [], ◌∷◌, ◌++◌, length, map, take, drop, refl, sym, ap, subst}
use Rattle.std.proofs.Common.{◌∙◌, arith, rules}
use Rattle.std.proofs.lemmas.List.{length-set, drop-set-lt}
use Rattle.std.proofs.Math.Seq.{map-set_same}
use Rattle.grove_line.specs.declared.asked.Asked.{Asked}
use Rattle.grove_desk.specs.Ledgers.{AreReceiptsOf}
use Rattle.grove_desk.proofs.Keeping.{few_replies}
use Rattle.grove_desk.proofs.Moving.{drop_step, same_next, drop_on}
use Rattle.grove_desk.proofs.Noting.{noted_more, noted_round}
use Rattle.grove_desk.proofs.answering.answer_taken.Goals as goal

pub loop-reply-init : goal.loop-reply-init
loop-reply-init g c =
    let given = c.into_iter-reply-iterator.ensures.into_iter_gives.0 in
    let few = few_replies (λ (asked : Asked _). asked.line) c.args.store.now c.reply_round.new.self
    (map (λ asked. asked.line) c.args.taken.now) c.args.taken.now c.in_ok-replies.replies.items refl
    c.in_ok-replies.ensures.round in
    rw c.in_ok-receipts.ensures.items record {
      next = tt;
      ends = tt;
      few = rw given few;
      rest = refl;
      within = omega arith;
      noted = record { asked = refl; replied = refl; counted = search rules; numbered = search rules };
      room = refl;
      long = ap length c.reply_round.ensures.same;
      left = c.reply_round.ensures.same;
      tickets = ap (map (λ asked. asked.ticket)) c.reply_round.ensures.same;
    }

pub bounds-taken-place : goal.bounds-taken-place
bounds-taken-place g c =
    let place : c.len-place.result ≡ length c.loop-reply.receipts.items = omega (arith, c.loop-reply.receipts.ok.0) in
    let step = drop_step c.into_iter-reply-iterator.result.rest.items
    (length c.loop-reply.receipts.items) c.in-Some.reply c.next.new.self.rest.items
    (sym c.in-Some.ensures.steps.0 ∙ c.loop-reply.invariant.rest) in
    let within : length c.loop-reply.receipts.items < length c.into_iter-reply-iterator.result.rest.items = step.0 in
    let few = c.loop-reply.invariant.few in
    let long = c.loop-reply.invariant.long in
    omega arith

pub push_reserved-requires : goal.push_reserved-requires
push_reserved-requires g c =
    let step = drop_step c.into_iter-reply-iterator.result.rest.items
    (length c.loop-reply.receipts.items) c.in-Some.reply c.next.new.self.rest.items
    (sym c.in-Some.ensures.steps.0 ∙ c.loop-reply.invariant.rest) in
    let within : length c.loop-reply.receipts.items < length c.into_iter-reply-iterator.result.rest.items = step.0 in
    let few = c.loop-reply.invariant.few in
    let room = c.loop-reply.invariant.room in
    omega (arith, c.loop-reply.receipts.ok.0, c.in_ok-receipts.ensures.capacity)

pub loop-reply-preserved : goal.loop-reply-preserved
loop-reply-preserved g c =
    let replies = c.into_iter-reply-iterator.result.rest.items in
    let i = length c.loop-reply.receipts.items in
    let place : c.len-place.result ≡ i = omega (arith, c.loop-reply.receipts.ok.0) in
    let step = drop_step replies i c.in-Some.reply c.next.new.self.rest.items
    (sym c.in-Some.ensures.steps.0 ∙ c.loop-reply.invariant.rest) in
    let long : length c.loop-reply.taken ≡ length c.args.taken.now = c.loop-reply.invariant.long in
    let few = c.loop-reply.invariant.few in
    let within : i < length replies = step.0 in
    let asked = same_next c.loop-reply.taken c.args.taken.now i c.len-place.result c.index-taken-place.result place
    c.loop-reply.invariant.left in
    let next = noted_more
    (λ (a : Asked _). a.line) c.args.first c.args.taken.now replies c.reply_round.new.self.rounds
    c.loop-reply.receipts.items c.push_reserved.new.self.items i c.len-place.result
    c.number_of.result c.take.result.items c.into_text.result.items c.index-taken-place.result c.in-Some.reply within
    few refl place c.loop-reply.invariant.noted
    (c.take.ensures ∙ ap (λ (a : Asked _). a.line) asked) c.into_text.ensures step.1 c.number_of.ensures
    (c.push_reserved.ensures.items
    ∙ ap (λ (n : ℕ). c.loop-reply.receipts.items ++ record
    { number = c.number_of.result; line = c.take.result.items; reply = c.into_text.result.items; rounds = n } ∷ [])
    c.rounds.ensures) in
    let more : length c.push_reserved.new.self.items ≡ i + 1 = next.0 in
    record {
      next = tt;
      ends = tt;
      few = few;
      rest = step.2 ∙ sym (ap (λ (n : ℕ). drop n replies) more);
      within = omega arith;
      noted = subst (λ (n : ℕ). AreReceiptsOf c.args.first
          (map (λ (a : Asked _). a.line) c.args.taken.now)
          (take n replies) c.reply_round.new.self.rounds c.push_reserved.new.self.items) (sym more) next.1;
      room = c.push_reserved.ensures.capacity ∙ c.loop-reply.invariant.room;
      long = length-set c.loop-reply.taken c.len-place.result _ ∙ long;
      left = drop-set-lt (length c.push_reserved.new.self.items) c.loop-reply.taken c.len-place.result _
          (omega arith)
          ∙ ap (λ (n : ℕ). drop n c.loop-reply.taken) more
          ∙ drop_on c.loop-reply.taken c.args.taken.now i c.index-taken-place.result (omega arith)
          (omega arith) c.loop-reply.invariant.left
          ∙ sym (ap (λ (n : ℕ). drop n c.args.taken.now) more);
      tickets = map-set_same (λ (a : Asked _). a.ticket) c.loop-reply.taken c.len-place.result _
          c.index-taken-place.result refl
          ∙ c.loop-reply.invariant.tickets;
    }

pub returns-clause-answered : goal.returns-clause-answered
returns-clause-answered g c =
    let (lines, round) = noted_round (λ (asked : Asked _). asked.line) c.args.first c.args.taken.now
    c.in_ok-replies.replies.items c.into_iter-reply-iterator.result.rest.items
    c.loop-reply.reply-iterator.rest.items
    (map (λ asked. asked.line) c.args.taken.now) c.loop-reply.receipts.items c.args.store.now c.reply_round.new.self
    (omega (arith, c.in-None.ensures.steps.0, c.loop-reply.reply-iterator.rest.ok.0)) c.loop-reply.invariant.rest
    c.loop-reply.invariant.within c.into_iter-reply-iterator.ensures.into_iter_gives.0
    refl c.in_ok-replies.ensures.round c.loop-reply.invariant.noted in
    record { lines = lines; round = round; left = c.loop-reply.invariant.left }
