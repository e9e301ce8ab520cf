use Rattle.std.proofs.Common.{◌≡◌, ℕ, ◌+◌, List, ◌∷◌, [], ◌++◌, length, map, take, refl, sym, ap, subst, ◌∙◌, arith}
use Rattle.std.proofs.Common.{append_assoc, length-append}
use Rattle.std.proofs.lemmas.List.{length-map, map_push}
use Rattle.grove_store.specs.Rounds.{round_length, IsLawfulRound}
use Rattle.grove_store.proofs.Longest.{rounds_are_within}
use Rattle.grove_store.proofs.Taking.{taken_all}
use Rattle.grove_store.proofs.store.Store.answer_round.Goals as goal

pub loop-reply-init : goal.loop-reply-init
loop-reply-init g c =
    let given = c.into_iter-reply-iterator.ensures.into_iter_gives.0 in
    let all : length (map (λ line. line.now) c.args.lines.now) ≡ length c.args.lines.now =
    length-map c.args.lines.now (λ line. line.now) in
    let within = rounds_are_within c.args.self.now.rows (map (λ line. line.now) c.args.lines.now)
    (omega (arith, c.requires.count.0)) in
    let same : map (λ asked. asked.line) c.deref_mut.result.now ≡ map (λ line. line.now) c.args.lines.now =
    ap (map (λ asked. asked.line)) c.deref_mut.ensures.value ∙ c.in_ok-copies.ensures in
    let long : length c.into_iter-reply-iterator.result.rest.items ≡ length c.in_ok-replies.replies.items =
    ap length given in
    rw c.in_ok-texts.ensures.items record {
      next = tt;
      ends = tt;
      all = refl;
      few = omega (
        arith,
        within.1,
        c.in_ok-replies.ensures.length ∙ ap (round_length c.args.self.now.rows) same,
        c.in_ok-texts.ensures.capacity,
      );
      room = refl;
    }

pub push_reserved-requires : goal.push_reserved-requires
push_reserved-requires g c =
    let parts : length (map (λ text. text.items) c.loop-reply.texts.items ++ c.loop-reply.reply-iterator.rest.items)
    ≡ length (map (λ text. text.items) c.loop-reply.texts.items) + length c.loop-reply.reply-iterator.rest.items =
    length-append _ _ in
    let texts : length (map (λ text. text.items) c.loop-reply.texts.items) ≡ length c.loop-reply.texts.items =
    length-map c.loop-reply.texts.items (λ text. text.items) in
    let left : length c.loop-reply.reply-iterator.rest.items ≡ length (c.in-Some.reply ∷ c.next.new.self.rest.items) =
    ap length c.in-Some.ensures.steps.0 in
    omega (
      arith,
      ap length c.loop-reply.invariant.all,
      c.loop-reply.invariant.few,
      c.loop-reply.invariant.room,
      c.loop-reply.texts.ok.0,
    )

pub loop-reply-preserved : goal.loop-reply-preserved
loop-reply-preserved g c = record {
  next = tt;
  ends = tt;
  all = ap (λ texts. map (λ text. text.items) texts ++ c.next.new.self.rest.items) c.push_reserved.ensures.items
      ∙ ap (λ (texts : List (List ℕ)). texts ++ c.next.new.self.rest.items)
      (map_push (λ text. text.items) c.loop-reply.texts.items c.into_text.result)
      ∙ append_assoc (map (λ text. text.items) c.loop-reply.texts.items)
      (c.into_text.result.items ∷ []) c.next.new.self.rest.items
      ∙ ap (λ (text : List ℕ). map (λ text. text.items) c.loop-reply.texts.items ++
      (text ∷ c.next.new.self.rest.items)) c.into_text.ensures
      ∙ ap (λ (rest : List (List ℕ)). map (λ text. text.items) c.loop-reply.texts.items ++ rest)
      (sym c.in-Some.ensures.steps.0)
      ∙ c.loop-reply.invariant.all;
  few = c.loop-reply.invariant.few;
  room = c.push_reserved.ensures.capacity ∙ c.loop-reply.invariant.room;
}

pub returns : goal.returns
returns g c =
    let same : map (λ asked. asked.line) c.deref_mut.result.now ≡ map (λ line. line.now) c.args.lines.now =
    ap (map (λ asked. asked.line)) c.deref_mut.ensures.value ∙ c.in_ok-copies.ensures in
    let (long, round) = taken_all (λ text. text.items) c.loop-reply.texts.items c.loop-reply.reply-iterator.rest.items
    c.into_iter-reply-iterator.result.rest.items c.in_ok-replies.replies.items
    (map (λ line. line.now) c.args.lines.now)
    c.args.self.now c.reply_round.new.self
    (omega (arith, c.in-None.ensures.steps.0, c.loop-reply.reply-iterator.rest.ok.0)) c.loop-reply.invariant.all
    c.into_iter-reply-iterator.ensures.into_iter_gives.0
    (subst (λ (lines : List (List ℕ)). IsLawfulRound c.args.self.now
    (take (length c.in_ok-replies.replies.items) lines) c.in_ok-replies.replies.items c.reply_round.new.self)
    same c.in_ok-replies.ensures.round) in
    record {
      length = long ∙ c.in_ok-replies.ensures.length ∙ ap (round_length c.args.self.now.rows) same;
      round = round;
      err = tt;
    }
