use Rattle.std.proofs.Common.{◌≡◌, ◌<◌, ℕ, ◌-◌, ◌∷◌, [], ◌++◌, length, get_or, set, subst, ◌∙◌, ap, arith}
use Rattle.std.proofs.lemmas.List.{set-get_or}
use Rattle.grove_store.specs.Rounds.{lists_in}
use Rattle.grove_store.specs.Parts.{FitsRoom, NoneFits}
use Rattle.grove_store.proofs.Together.{read_one_more, read_stops, read_ends, round_is}
use Rattle.grove_store.proofs.round.round_of.Goals as goal
use Rattle.grove_store.proofs.round.round_of.Goals.{else-loop-place-test, then-loop-place-test+in_ok-more+in_default}

pub loop-place-preserved : goal.loop-place-preserved
loop-place-preserved g c =
    let at = c.loop-place.place in
    let others = c.loop-place.others in
    let item = c.index-others-place.result in
    let same = c.loop-place.invariant.same in
    let left = 256 - c.len-room.result in
    let fits = subst (λ os. FitsRoom (lists_in c.args.tree.now (get_or os at item).line) left c.in-Some.more.items) same
    (rw c.in-Some.is at c.in_ok-more.ensures.lists) in
    let fit = rw c.in-Some.is at c.in_ok-more.ensures.fit in
    let room : left ≡ 256 - length c.loop-place.lists.items = omega (arith, c.loop-place.lists.ok.0) in
    let count : c.len-in-loop-place.result ≡ length c.in-Some.more.items = omega (arith, c.in-Some.more.ok.0) in
    let within : at < length c.args.others.now = omega arith in
    let next = read_one_more (λ asked. asked.line) c.args.tree.now c.args.first.items c.args.others.now at _ _
    c.loop-place.counts.items c.push-in-loop-place.new.self.items c.loop-place.lists.items c.append.new.self.items
    c.in-Some.more.items item within room fits fit
    (c.in_ok-push-2.ensures.items ∙ ap (λ (n : ℕ). c.loop-place.counts.items ++ n ∷ []) count)
    c.in_ok-append.ensures.items c.loop-place.invariant.has c.loop-place.invariant.longest in
    record {
      same = ap (λ line. set others at record { ticket = (get_or others at item).ticket; line = line })
          c.batch_within.ensures.same ∙ set-get_or others at item ∙ same;
      has = next.0;
      longest = next.1;
    }

pub returns-clause-round : goal.returns-clause-round
returns-clause-round g c = elim c.loop-place-test.branch [
  | else-loop-place-test w ↦ round_is c.args.tree.now c.args.first.items _ c.loop-place.place _
      c.loop-place.counts.items c.loop-place.lists.items c.loop-place.invariant.has c.loop-place.invariant.longest
      (read_ends (λ asked. asked.line) c.args.tree.now c.args.others.now c.loop-place.place
      (256 - length c.loop-place.lists.items) (omega arith))
  | then-loop-place-test+in_ok-more+in_default w ↦
      let at = c.loop-place.place in
      let item = w.index-others-place.result in
      let left = 256 - w.len-room.result in
      let none = subst (λ os. NoneFits (lists_in c.args.tree.now (get_or os at item).line) left)
      c.loop-place.invariant.same (rw w.in_default.is at w.in_ok-more.ensures.lists) in
      let room : left ≡ 256 - length c.loop-place.lists.items = omega (arith, c.loop-place.lists.ok.0) in
      round_is c.args.tree.now c.args.first.items _ at _ c.loop-place.counts.items c.loop-place.lists.items
      c.loop-place.invariant.has c.loop-place.invariant.longest
      (read_stops (λ asked. asked.line) c.args.tree.now c.args.others.now at left
      (256 - length c.loop-place.lists.items) item (omega arith) room none)
]

pub returns-clause-same : goal.returns-clause-same
returns-clause-same g c = elim c.loop-place-test.branch [
  | else-loop-place-test w ↦ w.others-is ∙ c.loop-place.invariant.same
  | then-loop-place-test+in_ok-more+in_default w ↦ w.others-is
      ∙ ap (λ line. set c.loop-place.others c.loop-place.place record {
        ticket = (get_or c.loop-place.others c.loop-place.place w.index-others-place.result).ticket;
        line = line;
      }) w.batch_within.ensures.same
      ∙ set-get_or c.loop-place.others c.loop-place.place w.index-others-place.result ∙ c.loop-place.invariant.same
]
