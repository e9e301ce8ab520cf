use Rattle.std.specs.List.{slice_get}
use Rattle.std.proofs.Common.{rules, Some, ◌≡◌, ◌≤◌, ◌<◌, [], List, Bor, Vec, Global, length, map, get_or, sym, subst, ◌∙◌, arith}
use Rattle.std.proofs.lemmas.List.{length-map}
use Rattle.std.proofs.lemmas.Option.{slice_get-get_or}
use Rattle.grove_base.proofs.Lists.{read_at}
use Rattle.grove_access.specs.declared.reply.Reply.{Reply}
use Rattle.grove_answer.proofs.Differences.{AreAlike, alike_more, differ_beyond, made_at, same_lists}
use Rattle.grove_answer.proofs.standing.other_replies.Goals as goal

abbrev said_of : List (Vec Reply Global) → List (List Reply)
said_of said = map (λ list. list.items) said

abbrev left_of : List (Bor (List Reply)) → List (List Reply)
left_of replies = map (λ list. list.now) replies

pub loop-at-preserved : goal.loop-at-preserved
loop-at-preserved c =
    let within : c.loop-at.at ≤ length c.args.said.now = c.loop-at.invariant.within in
    let other = c.if-at-said.false in
    let in_said : c.loop-at.at < length c.args.said.now = search rules in
    let is : c.index-said-at.result.items ≡ (get_or c.args.replies.now c.loop-at.at record { ref_ptr = (0, 0); now = [] }).now =
    sym c.deref.ensures.value ∙ c.are_same.ensures.0 c.if-not-are_same.false in
    record {
      within = omega arith;
      alike = alike_more (said_of c.args.said.now) (left_of c.args.replies.now) c.index-said-at.result.items c.loop-at.at
          (made_at (λ list. list.items) c.args.said.now c.loop-at.at c.index-said-at.result (read_at c.args.said.now c.loop-at.at c.index-said-at.result in_said c.index-said-at.is))
          (subst (λ (list : List Reply). slice_get (left_of c.args.replies.now) c.loop-at.at ≡ Some list) (sym is)
          (made_at (λ list. list.now) c.args.replies.now c.loop-at.at _ (slice_get-get_or c.args.replies.now c.loop-at.at record { ref_ptr = (0, 0); now = [] } c.loop-at-test.true)))
          c.loop-at.invariant.alike;
    }

pub returns-then-said-replies : goal.returns-then-said-replies
returns-then-said-replies c =
    let end : c.loop-at.at ≡ length c.args.replies.now = let past = c.loop-at-test.false in let most = c.loop-at.auto.at-end in omega arith in
    let more : length c.args.replies.now < length c.args.said.now = c.if-said-replies.true in
    let said : length (said_of c.args.said.now) ≡ length c.args.said.now = length-map c.args.said.now (λ list. list.items) in
    let left : length (left_of c.args.replies.now) ≡ length c.args.replies.now = length-map c.args.replies.now (λ list. list.now) in
    differ_beyond (said_of c.args.said.now) (left_of c.args.replies.now) [] (length c.args.replies.now) (omega arith) (omega arith)
    (subst (AreAlike (said_of c.args.said.now) (left_of c.args.replies.now)) end c.loop-at.invariant.alike)

pub returns : goal.returns
returns c =
    let within : c.loop-at.at ≤ length c.args.said.now = c.loop-at.invariant.within in
    let end : c.loop-at.at ≡ length c.args.replies.now = let past = c.loop-at-test.false in let most = c.loop-at.auto.at-end in omega arith in
    let few : length c.args.said.now ≤ length c.args.replies.now = c.if-said-replies.false in
    let said : length (said_of c.args.said.now) ≡ length c.args.said.now = length-map c.args.said.now (λ list. list.items) in
    let left : length (left_of c.args.replies.now) ≡ length c.args.replies.now = length-map c.args.replies.now (λ list. list.now) in
    same_lists (said_of c.args.said.now) (left_of c.args.replies.now) (omega arith)
    (subst (AreAlike (said_of c.args.said.now) (left_of c.args.replies.now)) (end ∙ sym left) c.loop-at.invariant.alike)
