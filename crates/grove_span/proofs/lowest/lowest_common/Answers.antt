use Rattle.std.proofs.Common.{◌≡◌, ◌-◌, ◌<◌, suc, length, arith, Some, sym, ap, ◌∙◌, ℕ}
use Rattle.std.proofs.lemmas.Option.{slice_get-get_or}
use Rattle.grove_span.proofs.LowestCommon.{lowest_of_ends}
use Rattle.grove_span.proofs.lowest.lowest_common.Goals as goal

pub returns-clause-lowest : goal.returns-clause-lowest
returns-clause-lowest c =
    let targets = c.args.targets.now in
    let some : 0 < length targets = c.requires.some in
    let end = length targets - 1 in
    let size : length targets ≡ suc end = omega arith in
    let inside : end < length targets = omega arith in
    lowest_of_ends c.args.tree.now targets end c.new-first.result c.new-last.result c.climb.result c.requires.tree
    c.requires.within c.requires.ascending size
    (slice_get-get_or targets 0 0 some ∙ ap (λ (v : ℕ). Some v) (sym c.new-first.ensures))
    (slice_get-get_or targets end 0 inside ∙ ap (λ (v : ℕ). Some v) (sym c.new-last.ensures))
    c.climb.ensures.from c.climb.ensures.target c.climb.ensures.lowest
