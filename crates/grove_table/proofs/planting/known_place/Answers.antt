use Rattle.std.proofs.Common.{◌≡◌, ◌≢◌, ◌∙◌, Some, add-one, ap, bytes_eq, slice_get, sym, arith}
use Rattle.std.proofs.lemmas.Bool.{both_ways}
use Rattle.std.proofs.lemmas.Slice.Eq.{bytes_eq-Decides}
use Rattle.grove_base.proofs.Lists.{item_there}
use Rattle.grove_table.specs.declared.planting.Sprout.{Sprout}
use Rattle.grove_table.proofs.LookedAt.{kept_all, kept_more}
use Rattle.grove_table.proofs.SpareLines.{none_planted, one_planted}
use Rattle.std.proofs.lemmas.Option.{get_or_from_slice_get}
use Rattle.grove_table.proofs.planting.known_place.Goals as goal

pub loop-place-preserved : goal.loop-place-preserved
loop-place-preserved c =
    grind (arith, add-one, both_ways, bytes_eq-Decides, get_or_from_slice_get, item_there, kept_more)

pub returns-then-eq : goal.returns-then-eq
returns-then-eq c =
    let sprouts = c.args.sprouts.now in
    let path = c.args.path.now in
    let found : (sprout : Sprout) × (slice_get sprouts c.loop-place.place ≡ Some sprout) =
    item_there sprouts c.loop-place.place c.loop-place-test.true in
    let told : c.eq.result ≡ bytes_eq found.0.path.now path =
    c.eq.ensures ∙ ap (λ (s : Sprout). bytes_eq s.path.now path)
    (get_or_from_slice_get sprouts c.loop-place.place found.0 _ found.1) in
    one_planted sprouts path c.loop-place.place found.0 found.1
    ((bytes_eq-Decides found.0.path.now path).0 (sym told ∙ c.if-eq.true))

pub returns : goal.returns
returns c =
    none_planted c.args.sprouts.now c.args.path.now
    (kept_all (λ (s : Sprout). s.path.now ≢ c.args.path.now) c.args.sprouts.now c.loop-place.place
    c.loop-place.invariant c.loop-place-test.false)
