use Rattle.std.proofs.Common.{◌≡◌, ◌∙◌, ◌≤◌, List, ℕ, Some, add-one, ap, arith, fold, length, rules, slice_get}
use Rattle.std.proofs.Common.{string_bytes, subst, suc, sym, take}
use Rattle.grove_base.proofs.Lists.{map_length, read_at}
use Rattle.grove_table.specs.declared.fault.Reason.TheVariants.{TwiceNamed}
use Rattle.grove_table.specs.declared.planting.Sprout.{Sprout}
use Rattle.grove_table.specs.Refusals.{HasPath, IsSpare, needed, paths_to, with_path}
use Rattle.grove_table.specs.Plantings.{paths_of}
use Rattle.grove_table.specs.Rows.{Tells}
use Rattle.grove_table.proofs.SpareLines.{full_told, needed_more, none_more, not_spare, twice_told}
use Rattle.grove_table.proofs.SpareLines.{was_found, was_not_found}
use Rattle.grove_table.proofs.planting.planted.Goals as goal

pub loop-place-preserved : goal.loop-place-preserved
loop-place-preserved c =
    let lines = c.args.lines.now in
    let line = c.index-lines-place.result in
    let place : ℕ = c.loop-place.place in
    let path : List ℕ = string_bytes line.path in
    let at : slice_get lines place ≡ Some line = read_at lines place line c.loop-place-test.true
    c.index-lines-place.is in
    let told : paths_of c.plant.new.sprouts.items
    ≡ fold with_path (paths_of c.loop-place.sprouts.items) (paths_to path) = search rules in
    let planted : paths_of c.plant.new.sprouts.items ≡ needed (take (suc place) lines) =
    told ∙ ap (λ (paths : List (List ℕ)). fold with_path paths (paths_to path)) c.loop-place.invariant.planted
    ∙ sym (needed_more lines place line at) in
    let few : length c.plant.new.sprouts.items ≤ 4096 = search rules in
    let size : length (paths_of c.plant.new.sprouts.items) ≡ length c.plant.new.sprouts.items =
    map_length (λ (s : Sprout). s.path.now) c.plant.new.sprouts.items in
    let new : HasPath (take place lines) path → ⊥ =
    subst (λ (bytes : List ℕ). HasPath (take place lines) bytes → ⊥) c.deref.ensures
    (was_not_found c.line_with.result (HasPath (take place lines) c.deref.result.now) c.line_with.ensures
    (search rules)) in
    record {
      few = few;
      planted = rw add-one planted;
      none = rw add-one (none_more (IsSpare lines) place c.loop-place.invariant.none
          (not_spare lines place line at new (omega (arith, few, size, ap length planted))));
    }

pub returns-then-is_some-clause-refused : goal.returns-then-is_some-clause-refused
returns-then-is_some-clause-refused c =
    let lines = c.args.lines.now in
    let line = c.index-lines-place.result in
    let place : ℕ = c.loop-place.place in
    let path : List ℕ = string_bytes line.path in
    let at : slice_get lines place ≡ Some line = read_at lines place line c.loop-place-test.true
    c.index-lines-place.is in
    let has : HasPath (take place lines) path =
    subst (HasPath (take place lines)) c.deref.ensures
    (was_found c.line_with.result (HasPath (take place lines) c.deref.result.now) c.line_with.ensures (search rules)) in
    let tells : Tells line.number TwiceNamed path c.of_line.result =
    subst (λ (bytes : List ℕ). Tells line.number TwiceNamed bytes c.of_line.result) c.deref-then-is_some.ensures
    c.of_line.ensures in
    twice_told lines place line c.of_line.result at has c.loop-place.invariant.none tells

pub returns-in_err-plant-clause-refused : goal.returns-in_err-plant-clause-refused
returns-in_err-plant-clause-refused c = grind (arith, full_told, read_at)

pub returns-clause-none : goal.returns-clause-none
returns-clause-none c = λ place less. c.loop-place.invariant.none place (omega arith)
