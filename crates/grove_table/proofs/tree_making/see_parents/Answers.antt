use Rattle.std.proofs.Common.{◌≡◌, ◌∙◌, List, ℕ, Some, add-one, ap, rules, slice_get, string_bytes, subst}
use Rattle.grove_base.proofs.Lists.{read_at}
use Rattle.grove_table.specs.declared.fault.Reason.TheVariants.{NoParent}
use Rattle.grove_table.specs.Refusals.{HasPath, IsOrphan, parent_path}
use Rattle.grove_table.specs.Rows.{Tells}
use Rattle.grove_table.proofs.SpareLines.{none_more, not_orphan, orphan_told, was_found, was_not_found}
use Rattle.grove_table.proofs.tree_making.see_parents.Goals as goal

pub loop-place-preserved : goal.loop-place-preserved
loop-place-preserved c =
    let lines = c.args.lines.now in
    let line = c.index-lines-place.result in
    let place : ℕ = c.loop-place.place in
    let at : slice_get lines place ≡ Some line = read_at lines place line c.loop-place-test.true
    c.index-lines-place.is in
    let parent : c.parent_path-parent.result.now ≡ parent_path (string_bytes line.path) =
    c.parent_path-parent.ensures ∙ ap parent_path c.deref.ensures in
    let has : HasPath lines (parent_path (string_bytes line.path)) =
    subst (HasPath lines) parent
    (was_found c.line_with.result (HasPath lines c.parent_path-parent.result.now) c.line_with.ensures (search rules)) in
    rw add-one (none_more (IsOrphan lines) place c.loop-place.invariant (not_orphan lines place line at has))

pub returns-then-is_none : goal.returns-then-is_none
returns-then-is_none c =
    let lines = c.args.lines.now in
    let line = c.index-lines-place.result in
    let place : ℕ = c.loop-place.place in
    let at : slice_get lines place ≡ Some line = read_at lines place line c.loop-place-test.true
    c.index-lines-place.is in
    let parent : c.parent_path-parent.result.now ≡ parent_path (string_bytes line.path) =
    c.parent_path-parent.ensures ∙ ap parent_path c.deref.ensures in
    let without : HasPath lines (parent_path (string_bytes line.path)) → ⊥ =
    subst (λ (bytes : List ℕ). HasPath lines bytes → ⊥) parent
    (was_not_found c.line_with.result (HasPath lines c.parent_path-parent.result.now) c.line_with.ensures
    (search rules)) in
    let tells : Tells line.number NoParent (parent_path (string_bytes line.path)) c.of_line.result =
    subst (λ (bytes : List ℕ). Tells line.number NoParent bytes c.of_line.result) parent c.of_line.ensures in
    orphan_told lines place line c.of_line.result at without c.loop-place.invariant tells
