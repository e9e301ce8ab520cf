-- The marks are right after the ways of the accesses, and before them where there are none.
use Rattle.std.proofs.Common.{◌≡◌, false, length, List, Bool, sym, ◌∙◌, ap, subst, arith}
use Rattle.std.proofs.Math.ListN.{replicate}
use Rattle.std.proofs.lemmas.List.{length-replicate, with_items_is}
use Rattle.grove_access.specs.Lists.{nodes_of}
use Rattle.grove_access.proofs.Lists.{nodes_length}
use Rattle.grove_proof.specs.Tables.{MarksForced}
use Rattle.grove_proof.proofs.ForcedMarks.{marks_forced, none_marked, none_forced}
use Rattle.grove_proof.proofs.span.forced_marks.Goals as goal
use Rattle.grove_proof.proofs.span.forced_marks.Goals.{then-len-gt0, else-len-gt0}

pub returns : goal.returns
returns c =
    let first : c.in_ok-marks.marks.items ≡ replicate c.len.result false = c.in_ok-marks.ensures.items_if_clones_equal (λ y is. is) in
    let size : length c.in_ok-marks.marks.items ≡ length c.args.tree.now = ap length first ∙ (length-replicate c.len.result false ∙ c.len.ensures.number) in
    elim c.if-len-gt0.branch [
      | then-len-gt0 w ↦
          let whole : length w.mark_ways.new.marks ≡ length c.in_ok-marks.marks.items = w.mark_ways.auto.marks ∙ ap length w.deref_mut.ensures.value in
          rw w.marks-is (subst (λ (items : List Bool). MarksForced c.args.tree.now (nodes_of c.args.list.now) items) (sym (with_items_is c.in_ok-marks.marks w.mark_ways.new.marks (w.mark_ways.auto.marks ∙ w.deref_mut.ensures.len)))
          (marks_forced c.args.tree.now (nodes_of c.args.list.now) w.mark_ways.new.marks c.requires.tree c.requires.fits (whole ∙ size) w.mark_ways.ensures.sound w.mark_ways.ensures.complete))
      | else-len-gt0 w ↦ rw w.marks-is
          (marks_forced c.args.tree.now (nodes_of c.args.list.now) c.in_ok-marks.marks.items c.requires.tree c.requires.fits size
          (λ v is. absurd (none_marked c.len.result v (rw first at is)))
          (λ v is. absurd (none_forced c.args.tree.now (nodes_of c.args.list.now) v (nodes_length c.args.list.now ∙ omega arith) is)))
    ]
