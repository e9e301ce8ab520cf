use Rattle.std.proofs.Common.{◌≡◌, List, map, sym, ◌∙◌, subst, arith}
use Rattle.std.proofs.lemmas.Result.{IfOk-weaker}
use Rattle.grove_tree.specs.Trees.{Rows, IsTree}
use Rattle.grove_access.specs.declared.access.Access.{Access}
use Rattle.grove_access.specs.Lists.{nodes_of, lengths_of, AreNodes}
use Rattle.grove_access.specs.ListFaults.{AreLengths}
use Rattle.grove_access.specs.Forced.{forced_nodes}
use Rattle.grove_access.proofs.Lists.{nodes_length, lengths_length}
use Rattle.grove_span.specs.declared.row.SpanRow.{SpanRow}
use Rattle.grove_span.specs.SpanRows.{node_of_row, HaveParents, HaveAccesses}
use Rattle.grove_build.specs.Networks.{IsSpan}
use Rattle.grove_build.proofs.planning.plan.Goals as goal

-- what `span` answers is the span of the list
span_is : (tree : Rows) (list : List Access) (rows lent : List SpanRow) → IsTree tree → AreNodes tree (nodes_of list)
    → map node_of_row rows ≡ forced_nodes tree (nodes_of list) → HaveParents tree (nodes_of list) rows
    → HaveAccesses (nodes_of list) (lengths_of list) rows → AreLengths (lengths_of list) → lent ≡ rows
    → IsSpan tree (nodes_of list) (lengths_of list) lent
span_is tree list rows lent is_tree are_nodes named parents accesses are_lengths same =
    let P : List SpanRow → Type 0 = λ rows. IsSpan tree (nodes_of list) (lengths_of list) rows in
    subst P (sym same) record {
      is_tree = is_tree;
      are_nodes = are_nodes;
      named = named;
      parents = parents;
      accesses = accesses;
      are_lengths = are_lengths;
      paired = lengths_length list ∙ sym (nodes_length list);
    }

pub plan_rows-requires-clause-span : goal.plan_rows-requires-clause-span
plan_rows-requires-clause-span c = grind (arith, span_is)

pub plan_rows-requires-clause-weights : goal.plan_rows-requires-clause-weights
plan_rows-requires-clause-weights c = rw c.deref.ensures.value c.in_ok-rows.ensures.weights

pub returns : goal.returns
returns c = grind (arith, IfOk-weaker)
