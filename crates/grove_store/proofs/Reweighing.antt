-- Weights that learn from waits keep a store a store.
use Rattle.std.proofs.Common.{◌≡◌, ℕ, ◌≤◌, List, [], ◌∷◌, length, replicate, sym, ◌∙◌, ap, arith}
use Rattle.std.specs.Prelude.{slice_index}
use Rattle.std.proofs.lemmas.List.{length-replicate}
use Rattle.std.proofs.lemmas.List.Elements.{All-replicate}
use Rattle.grove_tree.specs.Trees.{Rows}
use Rattle.grove_tree.specs.Weights.{with_weights}
use Rattle.grove_tree.proofs.SameTree.{alike_weighed, tree_alike, limits_weighed}
use Rattle.grove_meter.specs.Waits.{new_weight_of, reweighed}
use Rattle.serde_json.specs.Written.{compact_text}
use Rattle.grove_wire.specs.Replies.{changed_data}
use Rattle.grove_store.specs.StoreStates.{StoreState, IsStore, changes, reweighed_store}
use Rattle.grove_store.specs.Parts.{AnswersReweigh}

-- a new weight is one
new_weight_fits : (weight waits : ℕ) → (1 ≤ new_weight_of weight waits) × (new_weight_of weight waits ≤ 1000)
new_weight_fits weight waits = (omega arith, omega arith)

-- the store whose weights have learned is a store
pub reweighed_keeps : (store : StoreState) → IsStore store → IsStore (reweighed_store store)
reweighed_keeps store is =
    let weight = λ (node old : ℕ). new_weight_of old (slice_index store.waits node) in
    let alike = alike_weighed weight store.rows in
    let long : length (reweighed store.waits store.rows) ≡ length store.rows = alike.long in
    record {
      tree = tree_alike store.rows (with_weights weight store.rows) alike is.tree;
      limits = limits_weighed weight store.rows (λ node lt. new_weight_fits _ _) is.limits;
      recorded = is.recorded ∙ sym long;
      waited = length-replicate (length store.rows) 0 ∙ sym long;
      few = All-replicate (λ waits. waits ≤ 1000) (length store.rows) 0 (omega arith);
      some_workers = is.some_workers;
      few_workers = is.few_workers;
      counted = is.counted;
    }

-- the same, of the parts as they are found
pub reweighed_is : (store : StoreState) (rows : Rows) (waits : List ℕ) → IsStore store → rows ≡ reweighed store.waits store.rows → waits ≡ replicate (length store.rows) 0
    → IsStore (record store { rows = rows; waits = waits })
reweighed_is store rows waits is learned anew = rw (learned, anew) (reweighed_keeps store is)

-- and what is answered of them
pub reweigh_answers : (before : StoreState) (old learned : Rows) (used anew text : List ℕ) (changed : ℕ) (replies : List (List ℕ)) → old ≡ before.rows → used ≡ before.waits → learned ≡ reweighed used old
    → changed ≡ changes old learned → anew ≡ replicate (length before.rows) 0 → text ≡ compact_text (changed_data changed) → replies ≡ text ∷ []
    → AnswersReweigh before replies (record before { rows = learned; waits = anew })
reweigh_answers before old learned used anew text changed replies is were learns count begins told one =
    let rows : learned ≡ reweighed before.waits before.rows = learns ∙ ap (λ (ws : List ℕ). reweighed ws old) were ∙ ap (λ (rs : Rows). reweighed before.waits rs) is in
    let number : changed ≡ changes before.rows (reweighed before.waits before.rows) =
    count ∙ ap (λ (rs : Rows). changes rs learned) is ∙ ap (λ (rs : Rows). changes before.rows rs) rows in (
      one ∙ ap (λ (t : List ℕ). t ∷ []) (told ∙ ap (λ (n : ℕ). compact_text (changed_data n)) number),
      ap (λ (rs : Rows). record before { rows = rs; waits = anew }) rows
          ∙ ap (λ (ws : List ℕ). record before { rows = reweighed before.waits before.rows; waits = ws }) begins,
    )
