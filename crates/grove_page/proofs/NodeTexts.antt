-- The text of what is told of nodes.
use Rattle.std.proofs.Common.{◌≡◌, ◌↔◌, ◌+◌, ℕ, ℤ, pos, negsuc, suc, Bool, true, false, List, [], ◌∷◌, ◌++◌, map}
use Rattle.std.proofs.Common.{codes, decimal, IsTrue, refl, sym, ap, ◌∙◌, append_assoc, append-nil, subst, arith, inl}
use Rattle.std.proofs.Common.{inr}
use Rattle.std.proofs.Common.{◌<◌, length, Some, option_map, slice_get, get_or}
use Rattle.std.proofs.Math.Bool.{or-true}
use Rattle.std.proofs.lemmas.Bool.{cases_Bool}
use Rattle.std.proofs.lemmas.Option.{slice_get-map, slice_get-get_or, same_Some}
use Rattle.std.proofs.lemmas.List.{length-map, map-append}
use Rattle.std.specs.Prelude.{slice_index, ◌||◌}
use Rattle.std.specs.Fmt.{signed_decimal}
use Rattle.json.specs.Token.{Token, string}
use Rattle.json.specs.Print.{escape_byte, quoted, print, print_from}
use Rattle.serde_json.specs.Data.{object, member, no_members}
use Rattle.serde_json.specs.View.{items_of}
use Rattle.serde_json.specs.Written.{compact_text, items_text, comma_if, number_text}
use Rattle.serde_json.specs.Find.{of_integer}
use Rattle.grove_base.specs.Numbers.{numbers_below, passing_below, alone}
use Rattle.grove_base.proofs.Counting.{numbers_length, numbers_get}
use Rattle.grove_tree.specs.Trees.{Rows, IsTree, IsAbove, is_above, weight_of}
use Rattle.grove_tree.specs.Paths.{path_of}
use Rattle.grove_tree.proofs.Tests.{is_above_true, is_above_from}
use Rattle.grove_access.specs.Effects.{record_at}
use Rattle.grove_wire.specs.Writing.{array_of, count_data}
use Rattle.grove_wire.specs.Documents.{node_data}
use Rattle.grove_page.specs.declared.nodes.Part.TheVariants.{Below}
use Rattle.grove_page.specs.NodeLines.{is_told}
use Rattle.grove_page.specs.NodeTexts.{entry_start, entry_end, entries_text, has_some, AreStarts}

-- nodes more, after others that have a comma before the first
later_more : (rows : Rows) (records : List ℤ) (waits nodes more : List ℕ)
    → entries_text rows records waits true (nodes ++ more) ≡ entries_text rows records waits true nodes
    ++ entries_text rows records waits true more
later_more rows records waits [] more = refl
later_more rows records waits (node ∷ nodes) more =
    let entry = compact_text (node_data rows records waits node) in
    let told = entries_text rows records waits true nodes in
    let others = entries_text rows records waits true more in
    ap (λ (text : List ℕ). 44 ∷ (entry ++ text)) (later_more rows records waits nodes more)
    ∙ ap (λ (text : List ℕ). 44 ∷ text) (sym (append_assoc entry told others))

-- nodes more
entries_more : (rows : Rows) (records : List ℤ) (waits nodes more : List ℕ)
    → entries_text rows records waits false (nodes ++ more) ≡ entries_text rows records waits false nodes
    ++ entries_text rows records waits (has_some nodes) more
entries_more rows records waits [] more = refl
entries_more rows records waits (node ∷ nodes) more =
    let entry = compact_text (node_data rows records waits node) in
    let told = entries_text rows records waits true nodes in
    let others = entries_text rows records waits true more in
    ap (λ (text : List ℕ). entry ++ text) (later_more rows records waits nodes more)
    ∙ sym (append_assoc entry told others)

some_more : (nodes : List ℕ) (told : Bool) (node : ℕ) → has_some (nodes ++ alone told node) ≡ (has_some nodes || told)
some_more [] true node = refl
some_more [] false node = refl
some_more (first ∷ nodes) told node = refl

-- the next node is told of
pub one_told : (rows : Rows) (records : List ℤ) (waits : List ℕ) (test : ℕ → Bool) (node next : ℕ) (later : Bool)
    (old before parted after : List ℕ)
    → next ≡ node → test next ≡ true → later ≡ has_some (passing_below node test)
    → before ≡ old ++ entries_text rows records waits false (passing_below node test)
    → parted ≡ before ++ comma_if later → after ≡ parted ++ compact_text (node_data rows records waits next)
    → (after ≡ old ++ entries_text rows records waits false (passing_below (node + 1) test))
    × (true ≡ has_some (passing_below (node + 1) test))
one_told rows records waits test node next later old before parted after same told has is comma more =
    let step : suc node ≡ node + 1 = omega arith in
    let nodes = passing_below node test in
    let here : test node ≡ true = rw same at told in
    let entry = compact_text (node_data rows records waits node) in
    let said = entries_text rows records waits false nodes in
    let longer : entries_text rows records waits false (nodes ++ alone (test node) node) ≡ said
    ++ (comma_if (has_some nodes) ++ (entry ++ [])) =
    ap (λ (b : Bool). entries_text rows records waits false (nodes ++ alone b node)) here
    ∙ entries_more rows records waits nodes (node ∷ []) in
    let texts : after ≡ old ++ entries_text rows records waits false (nodes ++ alone (test node) node) =
    more ∙ ap (λ (text : List ℕ). text ++ compact_text (node_data rows records waits next)) comma
    ∙ append_assoc before (comma_if later) (compact_text (node_data rows records waits next))
    ∙ ap (λ (n : ℕ). before ++ (comma_if later ++ compact_text (node_data rows records waits n))) same
    ∙ ap (λ (b : Bool). before ++ (comma_if b ++ entry)) has
    ∙ ap (λ (text : List ℕ). text ++ (comma_if (has_some nodes) ++ entry)) is
    ∙ append_assoc old said (comma_if (has_some nodes) ++ entry)
    ∙ ap (λ (text : List ℕ). old ++ (said ++ (comma_if (has_some nodes) ++ text))) (sym (append-nil entry))
    ∙ ap (λ (text : List ℕ). old ++ text) (sym longer) in
    let some : true ≡ has_some (nodes ++ alone (test node) node) =
    sym (some_more nodes (test node) node ∙ ap (λ (b : Bool). has_some nodes || b) here ∙ or-true (has_some nodes)) in (
      subst (λ (n : ℕ). after ≡ old ++ entries_text rows records waits false (passing_below n test)) step texts,
      subst (λ (n : ℕ). true ≡ has_some (passing_below n test)) step some,
    )

-- or isn't
pub none_told : (rows : Rows) (records : List ℤ) (waits : List ℕ) (test : ℕ → Bool) (node next : ℕ) (later : Bool)
    (old before : List ℕ)
    → next ≡ node → test next ≡ false → later ≡ has_some (passing_below node test)
    → before ≡ old ++ entries_text rows records waits false (passing_below node test)
    → (before ≡ old ++ entries_text rows records waits false (passing_below (node + 1) test))
    × (later ≡ has_some (passing_below (node + 1) test))
none_told rows records waits test node next later old before same told has is =
    let step : suc node ≡ node + 1 = omega arith in
    let here : test node ≡ false = rw same at told in
    let as_before : passing_below node test ≡ passing_below (node + 1) test =
    sym (ap (λ (b : Bool). passing_below node test ++ alone b node) here ∙ append-nil (passing_below node test))
    ∙ ap (λ (n : ℕ). passing_below n test) step in (
      is ∙ ap (λ (nodes : List ℕ). old ++ entries_text rows records waits false nodes) as_before,
      has ∙ ap has_some as_before,
    )

-- the items of an array, and what closes it
items_are : (rows : Rows) (records : List ℤ) (waits : List ℕ) (later : Bool) (nodes : List ℕ)
    → items_text later (items_of (map (node_data rows records waits) nodes)) ≡ entries_text rows records waits later
    nodes ++ 93 ∷ []
items_are rows records waits later [] = refl
items_are rows records waits later (node ∷ nodes) =
    let entry = compact_text (node_data rows records waits node) in
    let told = entries_text rows records waits true nodes in
    ap (λ (text : List ℕ). comma_if later ++ (entry ++ text)) (items_are rows records waits true nodes)
    ∙ ap (λ (text : List ℕ). comma_if later ++ text) (sym (append_assoc entry told (93 ∷ [])))
    ∙ sym (append_assoc (comma_if later) (entry ++ told) (93 ∷ []))

-- the whole text
pub whole_text : (rows : Rows) (records : List ℤ) (waits nodes : List ℕ) (round : ℕ)
    → compact_text (object
    (member (codes "nodes") (array_of (node_data rows records waits) nodes)
    (member (codes "round") (count_data round) no_members))) ++ 10 ∷ []
    ≡ codes "{\"nodes\":["
    ++ (entries_text rows records waits false nodes ++ (codes "],\"round\":" ++ (decimal round ++ codes "}\n")))
unfolding escape_byte
whole_text rows records waits nodes round =
    let told = entries_text rows records waits false nodes in
    let count = decimal round in
    ap (λ (text : List ℕ). codes "{\"nodes\":[" ++ (text ++ (codes ",\"round\":" ++ (count ++ codes "}"))) ++ 10 ∷ [])
    (items_are rows records waits false nodes)
    ∙ ap (λ (text : List ℕ). codes "{\"nodes\":[" ++ text ++ 10 ∷ [])
    (append_assoc told (93 ∷ []) (codes ",\"round\":" ++ (count ++ codes "}")))
    ∙ ap (λ (text : List ℕ). codes "{\"nodes\":[" ++ text)
    (append_assoc told (codes "],\"round\":" ++ (count ++ codes "}")) (10 ∷ []))
    ∙ ap (λ (text : List ℕ). codes "{\"nodes\":[" ++ (told ++ (codes "],\"round\":" ++ text)))
    (append_assoc count (codes "}") (10 ∷ []))

-- what was written in five parts
pub all_written : (none begun told more counted whole opening nodes between count ending : List ℕ) → none ≡ []
    → begun ≡ none ++ opening → told ≡ begun ++ nodes → more ≡ told ++ between → counted ≡ more ++ count
    → whole ≡ counted ++ ending
    → whole ≡ opening ++ (nodes ++ (between ++ (count ++ ending)))
all_written none begun told more counted whole opening nodes between count ending is_none is_begun is_told is_more
    is_counted is_whole =
    is_whole ∙ ap (λ (text : List ℕ). text ++ ending)
    (is_counted ∙ ap (λ (text : List ℕ). text ++ count) (is_more ∙ ap (λ (text : List ℕ). text ++ between)
    (is_told ∙ ap (λ (text : List ℕ). text ++ nodes) (is_begun ∙ ap (λ (text : List ℕ). text ++ opening) is_none))))
    ∙ append_assoc (opening ++ nodes ++ between) count ending
    ∙ append_assoc (opening ++ nodes) between (count ++ ending)
    ∙ append_assoc opening nodes (between ++ (count ++ ending))

-- the digits of a whole number
text_of_integer : (n : ℤ) → number_text (of_integer n) ≡ signed_decimal n
text_of_integer (pos n) = refl
text_of_integer (negsuc n) = refl

-- an entry in its two parts
pub entry_parts : (rows : Rows) (records : List ℤ) (waits : List ℕ) (node : ℕ)
    → compact_text (node_data rows records waits node)
    ≡ entry_start rows node ++ entry_end (record_at records node) (slice_index waits node) (weight_of rows node)
unfolding escape_byte
entry_parts rows records waits node =
    let rest = entry_end (record_at records node) (slice_index waits node) (weight_of rows node) in
    ap (λ (digits : List ℕ). codes "{\"path\":" ++ (quoted (path_of rows node) ++ (codes ",\"record\":" ++ (digits
    ++ (codes ",\"waits\":"
    ++ (decimal (slice_index waits node)
    ++ (codes ",\"weight\":" ++ (decimal (weight_of rows node) ++ 125 ∷ []))))))))
    (text_of_integer (record_at records node))
    ∙ ap (λ (text : List ℕ). codes "{\"path\":" ++ text)
    (sym (append_assoc (quoted (path_of rows node)) (codes ",\"record\":") rest))

-- an entry that was written in its two parts
pub entry_written : (rows : Rows) (records : List ℤ) (waits : List ℕ) (node : ℕ) (old started new : List ℕ) (value : ℤ)
    (waited weight : ℕ)
    → started ≡ old ++ entry_start rows node → new ≡ started ++ entry_end value waited weight
    → value ≡ record_at records node → waited ≡ slice_index waits node → weight ≡ weight_of rows node
    → new ≡ old ++ compact_text (node_data rows records waits node)
entry_written rows records waits node old started new value waited weight starts ends is_value is_waited is_weight =
    ends ∙ ap (λ (text : List ℕ). text ++ entry_end value waited weight) starts
    ∙ append_assoc old (entry_start rows node) (entry_end value waited weight)
    ∙ ap (λ (text : List ℕ). old ++ text)
    (ap (λ (n : ℤ). entry_start rows node ++ entry_end n waited weight) is_value
    ∙ ap (λ (n : ℕ). entry_start rows node ++ entry_end (record_at records node) n weight) is_waited
    ∙ ap (λ (n : ℕ). entry_start rows node ++ entry_end (record_at records node) (slice_index waits node) n) is_weight
    ∙ sym (entry_parts rows records waits node))

-- a string alone
text_of_string : (text : List ℕ) → print (string text ∷ []) ≡ quoted text
unfolding print_from
text_of_string text = append-nil (quoted text)

-- what a node's entry begins with, written in three parts
pub start_written : (path before items whole : List ℕ) (none tokens : List Token)
    → before ≡ codes "{\"path\":" → none ≡ []
    → tokens ≡ none ++ string path ∷ [] → items ≡ before ++ print tokens → whole ≡ items ++ codes ",\"record\":"
    → whole ≡ codes "{\"path\":" ++ (quoted path ++ codes ",\"record\":")
start_written path before items whole none tokens is_before is_none is_tokens is_items is_whole =
    is_whole ∙ ap (λ (text : List ℕ). text ++ codes ",\"record\":")
    (is_items ∙ ap (λ (text : List ℕ). text ++ print tokens) is_before
    ∙ ap (λ (ts : List Token). codes "{\"path\":" ++ print ts)
    (is_tokens ∙ ap (λ (ts : List Token). ts ++ string path ∷ []) is_none)
    ∙ ap (λ (text : List ℕ). codes "{\"path\":" ++ text) (text_of_string path))
    ∙ append_assoc (codes "{\"path\":") (quoted path) (codes ",\"record\":")

-- as many entries begin as there are nodes
pub starts_many : {T : Type 0} (text : T → List ℕ) (starts : List T) (rows : Rows) (count : ℕ)
    → AreStarts rows count (map text starts) → length starts ≡ count
starts_many text starts rows count are =
    sym (length-map starts text) ∙ ap length are ∙ length-map (numbers_below count) (entry_start rows)
    ∙ numbers_length count

-- each at its node's number
pub start_at : {T : Type 0} (text : T → List ℕ) (starts : List T) (rows : Rows) (count node : ℕ) (start : T)
    → AreStarts rows count (map text starts)
    → node < count → start ≡ get_or starts node start → text start ≡ entry_start rows node
start_at text starts rows count node start are few is =
    let many : length starts ≡ count = starts_many text starts rows count are in
    let there : slice_get (map text starts) node ≡ Some (text (get_or starts node start)) =
    slice_get-map text starts node ∙ ap (option_map text) (slice_get-get_or starts node start (omega arith)) in
    let own : slice_get (map (entry_start rows) (numbers_below count)) node ≡ Some (entry_start rows node) =
    slice_get-map (entry_start rows) (numbers_below count) node
    ∙ ap (option_map (entry_start rows)) (numbers_get count node few) in
    ap text is ∙ same_Some _ _ (sym there ∙ ap (λ (texts : List (List ℕ)). slice_get texts node) are ∙ own)

-- one more
pub starts_more : {T : Type 0} (text : T → List ℕ) (before after : List T) (rows : Rows) (node next : ℕ) (start : T)
    → next ≡ node
    → text start ≡ entry_start rows next → AreStarts rows node (map text before) → after ≡ before ++ start ∷ []
    → AreStarts rows (node + 1) (map text after)
starts_more text before after rows node next start same is are more =
    let step : suc node ≡ node + 1 = omega arith in
    ap (map text) more ∙ map-append text before (start ∷ [])
    ∙ ap (λ (texts : List (List ℕ)). texts ++ text start ∷ []) are
    ∙ ap (λ (bytes : List ℕ). map (entry_start rows) (numbers_below node) ++ bytes ∷ [])
    (is ∙ ap (entry_start rows) same)
    ∙ sym (map-append (entry_start rows) (numbers_below node) (node ∷ []))
    ∙ ap (λ (n : ℕ). map (entry_start rows) (numbers_below n)) step

-- the tree's own answer is the test
pub told_is : (rows : Rows) (top node : ℕ) (answer : Bool) → IsTree rows → (IsTrue answer ↔ IsAbove rows top node)
    → answer ≡ is_told rows (Below top) node
told_is rows top node true tree says = sym (is_above_from rows top node tree (says.0 refl))
told_is rows top node false tree says = elim (cases_Bool (is_above rows top node)) [
  | inl it_is ↦ (let wrong = says.1 (is_above_true rows top node it_is) in cc)
  | inr it_isnt ↦ sym it_isnt
]
