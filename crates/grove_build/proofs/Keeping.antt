-- What is kept in a map: where it stands, and what a pair more leaves of it.
use Rattle.std.proofs.Common.{◌≡◌, ℕ, ◌<◌, ◌⊎◌, inl, inr, Bool, true, List, length, get_or, map, position}
use Rattle.std.proofs.Common.{Option, Some, None, IfSome, IfNone, sym, ◌∙◌, ap, ap₂, subst, arith, true≢false}
use Rattle.std.specs.List.{slice_get, position_or_len}
use Rattle.std.specs.Map.{keys_of}
use Rattle.std.proofs.lemmas.Bool.{cases_lt}
use Rattle.std.proofs.lemmas.Grind.{common_steps}
use Rattle.std.proofs.lemmas.List.Quantifiers.{position-Some}
use Rattle.std.proofs.lemmas.List.Sums.{fails_before_first}
use Rattle.std.proofs.lemmas.Option.{same_Some, slice_get_within, get_or_from_slice_get}
use Rattle.indexmap.specs.IndexMap.{insert_entry}
use Rattle.grove_base.proofs.Lists.{get_map, get_map_inv, map_length, item_there}
use Rattle.grove_tree.specs.Trees.{Rows}
use Rattle.grove_access.specs.declared.access.Access.{Access}
use Rattle.grove_access.specs.Lists.{nodes_of, lengths_of}
use Rattle.grove_build.specs.declared.planning.Planned.{Planned}
use Rattle.grove_build.specs.declared.targets.Target.{Target}
use Rattle.grove_build.specs.Batches.{IsPlanned, HaveSameTargets}
use Rattle.grove_build.specs.KeptPlans.{Kept, IsKeptFor, IsKeptAt, IsKeptIn, AreSettledFor}
use Rattle.grove_build.specs.Keeping.{kept_of, AreTargetsOf, AddsAtMost, StayKept, IsFirstFor, HoldsAt}
use Rattle.grove_build.proofs.Inserted.{HasKey, each_inserted, key_stays, key_inserted}
use Rattle.grove_build.proofs.TargetLists.{as_targets, Targets, targets_in, targets_from, targets_alike}

-- what holds of a list's nodes and lengths holds of those of each list with its targets
for_targets : (list other : List Access) → HaveSameTargets list other → (P : List ℕ → List ℕ → Type 0)
    → P (nodes_of list) (lengths_of list) → P (nodes_of other) (lengths_of other)
for_targets list other same P holds = grind (arith)

-- what is planned for a list serves each list with its targets
pub planned_same : (rows : Rows) (list other : List Access) (planned : Planned) → HaveSameTargets list other
    → IsPlanned rows list planned → IsPlanned rows other planned
planned_same rows list other planned same is = grind (arith, for_targets)

-- and so does what is kept for it
pub kept_same : (plans : List Kept) (list other : List Access) (place : ℕ) → HaveSameTargets list other
    → IsKeptAt plans list place → IsKeptAt plans other place
kept_same plans list other place same (kept, at, for) = grind (arith)

-- what was planned for a list is kept for each list with its targets
pub kept_planned : (rows : Rows) (list : List Access) (targets : List Target) (planned : Planned) → AreTargetsOf list targets → IsPlanned rows list planned
    → (other : List Access) → IsKeptFor other (kept_of targets planned) → IsPlanned rows other planned
kept_planned rows list targets planned own is other for = grind (arith, planned_same)

-- settled plans, with one more
pub settled_added : (rows : Rows) (before after : List Kept) (new : Kept) → AreSettledFor rows before → AddsAtMost before new after
    → ((list : List Access) → IsKeptFor list new → IsPlanned rows list new.planned) → AreSettledFor rows after
settled_added rows before after new settled adds own place kept at list for =
    elim (adds place kept at) [
      | inl same ↦ subst (λ (k : Kept). IsPlanned rows list k.planned) (sym same) (own list (subst (IsKeptFor list) same for))
      | inr there ↦ settled there.0 kept there.1 list for
    ]

-- the list whose plan stands at a place has what is kept there
pub planned_at_place : (rows : Rows) (plans : List Kept) (list : List Access) (place : ℕ) (planned : Planned)
    → AreSettledFor rows plans → IsKeptAt plans list place → HoldsAt plans place planned → IsPlanned rows list planned
planned_at_place rows plans list place planned settled stands found =
    let (kept, at, for) = stands in
    let (own, there, same) = found in
    let alike : kept ≡ own = same_Some kept own (sym at ∙ there) in
    subst (IsPlanned rows list) (ap (λ (k : Kept). k.planned) alike ∙ same) (settled place kept at list for)

module _ {K : Type 0} (items : K → List Target) where
  -- what an entry of the map keeps
  abbrev pub kept_at : K × Planned → Kept
  kept_at entry = kept_of (items entry.0) entry.1

  abbrev pub kept_in : List (K × Planned) → List Kept
  kept_in entries = map kept_at entries

  abbrev targets_by : K → Targets
  targets_by key = targets_from (items key)

  -- what is kept for a list stands at a key with its targets
  kept_key : (entries : List (K × Planned)) (list : List Access) (place : ℕ) → IsKeptAt (kept_in entries) list place
      → HasKey targets_by entries (targets_in list) place
  kept_key entries list place (kept, at, for) =
      let (entry, there, made) = get_map_inv kept_at entries place kept at in
      let nodes = ap (λ (k : Kept). k.nodes) made ∙ for.nodes in
      let lengths = ap (λ (k : Kept). k.lengths) made ∙ for.lengths in
      (entry, there, ap₂ as_targets nodes lengths)

  key_kept : (entries : List (K × Planned)) (list : List Access) (place : ℕ)
      → HasKey targets_by entries (targets_in list) place → IsKeptAt (kept_in entries) list place
  key_kept entries list place (entry, there, wanted) =
      let for : IsKeptFor list (kept_at entry) =
      record { nodes = ap (λ (t : Targets). t.0) wanted; lengths = ap (λ (t : Targets). t.1) wanted } in
      (kept_at entry, get_map kept_at entries place entry there, for)

  module _ (eq : K → K → Bool) (same : (a b : K) → eq a b ≡ true → items a ≡ items b) (key : K) where
    module _ (compare : (b : K) → items key ≡ items b → eq key b ≡ true) where
      -- the test for a key passes wherever something is kept for a list with its targets
      passes : (entries : List (K × Planned)) (list : List Access) (place : ℕ) → AreTargetsOf list (items key)
          → IsKeptAt (kept_in entries) list place
          → (place < length (keys_of entries)) × (eq key (get_or (keys_of entries) place key) ≡ true)
      passes entries list place own stands =
          let (entry, there, wanted) = kept_key entries list place stands in
          let key_there : slice_get (keys_of entries) place ≡ Some entry.0 =
          get_map (λ (e : K × Planned). e.0) entries place entry there in
          grind (arith, Targets, get_or_from_slice_get, slice_get_within, targets_alike)

      -- the index of a key is the first place for the lists with the key's targets
      pub found_first : (entries : List (K × Planned)) (r : Option ℕ) → r ≡ position (eq key) (keys_of entries)
          → IfSome r (λ place. (list : List Access) → AreTargetsOf list (items key)
          → IsFirstFor (kept_in entries) list place)
      found_first entries None is = tt
      found_first entries (Some place) is =
          λ list own.
          let (within, here, before) = position-Some (eq key) (keys_of entries) place key (sym is) in
          let long : length (keys_of entries) ≡ length entries = map_length (λ (e : K × Planned). e.0) entries in
          let (entry, at) = item_there entries place (omega arith) in
          let read : get_or (keys_of entries) place key ≡ entry.0 =
          get_or_from_slice_get (keys_of entries) place entry.0 key
          (get_map (λ (e : K × Planned). e.0) entries place entry at) in
          let alike : items key ≡ items entry.0 = same key entry.0 (subst (λ (k : K). eq key k ≡ true) read here) in
          record {
            stands = key_kept entries list place
                (entry, at, ap targets_from (sym alike) ∙ ap₂ as_targets own.nodes own.lengths);
            first = λ other stands.
                elim (cases_lt other place) [
                  | inl less ↦ absurd (true≢false (sym (passes entries list other own stands).1 ∙ before other less))
                  | inr more ↦ more
                ];
          }

      -- where a key has no index, nothing is kept for the lists with its targets
      pub none_stands : (entries : List (K × Planned)) (r : Option ℕ) → r ≡ position (eq key) (keys_of entries)
          → IfNone r ((list : List Access) → AreTargetsOf list (items key) → IsKeptIn (kept_in entries) list → ⊥)
      none_stands entries (Some place) is = tt
      none_stands entries None is =
          λ list own stands.
          let (within, here) = passes entries list stands.0 own stands.1 in
          grind (arith, common_steps, fails_before_first)

    same_by : (a b : K) → eq a b ≡ true → targets_by a ≡ targets_by b
    same_by a b passes = ap targets_from (same a b passes)

    module _ (planned : Planned) where
      -- a plan that is inserted stands at the index of its key
      pub inserted_stands : (entries : List (K × Planned)) (list : List Access) → AreTargetsOf list (items key)
          → IsKeptAt (kept_in (insert_entry eq entries key planned)) list (position_or_len (eq key) (keys_of entries))
      inserted_stands entries list own =
          key_kept (insert_entry eq entries key planned) list (position_or_len (eq key) (keys_of entries))
          (subst (λ (wanted : Targets). HasKey targets_by (insert_entry eq entries key planned) wanted
          (position_or_len (eq key) (keys_of entries)))
          (ap₂ as_targets own.nodes own.lengths) (key_inserted targets_by eq same_by key planned entries))

      -- for each list for which something stands, something stands there still
      pub inserted_stay : (entries : List (K × Planned))
          → StayKept (kept_in entries) (kept_in (insert_entry eq entries key planned))
      inserted_stay entries list stands = (
        stands.0,
        key_kept (insert_entry eq entries key planned) list stands.0
            (key_stays targets_by eq same_by key planned entries (targets_in list) stands.0
            (kept_key entries list stands.0 stands.1)),
      )

      -- and what stands there then is new, or stood there before
      pub inserted_adds : (entries : List (K × Planned))
          → AddsAtMost (kept_in entries) (kept_of (items key) planned) (kept_in (insert_entry eq entries key planned))
      inserted_adds entries place kept at =
          let (entry, there, made) = get_map_inv kept_at (insert_entry eq entries key planned) place kept at in
          subst IsAdded made (each_inserted items eq same key planned (λ own plan. IsAdded (kept_of (items own) plan))
          (λ own alike. inl (ap (λ (ts : List Target). kept_of ts planned) alike)) entries
          (λ p e a. inr (p, get_map kept_at entries p e a)) place entry there)
        where
          IsAdded : Kept → Type 0
          IsAdded kept = (kept ≡ kept_of (items key) planned)
              ⊎ ((earlier : ℕ) × (slice_get (kept_in entries) earlier ≡ Some kept))
