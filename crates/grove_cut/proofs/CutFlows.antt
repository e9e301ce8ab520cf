-- A flow certifies a cost over a cut of a tree exactly where it does so over the whole tree: the forced nodes are the same, and so is each row's test.
use Rattle.std.proofs.Common.{◌≡◌, ℕ, zero, suc, ◌+◌, ◌<◌, Bool, ◌&&◌, ◌||◌, cond, eqb, List, [], ◌∷◌, length, map}
use Rattle.std.proofs.Common.{Option, Some, None, refl, sym, ◌∙◌, ap, ap₂, subst, ◌↔◌, arith}
use Rattle.std.specs.List.{slice_get}
use Rattle.std.specs.Option.{option_map}
use Rattle.grove_base.specs.Numbers.{any_below, least_below, last_below}
use Rattle.grove_base.proofs.Lists.{get_map, get_map_inv, map_length}
use Rattle.grove_tree.specs.Trees.{Rows, parent_of, is_at, IsAbove, IsTree}
use Rattle.grove_access.specs.Lists.{AreNodes}
use Rattle.grove_access.specs.Forced.{IsCommon, IsForcedByTree, names_at, is_accessed, first_access, last_end}
use Rattle.grove_plan.specs.Plans.{IsForced}
use Rattle.grove_proof.specs.declared.flow.FlowRow.{FlowRow}
use Rattle.grove_proof.specs.Forced.{IsForcedList}
use Rattle.grove_proof.specs.Flows.{node_of, is_child, child_sum, is_parent_at, has_parent, is_sign_ok, is_small, is_lock_balanced, is_release_balanced, AllRows, gains, losses, Balances, IsCertificate}
use Rattle.grove_proof.proofs.Sums.{sums_map, sums_same}
use Rattle.grove_proof.proofs.ForcedList.{forced_is_by_tree}
use Rattle.grove_cut.specs.CutTrees.{IsCut, row_at_origin, flow_at_origin, CutsKeepCertificates}
use Rattle.grove_cut.proofs.CutPlans.{any_same, same_origin, origin_eqb, origin_less}
use Rattle.grove_cut.proofs.CutTrees.{above_at_origin, above_cut, cut_is_tree}

-- the least number, and the last one, that passes tests that agree
pub least_alike : (n : ℕ) (f g : ℕ → Bool) → ((k : ℕ) → f k ≡ g k) → least_below n f ≡ least_below n g
least_alike zero f g h = refl
least_alike (suc n) f g h = ap₂ (λ (b : Bool) (k : ℕ). cond b k n) (any_same n f g h) (least_alike n f g h)

last_alike : (n : ℕ) (f g : ℕ → Bool) → ((k : ℕ) → f k ≡ g k) → last_below n f ≡ last_below n g
last_alike zero f g h = refl
last_alike (suc n) f g h = ap₂ (λ (b : Bool) (k : ℕ). cond b (suc n) k) (h n) (last_alike n f g h)

-- an item of a mapped list, there or not
get_mapped : {A B : Type 0} (f : A → B) (xs : List A) (i : ℕ) → slice_get (map f xs) i ≡ option_map f (slice_get xs i)
get_mapped f [] i = refl
get_mapped f (x ∷ xs) zero = refl
get_mapped f (x ∷ xs) (suc i) = get_mapped f xs i

-- the nodes of a flow at the origins
nodes_mapped : (origin : ℕ → ℕ) (flow : List FlowRow) → map node_of (flow_at_origin origin flow) ≡ map origin (map node_of flow)
nodes_mapped origin [] = refl
nodes_mapped origin (row ∷ flow) = ap (λ (l : List ℕ). origin row.node ∷ l) (nodes_mapped origin flow)

module _ (whole cut : Rows) (origin : ℕ → ℕ) (is : IsCut whole cut origin) where
  pub is_at_origin : (v : ℕ) (o : Option ℕ) → is_at (origin v) (option_map origin o) ≡ is_at v o
  is_at_origin v None = refl
  is_at_origin v (Some w) = origin_eqb origin is.rises w v

  module _ (nodes : List ℕ) where
    abbrev moved : List ℕ
    moved = map origin nodes

    common_at_origin : (c : ℕ) → IsCommon cut nodes c → IsCommon whole moved (origin c)
    common_at_origin c common access u h =
        let (t, there, same) = get_map_inv origin nodes access u h in
        subst (λ (n : ℕ). IsAbove whole (origin c) n) same (above_at_origin whole cut origin is c t (common access t there))

    -- what is above all of the accessed nodes' origins, of which there are some, is an origin of such a node
    common_cut : (u access target : ℕ) → slice_get nodes access ≡ Some target → IsCommon whole moved u → (c : ℕ) × IsCommon cut nodes c × (origin c ≡ u)
    common_cut u access target there common =
        let (c, above, same) = above_cut whole cut origin is u target (common access (origin target) (get_map origin nodes access target there)) in (
          c,
          λ a t h.
              let (d, over, also) = above_cut whole cut origin is u t (common a (origin t) (get_map origin nodes a t h)) in
              subst (λ (n : ℕ). IsAbove cut n t) (same_origin origin is.rises d c (also ∙ sym same)) over,
          same,
        )

    -- the origins of forced nodes are forced, and no other nodes
    pub forced_at_origin : (v : ℕ) → IsForcedByTree cut nodes v → IsForcedByTree whole moved (origin v)
    forced_at_origin v forced = record {
      access = forced.access;
      target = origin forced.target;
      names = get_map origin nodes forced.access forced.target forced.names;
      covers = above_at_origin whole cut origin is v forced.target forced.covers;
      below = λ u common.
          let (c, all, same) = common_cut u forced.access forced.target forced.names common in
          subst (λ (n : ℕ). IsAbove whole n (origin v)) same (above_at_origin whole cut origin is c v (forced.below c all));
    }

    pub forced_cut : (u : ℕ) → IsForcedByTree whole moved u → (v : ℕ) × IsForcedByTree cut nodes v × (origin v ≡ u)
    forced_cut u forced =
        let (target, there, is_target) = get_map_inv origin nodes forced.access forced.target forced.names in
        let (v, over, same) = above_cut whole cut origin is u target (subst (λ (n : ℕ). IsAbove whole u n) (sym is_target) forced.covers) in (
          v,
          record {
            access = forced.access;
            target = target;
            names = there;
            covers = over;
            below = λ c common.
                let (d, way, also) = above_cut whole cut origin is (origin c) v
                (subst (λ (n : ℕ). IsAbove whole (origin c) n) (sym same) (forced.below (origin c) (common_at_origin c common))) in
                subst (λ (n : ℕ). IsAbove cut n v) (same_origin origin is.rises d c also) way;
          },
          same,
        )

    pub nodes_at_origin : AreNodes cut nodes → AreNodes whole moved
    nodes_at_origin fits access u h = grind (arith, get_map_inv)

    module _ (tree : IsTree whole) (fits : AreNodes cut nodes) where
      pub locked_at_origin : (v : ℕ) → IsForced cut nodes v → IsForced whole moved (origin v)
      locked_at_origin v forced = (forced_is_by_tree whole moved (origin v) tree (nodes_at_origin fits)).1
          (forced_at_origin v ((forced_is_by_tree cut nodes v (cut_is_tree whole cut origin is tree) fits).0 forced))

      pub locked_cut : (u : ℕ) → IsForced whole moved u → (v : ℕ) × IsForced cut nodes v × (origin v ≡ u)
      locked_cut u forced =
          let (v, by_tree, same) = forced_cut u ((forced_is_by_tree whole moved u tree (nodes_at_origin fits)).0 forced) in
          (v, (forced_is_by_tree cut nodes v (cut_is_tree whole cut origin is tree) fits).1 by_tree, same)

      pub list_at_origin : (list : List ℕ) → IsForcedList cut nodes list → IsForcedList whole moved (map origin list)
      list_at_origin list h = record {
        ascends = λ i j a b lt first later.
            let (v, there, same) = get_map_inv origin list i a first in
            let (w, after, also) = get_map_inv origin list j b later in
            subst (λ (n : ℕ). n < b) same (subst (λ (n : ℕ). origin v < n) also (is.rises v w (h.ascends i j v w lt there after)));
        forced = λ u. (
          λ among.
              let (v, there, same) = get_map_inv origin list among.0 u among.1 in
              subst (λ (n : ℕ). IsForced whole moved n) same (locked_at_origin v ((h.forced v).0 (among.0, there))),
          λ forced.
              let (v, by, same) = locked_cut u forced in
              let among = (h.forced v).1 by in
              (among.0, get_map origin list among.0 v among.1 ∙ ap (λ (n : ℕ). Some n) same),
        );
      }

      list_cut : (list : List ℕ) → IsForcedList whole moved (map origin list) → IsForcedList cut nodes list
      list_cut list h = record {
        ascends = λ i j a b lt first later. origin_less origin is.rises a b
            (h.ascends i j (origin a) (origin b) lt (get_map origin list i a first) (get_map origin list j b later));
        forced = λ v. (
          λ among.
              let (w, by, same) = locked_cut (origin v) ((h.forced (origin v)).0 (among.0, get_map origin list among.0 v among.1)) in
              subst (λ (n : ℕ). IsForced cut nodes n) (same_origin origin is.rises w v same) by,
          λ forced.
              let among = (h.forced (origin v)).1 (locked_at_origin v forced) in
              let (w, there, same) = get_map_inv origin list among.0 (origin v) among.1 in
              (among.0, there ∙ ap (λ (n : ℕ). Some n) (same_origin origin is.rises w v same)),
        );
      }

    -- The accesses of a node

    names_same : (v access : ℕ) → names_at moved (origin v) access ≡ names_at nodes v access
    names_same v access = ap (is_at (origin v)) (get_mapped origin nodes access) ∙ is_at_origin v (slice_get nodes access)

    accessed_same : (v : ℕ) → is_accessed moved (origin v) ≡ is_accessed nodes v
    accessed_same v = ap (λ (n : ℕ). any_below n (names_at moved (origin v))) (map_length origin nodes)
        ∙ any_same (length nodes) (names_at moved (origin v)) (names_at nodes v) (names_same v)

    first_same : (v : ℕ) → first_access moved (origin v) ≡ first_access nodes v
    first_same v = ap (λ (n : ℕ). least_below n (names_at moved (origin v))) (map_length origin nodes)
        ∙ least_alike (length nodes) (names_at moved (origin v)) (names_at nodes v) (names_same v)

    last_same : (v : ℕ) → last_end moved (origin v) ≡ last_end nodes v
    last_same v = ap (λ (n : ℕ). last_below n (names_at moved (origin v))) (map_length origin nodes)
        ∙ last_alike (length nodes) (names_at moved (origin v)) (names_at nodes v) (names_same v)

    -- The tests of a row

    child_same : (child row : FlowRow) → is_child whole (row_at_origin origin child) (row_at_origin origin row) ≡ is_child cut child row
    child_same child row = ap (is_at (origin row.node)) (is.parents child.node) ∙ is_at_origin row.node (parent_of cut child.node)

    parent_same : (child : FlowRow) (o : Option FlowRow) → is_parent_at whole (row_at_origin origin child) (option_map (row_at_origin origin) o) ≡ is_parent_at cut child o
    parent_same child None = refl
    parent_same child (Some row) = child_same child row

    module _ (flow : List FlowRow) where
      abbrev rows : List FlowRow
      rows = flow_at_origin origin flow

      sum_same : (amount : FlowRow → ℕ) → ((row : FlowRow) → amount (row_at_origin origin row) ≡ amount row) → (row : FlowRow)
          → child_sum whole amount rows (row_at_origin origin row) ≡ child_sum cut amount flow row
      sum_same amount same row = grind (arith, child_same, sums_map, sums_same)

      has_same : (row : FlowRow) → has_parent whole rows (row_at_origin origin row) ≡ has_parent cut flow row
      has_same row = grind (arith, any_same, get_mapped, map_length, parent_same)

      signs_same : (row : FlowRow) → is_sign_ok whole moved rows (row_at_origin origin row) ≡ is_sign_ok cut nodes flow row
      signs_same row = ap₂ (λ (a b : Bool). (a || (eqb row.above 0 && eqb row.held 0)) && (b || (eqb row.first 0 && eqb row.last 0)))
          (has_same row) (accessed_same row.node)

      locks_same : (row : FlowRow) → is_lock_balanced whole rows (row_at_origin origin row) ≡ is_lock_balanced cut flow row
      locks_same row = ap₂ (λ (w c : ℕ). eqb (row.above + w) (c + row.held + row.first + row.own)) (is.weights row.node)
          (sum_same (λ child. child.above) (λ child. refl) row)

      releases_same : (row : FlowRow) → is_release_balanced whole rows (row_at_origin origin row) ≡ is_release_balanced cut flow row
      releases_same row = ap₂ (λ (w c : ℕ). eqb (c + row.last + row.own) w) (is.weights row.node) (sum_same (λ child. child.held) (λ child. refl) row)

      all_at_origin : (over under : FlowRow → Bool) → ((row : FlowRow) → over (row_at_origin origin row) ≡ under row) → AllRows under flow → AllRows over rows
      all_at_origin over under same all i r h = grind (arith, get_map_inv)

      all_cut : (over under : FlowRow → Bool) → ((row : FlowRow) → over (row_at_origin origin row) ≡ under row) → AllRows over rows → AllRows under flow
      all_cut over under same all i row h = sym (same row) ∙ all i (row_at_origin origin row) (get_map (row_at_origin origin) flow i row h)

      nodes_same : map node_of rows ≡ map origin (map node_of flow)
      nodes_same = nodes_mapped origin flow

      gains_same : (lengths : List ℕ) → gains moved lengths rows ≡ gains nodes lengths flow
      gains_same lengths = grind (arith, last_same, sums_map, sums_same)

      losses_same : (lengths : List ℕ) → losses moved lengths rows ≡ losses nodes lengths flow
      losses_same lengths = grind (arith, first_same, sums_map, sums_same)

      module _ (tree : IsTree whole) (fits : AreNodes cut nodes) where
        balances_at_origin : Balances cut nodes flow → Balances whole moved rows
        balances_at_origin h = record {
          forced = subst (λ (list : List ℕ). IsForcedList whole moved list) (sym nodes_same) (list_at_origin tree fits (map node_of flow) h.forced);
          signs = all_at_origin (is_sign_ok whole moved rows) (is_sign_ok cut nodes flow) signs_same h.signs;
          locks = all_at_origin (is_lock_balanced whole rows) (is_lock_balanced cut flow) locks_same h.locks;
          releases = all_at_origin (is_release_balanced whole rows) (is_release_balanced cut flow) releases_same h.releases;
        }

        balances_cut : Balances whole moved rows → Balances cut nodes flow
        balances_cut h = record {
          forced = list_cut tree fits (map node_of flow) (subst (λ (list : List ℕ). IsForcedList whole moved list) nodes_same h.forced);
          signs = all_cut (is_sign_ok whole moved rows) (is_sign_ok cut nodes flow) signs_same h.signs;
          locks = all_cut (is_lock_balanced whole rows) (is_lock_balanced cut flow) locks_same h.locks;
          releases = all_cut (is_release_balanced whole rows) (is_release_balanced cut flow) releases_same h.releases;
        }

        both : (lengths : List ℕ) (claim : ℕ) → IsCertificate cut nodes lengths flow claim ↔ IsCertificate whole moved lengths rows claim
        both lengths claim = (
          λ h. record {
            balances = balances_at_origin h.balances;
            small = all_at_origin is_small is_small (λ row. refl) h.small;
            value = gains_same lengths ∙ (h.value ∙ ap (λ (n : ℕ). claim + n) (sym (losses_same lengths)));
          },
          λ h. record {
            balances = balances_cut h.balances;
            small = all_cut is_small is_small (λ row. refl) h.small;
            value = sym (gains_same lengths) ∙ (h.value ∙ ap (λ (n : ℕ). claim + n) (losses_same lengths));
          },
        )

pub cuts_keep_certificates : CutsKeepCertificates
cuts_keep_certificates whole cut origin tree is nodes lengths flow claim fits = both whole cut origin is nodes flow tree fits lengths claim
