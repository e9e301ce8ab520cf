-- Paths and their names, from a scan of the bytes.
use Rattle.std.proofs.Common.{◌≡◌, ◌≢◌, ℕ, suc, ◌+◌, ◌<◌, ◌≤◌, ◌==◌, ◌&&◌, true, false, List, [], ◌∷◌, ◌++◌}
use Rattle.std.proofs.Common.{length, refl, sym, ◌∙◌, ap, subst, inl, inr, arith, true≢false, count_by, cond}
use Rattle.std.specs.Prelude.{flat_map, nat_lt}
use Rattle.std.specs.List.{list_all}
use Rattle.std.proofs.lemmas.Bool.{and_parts, and_from, cases_Bool, cond-true, cond-false, ltb-true, lt-ltb, leb-true}
use Rattle.std.proofs.lemmas.Bool.{le-leb, eqb-true, ne_eqb}
use Rattle.std.proofs.lemmas.List.Sums.{sum_by-cons}
use Rattle.grove_tree.specs.Rules.{is_name_byte, is_name}
use Rattle.grove_table.specs.PathScans.{are_names_after, has_names, IsPath}
use Rattle.grove_table.specs.Refusals.{IsPathWith}

abbrev after_slash : List ℕ → List ℕ
after_slash name = 47 ∷ name

-- the rest of a name, and names after it
abbrev IsNamesAfter : ℕ → List ℕ → Type 0
IsNamesAfter n bytes = (first : List ℕ) × (names : List (List ℕ)) × (bytes ≡ first ++ flat_map after_slash names)
    × (list_all is_name_byte first ≡ true) × (0 < n + length first) × (n + length first ≤ 32)
    × (list_all is_name names ≡ true)

no_byte : (byte : ℕ) → is_name_byte byte ≡ true → (byte == 47) ≡ false
no_byte byte h = ne_eqb byte 47 (λ e. true≢false (sym h ∙ ap is_name_byte e))

-- a name, from its bytes
name_from : (name : List ℕ) → list_all is_name_byte name ≡ true → 0 < length name → length name ≤ 32
    → is_name name ≡ true
name_from name ok some few = and_from _ _ (lt-ltb 0 (length name) some)
    (and_from _ _ (le-leb (length name) 32 few) ok)

-- what a scan passes are names
names_after : (n : ℕ) (bytes : List ℕ) → n ≤ 32 → are_names_after n bytes ≡ true → IsNamesAfter n bytes
names_after n [] few e =
    let some : 0 < n = ltb-true 0 n e in
    ([], [], refl, refl, omega arith, omega arith, refl)
names_after n (byte ∷ bytes) few e = elim (cases_Bool (byte == 47)) [
  | inl slash ↦
      let both : (nat_lt 0 n && are_names_after 0 bytes) ≡ true = sym (cond-true (byte == 47) _ _ slash) ∙ e in
      let (some, there) = and_parts (nat_lt 0 n) (are_names_after 0 bytes) both in
      let rest : IsNamesAfter 0 bytes = names_after 0 bytes (omega arith) there in
      let is : byte ≡ 47 = eqb-true byte 47 slash in
      let pos : 0 < n = ltb-true 0 n some in (
        [],
        rest.0 ∷ rest.1,
        cc (is, rest.2),
        refl,
        omega arith,
        omega arith,
        and_from _ _ (name_from rest.0 rest.3 (omega (arith, rest.4)) (omega (arith, rest.5))) rest.6,
      )
  | inr other ↦
      let both : (nat_lt n 32 && (is_name_byte byte && are_names_after (suc n) bytes)) ≡ true =
      sym (cond-false (byte == 47) _ _ other) ∙ e in
      let (less, more) = and_parts (nat_lt n 32) (is_name_byte byte && are_names_after (suc n) bytes) both in
      let (here, there) = and_parts (is_name_byte byte) (are_names_after (suc n) bytes) more in
      let below : n < 32 = ltb-true n 32 less in
      let rest : IsNamesAfter (suc n) bytes = names_after (suc n) bytes (omega arith) there in (
        byte ∷ rest.0,
        rest.1,
        ap (λ (end : List ℕ). byte ∷ end) rest.2,
        and_from _ _ here rest.3,
        omega (arith, rest.4),
        omega (arith, rest.5),
        rest.6,
      )
]

-- and names are passed: the rest of one first
name_passed : (n : ℕ) (first rest : List ℕ) → list_all is_name_byte first ≡ true → n + length first ≤ 32
    → are_names_after (n + length first) rest ≡ true → are_names_after n (first ++ rest) ≡ true
name_passed n [] rest ok few there =
    let e : n + 0 ≡ n = omega arith in subst (λ (m : ℕ). are_names_after m rest ≡ true) e there
name_passed n (byte ∷ first) rest ok few there =
    let (here, after) = and_parts (is_name_byte byte) (list_all is_name_byte first) ok in
    let e : n + suc (length first) ≡ suc n + length first = omega arith in
    let below : n < 32 = omega (arith, few) in
    cond-false (byte == 47) _ _ (no_byte byte here) ∙ and_from _ _ (lt-ltb n 32 below)
    (and_from _ _ here (name_passed (suc n) first rest after (omega (arith, few))
    (subst (λ (m : ℕ). are_names_after m rest ≡ true) e there)))

-- a name's bytes, and how many
name_parts : (name : List ℕ) → is_name name ≡ true
    → (list_all is_name_byte name ≡ true) × (0 < length name) × (length name ≤ 32)
name_parts name h = grind (arith, and_parts, leb-true, ltb-true)

names_passed : (n : ℕ) (names : List (List ℕ)) → 0 < n → list_all is_name names ≡ true
    → are_names_after n (flat_map after_slash names) ≡ true
names_passed n [] some good = lt-ltb 0 n some
names_passed n (name ∷ names) some good =
    let (here, there) = and_parts (is_name name) (list_all is_name names) good in
    let parts : (list_all is_name_byte name ≡ true) × (0 < length name) × (length name ≤ 32) = name_parts name here in
    let e : 0 + length name ≡ length name = omega arith in
    and_from _ _ (lt-ltb 0 n some) (name_passed 0 name (flat_map after_slash names) parts.0 (omega (arith, parts.2))
    (subst (λ (m : ℕ). are_names_after m (flat_map after_slash names) ≡ true) (sym e)
    (names_passed (length name) names parts.1 there)))

-- a path that a scan passes has names
pub names_had : (path : List ℕ) → has_names path ≡ true → IsPath path
names_had [] e = absurd (true≢false (sym e))
names_had (byte ∷ bytes) e =
    let (slash, there) = and_parts (byte == 47) (are_names_after 0 bytes) e in
    let rest : IsNamesAfter 0 bytes = names_after 0 bytes (omega arith) there in
    let is : byte ≡ 47 = eqb-true byte 47 slash in (
      rest.0 ∷ rest.1,
      (cc (is, rest.2), and_from _ _ (name_from rest.0 rest.3 (omega (arith, rest.4)) (omega (arith, rest.5))) rest.6),
    )

-- and one that has names is passed, unless it is a slash
had_names : (names : List (List ℕ)) (path : List ℕ) → IsPathWith names path → path ≢ 47 ∷ [] → has_names path ≡ true
had_names [] path is more = absurd (more is.0)
had_names (name ∷ names) path is more = grind (arith, and_parts, name_parts, name_passed, names_passed)

pub no_names : (path : List ℕ) → has_names path ≡ false → path ≢ 47 ∷ [] → ¬ IsPath path
no_names path e more is = true≢false (sym (had_names is.0 path is.1 more) ∙ e)

-- ---- how many names

abbrev slashes : List ℕ → ℕ
slashes bytes = count_by (λ byte. byte == 47) bytes

no_slash : (name rest : List ℕ) → list_all is_name_byte name ≡ true → slashes (name ++ rest) ≡ slashes rest
no_slash [] rest ok = refl
no_slash (byte ∷ name) rest ok =
    let (here, there) = and_parts (is_name_byte byte) (list_all is_name_byte name) ok in
    let more : slashes (name ++ rest) ≡ slashes rest = no_slash name rest there in
    let none : (byte == 47) ≡ false = no_byte byte here in
    let step : slashes (byte ∷ (name ++ rest)) ≡ cond (byte == 47) 1 0 + slashes (name ++ rest) =
    sum_by-cons (λ (b : ℕ). cond (b == 47) 1 0) byte (name ++ rest) in
    let skip : ◌≡◌ {A = ℕ} (cond (byte == 47) 1 0) 0 = cond-false (byte == 47) 1 0 none in
    omega (arith, step, skip, more)

names_counted : (names : List (List ℕ)) → list_all is_name names ≡ true
    → slashes (flat_map after_slash names) ≡ length names
names_counted [] good = refl
names_counted (name ∷ names) good =
    let (here, there) = and_parts (is_name name) (list_all is_name names) good in
    let (bytes, some, few) = name_parts name here in
    let more : slashes (flat_map after_slash names) ≡ length names = names_counted names there in
    let one : slashes (name ++ flat_map after_slash names) ≡ slashes (flat_map after_slash names) =
    no_slash name (flat_map after_slash names) bytes in
    let step : slashes (flat_map after_slash (name ∷ names)) ≡ 1 + slashes (name ++ flat_map after_slash names) =
    sum_by-cons (λ (b : ℕ). cond (b == 47) 1 0) 47 (name ++ flat_map after_slash names) in
    omega (arith, step, one, more)

path_counted : (names : List (List ℕ)) (path : List ℕ) → IsPathWith names path → path ≢ 47 ∷ []
    → slashes path ≡ length names
path_counted [] path is more = absurd (more is.0)
path_counted (name ∷ names) path is more = ap slashes is.0 ∙ names_counted (name ∷ names) is.1

pub names_deep : (path : List ℕ) → has_names path ≡ true → path ≢ 47 ∷ [] → 32 < slashes path
    → (names : List (List ℕ)) × IsPathWith names path × (32 < length names)
names_deep path e more deep = grind (arith, names_had, path_counted)

pub names_few : (path : List ℕ) → has_names path ≡ true → path ≢ 47 ∷ [] → slashes path ≤ 32
    → (names : List (List ℕ)) × IsPathWith names path × (length names ≤ 32)
names_few path e more few = grind (arith, names_had, path_counted)

-- the root's path has no names
pub root_named : (path : List ℕ) → path ≡ 47 ∷ [] → (names : List (List ℕ)) × IsPathWith names path
    × (length names ≤ 32)
root_named path e = ([], (e, refl), omega arith)

-- a path has one number of names
pub not_deep : (path : List ℕ) (few deep : List (List ℕ)) → IsPathWith few path → IsPathWith deep path → length few ≤ 32
    → 32 < length deep → ⊥
not_deep path few [] is more short long = absurd (omega arith)
not_deep path [] (name ∷ deep) is more short long =
    let one : slashes path ≡ 1 = ap slashes is.0 in
    let same : slashes path ≡ length (name ∷ deep) = ap slashes more.0 ∙ names_counted (name ∷ deep) more.1 in
    absurd (omega (arith, one, same))
not_deep path (first ∷ few) (name ∷ deep) is more short long =
    let one : slashes path ≡ length (first ∷ few) = ap slashes is.0 ∙ names_counted (first ∷ few) is.1 in
    let same : slashes path ≡ length (name ∷ deep) = ap slashes more.0 ∙ names_counted (name ∷ deep) more.1 in
    absurd (omega (arith, one, same))
