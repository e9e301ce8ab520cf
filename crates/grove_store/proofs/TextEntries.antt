-- Texts that are kept in a map: what is found there, and what one more leaves.
use Rattle.std.proofs.Common.{◌≡◌, ℕ, ◌+◌, ◌<◌, ◌≤◌, Bool, true, false, List, [], ◌∷◌, ◌++◌, length, map, Option, Some, None, IfSome, refl, sym, ◌∙◌, ap, arith, is_some, Bor, true≢false, length-append}
use Rattle.std.specs.List.{slice_get}
use Rattle.std.specs.Map.{lookup}
use Rattle.std.specs.Option.{option_copied}
use Rattle.std.proofs.lemmas.List.{map-append, length-map}
use Rattle.std.proofs.lemmas.List.Sums.{sum_by-append, sum_by-cons}
use Rattle.std.proofs.lemmas.Map.Entries.{place_from_lookup}
use Rattle.indexmap.specs.IndexMap.{IndexMap, get, insert_entry}
use Rattle.indexmap.proofs.CallerLemmas.{insert_entry-new}
use Rattle.grove_base.proofs.Lists.{get_map}
use Rattle.grove_build.specs.declared.targets.Target.{Target}
use Rattle.grove_store.specs.KeptTexts.{KeptText, kept_text, bytes_of}

module _ {K V : Type 0} (targets : K → List Target) (bytes : V → List ℕ) where
  -- what an entry of the map keeps
  abbrev pub kept_at : K × V → KeptText
  kept_at entry = kept_text (targets entry.0) (bytes entry.1)

  -- what is found by targets is kept for them
  pub found_kept : (test : K → Bool) (own : List Target) → ((k : K) → test k ≡ true → own ≡ targets k) → (entries : List (K × V)) (found : Option (Bor V)) → option_copied found ≡ lookup test entries
      → IfSome found (λ text. (place : ℕ) × (slice_get (map kept_at entries) place ≡ Some (kept_text own (bytes text.now))))
  found_kept test own same entries None is = tt
  found_kept test own same entries (Some text) is =
      let (place, key, at, passes) = place_from_lookup test entries text.now (sym is) in
      (place, get_map kept_at entries place (key, text.now) at ∙ ap (λ (ts : List Target). Some (kept_text ts (bytes text.now))) (sym (same key passes)))

  -- a text for whose targets none is kept goes last
  pub added_last : {S : Type 0} (eq : K → K → Bool) (m : IndexMap K V S) (key : K) (text : V) (after : List (K × V)) → is_some (get eq m key) ≡ false → after ≡ insert_entry eq m.entries key text
      → map kept_at after ≡ map kept_at m.entries ++ kept_at (key, text) ∷ []
  added_last eq m key text after none is = ap (map kept_at) (is ∙ insert_entry-new eq m key text (by (get eq m key) none)) ∙ map-append kept_at m.entries ((key, text) ∷ [])
    where
      by : (found : Option V) → is_some found ≡ false → found ≡ None
      by None e = refl
      by (Some x) e = absurd (true≢false e)

  -- with it there are no more than there may be
  pub last_fits : (entries after : List (K × V)) (one : KeptText) (old count : ℕ) → map kept_at after ≡ map kept_at entries ++ one ∷ [] → length (map kept_at entries) < 1024
      → bytes_of (map kept_at entries) + length one.text ≤ 67108864 → bytes_of (map kept_at entries) ≡ old → count ≡ length one.text
      → (length after ≤ 1024) × (old + count ≤ 67108864) × (bytes_of (map kept_at after) ≡ old + count)
  last_fits entries after one old count is few room sums long =
      let number : length (map kept_at after) ≡ length (map kept_at entries) + 1 = ap length is ∙ length-append (map kept_at entries) (one ∷ []) in
      let all : bytes_of (map kept_at after) ≡ bytes_of (map kept_at entries) + bytes_of (one ∷ []) =
      ap bytes_of is ∙ sum_by-append (λ (kept : KeptText). length kept.text) (map kept_at entries) (one ∷ []) in
      let last : bytes_of (one ∷ []) ≡ length one.text + bytes_of [] = sum_by-cons (λ (kept : KeptText). length kept.text) one [] in
      let same : length (map kept_at after) ≡ length after = length-map after kept_at in
      (omega arith, omega arith, omega (arith, all, last))
