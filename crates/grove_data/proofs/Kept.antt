-- What a crash leaves while a store is kept.
use Rattle.std.proofs.Common.{◌≡◌, ◌⊎◌, ℕ, ◌+◌, ◌*◌, ◌^◌, ◌<◌, List, [], ◌∷◌, ◌++◌, length, refl, sym, ap, subst}
use Rattle.std.proofs.Common.{◌∙◌, arith, inl, inr, ⊎_elim}
use Rattle.std.specs.Prelude.{All, FitsSigned, IsTrue, Vec}
use Rattle.std.specs.declared.alloc.Global.{Global}
use Rattle.std.proofs.lemmas.List.{length-append}
use Rattle.std.specs.List.{flat_map}
use Rattle.std.specs.Int.{w64}
use Rattle.grove_log.specs.Devices.{LeavesOnly}
use Rattle.grove_log.specs.Files.{recovered, StandsFor}
use Rattle.grove_log.specs.Logs.{IsSettled, IsOldOrNew}
use Rattle.grove_log.specs.declared.log.Log.{Log}
use Rattle.grove_tree.specs.Weights.{unweighed}
use Rattle.grove_tree.proofs.SameNames.{length-unweighed}
use Rattle.grove_effects.specs.Effects.{word, AreWords, effect}
use Rattle.grove_effects.specs.Snapshots.{Names, snapshot}
use Rattle.grove_store.specs.StoreStates.{StoreState, IsStore, IsSuccessor}
use Rattle.grove_data.specs.Numbers.{numbers_of, Hold, IsStoreIn}
use Rattle.grove_data.specs.Files.{OpensAs, OpensWith, IsOldOrOpens}
use Rattle.grove_data.specs.Keeping.{device_of, Keeps}
use Rattle.grove_data.specs.Parts.{AreNext, IsOldOrNext}
use Rattle.grove_data.specs.declared.data.Data.{Data}
use Rattle.grove_data.proofs.Leading.{hold_more, hold_whole}
use Rattle.grove_data.proofs.Lengths.{effect_short, names_short, snapshot_parts, words_long}
use Rattle.grove_data.proofs.Named.{names_short as short_names}
use Rattle.grove_data.proofs.Words.{store_words, few_numbers, as_many}

-- a file that stands for payloads opens as the store that these stand for
pub opens : (payloads : List (List ℕ)) (file : List ℕ) (store : StoreState) → IsStore store → IsStoreIn payloads store
    → StandsFor payloads file → OpensAs file store
opens payloads file store is stands for = record {
  readable = for.readable;
  is_store = is;
  stands = subst (λ (ps : List (List ℕ)). IsStoreIn ps store) (sym for.payloads) stands;
}

-- payloads stand for a store that has the names and numbers of one that they stand for
pub stands_same : (payloads : List (List ℕ)) (before after : StoreState) → unweighed after.rows ≡ unweighed before.rows
    → numbers_of after ≡ numbers_of before → All (FitsSigned w64) after.records → IsStoreIn payloads before
    → IsStoreIn payloads after
stands_same payloads before after names numbers fit stands = record {
  numbers = subst (λ (n : Names). Hold payloads n (numbers_of after)) (sym names)
      (subst (λ (l : List ℕ). Hold payloads (unweighed before.rows) l) (sym numbers) stands.numbers);
  records = fit;
}

-- the payloads that are next stand for the next store
pub stands_next : (payloads next : List (List ℕ)) (before after : StoreState) (kept numbers names : List ℕ)
    → kept ≡ numbers_of before → numbers ≡ numbers_of after → names ≡ snapshot (unweighed before.rows) []
    → unweighed after.rows ≡ unweighed before.rows → AreWords numbers → length numbers ≡ length kept
    → All (FitsSigned w64) after.records → IsStoreIn payloads before
    → AreNext payloads (effect kept numbers) (names ++ flat_map word numbers) next → IsStoreIn next after
stands_next payloads next before after kept numbers names is_kept are is_names same words long fit stands are_next =
    record { numbers = hold are_next; records = fit }
  where
    more : Hold (payloads ++ effect kept numbers ∷ []) (unweighed after.rows) numbers
    more = subst (λ (n : Names). Hold (payloads ++ effect kept numbers ∷ []) n numbers) (sym same)
        (hold_more payloads (unweighed before.rows) kept numbers words long
        (subst (λ (l : List ℕ). Hold payloads (unweighed before.rows) l) (sym is_kept) stands.numbers))

    is_whole : names ++ flat_map word numbers ≡ snapshot (unweighed after.rows) numbers
    is_whole = ap (λ (l : List ℕ). l ++ flat_map word numbers) is_names
        ∙ snapshot_parts (unweighed before.rows) numbers ∙ ap (λ (n : Names). snapshot n numbers) (sym same)

    whole : Hold ((names ++ flat_map word numbers) ∷ []) (unweighed after.rows) numbers
    whole = subst (λ (l : List ℕ). Hold (l ∷ []) (unweighed after.rows) numbers) (sym is_whole)
        (hold_whole (unweighed after.rows) numbers words)

    hold : AreNext payloads (effect kept numbers) (names ++ flat_map word numbers) next
        → Hold next (unweighed after.rows) (numbers_of after)
    hold (inl is) = subst (λ (l : List ℕ). Hold next (unweighed after.rows) l) are
        (subst (λ (ps : List (List ℕ)). Hold ps (unweighed after.rows) numbers) (sym is) more)
    hold (inr is) = subst (λ (l : List ℕ). Hold next (unweighed after.rows) l) are
        (subst (λ (ps : List (List ℕ)). Hold ps (unweighed after.rows) numbers) (sym is) whole)

-- an effect that was put where nothing stood
pub effect_put : {start out first second old new : List ℕ} → out ≡ start ++ effect first second → start ≡ []
    → first ≡ old → second ≡ new → out ≡ effect old new
effect_put {start} {out} {first} {second} {old} {new} is none firsts seconds =
    is ∙ ap (λ (l : List ℕ). l ++ effect first second) none ∙ ap (λ (l : List ℕ). effect l second) firsts
    ∙ ap (λ (l : List ℕ). effect old l) seconds

module _ {D : Type 0} (moment : D → ℕ) (left_since : D → ℕ → List ℕ → Type 0) where
  -- what is left has a weaker property too
  pub weaker : (old new : D) (P Q : List ℕ → Type 0) → ((c : List ℕ) → P c → Q c)
      → LeavesOnly moment left_since old new P → LeavesOnly moment left_since old new Q
  weaker old new P Q so leaves = record {
    later = leaves.later;
    each = λ c left. so c (leaves.each c left);
    before = λ t c le left. ⊎_elim (λ earlier. inl earlier) (λ p. inr (so c p)) (leaves.before t c le left);
  }

-- ---- keeping

module _ {D : Type 0} (seen : D → List ℕ) (may_leave : D → List ℕ → Type 0) (faults : D → ℕ) where
  -- a file that is at rest opens as the store that is kept
  pub opens_now : (held : Data D) (store : StoreState) → Keeps seen may_leave faults held store
      → OpensAs (seen (device_of held)) store
  opens_now held store keeps =
      record { readable = keeps.settled.file.readable; is_store = keeps.is_store; stands = keeps.stands }

  -- nothing in the file changed
  pub kept_same : (held new : Data D) (before after : StoreState) → Keeps seen may_leave faults held before
      → new.log ≡ held.log → new.names ≡ held.names → new.kept.items ≡ numbers_of after → IsSuccessor before after
      → numbers_of after ≡ numbers_of before → All (FitsSigned w64) after.records
      → Keeps seen may_leave faults new after
  kept_same held new before after keeps log names kept next numbers fit =
      let same = stands_same (recovered (seen (device_of held))) before after next.names numbers fit keeps.stands in
      record {
        accepts = subst (λ (l : Log D). IsTrue l.accepts) (sym log) keeps.accepts;
        settled = subst (λ (l : Log D). IsSettled seen may_leave faults l) (sym log) keeps.settled;
        is_store = next.new;
        stands = subst (λ (l : Log D). IsStoreIn (recovered (seen l.device)) after) (sym log) same;
        names = ap (λ (v : Vec ℕ Global). v.items) names ∙ keeps.names
            ∙ ap (λ (n : Names). snapshot n []) (sym next.names);
        numbers = kept;
      }

  -- the payloads that were written stand for the next store
  module _ (held : Data D) (before after : StoreState) (keeps : Keeps seen may_leave faults held before)
      (next : IsSuccessor before after) (fit : All (FitsSigned w64) after.records) (numbers : List ℕ)
      (are : numbers ≡ numbers_of after) where
    abbrev old : List (List ℕ)
    old = recovered (seen (device_of held))

    pub written : (payloads : List (List ℕ))
        → AreNext old (effect held.kept.items numbers) (held.names.items ++ flat_map word numbers) payloads
        → IsStoreIn payloads after
    written payloads are_next =
        stands_next old payloads before after held.kept.items numbers held.names.items keeps.numbers are keeps.names
        next.names (subst AreWords (sym are) (store_words after next.new fit))
        (ap length are ∙ as_many before after next ∙ sym (ap length keeps.numbers)) fit keeps.stands are_next

    -- a file that a crash leaves opens as the store before, whichever that is called, or as the next one
    opens_either : (other : StoreState) → Keeps seen may_leave faults held other → (file : List ℕ)
        → IsOldOrNext old (effect held.kept.items numbers) (held.names.items ++ flat_map word numbers) file
        → OpensWith (λ left. (left ≡ other) ⊎ (left ≡ after)) file
    opens_either other kept file (inl for) = (other, opens old file other kept.is_store kept.stands for, inl refl)
    opens_either other kept file (inr (payloads, are_next, for)) =
        (after, opens payloads file after next.new (written payloads are_next) for, inr refl)

    module _ {payload : List ℕ} (is : payload ≡ effect held.kept.items numbers) where
      abbrev whole : List ℕ
      whole = held.names.items ++ flat_map word numbers

      -- whatever a write leaves opens so
      pub leaves_either : (moment : D → ℕ) (left_since : D → ℕ → List ℕ → Type 0) (new : D) (other : StoreState)
          → Keeps seen may_leave faults held other
          → LeavesOnly moment left_since (device_of held) new (IsOldOrNext old payload whole)
          → LeavesOnly moment left_since (device_of held) new (OpensWith (λ left. (left ≡ other) ⊎ (left ≡ after)))
      leaves_either moment left_since new other kept =
          weaker moment left_since (device_of held) new (IsOldOrNext old payload whole)
          (OpensWith (λ (left : StoreState). (left ≡ other) ⊎ (left ≡ after)))
          (λ file left. opens_either other kept file
          (subst (λ (l : List ℕ). IsOldOrNext old l whole file) is left))

      -- once it is written, the next store is kept
      pub kept_next : (new : Data D) → IsTrue new.log.accepts → IsSettled seen may_leave faults new.log
          → AreNext old payload whole (recovered (seen (device_of new))) → new.names ≡ held.names
          → new.kept.items ≡ numbers → Keeps seen may_leave faults new after
      kept_next new accepts settled are_next names kept = record {
        accepts = accepts;
        settled = settled;
        is_store = next.new;
        stands = written (recovered (seen (device_of new)))
            (subst (λ (l : List ℕ). AreNext old l whole (recovered (seen (device_of new)))) is are_next);
        names = ap (λ (v : Vec ℕ Global). v.items) names ∙ keeps.names
            ∙ ap (λ (n : Names). snapshot n []) (sym next.names);
        numbers = kept ∙ are;
      }

    -- effects and snapshots are short
    pub effect_fits : length (effect held.kept.items numbers) < 2 ^ 32
    effect_fits =
        omega (arith, effect_short held.kept.items numbers, ap length keeps.numbers, few_numbers before next.old)

    pub whole_fits : length held.names.items + 8 * length numbers < 2 ^ 32
    whole_fits =
        let rows = before.rows in
        omega (
          arith,
          ap length keeps.names,
          names_short (unweighed rows) (short_names rows next.old.tree next.old.limits),
          length-unweighed rows,
          next.old.limits.few,
          ap length are,
          few_numbers after next.new,
        )

-- ---- a snapshot alone

module _ (store : StoreState) (is : IsStore store) (fit : All (FitsSigned w64) store.records)
    (names numbers payload : List ℕ) (are_names : names ≡ snapshot (unweighed store.rows) [])
    (are_numbers : numbers ≡ numbers_of store) (are : payload ≡ names ++ flat_map word numbers) where
  is_snapshot : payload ≡ snapshot (unweighed store.rows) (numbers_of store)
  is_snapshot = are ∙ ap (λ (l : List ℕ). l ++ flat_map word numbers) are_names
      ∙ snapshot_parts (unweighed store.rows) numbers ∙ ap (snapshot (unweighed store.rows)) are_numbers

  pub whole_in : IsStoreIn (payload ∷ []) store
  whole_in = record {
    numbers = subst (λ (l : List ℕ). Hold (l ∷ []) (unweighed store.rows) (numbers_of store)) (sym is_snapshot)
        (hold_whole (unweighed store.rows) (numbers_of store) (store_words store is fit));
    records = fit;
  }

  pub whole_short : length payload < 2 ^ 32
  whole_short =
      omega (
        arith,
        ap length are,
        length-append names (flat_map word numbers),
        words_long numbers,
        ap length are_names,
        names_short (unweighed store.rows) (short_names store.rows is.tree is.limits),
        length-unweighed store.rows,
        is.limits.few,
        ap length are_numbers,
        few_numbers store is,
      )

  -- a file that a crash leaves is the old one, or opens as the store
  pub old_or_opens : (was file : List ℕ) → IsOldOrNew was payload file → IsOldOrOpens was store file
  old_or_opens was file (inl same) = inl same
  old_or_opens was file (inr for) = inr (opens (payload ∷ []) file store is whole_in for)

  pub kept_whole : {D : Type 0} (seen : D → List ℕ) (may_leave : D → List ℕ → Type 0) (faults : D → ℕ) (made : Data D)
      → IsTrue made.log.accepts → IsSettled seen may_leave faults made.log
      → recovered (seen (device_of made)) ≡ payload ∷ [] → made.names.items ≡ names → made.kept.items ≡ numbers
      → Keeps seen may_leave faults made store
  kept_whole seen may_leave faults made accepts settled holds is_names is_kept = record {
    accepts = accepts;
    settled = settled;
    is_store = is;
    stands = subst (λ (ps : List (List ℕ)). IsStoreIn ps store) (sym holds) whole_in;
    names = is_names ∙ are_names;
    numbers = is_kept ∙ are_numbers;
  }
