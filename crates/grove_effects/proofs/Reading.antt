-- Reading names and numbers.
use Rattle.std.proofs.Common.{◌≡◌, ℕ, ◌*◌, ◌<◌, ◌≤◌, ◌^◌, List, [], ◌∷◌, ◌++◌, length, drop, get_or, Option}
use Rattle.std.proofs.Common.{Result, Ok, Err, IfErr}
use Rattle.std.proofs.Common.{refl, sym, ap, ◌∙◌, subst, append_assoc, append-nil, arith}
use Rattle.std.specs.List.{All, flat_map}
use Rattle.std.proofs.lemmas.List.{length-append, length-map, drop_at, map-append}
use Rattle.std.proofs.lemmas.List.Concat.{flat_map-append}
use Rattle.std.proofs.lemmas.List.Elements.{All-head, All-same, All-drop, All-push}
use Rattle.std.proofs.Math.ListN.{get_or-map}
use Rattle.grove_effects.specs.Effects.{word, half, AreWords}
use Rattle.grove_effects.specs.Snapshots.{Names, named_of, names_of, named_bytes, IsNamed, IsSnapshot, snapshot}
use Rattle.grove_effects.specs.declared.snapshot.NodeName.{NodeName}
use Rattle.grove_effects.proofs.Fronts.{half_once, word_once, named_once, fronts, same_list}

-- what holds of each error holds of the one that came
pub each_error : {T E : Type 0} (r : Result T E) (P : E → Type 0) → ((fault : E) → P fault) → IfErr r P
each_error (Ok value) P all = tt
each_error (Err fault) P all = all fault

-- ---- names

-- a node that stands among named ones is named
pub named_at : (nodes : List NodeName) (i : ℕ) (node : NodeName) → i < length nodes → node ≡ get_or nodes i node
    → All IsNamed (names_of nodes) → IsNamed (named_of node)
named_at nodes i node lt is named =
    subst (λ (n : Option ℕ × List ℕ). IsNamed n)
    (get_or-map named_of nodes i node ∙ ap (λ (n : NodeName). named_of n) (sym is))
    (named i (named_of node) (omega (arith, length-map nodes named_of)))

first_of : (rest tail : List ℕ) (more read names : Names) → names ≡ read ++ more → length read < length names
    → All IsNamed names → rest ≡ flat_map named_bytes more ++ tail
    → (named : Option ℕ × List ℕ) × (behind : List ℕ) × IsNamed named × (rest ≡ named_bytes named ++ behind)
first_of rest tail [] read names is less fits rest_is =
    absurd (omega (arith, ap length is, ap length (append-nil read)))
first_of rest tail (named ∷ more) read names is less fits rest_is =
    let here : All IsNamed (named ∷ more) = All-same IsNamed (named ∷ more) (drop (length read) names)
    (sym (drop_at read (named ∷ more) (length read) refl) ∙ ap (λ (l : Names). drop (length read) l) (sym is))
    (All-drop IsNamed (length read) names fits) in (
      named,
      flat_map named_bytes more ++ tail,
      All-head IsNamed named more here,
      rest_is ∙ append_assoc (named_bytes named) (flat_map named_bytes more) tail,
    )

-- where fewer names were read than stand there, one more does
pub name_more : (bytes rest tail : List ℕ) (read names : Names) → bytes ≡ flat_map named_bytes read ++ rest
    → All IsNamed read → All IsNamed names → length read < length names → bytes ≡ flat_map named_bytes names ++ tail
    → (named : Option ℕ × List ℕ) × (behind : List ℕ) × IsNamed named × (rest ≡ named_bytes named ++ behind)
name_more bytes rest tail read names is fits fits' less same =
    let more = fronts named_bytes IsNamed named_once read names rest tail fits fits' (omega arith) (sym is ∙ same) in
    first_of rest tail more.0 read names more.1 less fits' more.2

-- one more name was read
pub names_on : (bytes rest behind : List ℕ) (nodes grown : List NodeName) (node : NodeName) (count : ℕ)
    → grown ≡ nodes ++ node ∷ [] → length nodes < count → All IsNamed (names_of nodes) → IsNamed (named_of node)
    → bytes ≡ flat_map named_bytes (names_of nodes) ++ rest → rest ≡ named_bytes (named_of node) ++ behind
    → (length grown ≤ count) × All IsNamed (names_of grown) × (bytes ≡ flat_map named_bytes (names_of grown) ++ behind)
names_on bytes rest behind nodes grown node count grown_is less fits node_fits is rest_is =
    let named = named_of node in
    let before = flat_map named_bytes (names_of nodes) in
    let names_are : names_of grown ≡ names_of nodes ++ named ∷ [] =
    ap (λ (l : List NodeName). names_of l) grown_is ∙ map-append named_of nodes (node ∷ []) in
    let bytes_are : flat_map named_bytes (names_of grown) ≡ before ++ named_bytes named =
    ap (λ (l : Names). flat_map named_bytes l) names_are
    ∙ flat_map-append named_bytes (names_of nodes) (named ∷ [])
    ∙ ap (λ (l : List ℕ). before ++ l) (append-nil (named_bytes named)) in (
      omega (arith, ap length grown_is, length-append nodes (node ∷ [])),
      All-same IsNamed (names_of grown) (names_of nodes ++ named ∷ []) names_are
          (All-push IsNamed (names_of nodes) named fits node_fits),
      is ∙ ap (λ (l : List ℕ). before ++ l) rest_is ∙ sym (append_assoc before (named_bytes named) behind)
          ∙ ap (λ (l : List ℕ). l ++ behind) (sym bytes_are),
    )

none_more : (names others more : Names) → others ≡ names ++ more → length names ≡ length others → more ≡ []
none_more names others [] is long = refl
none_more names others (named ∷ more) is long =
    absurd (omega (arith, ap length is, length-append names (named ∷ more)))

-- as many names stand for the same names
pub names_same : (names others : Names) (x y : List ℕ) → All IsNamed names → All IsNamed others
    → length names ≡ length others → flat_map named_bytes names ++ x ≡ flat_map named_bytes others ++ y
    → (names ≡ others) × (x ≡ y)
names_same names others x y fits fits' long same =
    let more = fronts named_bytes IsNamed named_once names others x y fits fits' (omega arith) same in
    let none = none_more names others more.0 more.1 long in (
      sym (more.1 ∙ ap (λ (l : Names). names ++ l) none ∙ append-nil names),
      more.2 ∙ ap (λ (l : Names). flat_map named_bytes l ++ y) none,
    )

-- ---- numbers

length-words : (numbers : List ℕ) → length (flat_map word numbers) ≡ 8 * length numbers
length-words [] = refl
length-words (n ∷ numbers) =
    let long : length (word n) ≡ 8 = refl in
    omega (arith, length-append (word n) (flat_map word numbers), length-words numbers)

-- where numbers stand and some were read, another stands there if anything does
pub word_more : (bytes rest : List ℕ) (read numbers : List ℕ) → bytes ≡ flat_map word read ++ rest
    → bytes ≡ flat_map word numbers → 0 < length rest → 8 ≤ length rest
word_more bytes rest read numbers is same some =
    omega (
      arith,
      ap length is,
      length-append (flat_map word read) rest,
      length-words read,
      ap length same,
      length-words numbers,
    )

word_some : (n : ℕ) → 0 < length (word n)
word_some n = let long : length (word n) ≡ 8 = refl in omega arith

-- ---- a snapshot

whole : (names : Names) (numbers : List ℕ)
    → snapshot names numbers ≡ half (length names) ++ (flat_map named_bytes names ++ flat_map word numbers)
unfolding snapshot
whole names numbers = append_assoc (half (length names)) (flat_map named_bytes names) (flat_map word numbers)

-- what was read is a snapshot
pub snapshot_is : (bytes rest tail : List ℕ) (nodes : List NodeName) (numbers : List ℕ) (count : ℕ) → count < 2 ^ 32
    → length nodes ≡ count → All IsNamed (names_of nodes) → AreWords numbers → bytes ≡ half count ++ rest
    → rest ≡ flat_map named_bytes (names_of nodes) ++ tail → tail ≡ flat_map word numbers
    → IsSnapshot (names_of nodes) numbers bytes
snapshot_is bytes rest tail nodes numbers count few long named words is rest_is tail_is =
    let names = names_of nodes in
    let long_names : length names ≡ count = length-map nodes named_of ∙ long in
    record {
      few = omega arith;
      named = named;
      words = words;
      stands = is
          ∙ ap (λ (l : List ℕ). half count ++ l)
          (rest_is ∙ ap (λ (l : List ℕ). flat_map named_bytes names ++ l) tail_is)
          ∙ ap (λ (n : ℕ). half n ++ (flat_map named_bytes names ++ flat_map word numbers)) (sym long_names)
          ∙ sym (whole names numbers);
    }

pub snapshot_long : (bytes : List ℕ) (names : Names) (numbers : List ℕ) → IsSnapshot names numbers bytes
    → 4 ≤ length bytes
snapshot_long bytes names numbers is =
    let long : length (half (length names)) ≡ 4 = refl in
    omega (
      arith,
      ap length (is.stands ∙ whole names numbers),
      length-append (half (length names)) (flat_map named_bytes names ++ flat_map word numbers),
    )

-- what stands behind the count of a snapshot's names
pub behind_count : (bytes rest : List ℕ) (names : Names) (numbers : List ℕ) (count : ℕ) → count < 2 ^ 32
    → IsSnapshot names numbers bytes → bytes ≡ half count ++ rest
    → (length names ≡ count) × (rest ≡ flat_map named_bytes names ++ flat_map word numbers)
behind_count bytes rest names numbers count fits is count_is =
    let both = half_once (length names) count (flat_map named_bytes names ++ flat_map word numbers) rest is.few fits
    (sym (is.stands ∙ whole names numbers) ∙ count_is) in
    (both.0, sym both.1)

-- bytes are the snapshot of no other names and numbers
pub snapshot_once : (bytes : List ℕ) (names others : Names) (numbers ns : List ℕ) → IsSnapshot names numbers bytes
    → IsSnapshot others ns bytes → (names ≡ others) × (numbers ≡ ns)
snapshot_once bytes names others numbers ns is is' =
    let behind = behind_count bytes (flat_map named_bytes others ++ flat_map word ns) names numbers (length others)
    is'.few is (is'.stands ∙ whole others ns) in
    let both = names_same names others (flat_map word numbers) (flat_map word ns) is.named is'.named behind.0
    (sym behind.1) in (
      both.0,
      same_list word (λ n. n < 2 ^ 64) word_once word_some numbers ns is.words is'.words both.1,
    )
