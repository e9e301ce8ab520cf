-- The first rule that the fields of a row break.
use Rattle.std.proofs.Common.{◌≡◌, ℕ, zero, suc, ◌<◌, ◌≤◌, List, [], ◌∷◌, ◌++◌, length, refl, sym, subst, arith}
use Rattle.std.proofs.Common.{None, Some, IsUtf8, rules}
use Rattle.std.proofs.lemmas.Str.{IsUtf8-nil}
use Rattle.csv.specs.Records.{field_at}
use Rattle.grove_table.specs.declared.fault.Reason.{Reason}
use Rattle.grove_table.specs.declared.fault.Reason.TheVariants.{BadHeader, BadFields, NotText, BadName, TooDeep}
use Rattle.grove_table.specs.declared.fault.Reason.TheVariants.{BadWeight, BadValue, TwiceNamed, NoParent, TooMany}
use Rattle.grove_table.specs.declared.fault.TableFault.{TableFault}
use Rattle.grove_table.specs.declared.fault.TableFault.TheVariants.{Empty, Line, Unlike, Memory}
use Rattle.grove_table.specs.Tables.{field_of}
use Rattle.grove_table.specs.Refusals.{Breaks, IsFirstBroken, KeepsAll, about_of, row_rules}
use Rattle.grove_table.specs.PathScans.{PathIs}
use Rattle.grove_table.specs.Rows.{IsRowFault, Tells}
use Rattle.grove_table.proofs.PathNames.{not_deep}

-- a fault that tells the first broken rule is that of the row
pub row_refused : (fields : List (List ℕ)) (number : ℕ) (rule : Reason) (about : List ℕ) (fault : TableFault)
    → Tells number rule about fault → IsFirstBroken fields rule → about ≡ about_of fields rule → IsRowFault fields fault
row_refused fields number rule about Memory tells broken is = tt
row_refused fields number rule about (Line fault) tells broken is = grind (arith)
row_refused fields number rule about Empty tells broken is = tells
row_refused fields number rule about Unlike tells broken is = tells

-- a field that isn't there is empty
nothing_at : (fields : List (List ℕ)) (place : ℕ) → length fields ≤ place → field_of fields place ≡ []
unfolding field_at
nothing_at [] place few = refl
nothing_at (field ∷ fields) zero few = absurd (omega arith)
nothing_at (field ∷ fields) (suc place) few = nothing_at fields place (omega arith)

-- three fields that are text are all
pub all_text : (fields : List (List ℕ)) → length fields ≤ 3 → IsUtf8 (field_of fields 0) → IsUtf8 (field_of fields 1)
    → IsUtf8 (field_of fields 2) → ¬ Breaks fields NotText
all_text fields few first second third (zero, none) = none first
all_text fields few first second third (suc zero, none) = none second
all_text fields few first second third (suc (suc zero), none) = none third
all_text fields few first second third (suc (suc (suc place)), none) =
    none (subst IsUtf8 (sym (nothing_at fields (suc (suc (suc place))) (omega arith))) IsUtf8-nil)

-- too many fields come first
pub fields_broken : (fields : List (List ℕ)) → 3 < length fields → IsFirstBroken fields BadFields
fields_broken fields more = ([], NotText ∷ BadName ∷ TooDeep ∷ BadWeight ∷ BadValue ∷ [], refl, tt, more)

-- then a field that is no text
pub text_broken : (fields : List (List ℕ)) (place : ℕ) → length fields ≤ 3 → ¬ IsUtf8 (field_of fields place)
    → IsFirstBroken fields NotText
text_broken fields place few none = (
  BadFields ∷ [],
  BadName ∷ TooDeep ∷ BadWeight ∷ BadValue ∷ [],
  refl,
  (λ more. absurd (omega arith), tt),
  (place, none),
)

-- then what is wrong with the path
pub path_broken : (fields : List (List ℕ)) (rule : Reason) → length fields ≤ 3 → ¬ Breaks fields NotText
    → PathIs (field_of fields 0) (Some rule) → IsFirstBroken fields rule × (field_of fields 0 ≡ about_of fields rule)
path_broken fields BadName few text is = (
  (
    BadFields ∷ NotText ∷ [],
    TooDeep ∷ BadWeight ∷ BadValue ∷ [],
    refl,
    (λ more. absurd (omega arith), (text, tt)),
    λ names with_names. is (names, with_names),
  ),
  refl,
)
path_broken fields TooDeep few text is = (
  (
    BadFields ∷ NotText ∷ BadName ∷ [],
    BadWeight ∷ BadValue ∷ [],
    refl,
    (λ more. absurd (omega arith), (text, (λ none. none is.0 is.1, tt))),
    is,
  ),
  refl,
)
path_broken fields BadHeader few text is = absurd is
path_broken fields BadFields few text is = absurd is
path_broken fields NotText few text is = absurd is
path_broken fields BadWeight few text is = absurd is
path_broken fields BadValue few text is = absurd is
path_broken fields TwiceNamed few text is = absurd is
path_broken fields NoParent few text is = absurd is
path_broken fields TooMany few text is = absurd is

-- the rules up to the path's
abbrev path_rules : List Reason
path_rules = BadFields ∷ NotText ∷ BadName ∷ TooDeep ∷ []

path_kept : (fields : List (List ℕ)) (rules : List Reason) → length fields ≤ 3 → ¬ Breaks fields NotText
    → PathIs (field_of fields 0) None → KeepsAll fields rules → KeepsAll fields (path_rules ++ rules)
path_kept fields rules few text is kept = grind (arith, not_deep)

-- then the weight
pub weight_broken : (fields : List (List ℕ)) → length fields ≤ 3 → ¬ Breaks fields NotText
    → PathIs (field_of fields 0) None → Breaks fields BadWeight → IsFirstBroken fields BadWeight
weight_broken fields few text is none = (path_rules, BadValue ∷ [], refl, path_kept fields [] few text is tt, none)

-- and then the value
pub value_broken : (fields : List (List ℕ)) → length fields ≤ 3 → ¬ Breaks fields NotText
    → PathIs (field_of fields 0) None → ¬ Breaks fields BadWeight → Breaks fields BadValue
    → IsFirstBroken fields BadValue
value_broken fields few text is weight none =
    (path_rules ++ BadWeight ∷ [], [], refl, path_kept fields (BadWeight ∷ []) few text is (weight, tt), none)

-- a row whose fields can be read breaks none
pub all_kept : (fields : List (List ℕ)) → length fields ≤ 3 → ¬ Breaks fields NotText → PathIs (field_of fields 0) None
    → ¬ Breaks fields BadWeight → ¬ Breaks fields BadValue → KeepsAll fields row_rules
all_kept fields few text is weight value = path_kept fields (BadWeight ∷ BadValue ∷ []) few text
    is (weight, (value, tt))
