use Rattle.std.proofs.Common.{◌≡◌, ◌≤◌, ℕ, ℤ, true, List, None, length, arith, rules, refl, subst}
use Rattle.csv.specs.Records.{fields_of}
use Rattle.grove_access.specs.Effects.{fits}
use Rattle.grove_table.specs.Tables.{field_of, IsValueIn, IsWeightIn}
use Rattle.grove_table.specs.PathScans.{PathIs}
use Rattle.grove_table.specs.Refusals.{Breaks}
use Rattle.grove_table.specs.declared.fault.Reason.TheVariants.{BadWeight, BadValue, NotText}
use Rattle.grove_table.proofs.RowRules.{all_kept, all_text, fields_broken, path_broken, row_refused, text_broken}
use Rattle.grove_table.proofs.RowRules.{value_broken, weight_broken}
use Rattle.grove_table.proofs.fields.line_of.Goals as goal
use Rattle.grove_table.proofs.fields.line_of.Goals.{in_default-via-in-Some+in-Some+in_default}
use Rattle.grove_table.proofs.fields.line_of.Goals.{in_default-via-in-Some+in_default, in_default-via-in_default}

pub returns-then-len-gt-FIELDS-clause-refused : goal.returns-then-len-gt-FIELDS-clause-refused
returns-then-len-gt-FIELDS-clause-refused c = grind (arith, fields_broken, row_refused)

pub returns-in_default-clause-refused : goal.returns-in_default-clause-refused
returns-in_default-clause-refused c =
    let fields = fields_of c.args.row.now in
    let few : length fields ≤ 3 = omega arith in
    row_refused fields c.args.number NotText _ _ c.of_line-in_default.ensures
    (elim c.in_default.branch [
      | in_default-via-in-Some+in-Some+in_default w ↦ text_broken fields 2 few (search rules)
      | in_default-via-in-Some+in_default w ↦ text_broken fields 1 few (search rules)
      | in_default-via-in_default w ↦ text_broken fields 0 few (search rules)
    ]) refl

pub returns-in-Some-clause-refused : goal.returns-in-Some-clause-refused
returns-in-Some-clause-refused c = grind (arith, all_text, path_broken, row_refused)

pub returns-in_default-weight_in-clause-refused : goal.returns-in_default-weight_in-clause-refused
returns-in_default-weight_in-clause-refused c =
    let fields = fields_of c.args.row.now in
    let few : length fields ≤ 3 = omega arith in
    let text : ¬ Breaks fields NotText = all_text fields few (search rules) (search rules) (search rules) in
    let path : c.in-Some-Some-Some.path.now ≡ field_of fields 0 = search rules in
    let is : PathIs (field_of fields 0) None = subst (λ (bytes : List ℕ). PathIs bytes None) path (search rules) in
    let weight : c.in-Some-Some-Some.weight.now ≡ field_of fields 1 = search rules in
    let none : Breaks fields BadWeight =
    subst (λ (bytes : List ℕ). (weight : ℕ) → ¬ IsWeightIn bytes weight) weight (search rules) in
    row_refused fields c.args.number BadWeight _ _ c.of_line-in_default-weight_in.ensures
    (weight_broken fields few text is none) weight

pub returns-in_default-value_in-clause-refused : goal.returns-in_default-value_in-clause-refused
returns-in_default-value_in-clause-refused c =
    let fields = fields_of c.args.row.now in
    let few : length fields ≤ 3 = omega arith in
    let text : ¬ Breaks fields NotText = all_text fields few (search rules) (search rules) (search rules) in
    let path : c.in-Some-Some-Some.path.now ≡ field_of fields 0 = search rules in
    let is : PathIs (field_of fields 0) None = subst (λ (bytes : List ℕ). PathIs bytes None) path (search rules) in
    let weight : c.in-Some-Some-Some.weight.now ≡ field_of fields 1 = search rules in
    let read : IsWeightIn (field_of fields 1) c.in-Some-weight_in.weight_read =
    subst (λ (bytes : List ℕ). IsWeightIn bytes c.in-Some-weight_in.weight_read) weight (search rules) in
    let value : c.in-Some-Some-Some.value.now ≡ field_of fields 2 = search rules in
    let none : Breaks fields BadValue =
    subst (λ (bytes : List ℕ). (value : ℤ) → fits value ≡ true → ¬ IsValueIn bytes value) value (search rules) in
    row_refused fields c.args.number BadValue _ _ c.of_line-in_default-value_in.ensures
    (value_broken fields few text is (λ unread. unread _ read) none) value

pub returns-clause-faultless : goal.returns-clause-faultless
returns-clause-faultless c =
    let fields = fields_of c.args.row.now in
    let few : length fields ≤ 3 = omega arith in
    let text : ¬ Breaks fields NotText = all_text fields few (search rules) (search rules) (search rules) in
    let path : c.in-Some-Some-Some.path.now ≡ field_of fields 0 = search rules in
    let is : PathIs (field_of fields 0) None = subst (λ (bytes : List ℕ). PathIs bytes None) path (search rules) in
    let weight : c.in-Some-Some-Some.weight.now ≡ field_of fields 1 = search rules in
    let read : IsWeightIn (field_of fields 1) c.in-Some-weight_in.weight_read =
    subst (λ (bytes : List ℕ). IsWeightIn bytes c.in-Some-weight_in.weight_read) weight (search rules) in
    let value : c.in-Some-Some-Some.value.now ≡ field_of fields 2 = search rules in
    let told : IsValueIn (field_of fields 2) c.in-Some-value_in.value_read =
    subst (λ (bytes : List ℕ). IsValueIn bytes c.in-Some-value_in.value_read) value (search rules) in
    all_kept fields few text is (λ unread. unread _ read) (λ unread. unread _ (search rules) told)
