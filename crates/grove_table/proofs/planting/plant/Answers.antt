use Rattle.std.proofs.Common.{◌≡◌, ◌∙◌, ◌≤◌, List, ℕ, Vec, Global, true, false, add-one, ap, arith, fold, length, rules}
use Rattle.std.proofs.Common.{string_bytes, subst, sym, take}
use Rattle.grove_table.specs.declared.fault.TableFault.{TableFault}
use Rattle.grove_table.specs.declared.planting.Sprout.{Sprout}
use Rattle.grove_table.specs.Refusals.{ends_path, paths_to, with_path}
use Rattle.grove_table.specs.Plantings.{IsFullFault, paths_of}
use Rattle.grove_table.proofs.SpareLines.{full_at, planted_next, planted_same}
use Rattle.grove_table.proofs.planting.plant.Goals as goal
use Rattle.grove_table.proofs.planting.plant.Goals.{then-ends_path+in_ok-place_of, else-ends_path}

pub loop-end-preserved : goal.loop-end-preserved
loop-end-preserved c = elim c.if-ends_path.branch [
  | then-ends_path+in_ok-place_of w ↦
      let path : List ℕ = string_bytes c.args.line.now.path in
      let n : ℕ = c.loop-end.end in
      let start : List (List ℕ) = paths_of c.args.sprouts.now.items in
      let ends : ends_path path n ≡ true = search rules in
      let told : paths_of w.place_of.new.sprouts.items ≡ with_path (paths_of c.loop-end.sprouts.items) (take n path) =
      search rules in
      record {
        few = search rules;
        planted = rw add-one (
            ap (λ (s : Vec Sprout Global). paths_of s.items) w.sprouts-is ∙ told
            ∙ ap (λ (paths : List (List ℕ)). with_path paths (take n path)) c.loop-end.invariant.planted
            ∙ sym (planted_next start path n ends));
      }
  | else-ends_path w ↦
      let path : List ℕ = string_bytes c.args.line.now.path in
      let n : ℕ = c.loop-end.end in
      let start : List (List ℕ) = paths_of c.args.sprouts.now.items in
      let miss : ends_path path n ≡ false = search rules in
      record {
        few = search rules;
        planted = rw add-one (
            ap (λ (s : Vec Sprout Global). paths_of s.items) w.sprouts-is ∙ c.loop-end.invariant.planted
            ∙ sym (planted_same start path n miss));
      }
]

pub returns-in_err-place_of-clause-refused : goal.returns-in_err-place_of-clause-refused
returns-in_err-place_of-clause-refused c =
    let line = c.args.line.now in
    let path : List ℕ = string_bytes line.path in
    let n : ℕ = c.loop-end.end in
    let start : List (List ℕ) = paths_of c.args.sprouts.now.items in
    let fault : TableFault = c.in_err-place_of.field-0.0 in
    let ends : ends_path path n ≡ true = search rules in
    let within : n ≤ length path = omega arith in
    let told : IsFullFault line (with_path (paths_of c.loop-end.sprouts.items) (take n path)) fault = search rules in
    let why : IsFullFault line (fold with_path start (paths_to path)) fault =
    full_at line start path n fault within ends
    (subst (λ (paths : List (List ℕ)). IsFullFault line (with_path paths (take n path)) fault)
    c.loop-end.invariant.planted told) in
    search (rules, why)
