use Rattle.std.proofs.Common.{rules, ◌≡◌, ◌<◌, ◌++◌, length, List, ℕ, pos, refl, ap, ap₂, sym, ◌∙◌}
use Rattle.std.specs.Prelude.{FitsSigned}
use Rattle.std.specs.Int.{w64}
use Rattle.std.proofs.lemmas.Grind.{same_number_lists}
use Rattle.std.proofs.lemmas.List.Elements.{All-from_get_or}
use Rattle.grove_effects.specs.Effects.{effect}
use Rattle.grove_data.specs.Numbers.{numbers_of}
use Rattle.grove_data.proofs.Keeping.{same_weights, same_bits, same_last, all_put}
use Rattle.grove_data.proofs.numbers.keep_store.Goals as goal

pub returns-clause-kept : goal.returns-clause-kept
unfolding numbers_of
returns-clause-kept c =
    let weights = same_weights c.keep_numbers.new.kept c.args.store.now.rows (search rules)
    (λ node lt. search (rules, c.in_ok-keep_numbers.ensures.kept node lt)) in
    let bits = same_bits c.keep_numbers-2.new.kept c.args.store.now.records (search rules)
    (λ node lt. search (rules, c.in_ok-keep_numbers-2.ensures.kept node lt)) in
    let waits = same_number_lists c.keep_numbers-3.new.kept c.args.store.now.waits (search rules)
    (λ node lt. search (rules, c.in_ok-keep_numbers-3.ensures.kept node lt)) in
    let rounds = same_last c.keep_numbers-4.new.kept c.args.store.now.rounds (search rules)
    (λ place lt. search (rules, c.in_ok-keep_numbers-4.ensures.kept place lt)) in
    rw (weights, bits, waits, rounds) refl

pub returns-clause-fit : goal.returns-clause-fit
returns-clause-fit c =
    All-from_get_or (FitsSigned w64) c.args.store.now.records (pos 0) (λ node lt.
    let within : node < length c.keep_numbers-2.new.kept = search rules in
    search (rules, c.in_ok-keep_numbers-2.ensures.kept node within))

pub returns-clause-changes : goal.returns-clause-changes
returns-clause-changes c =
    let weights = c.split_at_mut-kept_weights.result.0.now in
    let bits = c.split_at_mut-kept_weights.result.1.now in
    let waits = c.split_at_mut-before_waits.result.1.now in
    let rounds = c.split_at_mut-before_rounds.result.1.now in
    let parts : c.args.kept.now ≡ weights ++ bits ++ waits ++ rounds =
    c.split_at_mut-before_rounds.ensures.value
    ∙ ap (λ (l : List ℕ). l ++ rounds) (c.split_at_mut-before_waits.ensures.value
    ∙ ap (λ (l : List ℕ). l ++ waits) c.split_at_mut-kept_weights.ensures.value) in
    all_put c.args.out.now.items c.keep_numbers.new.out.items c.keep_numbers-2.new.out.items
    c.keep_numbers-3.new.out.items c.keep_numbers-4.new.out.items weights bits waits rounds c.keep_numbers.new.kept
    c.keep_numbers-2.new.kept c.keep_numbers-3.new.kept c.keep_numbers-4.new.kept c.len-nodes.result (search rules)
    (search rules) (search rules) c.in_ok-keep_numbers.ensures.long c.in_ok-keep_numbers-2.ensures.long
    c.in_ok-keep_numbers-3.ensures.long c.in_ok-keep_numbers.ensures.changes c.in_ok-keep_numbers-2.ensures.changes
    c.in_ok-keep_numbers-3.ensures.changes c.in_ok-keep_numbers-4.ensures.changes
    ∙ ap (λ (l : List ℕ). c.args.out.now.items ++ l) (ap₂ effect (sym parts) (returns-clause-kept c))
