use Rattle.std.proofs.Common.{◌≡◌, ◌++◌, string_bytes}
use Rattle.std.specs.Option.{option_to_list, option_map}
use Rattle.form_urlencoded.specs.Form.{raw_pairs}
use Rattle.form_urlencoded.specs.Parse.{pairs_left}
use Rattle.grove_page.specs.Queries.{values_beside}
use Rattle.grove_page.proofs.query.value_of.Given as goal

-- what was found, and what is left
abbrev pub invariant-loop-pair : goal.invariant-loop-pair
invariant-loop-pair l =
    (goal.iterator-loop-pair).can_next l.pair-iterator ×
    (goal.iterator-loop-pair).is_finite l.pair-iterator ×
    (values_beside l.name (raw_pairs l.query)
    ≡ option_to_list (option_map string_bytes l.found) ++ values_beside l.name (pairs_left l.pair-iterator))
