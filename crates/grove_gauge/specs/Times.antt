-- The text of a time.
use Rattle.std.specs.Prelude.{ℕ, ◌/◌, ◌%◌, ◌-◌, ◌^◌, ◌++◌, List, [], false, codes, decimal}
use Rattle.std.specs.Fmt.{padded_integral, format_spec}

-- six digits, with zeros before the number
abbrev pub six_digits : ℕ → List ℕ
six_digits n = padded_integral (format_spec 32 0 4 6 (2 ^ 64 - 1)) false [] (decimal n)

-- seconds to the microsecond
abbrev pub seconds_text : ℕ → List ℕ
seconds_text micros = decimal (micros / 1000000) ++ codes "." ++ six_digits (micros % 1000000)
