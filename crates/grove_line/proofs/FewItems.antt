-- The first items of an array, each looked at, one after the other.
use Rattle.std.proofs.Common.{◌≡◌, ℕ, ◌≤◌, List, [], ◌∷◌, ◌++◌, length, map, Option, Some, None, refl, sym, ap, arith}
use Rattle.std.proofs.Common.{length-append}
use Rattle.std.proofs.lemmas.List.{map-append}
use Rattle.json.specs.Token.{Token}
use Rattle.serde_json.specs.Data.{Data}
use Rattle.grove_wire.specs.declared.scalars.Scalar.{Scalar}
use Rattle.grove_wire.specs.FlatValues.{seen, flat, two_to_four, flat_few}
use Rattle.grove_line.specs.TokenValues.{AreItems, ItemsSoFar, IsNext, items_at}
use Rattle.grove_line.proofs.TokenValues.{items_begin}

pub too_many : (xs : List Data) → 5 ≤ length xs → None ≡ two_to_four xs
too_many [] more = absurd (omega arith)
too_many (a ∷ []) more = absurd (omega arith)
too_many (a ∷ b ∷ []) more = absurd (omega arith)
too_many (a ∷ b ∷ c ∷ []) more = absurd (omega arith)
too_many (a ∷ b ∷ c ∷ d ∷ []) more = absurd (omega arith)
too_many (a ∷ b ∷ c ∷ d ∷ e ∷ xs) more = refl

pub still_many : (xs : List Data) (x : Data) → 5 ≤ length xs → 5 ≤ length (xs ++ x ∷ [])
still_many xs x more = omega (arith, length-append xs (x ∷ []))

-- of the items of an array these are read, and seen so
abbrev pub AreSeen : ℕ → List Token → List Token → List Data → Type 0
AreSeen depth start ts xs = (front : List Data) × ItemsSoFar depth start ts front × (xs ≡ map flat front)

module _ {depth : ℕ} {start : List Token} where
  pub seen_none : AreSeen depth start start []
  seen_none = ([], items_begin depth start, refl)

  module _ {ts : List Token} {xs : List Data} (so_far : AreSeen depth start ts xs) where
    pub seen_stop : ((begin : List Token) (front : List Data) → ItemsSoFar depth begin ts front
        → items_at depth (length begin) begin ≡ None) → items_at depth (length start) start ≡ None
    seen_stop stops = stops start so_far.0 so_far.1

    module _ {rest : List Token} {next : Option Scalar} (read : (begin : List Token) (front : List Data)
        → ItemsSoFar depth begin ts front → IsNext next depth begin rest front) where
      pub seen_over : next ≡ None → (ds : List Data) × AreItems depth start rest ds × (two_to_four xs ≡ flat_few ds)
      seen_over is = (so_far.0, rw is at (read start so_far.0 so_far.1), ap two_to_four so_far.2)

      pub seen_more : {s : Scalar} → next ≡ Some s → AreSeen depth start rest (xs ++ seen s ∷ [])
      seen_more is =
          let more = rw is at (read start so_far.0 so_far.1) in
          (so_far.0 ++ more.0 ∷ [], more.1, rw (so_far.2, more.2) (sym (map-append flat so_far.0 (more.0 ∷ []))))
