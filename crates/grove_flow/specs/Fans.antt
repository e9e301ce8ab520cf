-- For the proofs alone (of `solve`): the arcs at a variable, from the last of them back.
use Rattle.std.specs.Prelude.{◌≡◌, ◌≢◌, ℕ, ◌<◌, List, length, slice_index_or, Option, None, MatchOption}
use Rattle.grove_flow.specs.declared.network.Arc.{Arc}
use Rattle.grove_flow.specs.declared.network.Network.{Network}
use Rattle.grove_flow.specs.declared.fan.End.{End}
use Rattle.grove_flow.specs.declared.fan.End.TheVariants.{From, To}
use Rattle.grove_flow.specs.declared.fan.Fan.{Fan}
use Rattle.grove_flow.specs.declared.fan.Fans.{Fans}
use Rattle.grove_flow.specs.Networks.{arc_at}

abbrev pub end_of : End → Arc → ℕ
end_of From arc = arc.from
end_of To arc = arc.to

-- the last of the arcs before the bound that end at v, if there is one
abbrev pub IsLastArcAt : End → List Arc → ℕ → ℕ → Option ℕ → Type 0
IsLastArcAt end arcs bound v last =
    MatchOption last ((i : ℕ) → i < bound → end_of end (arc_at arcs i) ≢ v)
    (λ k. (k < bound) × (end_of end (arc_at arcs k) ≡ v)
    × ((i : ℕ) → k < i → i < bound → end_of end (arc_at arcs i) ≢ v))

-- the chains of the arcs before the i-th
pub record AreLinked (i : ℕ) (end : End) (arcs : List Arc) (n : ℕ) (last before : List (Option ℕ)) : Type 0 where
  pub last_size : length last ≡ n
  pub before_size : length before ≡ length arcs
  pub last_is : (v : ℕ) → v < n → IsLastArcAt end arcs i v (slice_index_or last v None)
  pub before_is : (k : ℕ) → k < i → IsLastArcAt end arcs k (end_of end (arc_at arcs k)) (slice_index_or before k None)

pub record IsFan (end : End) (network : Network) (fan : Fan) : Type 0 where
  pub end_is : fan.end ≡ end
  pub linked : AreLinked (length network.arcs.items) end network.arcs.items (length network.needs.items) fan.last.items
      fan.before.items

pub record AreFans (network : Network) (fans : Fans) : Type 0 where
  pub outs : IsFan From network fans.outs
  pub ins : IsFan To network fans.ins
