-- For the proofs alone: what a reader of single items gives of those of an array.
use Rattle.std.specs.Prelude.{◌≡◌, ℕ, ◌+◌, ◌<◌, ◌≤◌, List, [], ◌∷◌, length, Result, Ok, Err}
use Rattle.std.specs.Fn.{Shared, FnReturns}
use denote.Ref.{Bor}
use Rattle.serde_json.specs.declared.value.Value.{Value}
use Rattle.grove_wire.specs.declared.fault.WireFault.{WireFault}
use Rattle.grove_wire.specs.declared.fault.WireFault.TheVariants.{Limit, Memory}
use Rattle.grove_wire.specs.declared.place.Place.{Place}
use Rattle.grove_wire.specs.Outcomes.{◌>>=◌}

-- a call of a reader at a number and at a `&` to a value may give r
pub record ReadsAt {F T : Type 0} (g : Shared F (ℕ × (Bor Value × Unit {0})) (Result T WireFault)) (reader : F)
    (at : ℕ) (value : Value) (r : Result T WireFault) : Type 0 where
  pub shown : Bor Value
  pub shows : shown.now ≡ value
  pub says : FnReturns g reader (at, (shown, tt)) r

-- what is read of values, the first of which has the number `at`: all of them, or the first fault
pub data EachRead {T : Type 0} (Reads : ℕ → Value → Result T WireFault → Type 0)
    : ℕ → List Value → Result (List T) WireFault → Type 0 where
  ends : (at : ℕ) → EachRead Reads at [] (Ok [])
  stops : (at : ℕ) (value : Value) (values : List Value) (fault : WireFault) → Reads at value (Err fault)
      → EachRead Reads at (value ∷ values) (Err fault)
  goes : (at : ℕ) (value : Value) (values : List Value) (x : T) (rest : Result (List T) WireFault)
      → Reads at value (Ok x) → EachRead Reads (at + 1) values rest
      → EachRead Reads at (value ∷ values) (rest >>= λ xs. Ok (x ∷ xs))

-- where there are more than are taken, that is the fault
pub record FewRead {T : Type 0} (most : ℕ) (place : Place) (Reads : ℕ → Value → Result T WireFault → Type 0)
    (values : List Value) (read : Result (List T) WireFault) : Type 0 where
  pub many : most < length values → read ≡ Err (Limit place)
  pub few : length values ≤ most → EachRead Reads 0 values read

-- what is read ends with a fault, or memory has run out
abbrev pub Stopped : {T : Type 0} → WireFault → (Result (List T) WireFault → Type 0) → Type 0
Stopped fault Read = (fault ≡ Memory → ⊥) → Read (Err fault)
