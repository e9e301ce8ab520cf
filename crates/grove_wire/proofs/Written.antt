-- Values written in turn, by a loop that has written some of them.
use Rattle.std.proofs.Common.{◌≡◌, ℕ, ◌+◌, ◌<◌, ◌≤◌, List, [], ◌∷◌, ◌++◌, length, take, get_or, Some, Vec, Global, ap, sym, ◌∙◌}
use Rattle.std.specs.Prelude.{Result, Ok, map}
use Rattle.std.proofs.lemmas.List.{take_more, take_all, map_push}
use Rattle.serde_json.specs.Data.{Data, array}
use Rattle.serde_json.specs.Find.{get}
use Rattle.serde_json.specs.View.{view, items_of}
use Rattle.serde_json.specs.declared.value.Value.{Value, Array}
use Rattle.serde_json.proofs.Views.{view-Array}
use Rattle.grove_wire.specs.declared.fault.WireFault.{WireFault}
use Rattle.grove_wire.specs.Forms as form
use Rattle.grove_wire.specs.Outcomes.{each_from}
use Rattle.grove_wire.proofs.Each.{each_pushed}
use Rattle.grove_wire.proofs.Items.{items_are_views}

-- one more item of a list is the item at the place
take_turn : {A : Type 0} (xs : List A) (at : ℕ) (x : A) → at < length xs → x ≡ get_or xs at x → take (at + 1) xs ≡ take at xs ++ x ∷ []
take_turn xs at x within is = take_more xs at x within ∙ ap (λ y. take at xs ++ y ∷ []) (sym is)

module _ {A : Type 0} (values : List Value) (value : Value) (xs : List A) (at : ℕ) (x : A) (within : at < length xs) (is : x ≡ get_or xs at x) where
  -- a value that is pushed is the next item's
  pub written_more : (data_of : A → Data) → map view values ≡ map data_of (take at xs) → view value ≡ data_of x → map view (values ++ value ∷ []) ≡ map data_of (take (at + 1) xs)
  written_more data_of so_far next = map_push view values value ∙ ap (λ ds. ds ++ view value ∷ []) so_far ∙ ap (λ d. map data_of (take at xs) ++ d ∷ []) next
      ∙ sym (map_push data_of (take at xs) x) ∙ ap (λ ys. map data_of ys) (sym (take_turn xs at x within is))

  -- and reads as the next item, where it does so at any place
  pub reads_more : (read : ℕ → Data → Result A WireFault) → each_from read 0 (map view values) ≡ Ok (take at xs) → ((place : ℕ) → read place (view value) ≡ Ok x)
      → each_from read 0 (map view (values ++ value ∷ [])) ≡ Ok (take (at + 1) xs)
  reads_more read so_far next = ap (λ ds. each_from read 0 ds) (map_push view values value) ∙ each_pushed read (view value) x (map view values) (take at xs) next so_far
      ∙ ap (λ ys. Ok ys) (sym (take_turn xs at x within is))

-- the array of the values
pub written_all : {A : Type 0} (v : Vec Value Global) (xs : List A) (at : ℕ) (data_of : A → Data) → length xs ≤ at → map view v.items ≡ map data_of (take at xs)
    → view (Array v) ≡ array (items_of (map data_of xs))
written_all v xs at data_of beyond so_far = view-Array v ∙ ap (λ ds. array (items_of ds)) so_far ∙ ap (λ ys. array (items_of (map data_of ys))) (take_all at xs beyond)

pub reads_all : {A : Type 0} (v : Vec Value Global) (xs : List A) (at : ℕ) (read : ℕ → Data → Result A WireFault) → length xs ≤ at → each_from read 0 (map view v.items) ≡ Ok (take at xs)
    → each_from read 0 (map view v.items) ≡ Ok xs
reads_all v xs at read beyond so_far = so_far ∙ ap (λ ys. Ok ys) (take_all at xs beyond)

-- the items of a member that is an array of values
pub member_items : (name : List ℕ) (d : Data) (v : Vec Value Global) → get name d ≡ Some (view (Array v)) → form.items_of name d ≡ Some (map view v.items)
unfolding form.items_of
member_items name d v is = rw (is, view-Array v) (ap (λ ds. Some ds) (items_are_views v.items))
