-- The one member of an object, and what it asks for, read a member at a time.
use Rattle.std.proofs.Common.{◌≡◌, ℕ, suc, ◌≤◌, Bool, true, false, List, Ordering, Less, Equal, Greater, inl, inr, None}
use Rattle.std.proofs.Common.{refl, ap, sym, ◌∙◌, is_eq, arith, bytes_eq}
use Rattle.std.specs.Cmp.Lexicographic.{slice_cmp}
use Rattle.std.specs.Ordering.{nat_cmp, match_ordering}
use Rattle.std.specs.Prelude.{codes, Result, Ok, Err}
use Rattle.std.proofs.lemmas.Map.Text.{is_eq-slice_cmp}
use Rattle.std.proofs.lemmas.Slice.Eq.{bytes_eq-Decides}
use Rattle.serde_json.specs.Data.{Data, Members, no_members, member, put}
use Rattle.serde_json.specs.Find.{as_object}
use Rattle.grove_tree.specs.Trees.{Rows}
use Rattle.grove_access.specs.declared.access.Access.{Access}
use Rattle.grove_wire.specs.declared.fault.WireFault.{WireFault}
use Rattle.grove_wire.specs.declared.fault.WireFault.TheVariants.{Shape}
use Rattle.grove_wire.specs.declared.place.Part.TheVariants as part
use Rattle.grove_wire.specs.declared.versions.Version.TheVariants.{Second}
use Rattle.grove_wire.specs.Forms.{as_list}
use Rattle.grove_wire.specs.Outcomes.{◌>>=◌, of_form}
use Rattle.grove_wire.specs.Places.{whole_of}
use Rattle.grove_wire.specs.Reading.{list_on, lists_of}
use Rattle.grove_wire.specs.Requests as asking
use Rattle.grove_wire.specs.Requests.{named_of, only_of, plan_of, check_of, batch_of}
use Rattle.grove_line.specs.OnlyMember.{asks, count, IsShapeless}

order_same : (text : List ℕ) → slice_cmp nat_cmp text text ≡ Equal
order_same text = by_order (slice_cmp nat_cmp text text) refl
  where
    same : is_eq (slice_cmp nat_cmp text text) ≡ true
    same = is_eq-slice_cmp text text ∙ (bytes_eq-Decides text text).1 refl

    by_order : (o : Ordering) → slice_cmp nat_cmp text text ≡ o → slice_cmp nat_cmp text text ≡ Equal
    by_order Less is = absurd (cc (ap is_eq is, same))
    by_order Equal is = is
    by_order Greater is = absurd (cc (ap is_eq is, same))

pub put_again : (text : List ℕ) (d e : Data) → put text d (member text e no_members) ≡ member text d no_members
put_again text d e = ap (λ o. match_ordering o (member text d (member text e no_members)) (member text d no_members)
    (member text e (member text d no_members))) (order_same text)

-- another member makes two
put_two : (text other : List ℕ) (d e : Data) → (text ≡ other → ⊥) → 2 ≤ count (put text d (member other e no_members))
put_two text other d e apart = by_order (slice_cmp nat_cmp text other) refl
  where
    by_order : (o : Ordering) → slice_cmp nat_cmp text other ≡ o
        → 2 ≤ count (match_ordering o (member text d (member other e no_members)) (member other d no_members)
        (member other e (member text d no_members)))
    by_order Less is = omega arith
    by_order Equal is =
        absurd (apart ((bytes_eq-Decides text other).0 (sym (is_eq-slice_cmp text other) ∙ ap is_eq is)))
    by_order Greater is = omega arith

-- members are at least so many, whatever is put
put_count : (text : List ℕ) (d : Data) (ms : Members) → count ms ≤ count (put text d ms)
put_count text d no_members = omega arith
put_count text d (member other e ms) = by_order (slice_cmp nat_cmp text other) (put_count text d ms)
  where
    by_order : (o : Ordering) → count ms ≤ count (put text d ms) → suc (count ms) ≤ count (match_ordering o
        (member text d (member other e ms)) (member other d ms) (member other e (put text d ms)))
    by_order Less rest = omega arith
    by_order Equal rest = omega arith
    by_order Greater rest = omega (arith, rest)

-- ---- what asks for nothing still does with one more member

pub two_members : (text other : List ℕ) (d e : Data) → bytes_eq text other ≡ false
    → IsShapeless (put text d (member other e no_members))
two_members text other d e apart =
    inl (put_two text other d e (λ same. absurd (cc ((bytes_eq-Decides text other).1 same, apart))))

pub shapeless_put : (text : List ℕ) (d : Data) (ms : Members) → IsShapeless ms → IsShapeless (put text d ms)
shapeless_put text d ms (inl two) = inl (omega (arith, two, put_count text d ms))
shapeless_put text d ms (inr (other, e, is, unknown)) = by_test (bytes_eq text other) refl
  where
    by_test : (test : Bool) → bytes_eq text other ≡ test → IsShapeless (put text d ms)
    by_test true same =
        let equal : text ≡ other = (bytes_eq-Decides text other).0 same in
        rw (is, equal) (inr (other, d, put_again other d e, unknown))
    by_test false apart = rw is (two_members text other d e apart)

-- ---- what an object asks for

-- what is no object asks for nothing
pub no_object_asks : (tree : Rows) (d : Data) → as_object d ≡ None → Err (Shape (whole_of part.Whole)) ≡ asks tree d
no_object_asks tree d none = rw none refl

-- ---- what a name asks for

module _ (tree : Rows) (d : Data) where
  pub plan_named : (read : Result (List Access) WireFault) → read ≡ list_on tree Second (whole_of part.List) d
      → (read >>= λ list. Ok (asking.Plan list)) ≡ named_of tree (codes "plan") d
  unfolding named_of plan_of
  plan_named read is = ap (λ r. r >>= λ list. Ok (asking.Plan list)) is

  pub batch_named : (read : Result (List (List Access)) WireFault)
      → read ≡ (of_form as_list (whole_of part.Lists) d >>= lists_of tree Second)
      → (read >>= λ lists. Ok (asking.Batch lists)) ≡ named_of tree (codes "batch") d
  unfolding named_of batch_of
  batch_named read is = ap (λ r. r >>= λ lists. Ok (asking.Batch lists)) is
      ∙ in_turn (of_form as_list (whole_of part.Lists) d)
    where
      in_turn : (listed : Result (List Data) WireFault)
          → ((listed >>= lists_of tree Second) >>= λ lists. Ok (asking.Batch lists))
          ≡ (listed >>= λ ds. lists_of tree Second ds >>= λ lists. Ok (asking.Batch lists))
      in_turn (Ok ds) = refl
      in_turn (Err fault) = refl
