use Rattle.std.proofs.Common.{◌≡◌, ℕ, List, length, refl, sym, ap, arith, rules, vec_len, ◌∙◌}
use Rattle.std.specs.Prelude.{Vec}
use Rattle.std.specs.declared.alloc.Global.{Global}
use Rattle.std.proofs.lemmas.Bool.{eqb-true}
use Rattle.std.proofs.lemmas.Grind.{common_steps}
use Rattle.std.proofs.lemmas.List.{with_items_is}
use Rattle.std.proofs.lemmas.Result.{on_ok_weaker}
use Rattle.grove_data.specs.Numbers.{numbers_of}
use Rattle.grove_data.proofs.Kept.{effect_put, kept_same, leaves_either, kept_next, effect_fits, whole_fits}
use Rattle.grove_data.proofs.Lengths.{unchanged_numbers}
use Rattle.grove_data.proofs.Stores.{numbers_long}
use Rattle.grove_data.proofs.Words.{as_many}
use Rattle.grove_data.proofs.data.Data.keep_change.Goals as goal

pub keep_store-requires : goal.keep_store-requires
keep_store-requires g c =
    omega (
      arith,
      ap (λ (l : List ℕ). length l) (c.deref_mut.ensures.value ∙ c.requires.1.numbers),
      as_many c.requires.0 c.args.store.now c.requires.2,
      numbers_long c.args.store.now c.requires.2.new,
    )

pub returns-then-is_empty-clause-kept : goal.returns-then-is_empty-clause-kept
returns-then-is_empty-clause-kept g c =
    let kept = c.in_ok-keep_store.ensures in
    let now = with_items_is c.args.self.now.kept c.keep_store.new.kept (search rules) ∙ kept.kept in
    let payload = effect_put kept.changes c.clear.ensures.items c.deref_mut.ensures.value (sym now) in
    let none_there : vec_len c.keep_store.new.out ≡ 0 =
    eqb-true (vec_len c.keep_store.new.out) 0 (sym c.is_empty.ensures ∙ c.if-is_empty.true) in
    let empty : length c.keep_store.new.out.items ≡ 0 = first_of (search rules, grind (arith, common_steps)) in
    let same : numbers_of c.args.store.now ≡ numbers_of c.requires.0 =
    unchanged_numbers c.requires.1.numbers now (as_many c.requires.0 c.args.store.now c.requires.2) payload empty in
    kept_same g.F.Device.seen g.F.Device.may_leave g.F.Device.faults c.args.self.now _ c.requires.0 c.args.store.now
    c.requires.1 refl refl now c.requires.2 same kept.fit

pub write-requires-clause-short : goal.write-requires-clause-short
write-requires-clause-short g c =
    let kept = c.in_ok-keep_store.ensures in
    let payload = effect_put kept.changes c.clear.ensures.items c.deref_mut.ensures.value refl in
    omega (
      arith,
      ap (λ (l : List ℕ). length l) payload,
      effect_fits g.F.Device.seen g.F.Device.may_leave g.F.Device.faults c.args.self.now c.requires.0 c.args.store.now
          c.requires.1 c.requires.2 kept.fit _ refl,
    )

pub write-requires-clause-whole : goal.write-requires-clause-whole
write-requires-clause-whole g c =
    let kept = c.in_ok-keep_store.ensures in
    let now = with_items_is c.args.self.now.kept c.keep_store.new.kept (search rules) ∙ kept.kept in
    whole_fits g.F.Device.seen g.F.Device.may_leave g.F.Device.faults c.args.self.now c.requires.0 c.args.store.now
    c.requires.1 c.requires.2 kept.fit _ now

pub returns-clause-kept : goal.returns-clause-kept
returns-clause-kept g c =
    let kept = c.in_ok-keep_store.ensures in
    let now = with_items_is c.args.self.now.kept c.keep_store.new.kept (search rules) ∙ kept.kept in
    let payload = effect_put kept.changes c.clear.ensures.items c.deref_mut.ensures.value (sym now) in
    on_ok_weaker c.write.result
    (λ done. kept_next g.F.Device.seen g.F.Device.may_leave g.F.Device.faults c.args.self.now c.requires.0
    c.args.store.now c.requires.1 c.requires.2 kept.fit _ now payload _ done.0 done.1 done.2 c.write.ensures.same.0
    (ap (λ (v : Vec ℕ Global). v.items) c.write.ensures.same.1)) c.write.ensures.acknowledged

pub returns-clause-any_moment : goal.returns-clause-any_moment
returns-clause-any_moment g c =
    let kept = c.in_ok-keep_store.ensures in
    let now = with_items_is c.args.self.now.kept c.keep_store.new.kept (search rules) ∙ kept.kept in
    let payload = effect_put kept.changes c.clear.ensures.items c.deref_mut.ensures.value (sym now) in
    λ other keeps.
    leaves_either g.F.Device.seen g.F.Device.may_leave g.F.Device.faults c.args.self.now c.requires.0 c.args.store.now
    c.requires.1 c.requires.2 kept.fit _ now payload g.F.Device.moment g.F.Device.left_since c.write.new.self.log.device
    other keeps c.write.ensures.any_moment
