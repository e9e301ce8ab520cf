-- At most one plan is settled.
use Rattle.std.proofs.Common.{◌≡◌, ℕ, length, sym, ◌∙◌, ap, arith}
use Rattle.grove_plan.specs.Plans.{IsForced}
use Rattle.grove_plan.specs.Slots.{first_lock_slot, first_release_slot}
use Rattle.grove_proof.proofs.ForcedList.{forced_lists_same}
use Rattle.grove_build.specs.Layout.{laid_out}
use Rattle.grove_build.specs.Settled.{SettledOnce}
use Rattle.grove_build.proofs.Runs.{Has}
use Rattle.grove_build.proofs.Alike.{laid_alike}

pub settled_one : SettledOnce
settled_one rows nodes lengths plan other h k =
    let e : k.list ≡ h.list = forced_lists_same rows nodes k.list h.list k.is_forced_list h.is_forced_list in
    let locks : (v : ℕ) → Has h.list v → first_lock_slot plan v ≡ first_lock_slot other v = λ v a.
    let f : IsForced rows nodes v = (h.is_forced_list.forced v).0 a in
    omega (arith, k.lock_latest plan h.least v f, h.lock_latest other k.least v f) in
    let releases : (v : ℕ) → Has h.list v → first_release_slot plan v ≡ first_release_slot other v = λ v a.
    let f : IsForced rows nodes v = (h.is_forced_list.forced v).0 a in
    omega (arith, k.release_latest plan h.least v f, h.release_latest other k.least v f) in
    h.laid
    ∙ (laid_alike rows h.list (first_lock_slot plan) (first_release_slot plan) (first_lock_slot other) (first_release_slot other) locks
    releases (length nodes)
    ∙ (ap (λ l. laid_out rows l (first_lock_slot other) (first_release_slot other) (length nodes)) (sym e)
    ∙ sym k.laid))
