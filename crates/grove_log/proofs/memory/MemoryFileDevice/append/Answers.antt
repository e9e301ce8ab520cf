use Rattle.std.proofs.Common.{List, ℕ, refl, sym, subst, ◌∙◌}
use Rattle.grove_log.specs.Devices.{Torn}
use Rattle.grove_log.proofs.Crash.{torn_not}
use Rattle.grove_log.proofs.Kept.{elapses_to}
use Rattle.grove_log.proofs.memory.MemoryFileDevice.append.Goals as goal

pub returns-clause-time : goal.returns-clause-time
returns-clause-time c =
    let past = c.in_ok-replace.ensures.past in
    elapses_to c.args.self.now.past.items c.replace.new.past.items past.0 c.args.self.now.bytes.items
    c.replace.new.bytes.items past.1 past.2

pub returns-in_err-next-clause-crash : goal.returns-in_err-next-clause-crash
returns-in_err-next-clause-crash c = λ f now.
    let old = c.args.self.now.bytes.items in
    let bytes = c.args.bytes.now in
    (old, refl, subst (λ (l : List ℕ). Torn bytes old l) (sym now) (torn_not bytes old))

pub returns-in_err-extend_from_slice-clause-crash : goal.returns-in_err-extend_from_slice-clause-crash
returns-in_err-extend_from_slice-clause-crash c = λ f now.
    let old = c.args.self.now.bytes.items in
    let bytes = c.args.bytes.now in
    (old, refl, subst (λ (l : List ℕ). Torn bytes old l) (sym now) (torn_not bytes old))

pub returns-in_err-replace-clause-crash : goal.returns-in_err-replace-clause-crash
returns-in_err-replace-clause-crash c = λ f now.
    let old = c.args.self.now.bytes.items in
    let bytes = c.args.bytes.now in (
      old,
      refl,
      subst (λ (l : List ℕ). Torn bytes old l) (sym (now ∙ c.in_err-replace.ensures.err)) (torn_not bytes old),
    )
