use Rattle.std.proofs.Common.{◌≡◌, length, refl, sym, ◌∙◌, rules, arith}
use Rattle.grove_log.proofs.Calls.{before_restart, in_write, in_rename}
use Rattle.grove_log.proofs.Crash.{alone, file_is}
use Rattle.std.proofs.lemmas.Option.{same_Some}
use Rattle.grove_log.proofs.log.Log.restart.Goals as goal

pub returns-in_err-bytes-clause-any_moment : goal.returns-in_err-bytes-clause-any_moment
returns-in_err-bytes-clause-any_moment g c = grind (arith, before_restart)

pub returns-in_err-write_next-clause-any_moment : goal.returns-in_err-write_next-clause-any_moment
returns-in_err-write_next-clause-any_moment g c = grind (arith, in_write)

pub returns-in_err-rename_next-clause-any_moment : goal.returns-in_err-rename_next-clause-any_moment
returns-in_err-rename_next-clause-any_moment g c = λ is_open.
    let long : length c.args.number.now.bytes ≡ 32 = search rules in
    let is_file = file_is c.args.number.now.bytes c.args.payload.now c.deref.result.now c.of-seal.result.bytes
    (c.deref.ensures.value ∙ c.in_ok-bytes.ensures) c.of-seal.ensures in
    in_rename g.F.Device.seen g.F.Device.may_leave g.F.Device.moment g.F.Device.left_since
    g.met.F.Device.only_now c.args.self.now.device c.args.payload.now (c.requires.ready is_open).0
    c.write_next.new.self c.write_next.ensures.crash c.write_next.ensures.time
    c.args.number.now.bytes c.deref.result.now _ c.rename_next.new.self long c.requires.short is_file
    c.in_ok-write_next.ensures.next c.rename_next.ensures.crash c.rename_next.ensures.time

pub returns-clause-any_moment : goal.returns-clause-any_moment
returns-clause-any_moment g c = λ is_open.
    let long : length c.args.number.now.bytes ≡ 32 = search rules in
    let is_file = file_is c.args.number.now.bytes c.args.payload.now c.deref.result.now c.of-seal.result.bytes
    (c.deref.ensures.value ∙ c.in_ok-bytes.ensures) c.of-seal.ensures in
    in_rename g.F.Device.seen g.F.Device.may_leave g.F.Device.moment g.F.Device.left_since
    g.met.F.Device.only_now c.args.self.now.device c.args.payload.now (c.requires.ready is_open).0
    c.write_next.new.self c.write_next.ensures.crash c.write_next.ensures.time
    c.args.number.now.bytes c.deref.result.now _ c.rename_next.new.self long c.requires.short is_file
    c.in_ok-write_next.ensures.next c.rename_next.ensures.crash c.rename_next.ensures.time

pub returns-clause-acknowledged : goal.returns-clause-acknowledged
returns-clause-acknowledged g c =
    let long : length c.args.number.now.bytes ≡ 32 = search rules in
    let is_file = file_is c.args.number.now.bytes c.args.payload.now c.deref.result.now c.of-seal.result.bytes
    (c.deref.ensures.value ∙ c.in_ok-bytes.ensures) c.of-seal.ensures in
    let d = alone c.args.number.now.bytes c.args.payload.now (g.F.Device.seen c.rename_next.new.self) long
    c.requires.short
    (same_Some _ _ (sym c.in_ok-rename_next.ensures.renamed ∙ c.in_ok-write_next.ensures.next) ∙ is_file) in (
      refl,
      record {
        file = d.whole;
        seal = c.of-seal.ensures ∙ sym d.seal;
        durable = c.in_ok-rename_next.ensures.durable;
        unfailed = c.in_ok-rename_next.ensures.cause.steady ∙ c.in_ok-write_next.ensures.cause.steady
            ∙ (c.requires.ready c.if-not-self.false).1;
      },
      d.stands.payloads,
    )
