use Rattle.std.proofs.Common.{◌≡◌, ◌++◌, List, ℕ, refl, sym, ◌∙◌, ap, subst}
use Rattle.grove_log.specs.Devices.{Only}
use Rattle.grove_log.specs.Files.{reading_of}
use Rattle.grove_log.specs.Frames.{digest, frame}
use Rattle.grove_log.proofs.Calls.{before_append, in_append, in_sync}
use Rattle.grove_log.proofs.Crash.{done, frame_is}
use Rattle.grove_log.proofs.log.Log.append.Goals as goal

pub append-requires : goal.append-requires
append-requires g c =
    let s = c.requires.ready c.if-not-self.false in
    let framed = frame_is (reading_of (g.D.Device.seen c.args.self.now.device)).seal c.args.payload.now
    c.deref.result.now c.of-seal.result.bytes c.args.self.now.seal.bytes
    (c.deref.ensures.value ∙ c.in_ok-bytes.ensures) c.of-seal.ensures s.seal in
    (c.args.payload.now, c.requires.short, framed)

pub sync-requires : goal.sync-requires
sync-requires g c = c.in_ok-append.ensures.cause.steady ∙ (c.requires.ready c.if-not-self.false).unfailed

pub returns-in_err-bytes-clause-any_moment : goal.returns-in_err-bytes-clause-any_moment
returns-in_err-bytes-clause-any_moment g c = λ is_open.
    let s = c.requires.ready is_open in
    before_append g.D.Device.seen g.D.Device.may_leave g.D.Device.moment g.D.Device.left_since
    g.met.D.Device.only_now c.args.self.now.device c.args.payload.now s.file s.durable

pub returns-in_err-append-clause-any_moment : goal.returns-in_err-append-clause-any_moment
returns-in_err-append-clause-any_moment g c = λ is_open.
    let s = c.requires.ready is_open in
    let framed = frame_is (reading_of (g.D.Device.seen c.args.self.now.device)).seal c.args.payload.now
    c.deref.result.now c.of-seal.result.bytes c.args.self.now.seal.bytes
    (c.deref.ensures.value ∙ c.in_ok-bytes.ensures) c.of-seal.ensures s.seal in
    in_append g.D.Device.seen g.D.Device.may_leave g.D.Device.moment g.D.Device.left_since
    g.met.D.Device.only_now c.args.self.now.device c.args.payload.now s.file s.durable
    c.deref.result.now c.append.new.self c.requires.short framed c.append.ensures.crash c.append.ensures.time

pub returns-in_err-sync-clause-any_moment : goal.returns-in_err-sync-clause-any_moment
returns-in_err-sync-clause-any_moment g c = λ is_open.
    let s = c.requires.ready is_open in
    let framed = frame_is (reading_of (g.D.Device.seen c.args.self.now.device)).seal c.args.payload.now
    c.deref.result.now c.of-seal.result.bytes c.args.self.now.seal.bytes
    (c.deref.ensures.value ∙ c.in_ok-bytes.ensures) c.of-seal.ensures s.seal in
    in_sync g.D.Device.seen g.D.Device.may_leave g.D.Device.moment g.D.Device.left_since
    g.met.D.Device.only_now c.args.self.now.device c.args.payload.now s.file s.durable
    c.deref.result.now c.append.new.self c.requires.short framed c.append.ensures.crash c.append.ensures.time
    c.sync.new.self c.sync.ensures.crash c.sync.ensures.time

pub returns-clause-any_moment : goal.returns-clause-any_moment
returns-clause-any_moment g c = λ is_open.
    let s = c.requires.ready is_open in
    let framed = frame_is (reading_of (g.D.Device.seen c.args.self.now.device)).seal c.args.payload.now
    c.deref.result.now c.of-seal.result.bytes c.args.self.now.seal.bytes
    (c.deref.ensures.value ∙ c.in_ok-bytes.ensures) c.of-seal.ensures s.seal in
    in_sync g.D.Device.seen g.D.Device.may_leave g.D.Device.moment g.D.Device.left_since
    g.met.D.Device.only_now c.args.self.now.device c.args.payload.now s.file s.durable
    c.deref.result.now c.append.new.self c.requires.short framed c.append.ensures.crash c.append.ensures.time
    c.sync.new.self c.sync.ensures.crash c.sync.ensures.time

pub returns-clause-acknowledged : goal.returns-clause-acknowledged
returns-clause-acknowledged g c =
    let s = c.requires.ready c.if-not-self.false in
    let file = g.D.Device.seen c.args.self.now.device in
    let new = g.D.Device.seen c.sync.new.self in
    let framed = frame_is (reading_of (g.D.Device.seen c.args.self.now.device)).seal c.args.payload.now
    c.deref.result.now c.of-seal.result.bytes c.args.self.now.seal.bytes
    (c.deref.ensures.value ∙ c.in_ok-bytes.ensures) c.of-seal.ensures s.seal in
    let is_file : new ≡ file ++ frame (reading_of file).seal c.args.payload.now =
    c.sync.ensures.seen ∙ c.in_ok-append.ensures.written ∙ ap (λ (b : List ℕ). file ++ b) framed in
    let d = done file c.args.payload.now new s.file c.requires.short is_file in
    let durable = subst (λ f. Only f (g.D.Device.may_leave c.sync.new.self)) (sym c.sync.ensures.seen)
    c.in_ok-sync.ensures.durable in (
      refl,
      record {
        file = d.whole;
        seal = c.of-seal.ensures ∙ ap (λ (b : List ℕ). digest b c.args.payload.now) s.seal ∙ sym d.seal;
        durable = durable;
        unfailed = c.in_ok-sync.ensures.cause.steady ∙ c.in_ok-append.ensures.cause.steady ∙ s.unfailed;
      },
      d.stands.payloads,
    )
