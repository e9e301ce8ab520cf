use Rattle.std.proofs.Common.{ℕ, ◌+◌, refl}
use Rattle.std.proofs.lemmas.Option.{slice_get_read}
use Rattle.grove_access.specs.declared.entry.Entry.{Entry}
use Rattle.grove_core.specs.CarriedTests.{IsNext}
use Rattle.grove_core.proofs.CarriedEntries.{each_more, each_of}
use Rattle.grove_core.proofs.following.follows.Goals as goal

pub loop-ahead-preserved : goal.loop-ahead-preserved
loop-ahead-preserved c =
    each_more (λ (i : ℕ) (e : Entry). IsNext c.args.job.now.list c.args.job.now.plan (c.args.position + i) e) c.args.entries.now c.loop-ahead.ahead c.index-entries-ahead.result c.loop-ahead.invariant
    (slice_get_read c.args.entries.now _ c.loop-ahead.ahead c.index-entries-ahead.result refl c.loop-ahead-test.true c.index-entries-ahead.is)
    (c.is_next.ensures.0 c.if-not-is_next.false)

pub returns : goal.returns
returns c = (λ _. each_of (λ (i : ℕ) (e : Entry). IsNext c.args.job.now.list c.args.job.now.plan (c.args.position + i) e) c.args.entries.now c.loop-ahead.ahead c.loop-ahead-test.false c.loop-ahead.invariant, λ _. refl)
