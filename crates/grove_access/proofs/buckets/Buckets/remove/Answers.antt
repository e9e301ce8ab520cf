use Rattle.std.proofs.Common.{◌≡◌, ◌<◌, ◌≤◌, length, slice_get, Some, refl, arith}
use Rattle.std.proofs.lemmas.Option.{slice_get_read}
use Rattle.grove_access.proofs.BucketCounts.{counts_less, counts_past_less}
use Rattle.grove_access.proofs.buckets.Buckets.remove.Goals as goal

pub returns-then-bucket-len : goal.returns-then-bucket-len
returns-then-bucket-len c = λ known value out right.
    let within : c.bucket_of-bucket.result < length c.args.self.now.counts.items = omega (arith, c.len.ensures, c.args.self.now.counts.ok.0, c.if-bucket-len.true) in
    let at : slice_get c.args.self.now.counts.items c.bucket_of-bucket.result ≡ Some c.index.result.now = slice_get_read c.args.self.now.counts.items _ c.bucket_of-bucket.result c.index.result.now refl within c.index.ensures in
    counts_less c.args.self.now.counts.items _ known (record { node = c.args.node; value = value }) value c.bucket_of-bucket.result c.index.result.now c.one_less.result
    out c.bucket_of-bucket.ensures within at refl c.one_less.ensures right

pub returns-else-bucket-len : goal.returns-else-bucket-len
returns-else-bucket-len c = λ known value out right.
    let past : length c.args.self.now.counts.items ≤ c.bucket_of-bucket.result = omega (arith, c.len.ensures, c.args.self.now.counts.ok.0, c.if-bucket-len.false) in
    counts_past_less c.args.self.now.counts.items known (record { node = c.args.node; value = value }) value c.bucket_of-bucket.result out c.bucket_of-bucket.ensures past right
