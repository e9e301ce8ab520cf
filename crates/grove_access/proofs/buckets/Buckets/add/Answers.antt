use Rattle.std.proofs.Common.{arith}
use Rattle.std.proofs.lemmas.Option.{slice_get_read}
use Rattle.grove_access.proofs.BucketCounts.{counts_more, counts_past_more}
use Rattle.grove_access.proofs.buckets.Buckets.add.Goals as goal

pub returns-then-bucket-len : goal.returns-then-bucket-len
returns-then-bucket-len c = grind (arith, counts_more, slice_get_read)

pub returns-else-bucket-len : goal.returns-else-bucket-len
returns-else-bucket-len c = grind (arith, counts_past_more)
