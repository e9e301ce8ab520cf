use Rattle.std.proofs.Common.{arith}
use Rattle.std.proofs.lemmas.Bool.{eqb-true}
use Rattle.std.proofs.lemmas.Option.{slice_get_read}
use Rattle.grove_access.proofs.BucketCounts.{none_in}
use Rattle.grove_access.proofs.buckets.Buckets.rule_out.Goals as goal

pub returns-then-bucket-len : goal.returns-then-bucket-len
returns-then-bucket-len c = grind (arith, eqb-true, none_in, slice_get_read)
