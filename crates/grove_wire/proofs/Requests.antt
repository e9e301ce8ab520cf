-- What a session line asks for fits the tree and the limits, and a line is never out of memory by what it says.
use Rattle.std.proofs.Common.{ℕ, ◌≤◌, List, length, subst, bytes_eq, codes}
use Rattle.std.specs.Prelude.{Ok, Err, is_some}
use Rattle.std.specs.List.{All}
use Rattle.serde_json.specs.Data.{Data}
use Rattle.serde_json.specs.Find.{as_object}
use Rattle.grove_tree.specs.Trees.{Rows}
use Rattle.grove_access.specs.ListFaults.{AreListed}
use Rattle.grove_wire.specs.declared.fault.WireFault.TheVariants.{BadJson, Shape}
use Rattle.grove_wire.specs.declared.place.Part.TheVariants as part
use Rattle.grove_wire.specs.declared.versions.Version.TheVariants.{Second}
use Rattle.grove_wire.specs.Outcomes.{or_fault}
use Rattle.grove_wire.specs.Places.{whole_of}
use Rattle.grove_wire.specs.Forms.{as_list}
use Rattle.grove_wire.specs.Reading.{value_of, object_at, list_on, lists_of, list_in, plan_in, flow_in}
use Rattle.grove_wire.specs.Writing.{PlanFits, FlowFits}
use Rattle.grove_wire.specs.RequestLaws.{AskedFits, RequestsFit, ReadingNeedsNoRoom}
use Rattle.grove_wire.specs.Requests.{Plan, Check, Batch, only_member, plan_of, check_of, batch_of, named_of}
use Rattle.grove_wire.specs.Requests.{request_of}
use Rattle.grove_wire.proofs.Fitting.{Reads, then_reads, any_reads, either_reads, list_on_reads, lists_read, list_in_reads, plan_reads, flow_reads}

plan_asks : (rows : Rows) (d : Data) → Reads (AskedFits rows) (plan_of rows d)
unfolding plan_of
plan_asks rows d =
    then_reads (AreListed rows) (AskedFits rows) (list_on rows Second (whole_of part.List) d) (λ list. Ok (Plan list)) (list_on_reads rows Second (whole_of part.List) d) (λ list listed. listed)

object_reads : (d : Data) → Reads (λ object. Unit {0}) (object_at (whole_of part.Whole) d)
object_reads d = either_reads (λ object. Unit {0}) (is_some (as_object d)) (Ok d) (Err (Shape (whole_of part.Whole))) tt tt

check_asks : (rows : Rows) (d : Data) → Reads (AskedFits rows) (check_of rows d)
unfolding check_of
check_asks rows d =
    then_reads (λ object. Unit {0}) (AskedFits rows) (object_at (whole_of part.Whole) d) _ (object_reads d)
    (λ object told.
    then_reads (AreListed rows) (AskedFits rows) (list_in rows object) _ (list_in_reads rows object) (λ list listed.
    then_reads (PlanFits rows) (AskedFits rows) (plan_in rows object) _ (plan_reads rows object) (λ plan plan_fits.
    then_reads (FlowFits rows) (AskedFits rows) (flow_in rows object) (λ flow. Ok (Check list plan flow)) (flow_reads rows object) (λ flow flow_fits. (listed, plan_fits, flow_fits)))))

batch_asks : (rows : Rows) (d : Data) → Reads (AskedFits rows) (batch_of rows d)
unfolding batch_of
batch_asks rows d =
    then_reads (λ ds. Unit {0}) (AskedFits rows) (or_fault (Shape (whole_of part.Lists)) (as_list d)) _ (any_reads (Shape (whole_of part.Lists)) (as_list d) tt) (λ ds told.
    then_reads (λ lists. (length lists ≤ 256) × All (AreListed rows) lists) (AskedFits rows) (lists_of rows Second ds) (λ lists. Ok (Batch lists)) (lists_read rows Second ds) (λ lists fit. fit))

named_asks : (rows : Rows) (name : List ℕ) (d : Data) → Reads (AskedFits rows) (named_of rows name d)
unfolding named_of
named_asks rows name d =
    either_reads (AskedFits rows) (bytes_eq name (codes "plan")) _ _ (plan_asks rows d)
    (either_reads (AskedFits rows) (bytes_eq name (codes "check")) _ _ (check_asks rows d)
    (either_reads (AskedFits rows) (bytes_eq name (codes "batch")) _ _ (batch_asks rows d)
    (either_reads (AskedFits rows) (bytes_eq name (codes "weights")) _ _ tt
    (either_reads (AskedFits rows) (bytes_eq name (codes "reweigh")) _ _ tt tt))))

-- each line asks for what fits, or is refused, but not as out of memory
pub line_asks : (rows : Rows) (line : List ℕ) → Reads (AskedFits rows) (request_of rows line)
unfolding request_of
line_asks rows line =
    then_reads (λ d. Unit {0}) (AskedFits rows) (or_fault BadJson (value_of line)) _ (any_reads BadJson (value_of line) tt) (λ d told.
    then_reads (λ only. Unit {0}) (AskedFits rows) (or_fault (Shape (whole_of part.Whole)) (only_member d)) _ (any_reads (Shape (whole_of part.Whole)) (only_member d) tt)
    (λ only told. named_asks rows only.0 only.1))

pub requests_fit : RequestsFit
requests_fit rows line asked is = subst (Reads (AskedFits rows)) is (line_asks rows line)

pub reading_needs_no_room : ReadingNeedsNoRoom
reading_needs_no_room rows line is = subst (Reads (AskedFits rows)) is (line_asks rows line)
