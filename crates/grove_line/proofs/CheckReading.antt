-- A check that is read a member at a time, and what it asks for.
use Rattle.std.proofs.Common.{◌≡◌, List, ℕ, codes, bytes_eq, false, Some, None, refl, ap}
use Rattle.std.specs.Prelude.{Result, Ok, Err}
use Rattle.serde_json.specs.Data.{Data, Members, no_members, object, put}
use Rattle.serde_json.specs.Find.{as_object}
use Rattle.serde_json.proofs.Views.{get_member-put}
use Rattle.grove_access.specs.declared.access.Access.{Access}
use Rattle.grove_plan.specs.declared.step.Step.{Step}
use Rattle.grove_proof.specs.declared.flow.FlowRow.{FlowRow}
use Rattle.grove_tree.specs.Trees.{Rows}
use Rattle.grove_wire.specs.declared.fault.WireFault.{WireFault}
use Rattle.grove_wire.specs.declared.fault.WireFault.TheVariants.{Shape}
use Rattle.grove_wire.specs.declared.place.Part.TheVariants as part
use Rattle.grove_wire.specs.declared.versions.Version.{Version}
use Rattle.grove_wire.specs.declared.versions.Version.TheVariants.{First, Second}
use Rattle.grove_wire.specs.Forms.{items_of}
use Rattle.grove_wire.specs.Outcomes.{◌>>=◌}
use Rattle.grove_wire.specs.Places.{whole_of}
use Rattle.grove_wire.specs.Reading.{version_in, items_in, list_in, list_on, plan_in, flow_in}
use Rattle.grove_wire.specs.Requests.{Asked, check_of}
use Rattle.grove_line.specs.declared.check.Check.{Check}
use Rattle.grove_line.specs.declared.list_read.ListRead.{ListRead}
use Rattle.grove_line.specs.CheckReading.{IsCheck, asked_in, version_told, plan_told, flow_told}
use Rattle.grove_line.specs.ListReading.{IsListRead, read_in}
use Rattle.grove_line.proofs.ObjectMembers.{put_other}

-- ---- what is read of no members, and with one more

pub nothing_read : (tree : Rows) → IsCheck tree (record {
  version = Ok First;
  list = record { list = Err (Shape (whole_of part.List)); told = None };
  plan = Err (Shape (whole_of part.Plan));
  flow = Err (Shape (whole_of part.Flow));
}) no_members
nothing_read tree = record { version = refl; list = elim [ First ↦ refl | Second ↦ refl ]; plan = refl; flow = refl }

module _ {tree : Rows} {check : Check} {ms : Members} (before : IsCheck tree check ms) (d : Data) where
  pub with_version : (version : Result Version WireFault) → version ≡ version_told (Some d)
      → IsCheck tree (record check { version = version }) (put (codes "version") d ms)
  with_version version is = record {
    version = rw (get_member-put (codes "version") d ms) is;
    list = λ v. rw (put_other (codes "version") (codes "list") ms d refl) (before.list v);
    plan = rw (put_other (codes "version") (codes "plan") ms d refl) before.plan;
    flow = rw (put_other (codes "version") (codes "flow") ms d refl) before.flow;
  }

  pub with_list : (list : ListRead) → IsListRead tree (whole_of part.List) list d
      → IsCheck tree (record check { list = list }) (put (codes "list") d ms)
  unfolding list_on
  with_list list is = record {
    version = rw (put_other (codes "list") (codes "version") ms d refl) before.version;
    list = λ v. rw (get_member-put (codes "list") d ms) (is v);
    plan = rw (put_other (codes "list") (codes "plan") ms d refl) before.plan;
    flow = rw (put_other (codes "list") (codes "flow") ms d refl) before.flow;
  }

  pub with_plan : (plan : Result (List Step) WireFault) → plan ≡ plan_told tree (Some d)
      → IsCheck tree (record check { plan = plan }) (put (codes "plan") d ms)
  with_plan plan is = record {
    version = rw (put_other (codes "plan") (codes "version") ms d refl) before.version;
    list = λ v. rw (put_other (codes "plan") (codes "list") ms d refl) (before.list v);
    plan = rw (get_member-put (codes "plan") d ms) is;
    flow = rw (put_other (codes "plan") (codes "flow") ms d refl) before.flow;
  }

  pub with_flow : (flow : Result (List FlowRow) WireFault) → flow ≡ flow_told tree (Some d)
      → IsCheck tree (record check { flow = flow }) (put (codes "flow") d ms)
  with_flow flow is = record {
    version = rw (put_other (codes "flow") (codes "version") ms d refl) before.version;
    list = λ v. rw (put_other (codes "flow") (codes "list") ms d refl) (before.list v);
    plan = rw (put_other (codes "flow") (codes "plan") ms d refl) before.plan;
    flow = rw (get_member-put (codes "flow") d ms) is;
  }

  pub with_other : (name : List ℕ) → bytes_eq name (codes "version") ≡ false → bytes_eq name (codes "list") ≡ false
      → bytes_eq name (codes "plan") ≡ false → bytes_eq name (codes "flow") ≡ false
      → IsCheck tree check (put name d ms)
  with_other name version list plan flow = record {
    version = rw (put_other name (codes "version") ms d version) before.version;
    list = λ v. rw (put_other name (codes "list") ms d list) (before.list v);
    plan = rw (put_other name (codes "plan") ms d plan) before.plan;
    flow = rw (put_other name (codes "flow") ms d flow) before.flow;
  }

-- ---- what it asks for

parts_of : (version : Result Version WireFault) (list read : Version → Result (List Access) WireFault)
    (next : List Access → Result Asked WireFault) → ((v : Version) → list v ≡ read v)
    → (version >>= λ v. list v >>= next) ≡ ((version >>= read) >>= next)
parts_of (Err fault) list read next same = refl
parts_of (Ok v) list read next same = ap (λ r. r >>= next) (same v)

pub check_asks : (tree : Rows) (check : Check) (ms : Members) → IsCheck tree check ms
    → asked_in check ≡ check_of tree (object ms)
unfolding check_of list_in version_in items_in items_of plan_in flow_in
check_asks tree check ms is = rw (is.version, is.plan, is.flow)
    (parts_of _ (λ v. read_in v check.list) _ _ is.list)

-- what is no object is no check
pub no_check : (tree : Rows) (d : Data) → as_object d ≡ None → Err (Shape (whole_of part.Whole)) ≡ check_of tree d
unfolding check_of
no_check tree d none = rw none refl
