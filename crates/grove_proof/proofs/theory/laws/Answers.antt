-- Each law is a lemma.
use Rattle.grove_proof.proofs.ForcedList.{forced_is_by_tree, forced_list_is_by_tree}
use Rattle.grove_proof.proofs.FiveConstraints.{legal_meets_five}
use Rattle.grove_proof.proofs.WeakDuality.{weak_duality, certified_is_least}
use Rattle.grove_proof.proofs.OneFault.{fault_is_one, certified_is_faultless}
use Rattle.grove_proof.proofs.OneChange.{one_change_is_refused}
use Rattle.grove_proof.proofs.theory.laws.Goals as goal

pub returns : goal.returns
returns c = record {
  forced = forced_is_by_tree;
  span = forced_list_is_by_tree;
  constraints = legal_meets_five;
  bound = weak_duality;
  changed = one_change_is_refused;
  least = certified_is_least;
  fault = fault_is_one;
  faultless = certified_is_faultless;
}
