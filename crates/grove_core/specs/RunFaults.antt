-- For the proofs alone: why jobs weren't brought to a finished run.
use Rattle.grove_core.specs.declared.fault.OpenFault.{OpenFault}
use Rattle.grove_core.specs.declared.fault.OpenFault.TheVariants.{BadPlan as BadOpen, Memory as NoRoom}
use Rattle.grove_core.specs.declared.run_fault.RunFault.{RunFault}
use Rattle.grove_core.specs.declared.run_fault.RunFault.TheVariants.{BadPlan, Memory}

abbrev pub fault_of_open : OpenFault → RunFault
fault_of_open (BadOpen t fault) = BadPlan t fault
fault_of_open NoRoom = Memory
