-- An error of the system becomes a fault of the system's.
use Rattle.{std.specs.declared.io.ErrorKind.ErrorKind, hill_file.specs.OpenFault.{open_fault_of, IsOfSystem}, hill_file.proofs.OfSystem.fault_of_system as of_system}

pub fault_of_system : (kind : ErrorKind) → IsOfSystem (open_fault_of kind)
fault_of_system kind = of_system kind
