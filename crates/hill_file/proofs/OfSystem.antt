-- An error of the system becomes a fault of the system's.
use Rattle.{std.specs.declared.io.ErrorKind.ErrorKind, hill_file.specs.{declared.open_fault.OpenFault.OpenFault, OpenFault.{open_fault_of, IsOfSystem, IsWhateverHeld}}}

pub fault_of_system : (kind : ErrorKind) → IsOfSystem (open_fault_of kind)
fault_of_system ErrorKind.OutOfMemory = tt
fault_of_system _ = tt

-- it is one whatever the file holds
pub whatever_held : (fault : OpenFault) → IsOfSystem fault → IsWhateverHeld fault
whatever_held OpenFault.Memory is = tt
whatever_held OpenFault.Locked is = tt
whatever_held OpenFault.Occupied is = is
whatever_held (OpenFault.Failed kind) is = tt
