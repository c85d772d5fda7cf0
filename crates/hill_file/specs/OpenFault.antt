-- Which fault of opening an error of the system is, and which faults are the system's.
use Rattle.{std.specs.declared.io.ErrorKind.ErrorKind, hill_file.specs.declared.open_fault.OpenFault.OpenFault}

-- lack of memory, and all else by its kind
abbrev pub open_fault_of : ErrorKind → OpenFault
open_fault_of ErrorKind.OutOfMemory = OpenFault.Memory
open_fault_of kind = OpenFault.Failed kind

-- the file is refused for the system's own reason, and not for its lock or for what it holds
abbrev pub IsOfSystem : OpenFault → Type 0
IsOfSystem OpenFault.Memory = Unit {0}
IsOfSystem OpenFault.Locked = ⊥
IsOfSystem OpenFault.Occupied = ⊥
IsOfSystem (OpenFault.Failed kind) = Unit {0}

-- the file is not refused for what it holds
abbrev pub IsWhateverHeld : OpenFault → Type 0
IsWhateverHeld OpenFault.Memory = Unit {0}
IsWhateverHeld OpenFault.Locked = Unit {0}
IsWhateverHeld OpenFault.Occupied = ⊥
IsWhateverHeld (OpenFault.Failed kind) = Unit {0}
