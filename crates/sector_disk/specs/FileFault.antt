-- Which fault of a file an error of the system is.
use Rattle.{std.specs.declared.io.ErrorKind.ErrorKind, sector_disk.specs.declared.file_device.FileFault.FileFault}

-- lack of memory, and one fault for all else
abbrev pub fault_of : ErrorKind → FileFault
fault_of ErrorKind.OutOfMemory = FileFault.Memory
fault_of _ = FileFault.Failed
