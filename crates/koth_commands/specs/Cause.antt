-- What people are told of what failed, and why.
use Rattle.std.specs.{Prelude.{ℕ, List, ◌++◌, codes, decimal}, declared.io.ErrorKind.ErrorKind}
use Rattle.koth_commands.specs.{Name.shown_name, declared.cause.Cause.Cause, declared.cause.Reason.Reason, declared.cause.Subject.Subject}

-- the reason for an error of the system
abbrev pub error_reason : ErrorKind → Reason
error_reason ErrorKind.NotFound = Reason.Missing
error_reason ErrorKind.PermissionDenied = Reason.NotPermitted
error_reason ErrorKind.NotADirectory = Reason.NoFolder
error_reason ErrorKind.IsADirectory = Reason.Folder
error_reason ErrorKind.NotConnected = Reason.Closed
error_reason ErrorKind.ReadOnlyFilesystem = Reason.ReadOnly
error_reason ErrorKind.FilesystemLoop = Reason.Circle
error_reason ErrorKind.InvalidFilename = Reason.LongName
error_reason ErrorKind.StorageFull = Reason.Full
error_reason ErrorKind.QuotaExceeded = Reason.Full
error_reason ErrorKind.FileTooLarge = Reason.Size
error_reason ErrorKind.InvalidInput = Reason.NoFile
error_reason ErrorKind.AddrInUse = Reason.InUse
error_reason ErrorKind.ResourceBusy = Reason.InUse
error_reason ErrorKind.StaleNetworkFileHandle = Reason.Replaced
error_reason ErrorKind.AlreadyExists = Reason.Taken
error_reason ErrorKind.Unsupported = Reason.Unfit
error_reason ErrorKind.AddrNotAvailable = Reason.Elsewhere
error_reason ErrorKind.BrokenPipe = Reason.ReaderGone
error_reason ErrorKind.WriteZero = Reason.NoRoom
error_reason ErrorKind.UnexpectedEof = Reason.TooShort
error_reason ErrorKind.TimedOut = Reason.Late
error_reason kind = Reason.Other

-- a reason in a few words
abbrev pub reason_text : Reason → List ℕ
reason_text Reason.Missing = codes "no such file or folder"
reason_text Reason.NotPermitted = codes "no permission"
reason_text Reason.NoFolder = codes "a part of the path is no folder"
reason_text Reason.Folder = codes "it is a folder"
reason_text Reason.Closed = codes "it is closed, or a folder"
reason_text Reason.ReadOnly = codes "the file system is read-only"
reason_text Reason.Circle = codes "its links go in a circle"
reason_text Reason.LongName = codes "the name is too long"
reason_text Reason.NoText = codes "its name is not UTF-8"
reason_text Reason.NoSources = codes "no file in it ends with .red"
reason_text Reason.NoEntry = codes "no warrior on the hill has this entry; koth show FILE has them"
reason_text Reason.Full = codes "the disk is full"
reason_text Reason.Size = codes "the file would be too large"
reason_text Reason.NoFile = codes "it is no plain file"
reason_text Reason.InUse = codes "another program uses it"
reason_text Reason.Locked = codes "another program uses it; koth submit --wait SECONDS waits for it"
reason_text Reason.LockedNow =
    codes "another program uses it: if it is served, submit to its port, as (echo SUBMIT; cat SOURCE; echo .; echo QUIT) | nc 127.0.0.1 PORT does; if another submission is under way, --wait SECONDS waits for it"
reason_text Reason.LockedStill =
    codes "another program uses it: if it is served, submit to its port, as (echo SUBMIT; cat SOURCE; echo .; echo QUIT) | nc 127.0.0.1 PORT does"
reason_text Reason.Replaced = codes "another file has this name"
reason_text Reason.Taken = codes "its name with .new after it is taken; remove that file, unless another koth is at work"
reason_text Reason.Unfit = codes "its file system lacks locks or links that a hill needs; take a local disk"
reason_text Reason.Elsewhere = codes "it is not of this machine"
reason_text Reason.NoListening = codes "the system doesn't listen at its address; one of fe80::/10 needs an interface, which --listen doesn't take"
reason_text Reason.ReaderGone = codes "its reader is gone"
reason_text Reason.NoRoom = codes "no more can be written"
reason_text Reason.Late = codes "there was no answer in time"
reason_text Reason.NoName = codes "its name is not known"
reason_text Reason.Unreached = codes "it can't be reached"
reason_text Reason.NoService = codes "nothing is served there"
reason_text Reason.NoAnswer = codes "no answer came"
reason_text Reason.TooShort = codes "it is too short for a hill; is it the right file?"
reason_text Reason.NotEmpty = codes "it isn't empty; koth create --overwrite makes a hill of it all the same"
reason_text Reason.NameInUse = codes "something has this name; take a new one"
reason_text Reason.NoHill = codes "it holds no hill"
reason_text Reason.OldHill = codes "a hill of the old format; koth migrate FILE NEW moves it to a new file"
reason_text Reason.NewHill = codes "it is a hill of the new format already"
reason_text Reason.Header = codes "one of its headers can't be read, so its last submission may be missing; compare it with a copy"
reason_text Reason.Damaged = codes "a warrior in it can't be read; go back to a copy"
reason_text Reason.Unreadable = codes "it can't be read; go back to a copy"
reason_text Reason.Device = codes "reading or writing it failed"
reason_text Reason.Memory = codes "memory ran out"
reason_text Reason.Other = codes "the system reports an error"

-- what a command worked on, as messages have it
abbrev pub subject_name : Subject → List ℕ
subject_name (Subject.File path) = shown_name path.now
subject_name (Subject.Warrior path entry) = shown_name path.now ++ (codes ", warrior " ++ decimal entry)
subject_name (Subject.Port port) = codes "port " ++ decimal port
subject_name Subject.Output = codes "standard output"

-- the line of a subject with this name, and why it failed
abbrev pub reason_told : List ℕ → Reason → List ℕ
reason_told name reason = name ++ (codes ": " ++ (reason_text reason ++ codes "\n"))

-- the line of a cause
abbrev pub cause_told : Cause → List ℕ
cause_told cause = reason_told (subject_name cause.subject) cause.reason
