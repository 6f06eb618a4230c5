-- How a status is told: by the program's exit status, and by its name.
use Rattle.std.specs.Prelude.{ℕ, List, codes}
use Rattle.gate_server.specs.declared.status.Status.{Status}
use Rattle.gate_server.specs.declared.status.Status.TheVariants as statuses

abbrev pub exit_of : Status → ℕ
exit_of statuses.Ok = 0
exit_of statuses.Usage = 2
exit_of (statuses.SettingsBad rule item) = 3
exit_of statuses.NotBegun = 4
exit_of (statuses.NotEmpty count) = 5
exit_of (statuses.JournalBad at) = 6
exit_of statuses.DiskFault = 7
exit_of (statuses.ReadFault settings) = 8
exit_of statuses.WriteFault = 9
exit_of statuses.StreamLong = 12
exit_of statuses.ClockFault = 15
exit_of (statuses.ClockRange reading) = 16
exit_of statuses.Full = 17
exit_of statuses.NoMemory = 20
exit_of statuses.NotBuilt = 21

abbrev pub name_of : Status → List ℕ
name_of statuses.Ok = codes "Ok"
name_of statuses.Usage = codes "Usage"
name_of (statuses.SettingsBad rule item) = codes "SettingsBad"
name_of statuses.NotBegun = codes "NotBegun"
name_of (statuses.NotEmpty count) = codes "NotEmpty"
name_of (statuses.JournalBad at) = codes "JournalBad"
name_of statuses.DiskFault = codes "DiskFault"
name_of (statuses.ReadFault settings) = codes "ReadFault"
name_of statuses.WriteFault = codes "WriteFault"
name_of statuses.StreamLong = codes "StreamLong"
name_of statuses.ClockFault = codes "ClockFault"
name_of (statuses.ClockRange reading) = codes "ClockRange"
name_of statuses.Full = codes "Full"
name_of statuses.NoMemory = codes "NoMemory"
name_of statuses.NotBuilt = codes "NotBuilt"
