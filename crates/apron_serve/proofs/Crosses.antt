-- The journal of two files may go to another thread if its disk may.
use denote.Param.Send.{IsSend, sendable}
use denote.RattleType.{RattleType}
use Rattle.std.proofs.Crossing.{crosses}
use Rattle.journal_disk.specs.declared.disk.Disk as disks
use Rattle.apron_run.specs.declared.files_journal.OfFiles as files
use Rattle.apron_run.specs.contracts.files_journal.FilesJournal as FilesJournal

pub files_send : (N D : RattleType) (g : files.Ghosts N.Denot) (h : disks.Ghosts D.Denot) → IsSend N → IsSend D → IsSend (FilesJournal.the_row N D g h)
files_send N D g h names_send disk_send = search (sendable, crosses) depth 60 fits 20000
