-- Why two files give no airport, from what failed below.
use Rattle.apron_base.specs.declared.shelf.ShelfFault.{ShelfFault as Unread}
use Rattle.apron_base.specs.declared.shelf.ShelfFault.TheVariants as unread
use Rattle.airport_files.specs.declared.read.FileFault.{FileFault}
use Rattle.airport_files.specs.declared.read.FileFault.TheVariants as file
use Rattle.apron_check.specs.declared.faults.FilesFault.{FilesFault}
use Rattle.apron_check.specs.declared.faults.FilesFault.TheVariants.{Faulty, ShelfFault, Memory}

-- a fault in what the files say; a lack of memory stays one
abbrev pub of_file_fault : FileFault → FilesFault
of_file_fault file.Memory = Memory
of_file_fault fault = Faulty fault

-- why there is no airport if a file isn't given; a file that is too long has its own fault
abbrev pub unread_as : Unread → FilesFault → FilesFault
unread_as unread.Failed too_long = ShelfFault
unread_as unread.TooLong too_long = too_long
unread_as unread.Memory too_long = Memory
