-- Works of a kind of server, as the server's own records have them: a Keep stands there with its writes.
use Rattle.std.specs.Prelude.{Bool, true, false}
use Rattle.sl_cells.specs.Lists.{Reader}
use Rattle.sl_cells.specs.Reading.{guarded}
use Rattle.sl_frames.specs.declared.work.Work.{Work}
use Rattle.sl_frames.specs.declared.work.Work.TheVariants as work
use Rattle.sl_frames.specs.Works.{work_at}

-- a directory server changes cells
abbrev pub is_of_cells : Work → Bool
is_of_cells (work.Change changes) = true
is_of_cells (work.Keep fileid writes) = false
is_of_cells (work.Put fileid offset bytes) = false
is_of_cells (work.Cut fileid size) = false
is_of_cells (work.Drop fileid) = false

-- and a data server does all other work
abbrev pub is_of_bytes : Work → Bool
is_of_bytes (work.Change changes) = false
is_of_bytes (work.Keep fileid writes) = true
is_of_bytes (work.Put fileid offset bytes) = true
is_of_bytes (work.Cut fileid size) = true
is_of_bytes (work.Drop fileid) = true

unfoldable pub cells_work_at : Reader Work
cells_work_at = guarded is_of_cells work_at

unfoldable pub bytes_work_at : Reader Work
bytes_work_at = guarded is_of_bytes work_at
