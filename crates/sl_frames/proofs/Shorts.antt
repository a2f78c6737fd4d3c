-- What has a text is short enough to be written.
use Rattle.std.proofs.Common.{ℕ, List}
use Rattle.sl_cells.proofs.Shorts.{list_short, attr_cell_short, name_cell_short, key_short, change_short, write_short}
use Rattle.sl_cells.specs.Texts.{FitsNameCell, ShortNameCell, FitsKey, ShortKey, FitsChange, ShortChange, FitsWrite, ShortWrite}
use Rattle.sl_frames.specs.declared.work.Work.{Work}
use Rattle.sl_frames.specs.declared.work.Work.TheVariants as work
use Rattle.sl_frames.specs.declared.intent.Part.{Part}
use Rattle.sl_frames.specs.declared.intent.Intent.{Intent}
use Rattle.sl_frames.specs.declared.found.FoundCell.{FoundCell}
use Rattle.sl_frames.specs.declared.found.FoundCell.TheVariants as found
use Rattle.sl_frames.specs.declared.body.Body.{Body}
use Rattle.sl_frames.specs.declared.body.Body.TheVariants as body
use Rattle.sl_frames.specs.Works.{FitsWork, ShortWork, FitsPart, ShortPart, FitsIntent, ShortIntent}
use Rattle.sl_frames.specs.Frames.{FitsFound, ShortFound, FitsBody, ShortBody}

pub work_short : (w : Work) → FitsWork w → ShortWork w
work_short (work.Change changes) fits = list_short FitsChange ShortChange change_short changes fits
work_short (work.Keep fileid writes) fits = list_short FitsWrite ShortWrite write_short writes fits.1
work_short (work.Put fileid offset bytes) fits = fits.1.1
work_short (work.Cut fileid size) fits = tt
work_short (work.Drop fileid) fits = tt

part_short : (p : Part) → FitsPart p → ShortPart p
part_short p fits = work_short p.work fits.0.1.1

pub intent_short : (i : Intent) → FitsIntent i → ShortIntent i
intent_short i fits = list_short FitsPart ShortPart part_short i.parts fits.1.1.0

found_short : (f : FoundCell) → FitsFound f → ShortFound f
found_short found.Absent fits = tt
found_short (found.Attr cell) fits = attr_cell_short cell fits
found_short (found.Name cell) fits = name_cell_short cell fits

pub body_short : (b : Body) → FitsBody b → ShortBody b
body_short body.Hello fits = tt
body_short body.Welcome fits = tt
body_short (body.Forward chosen packet) fits = tt
body_short (body.Packet packet) fits = tt
body_short (body.Ask keys) fits = list_short FitsKey ShortKey key_short keys fits
body_short (body.Found cells) fits = list_short FitsFound ShortFound found_short cells fits
body_short (body.List dir cookie limit) fits = tt
body_short (body.Listed cells more) fits = list_short FitsNameCell ShortNameCell name_cell_short cells fits.0
body_short (body.Mint site) fits = tt
body_short (body.Minted fileid) fits = tt
body_short (body.Intent intent) fits = intent_short intent fits
body_short (body.Decided done) fits = tt
body_short (body.Lock work) fits = work_short work fits
body_short body.Grant fits = tt
body_short body.Refuse fits = tt
body_short body.Apply fits = tt
body_short body.Release fits = tt
body_short body.Ack fits = tt
