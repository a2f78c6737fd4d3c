-- What has a text is short enough to be written.
use Rattle.std.proofs.Common.{ℕ, List, Result, Ok, Err}
use Rattle.std.specs.Prelude.{IfOk}
use Rattle.sl_cells.specs.Texts.{Spelled, FitsChange, ShortChange}
use Rattle.sl_cells.proofs.Shorts.{list_short, attr_cell_short, change_short}
use Rattle.sl_frames.proofs.Shorts.{work_short, intent_short}
use Rattle.sl_records.specs.declared.fault.RecordFault.{RecordFault}
use Rattle.sl_records.specs.declared.proxy.ProxyRecord.{ProxyRecord}
use Rattle.sl_records.specs.declared.proxy.ProxyRecord.TheVariants as proxy
use Rattle.sl_records.specs.declared.coordinator.LogEntry.{LogEntry}
use Rattle.sl_records.specs.declared.coordinator.LogEntry.TheVariants as log
use Rattle.sl_records.specs.declared.directory.DirRecord.{DirRecord}
use Rattle.sl_records.specs.declared.directory.DirRecord.TheVariants as dir
use Rattle.sl_records.specs.declared.data_server.DataRecord.{DataRecord}
use Rattle.sl_records.specs.declared.data_server.DataRecord.TheVariants as store
use Rattle.sl_records.specs.Records.{FitsProxy, ShortProxy, FitsLog, ShortLog, FitsDir, ShortDir, FitsData, ShortData}

pub proxy_short : (r : ProxyRecord) → FitsProxy r → ShortProxy r
proxy_short (proxy.Start count) fits = tt

pub log_short : (r : LogEntry) → FitsLog r → ShortLog r
log_short (log.Fence fence) fits = tt
log_short (log.Intent started) fits = intent_short started.intent fits.1.1
log_short (log.Decide op done) fits = tt
log_short (log.Done op) fits = tt

pub dir_short : (r : DirRecord) → FitsDir r → ShortDir r
dir_short (dir.Fence fence) fits = tt
dir_short (dir.Mint mint) fits = tt
dir_short (dir.Did did) fits = (list_short FitsChange ShortChange change_short did.changes fits.1.1.1.0, fits.1.1.1.1)
dir_short (dir.Lock op fence work) fits = work_short work fits.1.1.0
dir_short (dir.Finish op applied) fits = tt
dir_short (dir.Root cell) fits = attr_cell_short cell fits

pub data_short : (r : DataRecord) → FitsData r → ShortData r
data_short (store.Boot boot) fits = tt
data_short (store.Lock op fence work) fits = work_short work fits.1.1.0
data_short (store.Finish op applied) fits = tt

pub on_ok : {A : Type 0} (text_of : A → List ℕ) (Fits Short : A → Type 0) (bytes : List ℕ) → ((x : A) → Fits x → Short x) → (answer : Result A RecordFault) → IfOk answer (λ x. Spelled text_of Fits x bytes) → IfOk answer Short
on_ok text_of Fits Short bytes short (Ok x) is = short x is.1
on_ok text_of Fits Short bytes short (Err e) is = tt
