-- Each reader of a record reads exactly the texts of those that fit.
use Rattle.std.proofs.Common.{◌≡◌, ℕ, zero, suc, ◌^◌, ◌<◌, List, ◌++◌, Option, Some, None, Result, Ok, Err, true, refl, sym, ap, ◌∙◌, arith}
use Rattle.std.specs.Prelude.{IfOk}
use Rattle.sl_defs.specs.Items.{AreBytes}
use Rattle.sl_defs.proofs.Readers.{Took, u32_reader, u64_reader, structure, mapped_takes, mapped_found}
use Rattle.sl_cells.specs.Lists.{Reader}
use Rattle.sl_cells.specs.Reading.{whole}
use Rattle.sl_cells.specs.Texts.{Spelled}
use Rattle.sl_cells.proofs.OneSpelling.{Reads, refitted, pair, guard, counted, tagged, whole_takes, whole_found}
use Rattle.sl_cells.proofs.CellReaders.{flag_reads, time_reads, padded_reads, id_reads, id_or_none_reads, attr_cell_reads, change_reads}
use Rattle.sl_frames.specs.Works.{work_text, FitsWork}
use Rattle.sl_frames.proofs.WorkReaders.{work_reads, intent_reads}
use Rattle.sl_records.specs.declared.fault.RecordFault.{RecordFault}
use Rattle.sl_records.specs.declared.fault.RecordFault.TheVariants as fault
use Rattle.sl_records.specs.declared.proxy.ProxyRecord.{ProxyRecord}
use Rattle.sl_records.specs.declared.proxy.ProxyRecord.TheVariants as proxy
use Rattle.sl_records.specs.declared.request.Request.{Request}
use Rattle.sl_records.specs.declared.started.Started.{Started}
use Rattle.sl_records.specs.declared.coordinator.LogEntry.{LogEntry}
use Rattle.sl_records.specs.declared.coordinator.LogEntry.TheVariants as log
use Rattle.sl_records.specs.declared.done.Mint.{Mint}
use Rattle.sl_records.specs.declared.done.Did.{Did}
use Rattle.sl_records.specs.declared.directory.DirRecord.{DirRecord}
use Rattle.sl_records.specs.declared.directory.DirRecord.TheVariants as dir
use Rattle.sl_records.specs.declared.data_server.DataRecord.{DataRecord}
use Rattle.sl_records.specs.declared.data_server.DataRecord.TheVariants as store
use Rattle.sl_records.specs.Payloads.{GivesRecord}
use Rattle.sl_records.specs.Works.{is_of_cells, is_of_bytes, cells_work_at, bytes_work_at}
use Rattle.sl_records.specs.Records.{proxy_number, proxy_body_text, proxy_text, FitsProxy, proxy_body_at, proxy_at, request_text, FitsRequest, request_at, started_text, FitsStarted, started_at, log_number, log_body_text, log_text, FitsLog, decide_entry, log_body_at, log_at, mint_text, FitsMint, mint_at, did_text, FitsDid, did_at, dir_number, dir_body_text, dir_text, FitsDir, dir_lock, dir_finish, dir_body_at, dir_at, data_number, data_body_text, data_text, FitsData, data_lock, data_finish, data_body_at, data_at}

cells_work_reads : Reads cells_work_at work_text (λ w. FitsWork w × (is_of_cells w ≡ true))
unfolding cells_work_at
cells_work_reads = guard work_reads is_of_cells

bytes_work_reads : Reads bytes_work_at work_text (λ w. FitsWork w × (is_of_bytes w ≡ true))
unfolding bytes_work_at
bytes_work_reads = guard work_reads is_of_bytes

request_reads : Reads request_at request_text FitsRequest
unfolding request_at request_text
request_reads = structure (pair u64_reader (pair u64_reader (pair u64_reader u64_reader))) _ (λ (r : Request). (r.fence, (r.tag, (r.low, r.arrival)))) (λ r. refl) (λ x. refl)

started_reads : Reads started_at started_text FitsStarted
unfolding started_at started_text
started_reads = structure (pair u64_reader (pair request_reads intent_reads)) _ (λ (s : Started). (s.op, (s.request, s.intent))) (λ s. refl) (λ x. refl)

mint_reads : Reads mint_at mint_text FitsMint
unfolding mint_at mint_text
mint_reads = structure (pair u64_reader (pair u64_reader (pair u64_reader id_reads))) _ (λ (m : Mint). (m.fence, (m.tag, (m.low, m.fileid)))) (λ m. refl) (λ x. refl)

did_reads : Reads did_at did_text FitsDid
unfolding did_at did_text
did_reads =
    structure
    (pair request_reads (pair time_reads (pair id_or_none_reads (pair (counted change_reads) padded_reads))))
    _
    (λ (d : Did). (d.request, (d.moment, (d.chosen, (d.changes, d.reply)))))
    (λ d. refl)
    (λ x. refl)

-- ---- the proxy's

abbrev IsProxyBody : ℕ → ProxyRecord → List ℕ → Type 0
IsProxyBody n r text = Spelled proxy_body_text FitsProxy r text × (proxy_number r ≡ n)

proxy_takes : (n : ℕ) (bytes : List ℕ) (x : ProxyRecord × List ℕ) → AreBytes bytes → proxy_body_at n bytes ≡ Some x → Took (IsProxyBody n) bytes x
unfolding proxy_body_at
proxy_takes zero bytes x fits e = absurd cc
proxy_takes (suc zero) bytes x fits e = mapped_takes u32_reader (IsProxyBody 1) proxy.Start (λ a text is. (is, refl)) bytes x fits e
proxy_takes (suc (suc n)) bytes x fits e = absurd cc

proxy_found : (r : ProxyRecord) (text rest : List ℕ) → Spelled proxy_body_text FitsProxy r text → proxy_body_at (proxy_number r) (text ++ rest) ≡ Some (r, rest)
unfolding proxy_body_at
proxy_found (proxy.Start count) text rest is = mapped_found u32_reader proxy.Start count text rest is

proxy_number_fits : (r : ProxyRecord) → proxy_number r < 2 ^ 32
proxy_number_fits (proxy.Start count) = omega arith

pub proxy_reads : Reads proxy_at proxy_text FitsProxy
unfolding proxy_at proxy_text
proxy_reads = tagged (record { takes = proxy_takes; found = proxy_found; number_fits = proxy_number_fits })

-- ---- the coordinator's

abbrev IsLogBody : ℕ → LogEntry → List ℕ → Type 0
IsLogBody n r text = Spelled log_body_text FitsLog r text × (log_number r ≡ n)

log_takes : (n : ℕ) (bytes : List ℕ) (x : LogEntry × List ℕ) → AreBytes bytes → log_body_at n bytes ≡ Some x → Took (IsLogBody n) bytes x
unfolding log_body_at
log_takes zero bytes x fits e = absurd cc
log_takes (suc zero) bytes x fits e = mapped_takes u64_reader (IsLogBody 1) log.Fence (λ a text is. (is, refl)) bytes x fits e
log_takes (suc (suc zero)) bytes x fits e = mapped_takes started_reads (IsLogBody 2) log.Intent (λ a text is. (is, refl)) bytes x fits e
log_takes (suc (suc (suc zero))) bytes x fits e = mapped_takes (pair u64_reader flag_reads) (IsLogBody 3) decide_entry (λ a text is. (is, refl)) bytes x fits e
log_takes (suc (suc (suc (suc zero)))) bytes x fits e = mapped_takes u64_reader (IsLogBody 4) log.Done (λ a text is. (is, refl)) bytes x fits e
log_takes (suc (suc (suc (suc (suc n))))) bytes x fits e = absurd cc

log_found : (r : LogEntry) (text rest : List ℕ) → Spelled log_body_text FitsLog r text → log_body_at (log_number r) (text ++ rest) ≡ Some (r, rest)
unfolding log_body_at
log_found (log.Fence fence) text rest is = mapped_found u64_reader log.Fence fence text rest is
log_found (log.Intent started) text rest is = mapped_found started_reads log.Intent started text rest is
log_found (log.Decide op done) text rest is = mapped_found (pair u64_reader flag_reads) decide_entry (op, done) text rest is
log_found (log.Done op) text rest is = mapped_found u64_reader log.Done op text rest is

log_number_fits : (r : LogEntry) → log_number r < 2 ^ 32
log_number_fits (log.Fence fence) = omega arith
log_number_fits (log.Intent started) = omega arith
log_number_fits (log.Decide op done) = omega arith
log_number_fits (log.Done op) = omega arith

pub log_reads : Reads log_at log_text FitsLog
unfolding log_at log_text
log_reads = tagged (record { takes = log_takes; found = log_found; number_fits = log_number_fits })

-- ---- a directory server's

abbrev IsDirBody : ℕ → DirRecord → List ℕ → Type 0
IsDirBody n r text = Spelled dir_body_text FitsDir r text × (dir_number r ≡ n)

dir_takes : (n : ℕ) (bytes : List ℕ) (x : DirRecord × List ℕ) → AreBytes bytes → dir_body_at n bytes ≡ Some x → Took (IsDirBody n) bytes x
unfolding dir_body_at
dir_takes zero bytes x fits e = absurd cc
dir_takes (suc zero) bytes x fits e = mapped_takes u64_reader (IsDirBody 1) dir.Fence (λ a text is. (is, refl)) bytes x fits e
dir_takes (suc (suc zero)) bytes x fits e = mapped_takes mint_reads (IsDirBody 2) dir.Mint (λ a text is. (is, refl)) bytes x fits e
dir_takes (suc (suc (suc zero))) bytes x fits e = mapped_takes did_reads (IsDirBody 3) dir.Did (λ a text is. (is, refl)) bytes x fits e
dir_takes (suc (suc (suc (suc zero)))) bytes x fits e = mapped_takes (pair u64_reader (pair u64_reader cells_work_reads)) (IsDirBody 4) dir_lock (λ a text is. (is, refl)) bytes x fits e
dir_takes (suc (suc (suc (suc (suc zero))))) bytes x fits e = mapped_takes (pair u64_reader flag_reads) (IsDirBody 5) dir_finish (λ a text is. (is, refl)) bytes x fits e
dir_takes (suc (suc (suc (suc (suc (suc zero)))))) bytes x fits e = mapped_takes attr_cell_reads (IsDirBody 6) dir.Root (λ a text is. (is, refl)) bytes x fits e
dir_takes (suc (suc (suc (suc (suc (suc (suc n))))))) bytes x fits e = absurd cc

dir_found : (r : DirRecord) (text rest : List ℕ) → Spelled dir_body_text FitsDir r text → dir_body_at (dir_number r) (text ++ rest) ≡ Some (r, rest)
unfolding dir_body_at
dir_found (dir.Fence fence) text rest is = mapped_found u64_reader dir.Fence fence text rest is
dir_found (dir.Mint mint) text rest is = mapped_found mint_reads dir.Mint mint text rest is
dir_found (dir.Did did) text rest is = mapped_found did_reads dir.Did did text rest is
dir_found (dir.Lock op fence work) text rest is = mapped_found (pair u64_reader (pair u64_reader cells_work_reads)) dir_lock (op, (fence, work)) text rest is
dir_found (dir.Finish op applied) text rest is = mapped_found (pair u64_reader flag_reads) dir_finish (op, applied) text rest is
dir_found (dir.Root cell) text rest is = mapped_found attr_cell_reads dir.Root cell text rest is

dir_number_fits : (r : DirRecord) → dir_number r < 2 ^ 32
dir_number_fits (dir.Fence fence) = omega arith
dir_number_fits (dir.Mint mint) = omega arith
dir_number_fits (dir.Did did) = omega arith
dir_number_fits (dir.Lock op fence work) = omega arith
dir_number_fits (dir.Finish op applied) = omega arith
dir_number_fits (dir.Root cell) = omega arith

pub dir_reads : Reads dir_at dir_text FitsDir
unfolding dir_at dir_text
dir_reads = tagged (record { takes = dir_takes; found = dir_found; number_fits = dir_number_fits })

-- ---- a data server's

abbrev IsDataBody : ℕ → DataRecord → List ℕ → Type 0
IsDataBody n r text = Spelled data_body_text FitsData r text × (data_number r ≡ n)

data_takes : (n : ℕ) (bytes : List ℕ) (x : DataRecord × List ℕ) → AreBytes bytes → data_body_at n bytes ≡ Some x → Took (IsDataBody n) bytes x
unfolding data_body_at
data_takes zero bytes x fits e = absurd cc
data_takes (suc zero) bytes x fits e = mapped_takes u64_reader (IsDataBody 1) store.Boot (λ a text is. (is, refl)) bytes x fits e
data_takes (suc (suc zero)) bytes x fits e = mapped_takes (pair u64_reader (pair u64_reader bytes_work_reads)) (IsDataBody 2) data_lock (λ a text is. (is, refl)) bytes x fits e
data_takes (suc (suc (suc zero))) bytes x fits e = mapped_takes (pair u64_reader flag_reads) (IsDataBody 3) data_finish (λ a text is. (is, refl)) bytes x fits e
data_takes (suc (suc (suc (suc n)))) bytes x fits e = absurd cc

data_found : (r : DataRecord) (text rest : List ℕ) → Spelled data_body_text FitsData r text → data_body_at (data_number r) (text ++ rest) ≡ Some (r, rest)
unfolding data_body_at
data_found (store.Boot boot) text rest is = mapped_found u64_reader store.Boot boot text rest is
data_found (store.Lock op fence work) text rest is = mapped_found (pair u64_reader (pair u64_reader bytes_work_reads)) data_lock (op, (fence, work)) text rest is
data_found (store.Finish op applied) text rest is = mapped_found (pair u64_reader flag_reads) data_finish (op, applied) text rest is

data_number_fits : (r : DataRecord) → data_number r < 2 ^ 32
data_number_fits (store.Boot boot) = omega arith
data_number_fits (store.Lock op fence work) = omega arith
data_number_fits (store.Finish op applied) = omega arith

pub data_reads : Reads data_at data_text FitsData
unfolding data_at data_text
data_reads = tagged (record { takes = data_takes; found = data_found; number_fits = data_number_fits })

-- ---- what reading a payload answers

clash : {A : Type 0} (x : A) → ◌≡◌ {A = Option A} None (Some x) → ⊥
clash x e = cc

same : {A : Type 0} (x y : A) → ◌≡◌ {A = Option A} (Some x) (Some y) → x ≡ y
same x y e = cc

module _ {A : Type 0} {read : Reader A} {t : A → List ℕ} {F : A → Type 0} (r : Reads read t F) (bytes : List ℕ) where
  pub is_found : (answer : Result A RecordFault) → AreBytes bytes → GivesRecord answer (whole read bytes) → IfOk answer (λ x. Spelled t F x bytes)
  is_found (Ok x) fits gives = whole_takes r bytes x fits gives
  is_found (Err e) fits gives = tt

  pub is_only : (answer : Result A RecordFault) → GivesRecord answer (whole read bytes) → IfOk answer (λ x. (other : A) → Spelled t F other bytes → other ≡ x)
  is_only (Ok x) gives = λ other is. same other x (sym (whole_found r bytes other is) ∙ gives)
  is_only (Err e) gives = tt

  pub is_bad : (answer : Result A RecordFault) → GivesRecord answer (whole read bytes) → answer ≡ Err fault.BadRecord → (x : A) → Spelled t F x bytes → ⊥
  is_bad (Ok x) gives e = absurd cc
  is_bad (Err fault.BadRecord) gives e = λ x is. clash x (sym gives ∙ whole_found r bytes x is)
  is_bad (Err fault.NoMemory) gives e = absurd cc
