-- Journal records: the one text of each payload, which of them have one, and how they are read. A payload is a number that
-- tells what follows, and that.
use Rattle.std.specs.Prelude.{◌≡◌, ℕ, zero, suc, List, ◌++◌, None, Bool, true}
use Rattle.sl_defs.specs.Items.{u32_text, u64_text, opaque_text, u32_at, u64_at}
use Rattle.sl_defs.specs.Parts.{mapped, ◌⊗◌, union_at}
use Rattle.sl_xdr.specs.Reading.{number_of_flag, flag_at}
use Rattle.sl_items.specs.Reading.{time_at}
use Rattle.sl_items.specs.Spelling.{FitsU32, FitsU64, FitsBytes, FitsTime, time_text}
use Rattle.sl_cells.specs.Lists.{Reader, counted_at, counted_text, FitsList}
use Rattle.sl_cells.specs.Reading.{padded_at, id_at, id_or_none_at, attr_cell_at, change_at}
use Rattle.sl_cells.specs.Texts.{Spelled, IsId, IsIdOrNone, attr_cell_text, FitsAttrCell, ShortAttrCell, change_text, FitsChange, ShortChange}
use Rattle.sl_frames.specs.declared.work.Work.{Work}
use Rattle.sl_records.specs.Works.{is_of_cells, is_of_bytes, cells_work_at, bytes_work_at}
use Rattle.sl_frames.specs.Works.{work_text, FitsWork, ShortWork, intent_text, FitsIntent, ShortIntent, intent_at}
use Rattle.sl_records.specs.declared.proxy.ProxyRecord.{ProxyRecord}
use Rattle.sl_records.specs.declared.proxy.ProxyRecord.TheVariants as proxy
use Rattle.sl_records.specs.declared.request.Request.{Request}
use Rattle.sl_records.specs.declared.started.Started.{Started}
use Rattle.sl_records.specs.declared.coordinator.LogEntry.{LogEntry}
use Rattle.sl_records.specs.declared.coordinator.LogEntry.TheVariants as log
use Rattle.sl_records.specs.declared.done.Mint.{Mint}
use Rattle.sl_records.specs.declared.done.Did.{Did}
use Rattle.sl_records.specs.declared.directory.DirRecord.{DirRecord}
use Rattle.sl_records.specs.declared.directory.DirRecord.TheVariants as dir
use Rattle.sl_records.specs.declared.data_server.DataRecord.{DataRecord}
use Rattle.sl_records.specs.declared.data_server.DataRecord.TheVariants as store

-- ---- the proxy's

abbrev pub proxy_number : ProxyRecord → ℕ
proxy_number (proxy.Start count) = 1

abbrev pub proxy_body_text : ProxyRecord → List ℕ
proxy_body_text (proxy.Start count) = u32_text count

unfoldable pub proxy_text : ProxyRecord → List ℕ
proxy_text r = u32_text (proxy_number r) ++ proxy_body_text r

-- it is always short enough to be written
abbrev pub ShortProxy : ProxyRecord → Type 0
ShortProxy (proxy.Start count) = Unit {0}

abbrev pub FitsProxy : ProxyRecord → Type 0
FitsProxy (proxy.Start count) = FitsU32 count

unfoldable pub proxy_body_at : ℕ → Reader ProxyRecord
proxy_body_at zero = λ _. None
proxy_body_at (suc zero) = mapped proxy.Start u32_at
proxy_body_at (suc (suc n)) = λ _. None

unfoldable pub proxy_at : Reader ProxyRecord
proxy_at = union_at proxy_body_at

-- ---- what a request is known by

unfoldable pub request_text : Request → List ℕ
request_text r = u64_text r.fence ++ (u64_text r.tag ++ (u64_text r.low ++ u64_text r.arrival))

abbrev pub FitsRequest : Request → Type 0
FitsRequest r = FitsU64 r.fence × (FitsU64 r.tag × (FitsU64 r.low × FitsU64 r.arrival))

unfoldable pub request_at : Reader Request
request_at = mapped (λ x. record { fence = x.0; tag = x.1.0; low = x.1.1.0; arrival = x.1.1.1 }) (u64_at ⊗ u64_at ⊗ u64_at ⊗ u64_at)

-- ---- the coordinator's

unfoldable pub started_text : Started → List ℕ
started_text s = u64_text s.op ++ (request_text s.request ++ intent_text s.intent)

abbrev pub FitsStarted : Started → Type 0
FitsStarted s = FitsU64 s.op × (FitsRequest s.request × FitsIntent s.intent)

abbrev pub ShortStarted : Started → Type 0
ShortStarted s = ShortIntent s.intent

unfoldable pub started_at : Reader Started
started_at = mapped (λ x. record { op = x.0; request = x.1.0; intent = x.1.1 }) (u64_at ⊗ request_at ⊗ intent_at)

abbrev pub log_number : LogEntry → ℕ
log_number (log.Fence fence) = 1
log_number (log.Intent started) = 2
log_number (log.Decide op done) = 3
log_number (log.Done op) = 4

abbrev pub log_body_text : LogEntry → List ℕ
log_body_text (log.Fence fence) = u64_text fence
log_body_text (log.Intent started) = started_text started
log_body_text (log.Decide op done) = u64_text op ++ u32_text (number_of_flag done)
log_body_text (log.Done op) = u64_text op

unfoldable pub log_text : LogEntry → List ℕ
log_text r = u32_text (log_number r) ++ log_body_text r

abbrev pub FitsLog : LogEntry → Type 0
FitsLog (log.Fence fence) = FitsU64 fence
FitsLog (log.Intent started) = FitsStarted started
FitsLog (log.Decide op done) = FitsU64 op × Unit {0}
FitsLog (log.Done op) = FitsU64 op

abbrev pub ShortLog : LogEntry → Type 0
ShortLog (log.Fence fence) = Unit {0}
ShortLog (log.Intent started) = ShortStarted started
ShortLog (log.Decide op done) = Unit {0}
ShortLog (log.Done op) = Unit {0}

abbrev pub decide_entry : ℕ × Bool → LogEntry
decide_entry x = log.Decide x.0 x.1

unfoldable pub log_body_at : ℕ → Reader LogEntry
log_body_at zero = λ _. None
log_body_at (suc zero) = mapped log.Fence u64_at
log_body_at (suc (suc zero)) = mapped log.Intent started_at
log_body_at (suc (suc (suc zero))) = mapped decide_entry (u64_at ⊗ flag_at)
log_body_at (suc (suc (suc (suc zero)))) = mapped log.Done u64_at
log_body_at (suc (suc (suc (suc (suc n))))) = λ _. None

unfoldable pub log_at : Reader LogEntry
log_at = union_at log_body_at

-- ---- a directory server's

unfoldable pub mint_text : Mint → List ℕ
mint_text m = u64_text m.fence ++ (u64_text m.tag ++ (u64_text m.low ++ u64_text m.fileid))

abbrev pub FitsMint : Mint → Type 0
FitsMint m = FitsU64 m.fence × (FitsU64 m.tag × (FitsU64 m.low × IsId m.fileid))

unfoldable pub mint_at : Reader Mint
mint_at = mapped (λ x. record { fence = x.0; tag = x.1.0; low = x.1.1.0; fileid = x.1.1.1 }) (u64_at ⊗ u64_at ⊗ u64_at ⊗ id_at)

unfoldable pub did_text : Did → List ℕ
did_text d = request_text d.request ++ (time_text d.moment ++ (u64_text d.chosen ++ (counted_text change_text d.changes ++ opaque_text d.reply)))

abbrev pub FitsDid : Did → Type 0
FitsDid d = FitsRequest d.request × (FitsTime d.moment × (IsIdOrNone d.chosen × (FitsList FitsChange d.changes × FitsBytes d.reply)))

abbrev pub ShortDid : Did → Type 0
ShortDid d = FitsList ShortChange d.changes × FitsBytes d.reply

unfoldable pub did_at : Reader Did
did_at =
    mapped
    (λ x. record { request = x.0; moment = x.1.0; chosen = x.1.1.0; changes = x.1.1.1.0; reply = x.1.1.1.1 })
    (request_at ⊗ time_at ⊗ id_or_none_at ⊗ counted_at change_at ⊗ padded_at)

abbrev pub dir_number : DirRecord → ℕ
dir_number (dir.Fence fence) = 1
dir_number (dir.Mint mint) = 2
dir_number (dir.Did did) = 3
dir_number (dir.Lock op fence work) = 4
dir_number (dir.Finish op applied) = 5
dir_number (dir.Root cell) = 6

abbrev pub dir_body_text : DirRecord → List ℕ
dir_body_text (dir.Fence fence) = u64_text fence
dir_body_text (dir.Mint mint) = mint_text mint
dir_body_text (dir.Did did) = did_text did
dir_body_text (dir.Lock op fence work) = u64_text op ++ (u64_text fence ++ work_text work)
dir_body_text (dir.Finish op applied) = u64_text op ++ u32_text (number_of_flag applied)
dir_body_text (dir.Root cell) = attr_cell_text cell

unfoldable pub dir_text : DirRecord → List ℕ
dir_text r = u32_text (dir_number r) ++ dir_body_text r

abbrev pub FitsDir : DirRecord → Type 0
FitsDir (dir.Fence fence) = FitsU64 fence
FitsDir (dir.Mint mint) = FitsMint mint
FitsDir (dir.Did did) = FitsDid did
FitsDir (dir.Lock op fence work) = FitsU64 op × (FitsU64 fence × (FitsWork work × (is_of_cells work ≡ true)))
FitsDir (dir.Finish op applied) = FitsU64 op × Unit {0}
FitsDir (dir.Root cell) = FitsAttrCell cell

abbrev pub ShortDir : DirRecord → Type 0
ShortDir (dir.Fence fence) = Unit {0}
ShortDir (dir.Mint mint) = Unit {0}
ShortDir (dir.Did did) = ShortDid did
ShortDir (dir.Lock op fence work) = ShortWork work
ShortDir (dir.Finish op applied) = Unit {0}
ShortDir (dir.Root cell) = ShortAttrCell cell

abbrev pub dir_lock : ℕ × (ℕ × Work) → DirRecord
dir_lock x = dir.Lock x.0 x.1.0 x.1.1

abbrev pub dir_finish : ℕ × Bool → DirRecord
dir_finish x = dir.Finish x.0 x.1

unfoldable pub dir_body_at : ℕ → Reader DirRecord
dir_body_at zero = λ _. None
dir_body_at (suc zero) = mapped dir.Fence u64_at
dir_body_at (suc (suc zero)) = mapped dir.Mint mint_at
dir_body_at (suc (suc (suc zero))) = mapped dir.Did did_at
dir_body_at (suc (suc (suc (suc zero)))) = mapped dir_lock (u64_at ⊗ u64_at ⊗ cells_work_at)
dir_body_at (suc (suc (suc (suc (suc zero))))) = mapped dir_finish (u64_at ⊗ flag_at)
dir_body_at (suc (suc (suc (suc (suc (suc zero)))))) = mapped dir.Root attr_cell_at
dir_body_at (suc (suc (suc (suc (suc (suc (suc n))))))) = λ _. None

unfoldable pub dir_at : Reader DirRecord
dir_at = union_at dir_body_at

-- ---- a data server's

abbrev pub data_number : DataRecord → ℕ
data_number (store.Boot boot) = 1
data_number (store.Lock op fence work) = 2
data_number (store.Finish op applied) = 3

abbrev pub data_body_text : DataRecord → List ℕ
data_body_text (store.Boot boot) = u64_text boot
data_body_text (store.Lock op fence work) = u64_text op ++ (u64_text fence ++ work_text work)
data_body_text (store.Finish op applied) = u64_text op ++ u32_text (number_of_flag applied)

unfoldable pub data_text : DataRecord → List ℕ
data_text r = u32_text (data_number r) ++ data_body_text r

abbrev pub FitsData : DataRecord → Type 0
FitsData (store.Boot boot) = FitsU64 boot
FitsData (store.Lock op fence work) = FitsU64 op × (FitsU64 fence × (FitsWork work × (is_of_bytes work ≡ true)))
FitsData (store.Finish op applied) = FitsU64 op × Unit {0}

abbrev pub ShortData : DataRecord → Type 0
ShortData (store.Boot boot) = Unit {0}
ShortData (store.Lock op fence work) = ShortWork work
ShortData (store.Finish op applied) = Unit {0}

abbrev pub data_lock : ℕ × (ℕ × Work) → DataRecord
data_lock x = store.Lock x.0 x.1.0 x.1.1

abbrev pub data_finish : ℕ × Bool → DataRecord
data_finish x = store.Finish x.0 x.1

unfoldable pub data_body_at : ℕ → Reader DataRecord
data_body_at zero = λ _. None
data_body_at (suc zero) = mapped store.Boot u64_at
data_body_at (suc (suc zero)) = mapped data_lock (u64_at ⊗ u64_at ⊗ bytes_work_at)
data_body_at (suc (suc (suc zero))) = mapped data_finish (u64_at ⊗ flag_at)
data_body_at (suc (suc (suc (suc n)))) = λ _. None

unfoldable pub data_at : Reader DataRecord
data_at = union_at data_body_at

-- ---- payloads

-- these bytes are the record's text
abbrev pub IsProxyRecord : ProxyRecord → List ℕ → Type 0
IsProxyRecord = Spelled proxy_text FitsProxy

abbrev pub IsLogEntry : LogEntry → List ℕ → Type 0
IsLogEntry = Spelled log_text FitsLog

abbrev pub IsDirRecord : DirRecord → List ℕ → Type 0
IsDirRecord = Spelled dir_text FitsDir

abbrev pub IsDataRecord : DataRecord → List ℕ → Type 0
IsDataRecord = Spelled data_text FitsData
