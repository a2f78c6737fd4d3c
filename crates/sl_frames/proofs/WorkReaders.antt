-- Each reader of a work or an intent reads exactly the texts of those that fit.
use Rattle.std.proofs.Common.{◌≡◌, ℕ, zero, suc, ◌^◌, ◌<◌, List, [], ◌∷◌, ◌++◌, Option, Some, None, Bool, true, false, ltb, leb, ◌&&◌, ◌||◌, refl, sym, ap, ◌∙◌, arith, inl, inr}
use Rattle.std.proofs.lemmas.Bool.{and_parts, or_cases, leb-true}
use Rattle.sl_defs.specs.Items.{u32_text, AreBytes}
use Rattle.sl_defs.proofs.Readers.{Took, u32_reader, u64_reader, structure, mapped_takes, mapped_found}
use Rattle.sl_cells.proofs.OneSpelling.{Reads, refitted, pair, guard, counted, tagged}
use Rattle.sl_cells.proofs.CellReaders.{flag_reads, time_reads, padded_reads, id_reads, id_or_none_reads, change_reads, write_reads}
use Rattle.sl_frames.specs.declared.work.Work.{Work}
use Rattle.sl_frames.specs.declared.work.Work.TheVariants as work
use Rattle.sl_frames.specs.declared.intent.What.{What}
use Rattle.sl_frames.specs.declared.intent.What.TheVariants as what
use Rattle.sl_frames.specs.declared.intent.Part.{Part}
use Rattle.sl_frames.specs.declared.intent.Intent.{Intent}
use Rattle.sl_frames.specs.Actors.{is_directory, is_data, is_server}
use Rattle.sl_frames.specs.Works.{work_number, work_body_text, work_text, FitsWork, keep_work, put_work, cut_work, work_body_at, work_at, what_number, what_body_text, what_text, FitsWhat, call_what, what_body_at, what_at, part_text, FitsPart, server_at, part_at, parts_text, FitsParts, parts_at, intent_text, FitsIntent, intent_at}
use Rattle.sl_cells.specs.Texts.{Spelled}

-- ---- works

abbrev IsWorkBody : ℕ → Work → List ℕ → Type 0
IsWorkBody n w text = Spelled work_body_text FitsWork w text × (work_number w ≡ n)

work_takes : (n : ℕ) (bytes : List ℕ) (x : Work × List ℕ) → AreBytes bytes → work_body_at n bytes ≡ Some x → Took (IsWorkBody n) bytes x
unfolding work_body_at
work_takes zero bytes x fits e = absurd cc
work_takes (suc zero) bytes x fits e = mapped_takes (counted change_reads) (IsWorkBody 1) work.Change (λ c text is. (is, refl)) bytes x fits e
work_takes (suc (suc zero)) bytes x fits e = mapped_takes (pair id_reads (counted write_reads)) (IsWorkBody 2) keep_work (λ k text is. (is, refl)) bytes x fits e
work_takes (suc (suc (suc zero))) bytes x fits e = mapped_takes (pair id_reads (pair u64_reader padded_reads)) (IsWorkBody 3) put_work (λ p text is. (is, refl)) bytes x fits e
work_takes (suc (suc (suc (suc zero)))) bytes x fits e = mapped_takes (pair id_reads u64_reader) (IsWorkBody 4) cut_work (λ c text is. (is, refl)) bytes x fits e
work_takes (suc (suc (suc (suc (suc zero))))) bytes x fits e = mapped_takes id_reads (IsWorkBody 5) work.Drop (λ n text is. (is, refl)) bytes x fits e
work_takes (suc (suc (suc (suc (suc (suc n)))))) bytes x fits e = absurd cc

work_found : (w : Work) (text rest : List ℕ) → Spelled work_body_text FitsWork w text → work_body_at (work_number w) (text ++ rest) ≡ Some (w, rest)
unfolding work_body_at
work_found (work.Change changes) text rest is = mapped_found (counted change_reads) work.Change changes text rest is
work_found (work.Keep fileid writes) text rest is = mapped_found (pair id_reads (counted write_reads)) keep_work (fileid, writes) text rest is
work_found (work.Put fileid offset bytes) text rest is = mapped_found (pair id_reads (pair u64_reader padded_reads)) put_work (fileid, (offset, bytes)) text rest is
work_found (work.Cut fileid size) text rest is = mapped_found (pair id_reads u64_reader) cut_work (fileid, size) text rest is
work_found (work.Drop fileid) text rest is = mapped_found id_reads work.Drop fileid text rest is

work_number_fits : (w : Work) → work_number w < 2 ^ 32
work_number_fits (work.Change changes) = omega arith
work_number_fits (work.Keep fileid writes) = omega arith
work_number_fits (work.Put fileid offset bytes) = omega arith
work_number_fits (work.Cut fileid size) = omega arith
work_number_fits (work.Drop fileid) = omega arith

pub work_reads : Reads work_at work_text FitsWork
unfolding work_at work_text
work_reads = tagged (record { takes = work_takes; found = work_found; number_fits = work_number_fits })

-- ---- what an intent is for

abbrev IsWhatBody : ℕ → What → List ℕ → Type 0
IsWhatBody n w text = Spelled what_body_text FitsWhat w text × (what_number w ≡ n)

what_takes : (n : ℕ) (bytes : List ℕ) (x : What × List ℕ) → AreBytes bytes → what_body_at n bytes ≡ Some x → Took (IsWhatBody n) bytes x
unfolding what_body_at
what_takes zero bytes x fits e = absurd cc
what_takes (suc zero) bytes x fits e = mapped_takes (pair id_or_none_reads flag_reads) (IsWhatBody 1) call_what (λ c text is. (is, refl)) bytes x fits e
what_takes (suc (suc zero)) bytes x fits e = mapped_takes id_reads (IsWhatBody 2) what.Flush (λ n text is. (is, refl)) bytes x fits e
what_takes (suc (suc (suc n))) bytes x fits e = absurd cc

what_found : (w : What) (text rest : List ℕ) → Spelled what_body_text FitsWhat w text → what_body_at (what_number w) (text ++ rest) ≡ Some (w, rest)
unfolding what_body_at
what_found (what.Call chosen kept) text rest is = mapped_found (pair id_or_none_reads flag_reads) call_what (chosen, kept) text rest is
what_found (what.Flush fileid) text rest is = mapped_found id_reads what.Flush fileid text rest is

what_number_fits : (w : What) → what_number w < 2 ^ 32
what_number_fits (what.Call chosen kept) = omega arith
what_number_fits (what.Flush fileid) = omega arith

pub what_reads : Reads what_at what_text FitsWhat
unfolding what_at what_text
what_reads = tagged (record { takes = what_takes; found = what_found; number_fits = what_number_fits })

-- ---- parts

between : (n low high : ℕ) → (leb low n && leb n high) ≡ true → high < 2 ^ 32 → n < 2 ^ 32
between n low high e lt = let g = and_parts (leb low n) (leb n high) e in omega (arith, leb-true n high g.1, lt)

server_below : (n : ℕ) → is_server n ≡ true → n < 2 ^ 32
server_below n e =
    elim (or_cases (is_directory n) (is_data n) e) [
      | inl d ↦ between n 16 23 d (omega arith)
      | inr d ↦ elim (or_cases (leb 32 n && leb n 35) (leb 48 n && leb n 55) d) [
        | inl small ↦ between n 32 35 small (omega arith)
        | inr node ↦ between n 48 55 node (omega arith)
      ]
    ]

server_reads : Reads server_at u32_text (λ n. is_server n ≡ true)
unfolding server_at
server_reads = refitted (guard u32_reader is_server) (λ n f. f.1) (λ n f. (server_below n f, f))

pub part_reads : Reads part_at part_text FitsPart
unfolding part_at part_text
part_reads = guard (structure (pair server_reads (pair u64_reader work_reads)) _ (λ (p : Part). (p.actor, (p.boot, p.work))) (λ p. refl) (λ x. refl)) _

pub parts_reads : Reads parts_at parts_text FitsParts
unfolding parts_at
parts_reads = guard (counted part_reads) _

pub intent_reads : Reads intent_at intent_text FitsIntent
unfolding intent_at intent_text
intent_reads = structure (pair time_reads (pair what_reads parts_reads)) _ (λ (i : Intent). (i.moment, (i.what, i.parts))) (λ i. refl) (λ x. refl)
