-- What a stop leaves in each stage of a making and of an append.
use Rattle.std.proofs.Common.{◌≡◌, ◌≢◌, inl, inr, ℕ, ◌+◌, ◌-◌, ◌^◌, ◌<◌, ◌≤◌, min, List, [], ◌∷◌, ◌++◌, length, replicate, get_or, take, drop, refl, sym, ◌∙◌, ap, subst, arith, append_assoc, length-append, length-drop, take-append-drop}
use Rattle.std.proofs.lemmas.List.{take_at, drop_at, drop_more, drop-drop, drop_all, append-nil, length-replicate, nil_from_length}
use Rattle.std.proofs.lemmas.Bool.{cases_eq, cases_lt}
use Rattle.sl_defs.specs.Items.{u32_text}
use Rattle.sl_defs.proofs.ItemLaws.{length-u32_text}
use Rattle.sl_disk.specs.Shelf.{Torn, written}
use Rattle.sl_journal.specs.Format.{record_text, records_text, AreShort, IsJournal}
use Rattle.sl_journal.specs.Settled.{StandsWithOrWithout}
use Rattle.sl_journal.proofs.Texts.{records_push, short_push}

-- ---- writes at the end of a front

-- bytes written behind a front
pub written_behind : (front back bytes : List ℕ) (at : ℕ) → at ≡ length front → written (front ++ back) at bytes ≡ front ++ (bytes ++ drop (length bytes) back)
written_behind front back bytes at is =
    let n : ℕ = length bytes in
    let zeros : List ℕ = replicate (at + n - length (front ++ back)) 0 in
    let before : take at ((front ++ back) ++ zeros) ≡ front = ap (λ (l : List ℕ). take at l) (append_assoc front back zeros) ∙ take_at front (back ++ zeros) at (sym is) in
    let behind : drop (at + n) ((front ++ back) ++ zeros) ≡ drop n (back ++ zeros) =
    ap (λ (l : List ℕ). drop (at + n) l) (append_assoc front back zeros)
    ∙ sym (drop-drop n at (front ++ (back ++ zeros)))
    ∙ ap (λ (l : List ℕ). drop n l) (drop_at front (back ++ zeros) at (sym is)) in
    let no_zeros : drop n (back ++ zeros) ≡ drop n back = elim (cases_lt n (length back)) [
      | inl below ↦
          let none : zeros ≡ [] = nil_from_length zeros (omega (arith, length-append front back, length-replicate {A = ℕ} (at + n - length (front ++ back)) 0)) in
          ap (λ (l : List ℕ). drop n (back ++ l)) none ∙ ap (λ (l : List ℕ). drop n l) (append-nil back)
      | inr past ↦ drop_all n (back ++ zeros) (omega (arith, length-append back zeros, length-append front back, length-replicate {A = ℕ} (at + n - length (front ++ back)) 0)) ∙ sym (drop_all n back past)
    ] in
    ap (λ (l : List ℕ). l ++ bytes ++ drop (at + n) ((front ++ back) ++ zeros)) before
    ∙ ap (λ (l : List ℕ). front ++ bytes ++ l) (behind ∙ no_zeros)
    ∙ append_assoc front bytes (drop n back)

-- a write behind a front that was torn: the front stands, and so does what lies past the range
pub record TornBehind (front back c : List ℕ) (n : ℕ) : Type 0 where
  pub end : List ℕ
  pub split : c ≡ front ++ end
  pub after : drop n end ≡ drop n back
  pub no_shorter : length back ≤ length end

pub torn_behind : (front back c : List ℕ) (at n : ℕ) → at ≡ length front → Torn at n (front ++ back) c → TornBehind front back c n
torn_behind front back c at n is torn =
    let low : min at (length (front ++ back)) ≡ at = omega (arith, length-append front back) in
    let before : take at c ≡ front =
    ap (λ (k : ℕ). take k c) (sym low) ∙ torn.before ∙ ap (λ (k : ℕ). take k (front ++ back)) low ∙ take_at front back at (sym is) in
    let split : c ≡ front ++ drop at c = sym (take-append-drop at c) ∙ ap (λ (l : List ℕ). l ++ drop at c) before in
    record {
      end = drop at c;
      split = split;
      after = drop-drop n at c ∙ torn.after ∙ sym (drop-drop n at (front ++ back)) ∙ ap (λ (l : List ℕ). drop n l) (drop_at front back at (sym is));
      no_shorter = omega (arith, length-drop at c, length-append front back, torn.no_shorter);
    }

-- one byte torn
pub torn_byte : (front rest c : List ℕ) (byte at : ℕ) → at ≡ length front → Torn at 1 (front ++ byte ∷ rest) c → c ≡ front ++ get_or (drop at c) 0 0 ∷ rest
torn_byte front rest c byte at is torn =
    let t = torn_behind front (byte ∷ rest) c at 1 is torn in
    let here : t.end ≡ get_or t.end 0 0 ∷ drop 1 t.end = drop_more t.end 0 0 (omega (arith, t.no_shorter)) in
    let same : drop at c ≡ t.end = ap (λ (l : List ℕ). drop at l) t.split ∙ drop_at front t.end at (sym is) in
    t.split ∙ ap (λ (l : List ℕ). front ++ l) (here ∙ ap (λ (l : List ℕ). get_or t.end 0 0 ∷ l) t.after ∙ ap (λ (l : List ℕ). get_or l 0 0 ∷ rest) (sym same))

-- ---- an append

-- whole records behind the head
abbrev pub front : ℕ → List ℕ → List (List ℕ) → List ℕ
front opened head records = opened ∷ (head ++ records_text records)

pub length-front : (opened : ℕ) (head : List ℕ) (records : List (List ℕ)) → length (front opened head records) ≡ 1 + length head + length (records_text records)
length-front opened head records = omega (arith, length-append head (records_text records))

-- a journal is such a front, a closed gate, and whatever follows
pub split : (file head : List ℕ) (records : List (List ℕ)) (j : IsJournal file head records) → file ≡ front j.opened head records ++ j.records_there.next ∷ j.records_there.rest
split file head records j =
    j.spelled ∙ ap (λ (l : List ℕ). j.opened ∷ (head ++ l)) j.records_there.spelled
    ∙ ap (λ (l : List ℕ). j.opened ∷ l) (sym (append_assoc head (records_text records) (j.records_there.next ∷ j.records_there.rest)))

pub joined : (file head : List ℕ) (records : List (List ℕ)) (opened next : ℕ) (rest : List ℕ) → opened ≢ 0 → next ≢ 1 → AreShort records → file ≡ front opened head records ++ next ∷ rest → IsJournal file head records
joined file head records opened next rest is_open is_closed short is = record {
  opened = opened;
  is_open = is_open;
  body = records_text records ++ next ∷ rest;
  spelled = is ∙ ap (λ (l : List ℕ). opened ∷ l) (append_assoc head (records_text records) (next ∷ rest));
  records_there = record { next = next; is_closed = is_closed; rest = rest; short = short; spelled = refl };
}

-- what stands behind the gate of a record that was written behind a closed gate
abbrev pub staged : List ℕ → List ℕ
staged payload = u32_text (length payload) ++ payload ++ 0 ∷ []

-- The first write leaves the records, whatever it leaves behind the closed gate.
pub staging : (file head c : List ℕ) (records : List (List ℕ)) (place n : ℕ) → IsJournal file head records → place ≡ 1 + length head + length (records_text records) → Torn (place + 1) n file c → IsJournal c head records
staging file head c records place n j at torn =
    let gate : List ℕ = front j.opened head records ++ j.records_there.next ∷ [] in
    let size : place + 1 ≡ length gate = omega (arith, length-append (front j.opened head records) (j.records_there.next ∷ []), length-front j.opened head records, at) in
    let whole : file ≡ gate ++ j.records_there.rest = split file head records j ∙ sym (append_assoc (front j.opened head records) (j.records_there.next ∷ []) j.records_there.rest) in
    let t = torn_behind gate j.records_there.rest c (place + 1) n size (subst (λ (f : List ℕ). Torn (place + 1) n f c) whole torn) in
    joined c head records j.opened j.records_there.next t.end j.is_open j.records_there.is_closed j.records_there.short
    (t.split ∙ append_assoc (front j.opened head records) (j.records_there.next ∷ []) t.end)

-- The record stands behind the closed gate.
pub record IsStaged (file head : List ℕ) (records : List (List ℕ)) (payload : List ℕ) : Type 0 where
  pub opened : ℕ
  pub is_open : opened ≢ 0
  pub next : ℕ
  pub is_closed : next ≢ 1
  pub more : List ℕ
  pub short : AreShort records
  pub spelled : file ≡ front opened head records ++ next ∷ (staged payload ++ more)

pub staged_now : (file head new : List ℕ) (records : List (List ℕ)) (payload : List ℕ) (place : ℕ) → IsJournal file head records → place ≡ 1 + length head + length (records_text records)
    → new ≡ written file (place + 1) (staged payload) → IsStaged new head records payload
staged_now file head new records payload place j at is =
    let gate : List ℕ = front j.opened head records ++ j.records_there.next ∷ [] in
    let size : place + 1 ≡ length gate = omega (arith, length-append (front j.opened head records) (j.records_there.next ∷ []), length-front j.opened head records, at) in
    let whole : file ≡ gate ++ j.records_there.rest = split file head records j ∙ sym (append_assoc (front j.opened head records) (j.records_there.next ∷ []) j.records_there.rest) in
    let more : List ℕ = drop (length (staged payload)) j.records_there.rest in
    record {
      opened = j.opened;
      is_open = j.is_open;
      next = j.records_there.next;
      is_closed = j.records_there.is_closed;
      more = more;
      short = j.records_there.short;
      spelled =
          is ∙ ap (λ (f : List ℕ). written f (place + 1) (staged payload)) whole
          ∙ written_behind gate j.records_there.rest (staged payload) (place + 1) size
          ∙ append_assoc (front j.opened head records) (j.records_there.next ∷ []) (staged payload ++ more);
    }

-- With its gate open the record is the last.
opened_record : (file head : List ℕ) (records : List (List ℕ)) (payload more : List ℕ) (opened : ℕ) → opened ≢ 0 → AreShort records → length payload < 2 ^ 32 → file ≡ front opened head records ++ 1 ∷ (staged payload ++ more)
    → IsJournal file head (records ++ payload ∷ [])
unfolding record_text
opened_record file head records payload more opened is_open short lt is =
    let body : 1 ∷ (staged payload ++ more) ≡ record_text payload ++ 0 ∷ more =
    ap (λ (l : List ℕ). 1 ∷ l) (append_assoc (u32_text (length payload) ++ payload) (0 ∷ []) more) in
    let texts : front opened head records ++ record_text payload ≡ front opened head (records ++ payload ∷ []) =
    ap (λ (l : List ℕ). opened ∷ l) (append_assoc head (records_text records) (record_text payload) ∙ ap (λ (l : List ℕ). head ++ l) (sym (records_push records payload))) in
    joined file head (records ++ payload ∷ []) opened 0 more is_open (omega arith) (short_push records payload short lt)
    (is ∙ ap (λ (l : List ℕ). front opened head records ++ l) body
    ∙ sym (append_assoc (front opened head records) (record_text payload) (0 ∷ more))
    ∙ ap (λ (l : List ℕ). l ++ 0 ∷ more) texts)

-- The second write leaves the records, with the new one or without.
pub opening : (file head c : List ℕ) (records : List (List ℕ)) (payload : List ℕ) (place : ℕ) → IsStaged file head records payload → length payload < 2 ^ 32 → place ≡ 1 + length head + length (records_text records) → Torn place 1 file c
    → StandsWithOrWithout head records payload c
opening file head c records payload place s lt at torn =
    let size : place ≡ length (front s.opened head records) = omega (arith, length-front s.opened head records, at) in
    let byte : ℕ = get_or (drop place c) 0 0 in
    let is : c ≡ front s.opened head records ++ byte ∷ (staged payload ++ s.more) =
    torn_byte (front s.opened head records) (staged payload ++ s.more) c s.next place size (subst (λ (f : List ℕ). Torn place 1 f c) s.spelled torn) in
    elim (cases_eq byte 1) [
      | inl is_one ↦ inr (inr (opened_record c head records payload s.more s.opened s.is_open s.short lt (is ∙ ap (λ (b : ℕ). front s.opened head records ++ b ∷ (staged payload ++ s.more)) is_one)))
      | inr shut ↦ inl (inr (joined c head records s.opened byte (staged payload ++ s.more) s.is_open shut s.short is))
    ]

pub opened_now : (file head new : List ℕ) (records : List (List ℕ)) (payload : List ℕ) (place : ℕ) → IsStaged file head records payload → length payload < 2 ^ 32 → place ≡ 1 + length head + length (records_text records)
    → new ≡ written file place (1 ∷ []) → IsJournal new head (records ++ payload ∷ [])
opened_now file head new records payload place s lt at is =
    let size : place ≡ length (front s.opened head records) = omega (arith, length-front s.opened head records, at) in
    opened_record new head records payload s.more s.opened s.is_open s.short lt
    (is ∙ ap (λ (f : List ℕ). written f place (1 ∷ [])) s.spelled ∙ written_behind (front s.opened head records) (s.next ∷ (staged payload ++ s.more)) (1 ∷ []) place size)

-- the place of the gate behind the new record
pub next_place : (head : List ℕ) (records : List (List ℕ)) (payload : List ℕ) (place : ℕ) → place ≡ 1 + length head + length (records_text records)
    → place + 5 + length payload ≡ 1 + length head + length (records_text (records ++ payload ∷ []))
unfolding record_text
next_place head records payload place at =
    omega (arith, at, ap length (records_push records payload), length-append (records_text records) (record_text payload), length-append (u32_text (length payload)) payload, length-u32_text (length payload))
