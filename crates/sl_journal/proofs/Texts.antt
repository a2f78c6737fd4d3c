-- Records are read in one way alone.
use Rattle.std.proofs.Common.{◌≡◌, ◌≢◌, ℕ, ◌^◌, ◌<◌, ◌≤◌, List, [], ◌∷◌, ◌++◌, length, get_or, take, drop, refl, sym, ◌∙◌, ap, subst, arith, append_assoc, length-append, take-append-drop}
use Rattle.std.proofs.lemmas.List.{take_at, drop_at, append-nil, length-take}
use Rattle.sl_defs.specs.Items.{u32_text, BeginsWith}
use Rattle.sl_defs.proofs.ItemLaws.{unique, length-u32_text}
use Rattle.sl_journal.specs.Format.{record_text, records_text, AreShort, FromGate, IsRecord, IsClosed, IsPayload, IsJournal}

-- two lists whose fronts are as long
pub same_parts : (p q x y : List ℕ) → length p ≡ length q → p ++ x ≡ q ++ y → (p ≡ q) × (x ≡ y)
same_parts p q x y len e = (
  sym (take_at p x (length p) refl) ∙ ap (λ (l : List ℕ). take (length p) l) e ∙ take_at q y (length p) (sym len),
  sym (drop_at p x (length p) refl) ∙ ap (λ (l : List ℕ). drop (length p) l) e ∙ drop_at q y (length p) (sym len),
)

pub payload_once : (bytes p x q y : List ℕ) → IsPayload bytes p x → IsPayload bytes q y → (p ≡ q) × (x ≡ y)
payload_once bytes p x q y one two =
    let same = unique (length p) (length q) (p ++ x) (q ++ y) one.short two.short (sym one.spelled ∙ two.spelled) in
    same_parts p q x y same.0 same.1

-- ---- the payload behind a gate

pub payload_found : (bytes body payload rest : List ℕ) (n : ℕ) → n < 2 ^ 32 → bytes ≡ u32_text n ++ body → payload ≡ take n body → rest ≡ drop n body → n ≤ length body → IsPayload bytes payload rest
payload_found bytes body payload rest n lt is front back long =
    let size : n ≡ length payload = omega (arith, length-take n body, ap length front) in
    let parts : body ≡ payload ++ rest = sym (take-append-drop n body) ∙ ap (λ (l : List ℕ). l ++ drop n body) (sym front) ∙ ap (λ (l : List ℕ). payload ++ l) (sym back) in
    record {
      short = omega (arith, size);
      spelled = is ∙ ap (λ (l : List ℕ). u32_text n ++ l) parts ∙ ap (λ (k : ℕ). u32_text k ++ (payload ++ rest)) size;
    }

pub no_number : (bytes payload rest : List ℕ) → ((n : ℕ) → n < 2 ^ 32 → BeginsWith bytes (u32_text n) → ⊥) → IsPayload bytes payload rest → ⊥
no_number bytes payload rest none is = none (length payload) is.short (payload ++ rest, is.spelled)

pub too_short : (bytes body payload rest : List ℕ) (n : ℕ) → n < 2 ^ 32 → bytes ≡ u32_text n ++ body → length body < n → IsPayload bytes payload rest → ⊥
too_short bytes body payload rest n lt split short is =
    let same = unique n (length payload) body (payload ++ rest) lt is.short (sym split ∙ is.spelled) in
    omega (arith, same.0, ap length same.1, length-append payload rest)

-- what follows the four bytes
pub behind_number : (bytes rest : List ℕ) (n : ℕ) → bytes ≡ u32_text n ++ rest → drop 4 bytes ≡ rest
behind_number bytes rest n is = ap (λ (l : List ℕ). drop 4 l) is ∙ drop_at (u32_text n) rest 4 (length-u32_text n)

-- ---- a gate

pub open_record : (bytes after payload rest : List ℕ) → bytes ≡ 1 ∷ after → IsPayload after payload rest → IsRecord bytes payload rest
unfolding record_text
open_record bytes after payload rest is found = record {
  short = found.short;
  spelled = is ∙ ap (λ (l : List ℕ). 1 ∷ l) (found.spelled ∙ sym (append_assoc (u32_text (length payload)) payload rest));
}

payload_of_record : (after payload rest : List ℕ) → length payload < 2 ^ 32 → 1 ∷ after ≡ record_text payload ++ rest → IsPayload after payload rest
unfolding record_text
payload_of_record after payload rest short e =
    let tail : after ≡ (u32_text (length payload) ++ payload) ++ rest = ap (λ (l : List ℕ). drop 1 l) e in
    record { short = short; spelled = tail ∙ append_assoc (u32_text (length payload)) payload rest }

-- nothing can be read where an open gate has no payload behind it
pub no_payload : (bytes after : List ℕ) (records : List (List ℕ)) → bytes ≡ 1 ∷ after → ((payload rest : List ℕ) → IsPayload after payload rest → ⊥) → FromGate bytes records → ⊥
no_payload bytes after [] is none from =
    from.is_closed (ap (λ (l : List ℕ). get_or l 0 0) (sym from.spelled ∙ is))
no_payload bytes after (payload ∷ records) is none from =
    none payload (records_text records ++ from.next ∷ from.rest)
    (payload_of_record after payload (records_text records ++ from.next ∷ from.rest) from.short.0
    (sym is ∙ from.spelled ∙ append_assoc (record_text payload) (records_text records) (from.next ∷ from.rest)))

-- nor where no gate stands
pub no_gate : (records : List (List ℕ)) → FromGate [] records → ⊥
no_gate records from = omega (arith, ap length from.spelled, length-append (records_text records) (from.next ∷ from.rest))

pub closed_stands : (bytes : List ℕ) → IsClosed bytes → FromGate bytes []
closed_stands bytes closed = record { next = closed.next; is_closed = closed.is_closed; rest = closed.rest; short = tt; spelled = closed.spelled }

-- ---- records, one after the other

pub records_push : (records : List (List ℕ)) (payload : List ℕ) → records_text (records ++ payload ∷ []) ≡ records_text records ++ record_text payload
records_push [] payload = append-nil (record_text payload)
records_push (p ∷ records) payload = ap (λ (l : List ℕ). record_text p ++ l) (records_push records payload) ∙ sym (append_assoc (record_text p) (records_text records) (record_text payload))

pub short_push : (records : List (List ℕ)) (payload : List ℕ) → AreShort records → length payload < 2 ^ 32 → AreShort (records ++ payload ∷ [])
short_push [] payload short lt = (lt, tt)
short_push (p ∷ records) payload short lt = (short.0, short_push records payload short.1 lt)

-- the records so far, then those from the next gate on
pub gate_behind : (bytes rest : List ℕ) (done records : List (List ℕ)) → AreShort done → bytes ≡ records_text done ++ rest → FromGate rest records → FromGate bytes (done ++ records)
gate_behind bytes rest done records short is from = record {
  next = from.next;
  is_closed = from.is_closed;
  rest = from.rest;
  short = all_short done records short from.short;
  spelled =
      is ∙ ap (λ (l : List ℕ). records_text done ++ l) from.spelled
      ∙ sym (append_assoc (records_text done) (records_text records) (from.next ∷ from.rest))
      ∙ ap (λ (l : List ℕ). l ++ from.next ∷ from.rest) (sym (texts done records));
}
  where
    all_short : (a b : List (List ℕ)) → AreShort a → AreShort b → AreShort (a ++ b)
    all_short [] b s t = t
    all_short (p ∷ a) b s t = (s.0, all_short a b s.1 t)

    texts : (a b : List (List ℕ)) → records_text (a ++ b) ≡ records_text a ++ records_text b
    texts [] b = refl
    texts (p ∷ a) b = ap (λ (l : List ℕ). record_text p ++ l) (texts a b) ∙ sym (append_assoc (record_text p) (records_text a) (records_text b))

-- Whatever these bytes stand for begins with the records so far, and goes on from the next gate.
pub record Unread (bytes rest : List ℕ) (done : List (List ℕ)) : Type 0 where
  pub goes_on : (records : List (List ℕ)) → FromGate bytes records → (more : List (List ℕ)) × (records ≡ done ++ more) × FromGate rest more

pub unread_all : (bytes : List ℕ) → Unread bytes bytes []
unread_all bytes = record { goes_on = λ records from. (records, refl, from) }

pub one_more : (rest after payload : List ℕ) (more : List (List ℕ)) → IsRecord rest payload after → FromGate rest more → (others : List (List ℕ)) × (more ≡ payload ∷ others) × FromGate after others
unfolding record_text
one_more rest after payload [] is from = absurd (from.is_closed (ap (λ (l : List ℕ). get_or l 0 0) (sym from.spelled ∙ is.spelled)))
one_more rest after payload (p ∷ others) is from =
    let behind = u32_text (length payload) ++ (payload ++ after) in
    let whole : rest ≡ 1 ∷ behind = is.spelled ∙ ap (λ (l : List ℕ). 1 ∷ l) (append_assoc (u32_text (length payload)) payload after) in
    let tail = records_text others ++ from.next ∷ from.rest in
    let there : IsPayload behind p tail = payload_of_record behind p tail from.short.0 (sym whole ∙ from.spelled ∙ append_assoc (record_text p) (records_text others) (from.next ∷ from.rest)) in
    let here : IsPayload behind payload after = record { short = is.short; spelled = refl } in
    let same = payload_once behind p tail payload after there here in
    (others, ap (λ (l : List ℕ). l ∷ others) same.0, record { next = from.next; is_closed = from.is_closed; rest = from.rest; short = from.short.1; spelled = sym same.1 })

pub unread_more : (bytes rest after payload : List ℕ) (done : List (List ℕ)) → Unread bytes rest done → IsRecord rest payload after → Unread bytes after (done ++ payload ∷ [])
unread_more bytes rest after payload done so_far is = record {
  goes_on = λ records from.
      let found = so_far.goes_on records from in
      let next = one_more rest after payload found.0 is found.2 in
      (next.0, found.1 ∙ ap (λ (l : List (List ℕ)). done ++ l) next.1 ∙ sym (append_assoc done (payload ∷ []) next.0), next.2);
}

pub spelled_more : (bytes rest after payload : List ℕ) (done : List (List ℕ)) → bytes ≡ records_text done ++ rest → IsRecord rest payload after → bytes ≡ records_text (done ++ payload ∷ []) ++ after
spelled_more bytes rest after payload done so_far is =
    so_far ∙ ap (λ (l : List ℕ). records_text done ++ l) is.spelled
    ∙ sym (append_assoc (records_text done) (record_text payload) after)
    ∙ ap (λ (l : List ℕ). l ++ after) (sym (records_push done payload))

pub nothing_read : (bytes rest : List ℕ) (done : List (List ℕ)) → Unread bytes rest done → ((more : List (List ℕ)) → FromGate rest more → ⊥) → (records : List (List ℕ)) → FromGate bytes records → ⊥
nothing_read bytes rest done so_far none records from = let found = so_far.goes_on records from in none found.0 found.2

pub all_read : (bytes rest : List ℕ) (done : List (List ℕ)) → AreShort done → bytes ≡ records_text done ++ rest → IsClosed rest → FromGate bytes done
all_read bytes rest done short is closed =
    subst (λ (l : List (List ℕ)). FromGate bytes l) (append-nil done) (gate_behind bytes rest done [] short is (closed_stands rest closed))

-- ---- what stands at a place, by its first byte

first_byte : (bytes : List ℕ) → 0 < length bytes → bytes ≡ get_or bytes 0 0 ∷ drop 1 bytes
first_byte [] long = absurd (omega arith)
first_byte (x ∷ xs) long = refl

pub closed_here : (bytes : List ℕ) → 0 < length bytes → get_or bytes 0 0 ≢ 1 → IsClosed bytes
closed_here bytes long shut = record { next = get_or bytes 0 0; is_closed = shut; rest = drop 1 bytes; spelled = first_byte bytes long }

open_gate : (bytes : List ℕ) → 0 < length bytes → get_or bytes 0 0 ≡ 1 → bytes ≡ 1 ∷ drop 1 bytes
open_gate bytes long is = first_byte bytes long ∙ ap (λ (n : ℕ). n ∷ drop 1 bytes) is

pub record_here : (bytes payload rest : List ℕ) → 0 < length bytes → get_or bytes 0 0 ≡ 1 → IsPayload (drop 1 bytes) payload rest → IsRecord bytes payload rest
record_here bytes payload rest long is found = open_record bytes (drop 1 bytes) payload rest (open_gate bytes long is) found

pub nothing_here : (bytes : List ℕ) (records : List (List ℕ)) → 0 < length bytes → get_or bytes 0 0 ≡ 1 → ((payload rest : List ℕ) → IsPayload (drop 1 bytes) payload rest → ⊥) → FromGate bytes records → ⊥
nothing_here bytes records long is none from = no_payload bytes (drop 1 bytes) records (open_gate bytes long is) none from

pub nothing_at_end : (bytes : List ℕ) (records : List (List ℕ)) → length bytes ≡ 0 → FromGate bytes records → ⊥
nothing_at_end [] records none from = no_gate records from
nothing_at_end (x ∷ xs) records none from = absurd (omega arith)

-- a record takes at least its gate
pub record_longer : (bytes payload rest : List ℕ) → IsRecord bytes payload rest → length rest < length bytes
unfolding record_text
record_longer bytes payload rest is = omega (arith, ap length is.spelled, length-append (u32_text (length payload) ++ payload) rest)

-- the parts of a journal
pub journal_front : (bytes head front behind : List ℕ) (records : List (List ℕ)) → behind ≡ drop 1 bytes → front ≡ take (length head) behind → IsJournal bytes head records → front ≡ head
journal_front bytes head front behind records is cut journal =
    let tail : behind ≡ head ++ journal.body = is ∙ ap (λ (l : List ℕ). drop 1 l) journal.spelled in
    cut ∙ ap (λ (l : List ℕ). take (length head) l) tail ∙ take_at head journal.body (length head) refl

pub journal_body : (bytes head body behind : List ℕ) (records : List (List ℕ)) → behind ≡ drop 1 bytes → body ≡ drop (length head) behind → IsJournal bytes head records → FromGate body records
journal_body bytes head body behind records is cut journal =
    let tail : behind ≡ head ++ journal.body = is ∙ ap (λ (l : List ℕ). drop 1 l) journal.spelled in
    let same : body ≡ journal.body = cut ∙ ap (λ (l : List ℕ). drop (length head) l) tail ∙ drop_at head journal.body (length head) refl in
    subst (λ (l : List ℕ). FromGate l records) (sym same) journal.records_there
