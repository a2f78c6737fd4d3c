-- Bytes stand for one list of records alone.
use Rattle.std.proofs.Common.{◌≡◌, inl, inr, ℕ, List, [], ◌∷◌, ◌++◌, length, get_or, drop, refl, sym, ◌∙◌, ap, append_assoc}
use Rattle.sl_journal.specs.Format.{record_text, records_text, FromGate, IsRecord, Stands}
use Rattle.sl_journal.proofs.Makes.{fresh_none}
use Rattle.sl_journal.proofs.Texts.{one_more, journal_body}

-- a first record stands at the front, and the others from behind it
first_record : (bytes payload : List ℕ) (others : List (List ℕ)) → (from : FromGate bytes (payload ∷ others)) → IsRecord bytes payload (records_text others ++ from.next ∷ from.rest)
first_record bytes payload others from = record {
  short = from.short.0;
  spelled = from.spelled ∙ append_assoc (record_text payload) (records_text others) (from.next ∷ from.rest);
}

behind_first : (bytes payload : List ℕ) (others : List (List ℕ)) → (from : FromGate bytes (payload ∷ others)) → FromGate (records_text others ++ from.next ∷ from.rest) others
behind_first bytes payload others from = record { next = from.next; is_closed = from.is_closed; rest = from.rest; short = from.short.1; spelled = refl }

-- no record stands at a closed gate
none_at_closed : (bytes payload : List ℕ) (others : List (List ℕ)) → FromGate bytes [] → FromGate bytes (payload ∷ others) → ⊥
unfolding record_text
none_at_closed bytes payload others closed from = closed.is_closed (ap (λ (l : List ℕ). get_or l 0 0) (sym closed.spelled ∙ from.spelled))

from_once : (bytes : List ℕ) (one other : List (List ℕ)) → FromGate bytes one → FromGate bytes other → one ≡ other
from_once bytes [] [] a b = refl
from_once bytes [] (q ∷ other) a b = absurd (none_at_closed bytes q other a b)
from_once bytes (p ∷ one) other a b =
    let rest = records_text one ++ a.next ∷ a.rest in
    let found = one_more bytes rest p other (first_record bytes p one a) b in
    ap (λ (l : List (List ℕ)). p ∷ l) (from_once rest one found.0 (behind_first bytes p one a) found.2) ∙ sym found.1

pub stands_once : (bytes head : List ℕ) (one other : List (List ℕ)) → Stands bytes head one → Stands bytes head other → one ≡ other
stands_once bytes head one other (inl fresh) b = fresh.1 ∙ sym (fresh_none bytes head other fresh.0 b)
stands_once bytes head one other (inr a) (inl fresh) = fresh_none bytes head one fresh.0 (inr a) ∙ sym fresh.1
stands_once bytes head one other (inr a) (inr b) =
    let behind = drop 1 bytes in
    let body = drop (length head) behind in
    from_once body one other (journal_body bytes head body behind one refl refl a) (journal_body bytes head body behind other refl refl b)
