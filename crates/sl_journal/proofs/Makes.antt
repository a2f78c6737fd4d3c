-- What a stop leaves at each moment of a making.
use Rattle.std.proofs.Common.{◌≡◌, ◌≢◌, ◌⊎◌, inl, inr, ℕ, ◌≤◌, List, [], ◌∷◌, ◌++◌, length, get_or, drop, refl, sym, ◌∙◌, ap, subst, arith, append_assoc, length-append}
use Rattle.std.proofs.lemmas.List.{append-nil, drop_all}
use Rattle.std.proofs.lemmas.Bool.{cases_eq}
use Rattle.sl_disk.specs.Shelf.{Situation, Torn, Only, written}
use Rattle.sl_journal.specs.Format.{IsFresh, IsJournal, Stands, records_text, BeginsClosed, HasHead, IsAlike}
use Rattle.sl_journal.specs.Moments.{LeavesOnly, IsTorn, IsWritten}
use Rattle.sl_journal.proofs.Runs.{weaker, chain}
use Rattle.sl_journal.proofs.Stages.{written_behind, torn_behind, torn_byte, joined}

-- fresh bytes stand for nothing else
pub fresh_none : (bytes head : List ℕ) (records : List (List ℕ)) → IsFresh bytes → Stands bytes head records → records ≡ []
fresh_none bytes head records fresh (inl none) = none.1
fresh_none bytes head records (inl short) (inr j) =
    absurd (omega (arith, short, ap length j.spelled, length-append head j.body, ap length j.records_there.spelled, length-append (records_text records) (j.records_there.next ∷ j.records_there.rest)))
fresh_none bytes head records (inr zero_first) (inr j) = absurd (j.is_open (sym (ap (λ (l : List ℕ). get_or l 0 0) j.spelled) ∙ zero_first))

pub alike : (bytes head c : List ℕ) → IsFresh bytes → Stands c head [] → IsAlike bytes head c
alike bytes head c fresh stands records before = subst (λ (l : List (List ℕ)). Stands c head l) (sym (fresh_none bytes head records fresh before)) stands

pub short_stands : (head c : List ℕ) → length c ≤ 1 → Stands c head []
short_stands head c short = inl (inl short, refl)

-- ---- closing the first byte

pub closing : (file c : List ℕ) → length file ≤ 1 → Torn 0 1 file c → length c ≤ 1
closing file c short torn = omega (arith, torn.no_longer)

pub closed_now : (file new : List ℕ) → length file ≤ 1 → new ≡ written file 0 (0 ∷ []) → BeginsClosed new
closed_now file new short is = ([], is ∙ written_behind [] file (0 ∷ []) 0 refl ∙ ap (λ (l : List ℕ). 0 ∷ l) (drop_all 1 file short))

-- ---- the head behind a closed byte

pub heading : (file head c : List ℕ) (n : ℕ) → BeginsClosed file → Torn 1 n file c → Stands c head []
heading file head c n closed torn =
    let t = torn_behind (0 ∷ []) closed.0 c 1 n refl (subst (λ (f : List ℕ). Torn 1 n f c) closed.1 torn) in
    inl (inr (ap (λ (l : List ℕ). get_or l 0 0) t.split), refl)

pub headed : (file head new : List ℕ) → BeginsClosed file → new ≡ written file 1 (head ++ 0 ∷ []) → HasHead new head
headed file head new closed is =
    let more = drop (length (head ++ 0 ∷ [])) closed.0 in
    (more, is ∙ ap (λ (f : List ℕ). written f 1 (head ++ 0 ∷ [])) closed.1 ∙ written_behind (0 ∷ []) closed.0 (head ++ 0 ∷ []) 1 refl ∙ ap (λ (l : List ℕ). 0 ∷ l) (append_assoc head (0 ∷ []) more))

-- ---- opening

no_records : (c head more : List ℕ) (byte : ℕ) → byte ≢ 0 → c ≡ byte ∷ (head ++ 0 ∷ more) → IsJournal c head []
no_records c head more byte is_open is = joined c head [] byte 0 more is_open (omega arith) tt (is ∙ ap (λ (l : List ℕ). byte ∷ (l ++ 0 ∷ more)) (sym (append-nil head)))

pub opening_head : (file head c : List ℕ) → HasHead file head → Torn 0 1 file c → Stands c head []
opening_head file head c has torn =
    let byte : ℕ = get_or (drop 0 c) 0 0 in
    let is : c ≡ byte ∷ (head ++ 0 ∷ has.0) = torn_byte [] (head ++ 0 ∷ has.0) c 0 0 refl (subst (λ (f : List ℕ). Torn 0 1 f c) has.1 torn) in
    elim (cases_eq byte 0) [
      | inl shut ↦ inl (inr shut, refl)
      | inr is_open ↦ inr (no_records c head has.0 byte is_open is)
    ]

pub made_now : (file head new : List ℕ) → HasHead file head → new ≡ written file 0 (1 ∷ []) → IsJournal new head []
made_now file head new has is =
    no_records new head has.0 1 (omega arith) (is ∙ ap (λ (f : List ℕ). written f 0 (1 ∷ [])) has.1 ∙ written_behind [] (0 ∷ (head ++ 0 ∷ has.0)) (1 ∷ []) 0 refl)

-- ---- the two writes

pub make_run : (disk n : ℕ) (head : List ℕ) (old mid new : Situation) → BeginsClosed (old.disk disk).contents → Only (old.disk disk).contents (old.may_leave disk) → LeavesOnly disk old mid (IsTorn 1 n (old.may_leave disk))
    → IsWritten disk 1 (head ++ 0 ∷ []) old mid → LeavesOnly disk mid new (IsTorn 0 1 (mid.may_leave disk)) → LeavesOnly disk old new (λ c. Stands c head [])
make_run disk n head old mid new closed only first wrote then =
    chain disk old mid new (λ c. Stands c head []) (IsTorn 0 1 (mid.may_leave disk))
    (weaker disk old mid (λ c. Stands c head []) (IsTorn 1 n (old.may_leave disk)) first (λ c torn. heading (old.disk disk).contents head c n closed (subst (λ (f : List ℕ). Torn 1 n f c) (only torn.0 torn.1) torn.2)))
    then
    (λ c torn. opening_head (mid.disk disk).contents head c (headed (old.disk disk).contents head (mid.disk disk).contents closed wrote.contents) (subst (λ (f : List ℕ). Torn 0 1 f c) (wrote.durable torn.0 torn.1) torn.2))

-- ---- an opening

pub open_run : (disk : ℕ) (bytes head : List ℕ) (old mid new : Situation) → bytes ≡ (old.disk disk).contents → IsFresh bytes → LeavesOnly disk old mid (old.may_leave disk) → LeavesOnly disk mid new (λ c. Stands c head [])
    → LeavesOnly disk old new (λ c. old.may_leave disk c ⊎ IsAlike (old.disk disk).contents head c)
open_run disk bytes head old mid new is fresh first then =
    chain disk old mid new (λ c. old.may_leave disk c ⊎ IsAlike (old.disk disk).contents head c) (λ c. Stands c head [])
    (weaker disk old mid (λ c. old.may_leave disk c ⊎ IsAlike (old.disk disk).contents head c) (old.may_leave disk) first (λ c left. inl left))
    then
    (λ c stands. inr (alike (old.disk disk).contents head c (subst IsFresh is fresh) stands))

pub no_records_at_all : (bytes contents head text : List ℕ) (records : List (List ℕ)) → bytes ≡ contents → head ≡ text → (IsFresh bytes → ⊥) → (IsJournal bytes head records → ⊥) → Stands contents text records → ⊥
no_records_at_all bytes contents head text records is same stale none (inl fresh) = stale (subst IsFresh (sym is) fresh.0)
no_records_at_all bytes contents head text records is same stale none (inr j) =
    none (subst (λ (b : List ℕ). IsJournal b head records) (sym is) (subst (λ (h : List ℕ). IsJournal contents h records) (sym same) j))
