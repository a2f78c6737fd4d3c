-- What a stop leaves at each moment of an append.
use Rattle.std.proofs.Common.{◌≡◌, inl, inr, ℕ, ◌+◌, ◌^◌, ◌<◌, List, [], ◌∷◌, ◌++◌, length, sym, ◌∙◌, subst}
use Rattle.sl_disk.specs.Shelf.{Situation, Torn}
use Rattle.sl_journal.specs.Format.{IsJournal}
use Rattle.sl_journal.specs.Moments.{LeavesOnly, IsTorn, IsWritten}
use Rattle.sl_journal.specs.Settled.{SettledAt, StandsWithOrWithout}
use Rattle.sl_journal.proofs.Runs.{started, weaker, chain}
use Rattle.sl_journal.proofs.Stages.{staging, staged, IsStaged, staged_now, opening, opened_now, next_place}

module _ (disk end : ℕ) (head : List ℕ) (records : List (List ℕ)) (payload : List ℕ) (old : Situation) (settled : SettledAt disk end head records old) (short : length payload < 2 ^ 32) where
  -- each image has the records
  pub images : (c : List ℕ) → old.may_leave disk c → IsJournal c head records
  images c left = subst (λ (f : List ℕ). IsJournal f head records) (sym (settled.durable c left)) settled.journal

  pub none_yet : ((c : List ℕ) → old.left_since disk old.moment c → old.may_leave disk c) → LeavesOnly disk old old (StandsWithOrWithout head records payload)
  none_yet now = started disk old (StandsWithOrWithout head records payload) (λ c left. inl (inr (images c (now c left))))

  pub first_run : (mid : Situation) (n : ℕ) → LeavesOnly disk old mid (IsTorn (end + 1) n (old.may_leave disk)) → LeavesOnly disk old mid (StandsWithOrWithout head records payload)
  first_run mid n run =
      weaker disk old mid (StandsWithOrWithout head records payload) (IsTorn (end + 1) n (old.may_leave disk)) run
      (λ c torn. inl (inr (staging torn.0 head c records end n (images torn.0 torn.1) settled.place torn.2)))

  pub is_staged : (mid : Situation) → IsWritten disk (end + 1) (staged payload) old mid → IsStaged (mid.disk disk).contents head records payload
  is_staged mid wrote = staged_now (old.disk disk).contents head (mid.disk disk).contents records payload end settled.journal settled.place wrote.contents

  pub second_run : (mid new : Situation) (n : ℕ) → LeavesOnly disk old mid (IsTorn (end + 1) n (old.may_leave disk)) → IsWritten disk (end + 1) (staged payload) old mid → LeavesOnly disk mid new (IsTorn end 1 (mid.may_leave disk))
      → LeavesOnly disk old new (StandsWithOrWithout head records payload)
  second_run mid new n first wrote then =
      chain disk old mid new (StandsWithOrWithout head records payload) (IsTorn end 1 (mid.may_leave disk)) (first_run mid n first) then
      (λ c torn. opening (mid.disk disk).contents head c records payload end (is_staged mid wrote) short settled.place (subst (λ (f : List ℕ). Torn end 1 f c) (wrote.durable torn.0 torn.1) torn.2))

  pub settled_again : (mid new : Situation) (next : ℕ) → next ≡ end + 5 + length payload → IsWritten disk (end + 1) (staged payload) old mid → IsWritten disk end (1 ∷ []) mid new → (new.disk disk).is_modelled ≡ (old.disk disk).is_modelled
      → SettledAt disk next head (records ++ payload ∷ []) new
  settled_again mid new next is wrote opened model = record {
    modelled = model ∙ settled.modelled;
    journal = opened_now (mid.disk disk).contents head (new.disk disk).contents records payload end (is_staged mid wrote) short settled.place opened.contents;
    place = is ∙ next_place head records payload end settled.place;
    durable = opened.durable;
  }
