-- Frames that are told in a turn, one after another.
use Rattle.std.proofs.Common.{◌≡◌, ℕ, suc, ◌+◌, ◌<◌, ◌≤◌, List, ◌∷◌, length, get_or, drop, drop-cons, add-one, ap, sym, subst, ◌∙◌, ◌↔◌}
use Rattle.std.proofs.lemmas.List.{drop_all}
use Rattle.std.specs.Prelude.{map}
use Rattle.sl_defs.specs.declared.setup.Setup.{Setup}
use Rattle.sl_past.specs.Words.{remark_of}
use Rattle.sl_past.specs.declared.remark.Remark as remark
use Rattle.sl_model.specs.Volume.{Volume}
use Rattle.sl_history.specs.Turns.{Remark, Sent, Did, Flush, Verf, Replied, Junk, Early, Full, Lost, Down, History}
use Rattle.sl_history.specs.Wired.{AreTrue}
use Rattle.sl_wiring.specs.Telling.{IsTrueRemark}

true_both : (setup : Setup) (v : Volume) (h : History) (r : Remark) (rs : List Remark) → AreTrue setup v h (r ∷ rs) ↔ (IsTrueRemark setup v h r × AreTrue setup v h rs)
true_both setup v h (Sent k f) rs = (λ are. are, λ are. are)
true_both setup v h (Did n at choice) rs = (λ are. (tt, are), λ both. both.1)
true_both setup v h (Flush f) rs = (λ are. (tt, are), λ both. both.1)
true_both setup v h (Verf w) rs = (λ are. (tt, are), λ both. both.1)
true_both setup v h (Replied n e bytes) rs = (λ are. (tt, are), λ both. both.1)
true_both setup v h (Junk n) rs = (λ are. (tt, are), λ both. both.1)
true_both setup v h (Early n) rs = (λ are. (tt, are), λ both. both.1)
true_both setup v h (Full n) rs = (λ are. (tt, are), λ both. both.1)
true_both setup v h (Lost n) rs = (λ are. (tt, are), λ both. both.1)
true_both setup v h (Down a) rs = (λ are. (tt, are), λ both. both.1)

-- Whether all are true rests on those that are left.
abbrev pub TrueLeft : Setup → Volume → History → List remark.Remark → List remark.Remark → Type 0
TrueLeft setup v h left items = AreTrue setup v h (map remark_of left) ↔ AreTrue setup v h (map remark_of items)

next_is : (items : List remark.Remark) (k : ℕ) (item : remark.Remark) → k < length items → item ≡ get_or items k item → drop k items ≡ item ∷ drop (k + 1) items
next_is items k item within is =
    drop-cons items k item within ∙ ap (λ (x : remark.Remark). x ∷ drop (suc k) items) (sym is) ∙ ap (λ (j : ℕ). item ∷ drop j items) (sym (add-one k))

here_both : (setup : Setup) (v : Volume) (h : History) (items : List remark.Remark) (k : ℕ) (item : remark.Remark) → k < length items → item ≡ get_or items k item → TrueLeft setup v h (drop k items) items
    → (IsTrueRemark setup v h (remark_of item) × AreTrue setup v h (map remark_of (drop (k + 1) items))) ↔ AreTrue setup v h (map remark_of items)
here_both setup v h items k item within is left =
    let there = subst (λ (xs : List remark.Remark). TrueLeft setup v h xs items) (next_is items k item within is) left in
    let both = true_both setup v h (remark_of item) (map remark_of (drop (k + 1) items)) in (
      λ parts. there.0 (both.1 parts),
      λ all. both.0 (there.1 all),
    )

pub true_next : (setup : Setup) (v : Volume) (h : History) (items : List remark.Remark) (k : ℕ) (item : remark.Remark) → k < length items → item ≡ get_or items k item → IsTrueRemark setup v h (remark_of item)
    → TrueLeft setup v h (drop k items) items → TrueLeft setup v h (drop (k + 1) items) items
true_next setup v h items k item within is here left =
    let both = here_both setup v h items k item within is left in (λ rest. both.0 (here, rest), λ all. (both.1 all).1)

pub true_wrong : (setup : Setup) (v : Volume) (h : History) (items : List remark.Remark) (k : ℕ) (item : remark.Remark) → k < length items → item ≡ get_or items k item → (IsTrueRemark setup v h (remark_of item) → ⊥)
    → TrueLeft setup v h (drop k items) items → AreTrue setup v h (map remark_of items) → ⊥
true_wrong setup v h items k item within is wrong left all = wrong ((here_both setup v h items k item within is left).1 all).0

pub true_all : (setup : Setup) (v : Volume) (h : History) (items : List remark.Remark) (k : ℕ) → length items ≤ k → TrueLeft setup v h (drop k items) items → AreTrue setup v h (map remark_of items)
true_all setup v h items k past left = (subst (λ (xs : List remark.Remark). TrueLeft setup v h xs items) (drop_all k items past) left).0 tt
