-- A handle is read exactly where one is spelled.
use Rattle.std.proofs.Common.{◌≡◌, ℕ, zero, suc, ◌+◌, ◌*◌, ◌/◌, ◌%◌, ◌^◌, ◌<◌, eqb, List, [], ◌∷◌, ◌++◌, length, Option, Some, None, refl, sym, ap, subst, ◌∙◌, append-nil, arith, codes}
use Rattle.std.specs.Prelude.{IfSome, IfNone}
use Rattle.std.proofs.lemmas.Bool.{eqb-true}
use Rattle.std.proofs.lemmas.Option.{cond_some}
use Rattle.sl_defs.specs.Items.{u32_text, u64_text, AreBytes, ◌>>=◌, u32_at}
use Rattle.sl_defs.proofs.ItemLaws.{bind_some, Takes, u32_takes, u32_found, u64_found, u32_step, u64_step}
use Rattle.sl_defs.proofs.HeaderLaws.{same_some, zero_found, zero_step}
use Rattle.sl_types.specs.declared.kind.Kind.{Kind}
use Rattle.sl_types.specs.declared.kind.Kind.TheVariants.{Reg, Dir, Blk, Chr, Lnk, Sock, Fifo}
use Rattle.sl_types.specs.declared.handle.Handle.{Handle}
use Rattle.sl_types.specs.declared.handle.InternalHandle.{InternalHandle}
use Rattle.sl_types.specs.Numbers.{kind_number}
use Rattle.sl_types.specs.Handles.{form_text, handle_text, internal_text, FitsHandle, FitsInternal, kind_of, magic_number, magic_at, whole, form_at, handle_of, internal_of, HandlesAreReadAgain, InternalHandlesAreReadAgain}

-- ---- the magic number and the kind

magic_is : u32_text magic_number ≡ codes "SLH1"
unfolding u32_text
magic_is = refl

magic_takes : (bytes rest : List ℕ) → AreBytes bytes → magic_at bytes ≡ Some rest → Takes bytes (codes "SLH1") rest
unfolding magic_at
magic_takes bytes rest fits e =
    let b = bind_some (u32_at bytes) _ rest e in
    let g = cond_some (eqb b.0.0 magic_number) b.0.1 rest b.2 in
    let t = u32_takes bytes b.0 fits b.1 in
    let is : u32_text b.0.0 ≡ codes "SLH1" = ap u32_text (eqb-true _ _ g.0) ∙ magic_is in
    subst (λ (r : List ℕ). Takes bytes (codes "SLH1") r) g.1 (subst (λ (text : List ℕ). Takes bytes text b.0.1) is t.0)

magic_found : (rest : List ℕ) → magic_at (codes "SLH1" ++ rest) ≡ Some rest
unfolding magic_at
magic_found rest = ap (λ (text : List ℕ). magic_at (text ++ rest)) (sym magic_is) ∙ rw (u32_found magic_number rest (omega arith)) refl

magic_step : {B : Type 0} (bytes : List ℕ) (f : List ℕ → Option B) (y : B) (P : Type 0) → AreBytes bytes → (magic_at bytes >>= f) ≡ Some y
    → ((rest : List ℕ) → AreBytes rest → bytes ≡ codes "SLH1" ++ rest → f rest ≡ Some y → P) → P
magic_step bytes f y P fits e k =
    let b = bind_some (magic_at bytes) f y e in
    let t = magic_takes bytes b.0 fits b.1 in
    k b.0 t.rest_fits t.parts b.2

pub kind_is : (n : ℕ) (k : Kind) → kind_of n ≡ Some k → n ≡ kind_number k
kind_is zero k e = absurd cc
kind_is (suc zero) k e = subst (λ (k : Kind). 1 ≡ kind_number k) (same_some Reg k e) refl
kind_is (suc (suc zero)) k e = subst (λ (k : Kind). 2 ≡ kind_number k) (same_some Dir k e) refl
kind_is (suc (suc (suc zero))) k e = subst (λ (k : Kind). 3 ≡ kind_number k) (same_some Blk k e) refl
kind_is (suc (suc (suc (suc zero)))) k e = subst (λ (k : Kind). 4 ≡ kind_number k) (same_some Chr k e) refl
kind_is (suc (suc (suc (suc (suc zero))))) k e = subst (λ (k : Kind). 5 ≡ kind_number k) (same_some Lnk k e) refl
kind_is (suc (suc (suc (suc (suc (suc zero)))))) k e = subst (λ (k : Kind). 6 ≡ kind_number k) (same_some Sock k e) refl
kind_is (suc (suc (suc (suc (suc (suc (suc zero))))))) k e = subst (λ (k : Kind). 7 ≡ kind_number k) (same_some Fifo k e) refl
kind_is (suc (suc (suc (suc (suc (suc (suc (suc n)))))))) k e = absurd cc

pub kind_found : (k : Kind) → kind_of (kind_number k) ≡ Some k
kind_found Reg = refl
kind_found Dir = refl
kind_found Blk = refl
kind_found Chr = refl
kind_found Lnk = refl
kind_found Sock = refl
kind_found Fifo = refl

pub kind_number-fits : (k : Kind) → kind_number k < 2 ^ 32
kind_number-fits Reg = omega arith
kind_number-fits Dir = omega arith
kind_number-fits Blk = omega arith
kind_number-fits Chr = omega arith
kind_number-fits Lnk = omega arith
kind_number-fits Sock = omega arith
kind_number-fits Fifo = omega arith

kind_step : {B : Type 0} (n : ℕ) (f : Kind → Option B) (y : B) (P : Type 0) → (kind_of n >>= f) ≡ Some y → ((k : Kind) → n ≡ kind_number k → f k ≡ Some y → P) → P
kind_step n f y P e next = let b = bind_some (kind_of n) f y e in next b.0 (kind_is n b.0 b.1) b.2

-- ---- the whole of the bytes

empty_is : (rest : List ℕ) → length rest ≡ 0 → rest ≡ []
empty_is [] e = refl
empty_is (b ∷ bs) e = absurd (omega arith)

whole_is : {A : Type 0} (x : A) (rest : List ℕ) (y : A) → whole x rest ≡ Some y → (rest ≡ []) × (x ≡ y)
whole_is x rest y e =
    let g = cond_some (eqb (length rest) 0) x y e in
    (empty_is rest (eqb-true _ _ g.0), g.1)

-- ---- what all handles are

-- the bytes spell this form
record Spells (bytes : List ℕ) (x : Handle × ℕ) : Type 0 where
  spelled : bytes ≡ form_text x.0 x.1
  handle : FitsHandle x.0
  last : x.1 < 2 ^ 32

form_takes : (bytes : List ℕ) (x : Handle × ℕ) → AreBytes bytes → form_at bytes ≡ Some x → Spells bytes x
unfolding form_at form_text
form_takes bytes x fits e =
    let P = Spells bytes x in
    magic_step bytes _ x P fits e (λ r0 f0 p0 e0.
    zero_step r0 _ x P f0 e0 (λ r1 f1 p1 e1.
    u64_step r1 _ x P f1 e1 (λ volume r2 l2 f2 p2 e2.
    u64_step r2 _ x P f2 e2 (λ fileid r3 l3 f3 p3 e3.
    u32_step r3 _ x P f3 e3 (λ number r4 l4 f4 p4 e4.
    kind_step number _ x P e4 (λ kind is e4'.
    u32_step r4 _ x P f4 e4' (λ last r5 l5 f5 p5 e5.
    let h : Handle = record { volume = volume; fileid = fileid; kind = kind } in
    let made : Handle × ℕ = (h, last) in
    let w = whole_is made r5 x e5 in
    let p5' : r4 ≡ u32_text last = p5 ∙ ap (λ (t : List ℕ). u32_text last ++ t) w.0 ∙ append-nil (u32_text last) in
    let spelled : bytes ≡ form_text h last = p0 ∙ ap (λ (t : List ℕ). codes "SLH1" ++ t) (p1 ∙ ap (λ (t : List ℕ). u32_text 0 ++ t) (p2 ∙ ap (λ (t : List ℕ). u64_text volume ++ t) (p3 ∙ ap (λ (t : List ℕ). u64_text fileid ++ t) (p4 ∙ ap (λ (t : List ℕ). u32_text number ++ t) p5' ∙ ap (λ (n : ℕ). u32_text n ++ u32_text last) is)))) in
    subst (Spells bytes) w.1 (record { spelled = spelled; handle = record { volume = l2; fileid = l3 }; last = l5 }))))))))

form_found : (h : Handle) (last : ℕ) → FitsHandle h → last < 2 ^ 32 → form_at (form_text h last) ≡ Some (h, last)
unfolding form_at form_text
form_found h last fits lt =
    let r5 = u32_text last in
    let r4 = u32_text (kind_number h.kind) ++ r5 in
    let r3 = u64_text h.fileid ++ r4 in
    let r2 = u64_text h.volume ++ r3 in
    let r1 = u32_text 0 ++ r2 in
    let back : u32_at r5 ≡ Some (last, []) = ap u32_at (sym (append-nil r5)) ∙ u32_found last [] lt in
    rw (magic_found r1, zero_found r2, u64_found h.volume r3 fits.volume, u64_found h.fileid r4 fits.fileid, u32_found (kind_number h.kind) r5 (kind_number-fits h.kind), kind_found h.kind, back) refl

-- ---- the two forms

handle_takes : (bytes : List ℕ) (h : Handle) → AreBytes bytes → handle_of bytes ≡ Some h → bytes ≡ handle_text h
unfolding handle_of
handle_takes bytes h fits e =
    let b = bind_some (form_at bytes) _ h e in
    let g = cond_some (eqb b.0.1 0) b.0.0 h b.2 in
    let t = form_takes bytes b.0 fits b.1 in
    t.spelled ∙ ap (λ (n : ℕ). form_text b.0.0 n) (eqb-true _ _ g.0) ∙ ap (λ (h : Handle). form_text h 0) g.1

pub handle_found : HandlesAreReadAgain
unfolding handle_of
handle_found h fits = rw (form_found h 0 fits (omega arith)) refl

internal_takes : (bytes : List ℕ) (i : InternalHandle) → AreBytes bytes → internal_of bytes ≡ Some i → bytes ≡ internal_text i
unfolding internal_of
internal_takes bytes i fits e =
    let b = bind_some (form_at bytes) _ i e in
    let t = form_takes bytes b.0 fits b.1 in
    let made : InternalHandle = record { handle = b.0.0; site = b.0.1 / 2 ^ 16; actor = b.0.1 % 2 ^ 16 } in
    let last : b.0.1 ≡ (b.0.1 / 2 ^ 16) * 2 ^ 16 + b.0.1 % 2 ^ 16 = omega arith in
    subst (λ (i : InternalHandle). bytes ≡ internal_text i) (same_some made i b.2) (t.spelled ∙ ap (λ (n : ℕ). form_text b.0.0 n) last)

pub internal_found : InternalHandlesAreReadAgain
unfolding internal_of
internal_found i fits =
    let last : i.site * 2 ^ 16 + i.actor < 2 ^ 32 = omega (arith, fits.site, fits.actor) in
    let site : (i.site * 2 ^ 16 + i.actor) / 2 ^ 16 ≡ i.site = omega (arith, fits.actor) in
    let actor : (i.site * 2 ^ 16 + i.actor) % 2 ^ 16 ≡ i.actor = omega (arith, fits.actor) in
    rw (form_found i.handle (i.site * 2 ^ 16 + i.actor) fits.handle last, site, actor) refl

-- ---- from what reading gives to what stands there

clash : {A : Type 0} (x : A) → ◌≡◌ {A = Option A} None (Some x) → ⊥
clash x e = cc

module _ (bytes : List ℕ) where
  pub handle_is_found : (r : Option Handle) → AreBytes bytes → r ≡ handle_of bytes → IfSome r (λ h. bytes ≡ handle_text h)
  handle_is_found None fits e = tt
  handle_is_found (Some h) fits e = handle_takes bytes h fits (sym e)

  pub handle_is_none : (r : Option Handle) → r ≡ handle_of bytes → IfNone r ((h : Handle) → FitsHandle h → bytes ≡ handle_text h → ⊥)
  handle_is_none None e = λ h fits p. clash h (e ∙ ap handle_of p ∙ handle_found h fits)
  handle_is_none (Some h) e = tt

  pub internal_is_found : (r : Option InternalHandle) → AreBytes bytes → r ≡ internal_of bytes → IfSome r (λ i. bytes ≡ internal_text i)
  internal_is_found None fits e = tt
  internal_is_found (Some i) fits e = internal_takes bytes i fits (sym e)

  pub internal_is_none : (r : Option InternalHandle) → r ≡ internal_of bytes → IfNone r ((i : InternalHandle) → FitsInternal i → bytes ≡ internal_text i → ⊥)
  internal_is_none None e = λ i fits p. clash i (e ∙ ap internal_of p ∙ internal_found i fits)
  internal_is_none (Some i) e = tt
