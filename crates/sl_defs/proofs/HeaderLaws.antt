-- A header, and the body of an AUTH_SYS credential, are read exactly where one stands.
use Rattle.std.proofs.Common.{◌≡◌, ℕ, zero, suc, ◌+◌, ◌^◌, ◌<◌, ◌≤◌, Bool, true, false, cond, ltb, eqb, List, [], ◌∷◌, ◌++◌, length, Option, Some, None, refl, sym, ap, subst, ◌∙◌, append_assoc, arith}
use Rattle.std.specs.Prelude.{All}
use Rattle.std.proofs.lemmas.Bool.{eqb-true, ltb-false, le-ltb}
use Rattle.std.proofs.lemmas.List.{length-append}
use Rattle.std.proofs.lemmas.Option.{cond_some}
use Rattle.sl_defs.specs.Items.{u32_text, AreBytes, ◌>>=◌, u32_at}
use Rattle.sl_defs.specs.Rpc.{CallHeader, IsAuth, numbers_text, IsCallHeader, BeginsWithHeader, HasNoHeader, AuthSys, u32s_text, IsAuthSys, u32s_at, counted_at, auth_sys_at, zero_at, auth_at, call_header_at}
use Rattle.sl_defs.proofs.ItemLaws.{bind_some, Takes, u32_takes, u32_found, u32_step, opaque_step, opaque_found, join}

pub same_some : {A : Type 0} (x y : A) → ◌≡◌ {A = Option A} (Some x) (Some y) → x ≡ y
same_some x y e = cc

-- a test that let pass to a reader
guard_bind : {A : Type 0} (b : Bool) (r : Option A) (y : A) → cond b None r ≡ Some y → (b ≡ false) × (r ≡ Some y)
guard_bind true r y e = absurd cc
guard_bind false r y e = (refl, e)

-- ---- the number 0

pub zero_takes : (bytes rest : List ℕ) → AreBytes bytes → zero_at bytes ≡ Some rest → Takes bytes (u32_text 0) rest
unfolding zero_at
zero_takes bytes rest fits e =
    let b = bind_some (u32_at bytes) _ rest e in
    let g = cond_some (eqb b.0.0 0) b.0.1 rest b.2 in
    let t = u32_takes bytes b.0 fits b.1 in
    let zero-is : b.0.0 ≡ 0 = eqb-true _ _ g.0 in
    subst (λ (r : List ℕ). Takes bytes (u32_text 0) r) g.1 (subst (λ (n : ℕ). Takes bytes (u32_text n) b.0.1) zero-is t.0)

pub zero_found : (rest : List ℕ) → zero_at (u32_text 0 ++ rest) ≡ Some rest
unfolding zero_at
zero_found rest = rw (u32_found 0 rest (omega arith)) refl

pub zero_step : {B : Type 0} (bytes : List ℕ) (f : List ℕ → Option B) (y : B) (P : Type 0) → AreBytes bytes → (zero_at bytes >>= f) ≡ Some y
    → ((rest : List ℕ) → AreBytes rest → bytes ≡ u32_text 0 ++ rest → f rest ≡ Some y → P) → P
zero_step bytes f y P fits e k =
    let b = bind_some (zero_at bytes) f y e in
    let t = zero_takes bytes b.0 fits b.1 in
    k b.0 t.rest_fits t.parts b.2

-- ---- authentication: a flavor and an opaque body

-- These bytes were authentication, and then the rest.
abbrev TakesAuth : List ℕ → (ℕ × List ℕ) × List ℕ → Type 0
TakesAuth bytes x = (text : List ℕ) × IsAuth text x.0.0 x.0.1 × Takes bytes text x.1

auth_takes : (bytes : List ℕ) (x : (ℕ × List ℕ) × List ℕ) → AreBytes bytes → auth_at bytes ≡ Some x → TakesAuth bytes x
unfolding auth_at
auth_takes bytes x fits e =
    u32_step bytes _ x (TakesAuth bytes x) fits e (λ kind r0 l0 f0 p0 e0.
    opaque_step 400 r0 _ x (TakesAuth bytes x) f0 e0 (λ body r1 t1 is1 short f1 p1 e1.
    let made : (ℕ × List ℕ) × List ℕ = ((kind, body), r1) in
    subst (TakesAuth bytes) (same_some made x e1) (
      u32_text kind ++ t1,
      record { fits = l0; body_text = t1; spelled_body = is1; short = short; spelled = refl },
      record { parts = join bytes (u32_text kind) r0 t1 r1 p0 p1; rest_fits = f1 },
    )))

auth_found : (text : List ℕ) (kind : ℕ) (body rest : List ℕ) → IsAuth text kind body → auth_at (text ++ rest) ≡ Some ((kind, body), rest)
unfolding auth_at
auth_found text kind body rest is =
    let regrouped : text ++ rest ≡ u32_text kind ++ (is.body_text ++ rest) = ap (λ (t : List ℕ). t ++ rest) is.spelled ∙ append_assoc (u32_text kind) is.body_text rest in
    ap auth_at regrouped ∙ rw (u32_found kind (is.body_text ++ rest) is.fits, opaque_found 400 is.body_text body rest is.spelled_body is.short) refl

auth_step : {B : Type 0} (bytes : List ℕ) (f : (ℕ × List ℕ) × List ℕ → Option B) (y : B) (P : Type 0) → AreBytes bytes → (auth_at bytes >>= f) ≡ Some y
    → ((kind : ℕ) (body rest text : List ℕ) → IsAuth text kind body → AreBytes rest → bytes ≡ text ++ rest → f ((kind, body), rest) ≡ Some y → P) → P
auth_step bytes f y P fits e k =
    let b = bind_some (auth_at bytes) f y e in
    let t = auth_takes bytes b.0 fits b.1 in
    k b.0.0.0 b.0.0.1 b.0.1 t.0 t.1 t.2.rest_fits t.2.parts b.2

-- ---- the header

-- What a header that was read spells.
abbrev TakesHeader : List ℕ → CallHeader × List ℕ → Type 0
TakesHeader bytes x = (text : List ℕ) × IsCallHeader text x.0 × (bytes ≡ text ++ x.1)

pub header_takes : (bytes : List ℕ) (x : CallHeader × List ℕ) → AreBytes bytes → call_header_at bytes ≡ Some x → TakesHeader bytes x
unfolding call_header_at numbers_text
header_takes bytes x fits e =
    let P = TakesHeader bytes x in
    u32_step bytes _ x P fits e (λ xid r0 l0 f0 p0 e0.
    zero_step r0 _ x P f0 e0 (λ r1 f1 p1 e1.
    u32_step r1 _ x P f1 e1 (λ rpc_version r2 l2 f2 p2 e2.
    u32_step r2 _ x P f2 e2 (λ program r3 l3 f3 p3 e3.
    u32_step r3 _ x P f3 e3 (λ version r4 l4 f4 p4 e4.
    u32_step r4 _ x P f4 e4 (λ procedure r5 l5 f5 p5 e5.
    auth_step r5 _ x P f5 e5 (λ flavor credential r6 t6 is6 f6 p6 e6.
    auth_step r6 _ x P f6 e6 (λ verifier_flavor verifier_body r7 t7 is7 f7 p7 e7.
    let numbers =
    join bytes (u32_text xid) r0 _ r5 p0 (
    join r0 (u32_text 0) r1 _ r5 p1 (
    join r1 (u32_text rpc_version) r2 _ r5 p2 (
    join r2 (u32_text program) r3 _ r5 p3 (
    join r3 (u32_text version) r4 (u32_text procedure) r5 p4 p5)))) in
    let whole = join bytes _ r5 (t6 ++ t7) r7 numbers (join r5 t6 r6 t7 r7 p6 p7) in
    let made : CallHeader × List ℕ = (record { xid = xid; rpc_version = rpc_version; program = program; version = version; procedure = procedure; flavor = flavor; credential = credential }, r7) in
    subst (TakesHeader bytes) (same_some made x e7) (
      _,
      record {
        fits = record { xid = l0; rpc_version = l2; program = l3; version = l4; procedure = l5; flavor = is6.fits };
        credential_text = t6;
        credential = is6;
        verifier_text = t7;
        verifier_flavor = verifier_flavor;
        verifier_body = verifier_body;
        verifier = is7;
        spelled = refl;
      },
      whole,
    )))))))))

pub header_found : (text : List ℕ) (h : CallHeader) (rest : List ℕ) → IsCallHeader text h → call_header_at (text ++ rest) ≡ Some (h, rest)
unfolding call_header_at numbers_text
header_found text h rest is =
    let r7 = is.verifier_text ++ rest in
    let r6 = is.credential_text ++ r7 in
    let r5 = u32_text h.procedure ++ r6 in
    let r4 = u32_text h.version ++ r5 in
    let r3 = u32_text h.program ++ r4 in
    let r2 = u32_text h.rpc_version ++ r3 in
    let r1 = u32_text 0 ++ r2 in
    let regrouped : text ++ rest ≡ u32_text h.xid ++ r1 = ap (λ (t : List ℕ). t ++ rest) is.spelled ∙ simp append_assoc in
    ap call_header_at regrouped ∙ rw (u32_found h.xid r1 is.fits.xid, zero_found r2, u32_found h.rpc_version r3 is.fits.rpc_version, u32_found h.program r4 is.fits.program, u32_found h.version r5 is.fits.version, u32_found h.procedure r6 is.fits.procedure, auth_found is.credential_text h.flavor h.credential r7 is.credential, auth_found is.verifier_text is.verifier_flavor is.verifier_body rest is.verifier) refl

-- the two ways to say that no header stands there
pub no_header : (bytes : List ℕ) → call_header_at bytes ≡ None → HasNoHeader bytes
no_header bytes e = λ h args b.
    let found : call_header_at bytes ≡ Some (h, b.rest) = ap call_header_at b.whole ∙ header_found b.text h b.rest b.header in
    let clash : ◌≡◌ {A = Option (CallHeader × List ℕ)} None (Some (h, b.rest)) = sym e ∙ found in
    cc

pub has_header : (bytes : List ℕ) (x : CallHeader × List ℕ) (args : ℕ) → AreBytes bytes → call_header_at bytes ≡ Some x → args + length x.1 ≡ length bytes → BeginsWithHeader bytes x.0 args
has_header bytes x args fits e place =
    let t = header_takes bytes x fits e in
    record { text = t.0; rest = x.1; header = t.1; place = omega (arith, ap length t.2, length-append t.0 x.1, place); whole = t.2 }

-- ---- the body of an AUTH_SYS credential

-- So many numbers were read, and then the rest.
record TakesNumbers (n : ℕ) (bytes : List ℕ) (x : List ℕ × List ℕ) : Type 0 where
  many : length x.0 ≡ n
  fit : All (λ n. n < 2 ^ 32) x.0
  taken : Takes bytes (u32s_text x.0) x.1

All-cons : (P : ℕ → Type 0) (n : ℕ) (ns : List ℕ) → P n → All P ns → All P (n ∷ ns)
All-cons P n ns here others zero d lt = here
All-cons P n ns here others (suc k) d lt = others k d (omega arith)

All-tail : (P : ℕ → Type 0) (n : ℕ) (ns : List ℕ) → All P (n ∷ ns) → All P ns
All-tail P n ns all k d lt = all (suc k) d (omega arith)

u32s_takes : (n : ℕ) (bytes : List ℕ) (x : List ℕ × List ℕ) → AreBytes bytes → u32s_at n bytes ≡ Some x → TakesNumbers n bytes x
unfolding u32s_at u32s_text
u32s_takes zero bytes x fits e =
    let made : List ℕ × List ℕ = ([], bytes) in
    subst (TakesNumbers 0 bytes) (same_some made x e) (record { many = refl; fit = λ k d lt. absurd (omega arith); taken = record { parts = refl; rest_fits = fits } })
u32s_takes (suc n) bytes x fits e =
    u32_step bytes _ x (TakesNumbers (suc n) bytes x) fits e (λ first r0 l0 f0 p0 e0.
    let b = bind_some (u32s_at n r0) _ x e0 in
    let t = u32s_takes n r0 b.0 f0 b.1 in
    let made : List ℕ × List ℕ = (first ∷ b.0.0, b.0.1) in
    subst (TakesNumbers (suc n) bytes) (same_some made x b.2) (record {
      many = ap suc t.many;
      fit = All-cons (λ n. n < 2 ^ 32) first b.0.0 l0 t.fit;
      taken = record { parts = join bytes (u32_text first) r0 (u32s_text b.0.0) b.0.1 p0 t.taken.parts; rest_fits = t.taken.rest_fits };
    }))

u32s_found : (ns rest : List ℕ) → All (λ n. n < 2 ^ 32) ns → u32s_at (length ns) (u32s_text ns ++ rest) ≡ Some (ns, rest)
unfolding u32s_at u32s_text
u32s_found [] rest all = refl
u32s_found (n ∷ ns) rest all =
    let here : n < 2 ^ 32 = all 0 0 (omega arith) in
    rw (append_assoc (u32_text n) (u32s_text ns) rest, u32_found n (u32s_text ns ++ rest) here, u32s_found ns rest (All-tail (λ n. n < 2 ^ 32) n ns all)) refl

-- At most so many numbers were read, behind their count, and then the rest.
record TakesCounted (most : ℕ) (bytes : List ℕ) (x : List ℕ × List ℕ) : Type 0 where
  few : length x.0 ≤ most
  fit : All (λ n. n < 2 ^ 32) x.0
  taken : Takes bytes (u32_text (length x.0) ++ u32s_text x.0) x.1

counted_takes : (most : ℕ) (bytes : List ℕ) (x : List ℕ × List ℕ) → AreBytes bytes → counted_at most bytes ≡ Some x → TakesCounted most bytes x
unfolding counted_at
counted_takes most bytes x fits e =
    u32_step bytes _ x (TakesCounted most bytes x) fits e (λ count r0 l0 f0 p0 e0.
    let g = guard_bind (ltb most count) (u32s_at count r0) x e0 in
    let t = u32s_takes count r0 x f0 g.1 in
    record {
      few = omega (arith, ltb-false _ _ g.0, t.many);
      fit = t.fit;
      taken = record { parts = join bytes (u32_text (length x.0)) r0 (u32s_text x.0) x.1 (p0 ∙ ap (λ (k : ℕ). u32_text k ++ r0) (sym t.many)) t.taken.parts; rest_fits = t.taken.rest_fits };
    })

counted_found : (most : ℕ) (ns rest : List ℕ) → All (λ n. n < 2 ^ 32) ns → length ns ≤ most → length ns < 2 ^ 32 → counted_at most (u32_text (length ns) ++ (u32s_text ns ++ rest)) ≡ Some (ns, rest)
unfolding counted_at
counted_found most ns rest all few short =
    let fits : ltb most (length ns) ≡ false = le-ltb _ _ few in
    rw (u32_found (length ns) (u32s_text ns ++ rest) short, fits, u32s_found ns rest all) refl

-- What the body of an AUTH_SYS credential that was read spells.
abbrev TakesAuthSys : List ℕ → AuthSys × List ℕ → Type 0
TakesAuthSys bytes x = (text : List ℕ) × IsAuthSys text x.0 × (bytes ≡ text ++ x.1)

pub auth_sys_takes : (bytes : List ℕ) (x : AuthSys × List ℕ) → AreBytes bytes → auth_sys_at bytes ≡ Some x → TakesAuthSys bytes x
unfolding auth_sys_at
auth_sys_takes bytes x fits e =
    let P = TakesAuthSys bytes x in
    u32_step bytes _ x P fits e (λ stamp r0 l0 f0 p0 e0.
    opaque_step 255 r0 _ x P f0 e0 (λ machine r1 t1 is1 short f1 p1 e1.
    u32_step r1 _ x P f1 e1 (λ uid r2 l2 f2 p2 e2.
    u32_step r2 _ x P f2 e2 (λ gid r3 l3 f3 p3 e3.
    let b = bind_some (counted_at 16 r3) _ x e3 in
    let t = counted_takes 16 r3 b.0 f3 b.1 in
    let gids = b.0.0 in
    let r4 = b.0.1 in
    let whole =
    join bytes (u32_text stamp) r0 _ r4 p0 (
    join r0 t1 r1 _ r4 p1 (
    join r1 (u32_text uid) r2 _ r4 p2 (
    join r2 (u32_text gid) r3 (u32_text (length gids) ++ u32s_text gids) r4 p3 t.taken.parts))) in
    let made : AuthSys × List ℕ = (record { stamp = stamp; machine = machine; uid = uid; gid = gid; gids = gids }, r4) in
    subst (TakesAuthSys bytes) (same_some made x b.2) (
      _,
      record {
        stamp = l0;
        machine_text = t1;
        machine = is1;
        machine_short = short;
        uid = l2;
        gid = l3;
        gids = t.fit;
        few = t.few;
        spelled = refl;
      },
      whole,
    )))))

pub auth_sys_found : (text : List ℕ) (a : AuthSys) (rest : List ℕ) → IsAuthSys text a → auth_sys_at (text ++ rest) ≡ Some (a, rest)
unfolding auth_sys_at
auth_sys_found text a rest is =
    let r4 = u32s_text a.gids ++ rest in
    let r3 = u32_text (length a.gids) ++ r4 in
    let r2 = u32_text a.gid ++ r3 in
    let r1 = u32_text a.uid ++ r2 in
    let r0 = is.machine_text ++ r1 in
    let regrouped : text ++ rest ≡ u32_text a.stamp ++ r0 = ap (λ (t : List ℕ). t ++ rest) is.spelled ∙ simp append_assoc in
    ap auth_sys_at regrouped ∙ rw (u32_found a.stamp r0 is.stamp, opaque_found 255 is.machine_text a.machine r1 is.machine is.machine_short, u32_found a.uid r2 is.uid, u32_found a.gid r3 is.gid, counted_found 16 a.gids rest is.gids is.few (omega (arith, is.few))) refl
