-- Reading a frame takes exactly its text.
use Rattle.std.proofs.Common.{◌≡◌, ℕ, zero, suc, ◌^◌, ◌<◌, List, [], ◌∷◌, ◌++◌, length, Option, Some, None, Result, Ok, Err, Bool, true, false, cond, eqb, ltb, refl, sym, ap, subst, ◌∙◌, append_assoc, append-nil, arith}
use Rattle.std.specs.Prelude.{IfOk}
use Rattle.std.proofs.lemmas.Bool.{eqb-true, ltb-true, lt-ltb}
use Rattle.std.proofs.lemmas.Option.{cond_some}
use Rattle.sl_defs.specs.Items.{u32_text, u64_text, AreBytes, ◌>>=◌}
use Rattle.sl_defs.proofs.ItemLaws.{bind_some, Takes, AreBytes-drop}
use Rattle.sl_defs.proofs.Readers.{IsReader, Took, step, made, takes_nothing, same_some, u32_reader, u64_reader, mapped_takes, mapped_found}
use Rattle.sl_types.specs.declared.fault.ArgsFault.{ArgsFault}
use Rattle.sl_types.specs.declared.fault.ArgsFault.TheVariants as fault
use Rattle.sl_items.specs.Reading.{Fails}
use Rattle.sl_cells.specs.Lists.{Reader}
use Rattle.sl_cells.specs.Reading.{whole, id_or_none_at}
use Rattle.sl_cells.specs.Texts.{Spelled}
use Rattle.sl_cells.proofs.OneSpelling.{Reads, refitted, pair, guard, counted, tagged}
use Rattle.sl_cells.proofs.CellReaders.{flag_reads, id_reads, id_or_none_reads, attr_cell_reads, name_cell_reads, key_reads}
use Rattle.sl_frames.specs.declared.found.FoundCell.{FoundCell}
use Rattle.sl_frames.specs.declared.found.FoundCell.TheVariants as found
use Rattle.sl_frames.specs.declared.body.Body.{Body}
use Rattle.sl_frames.specs.declared.body.Body.TheVariants as body
use Rattle.sl_frames.specs.declared.frame.Frame.{Frame}
use Rattle.sl_frames.specs.Frames.{found_number, found_body_text, found_text, FitsFound, found_body_at, found_at, kind_of, body_text, IsSite, FitsBody, is_sound, head_text, frame_text, FitsFrame, IsFrame, list_body, listed_body, site_at, body_at, forward_of, body_of, numbers_at, frame_made, if_sound, frame_behind, frame_of}
use Rattle.sl_frames.proofs.WorkReaders.{work_reads, intent_reads}

-- ---- found cells

abbrev IsFoundBody : ℕ → FoundCell → List ℕ → Type 0
IsFoundBody n f text = Spelled found_body_text FitsFound f text × (found_number f ≡ n)

found_takes : (n : ℕ) (bytes : List ℕ) (x : FoundCell × List ℕ) → AreBytes bytes → found_body_at n bytes ≡ Some x → Took (IsFoundBody n) bytes x
unfolding found_body_at
found_takes zero bytes x fits e = made (IsFoundBody 0) bytes found.Absent bytes [] x e ((refl, tt), refl) (takes_nothing bytes fits)
found_takes (suc zero) bytes x fits e = mapped_takes attr_cell_reads (IsFoundBody 1) found.Attr (λ c text is. (is, refl)) bytes x fits e
found_takes (suc (suc zero)) bytes x fits e = mapped_takes name_cell_reads (IsFoundBody 2) found.Name (λ c text is. (is, refl)) bytes x fits e
found_takes (suc (suc (suc n))) bytes x fits e = absurd cc

found_found : (f : FoundCell) (text rest : List ℕ) → Spelled found_body_text FitsFound f text → found_body_at (found_number f) (text ++ rest) ≡ Some (f, rest)
unfolding found_body_at
found_found found.Absent text rest is = rw is.0 refl
found_found (found.Attr cell) text rest is = mapped_found attr_cell_reads found.Attr cell text rest is
found_found (found.Name cell) text rest is = mapped_found name_cell_reads found.Name cell text rest is

found_number_fits : (f : FoundCell) → found_number f < 2 ^ 32
found_number_fits found.Absent = omega arith
found_number_fits (found.Attr cell) = omega arith
found_number_fits (found.Name cell) = omega arith

pub found_reads : Reads found_at found_text FitsFound
unfolding found_at found_text
found_reads = tagged (record { takes = found_takes; found = found_found; number_fits = found_number_fits })

-- ---- bodies

site_reads : Reads site_at u32_text IsSite
unfolding site_at
site_reads = refitted (guard u32_reader _) (λ n f. ltb-true n 64 f.1) (λ n f. (omega (arith, f), lt-ltb n 64 f))

-- the whole bytes are a body of this kind
abbrev pub IsBodyOf : ℕ → Body → List ℕ → Type 0
IsBodyOf n b text = Spelled body_text FitsBody b text × (kind_of b ≡ n)

-- one of two, by a test
chosen : {A X : Type 0} (n m : ℕ) (f g : X → Option A) (bytes : X) (z : Option A) (P : Type 0) → cond (eqb n m) f g bytes ≡ z → (n ≡ m → f bytes ≡ z → P) → (g bytes ≡ z → P) → P
chosen n m f g bytes z P e k l =
    elim (eqb n m) as (λ b. eqb n m ≡ b → cond b f g bytes ≡ z → P) [
      | true ↦ λ is h. k (eqb-true n m is) h
      | false ↦ λ is h. l h
    ] refl e

body_takes : (n : ℕ) (bytes : List ℕ) (x : Body × List ℕ) → AreBytes bytes → body_at n bytes ≡ Some x → Took (IsBodyOf n) bytes x
unfolding body_at body_text
body_takes n bytes x fits e =
    let P = Took (IsBodyOf n) bytes x in
    let I = IsBodyOf n in
    let z = Some x in
    chosen n 1 _ _ bytes z P e (λ is h. made I bytes body.Hello bytes [] x h ((refl, tt), sym is) (takes_nothing bytes fits)) (λ e1.
    chosen n 2 _ _ bytes z P e1 (λ is h. made I bytes body.Welcome bytes [] x h ((refl, tt), sym is) (takes_nothing bytes fits)) (λ e2.
    chosen n 5 _ _ bytes z P e2 (λ is h. mapped_takes (counted key_reads) I body.Ask (λ a text t. (t, sym is)) bytes x fits h) (λ e5.
    chosen n 6 _ _ bytes z P e5 (λ is h. mapped_takes (counted found_reads) I body.Found (λ a text t. (t, sym is)) bytes x fits h) (λ e6.
    chosen n 7 _ _ bytes z P e6 (λ is h. mapped_takes (pair id_reads (pair u64_reader u32_reader)) I list_body (λ a text t. (t, sym is)) bytes x fits h) (λ e7.
    chosen n 8 _ _ bytes z P e7 (λ is h. mapped_takes (pair (counted name_cell_reads) flag_reads) I listed_body (λ a text t. (t, sym is)) bytes x fits h) (λ e8.
    chosen n 9 _ _ bytes z P e8 (λ is h. mapped_takes site_reads I body.Mint (λ a text t. (t, sym is)) bytes x fits h) (λ e9.
    chosen n 10 _ _ bytes z P e9 (λ is h. mapped_takes id_or_none_reads I body.Minted (λ a text t. (t, sym is)) bytes x fits h) (λ e10.
    chosen n 11 _ _ bytes z P e10 (λ is h. mapped_takes intent_reads I body.Intent (λ a text t. (t, sym is)) bytes x fits h) (λ e11.
    chosen n 12 _ _ bytes z P e11 (λ is h. mapped_takes flag_reads I body.Decided (λ a text t. (t, sym is)) bytes x fits h) (λ e12.
    chosen n 13 _ _ bytes z P e12 (λ is h. mapped_takes work_reads I body.Lock (λ a text t. (t, sym is)) bytes x fits h) (λ e13.
    chosen n 14 _ _ bytes z P e13 (λ is h. made I bytes body.Grant bytes [] x h ((refl, tt), sym is) (takes_nothing bytes fits)) (λ e14.
    chosen n 15 _ _ bytes z P e14 (λ is h. made I bytes body.Refuse bytes [] x h ((refl, tt), sym is) (takes_nothing bytes fits)) (λ e15.
    chosen n 16 _ _ bytes z P e15 (λ is h. made I bytes body.Apply bytes [] x h ((refl, tt), sym is) (takes_nothing bytes fits)) (λ e16.
    chosen n 17 _ _ bytes z P e16 (λ is h. made I bytes body.Release bytes [] x h ((refl, tt), sym is) (takes_nothing bytes fits)) (λ e17.
    chosen n 18 _ _ bytes z P e17 (λ is h. made I bytes body.Ack bytes [] x h ((refl, tt), sym is) (takes_nothing bytes fits)) (λ none. absurd cc))))))))))))))))

empty_is : (rest : List ℕ) → length rest ≡ 0 → rest ≡ []
empty_is [] e = refl
empty_is (b ∷ bs) e = absurd (omega arith)

whole_takes : (n : ℕ) (bytes : List ℕ) (b : Body) → AreBytes bytes → whole (body_at n) bytes ≡ Some b → IsBodyOf n b bytes
whole_takes n bytes b fits e =
    let r = bind_some (body_at n bytes) (λ (y : Body × List ℕ). cond (eqb (length y.1) 0) (Some y.0) None) b e in
    let g = cond_some (eqb (length r.0.1) 0) r.0.0 b r.2 in
    let t = body_takes n bytes r.0 fits r.1 in
    let all : bytes ≡ t.0 = t.2.parts ∙ ap (λ (rest : List ℕ). t.0 ++ rest) (empty_is r.0.1 (eqb-true _ _ g.0)) ∙ append-nil t.0 in
    subst (λ (b : Body). IsBodyOf n b bytes) g.1 ((all ∙ t.1.0.0, t.1.0.1), t.1.1)

forward_takes : (bytes : List ℕ) (b : Body) → AreBytes bytes → forward_of bytes ≡ Some b → IsBodyOf 3 b bytes
unfolding forward_of body_text
forward_takes bytes b fits e =
    let r = bind_some (id_or_none_at bytes) (λ (x : ℕ × List ℕ). Some (body.Forward x.0 x.1)) b e in
    let t = id_or_none_reads.takes bytes r.0 fits r.1 in
    subst (λ (b : Body). IsBodyOf 3 b bytes) (same_some (body.Forward r.0.0 r.0.1) b r.2)
    ((t.2.parts ∙ ap (λ (text : List ℕ). text ++ r.0.1) t.1.0, t.1.1), refl)

packet_takes : (bytes : List ℕ) (b : Body) → ◌≡◌ {A = Option Body} (Some (body.Packet bytes)) (Some b) → IsBodyOf 4 b bytes
unfolding body_text
packet_takes bytes b e = subst (λ (b : Body). IsBodyOf 4 b bytes) (same_some (body.Packet bytes) b e) ((refl, tt), refl)

pub body_of_takes : (n : ℕ) (bytes : List ℕ) (b : Body) → AreBytes bytes → body_of n bytes ≡ Some b → IsBodyOf n b bytes
unfolding body_of
body_of_takes n bytes b fits e =
    let P = IsBodyOf n b bytes in
    chosen n 3 _ _ bytes (Some b) P e (λ is h. subst (λ (n : ℕ). IsBodyOf n b bytes) (sym is) (forward_takes bytes b fits h)) (λ e3.
    chosen n 4 _ _ bytes (Some b) P e3 (λ is h. subst (λ (n : ℕ). IsBodyOf n b bytes) (sym is) (packet_takes bytes b h)) (λ h. whole_takes n bytes b fits h))

whole_is : {A : Type 0} (read : Reader A) (x : A) (bytes : List ℕ) → read (bytes ++ []) ≡ Some (x, []) → whole read bytes ≡ Some x
whole_is read x bytes e = rw (ap read (sym (append-nil bytes)) ∙ e) refl

nothing_is : {A : Type 0} (read : Reader A) (x : A) (bytes : List ℕ) → bytes ≡ [] → read [] ≡ Some (x, []) → whole read bytes ≡ Some x
nothing_is read x bytes none e = rw (none, e) refl

pub body_of_found : (b : Body) (bytes : List ℕ) → Spelled body_text FitsBody b bytes → body_of (kind_of b) bytes ≡ Some b
unfolding body_of body_at forward_of body_text
body_of_found body.Hello bytes is = nothing_is (body_at 1) body.Hello bytes is.0 refl
body_of_found body.Welcome bytes is = nothing_is (body_at 2) body.Welcome bytes is.0 refl
body_of_found (body.Forward chosen packet) bytes is = rw (is.0, id_or_none_reads.found chosen (u64_text chosen) packet (refl, is.1)) refl
body_of_found (body.Packet packet) bytes is = rw is.0 refl
body_of_found (body.Ask keys) bytes is = whole_is (body_at 5) (body.Ask keys) bytes (mapped_found (counted key_reads) body.Ask keys bytes [] is)
body_of_found (body.Found cells) bytes is = whole_is (body_at 6) (body.Found cells) bytes (mapped_found (counted found_reads) body.Found cells bytes [] is)
body_of_found (body.List dir cookie limit) bytes is = whole_is (body_at 7) (body.List dir cookie limit) bytes (mapped_found (pair id_reads (pair u64_reader u32_reader)) list_body (dir, (cookie, limit)) bytes [] is)
body_of_found (body.Listed cells more) bytes is = whole_is (body_at 8) (body.Listed cells more) bytes (mapped_found (pair (counted name_cell_reads) flag_reads) listed_body (cells, more) bytes [] is)
body_of_found (body.Mint site) bytes is = whole_is (body_at 9) (body.Mint site) bytes (mapped_found site_reads body.Mint site bytes [] is)
body_of_found (body.Minted fileid) bytes is = whole_is (body_at 10) (body.Minted fileid) bytes (mapped_found id_or_none_reads body.Minted fileid bytes [] is)
body_of_found (body.Intent intent) bytes is = whole_is (body_at 11) (body.Intent intent) bytes (mapped_found intent_reads body.Intent intent bytes [] is)
body_of_found (body.Decided done) bytes is = whole_is (body_at 12) (body.Decided done) bytes (mapped_found flag_reads body.Decided done bytes [] is)
body_of_found (body.Lock work) bytes is = whole_is (body_at 13) (body.Lock work) bytes (mapped_found work_reads body.Lock work bytes [] is)
body_of_found body.Grant bytes is = nothing_is (body_at 14) body.Grant bytes is.0 refl
body_of_found body.Refuse bytes is = nothing_is (body_at 15) body.Refuse bytes is.0 refl
body_of_found body.Apply bytes is = nothing_is (body_at 16) body.Apply bytes is.0 refl
body_of_found body.Release bytes is = nothing_is (body_at 17) body.Release bytes is.0 refl
body_of_found body.Ack bytes is = nothing_is (body_at 18) body.Ack bytes is.0 refl

-- ---- frames

abbrev Numbers : Type 0
Numbers = ℕ × (ℕ × (ℕ × (ℕ × (ℕ × ℕ))))

abbrev numbers_text : Numbers → List ℕ
numbers_text x = u64_text x.0 ++ (u64_text x.1.0 ++ (u64_text x.1.1.0 ++ (u64_text x.1.1.1.0 ++ (u64_text x.1.1.1.1.0 ++ u64_text x.1.1.1.1.1))))

abbrev FitNumbers : Numbers → Type 0
FitNumbers x = (x.0 < 2 ^ 64) × ((x.1.0 < 2 ^ 64) × ((x.1.1.0 < 2 ^ 64) × ((x.1.1.1.0 < 2 ^ 64) × ((x.1.1.1.1.0 < 2 ^ 64) × (x.1.1.1.1.1 < 2 ^ 64)))))

numbers_reads : Reads numbers_at numbers_text FitNumbers
unfolding numbers_at
numbers_reads = pair u64_reader (pair u64_reader (pair u64_reader (pair u64_reader (pair u64_reader u64_reader))))

if_true : {A : Type 0} (b : Bool) (x : Option A) (y : A) → cond b x None ≡ Some y → (b ≡ true) × (x ≡ Some y)
if_true true x y e = (refl, e)
if_true false x y e = absurd cc

frame_is : (from to kind : ℕ) (numbers : Numbers) (b : Body) (text rest : List ℕ) → from < 256 → to < 256 → text ≡ numbers_text numbers → FitNumbers numbers → IsBodyOf kind b rest → is_sound (frame_made from to numbers b) ≡ true
    → IsFrame (frame_made from to numbers b) (from ∷ to ∷ kind ∷ 0 ∷ (text ++ rest))
unfolding head_text
frame_is from to kind numbers b text rest from_fits to_fits is fits body_is sound = (
  ap (λ (k : ℕ). from ∷ to ∷ k ∷ 0 ∷ (text ++ rest)) (sym body_is.1)
      ∙ ap (λ (t : List ℕ). from ∷ to ∷ kind_of b ∷ 0 ∷ (t ++ rest)) is
      ∙ ap (λ (t : List ℕ). from ∷ to ∷ kind_of b ∷ 0 ∷ (numbers_text numbers ++ t)) body_is.0.0,
  record {
    head = record {
      from = from_fits;
      to = to_fits;
      fence = fits.0;
      tag = fits.1.0;
      low = fits.1.1.0;
      op = fits.1.1.1.0;
      boot = fits.1.1.1.1.0;
      arrival = fits.1.1.1.1.1;
    };
    «body» = body_is.0.1;
    sound = sound;
  },
)

behind_takes : (from to kind : ℕ) (bytes : List ℕ) (f : Frame) → from < 256 → to < 256 → AreBytes bytes → frame_behind from to kind bytes ≡ Some f → IsFrame f (from ∷ to ∷ kind ∷ 0 ∷ bytes)
behind_takes from to kind bytes f from_fits to_fits fits e =
    let P = IsFrame f (from ∷ to ∷ kind ∷ 0 ∷ bytes) in
    step numbers_reads bytes _ f P fits e (λ numbers rest text is k e'.
    let b = bind_some (body_of kind rest) (λ (b : Body). if_sound (frame_made from to numbers b)) f e' in
    let s = cond_some (is_sound (frame_made from to numbers b.0)) (frame_made from to numbers b.0) f b.2 in
    let whole_is : IsFrame (frame_made from to numbers b.0) (from ∷ to ∷ kind ∷ 0 ∷ (text ++ rest)) = frame_is from to kind numbers b.0 text rest from_fits to_fits is.0 is.1 (body_of_takes kind rest b.0 k.rest_fits b.1) s.0 in
    subst (λ (f : Frame). IsFrame f (from ∷ to ∷ kind ∷ 0 ∷ bytes)) s.1
    (subst (λ (t : List ℕ). IsFrame (frame_made from to numbers b.0) (from ∷ to ∷ kind ∷ 0 ∷ t)) (sym k.parts) whole_is))

pub frame_takes : (bytes : List ℕ) (f : Frame) → AreBytes bytes → frame_of bytes ≡ Some f → IsFrame f bytes
unfolding frame_of
frame_takes [] f fits e = absurd cc
frame_takes (a ∷ []) f fits e = absurd cc
frame_takes (a ∷ b ∷ []) f fits e = absurd cc
frame_takes (a ∷ b ∷ c ∷ []) f fits e = absurd cc
frame_takes (from ∷ to ∷ kind ∷ padding ∷ bytes) f fits e =
    let g = if_true (eqb padding 0) (frame_behind from to kind bytes) f e in
    let zero_is : padding ≡ 0 = eqb-true padding 0 g.0 in
    subst (λ (p : ℕ). IsFrame f (from ∷ to ∷ kind ∷ p ∷ bytes)) (sym zero_is)
    (behind_takes from to kind bytes f (fits 0) (fits 1) (AreBytes-drop 4 (from ∷ to ∷ kind ∷ padding ∷ bytes) fits) g.1)

text_is_read : (f : Frame) → FitsFrame f → frame_of (frame_text f) ≡ Some f
unfolding frame_of head_text
text_is_read f fits =
    let numbers : Numbers = (f.fence, (f.tag, (f.low, (f.op, (f.boot, f.arrival))))) in
    let h = fits.head in
    let n = numbers_reads.found numbers (numbers_text numbers) (body_text f.«body») (refl, (h.fence, (h.tag, (h.low, (h.op, (h.boot, h.arrival)))))) in
    let b = body_of_found f.«body» (body_text f.«body») (refl, fits.«body») in
    rw (n, b, fits.sound) refl

pub frame_found : (f : Frame) (bytes : List ℕ) → IsFrame f bytes → frame_of bytes ≡ Some f
frame_found f bytes is = ap frame_of is.0 ∙ text_is_read f is.1

pub is_only : (bytes : List ℕ) (f : Frame) → frame_of bytes ≡ Some f → (other : Frame) → IsFrame other bytes → other ≡ f
is_only bytes f e other is = same_some other f (sym (frame_found other bytes is) ∙ e)

clash : (f : Frame) → ◌≡◌ {A = Option Frame} None (Some f) → ⊥
clash f e = cc

pub is_none : (bytes : List ℕ) (e : ArgsFault) → e ≡ fault.Garbage → Fails e (frame_of bytes) → (f : Frame) → IsFrame f bytes → ⊥
is_none bytes e same fails f is =
    let none : frame_of bytes ≡ None = subst (λ (e : ArgsFault). Fails e (frame_of bytes)) same fails in
    clash f (sym none ∙ frame_found f bytes is)

pub one_frame : (f other : Frame) (text : List ℕ) → IsFrame f text → IsFrame other text → f ≡ other
one_frame f other text is other_is = is_only text other (frame_found other text other_is) f is
