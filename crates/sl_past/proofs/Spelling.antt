-- What stands in no line and no note, and which of them can't have one text.
use Rattle.std.proofs.Common.{◌≡◌, ℕ, zero, suc, ◌+◌, ◌%◌, ◌/◌, ◌^◌, ◌<◌, Bool, true, false, not, eqb, eq-eqb, List, [], ◌∷◌, ◌++◌, length, get_or, drop, refl, ap, sym, ◌∙◌, append_assoc, arith}
use Rattle.std.specs.Prelude.{◌≢◌, All, codes, decimal, if◌then◌else◌}
use Rattle.std.specs.List.{list_all}
use Rattle.std.proofs.lemmas.Fmt.{decimal_by_steps, decimal_injective}
use Rattle.std.proofs.lemmas.List.Elements.{All-nil, All-cons, All-head, All-tail, All-append, All-push, All-weaker}
use Rattle.std.proofs.lemmas.List.Sums.{AllPass-from_list_all}
use Rattle.hex.specs.Hex.{encode_lower, encode_with, lower_digits, decode_of}
use Rattle.hex.proofs.HexLemmas.{decode_of-encode_lower, decode_of-same, length-encode_with}
use Rattle.sl_defs.specs.Items.{AreBytes, u64_text}
use Rattle.sl_defs.specs.Histories.{Happening, Opens, Reaches, Happens, ended, line_of}
use Rattle.sl_defs.specs.Schedules.{FitsLine, FitsPolicy, FitsSetup, call_text, counts_text, hex_text, line_text, moment_text, policy_number, policy_text, policy_word, setup_text, three_text, two_text}
use Rattle.sl_defs.specs.Transcripts.{FitsNote, choice_text, did_text, effect_text, note_text, reply_text, sent_text, verifier_text}
use Rattle.sl_defs.specs.declared.setup.Policy.{Policy}
use Rattle.sl_defs.specs.declared.setup.Policy.TheVariants.{Switch, Hash}
use Rattle.sl_defs.specs.declared.setup.Setup.{Setup}
use Rattle.sl_defs.specs.declared.event.Event.TheVariants as event
use Rattle.sl_defs.specs.declared.event.Line.TheVariants as line
use Rattle.sl_defs.specs.declared.note.Printed.{Printed}
use Rattle.sl_defs.specs.declared.note.Printed.TheVariants as printed
use Rattle.sl_past.specs.Transcripts.{HasNoEnd, begins_note}

-- ---- what stands before the first of some byte

abbrev Lacks : ℕ → List ℕ → Type 0
Lacks stop text = All (λ b. b ≢ stop) text

head_same : (a b : ℕ) (x y : List ℕ) → a ∷ x ≡ b ∷ y → a ≡ b
head_same a b x y e = ap (λ (t : List ℕ). get_or t 0 0) e

tail_same : (a b : ℕ) (x y : List ℕ) → a ∷ x ≡ b ∷ y → x ≡ y
tail_same a b x y e = ap (λ (t : List ℕ). drop 1 t) e

pub same_cut : (stop : ℕ) (a b x y : List ℕ) → Lacks stop a → Lacks stop b → a ++ stop ∷ x ≡ b ++ stop ∷ y → (a ≡ b) × (x ≡ y)
same_cut stop [] [] x y na nb e = (refl, tail_same stop stop x y e)
same_cut stop [] (b ∷ bs) x y na nb e = absurd (All-head (λ c. c ≢ stop) b bs nb (sym (head_same stop b x (bs ++ stop ∷ y) e)))
same_cut stop (a ∷ rest) [] x y na nb e = absurd (All-head (λ c. c ≢ stop) a rest na (head_same a stop (rest ++ stop ∷ x) y e))
same_cut stop (a ∷ rest) (b ∷ bs) x y na nb e =
    let first = head_same a b (rest ++ stop ∷ x) (bs ++ stop ∷ y) e in
    let more = same_cut stop rest bs x y (All-tail (λ c. c ≢ stop) a rest na) (All-tail (λ c. c ≢ stop) b bs nb) (tail_same a b (rest ++ stop ∷ x) (bs ++ stop ∷ y) e) in
    (ap (λ (c : ℕ). c ∷ rest) first ∙ ap (λ (t : List ℕ). b ∷ t) more.0, more.1)

-- ---- parts

decimal_lacks : (stop n : ℕ) → stop < 48 → n < 2 ^ 64 → Lacks stop (decimal n)
decimal_lacks stop n low lt =
    decimal_by_steps (λ n ds. Lacks stop ds)
    (λ n small. All-cons (λ b. b ≢ stop) (48 + n) [] (λ e. absurd (omega arith)) (All-nil (λ b. b ≢ stop)))
    (λ n ds big h. All-push (λ b. b ≢ stop) ds (48 + n % 10) h (λ e. absurd (omega arith)))
    n lt

no_end_of : (b : ℕ) → not (eqb b 10) ≡ true → b ≢ 10
no_end_of b h e =
    let clash : not (eqb 10 10) ≡ true = ap (λ (y : ℕ). not (eqb y 10)) (sym e) ∙ h in
    absurd cc

no_end_word : (text : List ℕ) → list_all (λ b. not (eqb b 10)) text ≡ true → HasNoEnd text
no_end_word text h = All-weaker (λ b. not (eqb b 10) ≡ true) (λ b. b ≢ 10) no_end_of text (AllPass-from_list_all (λ b. not (eqb b 10)) text h)

no_space_of : (b : ℕ) → not (eqb b 32) ≡ true → b ≢ 32
no_space_of b h e =
    let clash : not (eqb 32 32) ≡ true = ap (λ (y : ℕ). not (eqb y 32)) (sym e) ∙ h in
    absurd cc

no_space_word : (text : List ℕ) → list_all (λ b. not (eqb b 32)) text ≡ true → Lacks 32 text
no_space_word text h = All-weaker (λ b. not (eqb b 32) ≡ true) (λ b. b ≢ 32) no_space_of text (AllPass-from_list_all (λ b. not (eqb b 32)) text h)

at_no_end : (text : List ℕ) (i : ℕ) → HasNoEnd text → get_or text i 0 ≢ 10
at_no_end [] i h e = absurd (omega arith)
at_no_end (b ∷ bs) zero h e = All-head (λ c. c ≢ 10) b bs h e
at_no_end (b ∷ bs) (suc i) h e = at_no_end bs i (All-tail (λ c. c ≢ 10) b bs h) e

encode_no_end : (bytes : List ℕ) → HasNoEnd (encode_lower bytes)
unfolding encode_with
encode_no_end [] = All-nil (λ b. b ≢ 10)
encode_no_end (b ∷ bs) =
    let digits = no_end_word lower_digits refl in
    All-cons (λ b. b ≢ 10) (get_or lower_digits (b / 16) 0) (get_or lower_digits (b % 16) 0 ∷ encode_lower bs) (at_no_end lower_digits (b / 16) digits)
    (All-cons (λ b. b ≢ 10) (get_or lower_digits (b % 16) 0) (encode_lower bs) (at_no_end lower_digits (b % 16) digits) (encode_no_end bs))

hex_no_end : (bytes : List ℕ) → HasNoEnd (hex_text bytes)
unfolding hex_text
hex_no_end [] = no_end_word (codes "-") refl
hex_no_end (b ∷ bs) = encode_no_end (b ∷ bs)

and_no_end : (a b : List ℕ) → HasNoEnd a → HasNoEnd b → HasNoEnd (a ++ 32 ∷ b)
and_no_end a b na nb = All-append (λ c. c ≢ 10) a (32 ∷ b) na (All-cons (λ c. c ≢ 10) 32 b (λ e. absurd (omega arith)) nb)

behind_no_end : (word text : List ℕ) → list_all (λ b. not (eqb b 10)) word ≡ true → HasNoEnd text → HasNoEnd (word ++ text)
behind_no_end word text h n = All-append (λ c. c ≢ 10) word text (no_end_word word h) n

number_no_end : (n : ℕ) → n < 2 ^ 64 → HasNoEnd (decimal n)
number_no_end n lt = decimal_lacks 10 n (omega arith) lt

policy_number_fits : (p : Policy) → FitsPolicy p → policy_number p < 2 ^ 64
policy_number_fits (Switch p) h = omega (arith, h)
policy_number_fits Hash h = omega arith

policy_word_no_end : (p : Policy) → HasNoEnd (policy_word p)
policy_word_no_end (Switch p) = no_end_word (codes "switch") refl
policy_word_no_end Hash = no_end_word (codes "hash") refl

policy_word_no_space : (p : Policy) → Lacks 32 (policy_word p)
policy_word_no_space (Switch p) = no_space_word (codes "switch") refl
policy_word_no_space Hash = no_space_word (codes "hash") refl

setup_no_end : (s : Setup) → FitsSetup s → HasNoEnd (setup_text s)
unfolding setup_text policy_text counts_text
setup_no_end s fits =
    let counts = and_no_end (decimal s.dirs) (decimal s.small ++ 32 ∷ decimal s.nodes) (number_no_end s.dirs (omega (arith, fits.dirs)))
    (and_no_end (decimal s.small) (decimal s.nodes) (number_no_end s.small (omega (arith, fits.small))) (number_no_end s.nodes (omega (arith, fits.nodes)))) in
    let policy = and_no_end (policy_word s.policy) (decimal (policy_number s.policy)) (policy_word_no_end s.policy) (number_no_end (policy_number s.policy) (policy_number_fits s.policy fits.policy)) in
    and_no_end (decimal s.volume) _ (number_no_end s.volume fits.volume) (and_no_end _ _ policy counts)

two_no_end : (a b : ℕ) → a < 2 ^ 64 → b < 2 ^ 64 → HasNoEnd (two_text a b)
unfolding two_text
two_no_end a b fa fb = and_no_end (decimal a) (decimal b) (number_no_end a fa) (number_no_end b fb)

-- ---- lines and notes

pub line_no_end : (x : Happening) → FitsLine (line_of x) → HasNoEnd (line_text (line_of x))
unfolding moment_text call_text three_text
line_no_end (Opens s) fits = behind_no_end (codes "volume ") (setup_text s) refl (setup_no_end s fits)
line_no_end (Reaches t) fits = behind_no_end (codes "at ") (moment_text t) refl
    (and_no_end (decimal t.sec) (decimal t.nsec) (number_no_end t.sec (omega (arith, fits.sec))) (number_no_end t.nsec (omega (arith, fits.nsec))))
line_no_end (Happens (event.Call client datagram)) fits = behind_no_end (codes "call ") (call_text client datagram) refl
    (and_no_end (decimal client) (hex_text datagram) (number_no_end client (omega (arith, fits.client))) (hex_no_end datagram))
line_no_end (Happens (event.Give k)) fits = behind_no_end (codes "give ") (decimal k) refl (number_no_end k fits)
line_no_end (Happens (event.Copy k)) fits = behind_no_end (codes "copy ") (decimal k) refl (number_no_end k fits)
line_no_end (Happens (event.Drop k)) fits = behind_no_end (codes "drop ") (decimal k) refl (number_no_end k fits)
line_no_end (Happens event.Tick) fits = no_end_word (codes "tick") refl
line_no_end (Happens (event.Stop a image)) fits = behind_no_end (codes "stop ") (two_text a image) refl (two_no_end a image (omega (arith, fits.first)) fits.second)
line_no_end (Happens (event.Start a)) fits = behind_no_end (codes "start ") (decimal a) refl (number_no_end a (omega (arith, fits)))
line_no_end (Happens (event.Fuse a k image)) fits = behind_no_end (codes "fuse ") (three_text a k image) refl
    (and_no_end (decimal a) (two_text k image) (number_no_end a (omega (arith, fits.first))) (two_no_end k image fits.second fits.third))
line_no_end (Happens (event.Fail a k)) fits = behind_no_end (codes "fail ") (two_text a k) refl (two_no_end a k (omega (arith, fits.first)) fits.second)

flag_fits : (b : Bool) → (if b then 1 else 0) < 2 ^ 64
flag_fits true = omega arith
flag_fits false = omega arith

pub note_no_end : (n : Printed) → FitsNote n → HasNoEnd (note_text n)
unfolding sent_text did_text effect_text choice_text verifier_text reply_text moment_text
note_no_end (printed.Sent k bytes) fits = behind_no_end (codes "= sent ") (sent_text k bytes) refl (and_no_end (decimal k) (hex_text bytes) (number_no_end k fits.0) (hex_no_end bytes))
note_no_end (printed.Did n at choice) fits =
    let moment = and_no_end (decimal at.sec) (decimal at.nsec) (number_no_end at.sec (omega (arith, fits.at.sec))) (number_no_end at.nsec (omega (arith, fits.at.nsec))) in
    let chosen = and_no_end (decimal choice.fileid) (decimal (if choice.kept then 1 else 0)) (number_no_end choice.fileid fits.fileid) (number_no_end (if choice.kept then 1 else 0) (flag_fits choice.kept)) in
    behind_no_end (codes "= did ") (did_text n at choice) refl (and_no_end (decimal n) _ (number_no_end n fits.arrival) (and_no_end _ _ moment chosen))
note_no_end (printed.Flush f) fits = behind_no_end (codes "= flush ") (decimal f) refl (number_no_end f fits)
note_no_end (printed.Verf v) fits = behind_no_end (codes "= verf ") (verifier_text v) refl (encode_no_end (u64_text v))
note_no_end (printed.Reply n e bytes) fits = behind_no_end (codes "= reply ") (reply_text n e bytes) refl
    (and_no_end (two_text n e) (hex_text bytes) (two_no_end n e fits.arrival fits.event) (hex_no_end bytes))
note_no_end (printed.Junk n) fits = behind_no_end (codes "= junk ") (decimal n) refl (number_no_end n fits)
note_no_end (printed.Early n) fits = behind_no_end (codes "= early ") (decimal n) refl (number_no_end n fits)
note_no_end (printed.Full n) fits = behind_no_end (codes "= full ") (decimal n) refl (number_no_end n fits)
note_no_end (printed.Lost n) fits = behind_no_end (codes "= lost ") (decimal n) refl (number_no_end n fits)
note_no_end (printed.Down a) fits = behind_no_end (codes "= down ") (decimal a) refl (number_no_end a (omega (arith, fits)))

-- a note begins with `=`, and no line of what happens does
pub note_first : (n : Printed) (behind : List ℕ) → begins_note (ended (note_text n) ++ behind) ≡ true
note_first (printed.Sent k bytes) behind = refl
note_first (printed.Did n at choice) behind = refl
note_first (printed.Flush f) behind = refl
note_first (printed.Verf v) behind = refl
note_first (printed.Reply n e bytes) behind = refl
note_first (printed.Junk n) behind = refl
note_first (printed.Early n) behind = refl
note_first (printed.Full n) behind = refl
note_first (printed.Lost n) behind = refl
note_first (printed.Down a) behind = refl

pub line_first : (x : Happening) (behind : List ℕ) → begins_note (line_text (line_of x) ++ behind) ≡ false
line_first (Opens s) behind = refl
line_first (Reaches t) behind = refl
line_first (Happens (event.Call client datagram)) behind = refl
line_first (Happens (event.Give k)) behind = refl
line_first (Happens (event.Copy k)) behind = refl
line_first (Happens (event.Drop k)) behind = refl
line_first (Happens event.Tick) behind = refl
line_first (Happens (event.Stop a image)) behind = refl
line_first (Happens (event.Start a)) behind = refl
line_first (Happens (event.Fuse a k image)) behind = refl
line_first (Happens (event.Fail a k)) behind = refl

-- ---- texts of different things

pub apart_at : (i : ℕ) (x y : List ℕ) → x ≡ y → eqb (get_or x i 0) (get_or y i 0) ≡ false → ⊥
apart_at i x y e other =
    let clash : false ≡ true = sym other ∙ eq-eqb (get_or x i 0) (get_or y i 0) (ap (λ (t : List ℕ). get_or t i 0) e) in
    cc

pub flow_is_other : (most : ℕ) (x : Happening) → line_text (line.Flow most) ≡ line_text (line_of x) → ⊥
flow_is_other most (Opens s) e = apart_at 0 _ _ e refl
flow_is_other most (Reaches t) e = apart_at 0 _ _ e refl
flow_is_other most (Happens (event.Call client datagram)) e = apart_at 0 _ _ e refl
flow_is_other most (Happens (event.Give k)) e = apart_at 0 _ _ e refl
flow_is_other most (Happens (event.Copy k)) e = apart_at 0 _ _ e refl
flow_is_other most (Happens (event.Drop k)) e = apart_at 0 _ _ e refl
flow_is_other most (Happens event.Tick) e = apart_at 0 _ _ e refl
flow_is_other most (Happens (event.Stop a image)) e = apart_at 0 _ _ e refl
flow_is_other most (Happens (event.Start a)) e = apart_at 0 _ _ e refl
flow_is_other most (Happens (event.Fuse a k image)) e = apart_at 1 _ _ e refl
flow_is_other most (Happens (event.Fail a k)) e = apart_at 1 _ _ e refl

pub remark_is_other : (bytes : List ℕ) (x : Happening) → line_text (line.Remark bytes) ≡ line_text (line_of x) → ⊥
remark_is_other bytes x e =
    let clash : true ≡ false = ap (λ (t : List ℕ). begins_note (t ++ [])) e ∙ line_first x [] in
    cc

same_policy : (p q : Policy) → FitsPolicy p → FitsPolicy q → policy_word p ≡ policy_word q → decimal (policy_number p) ≡ decimal (policy_number q) → p ≡ q
same_policy (Switch a) (Switch b) fa fb word e = ap Switch (decimal_injective a b (omega (arith, fa)) (omega (arith, fb)) e)
same_policy (Switch a) Hash fa fb word e = absurd (apart_at 0 _ _ word refl)
same_policy Hash (Switch b) fa fb word e = absurd (apart_at 0 _ _ word refl)
same_policy Hash Hash fa fb word e = refl

same_fields : (s z : Setup) → s.volume ≡ z.volume → s.policy ≡ z.policy → s.dirs ≡ z.dirs → s.small ≡ z.small → s.nodes ≡ z.nodes → s ≡ z
same_fields s z volume policy dirs small nodes =
    ap (λ (v : ℕ). record { volume = v; policy = s.policy; dirs = s.dirs; small = s.small; nodes = s.nodes }) volume
    ∙ ap (λ (p : Policy). record { volume = z.volume; policy = p; dirs = s.dirs; small = s.small; nodes = s.nodes }) policy
    ∙ ap (λ (d : ℕ). record { volume = z.volume; policy = z.policy; dirs = d; small = s.small; nodes = s.nodes }) dirs
    ∙ ap (λ (m : ℕ). record { volume = z.volume; policy = z.policy; dirs = z.dirs; small = m; nodes = s.nodes }) small
    ∙ ap (λ (n : ℕ). record { volume = z.volume; policy = z.policy; dirs = z.dirs; small = z.small; nodes = n }) nodes

pub same_setup : (s z : Setup) → FitsSetup s → FitsSetup z → setup_text s ≡ setup_text z → s ≡ z
unfolding setup_text policy_text counts_text
same_setup s z fs fz e =
    let low : 32 < 48 = omega arith in
    let ps = policy_number_fits s.policy fs.policy in
    let pz = policy_number_fits z.policy fz.policy in
    let volume = same_cut 32 (decimal s.volume) (decimal z.volume) _ _ (decimal_lacks 32 s.volume low fs.volume) (decimal_lacks 32 z.volume low fz.volume) e in
    let regrouped =
    sym (append_assoc (policy_word s.policy) (32 ∷ decimal (policy_number s.policy)) (32 ∷ counts_text s)) ∙ volume.1
    ∙ append_assoc (policy_word z.policy) (32 ∷ decimal (policy_number z.policy)) (32 ∷ counts_text z) in
    let word = same_cut 32 (policy_word s.policy) (policy_word z.policy) (decimal (policy_number s.policy) ++ 32 ∷ counts_text s) (decimal (policy_number z.policy) ++ 32 ∷ counts_text z)
    (policy_word_no_space s.policy) (policy_word_no_space z.policy) regrouped in
    let number = same_cut 32 (decimal (policy_number s.policy)) (decimal (policy_number z.policy)) (counts_text s) (counts_text z) (decimal_lacks 32 _ low ps) (decimal_lacks 32 _ low pz) word.1 in
    let dirs = same_cut 32 (decimal s.dirs) (decimal z.dirs) (decimal s.small ++ 32 ∷ decimal s.nodes) (decimal z.small ++ 32 ∷ decimal z.nodes)
    (decimal_lacks 32 s.dirs low (omega (arith, fs.dirs))) (decimal_lacks 32 z.dirs low (omega (arith, fz.dirs))) number.1 in
    let small = same_cut 32 (decimal s.small) (decimal z.small) (decimal s.nodes) (decimal z.nodes)
    (decimal_lacks 32 s.small low (omega (arith, fs.small))) (decimal_lacks 32 z.small low (omega (arith, fz.small))) dirs.1 in
    same_fields s z
    (decimal_injective s.volume z.volume fs.volume fz.volume volume.0)
    (same_policy s.policy z.policy fs.policy fz.policy word.0 number.0)
    (decimal_injective s.dirs z.dirs (omega (arith, fs.dirs)) (omega (arith, fz.dirs)) dirs.0)
    (decimal_injective s.small z.small (omega (arith, fs.small)) (omega (arith, fz.small)) small.0)
    (decimal_injective s.nodes z.nodes (omega (arith, fs.nodes)) (omega (arith, fz.nodes)) small.1)

same_hex : (x y : List ℕ) → AreBytes x → AreBytes y → hex_text x ≡ hex_text y → x ≡ y
unfolding hex_text
same_hex [] [] fx fy e = refl
same_hex [] (b ∷ bs) fx fy e = absurd (omega (arith, length-encode_with lower_digits (b ∷ bs), ap length e))
same_hex (a ∷ xs) [] fx fy e = absurd (omega (arith, length-encode_with lower_digits (a ∷ xs), ap length e))
same_hex (a ∷ xs) (b ∷ bs) fx fy e =
    decode_of-same (encode_lower (a ∷ xs)) (a ∷ xs) (b ∷ bs) (decode_of-encode_lower (a ∷ xs) fx) (ap decode_of e ∙ decode_of-encode_lower (b ∷ bs) fy)

-- the bytes of a frame that was sent
pub same_sent : (k n : ℕ) (x y : List ℕ) → k < 2 ^ 64 → n < 2 ^ 64 → AreBytes x → AreBytes y → note_text (printed.Sent k x) ≡ note_text (printed.Sent n y) → x ≡ y
unfolding sent_text
same_sent k n x y fk fn fx fy e =
    let behind : decimal k ++ 32 ∷ hex_text x ≡ decimal n ++ 32 ∷ hex_text y = ap (λ (t : List ℕ). drop 7 t) e in
    let parts = same_cut 32 (decimal k) (decimal n) (hex_text x) (hex_text y) (decimal_lacks 32 k (omega arith) fk) (decimal_lacks 32 n (omega arith) fn) behind in
    same_hex x y fx fy parts.1
