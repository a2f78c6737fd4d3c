-- No reply tells the attributes of a regular file, so that none is asked for again.
use Rattle.std.proofs.Common.{◌≡◌, ℕ, ◌<◌, ◌==◌, ◌&&◌, ◌||◌, ◌^◌, Bool, true, false, not, List, [], ◌∷◌, ◌++◌, Option, Some, None, Ok, Err, refl, ap, ◌∙◌, append_assoc, if◌then◌else◌}
use Rattle.std.specs.List.{list_any}
use Rattle.std.specs.Prelude.{option_and_then}
use Rattle.sl_types.specs.declared.handle.Handle.{Handle}
use Rattle.sl_types.specs.declared.kind.Status.TheVariants as status
use Rattle.sl_types.specs.declared.reply.Reply.{Reply}
use Rattle.sl_types.specs.declared.reply.Reply.TheVariants as reply
use Rattle.sl_model.specs.Looking.{attributes}
use Rattle.sl_model.specs.Perform.{new_root}
use Rattle.sl_history.specs.Turns.{Remark, Sent, Did, Flush, Verf, Replied, Junk, Early, Full, Lost, Down, Turn, History, so_far, events}
use Rattle.sl_history.specs.Arrivals.{Asked, asked, answer_to}
use Rattle.sl_history.specs.Wired.{results_of}
use Rattle.sl_history.specs.Remembering.{attributes_in, is_file, tells_by, tells_among, tells, is_idle, forgets, AllMayBeNoted}
use Rattle.sl_machine.specs.Packets.{reply_in}
use Rattle.sl_getattr.proofs.Stepping.{not_both}
use Rattle.sl_getattr.proofs.Looking.{look_by, is_root}
use Rattle.sl_getattr.proofs.Tales.{IsPlain}
use Rattle.sl_getattr.proofs.Wiring.{same_call}

-- ---- a reply

-- The answer is read as it was written.
abbrev pub AnswersAreRead : Type 0
AnswersAreRead =
    (volume : ℕ) (q : Asked) (o : Option Handle) → ((h : Handle) → o ≡ Some h → h.volume < 2 ^ 64) → q.xid < 2 ^ 32 → (r : Reply)
    → reply_in 1 (answer_to q (reply.Getattr (look_by volume o))) ≡ Some r → r ≡ reply.Getattr (look_by volume o)

no_file : (volume file : ℕ) (o : Option Handle) → is_file file (attributes_in (reply.Getattr (look_by volume o))) ≡ false
no_file volume file None = refl
no_file volume file (Some h) = by (is_root volume h)
  where
    by : (b : Bool) → is_file file (attributes_in (reply.Getattr (if b then Ok (attributes (new_root volume)) else Err status.Stale))) ≡ false
    by true = refl
    by false = refl

pub tells_no_file : AnswersAreRead → (volume : ℕ) (q : Asked) (o : Option Handle) → ((h : Handle) → o ≡ Some h → h.volume < 2 ^ 64) → q.xid < 2 ^ 32 → q.procedure ≡ 1 → (file : ℕ)
    → tells_by file (answer_to q (reply.Getattr (look_by volume o))) (Some q) ≡ false
unfolding reply_in
tells_no_file answers volume q o small fits procedure file =
    ap (λ n. is_file file (option_and_then attributes_in (results_of n (answer_to q (reply.Getattr (look_by volume o)))))) procedure
    ∙ by (results_of 1 (answer_to q (reply.Getattr (look_by volume o)))) refl
  where
    by : (r : Option Reply) → results_of 1 (answer_to q (reply.Getattr (look_by volume o))) ≡ r → is_file file (option_and_then attributes_in r) ≡ false
    by None is = refl
    by (Some r) is = ap (λ z. is_file file (attributes_in z)) (answers volume q o small fits r is) ∙ no_file volume file o

-- ---- a turn

-- a reply among these tells the attributes of the file
abbrev pub told_among : History → ℕ → List Remark → Bool
told_among h file [] = false
told_among h file (Replied n e bytes ∷ rs) = tells_by file bytes (asked h n) || told_among h file rs
told_among h file (r ∷ rs) = told_among h file rs

pub plain_untold : (h : History) (file : ℕ) (rs : List Remark) → IsPlain rs → told_among h file rs ≡ false
plain_untold h file [] plain = refl
plain_untold h file (Sent k f ∷ rs) plain = plain_untold h file rs plain
plain_untold h file (Verf v ∷ rs) plain = plain_untold h file rs plain
plain_untold h file (Down a ∷ rs) plain = plain_untold h file rs plain
plain_untold h file (Did m at choice ∷ rs) plain = absurd plain
plain_untold h file (Flush f ∷ rs) plain = absurd plain
plain_untold h file (Replied m e bytes ∷ rs) plain = absurd plain
plain_untold h file (Junk m ∷ rs) plain = absurd plain
plain_untold h file (Early m ∷ rs) plain = absurd plain
plain_untold h file (Full m ∷ rs) plain = absurd plain
plain_untold h file (Lost m ∷ rs) plain = absurd plain

pub one_untold : (h : History) (file n e : ℕ) (bytes : List ℕ) → tells_by file bytes (asked h n) ≡ false → told_among h file (Replied n e bytes ∷ []) ≡ false
one_untold h file n e bytes none = ap (λ b. b || false) none

first_none : (a b : Bool) → a || b ≡ false → a ≡ false
first_none false b is = refl
first_none true b is = is

second_none : (a b : Bool) → a || b ≡ false → b ≡ false
second_none false b is = is
second_none true b is = absurd (not_both refl is)

-- what comes first tells nothing either, whatever is noted so far
front_untold : (past : History) (t : Turn) (so : List Remark) (file : ℕ) (before rs : List Remark) → told_among (t ∷ past) file (before ++ rs) ≡ false
    → told_among (so_far t so ∷ past) file before ≡ false
front_untold past t so file [] rs none = refl
front_untold past t so file (Replied n e bytes ∷ before) rs none =
    ap (λ o. tells_by file bytes o || told_among (so_far t so ∷ past) file before) (same_call past t so n)
    ∙ ap (λ b. b || told_among (so_far t so ∷ past) file before) (first_none (tells_by file bytes (asked (t ∷ past) n)) (told_among (t ∷ past) file (before ++ rs)) none)
    ∙ front_untold past t so file before rs (second_none (tells_by file bytes (asked (t ∷ past) n)) (told_among (t ∷ past) file (before ++ rs)) none)
front_untold past t so file (Sent k f ∷ before) rs none = front_untold past t so file before rs none
front_untold past t so file (Verf v ∷ before) rs none = front_untold past t so file before rs none
front_untold past t so file (Down a ∷ before) rs none = front_untold past t so file before rs none
front_untold past t so file (Did m at choice ∷ before) rs none = front_untold past t so file before rs none
front_untold past t so file (Flush f ∷ before) rs none = front_untold past t so file before rs none
front_untold past t so file (Junk m ∷ before) rs none = front_untold past t so file before rs none
front_untold past t so file (Early m ∷ before) rs none = front_untold past t so file before rs none
front_untold past t so file (Full m ∷ before) rs none = front_untold past t so file before rs none
front_untold past t so file (Lost m ∷ before) rs none = front_untold past t so file before rs none

-- none does, so none does that counts
told_so : (t : Turn) (past : History) (n file : ℕ) (before rs : List Remark) → told_among (t ∷ past) file rs ≡ false → tells_among t past n file before rs ≡ false
told_so t past n file before [] none = refl
told_so t past n file before (Replied m e bytes ∷ rs) none =
    ap (λ b. (b && (is_idle (so_far t before ∷ past) n && not (list_any forgets rs))) || tells_among t past n file (before ++ Replied m e bytes ∷ []) rs)
    (first_none (tells_by file bytes (asked (t ∷ past) m)) (told_among (t ∷ past) file rs) none)
    ∙ told_so t past n file (before ++ Replied m e bytes ∷ []) rs (second_none (tells_by file bytes (asked (t ∷ past) m)) (told_among (t ∷ past) file rs) none)
told_so t past n file before (Sent k f ∷ rs) none = told_so t past n file (before ++ Sent k f ∷ []) rs none
told_so t past n file before (Verf v ∷ rs) none = told_so t past n file (before ++ Verf v ∷ []) rs none
told_so t past n file before (Down a ∷ rs) none = told_so t past n file (before ++ Down a ∷ []) rs none
told_so t past n file before (Did m at choice ∷ rs) none = told_so t past n file (before ++ Did m at choice ∷ []) rs none
told_so t past n file before (Flush f ∷ rs) none = told_so t past n file (before ++ Flush f ∷ []) rs none
told_so t past n file before (Junk m ∷ rs) none = told_so t past n file (before ++ Junk m ∷ []) rs none
told_so t past n file before (Early m ∷ rs) none = told_so t past n file (before ++ Early m ∷ []) rs none
told_so t past n file before (Full m ∷ rs) none = told_so t past n file (before ++ Full m ∷ []) rs none
told_so t past n file before (Lost m ∷ rs) none = told_so t past n file (before ++ Lost m ∷ []) rs none

abbrev pub IsUntold : History → Type 0
IsUntold h = (n e file : ℕ) → tells h n e file ≡ false

either_none : (b : Bool) (x y : Bool) → x ≡ false → y ≡ false → (if b then x || y else y) ≡ false
either_none true x y none nor = ap (λ b. b || y) none ∙ nor
either_none false x y none nor = nor

pub nothing_told : IsUntold []
unfolding tells
nothing_told n e file = refl

pub untold_goes : (past : History) (t : Turn) → IsUntold past → ((file : ℕ) → told_among (t ∷ past) file t.remarks ≡ false) → IsUntold (t ∷ past)
unfolding tells
untold_goes past t before none n e file =
    either_none (events (t ∷ past) == e) (tells_among t past n file [] t.remarks) (tells past n e file) (told_so t past n file [] t.remarks (none file)) (before n e file)

so_far_untold : (past : History) (t : Turn) (before rs : List Remark) → IsUntold past → ((file : ℕ) → told_among (t ∷ past) file (before ++ rs) ≡ false) → IsUntold (so_far t before ∷ past)
unfolding tells
so_far_untold past t before rs untold none n e file =
    either_none (events (t ∷ past) == e) (tells_among (so_far t before) past n file [] before) (tells past n e file)
    (told_so (so_far t before) past n file [] before (front_untold past t before file before rs (none file))) (untold n e file)

next_untold : (past : History) (t : Turn) (before : List Remark) (r : Remark) (rs : List Remark) → ((file : ℕ) → told_among (t ∷ past) file (before ++ r ∷ rs) ≡ false)
    → (file : ℕ) → told_among (t ∷ past) file ((before ++ r ∷ []) ++ rs) ≡ false
next_untold past t before r rs none file = ap (told_among (t ∷ past) file) (append_assoc before (r ∷ []) rs) ∙ none file

-- where nothing was told, nothing is asked again
pub all_remembered : (past : History) (t : Turn) (before rs : List Remark) → IsUntold past → ((file : ℕ) → told_among (t ∷ past) file (before ++ rs) ≡ false) → AllMayBeNoted t past before rs
all_remembered past t before [] untold none = tt
all_remembered past t before (Sent k f ∷ rs) untold none = (
  (λ e file known. absurd (not_both known.told (so_far_untold past t before (Sent k f ∷ rs) untold none f.arrival e file))),
  all_remembered past t (before ++ Sent k f ∷ []) rs untold (next_untold past t before (Sent k f) rs none),
)
all_remembered past t before (Verf v ∷ rs) untold none = (tt, all_remembered past t (before ++ Verf v ∷ []) rs untold (next_untold past t before (Verf v) rs none))
all_remembered past t before (Down a ∷ rs) untold none = (tt, all_remembered past t (before ++ Down a ∷ []) rs untold (next_untold past t before (Down a) rs none))
all_remembered past t before (Did m at choice ∷ rs) untold none = (tt, all_remembered past t (before ++ Did m at choice ∷ []) rs untold (next_untold past t before (Did m at choice) rs none))
all_remembered past t before (Flush f ∷ rs) untold none = (tt, all_remembered past t (before ++ Flush f ∷ []) rs untold (next_untold past t before (Flush f) rs none))
all_remembered past t before (Replied m e bytes ∷ rs) untold none = (tt, all_remembered past t (before ++ Replied m e bytes ∷ []) rs untold (next_untold past t before (Replied m e bytes) rs none))
all_remembered past t before (Junk m ∷ rs) untold none = (tt, all_remembered past t (before ++ Junk m ∷ []) rs untold (next_untold past t before (Junk m) rs none))
all_remembered past t before (Early m ∷ rs) untold none = (tt, all_remembered past t (before ++ Early m ∷ []) rs untold (next_untold past t before (Early m) rs none))
all_remembered past t before (Full m ∷ rs) untold none = (tt, all_remembered past t (before ++ Full m ∷ []) rs untold (next_untold past t before (Full m) rs none))
all_remembered past t before (Lost m ∷ rs) untold none = (tt, all_remembered past t (before ++ Lost m ∷ []) rs untold (next_untold past t before (Lost m) rs none))
