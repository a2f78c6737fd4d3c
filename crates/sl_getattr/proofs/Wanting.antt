-- What a GETATTR call wants: the lock of its object, and then the answer of the object's server.
use Rattle.std.proofs.Common.{◌≡◌, ℕ, Bool, true, false, List, [], ◌∷◌, filter, Option, Some, None, Result, Ok, Err, refl, ap, ◌∙◌, not, ◌||◌, if◌then◌else◌}
use Rattle.std.specs.List.{list_any}
use Rattle.std.specs.Ordering.{nat_cmp}
use Rattle.std.specs.FinMap.{get-empty}
use Rattle.sl_defs.specs.declared.setup.Setup.{Setup}
use Rattle.sl_defs.specs.declared.setup.Time.{Time}
use Rattle.sl_types.specs.declared.cred.Cred.{Cred}
use Rattle.sl_types.specs.declared.call.Call.{Call}
use Rattle.sl_types.specs.declared.call.Call.TheVariants as call
use Rattle.sl_types.specs.declared.handle.Handle.{Handle}
use Rattle.sl_types.specs.Handles.{handle_of}
use Rattle.sl_types.specs.declared.reply.Reply.TheVariants as reply
use Rattle.sl_types.specs.declared.kind.Status.{Status}
use Rattle.sl_types.specs.declared.kind.Status.TheVariants as status
use Rattle.sl_model.specs.Plan.{run}
use Rattle.sl_model.specs.Volume.{is_dir, is_reg}
use Rattle.sl_model.specs.Gathered.{sight_in}
use Rattle.sl_model.specs.Procedures.{plan}
use Rattle.sl_history.specs.Legal.{no_choice}
use Rattle.sl_history.specs.Placing.{object_server}
use Rattle.sl_machine.specs.Memory.{Proxy, Waiting, nothing_told, no_soft, dirty_attributes}
use Rattle.sl_machine.specs.Calls.{handles, holds, is_foreign, nothing_known, failure, refused, refused_if}
use Rattle.sl_machine.specs.Wants.{Want, Lock, ForwardLook, Knowing, knowing, wants, wants_locks, wants_look, wants_own, or_want, lock_first, first_of, recall, recall_by, refuses, plainly, AtOnce}
use Rattle.sl_machine.specs.Memory.{Hold}
use Rattle.sl_getattr.proofs.Looking.{no_handle, nothing_there}
use Rattle.std.proofs.Common.{◌==◌, arith}

-- ---- words

-- it shares its object with others
abbrev pub hold_of : Handle → Hold
hold_of h = record { key = record { fileid = h.fileid; dir = is_dir h.kind }; alone = false }

-- the object of a handle that this volume may have, or why there is none
abbrev pub target_by : Setup → Option Handle → Result Handle Status
target_by s None = Err status.BadHandle
target_by s (Some h) = if is_foreign s h then Err status.Stale else Ok h

abbrev pub target : Setup → List ℕ → Result Handle Status
target s object = target_by s (handle_of object)

same_number : (n : ℕ) → (n == n) ≡ true
same_number n = grind arith

-- ---- what is refused before anything is known

handles_none : (object : List ℕ) → handle_of object ≡ None → handles (call.Getattr object) ≡ []
handles_none object none = rw none refl

handles_one : (object : List ℕ) (h : Handle) → handle_of object ≡ Some h → handles (call.Getattr object) ≡ h ∷ []
handles_one object h is = rw is refl

pub no_handle_is_refused : (s : Setup) (object : List ℕ) (cred : Cred) (now : Time) → handle_of object ≡ None → refused s (call.Getattr object) cred now ≡ Some status.BadHandle
unfolding refused
no_handle_is_refused s object cred now none = ap (λ r. refused_if (list_any (is_foreign s) (handles (call.Getattr object))) (failure r)) (no_handle (sight_in nothing_known) object cred now no_choice none)

by_foreign : (s : Setup) (object : List ℕ) (h : Handle) (cred : Cred) (now : Time) → handle_of object ≡ Some h
    → refused s (call.Getattr object) cred now ≡ refused_if (is_foreign s h || false) (Some status.Stale)
unfolding refused
by_foreign s object h cred now is =
    ap (λ hs. refused_if (list_any (is_foreign s) hs) (failure (run (sight_in nothing_known) (plan (call.Getattr object) cred now no_choice)))) (handles_one object h is)
    ∙ ap (λ r. refused_if (is_foreign s h || false) (failure r)) (nothing_there (sight_in nothing_known) object h cred now no_choice is refl)

pub foreign_is_refused : (s : Setup) (object : List ℕ) (h : Handle) (cred : Cred) (now : Time) → handle_of object ≡ Some h → is_foreign s h ≡ true
    → refused s (call.Getattr object) cred now ≡ Some status.Stale
foreign_is_refused s object h cred now is foreign = by_foreign s object h cred now is ∙ ap (λ b. refused_if (b || false) (Some status.Stale)) foreign

not_refused : (s : Setup) (object : List ℕ) (h : Handle) (cred : Cred) (now : Time) → handle_of object ≡ Some h → is_foreign s h ≡ false
    → refused s (call.Getattr object) cred now ≡ None
not_refused s object h cred now is own = by_foreign s object h cred now is ∙ ap (λ b. refused_if (b || false) (Some status.Stale)) own

-- ---- locks

-- its wish, by the handles that it has
abbrev locks_by : Knowing → Call → List Handle → Want
locks_by k c hs =
    or_want (lock_first k.call.held (holds c true (filter (λ (h : Handle). is_dir h.kind) hs)))
    (or_want (lock_first k.call.held (holds c false (filter (λ (h : Handle). not (is_dir h.kind)) hs))) (first_of hs (wants_look k) (wants_own k)))

locks_so : (k : Knowing) (object : List ℕ) → wants_locks k (call.Getattr object) ≡ locks_by k (call.Getattr object) (handles (call.Getattr object))
locks_so k object = refl

first_lock : (k : Knowing) (object : List ℕ) (h : Handle) (b : Bool) → is_dir h.kind ≡ b → k.call.held ≡ [] → locks_by k (call.Getattr object) (h ∷ []) ≡ Lock (hold_of h ∷ [])
first_lock k object h true e none = rw (none, e) refl
first_lock k object h false e none = rw (none, e) refl

no_more_locks : (k : Knowing) (object : List ℕ) (h : Handle) (b : Bool) → is_dir h.kind ≡ b → k.call.held ≡ hold_of h ∷ []
    → locks_by k (call.Getattr object) (h ∷ []) ≡ wants_look k h
no_more_locks k object h true e held = rw (held, e, same_number h.fileid) refl
no_more_locks k object h false e held = rw (held, e, same_number h.fileid) refl

-- ---- the object's server is asked

recall_by_none : (b : Bool) (f : ℕ) → (if b then recall_by f None else None) ≡ None
recall_by_none true f = refl
recall_by_none false f = refl

unknown : (h : Handle) → recall no_soft h ≡ None
unknown h = ap (λ o. if is_reg h.kind then recall_by h.fileid (dirty_attributes o None) else None) (get-empty nat_cmp h.fileid) ∙ recall_by_none (is_reg h.kind) h.fileid

looks_at : (k : Knowing) (object : List ℕ) (h : Handle) → k.call.asked.call ≡ call.Getattr object → k.proxy.soft ≡ no_soft → k.gathered.cells ≡ []
    → wants_look k h ≡ ForwardLook (object_server k.setup h.fileid)
looks_at k object h is soft none = rw (none, is, soft) (ap (λ o. or_want o (ForwardLook (object_server k.setup h.fileid))) (unknown h))

-- ---- what it wants

to_locks : (s : Setup) (p : Proxy) (now : Time) (w : Waiting) (object : List ℕ) (h : Handle) → w.asked.call ≡ call.Getattr object → handle_of object ≡ Some h
    → is_foreign s h ≡ false → wants s p now w ≡ locks_by (knowing s p now w) (call.Getattr object) (h ∷ [])
unfolding wants
to_locks s p now w object h is spelled own =
    ap (λ c. refuses (knowing s p now w) (refused s c w.asked.cred now)) is
    ∙ ap (refuses (knowing s p now w)) (not_refused s object h w.asked.cred now spelled own)
    ∙ ap (wants_locks (knowing s p now w)) is ∙ locks_so (knowing s p now w) object
    ∙ ap (locks_by (knowing s p now w) (call.Getattr object)) (handles_one object h spelled)

-- a call without locks wants that of its object
pub wants_lock : (s : Setup) (p : Proxy) (now : Time) (w : Waiting) (object : List ℕ) (h : Handle) → w.asked.call ≡ call.Getattr object → handle_of object ≡ Some h
    → is_foreign s h ≡ false → w.held ≡ [] → wants s p now w ≡ Lock (hold_of h ∷ [])
wants_lock s p now w object h is spelled own held =
    to_locks s p now w object h is spelled own ∙ first_lock (knowing s p now w) object h (is_dir h.kind) refl held

-- a call with that lock wants the server's answer
pub wants_answer : (s : Setup) (p : Proxy) (now : Time) (w : Waiting) (object : List ℕ) (h : Handle) → w.asked.call ≡ call.Getattr object → handle_of object ≡ Some h
    → is_foreign s h ≡ false → w.held ≡ hold_of h ∷ [] → w.told ≡ nothing_told → p.soft ≡ no_soft → wants s p now w ≡ ForwardLook (object_server s h.fileid)
wants_answer s p now w object h is spelled own held told soft =
    to_locks s p now w object h is spelled own ∙ no_more_locks (knowing s p now w) object h (is_dir h.kind) refl held
    ∙ looks_at (knowing s p now w) object h is soft (rw told refl)

-- a call that is refused before anything is known wants that answer
pub wants_refusal : (s : Setup) (p : Proxy) (now : Time) (w : Waiting) (object : List ℕ) (t : Status) → w.asked.call ≡ call.Getattr object
    → refused s (call.Getattr object) w.asked.cred now ≡ Some t → wants s p now w ≡ plainly AtOnce (reply.Getattr (Err t))
unfolding wants
wants_refusal s p now w object t is refusal =
    ap (λ c. refuses (knowing s p now w) (refused s c w.asked.cred now)) is ∙ ap (refuses (knowing s p now w)) refusal ∙ rw is refl

-- ---- why a call has no target

abbrev pub refusal : Result Handle Status → Option Status
refusal (Ok h) = None
refusal (Err t) = Some t

by_home : (s : Setup) (object : List ℕ) (h : Handle) (cred : Cred) (now : Time) (b : Bool) → handle_of object ≡ Some h → is_foreign s h ≡ b
    → refused s (call.Getattr object) cred now ≡ refusal (if b then Err status.Stale else Ok h)
by_home s object h cred now true is foreign = foreign_is_refused s object h cred now is foreign
by_home s object h cred now false is foreign = not_refused s object h cred now is foreign

by_handle : (s : Setup) (object : List ℕ) (cred : Cred) (now : Time) (o : Option Handle) → handle_of object ≡ o
    → refused s (call.Getattr object) cred now ≡ refusal (target_by s o)
by_handle s object cred now None is = no_handle_is_refused s object cred now is
by_handle s object cred now (Some h) is = by_home s object h cred now (is_foreign s h) is refl

pub refusal_is : (s : Setup) (object : List ℕ) (cred : Cred) (now : Time) → refused s (call.Getattr object) cred now ≡ refusal (target s object)
refusal_is s object cred now = by_handle s object cred now (handle_of object) refl
