-- What replies told, from note to note and from turn to turn.
use Rattle.std.proofs.Common.{◌≡◌, ℕ, ◌+◌, ◌<◌, ◌≤◌, eqb-true, Bool, true, false, cond, not, ◌&&◌, ◌||◌, List, [], ◌∷◌, ◌++◌, Option, Some, None, refl, ap, sym, ◌∙◌, arith, append_assoc}
use Rattle.std.proofs.lemmas.Bool.{ne_eqb, true≢false}
use Rattle.std.proofs.lemmas.Bool.Decides.{nat_tests}
use Rattle.std.proofs.lemmas.List.{append-nil}
use Rattle.std.proofs.lemmas.Option.{same_Some}
use Rattle.std.specs.Prelude.{◌==◌, filter, nat_le, if◌then◌else◌, is_some, option_and_then}
use Rattle.std.specs.List.{list_any}
use Rattle.sl_defs.specs.Histories.{Happening, Opens, Reaches, Happens, event_count}
use Rattle.sl_defs.specs.declared.setup.Time.{Time}
use Rattle.sl_history.specs.Turns.{Remark, Sent, Did, Flush, Verf, Replied, Junk, Early, Full, Lost, Down, Turn, History, begun, events, noted, so_far, turn_of, is_event}
use Rattle.sl_history.specs.Arrivals.{Asked, arrives, asked, asked_by, drops_any, waiting, waits_on}
use Rattle.sl_history.specs.Licensed.{is_in}
use Rattle.sl_history.specs.Remembering.{changes_by, datagrams_since, forgets, is_datagram, is_idle, tells, tells_among, tells_by}
use Rattle.sl_recall.specs.declared.tellings.Tellings.{Tellings}
use Rattle.sl_recall.specs.Changing.{past_of}
use Rattle.sl_recall.specs.Telling.{AreTellingsOf, told_at, tells_now}
use Rattle.sl_recall.proofs.ChangeLaws.{is_le, le_is}
use Rattle.sl_recall.proofs.ForgetLaws.{forgets_append}

-- ---- calls that wait came before

pub AllAtMost : ℕ → List ℕ → Type 0
AllAtMost k [] = Unit {0}
AllAtMost k (m ∷ ms) = (m ≤ k) × AllAtMost k ms

higher : (j k : ℕ) (ms : List ℕ) → j ≤ k → AllAtMost j ms → AllAtMost k ms
unfolding AllAtMost
higher j k [] h a = tt
higher j k (m ∷ ms) h a = (omega (arith, h, a.0), higher j k ms h a.1)

joined : (k : ℕ) (ms ns : List ℕ) → AllAtMost k ms → AllAtMost k ns → AllAtMost k (ms ++ ns)
unfolding AllAtMost
joined k [] ns a b = b
joined k (m ∷ ms) ns a b = (a.0, joined k ms ns a.1 b)

filtered : (k : ℕ) (p : ℕ → Bool) (ms : List ℕ) → AllAtMost k ms → AllAtMost k (filter p ms)
unfolding AllAtMost
filtered k p [] a = tt
filtered k p (m ∷ ms) a = at (p m) (filtered k p ms a.1)
  where
    at : (b : Bool) → AllAtMost k (filter p ms) → AllAtMost k (cond b (m ∷ filter p ms) (filter p ms))
    at true rest = (a.0, rest)
    at false rest = rest

waits_within : (k : ℕ) (rs : List Remark) (ns : List ℕ) → AllAtMost k ns → AllAtMost k (waits_on rs ns)
unfolding AllAtMost
waits_within k [] ns a = a
waits_within k (Sent j f ∷ rs) ns a = waits_within k rs ns a
waits_within k (Did n m c ∷ rs) ns a = waits_within k rs ns a
waits_within k (Flush f ∷ rs) ns a = waits_within k rs ns a
waits_within k (Verf v ∷ rs) ns a = waits_within k rs [] tt
waits_within k (Replied n e bytes ∷ rs) ns a = waits_within k rs (filter (λ j. not (j == n)) ns) (filtered k (λ j. not (j == n)) ns a)
waits_within k (Junk n ∷ rs) ns a = waits_within k rs ns a
waits_within k (Early n ∷ rs) ns a = waits_within k rs ns a
waits_within k (Full n ∷ rs) ns a = waits_within k rs ns a
waits_within k (Lost n ∷ rs) ns a = waits_within k rs ns a
waits_within k (Down n ∷ rs) ns a = waits_within k rs ns a

arrives_within : (k : ℕ) (t : Turn) (o : Option Asked) → AllAtMost k (arrives k t o)
unfolding AllAtMost
arrives_within k t None = tt
arrives_within k t (Some a) = at (drops_any k t.remarks)
  where
    at : (b : Bool) → AllAtMost k (if b then [] else k ∷ [])
    at true = tt
    at false = (omega arith, tt)

pub waiting_within : (h : History) → AllAtMost (events h) (waiting h)
unfolding AllAtMost waiting
waiting_within [] = tt
waiting_within (t ∷ past) = waits_within (events (t ∷ past)) t.remarks (waiting past ++ arrives (events (t ∷ past)) t (asked_by t))
    (joined (events (t ∷ past)) (waiting past) (arrives (events (t ∷ past)) t (asked_by t)) (higher (events past) (events (t ∷ past)) (waiting past) (omega arith) (waiting_within past)) (arrives_within (events (t ∷ past)) t (asked_by t)))

other_than_all : (k n : ℕ) (f : ℕ → Bool) (ms : List ℕ) → AllAtMost k ms → k < n → list_any (λ m. not (m == n) && f m) ms ≡ list_any f ms
unfolding AllAtMost
other_than_all k n f [] a h = refl
other_than_all k n f (m ∷ ms) a h =
    ap (λ b. (not b && f m) || list_any (λ m. not (m == n) && f m) ms) (ne_eqb m n (λ e. absurd (omega (arith, a.0, h, e))))
    ∙ ap (λ b. f m || b) (other_than_all k n f ms a.1 h)

-- no call waits that may change something, whatever call comes later
pub idle_is : (h : History) (n : ℕ) → events h < n → is_idle h n ≡ not (list_any (λ m. changes_by (asked h m)) (waiting h))
idle_is h n less = ap not (other_than_all (events h) n (λ m. changes_by (asked h m)) (waiting h) (waiting_within h) less)

-- ---- a note

same_asked : (t : Turn) (past : History) (rs : List Remark) (m : ℕ) → asked (so_far t rs ∷ past) m ≡ asked (t ∷ past) m
unfolding asked turn_of
same_asked t past rs m = at (is_event past t m)
  where
    at : (b : Bool) → option_and_then asked_by (if b then Some (so_far t rs) else turn_of past m) ≡ option_and_then asked_by (if b then Some t else turn_of past m)
    at true = refl
    at false = refl

-- this note by itself tells of the file
pub tells_by_note : Turn → History → ℕ → ℕ → List Remark → Remark → Bool
tells_by_note t past n f before r = tells_among t past n f before (r ∷ [])

or_assoc : (a b c : Bool) → (a || (b || c)) ≡ ((a || b) || c)
or_assoc true b c = refl
or_assoc false b c = refl

-- where more is noted, what was told stays told unless the note forgets it
among_append : (t : Turn) (past : History) (n f : ℕ) (before rs : List Remark) (r : Remark)
    → tells_among t past n f before (rs ++ r ∷ []) ≡ ((tells_among t past n f before rs && not (forgets r)) || tells_among t past n f (before ++ rs) (r ∷ []))
among_append t past n f before [] r = ap (λ (bs : List Remark). tells_among t past n f bs (r ∷ [])) (sym (append-nil before))
among_append t past n f before (Replied m e bytes ∷ rs) r =
    ap (λ b. (tells_by f bytes (asked (t ∷ past) m) && (is_idle (so_far t before ∷ past) n && not b)) || tells_among t past n f (before ++ Replied m e bytes ∷ []) (rs ++ r ∷ [])) (forgets_append rs r)
    ∙ ap (λ b. (tells_by f bytes (asked (t ∷ past) m) && (is_idle (so_far t before ∷ past) n && not (list_any forgets rs || forgets r))) || b) (among_append t past n f (before ++ Replied m e bytes ∷ []) rs r)
    ∙ spread (tells_by f bytes (asked (t ∷ past) m)) (is_idle (so_far t before ∷ past) n) (list_any forgets rs) (forgets r) (tells_among t past n f (before ++ Replied m e bytes ∷ []) rs) (tells_among t past n f ((before ++ Replied m e bytes ∷ []) ++ rs) (r ∷ []))
    ∙ ap (λ (bs : List Remark). (((tells_by f bytes (asked (t ∷ past) m) && (is_idle (so_far t before ∷ past) n && not (list_any forgets rs))) || tells_among t past n f (before ++ Replied m e bytes ∷ []) rs) && not (forgets r)) || tells_among t past n f bs (r ∷ []))
    (append_assoc before (Replied m e bytes ∷ []) rs)
  where
    spread : (a b c d x y : Bool) → ((a && (b && not (c || d))) || ((x && not d) || y)) ≡ ((((a && (b && not c)) || x) && not d) || y)
    spread true true true true x y = ap (λ z. z || y) (none x) ∙ sym (ap (λ z. z || y) (none x))
      where
        none : (x : Bool) → (x && false) ≡ false
        none true = refl
        none false = refl
    spread true true true false x y = refl
    spread true true false true x y = ap (λ z. z || y) (none x)
      where
        none : (x : Bool) → (x && false) ≡ false
        none true = refl
        none false = refl
    spread true true false false x y = refl
    spread true false c d x y = refl
    spread false b c d x y = refl
among_append t past n f before (Sent j g ∷ rs) r = among_append t past n f (before ++ Sent j g ∷ []) rs r ∙ ap (λ (bs : List Remark). (tells_among t past n f (before ++ Sent j g ∷ []) rs && not (forgets r)) || tells_among t past n f bs (r ∷ [])) (append_assoc before (Sent j g ∷ []) rs)
among_append t past n f before (Did m a c ∷ rs) r = among_append t past n f (before ++ Did m a c ∷ []) rs r ∙ ap (λ (bs : List Remark). (tells_among t past n f (before ++ Did m a c ∷ []) rs && not (forgets r)) || tells_among t past n f bs (r ∷ [])) (append_assoc before (Did m a c ∷ []) rs)
among_append t past n f before (Flush g ∷ rs) r = among_append t past n f (before ++ Flush g ∷ []) rs r ∙ ap (λ (bs : List Remark). (tells_among t past n f (before ++ Flush g ∷ []) rs && not (forgets r)) || tells_among t past n f bs (r ∷ [])) (append_assoc before (Flush g ∷ []) rs)
among_append t past n f before (Verf v ∷ rs) r = among_append t past n f (before ++ Verf v ∷ []) rs r ∙ ap (λ (bs : List Remark). (tells_among t past n f (before ++ Verf v ∷ []) rs && not (forgets r)) || tells_among t past n f bs (r ∷ [])) (append_assoc before (Verf v ∷ []) rs)
among_append t past n f before (Junk m ∷ rs) r = among_append t past n f (before ++ Junk m ∷ []) rs r ∙ ap (λ (bs : List Remark). (tells_among t past n f (before ++ Junk m ∷ []) rs && not (forgets r)) || tells_among t past n f bs (r ∷ [])) (append_assoc before (Junk m ∷ []) rs)
among_append t past n f before (Early m ∷ rs) r = among_append t past n f (before ++ Early m ∷ []) rs r ∙ ap (λ (bs : List Remark). (tells_among t past n f (before ++ Early m ∷ []) rs && not (forgets r)) || tells_among t past n f bs (r ∷ [])) (append_assoc before (Early m ∷ []) rs)
among_append t past n f before (Full m ∷ rs) r = among_append t past n f (before ++ Full m ∷ []) rs r ∙ ap (λ (bs : List Remark). (tells_among t past n f (before ++ Full m ∷ []) rs && not (forgets r)) || tells_among t past n f bs (r ∷ [])) (append_assoc before (Full m ∷ []) rs)
among_append t past n f before (Lost m ∷ rs) r = among_append t past n f (before ++ Lost m ∷ []) rs r ∙ ap (λ (bs : List Remark). (tells_among t past n f (before ++ Lost m ∷ []) rs && not (forgets r)) || tells_among t past n f bs (r ∷ [])) (append_assoc before (Lost m ∷ []) rs)
among_append t past n f before (Down m ∷ rs) r = among_append t past n f (before ++ Down m ∷ []) rs r ∙ ap (λ (bs : List Remark). (tells_among t past n f (before ++ Down m ∷ []) rs && not (forgets r)) || tells_among t past n f bs (r ∷ [])) (append_assoc before (Down m ∷ []) rs)

-- it rests on the datagram of the turn, and not on its notes
among_same : (t : Turn) (past : History) (n f : ℕ) (all before rs : List Remark) → tells_among (so_far t all) past n f before rs ≡ tells_among t past n f before rs
among_same t past n f all before [] = refl
among_same t past n f all before (Replied m e bytes ∷ rs) =
    ap (λ o. (tells_by f bytes o && (is_idle (so_far t before ∷ past) n && not (list_any forgets rs))) || tells_among (so_far t all) past n f (before ++ Replied m e bytes ∷ []) rs) (same_asked t past all m)
    ∙ ap (λ b. (tells_by f bytes (asked (t ∷ past) m) && (is_idle (so_far t before ∷ past) n && not (list_any forgets rs))) || b) (among_same t past n f all (before ++ Replied m e bytes ∷ []) rs)
among_same t past n f all before (Sent j g ∷ rs) = among_same t past n f all (before ++ Sent j g ∷ []) rs
among_same t past n f all before (Did m a c ∷ rs) = among_same t past n f all (before ++ Did m a c ∷ []) rs
among_same t past n f all before (Flush g ∷ rs) = among_same t past n f all (before ++ Flush g ∷ []) rs
among_same t past n f all before (Verf v ∷ rs) = among_same t past n f all (before ++ Verf v ∷ []) rs
among_same t past n f all before (Junk m ∷ rs) = among_same t past n f all (before ++ Junk m ∷ []) rs
among_same t past n f all before (Early m ∷ rs) = among_same t past n f all (before ++ Early m ∷ []) rs
among_same t past n f all before (Full m ∷ rs) = among_same t past n f all (before ++ Full m ∷ []) rs
among_same t past n f all before (Lost m ∷ rs) = among_same t past n f all (before ++ Lost m ∷ []) rs
among_same t past n f all before (Down m ∷ rs) = among_same t past n f all (before ++ Down m ∷ []) rs

now_noted : (t : Turn) (past : History) (n f : ℕ) (r : Remark) → tells_now (noted (t ∷ past) r) n f ≡ ((tells_now (t ∷ past) n f && not (forgets r)) || tells_among t past n f t.remarks (r ∷ []))
now_noted t past n f r = among_same t past n f (t.remarks ++ r ∷ []) [] (t.remarks ++ r ∷ []) ∙ among_append t past n f [] t.remarks r

-- what a note leaves of the tellings of earlier turns
kept : (t : Turn) (past : History) (r : Remark) (x x' : Tellings) → AreTellingsOf (t ∷ past) x → x'.told ≡ x.told → x'.datagrams ≡ x.datagrams
    → ((n f : ℕ) → events (t ∷ past) < n → tells_now (noted (t ∷ past) r) n f ≡ is_in f x'.fresh.items) → AreTellingsOf (noted (t ∷ past) r) x'
unfolding datagrams_since
kept t past r x x' is told count fresh = record {
  told = λ f e n h. is.told f e n h ∙ ap (λ m. is_some (told_at m f e)) (sym told);
  within = λ f e d s. is.within f e d (ap (λ m. told_at m f e) (sym told) ∙ s);
  since = λ f e d s. is.since f e d (ap (λ m. told_at m f e) (sym told) ∙ s) ∙ sym count;
  fresh = fresh;
}

in_none : (f : ℕ) (xs : List ℕ) → xs ≡ [] → false ≡ is_in f xs
in_none f xs e = sym (ap (λ ys. is_in f ys) e)

and_false : (b : Bool) → (b && false) ≡ false
and_false true = refl
and_false false = refl

and_true : (b : Bool) → (b && true) ≡ b
and_true true = refl
and_true false = refl

or_none : (b : Bool) → (b || false) ≡ b
or_none true = refl
or_none false = refl

-- a note that forgets tells nothing
quiet : (t : Turn) (past : History) (n f : ℕ) (before : List Remark) (r : Remark) → forgets r ≡ true → tells_among t past n f before (r ∷ []) ≡ false
quiet t past n f before (Flush g) e = refl
quiet t past n f before (Verf v) e = refl
quiet t past n f before (Sent j g) e = refl
quiet t past n f before (Did m a c) e = refl
quiet t past n f before (Replied m a c) e = absurd (true≢false (sym e))
quiet t past n f before (Junk m) e = refl
quiet t past n f before (Early m) e = refl
quiet t past n f before (Full m) e = refl
quiet t past n f before (Lost m) e = refl
quiet t past n f before (Down m) e = refl

pub forgotten : (t : Turn) (past : History) (r : Remark) (x x' : Tellings) → AreTellingsOf (t ∷ past) x → forgets r ≡ true → x'.told ≡ x.told → x'.datagrams ≡ x.datagrams → x'.fresh.items ≡ []
    → AreTellingsOf (noted (t ∷ past) r) x'
forgotten t past r x x' is e told count none = kept t past r x x' is told count (λ n f h.
    now_noted t past n f r ∙ ap (λ b. (tells_now (t ∷ past) n f && not b) || tells_among t past n f t.remarks (r ∷ [])) e
    ∙ ap (λ b. b || tells_among t past n f t.remarks (r ∷ [])) (and_false (tells_now (t ∷ past) n f)) ∙ quiet t past n f t.remarks r e ∙ in_none f x'.fresh.items none)

-- a note that neither forgets nor tells
pub stays : (t : Turn) (past : History) (r : Remark) (x : Tellings) → AreTellingsOf (t ∷ past) x → forgets r ≡ false → ((n f : ℕ) → events (t ∷ past) < n → tells_among t past n f t.remarks (r ∷ []) ≡ false) → AreTellingsOf (noted (t ∷ past) r) x
stays t past r x is e silent = kept t past r x x is refl refl (λ n f h.
    now_noted t past n f r ∙ ap (λ b. (tells_now (t ∷ past) n f && not b) || tells_among t past n f t.remarks (r ∷ [])) e
    ∙ ap (λ b. b || tells_among t past n f t.remarks (r ∷ [])) (and_true (tells_now (t ∷ past) n f)) ∙ ap (λ b. tells_now (t ∷ past) n f || b) (silent n f h) ∙ or_none (tells_now (t ∷ past) n f) ∙ is.fresh n f h)

-- what a reply tells
reply_tells : (t : Turn) (past : History) (n f m e : ℕ) (bytes : List ℕ) → tells_among t past n f t.remarks (Replied m e bytes ∷ []) ≡ (tells_by f bytes (asked (t ∷ past) m) && is_idle (t ∷ past) n)
reply_tells t past n f m e bytes = or_none (tells_by f bytes (asked (t ∷ past) m) && (is_idle (t ∷ past) n && true)) ∙ ap (λ b. tells_by f bytes (asked (t ∷ past) m) && b) (and_true (is_idle (t ∷ past) n))

in_append : (f g : ℕ) (xs : List ℕ) → is_in f (xs ++ g ∷ []) ≡ (is_in f xs || (g == f))
in_append f g [] = or_none (g == f)
in_append f g (x ∷ xs) = ap (λ b. (x == f) || b) (in_append f g xs) ∙ or_assoc (x == f) (is_in f xs) (g == f)

pub learned : (t : Turn) (past : History) (m e file : ℕ) (bytes : List ℕ) (x x' : Tellings) → AreTellingsOf (t ∷ past) x → ((n : ℕ) → events (t ∷ past) < n → is_idle (t ∷ past) n ≡ true)
    → ((f : ℕ) → tells_by f bytes (asked (t ∷ past) m) ≡ (file == f)) → x'.told ≡ x.told → x'.datagrams ≡ x.datagrams → x'.fresh.items ≡ x.fresh.items ++ file ∷ [] → AreTellingsOf (noted (t ∷ past) (Replied m e bytes)) x'
learned t past m e file bytes x x' is idle tells told count more = kept t past (Replied m e bytes) x x' is told count (λ n f h.
    now_noted t past n f (Replied m e bytes) ∙ ap (λ b. b || tells_among t past n f t.remarks (Replied m e bytes ∷ [])) (and_true (tells_now (t ∷ past) n f))
    ∙ ap (λ b. tells_now (t ∷ past) n f || b) (reply_tells t past n f m e bytes ∙ ap (λ b. tells_by f bytes (asked (t ∷ past) m) && b) (idle n h) ∙ and_true (tells_by f bytes (asked (t ∷ past) m)) ∙ tells f)
    ∙ ap (λ b. b || (file == f)) (is.fresh n f h) ∙ sym (ap (λ (xs : List ℕ). is_in f xs) more ∙ in_append f file x.fresh.items))

-- a reply that tells of no file, or while a call waits that may change it
pub unlearned : (t : Turn) (past : History) (m e : ℕ) (bytes : List ℕ) (x : Tellings) → AreTellingsOf (t ∷ past) x
    → ((n f : ℕ) → events (t ∷ past) < n → (tells_by f bytes (asked (t ∷ past) m) && is_idle (t ∷ past) n) ≡ false) → AreTellingsOf (noted (t ∷ past) (Replied m e bytes)) x
unlearned t past m e bytes x is silent = stays t past (Replied m e bytes) x is refl (λ n f h. reply_tells t past n f m e bytes ∙ silent n f h)

-- ---- a turn begins

pub nothing_told : (x : Tellings) → ((f e : ℕ) → told_at x.told f e ≡ None) → x.fresh.items ≡ [] → AreTellingsOf [] x
unfolding tells
nothing_told x none empty = record {
  told = λ f e n h. sym (ap is_some (none f e));
  within = λ f e d s. absurd (true≢false (ap is_some (sym s ∙ none f e)));
  since = λ f e d s. absurd (true≢false (ap is_some (sym s ∙ none f e)));
  fresh = λ n f h. in_none f x.fresh.items empty;
}

none_since : (h : History) (e : ℕ) → events h ≤ e → datagrams_since h e ≡ 0
unfolding datagrams_since
none_since [] e le = refl
none_since (t ∷ past) e le = ap (λ b. if b then 0 else datagrams_since past e + (if is_datagram t.happening then 1 else 0)) (le_is (events (t ∷ past)) e le)

by_datagram : (x : Happening) → is_datagram x ≡ true → event_count x ≡ 1
by_datagram (Opens setup) e = absurd (true≢false (sym e))
by_datagram (Reaches moment) e = absurd (true≢false (sym e))
by_datagram (Happens ev) e = refl

-- so many datagrams come with a turn
abbrev pub came : Bool → ℕ
came b = if b then 1 else 0

since_begun : (h : History) (x : Happening) (m : Time) (e : ℕ) → e ≤ events h → datagrams_since (begun h x m) e ≡ datagrams_since h e + came (is_datagram x)
unfolding datagrams_since
since_begun h x m e le = at (nat_le (events (begun h x m)) e) refl
  where
    last : events h + event_count x ≤ e → (b : Bool) → is_datagram x ≡ b → 0 ≡ datagrams_since h e + came b
    last over true s = absurd (omega (arith, over, le, by_datagram x s))
    last over false s = sym (ap (λ k. k + 0) (none_since h e (omega (arith, over))))

    at : (b : Bool) → nat_le (events (begun h x m)) e ≡ b → (if b then 0 else datagrams_since h e + (if is_datagram x then 1 else 0)) ≡ datagrams_since h e + came (is_datagram x)
    at true s = last (is_le (events (begun h x m)) e s) (is_datagram x) refl
    at false s = refl

-- nothing was told in an event that didn't happen yet
untold : (h : History) (n e f : ℕ) → events h < e → tells h n e f ≡ false
unfolding tells
untold [] n e f less = refl
untold (t ∷ past) n e f less =
    ap (λ b. if b then tells_among t past n f [] t.remarks || tells past n e f else tells past n e f) (ne_eqb (events (t ∷ past)) e (λ s. absurd (omega (arith, less, s))))
    ∙ untold past n e f (omega (arith, less))

tells_is : (h : History) (n e f : ℕ) → tells h n e f ≡ ((e == events h && tells_now h n f) || tells (past_of h) n e f)
unfolding tells
tells_is [] n e f = sym (ap (λ b. b || false) (and_false (e == 0)))
tells_is (t ∷ past) n e f = at (events (t ∷ past) == e) (e == events (t ∷ past)) (swapped (events (t ∷ past)) e)
  where
    swapped : (a b : ℕ) → (a == b) ≡ (b == a)
    swapped a b = grind (arith, nat_tests)

    at : (b c : Bool) → b ≡ c → (if b then tells_among t past n f [] t.remarks || tells past n e f else tells past n e f) ≡ ((c && tells_among t past n f [] t.remarks) || tells past n e f)
    at true true s = refl
    at false false s = refl
    at true false s = absurd (true≢false s)
    at false true s = absurd (true≢false (sym s))

past_within : (h : History) → events (past_of h) ≤ events h
past_within [] = omega arith
past_within (t ∷ past) = omega arith

front : (a b : Bool) → (a && b) ≡ true → a ≡ true
front true b e = refl
front false b e = absurd (true≢false (sym e))

pub begins : (h : History) (x : Happening) (m : Time) (y y' : Tellings) (k : ℕ) (b : Bool) → AreTellingsOf h y → k ≡ events h → b ≡ is_datagram x
    → ((f e : ℕ) → told_at y'.told f e ≡ (if e == k && is_in f y.fresh.items then Some y.datagrams else told_at y.told f e)) → y'.fresh.items ≡ [] → y'.datagrams ≡ y.datagrams + came b
    → AreTellingsOf (begun h x m) y'
begins h x m y y' k b is now dat told empty count = record {
  told = λ f e n less. tells_is h n e f ∙ ap (λ c. ((e == events h) && tells_now h n f) || c) (is.told f e n less) ∙ fits f e n less ∙ sym (ap is_some (here f e));
  within = λ f e d s. (kept_or_new f e d s).0;
  since = λ f e d s. (kept_or_new f e d s).1;
  fresh = λ n f less. in_none f y'.fresh.items empty;
}
  where
    here : (f e : ℕ) → told_at y'.told f e ≡ (if (e == events h) && is_in f y.fresh.items then Some y.datagrams else told_at y.told f e)
    here f e = told f e ∙ ap (λ j. if (e == j) && is_in f y.fresh.items then Some y.datagrams else told_at y.told f e) now

    some_if : (p q : Bool) (o : Option ℕ) → ((p && q) || is_some o) ≡ is_some (if p && q then Some y.datagrams else o)
    some_if true true o = refl
    some_if true false o = refl
    some_if false q o = refl

    fits : (f e n : ℕ) → e < n → (((e == events h) && tells_now h n f) || is_some (told_at y.told f e)) ≡ is_some (if (e == events h) && is_in f y.fresh.items then Some y.datagrams else told_at y.told f e)
    fits f e n less = same (e == events h) refl ∙ some_if (e == events h) (is_in f y.fresh.items) (told_at y.told f e)
      where
        same : (p : Bool) → (e == events h) ≡ p → ((p && tells_now h n f) || is_some (told_at y.told f e)) ≡ ((p && is_in f y.fresh.items) || is_some (told_at y.told f e))
        same true s = ap (λ c. c || is_some (told_at y.told f e)) (is.fresh n f (omega (arith, less, eqb-true e (events h) s)))
        same false s = refl

    more : (e d : ℕ) → e ≤ events h → d + datagrams_since h e ≡ y.datagrams → d + datagrams_since (begun h x m) e ≡ y'.datagrams
    more e d le s = ap (λ j. d + j) (since_begun h x m e le) ∙ omega (arith, s, count, ap came dat)

    kept_or_new : (f e d : ℕ) → told_at y'.told f e ≡ Some d → (e ≤ events h) × (d + datagrams_since (begun h x m) e ≡ y'.datagrams)
    kept_or_new f e d s = at ((e == events h) && is_in f y.fresh.items) refl (sym (here f e) ∙ s)
      where
        at : (p : Bool) → ((e == events h) && is_in f y.fresh.items) ≡ p → (if p then Some y.datagrams else told_at y.told f e) ≡ Some d → (e ≤ events h) × (d + datagrams_since (begun h x m) e ≡ y'.datagrams)
        at true t z =
            let same : e ≡ events h = eqb-true e (events h) (front (e == events h) (is_in f y.fresh.items) t) in
            let le : e ≤ events h = omega (arith, same) in
            (le, more e d le (omega (arith, same_Some y.datagrams d z, none_since h e (omega (arith, same)))))
        at false t z =
            let le : e ≤ events h = omega (arith, is.within f e d z, past_within h) in
            (le, more e d le (is.since f e d z))
