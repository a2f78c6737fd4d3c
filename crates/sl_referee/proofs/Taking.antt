-- What a docket answers to each kind of note.
use Rattle.std.proofs.Common.{◌≡◌, ℕ, ◌-◌, eqb, Bool, true, false, not, ◌&&◌, List, ◌∷◌, length, refl, sym, subst, ◌∙◌, arith, ◌↔◌}
use Rattle.std.proofs.Math.Bool.{and-true}
use Rattle.std.proofs.lemmas.Bool.{true≢false}
use Rattle.std.specs.Prelude.{Option, Some, None, Result, Ok, Err, IfErr, IfOk, option_and_then, option_map, unwrap_or}
use Rattle.std.specs.List.{slice_get}
use Rattle.std.specs.Vec.{with_items}
use Rattle.std.proofs.lemmas.List.{with_items_is}
use Rattle.sl_defs.specs.declared.setup.Time.{Time}
use Rattle.sl_defs.specs.declared.note.Choice.{Choice}
use Rattle.sl_frames.specs.declared.frame.Frame.{Frame}
use Rattle.sl_model.specs.Volume.{Volume, flush, restart}
use Rattle.sl_model.specs.Perform.{perform}
use Rattle.sl_history.specs.Turns.{Remark, Sent, Did, Flush, Verf, Replied, Junk, Early, Full, Lost, Down, Turn, History, events, turn_of}
use Rattle.sl_history.specs.Arrivals.{Asked, IsAsked, answer_to, asked, asked_in}
use Rattle.sl_history.specs.Volumes.{volume_after, volume_at}
use Rattle.sl_history.specs.Legal as legal
use Rattle.sl_history.specs.Legal.{IsDrop, IsEffect, IsReply, IsReplyIf, MayNote, any_in, datagram_in, is_reply, no_choice}
use Rattle.sl_datagram.specs.Datagrams.{datagram_of}
use Rattle.sl_referee.specs.declared.case.Answer.{Answer}
use Rattle.sl_referee.specs.declared.case.Case.{Case}
use Rattle.sl_referee.specs.declared.docket.Docket.{Docket}
use Rattle.sl_referee.specs.declared.fault.RefereeFault.{RefereeFault}
use Rattle.sl_referee.specs.declared.fault.RefereeFault.TheVariants.{NoMemory, Spent, TooLong}
use Rattle.sl_referee.specs.Cases.{IsIdle, TakesEffect}
use Rattle.sl_history.specs.Deciding.{Says}
use Rattle.sl_referee.specs.Dockets.{IsDocketOf, IsDropOf, IsSetAt, with_drop, with_effect, with_reply}
use Rattle.sl_history.specs.Turns.{noted}
use Rattle.sl_referee.specs.Notes.{Notes, NotesDrop}
use Rattle.sl_referee.specs.Stops.{StopsAt, StopsAtIf, StopsBy}
use Rattle.sl_referee.proofs.Deciding.{asks_none, case_asks, case_asks_nothing, effect_first, is_idle, no_event, no_event_replied, past_end, takes_effect, took_effect, volume_there, was_idle}
use Rattle.sl_referee.proofs.Stepping.{effect_follows, new_drop_follows, old_drop_follows, quiet_follows, reply_follows}

false_is_not_true : {E P : Type 0} → ◌≡◌ {A = Result Bool E} (Ok false) (Ok true) → P
false_is_not_true e = absurd (true≢false (sym (same e)))
  where
    same : {E : Type 0} → ◌≡◌ {A = Result Bool E} (Ok false) (Ok true) → false ≡ true
    same e = cc

err_is_not_ok : {E P : Type 0} → (f : E) → ◌≡◌ {A = Result Bool E} (Err f) (Ok true) → P
err_is_not_ok {P = P} f e = absurd (none f e)
  where
    none : {E : Type 0} → (f : E) → ◌≡◌ {A = Result Bool E} (Err f) (Ok true) → ⊥
    none f e = cc

-- a note that may not stand
pub refused : (d d' : Docket) (now : Time) (r : Remark)
    → ((start : Volume) (t : Turn) (past : History) → IsDocketOf start (t ∷ past) d → MayNote start (t ∷ past) now r → ⊥) → Notes d d' now r (Ok false)
refused d d' now r never = record { decides = never; takes = λ e. false_is_not_true e; stopped = λ start t past is. tt }

-- performing stops
pub stopped_at : (d d' : Docket) (now : Time) (r : Remark) (f : RefereeFault)
    → ((start : Volume) (t : Turn) (past : History) → IsDocketOf start (t ∷ past) d → StopsBy f start (t ∷ past) now r) → Notes d d' now r (Err f)
stopped_at d d' now r f stops = record { decides = λ start t past is. tt; takes = λ e. err_is_not_ok f e; stopped = stops }

-- a note that may stand
pub taken : (d d' : Docket) (now : Time) (r : Remark)
    → ((start : Volume) (t : Turn) (past : History) → IsDocketOf start (t ∷ past) d → MayNote start (t ∷ past) now r)
    → ((start : Volume) (t : Turn) (past : History) → IsDocketOf start (t ∷ past) d → IsDocketOf start (noted (t ∷ past) r) d') → Notes d d' now r (Ok true)
taken d d' now r may then_is = record { decides = may; takes = λ e. then_is; stopped = λ start t past is. tt }

-- ---- effects

pub effect_of_none : (d d' : Docket) (now : Time) (n : ℕ) (at : Time) (choice : Choice) → slice_get d.cases.items n ≡ None → Notes d d' now (Did n at choice) (Ok false)
effect_of_none d d' now n at choice missing = refused d d' now (Did n at choice) (λ start t past is may.
    subst (λ (o : Option Asked). legal.IsEffectIf start (t ∷ past) now n at choice o) (asks_none (t ∷ past) n (no_event start (t ∷ past) d n is missing)) may)

pub effect_of_no_call : (d d' : Docket) (now : Time) (n : ℕ) (at : Time) (choice : Choice) (c : Case) → slice_get d.cases.items n ≡ Some c
    → option_and_then asked_in (option_map datagram_of c.datagram) ≡ None → Notes d d' now (Did n at choice) (Ok false)
effect_of_no_call d d' now n at choice c got none = refused d d' now (Did n at choice) (λ start t past is may.
    subst (λ (o : Option Asked). legal.IsEffectIf start (t ∷ past) now n at choice o) (case_asks_nothing start (t ∷ past) n c (is.cases n c got) none) may)

pub effect_refused : (d d' : Docket) (now : Time) (n : ℕ) (at : Time) (choice : Choice) (c : Case) (a : Asked) → slice_get d.cases.items n ≡ Some c
    → option_map datagram_of c.datagram ≡ Some (IsAsked a) → (TakesEffect c a d.volume now at choice → ⊥) → Notes d d' now (Did n at choice) (Ok false)
effect_refused d d' now n at choice c a got asks never = refused d d' now (Did n at choice) (λ start t past is may.
    never (took_effect start (t ∷ past) d now at n choice c a is got asks
    (subst (λ (o : Option Asked). legal.IsEffectIf start (t ∷ past) now n at choice o) (case_asks start (t ∷ past) n c a (is.cases n c got) asks) may)))

stops_here : (f : RefereeFault) (v w : Volume) (a : Asked) (o : Option Asked) (at : Time) (choice : Choice) → v ≡ w → o ≡ Some a → StopsAt f v a at choice
    → StopsAtIf f w o at choice
stops_here f v w a o at choice same asks stops =
    subst (λ (x : Option Asked). StopsAtIf f w x at choice) (sym asks) (subst (λ (u : Volume). StopsAt f u a at choice) same stops)

stops_effect : (f : RefereeFault) (start : Volume) (h : History) (now at : Time) (n : ℕ) (choice : Choice) → StopsAtIf f (volume_after start h) (asked h n) at choice
    → StopsBy f start h now (Did n at choice)
stops_effect NoMemory start h now at n choice stops = tt
stops_effect Spent start h now at n choice stops = stops
stops_effect TooLong start h now at n choice stops = stops

pub effect_stops : (d d' : Docket) (now : Time) (n : ℕ) (at : Time) (choice : Choice) (c : Case) (a : Asked) (f : RefereeFault) → slice_get d.cases.items n ≡ Some c
    → option_map datagram_of c.datagram ≡ Some (IsAsked a) → StopsAt f d.volume a at choice → Notes d d' now (Did n at choice) (Err f)
effect_stops d d' now n at choice c a f got asks stops = stopped_at d d' now (Did n at choice) f (λ start t past is.
    stops_effect f start (t ∷ past) now at n choice
    (stops_here f d.volume (volume_after start (t ∷ past)) a (asked (t ∷ past) n) at choice is.volume (case_asks start (t ∷ past) n c a (is.cases n c got) asks) stops))

pub newest_is : (start : Volume) (h : History) (d : Docket) (k : ℕ) → IsDocketOf start h d → k ≡ length d.cases.items - 1 → k ≡ events h
newest_is start h d k is e = let count = is.count in omega (arith, count, e)

pub effect_taken : (d d' : Docket) (now : Time) (n : ℕ) (at : Time) (choice : Choice) (c : Case) (a : Asked) (y : Answer) → slice_get d.cases.items n ≡ Some c
    → option_map datagram_of c.datagram ≡ Some (IsAsked a) → TakesEffect c a d.volume now at choice
    → IsSetAt d.cases.items d'.cases.items n (with_effect y) → y.event ≡ length d.cases.items - 1
    → y.bytes ≡ answer_to a (perform d.volume a.call a.cred at choice).1 → d'.volume ≡ (perform d.volume a.call a.cred at choice).0
    → d'.ends.items ≡ d.ends.items → d'.is_proxy_up ≡ d.is_proxy_up → d'.is_event ≡ d.is_event → Notes d d' now (Did n at choice) (Ok true)
effect_taken d d' now n at choice c a y got asks takes set event bytes volume ends up first = taken d d' now (Did n at choice)
    (λ start t past is.
    subst (λ (o : Option Asked). legal.IsEffectIf start (t ∷ past) now n at choice o) (sym (case_asks start (t ∷ past) n c a (is.cases n c got) asks))
    (takes_effect start (t ∷ past) d now at n choice c a is got asks takes))
    (λ start t past is.
    effect_follows start t past d d' n at choice c a y is got (case_asks start (t ∷ past) n c a (is.cases n c got) asks)
    (effect_first start (t ∷ past) n c (is.cases n c got) takes.begins.first) set (newest_is start (t ∷ past) d y.event is event) bytes volume ends up first)

-- ---- replies

pub reply_of_none : (d d' : Docket) (now : Time) (n e : ℕ) (bytes : List ℕ) → slice_get d.cases.items n ≡ None → Notes d d' now (Replied n e bytes) (Ok false)
reply_of_none d d' now n e bytes missing = refused d d' now (Replied n e bytes) (λ start t past is may.
    no_event_replied start (t ∷ past) d now n e bytes is missing may.is)

pub second_reply : (d d' : Docket) (now : Time) (n e : ℕ) (bytes : List ℕ) (c : Case) → slice_get d.cases.items n ≡ Some c → c.replied ≡ true
    → Notes d d' now (Replied n e bytes) (Ok false)
second_reply d d' now n e bytes c got again = refused d d' now (Replied n e bytes) (λ start t past is may.
    true≢false (sym again ∙ (is.cases n c got).replied ∙ may.first))

pub wrong_reply : (d d' : Docket) (now : Time) (n e : ℕ) (bytes : List ℕ)
    → ((start : Volume) (h : History) → IsDocketOf start h d → IsReplyIf start h now n e bytes (datagram_in (turn_of h n)) → ⊥)
    → Notes d d' now (Replied n e bytes) (Ok false)
wrong_reply d d' now n e bytes wrong = refused d d' now (Replied n e bytes) (λ start t past is may. wrong start (t ∷ past) is may.is)

pub right_reply : (d d' : Docket) (now : Time) (n e : ℕ) (bytes : List ℕ) (c : Case) → slice_get d.cases.items n ≡ Some c → c.replied ≡ false
    → ((start : Volume) (h : History) → IsDocketOf start h d → IsReplyIf start h now n e bytes (datagram_in (turn_of h n)))
    → IsSetAt d.cases.items d'.cases.items n with_reply
    → d'.volume ≡ d.volume → d'.ends.items ≡ d.ends.items → d'.is_proxy_up ≡ d.is_proxy_up → d'.is_event ≡ d.is_event
    → Notes d d' now (Replied n e bytes) (Ok true)
right_reply d d' now n e bytes c got first right set volume ends up event = taken d d' now (Replied n e bytes)
    (λ start t past is. record { first = sym (is.cases n c got).replied ∙ first; is = right start (t ∷ past) is })
    (λ start t past is. reply_follows start t past d d' n e bytes c is got set volume ends up event)

stops_reply : (f : RefereeFault) (start : Volume) (h : History) (now : Time) (n e : ℕ) (bytes : List ℕ) → StopsAtIf f (volume_at start h e) (asked h n) now no_choice
    → StopsBy f start h now (Replied n e bytes)
stops_reply NoMemory start h now n e bytes stops = tt
stops_reply Spent start h now n e bytes stops = stops
stops_reply TooLong start h now n e bytes stops = stops

pub reply_stops : (d : Docket) (now : Time) (n e : ℕ) (bytes : List ℕ) (c : Case) (a : Asked) (v : Volume) (f : RefereeFault) (start : Volume) (h : History)
    → IsDocketOf start h d → slice_get d.cases.items n ≡ Some c → option_map datagram_of c.datagram ≡ Some (IsAsked a)
    → v ≡ unwrap_or (slice_get d.ends.items e) d.volume → StopsAt f v a now no_choice → StopsBy f start h now (Replied n e bytes)
reply_stops d now n e bytes c a v f start h is got asks same stops =
    stops_reply f start h now n e bytes
    (stops_here f v (volume_at start h e) a (asked h n) now no_choice (same ∙ volume_there start h d e is) (case_asks start h n c a (is.cases n c got) asks) stops)

-- ---- drops

pub busy : (d d' : Docket) (n : ℕ) → (IsIdle (slice_get d.cases.items n) → ⊥) → NotesDrop d d' n false
busy d d' n never = record {
  decides = λ start h is. (λ e. absurd (true≢false (sym e)), λ drop. absurd (never (was_idle start h d n is drop)));
  takes = λ e. absurd (true≢false (sym e));
}

pub old_drop : (d : Docket) (n : ℕ) → IsIdle (slice_get d.cases.items n) → (d.is_event ≡ true → n ≡ length d.cases.items - 1 → ⊥) → NotesDrop d d n true
old_drop d n idle other = record {
  decides = λ start h is. (λ e. is_idle start h d n is idle, λ drop. refl);
  takes = λ e r drop start t past is. old_drop_follows start t past d n r drop is (not_newest d n start (t ∷ past) is other);
}
  where
    not_newest : (d : Docket) (n : ℕ) (start : Volume) (h : History) → IsDocketOf start h d → (d.is_event ≡ true → n ≡ length d.cases.items - 1 → ⊥)
        → d.is_event ≡ true → n ≡ events h → ⊥
    not_newest d n start h is other event newest =
        let count = is.count in
        let same : n ≡ length d.cases.items - 1 = omega (arith, count, newest) in
        other event same

the_case : (start : Volume) (h : History) (d : Docket) (n : ℕ) → IsDocketOf start h d → n ≡ length d.cases.items - 1 → (c : Case) × (slice_get d.cases.items n ≡ Some c)
the_case start h d n is newest = by_case (slice_get d.cases.items n) refl
  where
    by_case : (o : Option Case) → slice_get d.cases.items n ≡ o → (c : Case) × (slice_get d.cases.items n ≡ Some c)
    by_case None e =
        let long = past_end d.cases.items n e in
        let count = is.count in
        absurd (omega (arith, long, count, newest))
    by_case (Some c) e = (c, e)

pub new_drop : (d d' : Docket) (n : ℕ) → IsIdle (slice_get d.cases.items n) → d.is_event ≡ true → n ≡ length d.cases.items - 1
    → IsSetAt d.cases.items d'.cases.items n with_drop
    → d'.volume ≡ d.volume → d'.ends.items ≡ d.ends.items → d'.is_proxy_up ≡ d.is_proxy_up → d'.is_event ≡ d.is_event → NotesDrop d d' n true
new_drop d d' n idle event newest set volume ends up first = record {
  decides = λ start h is. (λ e. is_idle start h d n is idle, λ drop. refl);
  takes = λ e r drop start t past is.
      let found = the_case start (t ∷ past) d n is newest in
      new_drop_follows start t past d d' n r found.0 drop is event (newest_is start (t ∷ past) d n is newest) found.1 set volume ends up first;
}

pub set_in : (d : Docket) (here new : List Case) (n : ℕ) (f : Case → Case) → here ≡ d.cases.items → IsSetAt here new n f
    → IsSetAt d.cases.items (with_items d.cases new).items n f
set_in d here new n f same is =
    let set : IsSetAt d.cases.items new n f = subst (λ (cs : List Case). IsSetAt cs new n f) same is in
    subst (λ (cs : List Case). IsSetAt d.cases.items cs n f) (sym (with_items_is d.cases new (set.count ∙ sym d.cases.ok.0))) set

ok_true : (b : Bool) → ◌≡◌ {A = Result Bool RefereeFault} (Ok b) (Ok true) → b ≡ true
ok_true b e = cc

says_drop : {P : Type 0} → (b : Bool) → ((b ≡ true) ↔ P) → Says {E = RefereeFault} (Ok b) P
says_drop true both = both.0 refl
says_drop false both = λ p. true≢false (sym (both.1 p))

dropped : (d d' : Docket) (now : Time) (n : ℕ) (r : Remark) (b : Bool) → IsDropOf n r → ((start : Volume) (h : History) → Says {E = RefereeFault} (Ok b) (IsDrop h n) → Says {E = RefereeFault} (Ok b) (MayNote start h now r))
    → NotesDrop d d' n b → Notes d d' now r (Ok b)
dropped d d' now n r b drop may notes = record {
  decides = λ start t past is. may start (t ∷ past) (says_drop b (notes.decides start (t ∷ past) is));
  takes = λ e. notes.takes (ok_true b e) r drop;
  stopped = λ start t past is. tt;
}

pub junk : (d d' : Docket) (now : Time) (n : ℕ) (b : Bool) → NotesDrop d d' n b → Notes d d' now (Junk n) (Ok b)
junk d d' now n b notes = dropped d d' now n (Junk n) b
    (record { drops = λ m. refl; undone = λ m. refl; unanswered = λ m. refl; keeps = λ h v. refl; up = refl }) (λ start h says. says) notes

pub early : (d d' : Docket) (now : Time) (n : ℕ) (b : Bool) → NotesDrop d d' n b → Notes d d' now (Early n) (Ok b)
early d d' now n b notes = dropped d d' now n (Early n) b
    (record { drops = λ m. refl; undone = λ m. refl; unanswered = λ m. refl; keeps = λ h v. refl; up = refl }) (λ start h says. says) notes

pub full : (d d' : Docket) (now : Time) (n : ℕ) (b : Bool) → NotesDrop d d' n b → Notes d d' now (Full n) (Ok b)
full d d' now n b notes = dropped d d' now n (Full n) b
    (record { drops = λ m. refl; undone = λ m. refl; unanswered = λ m. refl; keeps = λ h v. refl; up = refl }) (λ start h says. says) notes

pub lost : (d d' : Docket) (now : Time) (n : ℕ) (b : Bool) → NotesDrop d d' n b → Notes d d' now (Lost n) (Ok b)
lost d d' now n b notes = dropped d d' now n (Lost n) b
    (record { drops = λ m. refl; undone = λ m. refl; unanswered = λ m. refl; keeps = λ h v. refl; up = refl }) (λ start h says. says) notes

-- ---- the other notes

pub sent : (d : Docket) (now : Time) (k : ℕ) (f : Frame) → Notes d d now (Sent k f) (Ok true)
sent d now k f = taken d d now (Sent k f) (λ start t past is. tt) (λ start t past is.
    quiet_follows start t past (Sent k f) d d is (record { undone = λ n. refl; unanswered = λ n. refl; free = λ n e. refl })
    refl refl refl (sym (and-true d.is_proxy_up)) refl)

pub flushed : (d d' : Docket) (now : Time) (f : ℕ) → d' ≡ record d { volume = flush f d.volume } → Notes d d' now (Flush f) (Ok true)
flushed d d' now f same = taken d d' now (Flush f) (λ start t past is. tt) (λ start t past is.
    subst (λ (x : Docket). IsDocketOf start (noted (t ∷ past) (Flush f)) x) (sym same)
    (quiet_follows start t past (Flush f) d (record d { volume = flush f d.volume }) is (record { undone = λ n. refl; unanswered = λ n. refl; free = λ n e. refl })
    refl refl refl (sym (and-true d.is_proxy_up)) refl))

pub verified : (d d' : Docket) (now : Time) (x : ℕ) → d'.cases.items ≡ d.cases.items → d'.volume ≡ restart x d.volume → d'.ends.items ≡ d.ends.items
    → d'.is_proxy_up ≡ d.is_proxy_up → d'.is_event ≡ d.is_event → Notes d d' now (Verf x) (Ok true)
verified d d' now x cases volume ends up event = taken d d' now (Verf x) (λ start t past is. tt) (λ start t past is.
    quiet_follows start t past (Verf x) d d' is (record { undone = λ n. refl; unanswered = λ n. refl; free = λ n e. refl })
    cases volume ends (up ∙ sym (and-true d.is_proxy_up)) event)

pub down : (d d' : Docket) (now : Time) (a : ℕ) → d'.cases.items ≡ d.cases.items → d'.volume ≡ d.volume → d'.ends.items ≡ d.ends.items
    → d'.is_proxy_up ≡ (d.is_proxy_up && not (eqb 0 a)) → d'.is_event ≡ d.is_event → Notes d d' now (Down a) (Ok true)
down d d' now a cases volume ends up event = taken d d' now (Down a) (λ start t past is. tt) (λ start t past is.
    quiet_follows start t past (Down a) d d' is (record { undone = λ n. refl; unanswered = λ n. refl; free = λ n e. refl })
    cases volume ends up event)

-- the fault, as a function hands it on
pub handed_on : (d d' : Docket) (now : Time) (x : Remark) (r : Result Bool RefereeFault) (f g : RefereeFault) → r ≡ Err g → g ≡ f → Notes d d' now x (Err f) → Notes d d' now x r
handed_on d d' now x r f g made same notes =
    subst (λ (y : Result Bool RefereeFault). Notes d d' now x y) (sym made) (subst (λ (y : RefereeFault). Notes d d' now x (Err y)) (sym same) notes)

-- a file is flushed, or memory runs out
pub flush_notes : (d d' : Docket) (now : Time) (f : ℕ) (r : Result Bool RefereeFault) → IfOk r (λ b. (b ≡ true) × (d' ≡ record d { volume = flush f d.volume }))
    → IfErr r (λ fault. fault ≡ NoMemory) → Notes d d' now (Flush f) r
flush_notes d d' now f (Ok b) done stopped =
    subst (λ (x : Bool). Notes d d' now (Flush f) (Ok x)) (sym done.0) (flushed d d' now f done.1)
flush_notes d d' now f (Err fault) done stopped =
    stopped_at d d' now (Flush f) fault (λ start t past is. subst (λ (x : RefereeFault). StopsBy x start (t ∷ past) now (Flush f)) (sym stopped) tt)
