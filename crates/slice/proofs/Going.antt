-- How a run goes on from line to line.
use Rattle.std.proofs.Common.{◌≡◌, ℕ, ◌+◌, List, [], ◌∷◌, ◌++◌, length, Option, Some, None, Result, Ok, Err, refl, sym, ap, subst, ◌∙◌, append_assoc, arith, inl, inr}
use Rattle.std.specs.Borrow.{Bor}
use Rattle.std.specs.List.{slice_split}
use Rattle.std.specs.Io.KnownBytes.{Appends}
use Rattle.std.proofs.lemmas.List.{append-nil}
use Rattle.sl_defs.specs.Schedules.{line_text, FitsLine, IsLine}
use Rattle.sl_defs.specs.declared.event.Line.{Line}
use Rattle.sl_defs.specs.declared.event.Line.TheVariants as line
use Rattle.sl_defs.specs.declared.setup.Time.{Time}
use Rattle.sl_defs.specs.declared.setup.Setup.{Setup}
use Rattle.sl_history.specs.Turns.{History}
use Rattle.sl_past.specs.Transcripts.{volume_of}
use Rattle.sl_world.specs.declared.world.World.{World}
use Rattle.slice.specs.Outside.{TookFront}
use Rattle.slice.specs.Schedule.{lines, lines_left, is_end, Makes, Spells, SpellsNone, SpellsUnknown}
use Rattle.slice.specs.Replays.{Passage, ArePassages, history_of, texts_of, StopsAt, Performs, IsHistory, Stood, Passes, PassesText, Stops, StopsText, LineDone, TextDone, OpeningDone, FirstDone, Sofar, WhyOf, text_of, status_at}
use Rattle.slice.specs.declared.status.Status.TheVariants as status
use Rattle.slice.specs.declared.status.Stop.{Stop}
use Rattle.slice.specs.declared.status.Stop.TheVariants as stop
use Rattle.slice.proofs.Texts.{text_more}
use Rattle.slice.proofs.Histories.{GetattrLaws, is_of, answers, claimed}
use Rattle.slice.proofs.Events.{unwritten}
use Rattle.slice.proofs.Steps.{appends_then, front_then}

-- ---- the line that a text spells

module _ (l : Line) (text : List ℕ) (past : History) (spelled : text ≡ line_text l) (place : IsLine (volume_of past) l) where
  spells : (P : Line → Type 0) → P l → Spells past text P
  spells P holds = record { spelled_line = l; spelled = spelled; in_place = place; holds = holds }

  pub text_passes : (v : World) (old new : Option (List ℕ)) → Passes l past v old new → PassesText text past v old new
  text_passes v old new p = record { turns = p.turns; spells = spells (λ x. Makes x past p.turns) p.makes; stood = p.stood; took = p.took }

  pub text_stops : (why : Stop) (old new : Option (List ℕ)) → Stops why l past old new → StopsText why text past old new
  text_stops stop.WriteFault old new s = record { turns = s.turns; because = spells (λ x. WhyOf stop.WriteFault x past s.turns) s.because; is = s.is; took = s.took }
  text_stops stop.Bad old new s = record { turns = s.turns; because = (s.because.0, SpellsUnknown (spells _ s.because.1)); is = s.is; took = s.took }
  text_stops stop.Unbuilt old new s = record { turns = s.turns; because = spells (λ x. WhyOf stop.Unbuilt x past s.turns) s.because; is = s.is; took = s.took }
  text_stops stop.Spent old new s = record { turns = s.turns; because = spells (λ x. WhyOf stop.Spent x past s.turns) s.because; is = s.is; took = s.took }
  text_stops stop.NoMemory old new s = record { turns = s.turns; because = inr (spells (λ x. WhyOf stop.NoMemory x past s.turns) s.because); is = s.is; took = s.took }

  pub text_done : (r : Result Unit Stop) (v : World) (old new : Option (List ℕ)) → LineDone r l past v old new → TextDone r text past v old new
  text_done (Ok done) v old new p = text_passes v old new p
  text_done (Err why) v old new s = text_stops why old new s

-- the first line is the volume's
pub first_done : (setup : Setup) (text : List ℕ) → text ≡ line_text (line.Volume setup) → IsLine None (line.Volume setup) → (r : Result World Stop) (old new : Option (List ℕ))
    → OpeningDone r setup old new → FirstDone r text old new
first_done setup text spelled place (Ok v) old new p = text_passes (line.Volume setup) text [] spelled place v old new p
first_done setup text spelled place (Err why) old new s = text_stops (line.Volume setup) text [] spelled place why old new s

-- a remark is passed over
pub remark_passes : (bytes text : List ℕ) (past : History) (v : World) (known : Option (List ℕ)) → text ≡ line_text (line.Remark bytes) → IsLine (volume_of past) (line.Remark bytes) → Stood v past
    → PassesText text past v known known
remark_passes bytes text past v known spelled place s = text_passes (line.Remark bytes) text past spelled place v known known (record { turns = []; makes = refl; stood = s; took = unwritten known })

-- no moment is set yet
pub moment_stops : (at : Time) (text : List ℕ) (past : History) (v : World) (known : Option (List ℕ)) → text ≡ line_text (line.At at) → IsLine (volume_of past) (line.At at) → Stood v past
    → StopsText stop.Unbuilt text past known known
moment_stops at text past v known spelled place s =
    text_stops (line.At at) text past spelled place stop.Unbuilt known known (record { turns = []; because = (refl, tt); is = is_of v past s; took = unwritten known })

-- the text spells no line there
pub bad_stops : (text : List ℕ) (past : History) (known : Option (List ℕ)) → ((l : Line) → FitsLine l → IsLine (volume_of past) l → text ≡ line_text l → ⊥) → IsHistory past
    → StopsText stop.Bad text past known known
bad_stops text past known none is = record { turns = []; because = (refl, SpellsNone none); is = is; took = unwritten known }

-- the text wasn't read
pub unread_stops : (text : List ℕ) (past : History) (known : Option (List ℕ)) → IsHistory past → StopsText stop.NoMemory text past known known
unread_stops text past known is = record { turns = []; because = inl refl; is = is; took = unwritten known }

-- a line in its place, where the volume is known
pub placed : (v : World) (past : History) (l : Line) → Stood v past → IsLine (Some v.proxy.setup) l → IsLine (volume_of past) l
placed v past l s place = subst (λ (o : Option Setup). IsLine o l) (sym s.volume) place

pub unplaced : (v : World) (past : History) (l : Line) → Stood v past → IsLine (volume_of past) l → IsLine (Some v.proxy.setup) l
unplaced v past l s place = subst (λ (o : Option Setup). IsLine o l) s.volume place

-- ---- from line to line

pub begins : (source text : List ℕ) (left : List (List ℕ)) (v : World) (old new : Option (List ℕ)) → lines source ≡ text ∷ left → PassesText text [] v old new → Sofar source v left 2 old new
begins source text left v old new e p = record {
  passed = record { text = text; turns = p.turns } ∷ [];
  passages = (tt, p.spells);
  lines_are = e;
  number = refl;
  stood = p.stood;
  took = subst (λ (ts : History). Appends old new (text_of ts)) (sym (append-nil p.turns)) p.took;
}

module _ (source text : List ℕ) (left : List (List ℕ)) (passed : List Passage) (passages : ArePassages passed) (lines_are : lines source ≡ texts_of passed ++ text ∷ left)
    (k : ℕ) (number : k ≡ length passed + 1) (old now new : Option (List ℕ)) (took : Appends old now (text_of (history_of passed))) where
  took_more : (turns : History) → Appends now new (text_of turns) → Appends old new (text_of (turns ++ history_of passed))
  took_more turns more = subst (Appends old new) (sym (text_more turns (history_of passed))) (appends_then old now new (text_of (history_of passed)) (text_of turns) took more)

  front_more : (turns : History) → TookFront now new (text_of turns) → TookFront old new (text_of (turns ++ history_of passed))
  front_more turns more = subst (TookFront old new) (sym (text_more turns (history_of passed))) (front_then old now new (text_of (history_of passed)) (text_of turns) took more)

  pub goes_on : (w : World) → PassesText text (history_of passed) w now new → Sofar source w left (k + 1) old new
  goes_on w p = record {
    passed = record { text = text; turns = p.turns } ∷ passed;
    passages = (passages, p.spells);
    lines_are = lines_are ∙ sym (append_assoc (texts_of passed) (text ∷ []) left);
    number = omega (arith, number);
    stood = p.stood;
    took = took_more p.turns p.took;
  }

  stops_at : (why : Stop) (s : StopsText why text (history_of passed) now new) → StopsAt why source (s.turns ++ history_of passed) k
  stops_at why s = record {
    passed = passed;
    passages = passages;
    text = text;
    rest = left;
    lines_are = lines_are;
    number = number;
    turns = s.turns;
    because = s.because;
    history_is = refl;
  }

  pub stops_here : GetattrLaws → (why : Stop) → StopsText why text (history_of passed) now new → Performs (status_at why k) source old new
  stops_here laws stop.WriteFault s = record {
    history = s.turns ++ history_of passed;
    is = s.is;
    answers = answers (s.turns ++ history_of passed) s.is;
    claimed = claimed laws (s.turns ++ history_of passed) s.is;
    ends = (k, stops_at stop.WriteFault s);
    took = front_more s.turns s.took;
  }
  stops_here laws stop.Bad s = record {
    history = s.turns ++ history_of passed;
    is = s.is;
    answers = answers (s.turns ++ history_of passed) s.is;
    claimed = claimed laws (s.turns ++ history_of passed) s.is;
    ends = stops_at stop.Bad s;
    took = took_more s.turns s.took;
  }
  stops_here laws stop.Unbuilt s = record {
    history = s.turns ++ history_of passed;
    is = s.is;
    answers = answers (s.turns ++ history_of passed) s.is;
    claimed = claimed laws (s.turns ++ history_of passed) s.is;
    ends = stops_at stop.Unbuilt s;
    took = took_more s.turns s.took;
  }
  stops_here laws stop.Spent s = record {
    history = s.turns ++ history_of passed;
    is = s.is;
    answers = answers (s.turns ++ history_of passed) s.is;
    claimed = claimed laws (s.turns ++ history_of passed) s.is;
    ends = (k, stops_at stop.Spent s);
    took = took_more s.turns s.took;
  }
  stops_here laws stop.NoMemory s = record {
    history = s.turns ++ history_of passed;
    is = s.is;
    answers = answers (s.turns ++ history_of passed) s.is;
    claimed = claimed laws (s.turns ++ history_of passed) s.is;
    ends = (k, stops_at stop.NoMemory s);
    took = took_more s.turns s.took;
  }

pub stops_first : GetattrLaws → (why : Stop) (source text : List ℕ) (left : List (List ℕ)) (old new : Option (List ℕ)) → lines source ≡ text ∷ left → StopsText why text [] old new → Performs (status_at why 1) source old new
stops_first laws why source text left old new e s = stops_here source text left [] tt e 1 refl old old new (unwritten old) laws why s

pub ends_here : GetattrLaws → (source : List ℕ) (v : World) (k : ℕ) (old now : Option (List ℕ)) → Sofar source v [] k old now → Performs status.Done source old now
ends_here laws source v k old now so = record {
  history = history_of so.passed;
  is = is_of v (history_of so.passed) so.stood;
  answers = answers (history_of so.passed) (is_of v (history_of so.passed) so.stood);
  claimed = claimed laws (history_of so.passed) (is_of v (history_of so.passed) so.stood);
  ends = record { passed = so.passed; passages = so.passages; lines_are = so.lines_are ∙ append-nil (texts_of so.passed); history_is = refl };
  took = so.took;
}

pub next_line : (source : List ℕ) (v : World) (o after : Option (Bor (List ℕ))) (text : Bor (List ℕ)) (this : List ℕ) (k : ℕ) (old now : Option (List ℕ))
    → o ≡ Some text → slice_split is_end text.now ≡ this ∷ lines_left after → Sofar source v (lines_left o) k old now → Sofar source v (this ∷ lines_left after) k old now
next_line source v o after text this k old now e h so = subst (λ (left : List (List ℕ)). Sofar source v left k old now) (ap lines_left e ∙ h) so

-- no line is left where none stands behind the last one
pub nothing_left : (o : Option (Bor (List ℕ))) → ((text : Bor (List ℕ)) → o ≡ Some text → ⊥) → lines_left o ≡ []
nothing_left None none = refl
nothing_left (Some text) none = absurd (none text refl)
