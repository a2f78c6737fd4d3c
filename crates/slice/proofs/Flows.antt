-- Flows, frame by frame.
use Rattle.std.proofs.Common.{◌≡◌, ℕ, ◌+◌, ◌<◌, List, [], ◌∷◌, ◌++◌, Option, Some, None, Bool, false, true≢false, refl, sym, ap, subst, ◌∙◌, arith}
use Rattle.std.proofs.lemmas.List.{append-nil}
use Rattle.std.specs.Io.KnownBytes.{Appends}
use Rattle.sl_defs.specs.Histories.{Happens, history_text}
use Rattle.sl_defs.specs.declared.event.Event.TheVariants as event
use Rattle.sl_defs.specs.declared.event.Line.TheVariants as line
use Rattle.sl_history.specs.Turns.{Turn, History}
use Rattle.sl_history.specs.Frames.{in_flight}
use Rattle.sl_world.specs.declared.world.World.{World}
use Rattle.sl_world.specs.Flights.{IsOldest}
use Rattle.slice.specs.Outside.{TookFront}
use Rattle.slice.specs.Schedule.{GiveOldest, IsOldestIn, IsSpentAfter}
use Rattle.slice.specs.Replays.{IsHistory, Stood, Passes, Stops, Flowing, text_of}
use Rattle.slice.specs.declared.status.Stop.{Stop}
use Rattle.slice.specs.declared.status.Stop.TheVariants as stop
use Rattle.slice.proofs.Texts.{no_text}
use Rattle.slice.proofs.Histories.{is_of}
use Rattle.slice.proofs.Oldest.{oldest_in, none_in}
use Rattle.slice.proofs.Events.{unwritten}
use Rattle.slice.proofs.Steps.{appends_then, front_then}

pub flow_begins : (past : History) (v : World) (known : Option (List ℕ)) → Stood v past → Flowing past 0 v known known
flow_begins past v known s = record { turns = []; give = tt; count = refl; stood = s; took = unwritten known }

-- the text of one turn more
text_then : (t : Turn) (turns : History) → text_of turns ++ text_of (t ∷ []) ≡ text_of (t ∷ turns)
unfolding history_text
text_then t turns = refl

abbrev flying_in : History → Option ℕ → Bool
flying_in h None = false
flying_in h (Some k) = in_flight h k

module _ (past : History) (n k : ℕ) (v : World) (old now : Option (List ℕ)) (so : Flowing past n v old now) (oldest : IsOldest v.flight (Some k)) where
  here : IsOldestIn (so.turns ++ past) k
  here = oldest_in v (so.turns ++ past) k so.stood.follows oldest

  gives_more : (t : Turn) → t.happening ≡ Happens (event.Give k) → GiveOldest past (t ∷ so.turns)
  gives_more t is = (so.give, k, is, here)

  -- one frame more is given
  pub flow_goes_on : (w : World) (new : Option (List ℕ)) → Passes (line.Happens (event.Give k)) (so.turns ++ past) w now new → Flowing past (n + 1) w old new
  flow_goes_on w new p =
      let t = p.makes.0 in
      record {
        turns = t ∷ so.turns;
        give = gives_more t p.makes.2;
        count = omega (arith, so.count);
        stood = subst (λ (ts : History). Stood w (ts ++ (so.turns ++ past))) p.makes.1 p.stood;
        took = subst (Appends old new) (text_then t so.turns) (appends_then old now new (text_of so.turns) (text_of (t ∷ [])) so.took (subst (λ (ts : History). Appends now new (text_of ts)) p.makes.1 p.took));
      }

  unfinished : (new : Option (List ℕ)) (turns : History) → turns ≡ [] → Appends now new (text_of turns) → Appends old new (text_of so.turns)
  unfinished new turns e took =
      subst (Appends old new) (append-nil (text_of so.turns)) (appends_then old now new (text_of so.turns) [] so.took (subst (Appends now new) (ap text_of e ∙ no_text) took))

  -- or the flow stops there
  pub flow_stops : (most : ℕ) → n < most → (why : Stop) (new : Option (List ℕ)) → Stops why (line.Happens (event.Give k)) (so.turns ++ past) now new → Stops why (line.Flow most) past old new
  flow_stops most lt stop.WriteFault new s =
      let t = s.because.0 in
      record {
        turns = t ∷ so.turns;
        because = (gives_more t s.because.2, omega (arith, so.count, lt));
        is = subst (λ (ts : History). IsHistory (ts ++ (so.turns ++ past))) s.because.1 s.is;
        took = subst (TookFront old new) (text_then t so.turns) (front_then old now new (text_of so.turns) (text_of (t ∷ [])) so.took (subst (λ (ts : History). TookFront now new (text_of ts)) s.because.1 s.took));
      }
  flow_stops most lt stop.Bad new s =
      let unknown = s.because.1 in
      let same : ◌≡◌ {A = Option ℕ} (Some k) (Some unknown.0) = unknown.1 in
      let flies = here.flies in
      let absent = unknown.2 in
      absurd (true≢false (sym flies ∙ ap (flying_in (so.turns ++ past)) same ∙ absent))
  flow_stops most lt stop.Unbuilt new s = record {
    turns = so.turns;
    because = ((so.give, omega (arith, so.count, lt)), (k, here, s.because.1));
    is = is_of v (so.turns ++ past) so.stood;
    took = unfinished new s.turns s.because.0 s.took;
  }
  flow_stops most lt stop.Spent new s = record {
    turns = so.turns;
    because = ((so.give, omega (arith, so.count, lt)), subst (λ (ts : History). IsSpentAfter (ts ++ (so.turns ++ past))) s.because.0 s.because.1);
    is = is_of v (so.turns ++ past) so.stood;
    took = unfinished new s.turns s.because.0 s.took;
  }
  flow_stops most lt stop.NoMemory new s = record {
    turns = so.turns;
    because = (so.give, omega (arith, so.count, lt));
    is = is_of v (so.turns ++ past) so.stood;
    took = unfinished new s.turns s.because s.took;
  }

-- nothing is in flight any more
pub flow_is_still : (past : History) (n most : ℕ) (v : World) (old now : Option (List ℕ)) → Flowing past n v old now → n < most → IsOldest v.flight None → Passes (line.Flow most) past v old now
flow_is_still past n most v old now so lt none = record {
  turns = so.turns;
  makes = record { give = so.give; few = omega (arith, so.count, lt); still = λ _. none_in v (so.turns ++ past) so.stood.follows none };
  stood = so.stood;
  took = so.took;
}

-- so many were given
pub flow_is_full : (past : History) (n most : ℕ) (v : World) (old now : Option (List ℕ)) → Flowing past n v old now → n ≡ most → Passes (line.Flow most) past v old now
flow_is_full past n most v old now so e = record {
  turns = so.turns;
  makes = record { give = so.give; few = omega (arith, so.count, e); still = λ lt. absurd (omega (arith, so.count, e, lt)) };
  stood = so.stood;
  took = so.took;
}
