-- Events that are performed, and why one is not.
use Rattle.std.proofs.Common.{◌≡◌, ℕ, List, [], ◌∷◌, ◌++◌, Option, Some, Result, Ok, Err, refl, sym, ap, subst, ◌∙◌}
use Rattle.std.specs.Prelude.{MatchResult}
use Rattle.std.specs.Io.KnownBytes.{Appends, Keeps}
use Rattle.sl_defs.specs.Schedules.{line_text}
use Rattle.sl_defs.specs.Histories.{ended}
use Rattle.sl_defs.specs.declared.setup.Setup.{Setup}
use Rattle.sl_defs.specs.declared.event.Event.{Event}
use Rattle.sl_defs.specs.declared.event.Line.TheVariants as line
use Rattle.sl_history.specs.Turns.{Remark, History}
use Rattle.sl_past.specs.Transcripts.{remarks_text}
use Rattle.sl_world.specs.declared.world.World.{World}
use Rattle.sl_world.specs.declared.world.WorldFault.{WorldFault}
use Rattle.sl_world.specs.declared.world.WorldFault.TheVariants as fault
use Rattle.sl_world.specs.Worlds.{Follows, GoesOn, GivesEvent, GivesOpening, opening, turn}
use Rattle.slice.specs.Outside.{TookFront}
use Rattle.slice.specs.Schedule.{Refused, Unprinted, NotSmall, UnprintedOpening}
use Rattle.slice.specs.Replays.{Stood, Passes, Stops, LineDone, TurnStops, WroteTurn, text_of, stop_by}
use Rattle.slice.specs.declared.status.Stop.{Stop}
use Rattle.slice.specs.declared.status.Stop.TheVariants as stop
use Rattle.slice.proofs.Texts.{turn_is, no_text}
use Rattle.slice.proofs.Histories.{is_of, stood_more}
use Rattle.slice.proofs.Oldest.{not_in}
use Rattle.slice.proofs.Steps.{appends_none, appends_kept}

-- what was kept is the text of no turn
pub kept : (old new : Option (List ℕ)) → Keeps old new → Appends old new (text_of [])
kept old new keeps = subst (Appends old new) (sym no_text) (appends_kept old old new [] (appends_none old) keeps)

-- nothing was written of it
pub unwritten : (known : Option (List ℕ)) → Appends known known (text_of [])
unwritten known = subst (Appends known known) (sym no_text) (appends_none known)

module _ (v w : World) (e : Event) (text : List ℕ) (remarks : List Remark) (past : History) (spelled : text ≡ line_text (line.Happens e)) (goes : GoesOn v w e remarks)
    (follows : (h : History) → Follows v h → Follows w (turn v e remarks ∷ h)) (s : Stood v past) where
  pub event_passes : (old new : Option (List ℕ)) → Appends old new (ended text ++ remarks_text remarks) → Passes (line.Happens e) past w old new
  event_passes old new wrote = record {
    turns = turn v e remarks ∷ [];
    makes = (turn v e remarks, refl, refl);
    stood = stood_more v w e remarks past goes follows s;
    took = subst (Appends old new) (turn_is text (turn v e remarks) spelled) wrote;
  }

  pub event_stops : (why : Stop) (old new : Option (List ℕ)) → TurnStops why text remarks old new → Stops why (line.Happens e) past old new
  event_stops stop.WriteFault old new front = record {
    turns = turn v e remarks ∷ [];
    because = (turn v e remarks, refl, refl);
    is = (w, stood_more v w e remarks past goes follows s);
    took = subst (TookFront old new) (turn_is text (turn v e remarks) spelled) front;
  }
  event_stops stop.Bad old new h = absurd h
  event_stops stop.Unbuilt old new h = record {
    turns = [];
    because = (refl, Unprinted (turn v e remarks) refl (record { world = w; follows = follows past s.follows; unprinted = h.0 }));
    is = is_of v past s;
    took = kept old new h.1;
  }
  event_stops stop.Spent old new h = absurd h
  event_stops stop.NoMemory old new keeps = record { turns = []; because = refl; is = is_of v past s; took = kept old new keeps }

  pub event_done : (r : Result Unit Stop) (old new : Option (List ℕ)) → WroteTurn r text remarks old new → LineDone r (line.Happens e) past w old new
  event_done (Ok done) old new wrote = event_passes old new wrote
  event_done (Err why) old new h = event_stops why old new h

-- the world didn't perform it
pub fault_stops : (why : WorldFault) (v w : World) (e : Event) (past : History) (known : Option (List ℕ)) → Stood v past → GivesEvent v w e (Err why) → Stops (stop_by why) (line.Happens e) past known known
fault_stops (fault.UnknownFrame k) v w e past known s h = record {
  turns = [];
  because = (refl, (k, h.0, not_in v past k s.follows h.1));
  is = is_of v past s;
  took = unwritten known;
}
fault_stops fault.NotBuilt v w e past known s h = record {
  turns = [];
  because = (refl, Refused (record { world = v; follows = s.follows; knows = h.0; unbuilt = h.1 }));
  is = is_of v past s;
  took = unwritten known;
}
fault_stops fault.Spent v w e past known s h = record {
  turns = [];
  because = (refl, record { world = v; follows = s.follows; spent = h.1 });
  is = is_of v past s;
  took = unwritten known;
}
fault_stops fault.NoMemory v w e past known s h = record { turns = []; because = refl; is = is_of v past s; took = unwritten known }

-- memory for its line was wanting
pub no_line : (v : World) (e : Event) (past : History) (known : Option (List ℕ)) → Stood v past → Stops stop.NoMemory (line.Happens e) past known known
no_line v e past known s = record { turns = []; because = refl; is = is_of v past s; took = unwritten known }

-- ---- the opening

module _ (setup : Setup) (v : World) (text : List ℕ) (remarks : List Remark) (spelled : text ≡ line_text (line.Volume setup)) (follows : Follows v (opening setup remarks ∷ []))
    (same : v.proxy.setup ≡ setup) (one : setup.dirs ≡ 1) where
  opened_stands : Stood v (opening setup remarks ∷ [])
  opened_stands = record { follows = follows; volume = ap Some (sym same); one = ap (λ z. z.dirs) same ∙ one }

  pub opening_passes : (old new : Option (List ℕ)) → Appends old new (ended text ++ remarks_text remarks) → Passes (line.Volume setup) [] v old new
  opening_passes old new wrote = record {
    turns = opening setup remarks ∷ [];
    makes = (opening setup remarks, refl, refl);
    stood = opened_stands;
    took = subst (Appends old new) (turn_is text (opening setup remarks) spelled) wrote;
  }

  pub opening_stops : (why : Stop) (old new : Option (List ℕ)) → TurnStops why text remarks old new → Stops why (line.Volume setup) [] old new
  opening_stops stop.WriteFault old new front = record {
    turns = opening setup remarks ∷ [];
    because = (opening setup remarks, refl, refl);
    is = (v, opened_stands);
    took = subst (TookFront old new) (turn_is text (opening setup remarks) spelled) front;
  }
  opening_stops stop.Bad old new h = absurd h
  opening_stops stop.Unbuilt old new h = record {
    turns = [];
    because = (refl, UnprintedOpening (opening setup remarks) refl (record { world = v; follows = follows; unprinted = h.0 }));
    is = tt;
    took = kept old new h.1;
  }
  opening_stops stop.Spent old new h = absurd h
  opening_stops stop.NoMemory old new keeps = record { turns = []; because = refl; is = tt; took = kept old new keeps }

  pub opening_done : (r : Result Unit Stop) (old new : Option (List ℕ)) → WroteTurn r text remarks old new
      → MatchResult r (λ _. Passes (line.Volume setup) [] v old new) (λ why. Stops why (line.Volume setup) [] old new)
  opening_done (Ok done) old new wrote = opening_passes old new wrote
  opening_done (Err why) old new h = opening_stops why old new h

pub opening_fails : (why : WorldFault) (setup : Setup) (known : Option (List ℕ)) → GivesOpening setup (Err why) → Stops (stop_by why) (line.Volume setup) [] known known
opening_fails (fault.UnknownFrame k) setup known h = absurd h
opening_fails fault.NotBuilt setup known h = record { turns = []; because = (refl, NotSmall h); is = tt; took = unwritten known }
opening_fails fault.Spent setup known h = absurd h
opening_fails fault.NoMemory setup known h = record { turns = []; because = refl; is = tt; took = unwritten known }
