-- A datagram that is answered at its arrival.
use Rattle.std.proofs.Common.{◌≡◌, [], ◌∷◌, None, refl, sym, ap, inl}
use Rattle.sl_defs.specs.Items.{u32_text, u32_at, opaque_at}
use Rattle.sl_defs.specs.Rpc.{call_header_at, auth_at, zero_at, refusal_of}
use Rattle.sl_defs.specs.declared.event.Event.TheVariants as event
use Rattle.sl_history.specs.Turns.{Replied}
use Rattle.sl_history.specs.Arrivals.{datagram, IsAnswered}
use Rattle.sl_machine.specs.Memory as memory
use Rattle.sl_machine.specs.World.{World, Segment, played, begun}
use Rattle.sl_machine.specs.Proxies.{fresh, arrives}
use Rattle.sl_machine.specs.Proxies as proxy
use Rattle.sl_machine.specs.Runs.{TurnRun, ByProxy, Whole, is_up}
use Rattle.sl_witness.specs.Histories.{fence, turn, null_call, null_reply}
use Rattle.sl_witness.specs.Runs.{ANullCallIsAnswered}
use Rattle.sl_witness.proofs.Maps.{got_here, got_past}
use Rattle.sl_witness.proofs.Openings.{no_site, no_store, new_coordinator, w5, opened_run, empty_disks, proxy_opened, coordinator_opened, directory_opened, small_opened, node_opened}
use Rattle.sl_witness.proofs.Welcomes.{proxy_5}

null_is_answered : datagram null_call ≡ IsAnswered null_reply
unfolding datagram call_header_at u32_text u32_at opaque_at auth_at zero_at refusal_of
null_is_answered = refl

abbrev replies : Segment
replies = record { append = None; memory = memory.OfProxy (fresh fence); frames = []; notes = Replied 1 1 null_reply ∷ []; todo = [] }

abbrev v8 : World
v8 = played (begun w5) 0 proxy_5 replies

is_answered : TurnRun w5 (turn (event.Call 0 null_call) (Replied 1 1 null_reply ∷ [])) v8
is_answered = record {
  told = record { frames = []; notes = Replied 1 1 null_reply ∷ [] };
  is = inl (record {
    up = ap is_up proxy_opened;
    steps = record {
      segments = replies ∷ [];
      left = [];
      middle = v8;
      so_far = record { frames = []; notes = Replied 1 1 null_reply ∷ [] };
      plays = (
        proxy_5,
        proxy_opened,
        ByProxy (fresh fence) refl refl (proxy.IsTaken 1 0 null_call refl (record { does = ap (arrives (fresh fence) 1 0 null_call) (sym null_is_answered) })),
        (refl, refl, refl),
      );
      ends = Whole refl refl refl;
    };
  });
  remarks = refl;
  moment = refl;
}

pub a_null_call_is_answered : ANullCallIsAnswered
a_null_call_is_answered = record {
  world = v8;
  run = (w5, opened_run, refl, is_answered);
  empty = empty_disks;
  proxy = (memory.OfProxy (fresh fence), got_here _ 0 _);
  coordinator = (memory.OfCoord new_coordinator, got_past _ 0 _ 1 _ refl coordinator_opened);
  directory = (memory.OfSite no_site, got_past _ 0 _ 16 _ refl directory_opened);
  small = (memory.OfStore no_store, got_past _ 0 _ 32 _ refl small_opened);
  node = (memory.OfStore no_store, got_past _ 0 _ 48 _ refl node_opened);
}
