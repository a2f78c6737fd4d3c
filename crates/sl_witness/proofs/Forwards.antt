-- GETATTR of the root arrives, and the proxy forwards it.
use Rattle.std.proofs.Common.{◌≡◌, ℕ, ◌-◌, cond, nat_le, length, List, [], ◌∷◌, is_some, None, Equal, refl, sym, ap, ◌∙◌, inl, arith, not, if◌then◌else◌}
use Rattle.std.specs.Ordering.{nat_cmp}
use Rattle.std.specs.Cmp.{nat_cmp_total}
use Rattle.std.specs.FinMap.{FinMap, empty, get, insert, remove, retain_keys, entries, find, put, len, get-entries, len-entries, len-empty, len-remove, entries-insert, get-retain_keys}
use Rattle.sl_defs.specs.declared.event.Event.TheVariants as event
use Rattle.sl_frames.specs.declared.frame.Frame.{Frame}
use Rattle.sl_frames.specs.declared.body.Body.TheVariants as body
use Rattle.sl_history.specs.Turns.{Sent, Full}
use Rattle.sl_history.specs.Arrivals.{datagram, most_waiting}
use Rattle.sl_machine.specs.Memory.{Site, Request, Waiting, Proxy, Actor, low_among}
use Rattle.sl_machine.specs.Memory as memory
use Rattle.sl_machine.specs.World.{World, Scene, Goes, Segment, Told, sends, scene, played, after_segment, begun}
use Rattle.sl_machine.specs.Proxies.{still, notes, with_call, arrives, does_want, request, asks, with_request, by_packet_if, wakes, ready_among, first_ready}
use Rattle.sl_machine.specs.Proxies as proxy
use Rattle.sl_machine.specs.Wants.{wants}
use Rattle.sl_machine.specs.Runs.{Run, TurnRun, ByProxy, Whole, is_up}
use Rattle.sl_witness.specs.Histories.{setup, epoch, turn, root_call, forward, forwarded}
use Rattle.sl_witness.specs.Runs.{ACallIsForwarded}
use Rattle.sl_witness.proofs.Maps.{got_here, got_none}
use Rattle.sl_witness.proofs.Openings.{no_site, no_store, empty_disks, past_three}
use Rattle.sl_witness.proofs.Welcomes.{idle_coordinator, proxy_7, w7, welcomed_run, proxy_welcomed, coordinator_welcomed, directory_welcomed, small_welcomed, node_welcomed}
use Rattle.sl_witness.proofs.Packets.{client_is_asked, is_forwarded, root_hold, with_calls, waiting, wants_lock, wants_look}

-- ---- a map with one key

no_entries : {A : Type 0} (es : List A) → length es ≡ 0 → es ≡ []
no_entries [] e = refl
no_entries (x ∷ es) e = absurd (omega arith)

entries_none : {X : Type 0} → entries (empty {X = X} {R = nat_cmp}) ≡ []
entries_none {X} = no_entries (entries (empty {X = X} {R = nat_cmp})) (sym (len-entries (empty {X = X} {R = nat_cmp})) ∙ len-empty nat_cmp X)

pub entries_first : {X : Type 0} (v : X) → entries (insert (empty {R = nat_cmp}) 3 v) ≡ (3, v) ∷ []
entries_first v = entries-insert nat_cmp_total empty 3 v ∙ ap (put nat_cmp 3 v) entries_none

pub entries_again : {X : Type 0} (m : FinMap nat_cmp X) (v u : X) → entries m ≡ (3, v) ∷ [] → entries (insert m 3 u) ≡ (3, u) ∷ []
entries_again m v u e = entries-insert nat_cmp_total m 3 u ∙ ap (put nat_cmp 3 u) e

pub entries_gone : {X : Type 0} (m : FinMap nat_cmp X) (v : X) → entries m ≡ (3, v) ∷ [] → entries (remove m 3) ≡ []
entries_gone m v e = no_entries (entries (remove m 3)) (
    sym (len-entries (remove m 3))
    ∙ (len-remove nat_cmp_total m 3
    ∙ (ap (λ o. cond (is_some o) (len m - 1) (len m)) (get-entries m 3)
    ∙ (ap (λ n. cond (is_some (find nat_cmp 3 (entries m))) (n - 1) n) (len-entries m)
    ∙ ap (λ es. cond (is_some (find nat_cmp 3 es)) (length es - 1) (length es)) e))))

pub le_same_key : (low q x : ℕ) → nat_cmp q x ≡ Equal → nat_le low x ≡ nat_le low q
le_same_key low q x e = grind arith

pub none_kept : get (retain_keys (empty {X = Frame} {R = nat_cmp}) (λ tag. nat_le 1 tag)) 1 ≡ None
none_kept = get-retain_keys empty (λ tag. nat_le 1 tag) 1 (le_same_key 1 1) ∙ got_none 1

-- ---- the call arrives, and is forwarded

abbrev pub bytes : List ℕ
bytes = root_call 7 0

abbrev pub m1 : FinMap nat_cmp Waiting
m1 = insert empty 3 (waiting [])

abbrev pub m2 : FinMap nat_cmp Waiting
m2 = insert m1 3 (waiting (root_hold ∷ []))

abbrev pub out : Request
out = record { tag = 1; to = 16; boot = 0; «body» = body.Forward 0 (root_call 1 16) }

abbrev pub asking : Waiting
asking = with_request out (waiting (root_hold ∷ []))

abbrev pub m3 : FinMap nat_cmp Waiting
m3 = insert m2 3 asking

pub entries_m3 : entries m3 ≡ (3, asking) ∷ []
entries_m3 = entries_again m2 _ asking (entries_again m1 _ _ (entries_first (waiting [])))

abbrev pub takes : Segment
takes = still (with_calls m1 1) (Goes 3 ∷ [])

does_take : takes ≡ arrives (with_calls empty 1) 3 0 bytes (datagram bytes)
does_take = sym (
    ap (arrives (with_calls empty 1) 3 0 bytes) client_is_asked
    ∙ ap (λ n. if nat_le most_waiting n then notes (with_calls empty 1) (Full 3 ∷ []) [] else takes) (len-empty nat_cmp Waiting))

abbrev pub locks : Segment
locks = still (with_calls m2 1) (Goes 3 ∷ [])

does_lock : (x : Scene) → locks ≡ does_want x (with_calls m1 1) 3 (waiting []) (wants setup (with_calls m1 1) epoch (waiting []))
does_lock x = sym (
    ap (does_want x (with_calls m1 1) 3 (waiting [])) (wants_lock m1)
    ∙ ap (λ es. if not (memory.is_taken 3 (root_hold ∷ []) es) then locks else still (with_call 3 (record (waiting []) { awaits = root_hold ∷ [] }) (with_calls m1 1)) [])
    (entries_first (waiting [])))

abbrev pub asks_server : Segment
asks_server = sends (memory.OfProxy (with_calls m3 2)) forward []

does_ask : (x : Scene) → asks_server ≡ does_want x (with_calls m2 1) 3 (waiting (root_hold ∷ [])) (wants setup (with_calls m2 1) epoch (waiting (root_hold ∷ [])))
does_ask x = sym (
    ap (does_want x (with_calls m2 1) 3 (waiting (root_hold ∷ []))) (wants_look m2)
    ∙ (ap (λ text. asks (with_calls m2 1) 3 (waiting (root_hold ∷ [])) (request (with_calls m2 1) 16 0 (body.Forward 0 text))) is_forwarded
    ∙ ap (λ es. sends (memory.OfProxy (with_calls m3 2)) (record forward { low = low_among es 2 }) []) entries_m3))

abbrev pub proxy_8a : Actor
proxy_8a = after_segment proxy_7 takes

abbrev pub proxy_8b : Actor
proxy_8b = after_segment proxy_8a locks

abbrev pub proxy_8 : Actor
proxy_8 = after_segment proxy_8b asks_server

abbrev pub w8 : World
w8 = played (played (played (begun w7) 0 proxy_7 takes) 0 proxy_8a locks) 0 proxy_8b asks_server

abbrev pub told_8 : Told
told_8 = record { frames = Sent 3 forward ∷ []; notes = [] }

pub is_sent_on : TurnRun w7 (turn (event.Call 0 bytes) (Sent 3 forward ∷ [])) w8
is_sent_on = record {
  told = told_8;
  is = inl (record {
    up = ap is_up proxy_welcomed;
    steps = record {
      segments = takes ∷ locks ∷ asks_server ∷ [];
      left = [];
      middle = w8;
      so_far = told_8;
      plays = (
        proxy_7,
        proxy_welcomed,
        ByProxy (with_calls empty 1) refl refl (proxy.IsTaken 3 0 bytes refl (record { does = does_take })),
        (
          proxy_8a,
          got_here _ 0 _,
          ByProxy (with_calls m1 1) refl refl (proxy.IsGoing 3 refl (record { waiting = waiting []; is = got_here _ 3 _; unasked = refl; does = does_lock (scene (begun w7) 0) })),
          (
            proxy_8b,
            got_here _ 0 _,
            ByProxy (with_calls m2 1) refl refl (proxy.IsGoing 3 refl (record { waiting = waiting (root_hold ∷ []); is = got_here _ 3 _; unasked = refl; does = does_ask (scene (begun w7) 0) })),
            (refl, refl, refl),
          ),
        ),
      );
      ends = Whole refl refl refl;
    };
  });
  remarks = refl;
  moment = refl;
}

abbrev pub forwarded_run : Run setup forwarded w8
forwarded_run = (w7, welcomed_run, refl, is_sent_on)

pub a_call_is_forwarded : ACallIsForwarded
a_call_is_forwarded = record {
  world = w8;
  run = forwarded_run;
  empty = empty_disks;
  proxy = (memory.OfProxy (with_calls m3 2), got_here _ 0 _);
  coordinator = (memory.OfCoord idle_coordinator, past_three _ 0 _ _ _ 1 _ refl coordinator_welcomed);
  directory = (memory.OfSite no_site, past_three _ 0 _ _ _ 16 _ refl directory_welcomed);
  small = (memory.OfStore no_store, past_three _ 0 _ _ _ 32 _ refl small_welcomed);
  node = (memory.OfStore no_store, past_three _ 0 _ _ _ 48 _ refl node_welcomed);
}
