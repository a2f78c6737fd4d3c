-- What a directory server that has the root alone answers to GETATTR.
use Rattle.std.proofs.Common.{◌≡◌, ℕ, ◌==◌, ◌&&◌, Bool, true, false, List, Option, Some, None, Result, Ok, Err, refl, ap, ◌∙◌, cond, if◌then◌else◌, option_map, arith}
use Rattle.std.specs.Ordering.{nat_cmp, eq_by_cmp}
use Rattle.std.specs.Cmp.{nat_cmp_total}
use Rattle.std.specs.FinMap.{empty, get, insert, get-insert, get-empty}
use Rattle.sl_defs.specs.declared.setup.Time.{Time}
use Rattle.sl_defs.specs.declared.note.Choice.{Choice}
use Rattle.sl_types.specs.declared.attributes.Fattr.{Fattr}
use Rattle.sl_types.specs.declared.cred.Cred.{Cred}
use Rattle.sl_types.specs.declared.call.Call.TheVariants as call
use Rattle.sl_types.specs.declared.handle.Handle.{Handle}
use Rattle.sl_types.specs.Handles.{handle_of}
use Rattle.sl_types.specs.declared.kind.Status.{Status}
use Rattle.sl_types.specs.declared.kind.Status.TheVariants as status
use Rattle.sl_types.specs.declared.reply.Reply.TheVariants as reply
use Rattle.sl_model.specs.declared.node.Node.{Node}
use Rattle.sl_model.specs.Plan.{Plan, Done, Stop, Sight, run, ◌>>=◌}
use Rattle.sl_model.specs.Checks.{is_of, object_or, node_or, granted, see}
use Rattle.sl_model.specs.Looking.{Outcome, answering, unchanged, attributes, getattr}
use Rattle.sl_model.specs.Gathered.{effect_from}
use Rattle.sl_model.specs.Perform.{new_root}
use Rattle.sl_model.specs.Procedures.{plan, fault}
use Rattle.sl_history.specs.Arrivals.{Asked}
use Rattle.sl_machine.specs.Records.{root_cell}
use Rattle.sl_machine.specs.Knowing.{node_of}
use Rattle.sl_machine.specs.Packets.{outer}
use Rattle.sl_machine.specs.Directories.{sight_of, effect_here}
use Rattle.sl_world.proofs.Maps.{got_here}
use Rattle.sl_world.specs.Serving.{root_alone, look_by, look}

-- ---- the plan of GETATTR over what can be looked up

pub no_handle : (s : Sight) (bytes : List ℕ) (cred : Cred) (now : Time) (choice : Choice) → handle_of bytes ≡ None
    → run s (plan (call.Getattr bytes) cred now choice) ≡ Err status.BadHandle
unfolding run ◌>>=◌
no_handle s bytes cred now choice none = rw none refl

-- the plan of GETATTR after its look-up, after the test of what was found, and after its second look-up
abbrev found_so : Cred → Handle → Bool → Node → Plan Node
found_so cred h b n = (if b then Done n else Stop status.Stale) >>= (λ m. granted cred m >>= (λ u. Done m))

abbrev on : Cred → Handle → Plan Node → Plan Outcome
on cred h p = p >>= (λ m. see h.fileid >>= (λ n. unchanged (reply.Getattr (Ok (attributes n)))))

abbrev looked : Cred → Handle → Option Node → Plan Outcome
looked cred h o = on cred h (object_or h o >>= (λ m. granted cred m >>= (λ u. Done m)))

abbrev seen_so : Option Node → Plan Outcome
seen_so o = node_or o >>= (λ n. unchanged (reply.Getattr (Ok (attributes n))))

looks_first : (s : Sight) (cred : Cred) (h : Handle) → run s (getattr cred h) ≡ run s (looked cred h (s.look h.fileid))
unfolding run ◌>>=◌
looks_first s cred h = refl

sees_then : (s : Sight) (cred : Cred) (h : Handle) (n : Node) → run s (on cred h (found_so cred h true n)) ≡ run s (seen_so (s.see h.fileid))
unfolding run ◌>>=◌
sees_then s cred h n = refl

ends_stale : (s : Sight) (cred : Cred) (h : Handle) (n : Node) → run s (on cred h (found_so cred h false n)) ≡ Err status.Stale
unfolding run ◌>>=◌
ends_stale s cred h n = refl

none_stale : (s : Sight) (cred : Cred) (h : Handle) → run s (looked cred h None) ≡ Err status.Stale
unfolding run ◌>>=◌
none_stale s cred h = refl

ends_ok : (s : Sight) (n : Node) → run s (seen_so (Some n)) ≡ Ok (answering (reply.Getattr (Ok (attributes n))))
unfolding run ◌>>=◌
ends_ok s n = refl

with_a_handle : (s : Sight) (bytes : List ℕ) (h : Handle) (cred : Cred) (now : Time) (choice : Choice) → handle_of bytes ≡ Some h
    → run s (plan (call.Getattr bytes) cred now choice) ≡ run s (looked cred h (s.look h.fileid))
unfolding run ◌>>=◌
with_a_handle s bytes h cred now choice is = rw is (looks_first s cred h)

pub nothing_there : (s : Sight) (bytes : List ℕ) (h : Handle) (cred : Cred) (now : Time) (choice : Choice) → handle_of bytes ≡ Some h → s.look h.fileid ≡ None
    → run s (plan (call.Getattr bytes) cred now choice) ≡ Err status.Stale
nothing_there s bytes h cred now choice is none =
    with_a_handle s bytes h cred now choice is ∙ ap (λ o. run s (looked cred h o)) none ∙ none_stale s cred h

test_of : (s : Sight) (bytes : List ℕ) (h : Handle) (n : Node) (cred : Cred) (now : Time) (choice : Choice) (b : Bool) → handle_of bytes ≡ Some h → s.look h.fileid ≡ Some n
    → is_of h n ≡ b → run s (plan (call.Getattr bytes) cred now choice) ≡ run s (on cred h (found_so cred h b n))
test_of s bytes h n cred now choice b is some it =
    with_a_handle s bytes h cred now choice is ∙ ap (λ o. run s (looked cred h o)) some ∙ ap (λ b. run s (on cred h (found_so cred h b n))) it

another_there : (s : Sight) (bytes : List ℕ) (h : Handle) (n : Node) (cred : Cred) (now : Time) (choice : Choice) → handle_of bytes ≡ Some h → s.look h.fileid ≡ Some n
    → is_of h n ≡ false → run s (plan (call.Getattr bytes) cred now choice) ≡ Err status.Stale
another_there s bytes h n cred now choice is some other = test_of s bytes h n cred now choice false is some other ∙ ends_stale s cred h n

object_there : (s : Sight) (bytes : List ℕ) (h : Handle) (n : Node) (cred : Cred) (now : Time) (choice : Choice) → handle_of bytes ≡ Some h → s.look h.fileid ≡ Some n
    → s.see h.fileid ≡ Some n → is_of h n ≡ true → run s (plan (call.Getattr bytes) cred now choice) ≡ Ok (answering (reply.Getattr (Ok (attributes n))))
object_there s bytes h n cred now choice is some seen it =
    test_of s bytes h n cred now choice true is some it ∙ sees_then s cred h n ∙ ap (λ o. run s (seen_so o)) seen ∙ ends_ok s n

-- ---- the cells of a new volume

is_one : (f : ℕ) → (f == 1) ≡ true → f ≡ 1
is_one f e = grind arith

not_one : (f : ℕ) → (f == 1) ≡ false → eq_by_cmp nat_cmp f 1 ≡ false
not_one f e = grind arith

looked_up : {X : Type 0} (x : X) (f : ℕ) (b : Bool) → (f == 1) ≡ b → get (insert (empty {X = X} {R = nat_cmp}) 1 x) f ≡ (if b then Some x else None)
looked_up x f true e = ap (get (insert empty 1 x)) (is_one f e) ∙ got_here empty 1 x
looked_up x f false e = get-insert nat_cmp_total empty 1 x f ∙ ap (λ b. cond b (Some x) (get (empty {R = nat_cmp}) f)) (not_one f e) ∙ get-empty nat_cmp f

looks : (v f : ℕ) (b : Bool) → (f == 1) ≡ b → (sight_of (root_alone v)).look f ≡ (if b then Some (node_of (root_cell v)) else None)
looks v f true e = ap (option_map node_of) (looked_up (root_cell v) f true e)
looks v f false e = ap (option_map node_of) (looked_up (root_cell v) f false e)

-- what the plan ends with, as an answer
abbrev ends_as : Result Fattr Status → Result Outcome Status
ends_as (Ok a) = Ok (answering (reply.Getattr (Ok a)))
ends_as (Err s) = Err s

by_kind : (v : ℕ) (bytes : List ℕ) (h : Handle) (cred : Cred) (now : Time) (choice : Choice) → handle_of bytes ≡ Some h → (h.fileid == 1) ≡ true
    → (b : Bool) → is_of h (node_of (root_cell v)) ≡ b
    → run (sight_of (root_alone v)) (plan (call.Getattr bytes) cred now choice) ≡ ends_as (if b then Ok (attributes (new_root v)) else Err status.Stale)
by_kind v bytes h cred now choice is at true it =
    object_there (sight_of (root_alone v)) bytes h (node_of (root_cell v)) cred now choice is (looks v h.fileid true at) (looks v h.fileid true at) it
by_kind v bytes h cred now choice is at false it =
    another_there (sight_of (root_alone v)) bytes h (node_of (root_cell v)) cred now choice is (looks v h.fileid true at) it

by_fileid : (v : ℕ) (bytes : List ℕ) (h : Handle) (cred : Cred) (now : Time) (choice : Choice) → handle_of bytes ≡ Some h → (b : Bool) → (h.fileid == 1) ≡ b
    → run (sight_of (root_alone v)) (plan (call.Getattr bytes) cred now choice)
    ≡ ends_as (if b && is_of h (node_of (root_cell v)) then Ok (attributes (new_root v)) else Err status.Stale)
by_fileid v bytes h cred now choice is true at = by_kind v bytes h cred now choice is at (is_of h (node_of (root_cell v))) refl
by_fileid v bytes h cred now choice is false at = nothing_there (sight_of (root_alone v)) bytes h cred now choice is (looks v h.fileid false at)

by_handle : (v : ℕ) (bytes : List ℕ) (cred : Cred) (now : Time) (choice : Choice) (o : Option Handle) → handle_of bytes ≡ o
    → run (sight_of (root_alone v)) (plan (call.Getattr bytes) cred now choice) ≡ ends_as (look_by v o)
by_handle v bytes cred now choice None is = no_handle (sight_of (root_alone v)) bytes cred now choice is
by_handle v bytes cred now choice (Some h) is = by_fileid v bytes h cred now choice is (h.fileid == 1) refl

answer_from : (object : List ℕ) (r : Result Fattr Status) → (effect_from (fault (call.Getattr object)) (ends_as r)).answer ≡ reply.Getattr r
answer_from object (Ok a) = refl
answer_from object (Err s) = refl

-- what the server's cells answer
pub root_is_seen : (v : ℕ) (q : Asked) (object : List ℕ) (now : Time) (choice : Choice) → q.call ≡ call.Getattr object
    → (effect_here (root_alone v) q now choice).answer ≡ reply.Getattr (look v object)
root_is_seen v q object now choice is =
    rw is (ap (λ r. (effect_from (fault (call.Getattr (outer object))) r).answer) (by_handle v (outer object) q.cred now choice (handle_of (outer object)) refl)
    ∙ answer_from (outer object) (look v object))
