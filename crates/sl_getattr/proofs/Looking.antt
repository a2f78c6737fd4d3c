-- What GETATTR answers where the root alone is there: on one server, and by the cells of a directory server.
use Rattle.std.proofs.Common.{◌≡◌, ℕ, ◌==◌, ◌&&◌, Bool, true, false, List, [], Option, Some, None, Result, Ok, Err, refl, ap, ◌∙◌, cond, if◌then◌else◌, option_map, arith}
use Rattle.std.specs.Ordering.{nat_cmp, eq_by_cmp}
use Rattle.std.specs.Cmp.{nat_cmp_total}
use Rattle.std.specs.FinMap.{empty, get, insert, get-insert, get-empty}
use Rattle.sl_defs.specs.declared.setup.Time.{Time}
use Rattle.sl_defs.specs.declared.note.Choice.{Choice}
use Rattle.sl_types.specs.declared.attributes.Fattr.{Fattr}
use Rattle.sl_types.specs.declared.cred.Cred.{Cred}
use Rattle.sl_types.specs.declared.call.Call.TheVariants as call
use Rattle.sl_types.specs.declared.handle.Handle.{Handle}
use Rattle.sl_types.specs.Handles.{handle_of}
use Rattle.sl_types.specs.declared.kind.Status.{Status}
use Rattle.sl_types.specs.declared.kind.Status.TheVariants as status
use Rattle.sl_types.specs.declared.reply.Reply.TheVariants as reply
use Rattle.sl_model.specs.declared.node.Node.{Node}
use Rattle.sl_model.specs.Plan.{Plan, Done, Stop, Sight, run, ◌>>=◌}
use Rattle.sl_model.specs.Checks.{is_of, object_or, node_or, granted, see}
use Rattle.sl_model.specs.Looking.{Outcome, answering, unchanged, attributes, getattr}
use Rattle.sl_model.specs.Gathered.{effect_from}
use Rattle.sl_model.specs.Perform.{new_root}
use Rattle.sl_model.specs.Procedures.{plan, fault}
use Rattle.sl_history.specs.Arrivals.{Asked}
use Rattle.sl_machine.specs.Records.{root_cell}
use Rattle.sl_machine.specs.Knowing.{node_of}
use Rattle.sl_machine.specs.Packets.{outer}
use Rattle.sl_machine.specs.Directories.{sight_of, effect_here}
use Rattle.sl_machine.specs.Records.{Cells}
use Rattle.sl_model.specs.Volume.{Volume, sight, seen_as}
use Rattle.sl_model.specs.Perform.{fresh, perform, ends}
use Rattle.sl_types.specs.declared.kind.Kind.TheVariants as kind
use Rattle.sl_model.specs.Checks.{same_kind}
use Rattle.sl_getattr.proofs.Maps.{has_put}

-- ---- words

-- the cells of a new volume
abbrev pub root_alone : ℕ → Cells
root_alone volume = record { objects = insert empty 1 (root_cell volume); names = empty }

abbrev pub is_root : ℕ → Handle → Bool
is_root volume h = h.fileid == 1 && (volume == h.volume && same_kind kind.Dir h.kind)

-- the attributes of what a handle names, where the root alone is there (RFC 1813, section 3.3.1)
abbrev pub look_by : ℕ → Option Handle → Result Fattr Status
look_by volume None = Err status.BadHandle
look_by volume (Some h) = if is_root volume h then Ok (attributes (new_root volume)) else Err status.Stale

-- ---- the plan of GETATTR over what can be looked up

pub no_handle : (s : Sight) (bytes : List ℕ) (cred : Cred) (now : Time) (choice : Choice) → handle_of bytes ≡ None
    → run s (plan (call.Getattr bytes) cred now choice) ≡ Err status.BadHandle
unfolding run ◌>>=◌
no_handle s bytes cred now choice none = rw none refl

-- the plan of GETATTR after its look-up, after the test of what was found, and after its second look-up
abbrev found_so : Cred → Handle → Bool → Node → Plan Node
found_so cred h b n = (if b then Done n else Stop status.Stale) >>= (λ m. granted cred m >>= (λ u. Done m))

abbrev on : Cred → Handle → Plan Node → Plan Outcome
on cred h p = p >>= (λ m. see h.fileid >>= (λ n. unchanged (reply.Getattr (Ok (attributes n)))))

abbrev looked : Cred → Handle → Option Node → Plan Outcome
looked cred h o = on cred h (object_or h o >>= (λ m. granted cred m >>= (λ u. Done m)))

abbrev seen_so : Option Node → Plan Outcome
seen_so o = node_or o >>= (λ n. unchanged (reply.Getattr (Ok (attributes n))))

looks_first : (s : Sight) (cred : Cred) (h : Handle) → run s (getattr cred h) ≡ run s (looked cred h (s.look h.fileid))
unfolding run ◌>>=◌
looks_first s cred h = refl

sees_then : (s : Sight) (cred : Cred) (h : Handle) (n : Node) → run s (on cred h (found_so cred h true n)) ≡ run s (seen_so (s.see h.fileid))
unfolding run ◌>>=◌
sees_then s cred h n = refl

ends_stale : (s : Sight) (cred : Cred) (h : Handle) (n : Node) → run s (on cred h (found_so cred h false n)) ≡ Err status.Stale
unfolding run ◌>>=◌
ends_stale s cred h n = refl

none_stale : (s : Sight) (cred : Cred) (h : Handle) → run s (looked cred h None) ≡ Err status.Stale
unfolding run ◌>>=◌
none_stale s cred h = refl

ends_ok : (s : Sight) (n : Node) → run s (seen_so (Some n)) ≡ Ok (answering (reply.Getattr (Ok (attributes n))))
unfolding run ◌>>=◌
ends_ok s n = refl

with_a_handle : (s : Sight) (bytes : List ℕ) (h : Handle) (cred : Cred) (now : Time) (choice : Choice) → handle_of bytes ≡ Some h
    → run s (plan (call.Getattr bytes) cred now choice) ≡ run s (looked cred h (s.look h.fileid))
unfolding run ◌>>=◌
with_a_handle s bytes h cred now choice is = rw is (looks_first s cred h)

pub nothing_there : (s : Sight) (bytes : List ℕ) (h : Handle) (cred : Cred) (now : Time) (choice : Choice) → handle_of bytes ≡ Some h → s.look h.fileid ≡ None
    → run s (plan (call.Getattr bytes) cred now choice) ≡ Err status.Stale
nothing_there s bytes h cred now choice is none =
    with_a_handle s bytes h cred now choice is ∙ ap (λ o. run s (looked cred h o)) none ∙ none_stale s cred h

test_of : (s : Sight) (bytes : List ℕ) (h : Handle) (n : Node) (cred : Cred) (now : Time) (choice : Choice) (b : Bool) → handle_of bytes ≡ Some h → s.look h.fileid ≡ Some n
    → is_of h n ≡ b → run s (plan (call.Getattr bytes) cred now choice) ≡ run s (on cred h (found_so cred h b n))
test_of s bytes h n cred now choice b is some it =
    with_a_handle s bytes h cred now choice is ∙ ap (λ o. run s (looked cred h o)) some ∙ ap (λ b. run s (on cred h (found_so cred h b n))) it

another_there : (s : Sight) (bytes : List ℕ) (h : Handle) (n : Node) (cred : Cred) (now : Time) (choice : Choice) → handle_of bytes ≡ Some h → s.look h.fileid ≡ Some n
    → is_of h n ≡ false → run s (plan (call.Getattr bytes) cred now choice) ≡ Err status.Stale
another_there s bytes h n cred now choice is some other = test_of s bytes h n cred now choice false is some other ∙ ends_stale s cred h n

object_there : (s : Sight) (bytes : List ℕ) (h : Handle) (n : Node) (cred : Cred) (now : Time) (choice : Choice) → handle_of bytes ≡ Some h → s.look h.fileid ≡ Some n
    → s.see h.fileid ≡ Some n → is_of h n ≡ true → run s (plan (call.Getattr bytes) cred now choice) ≡ Ok (answering (reply.Getattr (Ok (attributes n))))
object_there s bytes h n cred now choice is some seen it =
    test_of s bytes h n cred now choice true is some it ∙ sees_then s cred h n ∙ ap (λ o. run s (seen_so o)) seen ∙ ends_ok s n

-- ---- where the root alone is there

is_one : (f : ℕ) → (f == 1) ≡ true → f ≡ 1
is_one f e = grind arith

not_one : (f : ℕ) → (f == 1) ≡ false → eq_by_cmp nat_cmp f 1 ≡ false
not_one f e = grind arith

looked_up : {X : Type 0} (x : X) (f : ℕ) (b : Bool) → (f == 1) ≡ b → get (insert (empty {X = X} {R = nat_cmp}) 1 x) f ≡ (if b then Some x else None)
looked_up x f true e = ap (get (insert empty 1 x)) (is_one f e) ∙ has_put empty 1 x
looked_up x f false e = get-insert nat_cmp_total empty 1 x f ∙ ap (λ b. cond b (Some x) (get (empty {R = nat_cmp}) f)) (not_one f e) ∙ get-empty nat_cmp f

-- what can be looked up is the root
pub record SeesRoot (v : ℕ) (s : Sight) : Type 0 where
  pub root : Node
  pub attributes_are : attributes root ≡ attributes (new_root v)
  pub is : (h : Handle) → is_of h root ≡ (v == h.volume && same_kind kind.Dir h.kind)
  pub looks : (f : ℕ) (b : Bool) → (f == 1) ≡ b → s.look f ≡ (if b then Some root else None)
  pub sees : (f : ℕ) (b : Bool) → (f == 1) ≡ b → s.see f ≡ (if b then Some root else None)

-- what the plan ends with, as an answer
abbrev pub ends_as : Result Fattr Status → Result Outcome Status
ends_as (Ok a) = Ok (answering (reply.Getattr (Ok a)))
ends_as (Err s) = Err s

module _ (v : ℕ) (s : Sight) (root : SeesRoot v s) (bytes : List ℕ) (cred : Cred) (now : Time) (choice : Choice) where
  by_kind : (h : Handle) → handle_of bytes ≡ Some h → (h.fileid == 1) ≡ true → (b : Bool) → is_of h root.root ≡ b
      → run s (plan (call.Getattr bytes) cred now choice) ≡ ends_as (if b then Ok (attributes (new_root v)) else Err status.Stale)
  by_kind h is at true it =
      object_there s bytes h root.root cred now choice is (root.looks h.fileid true at) (root.sees h.fileid true at) it
      ∙ ap (λ a. Ok (answering (reply.Getattr (Ok a)))) root.attributes_are
  by_kind h is at false it = another_there s bytes h root.root cred now choice is (root.looks h.fileid true at) it

  by_fileid : (h : Handle) → handle_of bytes ≡ Some h → (b : Bool) → (h.fileid == 1) ≡ b
      → run s (plan (call.Getattr bytes) cred now choice) ≡ ends_as (if b && (v == h.volume && same_kind kind.Dir h.kind) then Ok (attributes (new_root v)) else Err status.Stale)
  by_fileid h is true at = by_kind h is at (v == h.volume && same_kind kind.Dir h.kind) (root.is h)
  by_fileid h is false at = nothing_there s bytes h cred now choice is (root.looks h.fileid false at)

  pub by_handle : (o : Option Handle) → handle_of bytes ≡ o → run s (plan (call.Getattr bytes) cred now choice) ≡ ends_as (look_by v o)
  by_handle None is = no_handle s bytes cred now choice is
  by_handle (Some h) is = by_fileid h is (h.fileid == 1) refl

-- ---- a directory server's cells

cells_see : (v : ℕ) → SeesRoot v (sight_of (root_alone v))
cells_see v = record {
  root = node_of (root_cell v);
  attributes_are = refl;
  is = λ h. refl;
  looks = looks;
  sees = looks;
}
  where
    looks : (f : ℕ) (b : Bool) → (f == 1) ≡ b → (sight_of (root_alone v)).look f ≡ (if b then Some (node_of (root_cell v)) else None)
    looks f true e = ap (option_map node_of) (looked_up (root_cell v) f true e)
    looks f false e = ap (option_map node_of) (looked_up (root_cell v) f false e)

answer_from : (object : List ℕ) (r : Result Fattr Status) → (effect_from (fault (call.Getattr object)) (ends_as r)).answer ≡ reply.Getattr r
answer_from object (Ok a) = refl
answer_from object (Err s) = refl

-- what the server's cells answer
pub root_is_seen : (v : ℕ) (q : Asked) (object : List ℕ) (now : Time) (choice : Choice) → q.call ≡ call.Getattr object
    → (effect_here (root_alone v) q now choice).answer ≡ reply.Getattr (look_by v (handle_of (outer object)))
root_is_seen v q object now choice is =
    rw is (ap (λ r. (effect_from (fault (call.Getattr (outer object))) r).answer)
    (by_handle v (sight_of (root_alone v)) (cells_see v) (outer object) q.cred now choice (handle_of (outer object)) refl)
    ∙ answer_from (outer object) (look_by v (handle_of (outer object))))

-- ---- one server

-- the volume is as it began, but for its verifier
pub record IsNew (number : ℕ) (v : Volume) : Type 0 where
  pub nodes : v.nodes ≡ insert empty 1 (new_root number)
  pub stable : v.unstable ≡ []

pub fresh_is_new : (number : ℕ) → IsNew number (fresh number)
unfolding fresh
fresh_is_new number = record { nodes = refl; stable = refl }

volume_sees : (number : ℕ) (v : Volume) → IsNew number v → SeesRoot number (sight v)
volume_sees number v new = record {
  root = new_root number;
  attributes_are = refl;
  is = λ h. refl;
  looks = looks;
  sees = λ f b e. ap (λ ws. seen_as ws (get v.nodes f)) new.stable ∙ ap (seen_as []) (looks f b e) ∙ same b;
}
  where
    looks : (f : ℕ) (b : Bool) → (f == 1) ≡ b → get v.nodes f ≡ (if b then Some (new_root number) else None)
    looks f b e = ap (λ m. get m f) new.nodes ∙ looked_up (new_root number) f b e

    same : (b : Bool) → seen_as [] (if b then Some (new_root number) else None) ≡ (if b then Some (new_root number) else None)
    same true = refl
    same false = refl

answer_of : (v : Volume) (object : List ℕ) (r : Result Fattr Status) → (ends v (fault (call.Getattr object)) (ends_as r)).1 ≡ reply.Getattr r
answer_of v object (Ok a) = refl
answer_of v object (Err s) = refl

-- what the one server answers
pub performed : (number : ℕ) (v : Volume) (object : List ℕ) (cred : Cred) (now : Time) (choice : Choice) → IsNew number v
    → (perform v (call.Getattr object) cred now choice).1 ≡ reply.Getattr (look_by number (handle_of object))
unfolding perform
performed number v object cred now choice new =
    ap (λ r. (ends v (fault (call.Getattr object)) r).1) (by_handle number (sight v) (volume_sees number v new) object cred now choice (handle_of object) refl)
    ∙ answer_of v object (look_by number (handle_of object))
