-- The effect of the stable WRITE stands where both servers have granted it, by computing.
use Rattle.std.proofs.Common.{◌≡◌, ℕ, ◌+◌, ◌%◌, ◌==◌, ◌||◌, not, nat_lt, Bool, true, false, cond, true≢false, [], ◌∷◌, Some, None, is_some, unwrap_or, refl, sym, ap, subst, ◌∙◌, inl, inr, arith}
use Rattle.std.proofs.lemmas.Cmp.{nat_cmp_total, then_total, on_total}
use Rattle.std.proofs.lemmas.Map.Lookups.{exact_pairs, exact_unsigned}
use Rattle.std.specs.Cmp.{IsTotalOrder}
use Rattle.std.specs.declared.cmp.Ordering.{Ordering}
use Rattle.std.specs.declared.cmp.Ordering.TheVariants.{Less, Equal, Greater}
use Rattle.std.specs.Ordering.{nat_cmp, eq_by_cmp, is_eq}
use Rattle.std.specs.FinMap.{FinMap, IsAntisymmetric, get, get-insert, get-empty, get-retain_keys}
use Rattle.sl_defs.specs.Items.{u32_text, u64_text, u32_at, u64_at, opaque_at}
use Rattle.sl_defs.specs.Parts.{optional_text, optional_at, part_at}
use Rattle.sl_defs.specs.Rpc.{call_header_at, auth_at, zero_at, refusal_of}
use Rattle.sl_defs.specs.declared.event.Event.TheVariants as event
use Rattle.sl_types.specs.Handles.{form_text}
use Rattle.sl_types.specs.declared.call.Stable.TheVariants as stable
use Rattle.sl_items.specs.Reading.{fh_at, bytes_at, sattr_at, set_time_at, given_time_at, time_at, stable_at}
use Rattle.sl_items.specs.Spelling.{set_time_text, sattr_text}
use Rattle.sl_calls.specs.Reading.{args_at, create_at, dir_op_at, create_how_at, create_arm_at, write_at}
use Rattle.sl_route.specs.declared.class.Class.TheVariants as class
use Rattle.sl_model.specs.Plan.{Key, NodeKey, NameKey}
use Rattle.sl_model.specs.Volume.{Volume, place_cmp, cut_at, put_seen}
use Rattle.sl_model.specs.Perform.{fresh}
use Rattle.sl_history.specs.Turns.{Sent, Did, Turn, History, turn_of}
use Rattle.sl_history.specs.Arrivals.{datagram, asked}
use Rattle.sl_history.specs.Frames.{frame, is_up}
use Rattle.sl_history.specs.Volumes.{volume_after}
use Rattle.sl_history.specs.Placing.{carrier, key_server, byte_server}
use Rattle.sl_history.specs.Wired.{DiffersAt, HasGranted, IsWiredDid}
use Rattle.sl_witness.specs.Histories.{setup, epoch, turn}
use Rattle.sl_witness.proofs.Maps.{got_past}
use Rattle.sl_witness.proofs.Openings.{either_way}
use Rattle.sl_operations.specs.Histories.{new_node, grant, decided, apply, kept_write}
use Rattle.sl_operations.specs.Runs.{AStableWriteStandsRightly}
use Rattle.sl_operations.proofs.Writing.{write_asked}
use Rattle.sl_operations.proofs.Lawful.{v1, v2, sees_file, created_volume, writes_there, before_decision}

-- ---- places of bytes

place_total : IsTotalOrder place_cmp
place_total = then_total (on_total (λ (k : ℕ × ℕ). k.0) nat_cmp_total) (on_total (λ (k : ℕ × ℕ). k.1) nat_cmp_total)

exact_places : IsAntisymmetric place_cmp
exact_places = exact_pairs nat_cmp nat_cmp exact_unsigned exact_unsigned

pub ends_equal : (o : Ordering) → is_eq o ≡ true → o ≡ Equal
ends_equal Less e = absurd (true≢false (sym e))
ends_equal Equal e = refl
ends_equal Greater e = absurd (true≢false (sym e))

same_place : (q k : ℕ × ℕ) → eq_by_cmp place_cmp q k ≡ true → q ≡ k
same_place q k e = exact_places q k (ends_equal (place_cmp q k) e)

-- no byte was written before
pub nothing_cut : (f size : ℕ) (m : FinMap place_cmp ℕ) (k : ℕ × ℕ) → get m k ≡ None → get (cut_at f size m) k ≡ None
nothing_cut f size m k e =
    get-retain_keys m _ k (λ x t. ap (λ (q : ℕ × ℕ). not (q.0 == f) || nat_lt q.1 size) (sym (exact_places k x t)))
    ∙ (ap (λ o. cond (not (k.0 == f) || nat_lt k.1 size) o None) e ∙ either_way (not (k.0 == f) || nat_lt k.1 size) None)

pub nothing_written : (q : ℕ × ℕ) → get v1.written q ≡ None
unfolding fresh
nothing_written q = nothing_cut 2 0 _ q (nothing_cut 1 32 _ q (get-empty place_cmp q))

two_written : (q : ℕ × ℕ) → get v2.written q ≡ cond (eq_by_cmp place_cmp q (2, 1)) (Some 105) (cond (eq_by_cmp place_cmp q (2, 0)) (Some 104) None)
unfolding fresh
two_written q =
    get-insert place_total _ (2, 1) 105 q
    ∙ ap (cond (eq_by_cmp place_cmp q (2, 1)) (Some 105))
    (get-insert place_total _ (2, 0) 104 q ∙ ap (cond (eq_by_cmp place_cmp q (2, 0)) (Some 104)) (nothing_cut 2 2 _ q (nothing_written q)))

-- only the two bytes differ, and they lie with the small-file server
lies_small :
    (f at : ℕ) (a b : Bool) → eq_by_cmp place_cmp (f, at) (2, 1) ≡ a → eq_by_cmp place_cmp (f, at) (2, 0) ≡ b → DiffersAt v1 v2 f at → byte_server setup f at ≡ 32
unfolding carrier
lies_small f at true b p q differs = ap (λ (k : ℕ × ℕ). byte_server setup k.0 k.1) (same_place (f, at) (2, 1) p)
lies_small f at false true p q differs = ap (λ (k : ℕ × ℕ). byte_server setup k.0 k.1) (same_place (f, at) (2, 0) q)
lies_small f at false false p q differs =
    absurd (differs (ap (λ o. unwrap_or o 0) (nothing_written (f, at) ∙ sym (two_written (f, at) ∙ (ap (λ t. cond t (Some 105) (cond (eq_by_cmp place_cmp (f, at) (2, 0)) (Some 104) None)) p ∙ ap (λ t. cond t (Some 104) None) q)))))

-- ---- servers

mod_one : (s : ℕ) → s % 1 ≡ 0
mod_one s = grind arith

one_directory : (s : ℕ) → carrier setup class.Dir s ≡ 16
unfolding carrier
one_directory s = ap (λ n. 16 + n) (mod_one s)

pub key_lies : (k : Key) → key_server setup k ≡ 16
key_lies (NodeKey f) = one_directory _
key_lies (NameKey d name) = one_directory _

-- ---- the grants

abbrev decision : Turn
decision = turn (event.Give 15) (Sent 16 decided ∷ Sent 17 (apply 16) ∷ Sent 18 (apply 32) ∷ Did 10 epoch kept_write ∷ [])

abbrev with_decision : History
with_decision = decision ∷ before_decision

directory_granted : HasGranted with_decision 1 16
unfolding frame is_up
directory_granted = record { grant = grant 16 0; given = inr (inl (record { gives = refl; up = refl })); kind = refl; receiver = refl; sender = refl; operation = refl }

small_granted : HasGranted with_decision 1 32
unfolding frame is_up
small_granted = record { grant = grant 32 1; given = inl (record { gives = refl; up = refl }); kind = refl; receiver = refl; sender = refl; operation = refl }

-- ---- the effect

-- no object has the fileid 0
none_made : get v1.nodes 0 ≡ None → get v2.nodes 0 ≡ None
unfolding fresh
none_made e = got_past _ 2 _ 0 None refl (ap (λ o. get (put_seen v1.nodes 2 o) 0) sees_file ∙ got_past v1.nodes 2 new_node 0 None refl e)

stands : IsWiredDid setup before_decision decision with_decision v1 v2 10 kept_write (write_asked stable.FileSync)
unfolding frame is_up
stands = record {
  stands = λ changed. inl (
    refl,
    record {
      op = 1;
      now = λ granted is. ap (λ o. unwrap_or o 0) is;
      cells = λ k differs. subst (HasGranted with_decision 1) (sym (key_lies k)) directory_granted;
      bytes = λ f at differs. subst (HasGranted with_decision 1) (sym (lies_small f at (eq_by_cmp place_cmp (f, at) (2, 1)) (eq_by_cmp place_cmp (f, at) (2, 0)) refl refl differs)) small_granted;
    },
  );
  site = record { right = λ n d name e before after named is. absurd (true≢false (sym (ap is_some (sym (none_made before) ∙ after)))) };
}

-- over the volumes that the notes leave
stands_there :
    (v w : Volume) → v ≡ v1 → w ≡ v2 → IsWiredDid setup before_decision decision with_decision v w 10 kept_write (write_asked stable.FileSync)
stands_there v w p q =
    subst (λ v. IsWiredDid setup before_decision decision with_decision v w 10 kept_write (write_asked stable.FileSync)) (sym p)
    (subst (λ w. IsWiredDid setup before_decision decision with_decision v1 w 10 kept_write (write_asked stable.FileSync)) (sym q) stands)

pub a_stable_write_stands_rightly : AStableWriteStandsRightly
unfolding turn_of asked volume_after datagram call_header_at u32_text u64_text u32_at u64_at opaque_at auth_at zero_at refusal_of args_at fh_at bytes_at form_text create_at dir_op_at create_how_at create_arm_at sattr_at set_time_at given_time_at time_at optional_at part_at sattr_text set_time_text optional_text stable_at write_at
a_stable_write_stands_rightly = stands_there _ _ created_volume (ap (λ r. r.0) writes_there)
