-- Legal effects and others, by computing.
use Rattle.std.proofs.Common.{◌≡◌, ℕ, ◌==◌, ◌⊎◌, refl, sym, ap, ◌∙◌, [], Some, None, inl, inr, true, false, true≢false, arith, is_some}
use Rattle.std.specs.FinMap.{get, gets}
use Rattle.sl_defs.specs.Items.{u32_text, u64_text, u32_at, u64_at, opaque_at, opaque_text}
use Rattle.sl_defs.specs.Parts.{optional_at, part_at, optional_text}
use Rattle.sl_defs.specs.Rpc.{call_header_at, auth_at, zero_at, refusal_of, accepted_text}
use Rattle.sl_defs.specs.declared.setup.Time.{Time}
use Rattle.sl_defs.specs.declared.note.Choice.{Choice}
use Rattle.sl_types.specs.Handles.{form_text}
use Rattle.sl_types.specs.declared.call.Stable.TheVariants as stable
use Rattle.sl_items.specs.Reading.{fh_at, bytes_at, sattr_at, set_time_at, given_time_at, stable_at}
use Rattle.sl_items.specs.Spelling.{sattr_text, set_time_text}
use Rattle.sl_calls.specs.Reading.{args_at, create_at, dir_op_at, create_how_at, create_arm_at, write_at}
use Rattle.sl_calls.specs.Args.{args_text, dir_op_text, create_how_text}
use Rattle.sl_rpc.specs.Heads.{nobody}
use Rattle.sl_model.specs.Volume.{Volume, seen_as, restart}
use Rattle.sl_model.specs.Perform.{fresh, new_root, perform}
use Rattle.sl_history.specs.Turns.{turn_of}
use Rattle.sl_history.specs.Arrivals.{datagram, asked}
use Rattle.sl_history.specs.Volumes.{volume_after}
use Rattle.sl_history.specs.Legal.{Legal, any_in, is_kept, no_choice}
use Rattle.sl_examples.specs.Histories.{start, fence, epoch, welcomed, file_two}
use Rattle.sl_refusals.specs.Packets.{create, write, name}
use Rattle.sl_refusals.specs.Volumes.{filed, made_file}
use Rattle.sl_refusals.specs.Effects.{done, FileidsAreToldApart, KeptWritesAreToldApart}
use Rattle.std.specs.Cmp.{nat_cmp_total}
use Rattle.sl_refusals.proofs.Lookups.{put_here}
use Rattle.sl_refusals.proofs.Performs.{creates, writes}

pub welcomed_is_legal : (v : Volume) → Legal v welcomed
welcomed_is_legal v = (((tt, record { may = (tt, tt); at_once = tt }), record { may = (tt, tt); at_once = tt }), record { may = (tt, tt); at_once = tt })

-- ---- a new file in the empty root

pub root_is_there : get start.nodes 1 ≡ Some (new_root 1)
unfolding fresh
root_is_there = grind (arith, gets)

pub no_name_is_there : get start.names (1, name) ≡ None
unfolding fresh
no_name_is_there = grind (arith, gets)

pub two_is_unused : get start.used 2 ≡ None
unfolding fresh
two_is_unused = grind (arith, gets)

pub create_is_not_kept : (now : Time) (choice : Choice) → (choice.fileid == 0) ≡ false → false ≡ is_kept (perform (restart fence start) create nobody now choice).1
create_is_not_kept now choice given = sym (ap (λ p. is_kept p.1) (creates (restart fence start) now 0 0 0 choice root_is_there no_name_is_there given))

pub is_done : Legal start (done create file_two)
unfolding volume_after asked any_in turn_of datagram call_header_at u32_text u32_at u64_text u64_at opaque_at opaque_text auth_at zero_at refusal_of accepted_text args_at create_at fh_at bytes_at sattr_at optional_at part_at dir_op_at create_how_at create_arm_at set_time_at given_time_at args_text dir_op_text create_how_text sattr_text set_time_text optional_text form_text
is_done = (
  (welcomed_is_legal start, record { may = tt; at_once = λ up. tt }),
  record {
    may = (
      record {
        changing = refl;
        accepted = refl;
        first = refl;
        after_arrival = inl (refl, omega arith);
        not_later = inl (refl, omega arith);
        unused = inr two_is_unused;
        kept = create_is_not_kept epoch file_two refl;
      },
      tt,
    );
    at_once = tt;
  },
)

used_before : (f : ℕ) → f ≡ 1 → (f ≡ 0) ⊎ (get start.used f ≡ None) → ⊥
unfolding fresh
used_before f is (inl zero) = absurd (omega (arith, is, zero))
used_before f is (inr unused) = true≢false (ap is_some (sym one_is_used ∙ ap (get (fresh 1).used) (sym is) ∙ unused))
  where
    one_is_used : get (fresh 1).used 1 ≡ Some tt
    one_is_used = grind (arith, gets)

of_used : Legal start (done create (record file_two { fileid = 1 })) → ⊥
unfolding volume_after asked turn_of datagram call_header_at u32_text u32_at u64_text u64_at opaque_at opaque_text auth_at zero_at refusal_of accepted_text args_at create_at fh_at bytes_at sattr_at optional_at part_at dir_op_at create_how_at create_arm_at set_time_at given_time_at args_text dir_op_text create_how_text sattr_text set_time_text optional_text form_text
of_used legal = used_before 1 refl legal.1.may.0.unused

pub fileids_are_told_apart : FileidsAreToldApart
fileids_are_told_apart = (is_done, of_used)

-- ---- what is kept

pub file_is_there : get filed.nodes 2 ≡ Some made_file
file_is_there = put_here nat_cmp_total _ 2 _ refl

write_is_kept : (choice : Choice) → true ≡ is_kept (perform (restart fence filed) (write 0 stable.FileSync) nobody epoch choice).1
write_is_kept choice = sym (ap (λ p. is_kept p.1) (writes (restart fence filed) 0 made_file stable.FileSync choice file_is_there (ap (seen_as []) file_is_there)))

kept : Legal filed (done (write 0 stable.FileSync) (record no_choice { kept = true }))
unfolding volume_after asked any_in turn_of datagram call_header_at u32_text u32_at u64_text u64_at opaque_at opaque_text auth_at zero_at refusal_of accepted_text args_at write_at stable_at fh_at bytes_at args_text form_text
kept = (
  (welcomed_is_legal filed, record { may = tt; at_once = λ up. tt }),
  record {
    may = (
      record {
        changing = refl;
        accepted = refl;
        first = refl;
        after_arrival = inl (refl, omega arith);
        not_later = inl (refl, omega arith);
        unused = inl refl;
        kept = write_is_kept _;
      },
      tt,
    );
    at_once = tt;
  },
)

not_kept : Legal filed (done (write 0 stable.FileSync) no_choice) → ⊥
unfolding volume_after asked turn_of datagram call_header_at u32_text u32_at u64_text u64_at opaque_at opaque_text auth_at zero_at refusal_of accepted_text args_at write_at stable_at fh_at bytes_at args_text form_text
not_kept legal = true≢false (write_is_kept no_choice ∙ sym legal.1.may.0.kept)

other_kept : Legal start (done create (record file_two { kept = true })) → ⊥
unfolding volume_after asked turn_of datagram call_header_at u32_text u32_at u64_text u64_at opaque_at opaque_text auth_at zero_at refusal_of accepted_text args_at create_at fh_at bytes_at sattr_at optional_at part_at dir_op_at create_how_at create_arm_at set_time_at given_time_at args_text dir_op_text create_how_text sattr_text set_time_text optional_text form_text
other_kept legal = true≢false (legal.1.may.0.kept ∙ sym (create_is_not_kept epoch (record file_two { kept = true }) refl))

pub kept_writes_are_told_apart : KeptWritesAreToldApart
kept_writes_are_told_apart = (kept, not_kept, other_kept)
