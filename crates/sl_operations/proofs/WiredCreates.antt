-- The history of a file that is made is wired, by computing.
use Rattle.std.proofs.Common.{◌≡◌, ℕ, List, Bool, true, false, true≢false, [], ◌∷◌, Some, None, is_some, option_map, unwrap_or, refl, sym, ap, subst, ◌∙◌, inl, inr}
use Rattle.std.proofs.lemmas.Map.Lookups.{CmpEqualImpliesEq, exact_pairs, exact_unsigned, exact_bytes}
use Rattle.std.specs.Cmp.Lexicographic.{slice_cmp}
use Rattle.std.specs.Ordering.{nat_cmp, eq_by_cmp}
use Rattle.std.specs.FinMap.{get, get-empty}
use Rattle.sl_defs.specs.Items.{u32_text, u64_text, u32_at, u64_at, opaque_at}
use Rattle.sl_defs.specs.Parts.{optional_text, optional_at, part_at}
use Rattle.sl_defs.specs.Rpc.{call_header_at, auth_at, zero_at, refusal_of}
use Rattle.sl_defs.specs.declared.event.Event.TheVariants as event
use Rattle.sl_types.specs.Handles.{form_text}
use Rattle.sl_items.specs.Reading.{fh_at, bytes_at, sattr_at, set_time_at, given_time_at, time_at}
use Rattle.sl_items.specs.Spelling.{set_time_text, sattr_text}
use Rattle.sl_calls.specs.Reading.{args_at, create_at, dir_op_at, create_how_at, create_arm_at}
use Rattle.sl_cells.specs.declared.keys.CellKey.TheVariants as key
use Rattle.sl_frames.specs.declared.found.FoundCell.TheVariants as cell
use Rattle.sl_policy.specs.Sites.{site_of, object_site}
use Rattle.sl_model.specs.declared.node.Node.{Node}
use Rattle.sl_model.specs.declared.node.Entry.{Entry}
use Rattle.sl_model.specs.Volume.{Volume, name_cmp, is_dir}
use Rattle.sl_model.specs.Perform.{fresh, new_root}
use Rattle.sl_model.specs.Changing.{cookie_in, entry_to}
use Rattle.sl_history.specs.Turns.{Sent, Did, Replied, Turn, turn_of}
use Rattle.sl_history.specs.Arrivals.{datagram, asked, asked_in}
use Rattle.sl_history.specs.Frames.{frame, in_flight, is_up}
use Rattle.sl_history.specs.Volumes.{volume_after}
use Rattle.sl_history.specs.Licensed.{request}
use Rattle.sl_history.specs.Wired.{Wired, IsWiredTurn, IsWiredDid, LiesWith, frames, cell_of, found_attr, found_name, attr_cell, name_cell, is_quiet, getattr_of}
use Rattle.sl_machine.specs.Parts.{object_cell}
use Rattle.sl_examples.specs.Histories.{start}
use Rattle.sl_examples.proofs.Frames.{welcome_is_wired}
use Rattle.sl_witness.specs.Histories.{setup, epoch, turn, welcomed}
use Rattle.sl_operations.specs.Histories.{name, new_node, create_call, create_reply, ask_name, found_none, mint, minted, create, created_packet, file_two, name_asked, name_told, id_asked, id_told, create_asked, file_made, created}
use Rattle.sl_operations.proofs.Names.{put_past, names_total}
use Rattle.sl_operations.proofs.Creating.{server_is_asked}
use Rattle.sl_operations.proofs.Creating as creating
use Rattle.sl_operations.proofs.Lawful.{v0, v1, has_root, has_no_name, has_file, created_volume}
use Rattle.sl_operations.proofs.Granted.{ends_equal, nothing_written, key_lies}

-- ---- what a volume has

-- an object that is no link
pub tells_node : (v : Volume) (f : ℕ) (n : Node) → get v.nodes f ≡ Some n → get v.texts f ≡ None → cell.Attr (object_cell n []) ≡ cell_of v (key.Attr f)
tells_node v f n is none =
    sym (ap (λ o. found_attr (option_map (attr_cell v f) o)) is ∙ ap (λ o. cell.Attr (object_cell n (unwrap_or o []))) none)

pub tells_name : (v : Volume) (d : ℕ) (named : List ℕ) (e : Entry) → get v.names (d, named) ≡ Some e → cell.Name (name_cell d named e) ≡ cell_of v (key.Name d named)
tells_name v d named e is = sym (ap (λ o. found_name (option_map (name_cell d named) o)) is)

pub tells_none : (v : Volume) (d : ℕ) (named : List ℕ) → get v.names (d, named) ≡ None → cell.Absent ≡ cell_of v (key.Name d named)
tells_none v d named none = sym (ap (λ o. found_name (option_map (name_cell d named) o)) none)

pub no_text : (f : ℕ) → get v0.texts f ≡ None
unfolding fresh
no_text f = get-empty nat_cmp f

-- ---- the new file lies with the directory server

no_bytes : (q : ℕ × ℕ) → get v0.written q ≡ None
unfolding fresh
no_bytes q = get-empty _ q

lies : LiesWith setup v0 v1 16
lies = record {
  cells = λ k differs. key_lies k;
  bytes = λ f at differs. absurd (differs (ap (λ o. unwrap_or o 0) (no_bytes (f, at) ∙ sym (nothing_written (f, at)))));
}

-- its name is the only one
exact_names : CmpEqualImpliesEq name_cmp
exact_names = exact_pairs nat_cmp (slice_cmp nat_cmp) exact_unsigned exact_bytes

no_names : (q : ℕ × List ℕ) → get v0.names q ≡ None
unfolding fresh
no_names q = get-empty name_cmp q

in_root : (d : ℕ) (named : List ℕ) (e : Entry) (same : Bool) → eq_by_cmp name_cmp (d, named) (1, name) ≡ same → get v1.names (d, named) ≡ Some e → d ≡ 1
in_root d named e true is has = ap (λ (k : ℕ × List ℕ). k.0) (exact_names (d, named) (1, name) (ends_equal _ is))
in_root d named e false is has =
    absurd (true≢false (sym (ap is_some (sym (put_past names_total v0.names (1, name) (entry_to new_node (cookie_in (new_root 1))) (d, named) None is (no_names (d, named))) ∙ has))))

file_site : (n : Node) (d : ℕ) (named : List ℕ) → n ≡ new_node → d ≡ 1 → site_of 2 ≡ object_site setup.policy d named (is_dir n.kind)
file_site n d named is_file is_root = sym (ap (λ m. object_site setup.policy d named (is_dir m.kind)) is_file ∙ ap site_of is_root)

abbrev making : Turn
making = turn (event.Give 7) (Sent 8 created_packet ∷ Did 3 epoch file_two ∷ [])

stands : IsWiredDid setup create_asked making (making ∷ create_asked) v0 v1 3 file_two creating.client_asked
unfolding frame is_up
stands = record {
  stands = λ changed. inr (16, refl, refl, lies);
  site = record {
    right = λ n d named e none some has of.
        file_site n d named (ap (λ o. unwrap_or o n) (sym some ∙ has_file)) (in_root d named e _ refl has);
  };
}

-- over the volume that the note leaves
stands_there : (w : Volume) → w ≡ v1 → IsWiredDid setup create_asked making (making ∷ create_asked) v0 w 3 file_two creating.client_asked
stands_there w q = subst (λ w. IsWiredDid setup create_asked making (making ∷ create_asked) v0 w 3 file_two creating.client_asked) (sym q) stands

-- ---- the turns

name_is_asked : IsWiredTurn setup start welcomed (turn (event.Call 0 (create_call 7 0)) (Sent 3 ask_name ∷ []))
unfolding frames frame is_up request
name_is_asked = record { flying = tt; may = (record { number = refl; sender = refl; answer = λ is. absurd (true≢false (sym is)); quiet = refl }, tt); told = (tt, tt) }

name_is_told : IsWiredTurn setup start name_asked (turn (event.Give 3) (Sent 4 found_none ∷ []))
unfolding frames frame in_flight is_up request volume_after
name_is_told = record {
  flying = refl;
  may = (
    record {
      number = refl;
      sender = refl;
      answer = λ is. record {
        asking = ask_name;
        given = inl (record { gives = refl; up = refl });
        answers = record { kind = refl; sender = refl; receiver = refl; fence = refl; tag = refl; op = refl };
      };
      quiet = refl;
    },
    tt,
  );
  told = ((λ here. tells_none v0 1 name has_no_name, (λ here. tells_node v0 1 (new_root 1) has_root (no_text 1), tt)), tt);
}

id_is_asked : IsWiredTurn setup start name_told (turn (event.Give 4) (Sent 5 mint ∷ []))
unfolding frames frame in_flight is_up request
id_is_asked = record { flying = refl; may = (record { number = refl; sender = refl; answer = λ is. absurd (true≢false (sym is)); quiet = refl }, tt); told = (tt, tt) }

id_is_told : IsWiredTurn setup start id_asked (turn (event.Give 5) (Sent 6 minted ∷ []))
unfolding frames frame in_flight is_up request
id_is_told = record {
  flying = refl;
  may = (
    record {
      number = refl;
      sender = refl;
      answer = λ is. record {
        asking = mint;
        given = inl (record { gives = refl; up = refl });
        answers = record { kind = refl; sender = refl; receiver = refl; fence = refl; tag = refl; op = refl };
      };
      quiet = refl;
    },
    tt,
  );
  told = (tt, tt);
}

create_is_asked : IsWiredTurn setup start id_told (turn (event.Give 6) (Sent 7 create ∷ []))
unfolding frames frame in_flight is_up request
create_is_asked = record {
  flying = refl;
  may = (
    record {
      number = refl;
      sender = refl;
      answer = λ is. absurd (true≢false (sym is));
      quiet = ap (λ d. is_quiet (volume_after start (turn (event.Give 6) [] ∷ id_told)) (getattr_of (asked_in d))) server_is_asked;
    },
    tt,
  );
  told = (tt, tt);
}

file_is_made : IsWiredTurn setup start create_asked making
unfolding frames frame in_flight is_up request turn_of asked volume_after datagram call_header_at u32_text u64_text u32_at u64_at opaque_at auth_at zero_at refusal_of args_at fh_at bytes_at form_text create_at dir_op_at create_how_at create_arm_at sattr_at set_time_at given_time_at time_at optional_at part_at sattr_text set_time_text optional_text
file_is_made = record {
  flying = refl;
  may = (
    record {
      number = refl;
      sender = refl;
      answer = λ is. record {
        asking = create;
        given = inl (record { gives = refl; up = refl });
        answers = record { kind = refl; sender = refl; receiver = refl; fence = refl; tag = refl; op = refl };
      };
      quiet = refl;
    },
    (stands_there _ created_volume, tt),
  );
  told = (tt, tt);
}

is_replied : IsWiredTurn setup start file_made (turn (event.Give 8) (Replied 3 8 (create_reply 7 0) ∷ []))
unfolding frame in_flight is_up turn_of asked datagram call_header_at u32_text u64_text u32_at u64_at opaque_at auth_at zero_at refusal_of args_at fh_at bytes_at form_text create_at dir_op_at create_how_at create_arm_at sattr_at set_time_at given_time_at time_at optional_at part_at sattr_text set_time_text optional_text
is_replied = record { flying = refl; may = (tt, tt); told = tt }

pub wired_created : Wired setup start created
wired_created = (((((((welcome_is_wired, name_is_asked), name_is_told), id_is_asked), id_is_told), create_is_asked), file_is_made), is_replied)
