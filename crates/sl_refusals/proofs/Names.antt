-- Wired histories and others, by computing: what a directory server tells of names.
use Rattle.std.proofs.Common.{◌≡◌, ℕ, List, length, refl, sym, ap, ◌∙◌, [], ◌∷◌, inl, true, false, true≢false, arith}
use Rattle.std.specs.Prelude.{option_map, filter, map, nat_lt}
use Rattle.std.specs.FinMap.{empty, entries, len-entries, len-empty, entries-insert}
use Rattle.std.specs.FinMap.Entries.{put}
use Rattle.sl_frames.specs.declared.found.FoundCell.{FoundCell}
use Rattle.sl_frames.specs.declared.found.FoundCell.TheVariants as found
use Rattle.sl_cells.specs.declared.keys.CellKey.TheVariants as key
use Rattle.sl_model.specs.declared.node.Entry.{Entry}
use Rattle.sl_model.specs.Volume.{name_cmp, listed}
use Rattle.sl_history.specs.Volumes.{volume_after}
use Rattle.sl_history.specs.Frames.{is_up, frame, in_flight}
use Rattle.sl_history.specs.Licensed.{request}
use Rattle.sl_history.specs.Placing.{carrier}
use Rattle.sl_history.specs.Wired.{Wired, frames, cell_of, found_name, name_cell, names_with, lies_with, up_to, line_cell}
use Rattle.sl_examples.specs.Histories.{setup}
use Rattle.sl_refusals.specs.Packets.{name}
use Rattle.sl_refusals.specs.Volumes.{filed, made_entry}
use Rattle.sl_refusals.specs.Names.{name_of_file, told_of_name, told_names, NamesAreToldApart, ListingsAreToldApart}
use Rattle.sl_refusals.proofs.Lookups.{put_here, names_total}
use Rattle.sl_refusals.proofs.Requests.{welcomed_is_wired}

has_name : cell_of filed (key.Name 1 name) ≡ found.Name name_of_file
has_name = ap (λ o. found_name (option_map (name_cell 1 name) o)) (put_here names_total empty (1, name) made_entry refl)

told : Wired setup filed (told_of_name (found.Name name_of_file))
unfolding frames frame in_flight is_up request volume_after
told = (
  (
    welcomed_is_wired filed,
    record { flying = tt; may = (record { number = refl; sender = refl; answer = λ is. absurd (true≢false (sym is)); quiet = refl }, tt); told = (tt, tt) },
  ),
  record {
    flying = refl;
    may = (
      record {
        number = refl;
        sender = refl;
        answer = λ is. record {
          asking = _;
          given = inl (record { gives = refl; up = refl });
          answers = record { kind = refl; sender = refl; receiver = refl; fence = refl; tag = refl; op = refl };
        };
        quiet = refl;
      },
      tt,
    );
    told = ((λ here. sym has_name, tt), tt);
  },
)

-- the fileid of a name's cell
abbrev leads_to : FoundCell → ℕ
leads_to (found.Name c) = c.fileid
leads_to other = 0

elsewhere : Wired setup filed (told_of_name (found.Name (record name_of_file { fileid = 3 }))) → ⊥
unfolding request volume_after carrier
elsewhere wired = absurd (omega (arith, ap leads_to (wired.1.told.0.0 refl ∙ has_name)))

absent : Wired setup filed (told_of_name found.Absent) → ⊥
unfolding request volume_after carrier
absent wired = absurd (omega (arith, ap leads_to (wired.1.told.0.0 refl ∙ has_name)))

pub names_are_told_apart : NamesAreToldApart
names_are_told_apart = (told, elsewhere, absent)

-- ---- all names

no_entries : {X : Type 0} (es : List X) → length es ≡ 0 → es ≡ []
no_entries [] none = refl
no_entries (e ∷ es) none = absurd (omega (arith, none))

one_entry : entries filed.names ≡ ((1, name), made_entry) ∷ []
one_entry = entries-insert names_total empty (1, name) made_entry ∙ ap (put name_cmp (1, name) made_entry) (no_entries _ (sym (len-entries _) ∙ len-empty name_cmp Entry))

the_names : names_with setup filed 16 1 0 ≡ record { name = name; fileid = 2; kind = made_entry.kind; cookie = 3 } ∷ []
unfolding carrier
the_names = ap (λ es. filter (lies_with setup 1 16) (listed 1 0 [] es)) one_entry

listed_right : Wired setup filed (told_names (name_of_file ∷ []) false)
unfolding frames frame in_flight is_up request volume_after
listed_right = (
  (
    welcomed_is_wired filed,
    record { flying = tt; may = (record { number = refl; sender = refl; answer = λ is. absurd (true≢false (sym is)); quiet = refl }, tt); told = (tt, tt) },
  ),
  record {
    flying = refl;
    may = (
      record {
        number = refl;
        sender = refl;
        answer = λ is. record {
          asking = _;
          given = inl (record { gives = refl; up = refl });
          answers = record { kind = refl; sender = refl; receiver = refl; fence = refl; tag = refl; op = refl };
        };
        quiet = refl;
      },
      tt,
    );
    told = (record { front = sym (ap (λ xs. map (line_cell 1) (up_to 512 0 xs)) the_names); rest = sym (ap (λ xs. nat_lt 1 (length xs)) the_names) }, tt);
  },
)

missing : Wired setup filed (told_names [] false) → ⊥
unfolding request volume_after
missing wired = absurd (omega (arith, ap length (wired.1.told.0.front ∙ ap (λ xs. map (line_cell 1) (up_to 512 0 xs)) the_names)))

no_more : Wired setup filed (told_names (name_of_file ∷ []) true) → ⊥
unfolding request volume_after
no_more wired = true≢false (wired.1.told.0.rest ∙ ap (λ xs. nat_lt 1 (length xs)) the_names)

pub listings_are_told_apart : ListingsAreToldApart
listings_are_told_apart = (listed_right, missing, no_more)
