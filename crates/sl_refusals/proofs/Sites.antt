-- Wired histories and others, by computing: the site of a new object.
use Rattle.std.proofs.Common.{◌≡◌, ◌==◌, ◌%◌, ◌+◌, ℕ, List, refl, sym, ap, subst, ◌∙◌, Some, None, inr, Bool, true, false, true≢false, unwrap_or, is_some, arith}
use Rattle.std.specs.Cmp.{nat_cmp_total}
use Rattle.std.specs.Cmp.Lexicographic.{slice_cmp}
use Rattle.std.specs.Ordering.{nat_cmp, eq_by_cmp, is_eq}
use Rattle.std.specs.declared.cmp.Ordering.{Ordering}
use Rattle.std.specs.declared.cmp.Ordering.TheVariants.{Less, Equal, Greater}
use Rattle.std.proofs.lemmas.Map.Lookups.{CmpEqualImpliesEq, exact_pairs, exact_unsigned, exact_bytes}
use Rattle.std.specs.FinMap.{empty, get, retain_keys, get-empty}
use Rattle.sl_defs.specs.Items.{u32_text, u64_text, u32_at, u64_at, opaque_at, opaque_text}
use Rattle.sl_defs.specs.Parts.{optional_at, part_at, optional_text}
use Rattle.sl_defs.specs.Rpc.{call_header_at, auth_at, zero_at, refusal_of, accepted_text}
use Rattle.sl_types.specs.Handles.{form_text}
use Rattle.sl_types.specs.declared.kind.Kind.TheVariants as kind
use Rattle.sl_items.specs.Reading.{fh_at, bytes_at, sattr_at, set_time_at, given_time_at}
use Rattle.sl_items.specs.Spelling.{sattr_text, set_time_text}
use Rattle.sl_calls.specs.Reading.{args_at, create_at, dir_op_at, create_how_at, create_arm_at}
use Rattle.sl_calls.specs.Args.{args_text, dir_op_text, create_how_text}
use Rattle.sl_policy.specs.Sites.{site_of, name_site, object_site}
use Rattle.sl_rpc.specs.Heads.{nobody}
use Rattle.sl_model.specs.declared.node.Node.{Node}
use Rattle.sl_model.specs.declared.node.Entry.{Entry}
use Rattle.sl_model.specs.Plan.{Key, NodeKey, NameKey}
use Rattle.sl_model.specs.Volume.{Volume, name_cmp, restart, is_dir, after_changes}
use Rattle.sl_model.specs.Perform.{fresh, new_root, perform}
use Rattle.sl_history.specs.Turns.{turn_of}
use Rattle.sl_history.specs.Frames.{is_up, frame, in_flight}
use Rattle.sl_history.specs.Arrivals.{datagram, asked}
use Rattle.sl_history.specs.Volumes.{volume_after}
use Rattle.sl_history.specs.Legal.{no_choice}
use Rattle.sl_history.specs.Licensed.{request}
use Rattle.sl_history.specs.Placing.{carrier, key_server}
use Rattle.sl_history.specs.Wired.{Wired, IsOfSite, LiesWith, DiffersAt, frames}
use Rattle.sl_examples.specs.Histories.{setup, start, fence, epoch}
use Rattle.sl_refusals.specs.Packets.{create, name}
use Rattle.sl_refusals.specs.Sequences.{new}
use Rattle.sl_refusals.specs.Places.{made_as, of_another_site, SitesAreToldApart}
use Rattle.sl_refusals.proofs.Lookups.{put_here, put_past, names_total}
use Rattle.sl_refusals.proofs.Performs.{made, creates}
use Rattle.sl_refusals.proofs.Effects.{root_is_there, no_name_is_there}
use Rattle.sl_refusals.proofs.Requests.{welcomed_is_wired}
use Rattle.sl_refusals.proofs.Differences.{none_left, no_bytes}

abbrev before : Volume
before = restart fence start

-- the volume with the new file
abbrev with_file : ℕ → Volume
with_file f = after_changes (made epoch 0 0 0 f).changes before

abbrev made_now : ℕ → Volume
made_now f = (perform before create nobody epoch (record no_choice { fileid = f })).0

makes : (f : ℕ) → (f == 0) ≡ false → made_now f ≡ with_file f
makes f given = ap (λ p. p.0) (creates before epoch 0 0 0 (record no_choice { fileid = f }) root_is_there no_name_is_there given)

has_file : (f : ℕ) → eq_by_cmp nat_cmp f f ≡ true → get (with_file f).nodes f ≡ Some (new f)
has_file f same = put_here nat_cmp_total _ f _ same

abbrev the_entry : ℕ → Entry
the_entry f = record { fileid = f; kind = kind.Reg; cookie = 3 }

has_entry : (f : ℕ) → get (with_file f).names (1, name) ≡ Some (record { fileid = f; kind = kind.Reg; cookie = 3 })
has_entry f = put_here names_total _ (1, name) _ refl

is_free : (f : ℕ) → eq_by_cmp nat_cmp f 1 ≡ false → get before.nodes f ≡ None
unfolding fresh
is_free f apart = put_past nat_cmp_total empty 1 (new_root 1) f None apart (get-empty nat_cmp f)

elsewhere : Wired setup start (made_as of_another_site) → ⊥
unfolding volume_after asked turn_of datagram call_header_at u32_text u32_at u64_text u64_at opaque_at opaque_text auth_at zero_at refusal_of accepted_text args_at create_at fh_at bytes_at sattr_at optional_at part_at dir_op_at create_how_at create_arm_at set_time_at given_time_at args_text dir_op_text create_how_text sattr_text set_time_text optional_text form_text
elsewhere wired = absurd (omega (arith, site_is))
  where
    site_is : ◌≡◌ {A = ℕ} 1 0
    site_is =
        wired.1.may.0.site.right (new of_another_site) 1 name (record { fileid = of_another_site; kind = kind.Reg; cookie = 3 })
        (is_free of_another_site refl)
        (ap (λ v. get v.nodes of_another_site) (makes of_another_site refl) ∙ has_file of_another_site refl)
        (ap (λ v. get v.names (1, name)) (makes of_another_site refl) ∙ has_entry of_another_site)
        refl

-- ---- in its place

-- the one directory server has all cells
one_server : (site : ℕ) → 16 + site % 1 ≡ 16
one_server site = omega arith

pub cells_lie : (k : Key) → key_server setup k ≡ 16
unfolding carrier
cells_lie (NodeKey f) = one_server (site_of f)
cells_lie (NameKey d named) = one_server (name_site setup.policy d named)

no_byte_differs : (f at : ℕ) → DiffersAt before (with_file 2) f at → ⊥
no_byte_differs f at differ =
    differ (ap (λ o. unwrap_or o 0) (no_bytes (f, at) ∙ sym (none_left (retain_keys start.written _) _ (none_left start.written _ no_bytes) (f, at))))

lies_with_it : LiesWith setup before (made_now 2) 16
lies_with_it =
    subst (λ v. LiesWith setup before v 16) (sym (makes 2 refl)) (record { cells = λ k differ. cells_lie k; bytes = λ f at differ. absurd (no_byte_differs f at differ) })

-- the only name is the file's
exact_names : CmpEqualImpliesEq name_cmp
exact_names = exact_pairs nat_cmp (slice_cmp nat_cmp) exact_unsigned exact_bytes

pub is_equal : (o : Ordering) → is_eq o ≡ true → o ≡ Equal
is_equal Less is = absurd (true≢false (sym is))
is_equal Equal is = refl
is_equal Greater is = absurd (true≢false (sym is))

no_names : (q : ℕ × List ℕ) → get start.names q ≡ None
unfolding fresh
no_names q = get-empty name_cmp q

in_root : (d : ℕ) (named : List ℕ) (e : Entry) (same : Bool) → eq_by_cmp name_cmp (d, named) (1, name) ≡ same → get (with_file 2).names (d, named) ≡ Some e → d ≡ 1
in_root d named e true is has = ap (λ (k : ℕ × List ℕ). k.0) (exact_names (d, named) (1, name) (is_equal _ is))
in_root d named e false is has =
    absurd (true≢false (sym (ap is_some (sym (put_past names_total start.names (1, name) (the_entry 2) (d, named) None is (no_names (d, named))) ∙ has))))

-- the site of a file in that directory
file_site : (n : Node) (d : ℕ) (named : List ℕ) → n ≡ new 2 → d ≡ 1 → site_of 2 ≡ object_site setup.policy d named (is_dir n.kind)
file_site n d named is_file is_root = sym (ap (λ m. object_site setup.policy d named (is_dir m.kind)) is_file ∙ ap site_of is_root)

is_of_site : IsOfSite setup before (made_now 2) 2
is_of_site = subst (λ v. IsOfSite setup before v 2) (sym (makes 2 refl)) (record {
  right = λ n d named e none some has of.
      file_site n d named (ap (λ o. unwrap_or o n) (sym some ∙ has_file 2 refl)) (in_root d named e _ refl has);
})

in_place : Wired setup start (made_as 2)
unfolding frames frame in_flight is_up request volume_after asked turn_of datagram call_header_at u32_text u32_at u64_text u64_at opaque_at opaque_text auth_at zero_at refusal_of accepted_text args_at create_at fh_at bytes_at sattr_at optional_at part_at dir_op_at create_how_at create_arm_at set_time_at given_time_at args_text dir_op_text create_how_text sattr_text set_time_text optional_text form_text
in_place = (
  (
    welcomed_is_wired start,
    record { flying = tt; may = (record { number = refl; sender = refl; answer = λ is. absurd (true≢false (sym is)); quiet = refl }, tt); told = (tt, tt) },
  ),
  record { flying = refl; may = (record { stands = λ differ. inr (16, refl, refl, lies_with_it); site = is_of_site }, tt); told = tt },
)

pub sites_are_told_apart : SitesAreToldApart
sites_are_told_apart = (in_place, elsewhere)
