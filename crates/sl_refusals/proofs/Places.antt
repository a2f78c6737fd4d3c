-- Wired histories and others, by computing: by whom an effect is noted.
use Rattle.std.proofs.Common.{◌≡◌, refl, sym, ap, subst, ◌∙◌, Some, None, inl, inr, true≢false, is_some}
use Rattle.std.specs.Cmp.{nat_cmp_total}
use Rattle.std.specs.Ordering.{nat_cmp}
use Rattle.std.specs.FinMap.{empty, get, get-empty}
use Rattle.sl_defs.specs.Items.{u32_text, u64_text, u32_at, u64_at, opaque_at, opaque_text}
use Rattle.sl_defs.specs.Parts.{optional_at, part_at, optional_text}
use Rattle.sl_defs.specs.Rpc.{call_header_at, auth_at, zero_at, refusal_of, accepted_text}
use Rattle.sl_types.specs.Handles.{form_text}
use Rattle.sl_items.specs.Reading.{fh_at, sattr_at, set_time_at, given_time_at, time_at}
use Rattle.sl_items.specs.Spelling.{sattr_text, set_time_text}
use Rattle.sl_calls.specs.Reading.{args_at, setattr_at}
use Rattle.sl_calls.specs.Args.{args_text}
use Rattle.sl_frames.specs.declared.body.Body.TheVariants as body
use Rattle.sl_rpc.specs.Heads.{nobody}
use Rattle.sl_model.specs.declared.node.Node.{Node}
use Rattle.sl_model.specs.Volume.{Volume, seen, put_seen}
use Rattle.sl_model.specs.Perform.{fresh, new_root, perform}
use Rattle.sl_history.specs.Turns.{turn_of}
use Rattle.sl_history.specs.Frames.{is_up, frame, in_flight}
use Rattle.sl_history.specs.Arrivals.{datagram, asked}
use Rattle.sl_history.specs.Volumes.{volume_after}
use Rattle.sl_history.specs.Legal.{no_choice}
use Rattle.sl_history.specs.Licensed.{request}
use Rattle.sl_history.specs.Wired.{Wired, LiesWith, frames}
use Rattle.sl_examples.specs.Histories.{start, epoch, greeting}
use Rattle.sl_refusals.specs.Packets.{change_root}
use Rattle.sl_refusals.specs.Answers.{changed_root}
use Rattle.sl_refusals.specs.Places.{wide, welcomed_wide, changed_by, forwarded}
use Rattle.sl_refusals.proofs.Lookups.{put_past, flushed_past}
use Rattle.sl_refusals.proofs.Looks.{before, after, change_makes}
use Rattle.sl_refusals.proofs.Differences.{no_byte_differs, cells_lie}

-- ---- the histories

welcomed_is_wired : Wired wide start welcomed_wide
unfolding frames frame in_flight is_up request volume_after
welcomed_is_wired = (
  (
    (tt, record { flying = tt; may = (record { number = refl; sender = refl; answer = λ is. absurd (true≢false (sym is)); quiet = refl }, tt); told = (tt, tt) }),
    record {
      flying = refl;
      may = (
        record {
          number = refl;
          sender = refl;
          answer = λ is. record {
            asking = greeting 0 1 body.Hello;
            given = inl (record { gives = refl; up = refl });
            answers = record { kind = refl; sender = refl; receiver = refl; fence = refl; tag = refl; op = refl };
          };
          quiet = refl;
        },
        tt,
      );
      told = (tt, tt);
    },
  ),
  record { flying = refl; may = (tt, tt); told = tt },
)

abbrev pub changed_now : Volume
changed_now = (perform before change_root nobody epoch no_choice).0

lies_with_first : LiesWith wide before changed_now 16
lies_with_first =
    subst (λ p. LiesWith wide before p.0 16) (sym change_makes) (record { cells = cells_lie; bytes = λ f at differ. absurd (no_byte_differs f at differ) })

no_fileid_zero : get before.nodes 0 ≡ None
unfolding fresh
no_fileid_zero = put_past nat_cmp_total empty 1 (new_root 1) 0 None refl (get-empty nat_cmp 0)

-- no object is made
nothing_made : (n : Node) → get changed_now.nodes 0 ≡ Some n → ⊥
nothing_made n some =
    true≢false (sym (ap is_some (sym none_after ∙ (ap (λ p. get p.0.nodes 0) (sym change_makes) ∙ some))))
  where
    none_after : get after.nodes 0 ≡ None
    none_after = put_past nat_cmp_total (put_seen before.nodes 1 (seen before 1)) 1 changed_root 0 None refl (flushed_past before.nodes 1 (seen before 1) 0 None refl no_fileid_zero)

pub by_first : Wired wide start (changed_by 16 forwarded)
unfolding frames frame in_flight is_up request volume_after asked turn_of datagram call_header_at u32_text u32_at u64_text u64_at opaque_at opaque_text auth_at zero_at refusal_of accepted_text args_at setattr_at fh_at sattr_at optional_at part_at time_at set_time_at given_time_at args_text sattr_text set_time_text optional_text form_text
by_first = (
  (
    welcomed_is_wired,
    record { flying = tt; may = (record { number = refl; sender = refl; answer = λ is. absurd (true≢false (sym is)); quiet = refl }, tt); told = (tt, tt) },
  ),
  record {
    flying = refl;
    may = (
      record {
        stands = λ differ. inr (16, refl, refl, lies_with_first);
        site = record { right = λ n d named e none some is of. absurd (nothing_made n some) };
      },
      tt,
    );
    told = tt;
  },
)
