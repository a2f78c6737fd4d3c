-- Wired histories and others, by computing: a WRITE that stays unstable.
use Rattle.std.proofs.Common.{◌≡◌, ◌≢◌, ℕ, length, refl, sym, ap, ◌∙◌, [], ◌∷◌, Some, None, inl, true≢false, is_some, arith}
use Rattle.std.specs.FinMap.{get}
use Rattle.sl_defs.specs.Items.{u32_text, u64_text, u32_at, u64_at, opaque_at, opaque_text}
use Rattle.sl_defs.specs.Rpc.{call_header_at, auth_at, zero_at, refusal_of, accepted_text}
use Rattle.sl_types.specs.Handles.{form_text, form_at, magic_at, handle_of}
use Rattle.sl_types.specs.declared.call.Stable.TheVariants as stable
use Rattle.sl_items.specs.Reading.{fh_at, bytes_at, stable_at}
use Rattle.sl_calls.specs.Reading.{args_at, write_at}
use Rattle.sl_calls.specs.Args.{args_text}
use Rattle.sl_rpc.specs.Heads.{nobody}
use Rattle.sl_model.specs.declared.node.Node.{Node}
use Rattle.sl_model.specs.Volume.{Volume}
use Rattle.sl_model.specs.Perform.{perform}
use Rattle.sl_history.specs.Turns.{Did, turn_of}
use Rattle.sl_history.specs.Frames.{is_up, frame, in_flight}
use Rattle.sl_history.specs.Arrivals.{datagram, asked}
use Rattle.sl_history.specs.Volumes.{volume_after}
use Rattle.sl_history.specs.Legal.{no_choice}
use Rattle.sl_history.specs.Licensed.{request}
use Rattle.sl_history.specs.Placing.{carrier}
use Rattle.sl_history.specs.Wired.{Wired, frames}
use Rattle.sl_examples.specs.Histories.{setup, epoch}
use Rattle.sl_refusals.specs.Packets.{write}
use Rattle.sl_refusals.specs.Volumes.{filed}
use Rattle.sl_refusals.specs.Bytes.{done_then, UnstableEffectsAreToldApart}
use Rattle.sl_refusals.specs.Bytes as bytes
use Rattle.sl_refusals.proofs.Requests.{welcomed_is_wired}
use Rattle.sl_refusals.proofs.Commits.{before, write_makes}
use Rattle.sl_refusals.proofs.ServedBytes.{is_for, not_served}

-- ---- a WRITE that stays unstable

write_is_wired : Wired setup filed (bytes.write_at 32 3 [])
unfolding frames frame in_flight is_up request volume_after datagram call_header_at u32_text u32_at u64_text u64_at opaque_at opaque_text auth_at zero_at refusal_of accepted_text args_at write_at stable_at bytes_at fh_at args_text form_text
write_is_wired = (
  (
    welcomed_is_wired filed,
    record { flying = tt; may = (record { number = refl; sender = refl; answer = λ is. absurd (true≢false (sym is)); quiet = refl }, tt); told = (tt, tt) },
  ),
  record {
    flying = refl;
    may = (
      record {
        number = refl;
        sender = refl;
        answer = λ is. record {
          asking = _;
          given = inl (record { gives = refl; up = refl });
          answers = record { kind = refl; sender = refl; receiver = refl; fence = refl; tag = refl; op = refl };
        };
        quiet = refl;
      },
      tt,
    );
    told = (tt, tt);
  },
)

abbrev pub written : Volume
written = (perform before (write 0 stable.Unstable) nobody epoch no_choice).0

-- the write changes the volume, but makes no object
it_changes : before ≢ written
it_changes same = absurd (omega (arith, none_is_one))
  where
    none_is_one : ◌≡◌ {A = ℕ} 0 1
    none_is_one = ap (λ v. length v.unstable) same ∙ ap (λ p. length p.0.unstable) write_makes

is_nowhere : (n : Node) → get before.nodes 0 ≡ None → get written.nodes 0 ≡ Some n → ⊥
is_nowhere n none some = true≢false (sym (ap is_some (sym none ∙ ap (λ p. get p.0.nodes 0) (sym write_makes) ∙ some)))

pub done_right : Wired setup filed (done_then (bytes.write_at 32 3 []))
unfolding frame in_flight is_up request volume_after carrier asked turn_of datagram call_header_at u32_text u32_at u64_text u64_at opaque_at opaque_text auth_at zero_at refusal_of accepted_text args_at write_at stable_at bytes_at fh_at args_text form_text form_at magic_at handle_of
done_right = (
  write_is_wired,
  record {
    flying = refl;
    may = (
      record {
        stands = λ differ. record { packet = _; served = record { answer = _; given = refl; receiver = refl; sender = refl; gives = refl }; asking = _; is = refl; arrival = refl };
        site = record { right = λ n d named e none some is of. absurd (is_nowhere n none some) };
      },
      tt,
    );
    told = tt;
  },
)

by_another_server : Wired setup filed (done_then (bytes.write_at 48 3 [])) → ⊥
unfolding frame is_up volume_after carrier asked turn_of datagram call_header_at u32_text u32_at u64_text u64_at opaque_at opaque_text auth_at zero_at refusal_of accepted_text args_at write_at stable_at bytes_at fh_at args_text form_text form_at magic_at handle_of
by_another_server wired = absurd (omega (arith, not_served _ _ 32 _ 48 refl (wired.1.may.0.stands it_changes).served))

for_another_call : Wired setup filed (done_then (bytes.write_at 32 2 [])) → ⊥
unfolding frame is_up request volume_after carrier asked turn_of datagram call_header_at u32_text u32_at u64_text u64_at opaque_at opaque_text auth_at zero_at refusal_of accepted_text args_at write_at stable_at bytes_at fh_at args_text form_text form_at magic_at handle_of
for_another_call wired = absurd (omega (arith, is_for _ _ 3 2 0 2 refl (wired.1.may.0.stands it_changes)))

at_the_server : Wired setup filed (bytes.write_at 32 3 (Did 3 epoch no_choice ∷ [])) → ⊥
unfolding frame is_up volume_after carrier asked turn_of datagram call_header_at u32_text u32_at u64_text u64_at opaque_at opaque_text auth_at zero_at refusal_of accepted_text args_at write_at stable_at bytes_at fh_at args_text form_text form_at magic_at handle_of
at_the_server wired = absurd (omega (arith, not_served _ _ 32 _ 0 refl (wired.1.may.1.0.stands it_changes).served))

pub unstable_effects_are_told_apart : UnstableEffectsAreToldApart
unstable_effects_are_told_apart = (done_right, by_another_server, for_another_call, at_the_server)
