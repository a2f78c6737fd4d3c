-- Wired histories and others, by computing: a flush that the second server didn't grant.
use Rattle.std.proofs.Common.{◌≡◌, ◌==◌, ◌&&◌, ℕ, refl, sym, ap, ◌∙◌, [], ◌∷◌, Bool, false, true≢false}
use Rattle.sl_defs.specs.Items.{u32_text, u64_text, u32_at, u64_at, opaque_at, opaque_text}
use Rattle.sl_defs.specs.Rpc.{call_header_at, auth_at, zero_at, refusal_of, accepted_text}
use Rattle.sl_types.specs.Handles.{form_text}
use Rattle.sl_items.specs.Reading.{fh_at, bytes_at, stable_at}
use Rattle.sl_calls.specs.Reading.{args_at, write_at}
use Rattle.sl_calls.specs.Args.{args_text}
use Rattle.sl_frames.specs.declared.frame.Frame.{Frame}
use Rattle.sl_history.specs.Bodies.{is_grant}
use Rattle.sl_history.specs.Turns.{Flush, History, turn_of}
use Rattle.sl_history.specs.Frames.{is_up, frame}
use Rattle.sl_history.specs.Arrivals.{datagram, asked}
use Rattle.sl_history.specs.Volumes.{volume_after}
use Rattle.sl_history.specs.Placing.{carrier}
use Rattle.sl_history.specs.Wired.{Wired, HasGranted}
use Rattle.sl_examples.specs.Histories.{setup}
use Rattle.sl_refusals.specs.Volumes.{filed}
use Rattle.sl_refusals.specs.Grants.{locking, granted_by_first, granted_again, noted_by_server, GrantsAreToldApart}
use Rattle.sl_refusals.proofs.Given.{some_given, not_given, same_numbers, both_true}
use Rattle.sl_refusals.proofs.Grants.{byte_differs, by_both}

-- ---- the second hasn't

abbrev second_grants : Frame → Bool
second_grants f = is_grant f.body && f.from == 32

not_by_second : (h : History) (op : ℕ) → some_given second_grants h ≡ false → HasGranted h op 32 → ⊥
not_by_second h op none x = not_given second_grants h x.grant none (both_true _ _ (ap is_grant x.kind) (same_numbers _ _ x.sender)) x.given

by_first : Wired setup filed (granted_by_first (Flush 2 ∷ [])) → ⊥
unfolding frame carrier volume_after asked turn_of datagram call_header_at u32_text u32_at u64_text u64_at opaque_at opaque_text auth_at zero_at refusal_of accepted_text args_at write_at stable_at bytes_at fh_at args_text form_text
by_first wired = let granted = wired.1.may.0.granted in not_by_second _ granted.op refl (granted.bytes 2 0 byte_differs)

by_none : Wired setup filed (locking (Flush 2 ∷ [])) → ⊥
unfolding frame carrier volume_after asked turn_of datagram call_header_at u32_text u32_at u64_text u64_at opaque_at opaque_text auth_at zero_at refusal_of accepted_text args_at write_at stable_at bytes_at fh_at args_text form_text
by_none wired = let granted = wired.1.may.1.1.0.granted in not_by_second _ granted.op refl (granted.bytes 2 0 byte_differs)

-- nor of the operation that is granted now

abbrev second_grants_another : Frame → Bool
second_grants_another f = is_grant f.body && (f.from == 32 && f.op == 2)

not_of_another : (h : History) (op : ℕ) → op ≡ 2 → some_given second_grants_another h ≡ false → HasGranted h op 32 → ⊥
not_of_another h op is none x =
    not_given second_grants_another h x.grant none
    (both_true _ _ (ap is_grant x.kind) (both_true _ _ (same_numbers _ _ x.sender) (same_numbers _ _ (x.operation ∙ is)))) x.given

of_another : Wired setup filed (granted_again (Flush 2 ∷ [])) → ⊥
unfolding frame is_up carrier volume_after asked turn_of datagram call_header_at u32_text u32_at u64_text u64_at opaque_at opaque_text auth_at zero_at refusal_of accepted_text args_at write_at stable_at bytes_at fh_at args_text form_text
of_another wired = let granted = wired.1.may.0.granted in not_of_another _ granted.op (granted.now 2 refl) refl (granted.bytes 2 0 byte_differs)

-- ---- the server notes it

by_server : Wired setup filed noted_by_server → ⊥
unfolding frame
by_server wired = true≢false (sym wired.1.may.1.0.coordinator)

pub grants_are_told_apart : GrantsAreToldApart
grants_are_told_apart = (by_both, by_first, by_none, by_server, of_another)
