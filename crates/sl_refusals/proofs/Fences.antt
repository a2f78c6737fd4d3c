-- Fenced histories and others, by computing.
use Rattle.std.proofs.Common.{refl, sym, true≢false, arith}
use Rattle.sl_defs.specs.Items.{u32_text, u64_text, u32_at, u64_at, opaque_at, opaque_text}
use Rattle.sl_defs.specs.Rpc.{call_header_at, auth_at, zero_at, refusal_of, accepted_text}
use Rattle.sl_types.specs.Handles.{form_text}
use Rattle.sl_items.specs.Reading.{fh_at}
use Rattle.sl_calls.specs.Reading.{args_at}
use Rattle.sl_calls.specs.Args.{args_text}
use Rattle.sl_history.specs.Turns.{Flush, turn_of}
use Rattle.sl_history.specs.Frames.{is_up, frame, last_verf}
use Rattle.sl_history.specs.Arrivals.{datagram, asked, waiting}
use Rattle.sl_history.specs.Fenced.{Fenced}
use Rattle.sl_examples.specs.Histories.{welcomed}
use Rattle.sl_refusals.specs.Fences.{restarted, asked_to_flush, notes, effect, asked_before, replies, FencesAreToldApart, OldCallsAreToldApart}

welcomed_is_fenced : Fenced welcomed
welcomed_is_fenced = (((tt, (tt, tt)), (tt, tt)), (tt, tt))

flushed : Fenced (notes (Flush 2) asked_to_flush)
unfolding is_up frame last_verf
flushed = ((welcomed_is_fenced, (tt, tt)), ((λ here. omega arith), tt))

done : Fenced (notes effect asked_to_flush)
unfolding is_up frame last_verf
done = ((welcomed_is_fenced, (tt, tt)), ((λ here. omega arith), tt))

flushed_late : Fenced (notes (Flush 2) (restarted 5 asked_to_flush)) → ⊥
unfolding is_up frame last_verf
flushed_late fenced = absurd (omega (arith, fenced.1.0 refl))

done_late : Fenced (notes effect (restarted 5 asked_to_flush)) → ⊥
unfolding is_up frame last_verf
done_late fenced = absurd (omega (arith, fenced.1.0 refl))

pub fences_are_told_apart : FencesAreToldApart
fences_are_told_apart = (flushed, done, flushed_late, done_late)

waits : Fenced (replies asked_before)
unfolding waiting asked turn_of datagram call_header_at u32_text u32_at u64_text u64_at opaque_at opaque_text auth_at zero_at refusal_of accepted_text args_at fh_at args_text form_text
waits = ((welcomed_is_fenced, (tt, tt)), (refl, tt))

forgotten : Fenced (replies (restarted 5 asked_before)) → ⊥
unfolding waiting asked turn_of datagram call_header_at u32_text u32_at u64_text u64_at opaque_at opaque_text auth_at zero_at refusal_of accepted_text args_at fh_at args_text form_text
forgotten fenced = true≢false (sym fenced.1.0)

pub old_calls_are_told_apart : OldCallsAreToldApart
old_calls_are_told_apart = (waits, forgotten)
