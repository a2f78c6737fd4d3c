-- Licensed histories and others, by computing: what is dropped.
use Rattle.std.proofs.Common.{refl, sym, [], ◌∷◌, ap, true, false, true≢false, lit<, ◌<◌, ℕ, arith}
use Rattle.std.specs.Prelude.{List, Bool}
use Rattle.sl_defs.specs.Items.{u32_text, u64_text, u32_at, opaque_at, opaque_text}
use Rattle.sl_defs.specs.Rpc.{call_header_at, auth_at, zero_at, refusal_of, accepted_text}
use Rattle.sl_types.specs.Handles.{form_text}
use Rattle.sl_items.specs.Reading.{fh_at}
use Rattle.sl_calls.specs.Reading.{args_at}
use Rattle.sl_calls.specs.Args.{args_text}
use Rattle.sl_model.specs.Volume.{Volume}
use Rattle.sl_model.specs.Perform.{fresh}
use Rattle.sl_history.specs.Turns.{Remark, Junk, Full, Lost}
use Rattle.sl_history.specs.Frames.{is_up, last_hello, last_verf}
use Rattle.sl_history.specs.Arrivals.{datagram, waiting, dropped_by}
use Rattle.sl_history.specs.Volumes.{volume_after}
use Rattle.sl_history.specs.Licensed.{Licensed, may_be_lost}
use Rattle.sl_examples.specs.Histories.{start, fence, opened, welcomed}
use Rattle.sl_refusals.specs.Drops.{no_call, asked_up, asked_down, JunkIsToldApart, LossesAreToldApart}

abbrev pub is_none : List Remark → Bool
is_none [] = true
is_none (r ∷ rs) = false

pub opened_is_licensed : (v : Volume) → Licensed v opened
opened_is_licensed v = (tt, record { may = (tt, tt); dropped = refl })

pub welcomed_is_licensed : (v : Volume) → v.verifier < fence → Licensed v welcomed
unfolding volume_after may_be_lost
welcomed_is_licensed v less =
    ((opened_is_licensed v, record { may = (tt, tt); dropped = refl }), record { may = (record { greater = less; lost = refl }, tt); dropped = refl })

pub start_is_below : start.verifier < fence
unfolding fresh
start_is_below = lit< tt

junk : Licensed start (no_call (Junk 3 ∷ []))
unfolding datagram call_header_at u32_at dropped_by is_up
junk = (welcomed_is_licensed start start_is_below, record { may = (tt, tt); dropped = refl })

silent_junk : Licensed start (no_call []) → ⊥
unfolding datagram call_header_at u32_at dropped_by is_up
silent_junk licensed = true≢false (ap is_none licensed.1.dropped)

abbrev junk_number : List Remark → ℕ
junk_number (Junk n ∷ rs) = n
junk_number other = 0

of_another_event : Licensed start (no_call (Junk 2 ∷ [])) → ⊥
unfolding datagram call_header_at u32_at dropped_by is_up
of_another_event licensed = absurd (omega (arith, ap junk_number licensed.1.dropped))

no_junk : Licensed start (asked_up (Junk 3 ∷ [])) → ⊥
unfolding datagram call_header_at u32_text u32_at u64_text opaque_at opaque_text auth_at zero_at refusal_of accepted_text args_at fh_at args_text form_text dropped_by is_up last_hello last_verf waiting
no_junk licensed = true≢false (sym (ap is_none licensed.1.dropped))

pub junk_is_told_apart : JunkIsToldApart
junk_is_told_apart = (junk, silent_junk, of_another_event, no_junk)

lost : Licensed start (asked_down (Lost 2 ∷ []))
unfolding dropped_by is_up
lost = ((opened_is_licensed start, record { may = tt; dropped = refl }), record { may = (tt, tt); dropped = refl })

taken : Licensed start (asked_up [])
unfolding datagram call_header_at u32_text u32_at u64_text opaque_at opaque_text auth_at zero_at refusal_of accepted_text args_at fh_at args_text form_text dropped_by is_up last_hello last_verf waiting
taken = (welcomed_is_licensed start start_is_below, record { may = tt; dropped = refl })

silent_loss : Licensed start (asked_down []) → ⊥
unfolding dropped_by is_up
silent_loss licensed = true≢false (ap is_none licensed.1.dropped)

no_loss : Licensed start (asked_up (Lost 3 ∷ [])) → ⊥
unfolding datagram call_header_at u32_text u32_at u64_text opaque_at opaque_text auth_at zero_at refusal_of accepted_text args_at fh_at args_text form_text dropped_by is_up last_hello last_verf waiting
no_loss licensed = true≢false (sym (ap is_none licensed.1.dropped))

not_full : Licensed start (asked_up (Full 3 ∷ [])) → ⊥
unfolding datagram call_header_at u32_text u32_at u64_text opaque_at opaque_text auth_at zero_at refusal_of accepted_text args_at fh_at args_text form_text dropped_by is_up last_hello last_verf waiting
not_full licensed = true≢false (sym (ap is_none licensed.1.dropped))

pub losses_are_told_apart : LossesAreToldApart
losses_are_told_apart = (lost, taken, silent_loss, no_loss, not_full)
