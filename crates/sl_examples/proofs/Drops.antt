-- Licensed histories and others, by computing: what is dropped.
use Rattle.std.proofs.Common.{◌≡◌, ℕ, refl, sym, [], ◌∷◌, ap, true, false, true≢false}
use Rattle.std.specs.Prelude.{List, Bool}
use Rattle.sl_defs.specs.Items.{u32_text, u32_at, u64_at, opaque_at}
use Rattle.sl_defs.specs.Rpc.{call_header_at, auth_at, zero_at, refusal_of, accepted_text}
use Rattle.sl_items.specs.Reading.{fh_at}
use Rattle.sl_calls.specs.Reading.{args_at}
use Rattle.sl_history.specs.Turns.{Turn, History, Remark}
use Rattle.sl_history.specs.Frames.{is_up, last_hello, last_verf}
use Rattle.sl_history.specs.Arrivals.{datagram, waiting, dropped_by}
use Rattle.sl_history.specs.Licensed.{Licensed, IsLicensedTurn}
use Rattle.sl_examples.specs.Histories.{start, opened, too_early, dropped_silently, dropped_though_welcome}
use Rattle.sl_examples.specs.Claims.{DropsAreToldApart}

abbrev is_none : List Remark → Bool
is_none [] = true
is_none (r ∷ rs) = false

pub opening_is_licensed : Licensed start opened
opening_is_licensed = (tt, record { may = (tt, tt); dropped = refl })

early : Licensed start too_early
unfolding datagram call_header_at u32_text u32_at opaque_at auth_at zero_at refusal_of accepted_text args_at fh_at dropped_by is_up last_hello last_verf waiting
early = (opening_is_licensed, record { may = (tt, tt); dropped = refl })

silent : Licensed start dropped_silently → ⊥
unfolding datagram call_header_at u32_text u32_at opaque_at auth_at zero_at refusal_of accepted_text args_at fh_at dropped_by is_up last_hello last_verf waiting
silent licensed = true≢false (ap is_none licensed.1.dropped)

late : Licensed start dropped_though_welcome → ⊥
unfolding datagram call_header_at u32_text u32_at opaque_at auth_at zero_at refusal_of accepted_text args_at fh_at dropped_by is_up last_hello last_verf waiting
late licensed = true≢false (sym (ap is_none licensed.1.dropped))

pub drops_are_told_apart : DropsAreToldApart
drops_are_told_apart = (early, silent, late)
