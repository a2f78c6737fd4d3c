-- Legal histories and others, by computing.
use Rattle.std.proofs.Common.{◌≡◌, ℕ, refl, sym, [], ◌∷◌, ◌∙◌, true, false, true≢false, lit<, ap, arith}
use Rattle.std.specs.Prelude.{Contains, List, slice_index, ◌==◌}
use Rattle.sl_defs.specs.Items.{u32_text, u32_at, opaque_at}
use Rattle.sl_defs.specs.Rpc.{call_header_at, auth_at, zero_at, refusal_of, accepted_text}
use Rattle.sl_history.specs.Turns.{Turn, History, Remark, Replied, turn_of}
use Rattle.sl_history.specs.Frames.{is_up}
use Rattle.sl_history.specs.Arrivals.{datagram}
use Rattle.sl_history.specs.Legal.{Legal, IsLegalTurn, IsReply, IsImmediate, any_in}
use Rattle.sl_examples.specs.Histories.{start, opening, opened, null_reply, answered, twice_answered, wrongly_answered, unanswered}
use Rattle.sl_examples.specs.Claims.{RepliesAreToldApart}

opening_is_legal : Legal start opened
opening_is_legal = (tt, record { may = (tt, tt); at_once = tt })

here : (r : Remark) → Contains (r ∷ []) r
here r = (0, lit< tt, refl)

one : Legal start answered
unfolding datagram call_header_at u32_text u32_at opaque_at auth_at zero_at refusal_of accepted_text turn_of is_up any_in
one = (opening_is_legal, record { may = (record { first = refl; is = record { up = refl; at_arrival = refl; event = refl; reply = refl } }, tt); at_once = λ up. here _ })

two : Legal start twice_answered → ⊥
unfolding any_in
two legal = true≢false legal.1.may.1.0.first

other : Legal start wrongly_answered → ⊥
unfolding datagram call_header_at u32_text u32_at opaque_at auth_at zero_at refusal_of accepted_text turn_of
other legal = true≢false (ap (λ (bytes : List ℕ). slice_index bytes 3 == 8) legal.1.may.0.is.reply)

none : Legal start unanswered → ⊥
unfolding datagram call_header_at u32_text u32_at opaque_at auth_at zero_at refusal_of accepted_text is_up
none legal = let there : Contains [] (Replied 1 1 null_reply) = legal.1.at_once refl in absurd (omega (arith, there.1))

pub replies_are_told_apart : RepliesAreToldApart
replies_are_told_apart = (one, two, other, none)
