-- Wired histories and others, by computing: the bytes of a READ.
use Rattle.std.proofs.Common.{◌≡◌, ◌==◌, ℕ, List, refl, sym, ap, ◌∙◌, [], ◌∷◌, Option, Some, None, inl, true≢false, unwrap_or, arith}
use Rattle.std.specs.Prelude.{slice_index}
use Rattle.sl_defs.specs.Items.{u32_text, u64_text, u32_at, u64_at, opaque_at, opaque_text}
use Rattle.sl_defs.specs.Parts.{optional_at, part_at, optional_text}
use Rattle.sl_defs.specs.Rpc.{call_header_at, auth_at, zero_at, refusal_of, accepted_text}
use Rattle.sl_types.specs.Handles.{form_text, form_at, magic_at, handle_of}
use Rattle.sl_items.specs.Reading.{fh_at, bytes_at, kind_at, time_at, fattr_front_at, fattr_place_at, fattr_times_at, fattr_at}
use Rattle.sl_items.specs.Spelling.{time_text, fattr_front_text, fattr_place_text, fattr_times_text, fattr_text}
use Rattle.sl_calls.specs.Reading.{args_at, read_at}
use Rattle.sl_calls.specs.Args.{args_text}
use Rattle.sl_replies.specs.Reading.{status_at, reply_at, reply_of, result_at, read_ok_at}
use Rattle.sl_xdr.specs.Reading.{flag_at}
use Rattle.sl_replies.specs.Texts.{read_ok_text}
use Rattle.sl_edit.specs.Spans.{results_in, word_at}
use Rattle.sl_frames.specs.declared.frame.Frame.{Frame}
use Rattle.sl_frames.specs.declared.body.Body.{Body}
use Rattle.sl_frames.specs.declared.body.Body.TheVariants as body
use Rattle.sl_history.specs.Turns.{Turn, History, turn_of}
use Rattle.sl_history.specs.Frames.{is_up, frame, in_flight, event_of_sending}
use Rattle.sl_history.specs.Arrivals.{datagram, asked}
use Rattle.sl_history.specs.Volumes.{volume_after}
use Rattle.sl_history.specs.Licensed.{request, reaches}
use Rattle.sl_history.specs.Placing.{carrier}
use Rattle.sl_history.specs.Wired.{Wired, IsPacketFor, IsServedBy, frames, results_of, read_bytes}
use Rattle.sl_examples.specs.Histories.{setup}
use Rattle.sl_refusals.specs.Volumes.{filed}
use Rattle.sl_refusals.specs.Bytes.{replied, done_then, ReadBytesAreToldApart, UnstableEffectsAreToldApart}
use Rattle.sl_refusals.specs.Bytes as bytes
use Rattle.sl_refusals.proofs.Requests.{welcomed_is_wired}

read_is_wired : Wired setup filed (bytes.read_at 32 3 (120 ∷ []))
unfolding frames frame in_flight is_up request volume_after datagram call_header_at u32_text u32_at u64_text u64_at opaque_at opaque_text auth_at zero_at refusal_of accepted_text args_at read_at fh_at args_text form_text
read_is_wired = (
  (
    welcomed_is_wired filed,
    record { flying = tt; may = (record { number = refl; sender = refl; answer = λ is. absurd (true≢false (sym is)); quiet = refl }, tt); told = (tt, tt) },
  ),
  record {
    flying = refl;
    may = (
      record {
        number = refl;
        sender = refl;
        answer = λ is. record {
          asking = _;
          given = inl (record { gives = refl; up = refl });
          answers = record { kind = refl; sender = refl; receiver = refl; fence = refl; tag = refl; op = refl };
        };
        quiet = refl;
      },
      tt,
    );
    told = (tt, tt);
  },
)

right : Wired setup filed (replied 4 (120 ∷ []) (bytes.read_at 32 3 (120 ∷ [])))
unfolding frame in_flight event_of_sending is_up request carrier asked turn_of datagram call_header_at u32_text u32_at u64_text u64_at opaque_at opaque_text auth_at zero_at refusal_of accepted_text args_at read_at bytes_at fh_at args_text form_text form_at magic_at handle_of results_in word_at reply_of reply_at status_at result_at flag_at read_ok_at optional_at part_at optional_text fattr_at fattr_front_at fattr_place_at fattr_times_at time_at kind_at fattr_text fattr_front_text fattr_place_text fattr_times_text time_text read_ok_text
right = (
  read_is_wired,
  record {
    flying = refl;
    may = (
      record {
        answer = record { packet = _; served = record { answer = _; given = refl; receiver = refl; sender = refl; gives = refl }; asking = _; is = refl; arrival = refl };
        sent = refl;
        same = refl;
      },
      tt,
    );
    told = tt;
  },
)

-- ---- what the proxy was given

abbrev sender_of : Option Frame → ℕ
sender_of None = 0
sender_of (Some f) = f.from

abbrev body_bytes : Body → Option (List ℕ)
body_bytes (body.Packet packet) = Some packet
body_bytes other = None

abbrev packet_of : Option Frame → Option (List ℕ)
packet_of None = None
packet_of (Some f) = body_bytes f.body

-- by another server
pub not_served : (past : History) (t : Turn) (server : ℕ) (packet : List ℕ) (from : ℕ) → sender_of (reaches past t) ≡ from → IsServedBy past t server packet → server ≡ from
not_served past t server packet from is x = sym x.sender ∙ sym (ap sender_of x.given) ∙ is

is_packet : (past : History) (t : Turn) (server : ℕ) (packet given : List ℕ) → packet_of (reaches past t) ≡ Some given → IsServedBy past t server packet → packet ≡ given
is_packet past t server packet given is x = ap (λ o. unwrap_or o packet) (sym (ap body_bytes x.gives) ∙ sym (ap packet_of x.given) ∙ is)

abbrev arrival_of : Option Frame → ℕ
arrival_of None = 0
arrival_of (Some f) = f.arrival

-- the call of the request that is answered
abbrev asked_by : History → Option Frame → ℕ
asked_by past None = 0
asked_by past (Some f) = arrival_of (request past f.fence f.tag)

pub is_for : (past : History) (t : Turn) (n f offset arrival : ℕ) → asked_by past (reaches past t) ≡ arrival → IsPacketFor setup past t n f offset → arrival ≡ n
is_for past t n f offset arrival is x = sym is ∙ (ap (asked_by past) x.served.given ∙ (ap arrival_of x.is ∙ x.arrival))

by_another : Wired setup filed (replied 4 (120 ∷ []) (bytes.read_at 48 3 (120 ∷ []))) → ⊥
unfolding frame is_up carrier asked turn_of datagram call_header_at u32_text u32_at u64_text u64_at opaque_at opaque_text auth_at zero_at refusal_of accepted_text args_at read_at bytes_at fh_at args_text form_text form_at magic_at handle_of results_in word_at reply_of reply_at status_at result_at flag_at read_ok_at optional_at part_at optional_text fattr_at fattr_front_at fattr_place_at fattr_times_at time_at kind_at fattr_text fattr_front_text fattr_place_text fattr_times_text time_text read_ok_text
by_another wired = absurd (omega (arith, not_served _ _ 32 _ 48 refl wired.1.may.0.answer.served))

in_another_event : Wired setup filed (replied 5 (120 ∷ []) (bytes.read_at 32 3 (120 ∷ []))) → ⊥
unfolding frame event_of_sending asked turn_of datagram call_header_at u32_text u32_at u64_text u64_at opaque_at opaque_text auth_at zero_at refusal_of accepted_text args_at read_at bytes_at fh_at args_text form_text form_at magic_at handle_of results_in word_at reply_of reply_at status_at result_at flag_at read_ok_at optional_at part_at optional_text fattr_at fattr_front_at fattr_place_at fattr_times_at time_at kind_at fattr_text fattr_front_text fattr_place_text fattr_times_text time_text read_ok_text
in_another_event wired = absurd (omega (arith, event_is))
  where
    event_is : ◌≡◌ {A = ℕ} 4 5
    event_is = ap (λ o. unwrap_or o 0) wired.1.may.0.sent

other_bytes : Wired setup filed (replied 4 (121 ∷ []) (bytes.read_at 32 3 (120 ∷ []))) → ⊥
unfolding frame is_up carrier asked turn_of datagram call_header_at u32_text u32_at u64_text u64_at opaque_at opaque_text auth_at zero_at refusal_of accepted_text args_at read_at bytes_at fh_at args_text form_text form_at magic_at handle_of results_in word_at reply_of reply_at status_at result_at flag_at read_ok_at optional_at part_at optional_text fattr_at fattr_front_at fattr_place_at fattr_times_at time_at kind_at fattr_text fattr_front_text fattr_place_text fattr_times_text time_text read_ok_text
other_bytes wired =
    true≢false (sym (ap (λ (packet : List ℕ). slice_index (unwrap_or (read_bytes (results_of 6 packet)) []) 0 == 120) (is_packet _ _ 32 _ _ refl wired.1.may.0.answer.served))
    ∙ ap (λ o. slice_index (unwrap_or o []) 0 == 120) wired.1.may.0.same)

for_another : Wired setup filed (replied 4 (120 ∷ []) (bytes.read_at 32 2 (120 ∷ []))) → ⊥
unfolding frame is_up request carrier asked turn_of datagram call_header_at u32_text u32_at u64_text u64_at opaque_at opaque_text auth_at zero_at refusal_of accepted_text args_at read_at bytes_at fh_at args_text form_text form_at magic_at handle_of results_in word_at reply_of reply_at status_at result_at flag_at read_ok_at optional_at part_at optional_text fattr_at fattr_front_at fattr_place_at fattr_times_at time_at kind_at fattr_text fattr_front_text fattr_place_text fattr_times_text time_text read_ok_text
for_another wired = absurd (omega (arith, is_for _ _ 3 2 0 2 refl wired.1.may.0.answer))

too_soon : Wired setup filed bytes.replied_before → ⊥
unfolding frame is_up carrier asked turn_of datagram call_header_at u32_text u32_at u64_text u64_at opaque_at opaque_text auth_at zero_at refusal_of accepted_text args_at read_at bytes_at fh_at args_text form_text form_at magic_at handle_of results_in word_at reply_of reply_at status_at result_at flag_at read_ok_at optional_at part_at optional_text fattr_at fattr_front_at fattr_place_at fattr_times_at time_at kind_at fattr_text fattr_front_text fattr_place_text fattr_times_text time_text read_ok_text
too_soon wired = absurd (omega (arith, not_served _ _ 32 _ 0 refl wired.1.may.0.answer.served))

pub read_bytes_are_told_apart : ReadBytesAreToldApart
read_bytes_are_told_apart = (right, by_another, in_another_event, other_bytes, for_another, too_soon)
