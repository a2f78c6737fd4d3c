-- Licensed histories and others, by computing: the want of fileids.
use Rattle.std.proofs.Common.{◌≡◌, ◌==◌, ◌&&◌, ℕ, refl, ap, inl, Bool, true, false}
use Rattle.sl_defs.specs.Items.{u32_text, u64_text, u32_at, u64_at, opaque_at, opaque_text}
use Rattle.sl_defs.specs.Parts.{optional_at, part_at, optional_text}
use Rattle.sl_defs.specs.Rpc.{call_header_at, auth_at, zero_at, refusal_of, accepted_text}
use Rattle.sl_types.specs.Handles.{form_text}
use Rattle.sl_items.specs.Reading.{fh_at, bytes_at, sattr_at, set_time_at, given_time_at}
use Rattle.sl_items.specs.Spelling.{sattr_text, set_time_text}
use Rattle.sl_calls.specs.Reading.{args_at, create_at, dir_op_at, create_how_at, create_arm_at}
use Rattle.sl_calls.specs.Args.{args_text, dir_op_text, create_how_text}
use Rattle.sl_rpc.specs.Heads.{nobody}
use Rattle.sl_model.specs.Laws.{status_of}
use Rattle.sl_model.specs.Volume.{restart}
use Rattle.sl_model.specs.Perform.{perform}
use Rattle.sl_frames.specs.declared.frame.Frame.{Frame}
use Rattle.sl_frames.specs.declared.body.Body.{Body}
use Rattle.sl_frames.specs.declared.body.Body.TheVariants as body
use Rattle.sl_history.specs.Turns.{History, turn_of}
use Rattle.sl_history.specs.Frames.{is_up, frame, last_hello, last_verf}
use Rattle.sl_history.specs.Arrivals.{datagram, asked, waiting, dropped_by}
use Rattle.sl_history.specs.Volumes.{volume_after}
use Rattle.sl_history.specs.Legal.{no_choice}
use Rattle.sl_history.specs.Licensed.{Licensed, IsTold, is_no_space}
use Rattle.sl_examples.specs.Histories.{start, fence, epoch}
use Rattle.sl_refusals.specs.Packets.{create}
use Rattle.sl_refusals.specs.Effects.{done}
use Rattle.sl_refusals.specs.Frames.{request, answer}
use Rattle.sl_refusals.specs.Flushes.{minted, told, not_yet_told, WantOfFileidsIsToldApart}
use Rattle.sl_refusals.proofs.Given.{some_given, not_given, some_sent, not_sent, same_numbers, both_true}
use Rattle.sl_refusals.proofs.Performs.{none_left}
use Rattle.sl_refusals.proofs.Effects.{root_is_there, no_name_is_there}
use Rattle.sl_refusals.proofs.Drops.{welcomed_is_licensed, start_is_below}

has_no_space : is_no_space (status_of (perform (restart fence start) create nobody epoch no_choice).1) ≡ true
has_no_space = ap (λ p. is_no_space (status_of p.1)) (none_left (restart fence start) 0 0 0 root_is_there no_name_is_there)

minted_is_licensed : Licensed start (minted 3 0)
unfolding datagram call_header_at u32_text u32_at u64_text u64_at opaque_at opaque_text auth_at zero_at refusal_of accepted_text args_at create_at fh_at bytes_at sattr_at optional_at part_at dir_op_at create_how_at create_arm_at set_time_at given_time_at args_text dir_op_text create_how_text sattr_text set_time_text optional_text form_text dropped_by is_up last_hello last_verf waiting
minted_is_licensed = ((welcomed_is_licensed start start_is_below, record { may = (tt, tt); dropped = refl }), record { may = (tt, tt); dropped = refl })

is_told : Licensed start (told 3 0)
unfolding frame is_up volume_after asked turn_of datagram call_header_at u32_text u32_at u64_text u64_at opaque_at opaque_text auth_at zero_at refusal_of accepted_text args_at create_at fh_at bytes_at sattr_at optional_at part_at dir_op_at create_how_at create_arm_at set_time_at given_time_at args_text dir_op_text create_how_text sattr_text set_time_text optional_text form_text
is_told = (
  minted_is_licensed,
  record {
    may = (
      record {
        kept = tt;
        no_space = λ is. record {
          asked_for = request 16 1 3 (body.Mint 0);
          answer = answer 16 1 (body.Minted 0);
          sent = record { number = 3; is = refl };
          site = 0;
          mint = refl;
          arrival = refl;
          given = inl (record { gives = refl; up = refl });
          receiver = refl;
          fence = refl;
          tag = refl;
          none = refl;
        };
      },
      tt,
    );
    dropped = refl;
  },
)

-- ---- nobody was given a Minted

abbrev says_none : Body → Bool
says_none (body.Minted fileid) = fileid == 0
says_none other = false

abbrev is_none : Frame → Bool
is_none f = says_none f.body

not_told : (h : History) → some_given is_none h ≡ false → (n : ℕ) → IsTold h n → ⊥
not_told h none n x = not_given is_none h x.answer none (ap says_none x.none) x.given

untold : Licensed start not_yet_told → ⊥
unfolding frame volume_after asked turn_of datagram call_header_at u32_text u32_at u64_text u64_at opaque_at opaque_text auth_at zero_at refusal_of accepted_text args_at create_at fh_at bytes_at sattr_at optional_at part_at dir_op_at create_how_at create_arm_at set_time_at given_time_at args_text dir_op_text create_how_text sattr_text set_time_text optional_text form_text
untold licensed = not_told _ refl 3 (licensed.1.may.0.no_space has_no_space)

unasked : Licensed start (done create no_choice) → ⊥
unfolding frame volume_after asked turn_of datagram call_header_at u32_text u32_at u64_text u64_at opaque_at opaque_text auth_at zero_at refusal_of accepted_text args_at create_at fh_at bytes_at sattr_at optional_at part_at dir_op_at create_how_at create_arm_at set_time_at given_time_at args_text dir_op_text create_how_text sattr_text set_time_text optional_text form_text
unasked licensed = not_told _ refl 3 (licensed.1.may.0.no_space has_no_space)

told_some : Licensed start (told 3 5) → ⊥
unfolding frame volume_after asked turn_of datagram call_header_at u32_text u32_at u64_text u64_at opaque_at opaque_text auth_at zero_at refusal_of accepted_text args_at create_at fh_at bytes_at sattr_at optional_at part_at dir_op_at create_how_at create_arm_at set_time_at given_time_at args_text dir_op_text create_how_text sattr_text set_time_text optional_text form_text
told_some licensed = not_told _ refl 3 (licensed.1.may.0.no_space has_no_space)

-- a fileid is asked for, for this call
abbrev asks_fileid : Body → Bool
asks_fileid (body.Mint site) = true
asks_fileid other = false

abbrev asks_for : ℕ → Frame → Bool
asks_for n f = asks_fileid f.body && f.arrival == n

not_asked : (h : History) (n : ℕ) → some_sent (asks_for n) h ≡ false → IsTold h n → ⊥
not_asked h n none x =
    not_sent (asks_for n) h x.asked_for none (both_true _ _ (ap asks_fileid x.mint) (same_numbers _ _ x.arrival)) x.sent

for_another_call : Licensed start (told 2 0) → ⊥
unfolding frame volume_after asked turn_of datagram call_header_at u32_text u32_at u64_text u64_at opaque_at opaque_text auth_at zero_at refusal_of accepted_text args_at create_at fh_at bytes_at sattr_at optional_at part_at dir_op_at create_how_at create_arm_at set_time_at given_time_at args_text dir_op_text create_how_text sattr_text set_time_text optional_text form_text
for_another_call licensed = not_asked _ 3 refl (licensed.1.may.0.no_space has_no_space)

pub want_of_fileids_is_told_apart : WantOfFileidsIsToldApart
want_of_fileids_is_told_apart = (is_told, told_some, for_another_call, untold, unasked)
