-- Legal replies and others, by computing.
use Rattle.std.proofs.Common.{◌≡◌, ℕ, ◌==◌, List, refl, sym, ap, ◌∙◌, true≢false, arith}
use Rattle.std.specs.Prelude.{slice_index}
use Rattle.sl_defs.specs.Items.{u32_text, u64_text, u32_at, u64_at, opaque_at, opaque_text}
use Rattle.sl_defs.specs.Parts.{optional_at, part_at, optional_text}
use Rattle.sl_defs.specs.Rpc.{call_header_at, auth_at, zero_at, refusal_of, accepted_text}
use Rattle.sl_types.specs.Handles.{form_text}
use Rattle.sl_types.specs.declared.kind.Status.TheVariants as status
use Rattle.sl_items.specs.Reading.{fh_at, bytes_at, sattr_at, set_time_at, given_time_at}
use Rattle.sl_items.specs.Spelling.{sattr_text, set_time_text}
use Rattle.sl_calls.specs.Reading.{args_at, create_at, dir_op_at, create_how_at, create_arm_at}
use Rattle.sl_calls.specs.Args.{args_text, dir_op_text, create_how_text}
use Rattle.sl_replies.specs.Texts.{make_ok_text, wcc_fault_text}
use Rattle.sl_rpc.specs.Heads.{nobody}
use Rattle.sl_model.specs.Volume.{restart}
use Rattle.sl_model.specs.Procedures.{fault}
use Rattle.sl_model.specs.Perform.{perform}
use Rattle.sl_history.specs.Turns.{turn_of}
use Rattle.sl_history.specs.Arrivals.{datagram, asked}
use Rattle.sl_history.specs.Volumes.{volume_after, effect}
use Rattle.sl_history.specs.Legal.{Legal, any_in}
use Rattle.sl_examples.specs.Histories.{start, fence, epoch, file_two}
use Rattle.sl_refusals.specs.Packets.{answers, create}
use Rattle.sl_refusals.specs.Answers.{created, create_answer, EffectRepliesAreToldApart}
use Rattle.sl_refusals.proofs.Performs.{creates}
use Rattle.sl_refusals.proofs.Effects.{is_done, root_is_there, no_name_is_there}

create_answers : (perform (restart fence start) create nobody epoch file_two).1 ≡ create_answer
create_answers = ap (λ p. p.1) (creates (restart fence start) epoch 0 0 0 file_two root_is_there no_name_is_there refl)

is_created : Legal start (created 4 create_answer)
unfolding effect volume_after asked any_in turn_of datagram call_header_at u32_text u32_at u64_text u64_at opaque_at opaque_text auth_at zero_at refusal_of accepted_text args_at create_at fh_at bytes_at sattr_at optional_at part_at dir_op_at create_how_at create_arm_at set_time_at given_time_at args_text dir_op_text create_how_text sattr_text set_time_text optional_text form_text
is_created = (is_done, record { may = (record { first = refl; is = record { event = refl; reply = sym (ap answers create_answers) } }, tt); at_once = tt })

of_another_event : Legal start (created 3 create_answer) → ⊥
unfolding effect asked turn_of datagram call_header_at u32_text u32_at u64_text u64_at opaque_at opaque_text auth_at zero_at refusal_of accepted_text args_at create_at fh_at bytes_at sattr_at optional_at part_at dir_op_at create_how_at create_arm_at set_time_at given_time_at args_text dir_op_text create_how_text sattr_text set_time_text optional_text form_text
of_another_event legal = absurd (omega (arith, legal.1.may.0.is.event))

answers_otherwise : answers (fault create status.Exist) ≡ answers create_answer → ⊥
unfolding u32_text accepted_text wcc_fault_text make_ok_text
answers_otherwise same = true≢false (ap (λ (bytes : List ℕ). slice_index bytes 27 == 17) same)

of_another_answer : Legal start (created 4 (fault create status.Exist)) → ⊥
unfolding effect volume_after asked turn_of datagram call_header_at u32_text u32_at u64_text u64_at opaque_at opaque_text auth_at zero_at refusal_of accepted_text args_at create_at fh_at bytes_at sattr_at optional_at part_at dir_op_at create_how_at create_arm_at set_time_at given_time_at args_text dir_op_text create_how_text sattr_text set_time_text optional_text form_text
of_another_answer legal = answers_otherwise (legal.1.may.0.is.reply ∙ ap answers create_answers)

pub effect_replies_are_told_apart : EffectRepliesAreToldApart
effect_replies_are_told_apart = (is_created, of_another_event, of_another_answer)
