use Rattle.sl_getattr.proofs.Histories.{all_turns}
use Rattle.sl_getattr.proofs.Packets.{forwards_are_read, answers_are_read, calls_fit}
use Rattle.sl_getattr.proofs.getattr_histories_are_legal.Goals as goal

pub returns : goal.returns
returns c s h w one run built =
    (all_turns (forwards_are_read c.handles_have_slots.ensures c.call_xids_have_slots.ensures) answers_are_read (calls_fit c.handles_have_slots.ensures c.call_xids_have_slots.ensures) s one h w run built).legal
