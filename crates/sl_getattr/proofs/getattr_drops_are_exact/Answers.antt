use Rattle.sl_getattr.proofs.Histories.{all_turns, drops_of}
use Rattle.sl_getattr.proofs.Packets.{forwards_are_read, answers_are_read, calls_fit}
use Rattle.sl_model.specs.Perform.{fresh}
use Rattle.sl_getattr.proofs.getattr_drops_are_exact.Goals as goal

pub returns : goal.returns
returns c s h w one run built =
    drops_of (fresh s.volume) h (all_turns (forwards_are_read c.handles_have_slots.ensures c.call_xids_have_slots.ensures) answers_are_read (calls_fit c.handles_have_slots.ensures c.call_xids_have_slots.ensures) s one h w run built).licensed
