use Rattle.sl_edit.proofs.packet.restore_handle.Goals as goal

pub returns-clause-edited : goal.returns-clause-edited
returns-clause-edited c = rw c.keepers_span-span.ensures.exact at c.put.ensures.edited
