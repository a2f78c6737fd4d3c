use Rattle.sl_edit.proofs.packet.set_handle.Goals as goal

pub returns-clause-edited : goal.returns-clause-edited
returns-clause-edited c = rw (c.sized-span.ensures.exact, c.handle_span.ensures.exact) at c.put.ensures.edited
