use Rattle.sl_edit.proofs.packet.set_count.Goals as goal

pub returns-clause-edited : goal.returns-clause-edited
returns-clause-edited c = rw c.count_span-span.ensures.exact at c.put_u32.ensures.edited
