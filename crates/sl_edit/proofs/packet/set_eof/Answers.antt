use Rattle.sl_edit.proofs.packet.set_eof.Goals as goal

pub returns-clause-edited : goal.returns-clause-edited
returns-clause-edited c = rw (c.eof_span-span.ensures.exact, c.flag_number.ensures) at c.put_u32.ensures.edited
