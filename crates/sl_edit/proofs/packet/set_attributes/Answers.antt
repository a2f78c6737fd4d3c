use Rattle.sl_edit.proofs.packet.set_attributes.Goals as goal

pub returns-clause-edited : goal.returns-clause-edited
returns-clause-edited c = rw (c.attributes_span-span.ensures.exact, c.fattr_bytes.ensures) at c.put.ensures.edited
