use Rattle.sl_edit.proofs.packet.set_verifier.Goals as goal

pub returns-clause-edited : goal.returns-clause-edited
returns-clause-edited c = rw c.verifier_span-span.ensures.exact at c.put_u64.ensures.edited
