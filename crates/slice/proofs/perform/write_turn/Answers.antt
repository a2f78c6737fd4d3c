use Rattle.std.proofs.Common.{◌≡◌, false, rules}
use Rattle.slice.proofs.Plain.{unprinted}
use Rattle.slice.proofs.Steps.{keeps_same}
use Rattle.slice.proofs.perform.write_turn.Goals as goal

pub returns-then-not-have_texts-clause-wrote : goal.returns-then-not-have_texts-clause-wrote
returns-then-not-have_texts-clause-wrote g c =
    let no : c.have_texts.result ≡ false = search rules in
    (unprinted c.have_texts.result c.args.notes.now c.have_texts.ensures no, keeps_same (g.K.Sink.holds c.args.sink.now))
