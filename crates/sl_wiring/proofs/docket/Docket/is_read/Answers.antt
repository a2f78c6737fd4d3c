use Rattle.std.proofs.Common.{◌≡◌, List, ℕ, Option, Some, None, sym, ap, ◌∙◌}
use Rattle.std.specs.Option.{option_copied}
use Rattle.sl_defs.specs.declared.bytes.NoMemory.{NoMemory}
use Rattle.sl_history.specs.Turns.{so_far}
use Rattle.sl_history.specs.Wired.{given_event, read_bytes, results_of}
use Rattle.sl_wiring.specs.Served.{served_by}
use Rattle.sl_wiring.proofs.Saying.{says_bool}
use Rattle.sl_wiring.proofs.Serving.{is_read, read_from, some_is}
use Rattle.sl_wiring.proofs.docket.Docket.is_read.Goals as goal

none_some : (o : Option (List ℕ)) (x : List ℕ) → o ≡ None → o ≡ Some x → ⊥
none_some o x none is = let e = sym none ∙ is in cc

pub returns-in_default : goal.returns-in_default
returns-in_default c = λ setup start t past before file offset is at read.
    none_some (option_copied c.served.result) read.answer.packet (ap option_copied c.in_default.is)
    (c.served.ensures setup start t past before is ∙ read_from setup past t c.args.arrival c.args.event file offset c.args.server c.args.bytes.now at read)

pub returns : goal.returns
returns c = λ setup start t past before file offset is at.
    let served : served_by past t c.args.server ≡ Some c.in-Some.packet.now = sym (c.served.ensures setup start t past before is) ∙ ap option_copied c.in-Some.is in
    let this : c.args.self.now.answered ≡ Some c.args.arrival = c.is_this_event.ensures.0 c.if-not-is_this_event.false in
    let sent : given_event past t.happening ≡ Some c.args.event = sym (c.sent_in.ensures (so_far t before) past is.ledger) ∙ c.is_this_event-2.ensures.0 c.if-not-is_this_event-2.false in
    says_bool NoMemory c.are_these.result (
      λ said. is_read setup past t c.args.arrival c.args.event file offset c.args.server c.args.bytes.now c.in-Some.packet.now c.args.self.now.answered at served is.newest.answered this sent (sym c.in_ok-read.ensures ∙ c.are_these.ensures.0 said),
      λ read. c.are_these.ensures.1 (c.in_ok-read.ensures
          ∙ ap (λ p. read_bytes (results_of 6 p)) (some_is c.in-Some.packet.now read.answer.packet (sym served ∙ read_from setup past t c.args.arrival c.args.event file offset c.args.server c.args.bytes.now at read)) ∙ read.same),
    )
