use Rattle.std.proofs.Common.{◌≡◌, List, ℕ, Option, Some, None, sym, ap, ◌∙◌}
use Rattle.std.proofs.lemmas.Bool.{true≢false}
use Rattle.std.specs.Option.{option_copied}
use Rattle.sl_defs.specs.declared.setup.Setup.{Setup}
use Rattle.sl_history.specs.Placing.{byte_server}
use Rattle.sl_wiring.specs.Served.{served_by}
use Rattle.sl_wiring.proofs.Serving.{answered_for, packet_for, served_for}
use Rattle.sl_wiring.proofs.docket.Docket.is_packet_for.Goals as goal

none_some : (o : Option (List ℕ)) (x : List ℕ) → o ≡ None → o ≡ Some x → ⊥
none_some o x none is = let e = sym none ∙ is in cc

pub returns-in-Some : goal.returns-in-Some
returns-in-Some c = λ setup start t past before is.
    let at : c.byte_server-server.result ≡ byte_server setup c.args.file c.args.offset = c.byte_server-server.ensures ∙ ap (λ (s : Setup). byte_server s c.args.file c.args.offset) is.setup_is in
    let served = ap (served_by past t) (sym at) ∙ sym (c.served.ensures setup start t past before is) ∙ ap option_copied c.in-Some.is in (
      λ said. packet_for setup past t c.args.arrival c.args.file c.args.offset c.in-Some.field-0.now c.args.self.now.answered served is.newest.answered (c.is_this_event.ensures.0 said),
      λ for. c.is_this_event.ensures.1 (answered_for setup past t c.args.arrival c.args.file c.args.offset c.args.self.now.answered is.newest.answered for),
    )

pub returns-in-None : goal.returns-in-None
returns-in-None c = λ setup start t past before is.
    let at : c.byte_server-server.result ≡ byte_server setup c.args.file c.args.offset = c.byte_server-server.ensures ∙ ap (λ (s : Setup). byte_server s c.args.file c.args.offset) is.setup_is in (
      λ e. absurd (true≢false (sym e)),
      λ for. absurd (none_some (option_copied c.served.result) for.packet (ap option_copied c.in-None.is)
          (c.served.ensures setup start t past before is ∙ ap (served_by past t) at ∙ served_for setup past t c.args.arrival c.args.file c.args.offset for)),
    )
