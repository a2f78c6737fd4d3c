use Rattle.sl_world.proofs.proxy.Proxy.take.Goals as goal

pub returns-in-Welcome : goal.returns-in-Welcome
returns-in-Welcome c = record { gives = c.greet.ensures.gives c.args.sent_in }
