use Rattle.sl_world.proofs.Serving.{gives_result}
use Rattle.sl_world.proofs.directory.Directory.step.Goals as goal

pub returns : goal.returns
returns c = record { gives = gives_result c.args.self.now c.serve.new.self c.args.frame.now c.serve.result c.serve.ensures }
