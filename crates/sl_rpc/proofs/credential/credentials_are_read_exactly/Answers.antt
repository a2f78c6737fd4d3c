use Rattle.std.proofs.Common.{ap, ◌∙◌}
use Rattle.sl_defs.specs.Rpc.{auth_sys_at}
use Rattle.sl_defs.proofs.HeaderLaws.{auth_sys_takes, auth_sys_found}
use Rattle.sl_rpc.proofs.credential.credentials_are_read_exactly.Goals as goal

pub returns : goal.returns
returns c = λ body a rest fits. (λ e. auth_sys_takes body (a, rest) fits e, λ t. ap auth_sys_at t.2 ∙ auth_sys_found t.0 a rest t.1)
