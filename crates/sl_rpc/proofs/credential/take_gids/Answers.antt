use Rattle.std.proofs.Common.{◌≡◌, ℕ, subst, arith}
use Rattle.sl_rpc.proofs.Groups.{SoFar, begins, goes_on, fails, ends, gives_none}
use Rattle.sl_rpc.proofs.credential.take_gids.Goals as goal

pub loop-i-init : goal.loop-i-init
loop-i-init c = rw c.new-gids.ensures (begins c.args.count c.args.cursor.now.rest)

pub loop-i-preserved : goal.loop-i-preserved
loop-i-preserved c = rw c.push.ensures (goes_on c.args.count c.loop-i.i c.args.cursor.now.rest c.loop-i.gids c.loop-i.cursor.rest c.in_ok-take_u32.field-0 c.take_u32.new.self.rest c.loop-i.invariant c.in_ok-take_u32.ensures.exact)

pub returns-in_err-take_u32 : goal.returns-in_err-take_u32
returns-in_err-take_u32 c = gives_none _ c.from_residual.result _ c.from_residual.ensures.0 (fails c.args.count c.loop-i.i c.args.cursor.now.rest c.loop-i.gids c.loop-i.cursor.rest c.loop-i.invariant c.loop-i-test.true c.in_err-take_u32.ensures.exact)

pub returns : goal.returns
returns c =
    let all : c.loop-i.i ≡ c.args.count = omega arith in
    ends c.args.count c.args.cursor.now.rest c.loop-i.gids c.loop-i.cursor.rest (subst (λ (i : ℕ). SoFar c.args.count i c.args.cursor.now.rest c.loop-i.gids c.loop-i.cursor.rest) all c.loop-i.invariant)
