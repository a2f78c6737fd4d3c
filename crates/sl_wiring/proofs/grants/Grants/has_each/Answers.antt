use Rattle.std.proofs.Common.{ℕ, ◌<◌, List, get_or, length, sym, subst, refl}
use Rattle.std.proofs.lemmas.Bool.{iff_false, true≢false}
use Rattle.std.proofs.lemmas.List.{get_or_default}
use Rattle.std.proofs.lemmas.List.Elements.{AllWithin-more, AllWithin-upto, All-from_all_within}
use Rattle.std.specs.List.{Contains}
use Rattle.sl_wiring.specs.declared.grants.Grant.{Grant}
use Rattle.sl_wiring.proofs.Granting.{exact_grants, grant_cmp, grants_total}
use Rattle.sl_wiring.proofs.Sets.{has_key}
use Rattle.sl_wiring.proofs.grants.Grants.has_each.Goals as goal

abbrev Has : List Grant → ℕ → ℕ → Type 0
Has keys op server = Contains keys (record { op = op; server = server })

at_any : (keys : List Grant) (op : ℕ) (servers : List ℕ) (i d e : ℕ) → i < length servers → Has keys op (get_or servers i d) → Has keys op (get_or servers i e)
at_any keys op servers i d e within has = subst (λ (s : ℕ). Has keys op s) (get_or_default servers i d e within) has

pub loop-server-preserved : goal.loop-server-preserved
loop-server-preserved c =
    AllWithin-more (Has c.args.self.now.items.keys c.args.op) c.args.servers.now 0 c.loop-server.server-index c.loop-server.invariant
    (λ d. at_any c.args.self.now.items.keys c.args.op c.args.servers.now c.loop-server.server-index 0 d c.loop-server-test.true
    ((has_key grant_cmp grants_total exact_grants c.args.self.now.items (record { op = c.args.op; server = get_or c.args.servers.now c.loop-server.server-index 0 }) c.contains.result c.contains.ensures).0 c.if-not-contains.false))

pub returns-then-not-contains : goal.returns-then-not-contains
returns-then-not-contains c = (
  λ e. absurd (true≢false (sym e)),
  λ all. absurd (iff_false (has_key grant_cmp grants_total exact_grants c.args.self.now.items (record { op = c.args.op; server = get_or c.args.servers.now c.loop-server.server-index 0 }) c.contains.result c.contains.ensures)
      c.if-not-contains.true (all c.loop-server.server-index 0 c.loop-server-test.true)),
)

pub returns : goal.returns
returns c = (
  λ e. All-from_all_within (Has c.args.self.now.items.keys c.args.op) c.args.servers.now
      (AllWithin-upto (Has c.args.self.now.items.keys c.args.op) c.args.servers.now 0 c.loop-server.server-index (length c.args.servers.now) c.loop-server-test.false c.loop-server.invariant),
  λ all. refl,
)
