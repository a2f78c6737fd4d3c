use Rattle.std.proofs.Common.{◌≡◌, ◌<◌, ℕ, zero, suc, false, List, [], ◌∷◌, length, get_or, sym, subst, refl, inl, inr, arith, rules}
use Rattle.std.specs.Prelude.{◌==◌}
use Rattle.std.proofs.lemmas.Bool.{iff_false, true≢false}
use Rattle.std.specs.List.{All, Contains}
use Rattle.sl_wiring.specs.declared.grants.Grant.{Grant}
use Rattle.sl_wiring.proofs.Sets.{key_cases, no_key}
use Rattle.sl_wiring.proofs.grants.Grants.has_one.Goals as goal

pub loop-grant-init : goal.loop-grant-init
loop-grant-init c = λ x has fits. subst (λ (xs : List Grant). Contains xs x) (search rules) has

abbrev Fits : List Grant → List ℕ → Grant → Type 0
Fits keys servers x = All (λ server. Contains keys (record { op = x.op; server = server })) servers

-- what fits is behind what doesn't
later : (keys : List Grant) (servers : List ℕ) (y x : Grant) (rest : List Grant) → (Fits keys servers y → ⊥) → Fits keys servers x → Contains (y ∷ rest) x → Contains rest x
later keys servers y x rest unfit fits has = elim (key_cases y x rest has) [
  | inl same ↦ absurd (unfit (subst (λ (z : Grant). Fits keys servers z) (sym same) fits))
  | inr more ↦ more
]

pub loop-grant-preserved : goal.loop-grant-preserved
loop-grant-preserved c = λ x has fits.
    later c.args.self.now.items.keys c.args.servers.now c.in-Some.grant.now x c.next.new.self (iff_false c.has_each.ensures c.if-has_each.false) fits
    (subst (λ (xs : List Grant). Contains xs x) c.in-Some.ensures.steps (c.loop-grant.invariant x has fits))

pub returns-then-has_each : goal.returns-then-has_each
returns-then-has_each c = (λ e. record { op = c.in-Some.grant.now.op; now = λ granted e. cc; each = c.has_each.ensures.0 c.if-has_each.true }, λ one. refl)

some : (n : ℕ) → false ≡ (n == 0) → 0 < n
some zero e = absurd (true≢false (sym e))
some (suc n) e = omega arith

none_is : (keys : List Grant) (servers : List ℕ) (left : List Grant) → left ≡ [] → 0 < length servers
    → ((x : Grant) → Contains keys x → Fits keys servers x → Contains left x) → (op : ℕ) → All (λ server. Contains keys (record { op = op; server = server })) servers → ⊥
none_is keys servers left ended within before op each =
    let x : Grant = record { op = op; server = get_or servers 0 0 } in
    no_key x (subst (λ (xs : List Grant). Contains xs x) ended (before x (each 0 0 within) each))

pub returns : goal.returns
returns c = (
  λ e. absurd (true≢false (sym e)),
  λ one. absurd (none_is c.args.self.now.items.keys c.args.servers.now c.loop-grant.grant-iterator c.in-None.ensures.steps.0 (some (length c.args.servers.now) c.if-is_empty.ensures)
      c.loop-grant.invariant one.op one.each),
)
