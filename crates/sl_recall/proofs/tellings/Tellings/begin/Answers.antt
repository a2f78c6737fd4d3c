use Rattle.std.proofs.Common.{ℕ, List, Some, ◌≡◌, ◌+◌, ◌&&◌, sym, ap, arith, ◌∙◌}
use Rattle.std.specs.Prelude.{◌==◌, if◌then◌else◌}
use Rattle.sl_history.specs.Licensed.{is_in}
use Rattle.sl_recall.specs.Telling.{told_at}
use Rattle.sl_recall.proofs.TellLaws.{begins, came}
use Rattle.sl_recall.proofs.tellings.Tellings.begin.Goals as goal

pub returns-then-brings-clause-begins : goal.returns-then-brings-clause-begins
returns-then-brings-clause-begins c = λ h x m now dat is.
    begins h x m c.args.self.now (record { told = c.put_all.new.told; fresh = c.clear.new.self; datagrams = c.args.self.now.datagrams + 1 }) c.args.past_events c.args.brings is now dat
    (λ f e. c.in_ok-put_all.ensures f e ∙ ap (λ (fs : List ℕ). if (e == c.args.past_events) && is_in f fs then Some c.args.self.now.datagrams else told_at c.args.self.now.told f e) c.as_slice.ensures.value)
    c.clear.ensures.items (ap (λ b. c.args.self.now.datagrams + came b) (sym c.if-brings.true))

pub returns-else-brings-clause-begins : goal.returns-else-brings-clause-begins
returns-else-brings-clause-begins c = λ h x m now dat is.
    begins h x m c.args.self.now (record { told = c.put_all.new.told; fresh = c.clear.new.self; datagrams = c.args.self.now.datagrams }) c.args.past_events c.args.brings is now dat
    (λ f e. c.in_ok-put_all.ensures f e ∙ ap (λ (fs : List ℕ). if (e == c.args.past_events) && is_in f fs then Some c.args.self.now.datagrams else told_at c.args.self.now.told f e) c.as_slice.ensures.value)
    c.clear.ensures.items (nothing_more c.args.self.now.datagrams ∙ ap (λ b. c.args.self.now.datagrams + came b) (sym c.if-brings.false))
  where
    nothing_more : (n : ℕ) → n ≡ n + 0
    nothing_more n = omega arith
