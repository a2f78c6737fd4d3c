use Rattle.std.proofs.Common.{◌≡◌, Bool, true, false, ◌&&◌, ◌∷◌, sym, ap, refl, ◌∙◌}
use Rattle.std.proofs.lemmas.Result.{on_ok_weaker}
use Rattle.sl_history.specs.Arrivals.{asked}
use Rattle.sl_history.specs.Remembering.{is_idle, tells_by}
use Rattle.sl_recall.specs.Files.{is_this}
use Rattle.sl_recall.proofs.MemoryLaws.{told, untold}
use Rattle.sl_recall.proofs.memory.Memory.learn.Goals as goal

and_false : (b : Bool) → (b && false) ≡ false
and_false true = refl
and_false false = refl

pub returns-then-not-is_idle-clause-follows : goal.returns-then-not-is_idle-clause-follows
returns-then-not-is_idle-clause-follows c = λ t past e is.
    untold t past c.args.arrival e c.args.bytes.now c.args.self.now is.follows (λ n f less.
    ap (λ b. tells_by f c.args.bytes.now (asked (t ∷ past) c.args.arrival) && b) (sym (c.is_idle.ensures (t ∷ past) n is.ledger less) ∙ c.if-not-is_idle.true) ∙ and_false (tells_by f c.args.bytes.now (asked (t ∷ past) c.args.arrival)))

pub returns-in-Some-clause-follows : goal.returns-in-Some-clause-follows
returns-in-Some-clause-follows c =
    on_ok_weaker c.learn.result (λ done t past e is.
    told t past c.args.arrival e c.in-Some.file c.args.bytes.now c.args.self.now (record { ledger = c.args.self.now.ledger; tellings = c.learn.new.self; forgot = c.args.self.now.forgot; changes = c.args.self.now.changes }) is.follows
    (λ n less. sym (c.is_idle.ensures (t ∷ past) n is.ledger less) ∙ c.if-not-is_idle.false)
    (λ f. c.in_ok-file.ensures (t ∷ past) is.ledger f ∙ ap (is_this f) c.in-Some.is)
    done.0 done.1.0 done.1.1 refl refl) c.learn.ensures

pub returns-in-None-clause-follows : goal.returns-in-None-clause-follows
returns-in-None-clause-follows c = λ t past e is.
    untold t past c.args.arrival e c.args.bytes.now c.args.self.now is.follows (λ n f less.
    ap (λ b. b && is_idle (t ∷ past) n) (c.in_ok-file.ensures (t ∷ past) is.ledger f ∙ ap (is_this f) c.in-None.is))
