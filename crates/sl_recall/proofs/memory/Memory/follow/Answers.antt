use Rattle.std.proofs.Common.{List, ◌∷◌, sym, refl, subst, ℕ}
use Rattle.std.proofs.lemmas.Result.{on_ok_weaker}
use Rattle.sl_past.specs.Words.{remark_of}
use Rattle.sl_past.specs.declared.remark.Remark as remark
use Rattle.sl_history.specs.Turns.{Replied, noted}
use Rattle.sl_recall.specs.Droppings.{Forgets, IsDropOf}
use Rattle.sl_recall.specs.Memories.{Follows}
use Rattle.sl_recall.proofs.MemoryLaws.{did, down, dropped, early, flush, full, junk, lost, sent, verf}
use Rattle.sl_recall.proofs.memory.Memory.follow.Goals as goal

pub returns-in-Replied-clause-follows : goal.returns-in-Replied-clause-follows
returns-in-Replied-clause-follows c =
    on_ok_weaker c.learn.result (λ follows t past is.
    subst (λ (x : remark.Remark). Follows (noted (t ∷ past) (remark_of x)) c.learn.new.self) (sym c.in-Replied.is)
    (subst (λ (bs : List ℕ). Follows (noted (t ∷ past) (Replied c.in-Replied.arrival c.in-Replied.event bs)) c.learn.new.self) c.as_slice.ensures (follows t past c.in-Replied.event is))) c.learn.ensures.follows

pub returns-in-Verf-clause-follows : goal.returns-in-Verf-clause-follows
returns-in-Verf-clause-follows c = λ t past is.
    c.forget.ensures.follows t past (remark_of c.args.remark.now) (subst (λ (x : remark.Remark). Forgets (remark_of x)) (sym c.in-Verf.is) (verf c.in-Verf.field-0)) is

pub returns-in-Flush-clause-follows : goal.returns-in-Flush-clause-follows
returns-in-Flush-clause-follows c = λ t past is.
    c.forget-in-Flush.ensures.follows t past (remark_of c.args.remark.now) (subst (λ (x : remark.Remark). Forgets (remark_of x)) (sym c.in-Flush.is) (flush c.in-Flush.field-0)) is

pub returns-in-Junk-clause-follows : goal.returns-in-Junk-clause-follows
returns-in-Junk-clause-follows c = λ t past is.
    let d : IsDropOf c.in-Junk.arrival (remark_of c.args.remark.now) = subst (λ (x : remark.Remark). IsDropOf c.in-Junk.arrival (remark_of x)) (sym c.in-Junk.is) (junk c.in-Junk.arrival) in
    dropped t past c.in-Junk.arrival (remark_of c.args.remark.now) c.args.self.now (record { ledger = c.args.self.now.ledger; tellings = c.args.self.now.tellings; forgot = c.args.self.now.forgot; changes = c.turn_away.new.self }) d is.follows refl refl
    (c.turn_away.ensures t past (remark_of c.args.remark.now) d is.follows.changes)

pub returns-in-Early-clause-follows : goal.returns-in-Early-clause-follows
returns-in-Early-clause-follows c = λ t past is.
    let d : IsDropOf c.in-Early.arrival (remark_of c.args.remark.now) = subst (λ (x : remark.Remark). IsDropOf c.in-Early.arrival (remark_of x)) (sym c.in-Early.is) (early c.in-Early.arrival) in
    dropped t past c.in-Early.arrival (remark_of c.args.remark.now) c.args.self.now (record { ledger = c.args.self.now.ledger; tellings = c.args.self.now.tellings; forgot = c.args.self.now.forgot; changes = c.turn_away-in-Early.new.self }) d is.follows refl refl
    (c.turn_away-in-Early.ensures t past (remark_of c.args.remark.now) d is.follows.changes)

pub returns-in-Full-clause-follows : goal.returns-in-Full-clause-follows
returns-in-Full-clause-follows c = λ t past is.
    let d : IsDropOf c.in-Full.arrival (remark_of c.args.remark.now) = subst (λ (x : remark.Remark). IsDropOf c.in-Full.arrival (remark_of x)) (sym c.in-Full.is) (full c.in-Full.arrival) in
    dropped t past c.in-Full.arrival (remark_of c.args.remark.now) c.args.self.now (record { ledger = c.args.self.now.ledger; tellings = c.args.self.now.tellings; forgot = c.args.self.now.forgot; changes = c.turn_away-in-Full.new.self }) d is.follows refl refl
    (c.turn_away-in-Full.ensures t past (remark_of c.args.remark.now) d is.follows.changes)

pub returns-in-Lost-clause-follows : goal.returns-in-Lost-clause-follows
returns-in-Lost-clause-follows c = λ t past is.
    let d : IsDropOf c.in-Lost.arrival (remark_of c.args.remark.now) = subst (λ (x : remark.Remark). IsDropOf c.in-Lost.arrival (remark_of x)) (sym c.in-Lost.is) (lost c.in-Lost.arrival) in
    dropped t past c.in-Lost.arrival (remark_of c.args.remark.now) c.args.self.now (record { ledger = c.args.self.now.ledger; tellings = c.args.self.now.tellings; forgot = c.args.self.now.forgot; changes = c.turn_away-in-Lost.new.self }) d is.follows refl refl
    (c.turn_away-in-Lost.ensures t past (remark_of c.args.remark.now) d is.follows.changes)

pub returns-in-Sent-clause-follows : goal.returns-in-Sent-clause-follows
returns-in-Sent-clause-follows c = λ t past is.
    subst (λ (x : remark.Remark). Follows (noted (t ∷ past) (remark_of x)) c.args.self.now) (sym c.in-Sent.is) (sent t past c.in-Sent.number c.in-Sent.frame c.args.self.now is.follows)

pub returns-in-Did-clause-follows : goal.returns-in-Did-clause-follows
returns-in-Did-clause-follows c = λ t past is.
    subst (λ (x : remark.Remark). Follows (noted (t ∷ past) (remark_of x)) c.args.self.now) (sym c.in-Did.is) (did t past c.in-Did.arrival c.in-Did.at c.in-Did.choice c.args.self.now is.follows)

pub returns-in-Down-clause-follows : goal.returns-in-Down-clause-follows
returns-in-Down-clause-follows c = λ t past is.
    subst (λ (x : remark.Remark). Follows (noted (t ∷ past) (remark_of x)) c.args.self.now) (sym c.in-Down.is) (down t past c.in-Down.field-0 c.args.self.now is.follows)
