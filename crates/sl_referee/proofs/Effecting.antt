-- An effect, as it was performed.
use Rattle.std.proofs.Common.{◌≡◌, Bool, true, false, List, ℕ, refl, ap, sym, ◌∙◌}
use Rattle.std.proofs.Math.Bool.{beq}
use Rattle.sl_defs.specs.declared.setup.Time.{Time}
use Rattle.sl_defs.specs.declared.note.Choice.{Choice}
use Rattle.sl_types.specs.declared.reply.Reply.{Reply}
use Rattle.sl_model.specs.Volume.{Volume}
use Rattle.sl_model.specs.Perform.{perform}
use Rattle.sl_history.specs.Arrivals.{Asked, answer_to}
use Rattle.sl_history.specs.Legal.{is_kept}
use Rattle.sl_referee.specs.declared.case.Case.{Case}
use Rattle.sl_referee.specs.Cases.{MayBegin, TakesEffect}

pub takes : (c : Case) (a : Asked) (v v' : Volume) (now at : Time) (choice : Choice) (reply : Reply) (bytes : List ℕ) → MayBegin c a.call v now at choice
    → (v', reply) ≡ perform v a.call a.cred at choice → bytes ≡ answer_to a reply → choice.kept ≡ is_kept reply
    → TakesEffect c a v now at choice × (v' ≡ (perform v a.call a.cred at choice).0) × (bytes ≡ answer_to a (perform v a.call a.cred at choice).1)
takes c a v v' now at choice reply bytes begins done spelled kept = (
  record { begins = begins; kept = kept ∙ ap (λ (p : Volume × Reply). is_kept p.1) done },
  ap (λ (p : Volume × Reply). p.0) done,
  spelled ∙ ap (λ (p : Volume × Reply). answer_to a p.1) done,
)

pub keeps_otherwise : (c : Case) (a : Asked) (v v' : Volume) (now at : Time) (choice : Choice) (reply : Reply) → (v', reply) ≡ perform v a.call a.cred at choice
    → (choice.kept ≡ is_kept reply → ⊥) → TakesEffect c a v now at choice → ⊥
keeps_otherwise c a v v' now at choice reply done other takes = other (takes.kept ∙ sym (ap (λ (p : Volume × Reply). is_kept p.1) done))

pub same_bool : (a b : Bool) → beq a b ≡ true → a ≡ b
same_bool true true e = refl
same_bool true false e = sym e
same_bool false true e = e
same_bool false false e = refl
