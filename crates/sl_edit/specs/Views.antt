-- What a view is seen as. A view of a call is the reference to its packet.
use Rattle.std.specs.Prelude.{ℕ, List, refl}
use Rattle.std.specs.Borrow.{MutBor}
use Rattle.std.specs.Coded.{Coded, code_by, coded×, coded_ℕ, coded_list}
use denote.MutBor.{mut_coded}

-- A view of a reply: which procedure it answers, and the reference to its packet.
pub record ReplyPacket : Type 0 where
  pub procedure : ℕ
  pub packet : MutBor (List ℕ)

-- it is stored as the pair of its fields
abbrev pub reply_code : Coded ReplyPacket
reply_code = code_by (ℕ × MutBor (List ℕ)) (coded× coded_ℕ (mut_coded (coded_list coded_ℕ))) (λ r. (r.procedure, r.packet)) (λ p. record { procedure = p.0; packet = p.1 }) (λ _. refl)
