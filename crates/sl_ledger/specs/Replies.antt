-- The reply that an effect has.
use Rattle.std.specs.Prelude.{◌≡◌, Option, None, option_map}
use Rattle.sl_types.specs.declared.reply.Reply.{Reply}
use Rattle.sl_model.specs.Volume.{Volume}
use Rattle.sl_model.specs.Perform.{perform}
use Rattle.sl_history.specs.Turns.{Remark, Did, History}
use Rattle.sl_history.specs.Arrivals.{Asked, asked}

-- an effect has the one server's reply on this volume, and no other note has one
abbrev pub IsReplyOf : Option Reply → History → Remark → Volume → Type 0
IsReplyOf reply h (Did n at choice) v = reply ≡ option_map (λ (a : Asked). (perform v a.call a.cred at choice).1) (asked h n)
IsReplyOf reply h other v = reply ≡ None
