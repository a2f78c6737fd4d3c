-- Which frames ask, and who sends them.
use Rattle.std.specs.Prelude.{◌≡◌, List, [], ◌∷◌, Bool, true, false}
use Rattle.sl_frames.specs.Actors.{is_proxy}
use Rattle.sl_frames.specs.declared.frame.Frame.{Frame}
use Rattle.sl_frames.specs.declared.body.Body.{Body}
use Rattle.sl_frames.specs.declared.body.Body.TheVariants as body
use Rattle.sl_history.specs.Turns.{Remark, Sent, History}

-- it asks the coordinator or a server for something
abbrev pub asks : Body → Bool
asks body.Hello = true
asks (body.Forward chosen packet) = true
asks (body.Ask keys) = true
asks (body.List dir cookie limit) = true
asks (body.Mint site) = true
asks (body.Intent i) = true
asks other = false

-- It asks exactly where the proxy sent it, and then it is of no operation. A Hello has no tag.
pub record IsOfItsSender (f : Frame) : Type 0 where
  pub kind : asks f.body ≡ is_proxy f.from
  pub operation : is_proxy f.from ≡ true → f.op ≡ 0
  pub tag : f.body ≡ body.Hello → f.tag ≡ 0

abbrev pub IsAskedRightly : Remark → Type 0
IsAskedRightly (Sent k f) = IsOfItsSender f
IsAskedRightly other = Unit {0}

abbrev pub AllAskedRightly : List Remark → Type 0
AllAskedRightly [] = Unit {0}
AllAskedRightly (r ∷ rs) = IsAskedRightly r × AllAskedRightly rs

-- The proxy alone asks, and it sends nothing else.
abbrev pub OnlyTheProxyAsks : History → Type 0
OnlyTheProxyAsks [] = Unit {0}
OnlyTheProxyAsks (t ∷ past) = OnlyTheProxyAsks past × AllAskedRightly t.remarks
