-- Notes that have a text.
use Rattle.std.proofs.Common.{◌≡◌, ℕ, List, ◌++◌, map, Option, Result, Ok, Err, Bool, true, false, true≢false, sym, subst, arith}
use Rattle.std.specs.Prelude.{All, IsTrue, ◌↔◌}
use Rattle.std.proofs.lemmas.List.{get_or-map, length-map}
use Rattle.sl_defs.specs.Histories.{ended}
use Rattle.sl_history.specs.Turns as turns
use Rattle.sl_past.specs.Transcripts.{remarks_text}
use Rattle.sl_past.specs.Words.{remark_of}
use Rattle.sl_past.specs.declared.remark.Remark.{Remark}
use Rattle.sl_frames.specs.declared.body.Body.{Body}
use Rattle.sl_frames.specs.declared.body.Body.TheVariants as body
use Rattle.sl_frames.specs.Frames.{ShortBody}
use Rattle.slice.specs.Printing.{is_plain, has_text, HaveTexts}
use Rattle.slice.specs.Replays.{Wrote, WroteTurn}
use Rattle.slice.specs.declared.status.Stop.{Stop}
use Rattle.slice.specs.declared.status.Stop.TheVariants as stop

-- a body without lists is short enough
pub plain_is_short : (b : Body) → is_plain b ≡ true → ShortBody b
plain_is_short body.Hello e = tt
plain_is_short body.Welcome e = tt
plain_is_short (body.Forward chosen packet) e = tt
plain_is_short (body.Packet packet) e = tt
plain_is_short (body.Ask keys) e = absurd (true≢false (sym e))
plain_is_short (body.Found cells) e = absurd (true≢false (sym e))
plain_is_short (body.List dir cookie limit) e = tt
plain_is_short (body.Listed cells more) e = absurd (true≢false (sym e))
plain_is_short (body.Mint site) e = tt
plain_is_short (body.Minted fileid) e = tt
plain_is_short (body.Intent intent) e = absurd (true≢false (sym e))
plain_is_short (body.Decided done) e = tt
plain_is_short (body.Lock work) e = absurd (true≢false (sym e))
plain_is_short body.Grant e = tt
plain_is_short body.Refuse e = tt
plain_is_short body.Apply e = tt
plain_is_short body.Release e = tt
plain_is_short body.Ack e = tt

-- what holds of each mapped element holds of each element, seen so
all_of : {A B : Type 0} (f : A → B) (P : B → Type 0) (xs : List A) → All P (map f xs) → All (λ x. P (f x)) xs
all_of f P xs all = λ k d lt. subst P (get_or-map f xs k d (f d) lt) (all k (f d) (omega (arith, lt, length-map xs f)))

-- a note that isn't printed is among the remarks
pub unprinted : (answer : Bool) (notes : List Remark) → (IsTrue answer ↔ All (λ r. has_text (remark_of r) ≡ true) notes) → answer ≡ false → HaveTexts (map remark_of notes) → ⊥
unprinted true notes says e all = true≢false e
unprinted false notes says e all = true≢false (sym (says.1 (all_of remark_of (λ r. has_text r ≡ true) notes all)))

-- what was written of a turn
pub turn_written : (r : Result Unit Stop) (text : List ℕ) (notes : List turns.Remark) (old new : Option (List ℕ)) → Wrote r (ended text ++ remarks_text notes) old new → WroteTurn r text notes old new
turn_written (Ok done) text notes old new h = h
turn_written (Err stop.WriteFault) text notes old new h = h
turn_written (Err stop.Bad) text notes old new h = h
turn_written (Err stop.Unbuilt) text notes old new h = absurd h
turn_written (Err stop.Spent) text notes old new h = h
turn_written (Err stop.NoMemory) text notes old new h = h
