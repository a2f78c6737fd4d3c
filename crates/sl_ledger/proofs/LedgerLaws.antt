-- How a ledger follows a history.
use Rattle.std.proofs.Common.{◌≡◌, ℕ, ◌<◌, List, [], ◌∷◌, false, refl, sym, ap, subst, ◌∙◌}
use Rattle.std.specs.Prelude.{◌==◌, Some, None, if◌then◌else◌}
use Rattle.sl_defs.specs.Histories.{Happening}
use Rattle.sl_defs.specs.declared.setup.Time.{Time}
use Rattle.sl_defs.specs.declared.note.Choice.{Choice}
use Rattle.sl_frames.specs.declared.frame.Frame.{Frame}
use Rattle.sl_history.specs.Turns.{Remark, Sent, Did, Flush, Verf, Replied, Junk, Early, Full, Lost, Down, Turn, History, begun, noted}
use Rattle.sl_history.specs.Frames.{hello_fence, hello_in, is_down, is_up, last_hello, last_verf, or_else, verf_of}
use Rattle.sl_ledger.specs.declared.actors.Actors.{Actors}
use Rattle.sl_ledger.specs.declared.ledger.Ledger.{Ledger}
use Rattle.sl_ledger.specs.Ledgers.{IsLedgerOf}
use Rattle.sl_ledger.specs.Sending.{AreSentIn}
use Rattle.sl_ledger.specs.Ups.{AreUp, up_at}
use Rattle.sl_ledger.specs.Waiting.{AreArrivalsOf, IsDropOf}
use Rattle.sl_ledger.proofs.ArrivalLaws.{arrivals_quiet}
use Rattle.sl_ledger.proofs.NotedLaws.{last_in-noted}
use Rattle.sl_ledger.proofs.SentLaws.{IsNoFrame, sent_quiet}
use Rattle.sl_ledger.proofs.UpLaws.{up_down, up_quiet}

hello-noted : (t : Turn) (past : History) (r : Remark) → last_hello (noted (t ∷ past) r) ≡ or_else (hello_fence r) (last_hello (t ∷ past))
unfolding last_hello
hello-noted t past r = last_in-noted hello_fence t past r

verf-noted : (t : Turn) (past : History) (r : Remark) → last_verf (noted (t ∷ past) r) ≡ or_else (verf_of r) (last_verf (t ∷ past))
unfolding last_verf
verf-noted t past r = last_in-noted verf_of t past r

frameless_did : (n : ℕ) (at : Time) (choice : Choice) → IsNoFrame (Did n at choice)
frameless_did n at choice = record { none = λ k. refl; no_request = λ a b. refl; uncounted = refl }

frameless_flush : (f : ℕ) → IsNoFrame (Flush f)
frameless_flush f = record { none = λ k. refl; no_request = λ a b. refl; uncounted = refl }

frameless_verf : (v : ℕ) → IsNoFrame (Verf v)
frameless_verf v = record { none = λ k. refl; no_request = λ a b. refl; uncounted = refl }

frameless_replied : (n e : ℕ) (bytes : List ℕ) → IsNoFrame (Replied n e bytes)
frameless_replied n e bytes = record { none = λ k. refl; no_request = λ a b. refl; uncounted = refl }

frameless_down : (a : ℕ) → IsNoFrame (Down a)
frameless_down a = record { none = λ k. refl; no_request = λ b c. refl; uncounted = refl }

-- a frame is sent
pub ledger_sent : (t : Turn) (past : History) (k : ℕ) (f : Frame) (l l' : Ledger) → IsLedgerOf (t ∷ past) l → l'.arrivals ≡ l.arrivals → AreSentIn (noted (t ∷ past) (Sent k f)) l'.sent
    → l'.up ≡ l.up → l'.was_up ≡ l.was_up → l'.last_hello ≡ or_else (hello_in f f.body) l.last_hello → l'.last_verf ≡ l.last_verf → IsLedgerOf (noted (t ∷ past) (Sent k f)) l'
ledger_sent t past k f l l' is arrivals sent up was hello verf = record {
  arrived = subst (AreArrivalsOf (noted (t ∷ past) (Sent k f))) (sym arrivals)
      (arrivals_quiet t past (Sent k f) l.arrivals (record { drops_none = λ m. refl; keeps = λ ns. refl }) is.arrived);
  sent = sent;
  up = subst (λ (x : Actors). AreUp (noted (t ∷ past) (Sent k f)) x) (sym up) (up_quiet t past (Sent k f) l.up (λ a. refl) is.up);
  was = subst (λ (x : Actors). AreUp past x) (sym was) is.was;
  hello = hello ∙ ap (or_else (hello_in f f.body)) is.hello ∙ sym (hello-noted t past (Sent k f));
  verf = verf ∙ is.verf ∙ sym (verf-noted t past (Sent k f));
}

-- a note that changes who waits, and nothing else
other : (t : Turn) (past : History) (r : Remark) (l l' : Ledger) → IsNoFrame r → ((a : ℕ) → is_down a r ≡ false) → hello_fence r ≡ None → verf_of r ≡ None
    → IsLedgerOf (t ∷ past) l → AreArrivalsOf (noted (t ∷ past) r) l'.arrivals → l'.sent ≡ l.sent → l'.up ≡ l.up → l'.was_up ≡ l.was_up → l'.last_hello ≡ l.last_hello
    → l'.last_verf ≡ l.last_verf → IsLedgerOf (noted (t ∷ past) r) l'
other t past r l l' frameless upright no_hello no_verf is arrived sent up was hello verf = record {
  arrived = arrived;
  sent = subst (AreSentIn (noted (t ∷ past) r)) (sym sent) (sent_quiet t past r l.sent frameless is.sent);
  up = subst (λ (x : Actors). AreUp (noted (t ∷ past) r) x) (sym up) (up_quiet t past r l.up upright is.up);
  was = subst (λ (x : Actors). AreUp past x) (sym was) is.was;
  hello = hello ∙ is.hello ∙ sym (hello-noted t past r ∙ ap (λ o. or_else o (last_hello (t ∷ past))) no_hello);
  verf = verf ∙ is.verf ∙ sym (verf-noted t past r ∙ ap (λ o. or_else o (last_verf (t ∷ past))) no_verf);
}

-- a reply
pub ledger_replied : (t : Turn) (past : History) (n e : ℕ) (bytes : List ℕ) (l l' : Ledger) → IsLedgerOf (t ∷ past) l
    → AreArrivalsOf (noted (t ∷ past) (Replied n e bytes)) l'.arrivals → l'.sent ≡ l.sent → l'.up ≡ l.up → l'.was_up ≡ l.was_up → l'.last_hello ≡ l.last_hello
    → l'.last_verf ≡ l.last_verf → IsLedgerOf (noted (t ∷ past) (Replied n e bytes)) l'
ledger_replied t past n e bytes l l' is = other t past (Replied n e bytes) l l' (frameless_replied n e bytes) (λ a. refl) refl refl is

-- an effect, and a flush
pub ledger_did : (t : Turn) (past : History) (n : ℕ) (at : Time) (choice : Choice) (l : Ledger) → IsLedgerOf (t ∷ past) l → IsLedgerOf (noted (t ∷ past) (Did n at choice)) l
ledger_did t past n at choice l is =
    other t past (Did n at choice) l l (frameless_did n at choice) (λ a. refl) refl refl is
    (arrivals_quiet t past (Did n at choice) l.arrivals (record { drops_none = λ m. refl; keeps = λ ns. refl }) is.arrived) refl refl refl refl refl

pub ledger_flushed : (t : Turn) (past : History) (f : ℕ) (l : Ledger) → IsLedgerOf (t ∷ past) l → IsLedgerOf (noted (t ∷ past) (Flush f)) l
ledger_flushed t past f l is =
    other t past (Flush f) l l (frameless_flush f) (λ a. refl) refl refl is
    (arrivals_quiet t past (Flush f) l.arrivals (record { drops_none = λ m. refl; keeps = λ ns. refl }) is.arrived) refl refl refl refl refl

-- a datagram is dropped
pub record IsDrop (n : ℕ) (r : Remark) : Type 0 where
  pub drop : IsDropOf n r
  pub frameless : IsNoFrame r
  pub upright : (a : ℕ) → is_down a r ≡ false
  pub no_hello : hello_fence r ≡ None
  pub no_verf : verf_of r ≡ None

pub drop_junk : (n : ℕ) → IsDrop n (Junk n)
drop_junk n = record { drop = record { drops_it = λ m. refl; keeps = λ ns. refl }; frameless = record { none = λ k. refl; no_request = λ a b. refl; uncounted = refl }; upright = λ a. refl; no_hello = refl; no_verf = refl }

pub drop_early : (n : ℕ) → IsDrop n (Early n)
drop_early n = record { drop = record { drops_it = λ m. refl; keeps = λ ns. refl }; frameless = record { none = λ k. refl; no_request = λ a b. refl; uncounted = refl }; upright = λ a. refl; no_hello = refl; no_verf = refl }

pub drop_full : (n : ℕ) → IsDrop n (Full n)
drop_full n = record { drop = record { drops_it = λ m. refl; keeps = λ ns. refl }; frameless = record { none = λ k. refl; no_request = λ a b. refl; uncounted = refl }; upright = λ a. refl; no_hello = refl; no_verf = refl }

pub drop_lost : (n : ℕ) → IsDrop n (Lost n)
drop_lost n = record { drop = record { drops_it = λ m. refl; keeps = λ ns. refl }; frameless = record { none = λ k. refl; no_request = λ a b. refl; uncounted = refl }; upright = λ a. refl; no_hello = refl; no_verf = refl }

pub ledger_dropped : (t : Turn) (past : History) (n : ℕ) (r : Remark) (l l' : Ledger) → IsDrop n r → IsLedgerOf (t ∷ past) l
    → ((u : Turn) (before : History) (x : Remark) → IsDropOf n x → AreArrivalsOf (u ∷ before) l.arrivals → AreArrivalsOf (noted (u ∷ before) x) l'.arrivals)
    → l'.sent ≡ l.sent → l'.up ≡ l.up → l'.was_up ≡ l.was_up → l'.last_hello ≡ l.last_hello → l'.last_verf ≡ l.last_verf → IsLedgerOf (noted (t ∷ past) r) l'
ledger_dropped t past n r l l' drop is turned_away = other t past r l l' drop.frameless drop.upright drop.no_hello drop.no_verf is (turned_away t past r drop.drop is.arrived)

-- a write verifier
pub ledger_verified : (t : Turn) (past : History) (v : ℕ) (l l' : Ledger) → IsLedgerOf (t ∷ past) l → AreArrivalsOf (noted (t ∷ past) (Verf v)) l'.arrivals
    → l'.sent ≡ l.sent → l'.up ≡ l.up → l'.was_up ≡ l.was_up → l'.last_hello ≡ l.last_hello → l'.last_verf ≡ Some v → IsLedgerOf (noted (t ∷ past) (Verf v)) l'
ledger_verified t past v l l' is arrived sent up was hello verf = record {
  arrived = arrived;
  sent = subst (AreSentIn (noted (t ∷ past) (Verf v))) (sym sent) (sent_quiet t past (Verf v) l.sent (frameless_verf v) is.sent);
  up = subst (λ (x : Actors). AreUp (noted (t ∷ past) (Verf v)) x) (sym up) (up_quiet t past (Verf v) l.up (λ a. refl) is.up);
  was = subst (λ (x : Actors). AreUp past x) (sym was) is.was;
  hello = hello ∙ is.hello ∙ sym (hello-noted t past (Verf v));
  verf = verf ∙ sym (verf-noted t past (Verf v));
}

-- an actor goes down
pub ledger_down : (t : Turn) (past : History) (b : ℕ) (l l' : Ledger) → IsLedgerOf (t ∷ past) l → l'.arrivals ≡ l.arrivals → l'.sent ≡ l.sent
    → ((a : ℕ) → a < 256 → up_at l'.up a ≡ (if a == b then false else up_at l.up a)) → l'.was_up ≡ l.was_up → l'.last_hello ≡ l.last_hello
    → l'.last_verf ≡ l.last_verf → IsLedgerOf (noted (t ∷ past) (Down b)) l'
ledger_down t past b l l' is arrivals sent up was hello verf = record {
  arrived = subst (AreArrivalsOf (noted (t ∷ past) (Down b))) (sym arrivals)
      (arrivals_quiet t past (Down b) l.arrivals (record { drops_none = λ m. refl; keeps = λ ns. refl }) is.arrived);
  sent = subst (AreSentIn (noted (t ∷ past) (Down b))) (sym sent) (sent_quiet t past (Down b) l.sent (frameless_down b) is.sent);
  up = up_down t past b l.up l'.up is.up up;
  was = subst (λ (x : Actors). AreUp past x) (sym was) is.was;
  hello = hello ∙ is.hello ∙ sym (hello-noted t past (Down b));
  verf = verf ∙ is.verf ∙ sym (verf-noted t past (Down b));
}

-- a turn begins
pub ledger_begun : (past : History) (x : Happening) (moment : Time) (l l' : Ledger) → IsLedgerOf past l → AreArrivalsOf (begun past x moment) l'.arrivals
    → AreSentIn (begun past x moment) l'.sent → AreUp (begun past x moment) l'.up → l'.was_up ≡ l.up → l'.last_hello ≡ l.last_hello → l'.last_verf ≡ l.last_verf
    → IsLedgerOf (begun past x moment) l'
unfolding last_hello last_verf
ledger_begun past x moment l l' is arrived sent up was hello verf = record {
  arrived = arrived;
  sent = sent;
  up = up;
  was = subst (λ (y : Actors). AreUp past y) (sym was) is.up;
  hello = hello ∙ is.hello;
  verf = verf ∙ is.verf;
}

-- nothing has happened yet
pub ledger_none : (l : Ledger) → AreArrivalsOf [] l.arrivals → AreSentIn [] l.sent → ((a : ℕ) → up_at l.up a ≡ false) → l.last_hello ≡ None → l.last_verf ≡ None → IsLedgerOf [] l
unfolding is_up last_hello last_verf
ledger_none l arrived sent up hello verf = record {
  arrived = arrived;
  sent = sent;
  up = λ a small. up a;
  was = tt;
  hello = hello;
  verf = verf;
}
