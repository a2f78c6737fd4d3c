-- What a request asks for, by the call that it is for.
use Rattle.std.proofs.Common.{◌≡◌, ◌↔◌, ℕ, ◌+◌, ◌<◌, ◌≤◌, eqb-true, eq-eqb, Bool, true, false, not, ◌&&◌, List, [], ◌∷◌, drop, get_or, length, Option, Some, None, refl, ap, sym, subst, ◌∙◌, arith}
use Rattle.std.proofs.lemmas.Bool.{true≢false}
use Rattle.std.specs.Prelude.{◌==◌, if◌then◌else◌, option_and_then}
use Rattle.std.specs.List.{list_any}
use Rattle.sl_types.specs.declared.call.Call.{Call}
use Rattle.sl_cells.specs.declared.keys.CellKey.{CellKey}
use Rattle.sl_frames.specs.declared.body.Body.{Body}
use Rattle.sl_defs.specs.Histories.{event_count}
use Rattle.sl_history.specs.Turns.{Turn, History, events, is_event, turn_of}
use Rattle.sl_history.specs.Arrivals.{Asked, asked, asked_by}
use Rattle.sl_history.specs.Remembering.{IsKnown, asks_again, asks_again_by, is_key_of}
use Rattle.sl_recall.specs.Memories.{AsksAgain, Knows}
use Rattle.sl_recall.proofs.AnyLaws.{any_end, any_here, any_passed}
use Rattle.sl_recall.proofs.KnownLaws.{back, front}

-- a call that came, came in an event that happened
turn_within : (h : History) (n : ℕ) (t : Turn) → turn_of h n ≡ Some t → n ≤ events h
unfolding turn_of
turn_within [] n t e = absurd (none e)
  where
    none : None ≡ Some t → ⊥
    none e = cc e
turn_within (u ∷ past) n t e = at (is_event past u n) refl (turn_within past n t) e
  where
    at : (b : Bool) → is_event past u n ≡ b → (turn_of past n ≡ Some t → n ≤ events past) → (if b then Some u else turn_of past n) ≡ Some t → n ≤ events (u ∷ past)
    at true s ih x = omega (arith, eqb-true (event_count u.happening) 1 (front (event_count u.happening == 1) (events past + 1 == n) s), eqb-true (events past + 1) n (back (event_count u.happening == 1) (events past + 1 == n) s))
    at false s ih x = omega (arith, ih x)

pub asked_within : (h : History) (n : ℕ) (a : Asked) → asked h n ≡ Some a → n ≤ events h
unfolding asked
asked_within h n a e = at (turn_of h n) refl e
  where
    at : (o : Option Turn) → turn_of h n ≡ o → option_and_then asked_by o ≡ Some a → n ≤ events h
    at None s x = absurd (none x)
      where
        none : None ≡ Some a → ⊥
        none x = cc x
    at (Some t) s x = turn_within h n t s

-- the request asks again for the files that P is true of
pub asks_so : (h : History) (n : ℕ) (b : Body) (a : Asked) (c : Call) (r : Bool) (P : ℕ → Bool) → asked h n ≡ Some a → a.call ≡ c → ((f : ℕ) → asks_again f b c ≡ P f)
    → ((r ≡ true) ↔ ((f : ℕ) × Knows h n f × (P f ≡ true))) → (r ≡ true) ↔ AsksAgain h n b
asks_so h n b a c r P is call same both =
    (λ t. let x = both.0 t in (x.0, x.1, here x.0 ∙ x.2), λ x. both.1 (x.0, x.1, sym (here x.0) ∙ x.2))
  where
    here : (f : ℕ) → asks_again_by f b (asked h n) ≡ P f
    here f = ap (asks_again_by f b) is ∙ ap (asks_again f b) call ∙ same f

pub asks_nothing : (h : History) (n : ℕ) (b : Body) → ((f : ℕ) → asks_again_by f b (asked h n) ≡ false) → (false ≡ true) ↔ AsksAgain h n b
asks_nothing h n b none = (λ t. cc t, λ x. absurd (true≢false (sym x.2 ∙ none x.0)))

-- ---- one file

pub one_file : (h : History) (n g : ℕ) (r s : Bool) (Named : ℕ → Bool) (Asks : ℕ → Bool) → ((f : ℕ) → Named f ≡ (g == f)) → ((r ≡ true) ↔ Knows h n g) → s ≡ Asks g
    → ((s && r) ≡ true) ↔ ((f : ℕ) × Knows h n f × ((Named f && Asks f) ≡ true))
one_file h n g r s Named Asks named knows asks = (
  λ t. (g, knows.0 (back s r t), ap (λ b. b && Asks g) (named g ∙ self g) ∙ sym asks ∙ front s r t),
  λ x. let same : g ≡ x.0 = eqb-true g x.0 (sym (named x.0) ∙ front (Named x.0) (Asks x.0) x.2) in
      both s r (asks ∙ ap Asks same ∙ back (Named x.0) (Asks x.0) x.2) (knows.1 (subst (λ k. Knows h n k) (sym same) x.1)),
)
  where
    self : (k : ℕ) → (k == k) ≡ true
    self k = eq-eqb k k refl

    both : (a b : Bool) → a ≡ true → b ≡ true → (a && b) ≡ true
    both a b u v = ap (λ c. c && b) u ∙ v

pub no_file : (h : History) (n : ℕ) (Named : ℕ → Bool) (Asks : ℕ → Bool) → ((f : ℕ) → Named f ≡ false) → (false ≡ true) ↔ ((f : ℕ) × Knows h n f × ((Named f && Asks f) ≡ true))
no_file h n Named Asks none = (λ t. cc t, λ x. absurd (true≢false (sym (front (Named x.0) (Asks x.0) x.2) ∙ none x.0)))

-- ---- several files

-- the same files by other tests
pub looked : (h : History) (n : ℕ) (r : Bool) (P Q P' Q' : ℕ → Bool) → ((f : ℕ) → P f ≡ P' f) → ((f : ℕ) → Q f ≡ Q' f) → ((r ≡ true) ↔ ((f : ℕ) × Knows h n f × ((P f && Q f) ≡ true)))
    → (r ≡ true) ↔ ((f : ℕ) × Knows h n f × ((P' f && Q' f) ≡ true))
looked h n r P Q P' Q' p q both = (λ t. let x = both.0 t in (x.0, x.1, sym (here x.0) ∙ x.2), λ x. both.1 (x.0, x.1, here x.0 ∙ x.2))
  where
    here : (f : ℕ) → (P f && Q f) ≡ (P' f && Q' f)
    here f = ap (λ b. b && Q f) (p f) ∙ ap (λ b. P' f && b) (q f)

-- a known file that the keys so far don't name
abbrev pub Unnamed : History → ℕ → ℕ → List CellKey → List CellKey → Type 0
Unnamed h n d keys left = (f : ℕ) → Knows h n f → not (d == f) ≡ true → list_any (is_key_of f) left ≡ list_any (is_key_of f) keys

pub none_named : (h : History) (n d : ℕ) (keys : List CellKey) → Unnamed h n d keys keys
none_named h n d keys f k other = refl

pub not_named : (h : History) (n d : ℕ) (keys : List CellKey) (i : ℕ) (key : CellKey) (r : Bool) → i < length keys → key ≡ get_or keys i key → ((r ≡ true) ↔ ((f : ℕ) × Knows h n f × ((not (d == f) && is_key_of f key) ≡ true))) → r ≡ false
    → Unnamed h n d keys (drop i keys) → Unnamed h n d keys (drop (i + 1) keys)
not_named h n d keys i key r less is tells no_key so f k other = any_passed (is_key_of f) keys i key key less is (unlike (is_key_of f key) refl) ∙ so f k other
  where
    unlike : (b : Bool) → is_key_of f key ≡ b → is_key_of f key ≡ false
    unlike true s = absurd (true≢false (sym (tells.1 (f, k, ap (λ c. c && is_key_of f key) other ∙ s)) ∙ no_key))
    unlike false s = s

pub named : (h : History) (n d : ℕ) (keys : List CellKey) (i : ℕ) (key : CellKey) (r : Bool) → i < length keys → key ≡ get_or keys i key → ((r ≡ true) ↔ ((f : ℕ) × Knows h n f × ((not (d == f) && is_key_of f key) ≡ true))) → r ≡ true
    → Unnamed h n d keys (drop i keys) → (true ≡ true) ↔ ((f : ℕ) × Knows h n f × ((not (d == f) && list_any (is_key_of f) keys) ≡ true))
named h n d keys i key r less is tells t so =
    let x = tells.0 t in
    let other = front (not (d == x.0)) (is_key_of x.0 key) x.2 in
    let among = sym (so x.0 x.1 other) ∙ any_here (is_key_of x.0) keys i key key less is (back (not (d == x.0)) (is_key_of x.0 key) x.2) in
    (λ u. (x.0, x.1, ap (λ c. c && list_any (is_key_of x.0) keys) other ∙ among), λ u. refl)

pub never_named : (h : History) (n d : ℕ) (keys : List CellKey) (i : ℕ) → length keys ≤ i → Unnamed h n d keys (drop i keys) → (false ≡ true) ↔ ((f : ℕ) × Knows h n f × ((not (d == f) && list_any (is_key_of f) keys) ≡ true))
never_named h n d keys i all so =
    (λ t. cc t, λ x. absurd (true≢false (sym (back (not (d == x.0)) (list_any (is_key_of x.0) keys) x.2) ∙ sym (so x.0 x.1 (front (not (d == x.0)) (list_any (is_key_of x.0) keys) x.2)) ∙ any_end (is_key_of x.0) keys i all)))

-- ---- what may be sent

pub may_send : (h : History) (n : ℕ) (b : Body) (r : Bool) → ((r ≡ true) ↔ AsksAgain h n b) → (not r ≡ true) ↔ ((e f : ℕ) → IsKnown h n e f → asks_again_by f b (asked h n) ≡ false)
may_send h n b true tells = (λ t. absurd (true≢false (sym t)), λ all. let x = tells.0 refl in absurd (true≢false (sym x.2 ∙ all x.1.0 x.0 x.1.1)))
may_send h n b false tells = (λ t e f k. at (asks_again_by f b (asked h n)) refl k, λ all. refl)
  where
    at : {e f : ℕ} (c : Bool) → asks_again_by f b (asked h n) ≡ c → IsKnown h n e f → c ≡ false
    at {e} {f} true s k = absurd (true≢false (sym (tells.1 (f, (e, k), s))))
    at false s k = refl
