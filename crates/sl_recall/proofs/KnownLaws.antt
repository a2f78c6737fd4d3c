-- What the proxy knows, by what a memory keeps.
use Rattle.std.proofs.Common.{◌≡◌, ℕ, ◌+◌, ◌<◌, ◌≤◌, Bool, true, false, ◌&&◌, ◌||◌, [], ◌∷◌, Option, Some, None, refl, ap, sym, subst, ◌∙◌, arith}
use Rattle.std.proofs.lemmas.Bool.{ne_eqb, true≢false}
use Rattle.std.specs.Prelude.{nat_le, nat_lt, if◌then◌else◌, is_some}
use Rattle.std.specs.Bool.{Decides}
use Rattle.std.proofs.lemmas.Bool.Decides.{nat_tests}
use Rattle.sl_history.specs.Turns.{History, events}
use Rattle.sl_history.specs.Remembering.{datagrams_since, is_calm, is_datagram, tells, tells_among}
use Rattle.sl_recall.specs.declared.memory.Memory.{Memory}
use Rattle.sl_recall.specs.declared.tellings.Telling.{Telling}
use Rattle.sl_recall.specs.Changing.{is_no_other, is_unchanged, is_unforgotten, past_of}
use Rattle.sl_recall.specs.Telling.{IsLast, told_at}
use Rattle.sl_recall.specs.Memories.{IsMemoryOf, Knows}
use Rattle.sl_recall.proofs.ChangeLaws.{calm, is_le, later, le_is, not_le}
use Rattle.sl_recall.proofs.ForgetLaws.{calm_is}

-- what was told before the newest event was told in an earlier turn
told_before : (h : History) (n e f : ℕ) → e < events h → tells h n e f ≡ tells (past_of h) n e f
unfolding tells
told_before [] n e f less = refl
told_before (t ∷ past) n e f less =
    ap (λ b. if b then tells_among t past n f [] t.remarks || tells past n e f else tells past n e f) (ne_eqb (events (t ∷ past)) e (λ s. absurd (omega (arith, less, s))))

there_if : (o : Option ℕ) → is_some o ≡ true → (d : ℕ) × (o ≡ Some d)
there_if None e = absurd (true≢false (sym e))
there_if (Some d) e = (d, refl)

both : (a b : Bool) → a ≡ true → b ≡ true → (a && b) ≡ true
both a b s t = ap (λ c. c && b) s ∙ t

pub front : (a b : Bool) → (a && b) ≡ true → a ≡ true
front true b e = refl
front false b e = absurd (true≢false (sym e))

pub back : (a b : Bool) → (a && b) ≡ true → b ≡ true
back true b e = e
back false b e = absurd (true≢false (sym e))

-- when it was told, if it was before the call came
pub when_told : (h : History) (m : Memory) (n f : ℕ) → IsMemoryOf h m → n ≤ events h → (k : Knows h n f) → (d : ℕ) × (told_at m.tellings.told f k.0 ≡ Some d)
when_told h m n f is le k =
    there_if (told_at m.tellings.told f k.0) (sym (told_before h n k.0 f (omega (arith, le, k.1.before)) ∙ is.follows.tellings.told f k.0 n k.1.before) ∙ k.1.told)

fewer_since : (h : History) (e g : ℕ) → e ≤ g → datagrams_since h g ≤ datagrams_since h e
unfolding datagrams_since
fewer_since [] e g le = omega arith
fewer_since (t ∷ past) e g le = at (nat_le (events (t ∷ past)) g) (nat_le (events (t ∷ past)) e) refl refl (fewer_since past e g le)
  where
    at : (b c : Bool) → nat_le (events (t ∷ past)) g ≡ b → nat_le (events (t ∷ past)) e ≡ c → datagrams_since past g ≤ datagrams_since past e
        → (if b then 0 else datagrams_since past g + (if is_datagram t.happening then 1 else 0)) ≤ (if c then 0 else datagrams_since past e + (if is_datagram t.happening then 1 else 0))
    at true c s u ih = omega arith
    at false false s u ih = omega (arith, ih)
    at false true s u ih = absurd (true≢false (sym (le_is (events (t ∷ past)) g (omega (arith, le, is_le (events (t ∷ past)) e u))) ∙ s))

unchanged_later : (h : History) (m : Memory) (e g n : ℕ) → IsMemoryOf h m → e ≤ g → is_unchanged h e n ≡ true → is_unchanged h g n ≡ true
unchanged_later h m e g n is le so =
    let c = m.changes in
    let all = calm h c e n is.follows.changes ∙ so in
    let one = front (is_no_other c.newest e n) (is_no_other c.last e n && is_no_other c.before e n) all in
    let rest = back (is_no_other c.newest e n) (is_no_other c.last e n && is_no_other c.before e n) all in
    sym (calm h c g n is.follows.changes)
    ∙ both (is_no_other c.newest g n) (is_no_other c.last g n && is_no_other c.before g n) (later c.newest e g n le one)
    (both (is_no_other c.last g n) (is_no_other c.before g n) (later c.last e g n le (front (is_no_other c.last e n) (is_no_other c.before e n) rest)) (later c.before e g n le (back (is_no_other c.last e n) (is_no_other c.before e n) rest)))

-- the last telling decides
known : (h : History) (m : Memory) (n f : ℕ) (t : Telling) → IsMemoryOf h m → n ≤ events h → IsLast m.tellings.told f n t → is_calm h t.event n ≡ true → datagrams_since h t.event < 3840 → Knows h n f
known h m n f t is le last quiet few = (
  t.event,
  record {
    told = told_before h n t.event f (omega (arith, le, last.before)) ∙ is.follows.tellings.told f t.event n last.before ∙ ap is_some last.is;
    before = last.before;
    calm = quiet;
    few = few;
  },
)

-- where the file is known, the last telling is as good as any
record IsFresh (h : History) (n : ℕ) (t : Telling) : Type 0 where
  quiet : is_calm h t.event n ≡ true
  few : datagrams_since h t.event < 3840

was_known : (h : History) (m : Memory) (n f : ℕ) (t : Telling) → IsMemoryOf h m → n ≤ events h → IsLast m.tellings.told f n t → Knows h n f → IsFresh h n t
was_known h m n f t is le last k =
    let d = when_told h m n f is le k in
    let behind : k.0 ≤ t.event = last.last k.0 d.0 k.1.before d.1 in
    let quiet = sym (calm_is h k.0 n) ∙ k.1.calm in
    let unforgotten : m.forgot ≤ t.event = omega (arith, behind, is_le m.forgot k.0 (sym (is.follows.forgot.is k.0) ∙ front (is_unforgotten h k.0) (is_unchanged h k.0 n) quiet)) in
    record {
      quiet = calm_is h t.event n ∙ both (is_unforgotten h t.event) (is_unchanged h t.event n) (is.follows.forgot.is t.event ∙ le_is m.forgot t.event unforgotten)
          (unchanged_later h m k.0 t.event n is behind (back (is_unforgotten h k.0) (is_unchanged h k.0 n) quiet));
      few = omega (arith, fewer_since h k.0 t.event behind, k.1.few);
    }

lt_is : (a b : ℕ) → a < b → nat_lt a b ≡ true
lt_is a b h = grind (arith, nat_tests, h)

is_lt : (a b : ℕ) → nat_lt a b ≡ true → a < b
is_lt a b h = grind (arith, nat_tests, h)

pub decides : (h : History) (m : Memory) (n f : ℕ) (t : Telling) (s : ℕ) → IsMemoryOf h m → n ≤ events h → IsLast m.tellings.told f n t → is_calm h t.event n ≡ true → s ≡ datagrams_since h t.event → Decides (nat_lt s 3840) (Knows h n f)
decides h m n f t s is le last quiet same = (
  λ few. known h m n f t is le last quiet (subst (λ k. k < 3840) same (is_lt s 3840 few)),
  λ k. lt_is s 3840 (subst (λ k. k < 3840) (sym same) (was_known h m n f t is le last k).few),
)

pub not_calm : (h : History) (m : Memory) (n f : ℕ) (t : Telling) → IsMemoryOf h m → n ≤ events h → IsLast m.tellings.told f n t → is_calm h t.event n ≡ false → Decides false (Knows h n f)
not_calm h m n f t is le last loud = (λ t. cc t, λ k. absurd (true≢false (sym (was_known h m n f t is le last k).quiet ∙ loud)))

pub unknown : (h : History) (m : Memory) (n f : ℕ) → IsMemoryOf h m → n ≤ events h → ((e d : ℕ) → e < n → told_at m.tellings.told f e ≡ Some d → ⊥) → Decides false (Knows h n f)
unknown h m n f is le none = (λ t. cc t, λ k. let d = when_told h m n f is le k in absurd (none k.0 d.0 k.1.before d.1))

-- what is forgotten since, and what isn't
pub loud : (h : History) (m : Memory) (e n : ℕ) → IsMemoryOf h m → e < m.forgot → false ≡ is_calm h e n
loud h m e n is less = sym (calm_is h e n ∙ ap (λ b. b && is_unchanged h e n) (is.follows.forgot.is e ∙ not_le m.forgot e less))

pub calm_by : (h : History) (m : Memory) (e n : ℕ) → IsMemoryOf h m → m.forgot ≤ e → is_unchanged h e n ≡ is_calm h e n
calm_by h m e n is le = sym (calm_is h e n ∙ ap (λ b. b && is_unchanged h e n) (is.follows.forgot.is e ∙ le_is m.forgot e le))
