-- What a sink took, what a source gave, and what is left of a text.
use Rattle.std.proofs.Common.{◌≡◌, ℕ, ◌+◌, ◌-◌, ◌<◌, ◌≤◌, List, [], ◌∷◌, ◌++◌, length, Option, Some, None, Err, Bool, true, false, cond, eqb, get_or, take, refl, sym, ap, subst, ◌∙◌, append_assoc, arith}
use Rattle.std.specs.Prelude.{IfSome}
use Rattle.std.specs.Borrow.{Bor}
use Rattle.std.specs.List.{slice_split}
use Rattle.std.specs.Io.KnownBytes.{Appends, Keeps, Consumes}
use Rattle.std.proofs.lemmas.List.{length-append, length-take, append-nil}
use Rattle.slice.specs.Outside.{TookFront}
use Rattle.slice.specs.Schedule.{lines, is_end, without_last_end}
use Rattle.slice.specs.Replays.{AddsBlock, TakesBlock, ReadStops, StopBlames, StopCounts}
use Rattle.slice.specs.declared.status.Stop.{Stop}
use Rattle.slice.specs.declared.status.Stop.TheVariants as stop
use Rattle.slice.specs.declared.status.ReadEnd.{ReadEnd}
use Rattle.slice.specs.declared.status.ReadEnd.TheVariants as read

pub keeps_same : (known : Option (List ℕ)) → Keeps known known
keeps_same None = tt
keeps_same (Some xs) = refl

-- ---- what the sink took, one part after the other

pub appends_then : (old now new : Option (List ℕ)) (a b : List ℕ) → Appends old now a → Appends now new b → Appends old new (a ++ b)
appends_then None now new a b p q = tt
appends_then (Some x) None new a b p q = absurd p
appends_then (Some x) (Some y) None a b p q = absurd q
appends_then (Some x) (Some y) (Some z) a b p q = q ∙ ap (λ (t : List ℕ). t ++ b) p ∙ append_assoc x a b

pub appends_kept : (old now new : Option (List ℕ)) (a : List ℕ) → Appends old now a → Keeps now new → Appends old new a
appends_kept None now new a p q = tt
appends_kept (Some x) None new a p q = absurd p
appends_kept (Some x) (Some y) None a p q = absurd q
appends_kept (Some x) (Some y) (Some z) a p q = q ∙ p

pub front_then : (old now new : Option (List ℕ)) (a b : List ℕ) → Appends old now a → TookFront now new b → TookFront old new (a ++ b)
front_then old now new a b p q = record {
  front = a ++ q.front;
  back = q.back;
  parts = ap (λ (t : List ℕ). a ++ t) q.parts ∙ sym (append_assoc a q.front q.back);
  taken = appends_then old now new a q.front p q.taken;
}

pub appends_none : (old : Option (List ℕ)) → Appends old old []
appends_none None = tt
appends_none (Some x) = sym (append-nil x)

-- ---- what is left

-- it falls from line to line
abbrev pub size_left : Option (Bor (List ℕ)) → ℕ
size_left None = 0
size_left (Some rest) = length rest.now + 1

pub size_falls : (o : Option (Bor (List ℕ))) (n : ℕ) → IfSome o (λ rest. length rest.now < n) → size_left o ≤ n
size_falls None n h = omega arith
size_falls (Some rest) n h = omega (arith, h)

pub length-without_last_end : (text : List ℕ) → length (without_last_end text) ≤ length text
unfolding without_last_end
length-without_last_end text = elim (eqb (get_or text (length text - 1) 0) 10) as (λ (b : Bool). length (cond b (take (length text - 1) text) text) ≤ length text) [ true ↦ omega (arith, length-take (length text - 1) text) | false ↦ omega arith ]

pub first_lines : (source text first : List ℕ) (left : List (List ℕ)) → text ≡ without_last_end source → slice_split is_end text ≡ first ∷ left → lines source ≡ first ∷ left
unfolding lines
first_lines source text first left e h = ap (slice_split is_end) (sym e) ∙ h

-- ---- reading

pub consumes_then : (old now new : Option (List ℕ)) (a b : List ℕ) → Consumes old now a → Consumes now new b → Consumes old new (a ++ b)
consumes_then None now new a b p q = tt
consumes_then (Some x) None new a b p q = absurd p
consumes_then (Some x) (Some y) None a b p q = absurd q
consumes_then (Some x) (Some y) (Some z) a b p q = p ∙ ap (λ (t : List ℕ). a ++ t) q ∙ sym (append_assoc a b z)

pub consumes_kept : (old now new : Option (List ℕ)) (a : List ℕ) → Consumes old now a → Keeps now new → Consumes old new a
consumes_kept None now new a p q = tt
consumes_kept (Some x) None new a p q = absurd p
consumes_kept (Some x) (Some y) None a p q = absurd q
consumes_kept (Some x) (Some y) (Some z) a p q = p ∙ ap (λ (t : List ℕ). a ++ t) (sym q)

pub add_block : (old now new : Option (List ℕ)) (room n : ℕ) (items added : List ℕ) → Consumes old now items → AddsBlock now new room items added n → Consumes old new added
add_block old now new room n items added p a = subst (λ (t : List ℕ). Consumes old new t) (sym a.added) (consumes_then old now new items a.bytes p a.consumed)

pub stops_reading : (e : ReadEnd) (old now new : Option (List ℕ)) (room : ℕ) (items : List ℕ) → Consumes old now items → length items + room ≤ 67108865 → TakesBlock e now new room → ReadStops e old new
stops_reading read.ReadFault old now new room items p fits q = record { bytes = items; consumed = consumes_kept old now new items p q; bounded = omega arith }
stops_reading read.TooLong old now new room items p fits q = absurd q
stops_reading read.NoMemory old now new room items p fits q = record { bytes = items ++ q.0; consumed = consumes_then old now new items q.0 p q.1; bounded = omega (arith, length-append items q.0, q.2) }

-- ---- faults

blames_from : (why : Stop) (a b c : ℕ) → a ≤ b → StopBlames why b c → StopBlames why a c
blames_from stop.WriteFault a b c le h = omega (arith, le, h)
blames_from stop.Bad a b c le h = tt
blames_from stop.Unbuilt a b c le h = tt
blames_from stop.Spent a b c le h = tt
blames_from stop.NoMemory a b c le h = tt

-- a count that rose from a later one rose from an earlier one
pub counts_from : {T : Type 0} (why : Stop) (a b c : ℕ) → a ≤ b → StopCounts {T = T} b c (Err why) → StopCounts {T = T} a c (Err why)
counts_from why a b c le h = record { later = omega (arith, le, h.later); failed = blames_from why a b c le h.failed }
