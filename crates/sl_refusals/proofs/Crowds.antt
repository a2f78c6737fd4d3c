-- Licensed histories and others, by induction on how many calls wait.
use Rattle.std.proofs.Common.{◌≡◌, ℕ, zero, suc, ◌+◌, ◌≤◌, ◌<◌, [], ◌∷◌, Some, None, true, refl, sym, ap, ◌∙◌, true≢false, nat_le, if◌then◌else◌, length, length-append, arith}
use Rattle.std.proofs.lemmas.Bool.{lt-leb}
use Rattle.sl_defs.specs.Items.{u32_text, u64_text, u32_at, opaque_at, opaque_text}
use Rattle.sl_defs.specs.Rpc.{call_header_at, auth_at, zero_at, refusal_of, accepted_text}
use Rattle.sl_defs.specs.declared.event.Event.TheVariants as event
use Rattle.sl_types.specs.Handles.{form_text}
use Rattle.sl_items.specs.Reading.{fh_at}
use Rattle.sl_calls.specs.Reading.{args_at}
use Rattle.sl_calls.specs.Args.{args_text}
use Rattle.sl_history.specs.Turns.{Full, Turn, History, events}
use Rattle.sl_history.specs.Frames.{is_up, last_hello, last_verf}
use Rattle.sl_history.specs.Arrivals.{datagram, waiting, is_welcomed, arrives, asked_by, turned_away, crowded, dropped_by, most_waiting}
use Rattle.sl_history.specs.Licensed.{Licensed, option_list}
use Rattle.sl_examples.specs.Histories.{start, turn, welcomed}
use Rattle.sl_refusals.specs.Packets.{asks, look_at_root}
use Rattle.sl_refusals.specs.Drops.{crowd, asked_in_crowd, CrowdsAreToldApart}
use Rattle.sl_refusals.proofs.Drops.{welcomed_is_licensed, start_is_below, is_none}

abbrev call : Turn
call = turn (event.Call 0 (asks look_at_root)) []

-- the root's attributes are asked for
asks_it : (past : History) (n : ℕ) → turned_away past n (datagram (asks look_at_root)) ≡ crowded past n
unfolding datagram call_header_at u32_text u32_at u64_text opaque_at opaque_text auth_at zero_at refusal_of accepted_text args_at fh_at args_text form_text
asks_it past n = refl

arrives_then : (n : ℕ) → arrives n call (asked_by call) ≡ n ∷ []
unfolding datagram call_header_at u32_text u32_at u64_text opaque_at opaque_text auth_at zero_at refusal_of accepted_text args_at fh_at args_text form_text
arrives_then n = refl

-- ---- the crowd

up : (n : ℕ) → is_up (crowd n) 0 ≡ true
unfolding crowd is_up
up zero = refl
up (suc n) = rw (up n) refl

greeted : (n : ℕ) → is_welcomed (crowd n) ≡ true
unfolding crowd last_hello last_verf
greeted zero = refl
greeted (suc n) = greeted n

count : (n : ℕ) → events (crowd n) ≡ n + 2
unfolding crowd
count zero = refl
count (suc n) = omega (arith, count n)

one_more : (past : History) → length (waiting (call ∷ past)) ≡ length (waiting past) + 1
unfolding waiting
one_more past = rw (arrives_then (events (call ∷ past))) (length-append (waiting past) (events (call ∷ past) ∷ []))

none_waits : length (waiting welcomed) ≡ 0
unfolding waiting
none_waits = refl

waits : (n : ℕ) → length (waiting (crowd n)) ≡ n
unfolding crowd
waits zero = none_waits
waits (suc n) = omega (arith, one_more (crowd n), waits n)

-- ---- the next call

dropped_so : (past : History) (k n : ℕ) → is_up past 0 ≡ true → is_welcomed past ≡ true → length (waiting past) ≡ n
    → dropped_by past k (asks look_at_root) ≡ (if nat_le most_waiting n then Some (Full k) else None)
unfolding dropped_by
dropped_so past k n is_up welcome is = rw (is_up, asks_it past k, welcome, is) refl

dropped_in : (n k : ℕ) → dropped_by (crowd n) k (asks look_at_root) ≡ (if nat_le most_waiting n then Some (Full k) else None)
dropped_in n k = dropped_so (crowd n) k n (up n) (greeted n) (waits n)

few : (n : ℕ) → n < 256 → (k : ℕ) → dropped_by (crowd n) k (asks look_at_root) ≡ None
few n less k = dropped_in n k ∙ ap (λ b. if b then Some (Full k) else None) (lt-leb 256 n less)

taken : (n : ℕ) → n < 256 → Licensed start (crowd n) → Licensed start (asked_in_crowd n [])
taken n less licensed = (licensed, record { may = tt; dropped = sym (ap option_list (few n less (events (asked_in_crowd n [])))) })

licensed : (n : ℕ) → n ≤ 256 → Licensed start (crowd n)
unfolding crowd
licensed zero at_most = welcomed_is_licensed start start_is_below
licensed (suc n) at_most = taken n at_most (licensed n (omega (arith, at_most)))

-- ---- the 256th and the 257th

full : dropped_by (crowd 256) 259 (asks look_at_root) ≡ Some (Full 259)
full = dropped_in 256 259

at : (k : ℕ) → events (asked_in_crowd 256 []) ≡ 259
at k = omega (arith, count 256)

dropped : Licensed start (asked_in_crowd 256 (Full 259 ∷ []))
dropped = (licensed 256 (omega (arith)), record { may = (tt, tt); dropped = sym (ap (λ k. option_list (dropped_by (crowd 256) k (asks look_at_root))) (at 0) ∙ ap option_list full) })

silent : Licensed start (asked_in_crowd 256 []) → ⊥
silent licensed = true≢false (ap is_none (licensed.1.dropped ∙ ap option_list (dropped_in 256 (events (asked_in_crowd 256 [])))))

early : Licensed start (asked_in_crowd 255 (Full 258 ∷ [])) → ⊥
early licensed = true≢false (sym (ap is_none (licensed.1.dropped ∙ ap option_list (dropped_in 255 (events (asked_in_crowd 255 []))))))

pub crowds_are_told_apart : CrowdsAreToldApart
crowds_are_told_apart = (taken 255 (omega (arith)) (licensed 255 (omega (arith))), dropped, silent, early)
