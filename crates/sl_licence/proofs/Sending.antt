-- How the requests for flushes that were sent follow a note.
use Rattle.std.proofs.Common.{◌≡◌, ℕ, Bool, true, false, ◌||◌, ◌&&◌, [], ◌∷◌, refl, ap, sym, subst, ◌∙◌, Option, Some, None}
use Rattle.std.proofs.Math.Bool.{or-false}
use Rattle.std.specs.BTreeMap.{is_at}
use Rattle.std.specs.BTreeSet.{BTreeSet}
use Rattle.std.specs.List.{list_any}
use Rattle.std.specs.Prelude.{◌==◌, cond}
use Rattle.sl_defs.specs.Histories.{Happening}
use Rattle.sl_defs.specs.declared.setup.Time.{Time}
use Rattle.sl_frames.specs.declared.frame.Frame.{Frame}
use Rattle.sl_history.specs.Turns.{Remark, Sent, Did, Flush, Verf, Replied, Junk, Early, Full, Lost, Down, Turn, History, begun, noted}
use Rattle.sl_history.specs.Licensed.{flush_in, is_again, is_flush_of, was_sent}
use Rattle.sl_licence.specs.declared.asking.FlushRequest.{FlushRequest}
use Rattle.sl_licence.specs.declared.asking.Requests.{Requests}
use Rattle.sl_licence.specs.Asking.{AreRequestsOf, Sends, has_request, is_same_request, new_if, request_cmp, new_request, request_for, request_if, request_in, unless}
use Rattle.sl_licence.proofs.Histories.{was_sent-noted}
use Rattle.sl_licence.proofs.Keys.{flipped, one_more_key, same_four}

-- a sent frame is the same request again exactly where the two have one key
same_again : (o : Option ℕ) (g f : Frame) (file : ℕ) (old new : Requests) → Sends old new (request_if g o)
    → has_request new.sent (request_for f file) ≡ ((is_flush_of file o && (g.fence == f.fence && (g.tag == f.tag && g.arrival == f.arrival))) || has_request old.sent (request_for f file))
same_again None g f file old new sends = ap (λ (x : Requests). has_request x.sent (request_for f file)) sends
same_again (Some other) g f file old new sends =
    sends (request_for f file)
    ∙ ap (λ (b : Bool). (b && (g.fence == f.fence && (g.tag == f.tag && g.arrival == f.arrival))) || has_request old.sent (request_for f file)) (flipped other file)

or_comm : (a b : Bool) → (a || b) ≡ (b || a)
or_comm true true = refl
or_comm true false = refl
or_comm false true = refl
or_comm false false = refl

again : (r : Remark) (f : Frame) (file : ℕ) (old new : Requests) → Sends old new (request_in r)
    → has_request new.sent (request_for f file) ≡ (is_again file f r || has_request old.sent (request_for f file))
again (Sent k g) f file old new sends = same_again (flush_in g.body) g f file old new sends
again (Did n at choice) f file old new sends = ap (λ (x : Requests). has_request x.sent (request_for f file)) sends
again (Flush g) f file old new sends = ap (λ (x : Requests). has_request x.sent (request_for f file)) sends
again (Verf v) f file old new sends = ap (λ (x : Requests). has_request x.sent (request_for f file)) sends
again (Replied n m bytes) f file old new sends = ap (λ (x : Requests). has_request x.sent (request_for f file)) sends
again (Junk n) f file old new sends = ap (λ (x : Requests). has_request x.sent (request_for f file)) sends
again (Early n) f file old new sends = ap (λ (x : Requests). has_request x.sent (request_for f file)) sends
again (Full n) f file old new sends = ap (λ (x : Requests). has_request x.sent (request_for f file)) sends
again (Lost n) f file old new sends = ap (λ (x : Requests). has_request x.sent (request_for f file)) sends
again (Down a) f file old new sends = ap (λ (x : Requests). has_request x.sent (request_for f file)) sends

pub sends_on : (t : Turn) (past : History) (r : Remark) (old new : Requests) → Sends old new (request_in r) → AreRequestsOf (t ∷ past) old → AreRequestsOf (noted (t ∷ past) r) new
sends_on t past r old new sends are = record {
  sent = λ f file.
      again r f file old new sends ∙ or_comm (is_again file f r) (has_request old.sent (request_for f file))
      ∙ ap (λ (b : Bool). b || is_again file f r) (are.sent f file) ∙ sym (was_sent-noted t past r file f);
}

-- ---- which request is new

if_new : (o : Option ℕ) (g : Frame) (h : History) (x : Requests) (q : FlushRequest) → request_if g o ≡ Some q → AreRequestsOf h x → new_if h g o ≡ unless (has_request x.sent q) q
if_new None g h x q is are = absurd (cc)
if_new (Some file) g h x q is are =
    ap (λ (b : Bool). unless b (request_for g file)) (sym (are.sent g file))
    ∙ subst (λ (p : FlushRequest). unless (has_request x.sent (request_for g file)) (request_for g file) ≡ unless (has_request x.sent p) p) (some_same (request_for g file) q is) refl
  where
    some_same : (a b : FlushRequest) → Some a ≡ Some b → a ≡ b
    some_same a b e = cc

pub is_new : (r : Remark) (h : History) (x : Requests) (q : FlushRequest) → request_in r ≡ Some q → AreRequestsOf h x → new_request h r ≡ unless (has_request x.sent q) q
is_new (Sent k g) h x q is are = if_new (flush_in g.body) g h x q is are
is_new (Did n at choice) h x q is are = absurd (cc)
is_new (Flush g) h x q is are = absurd (cc)
is_new (Verf v) h x q is are = absurd (cc)
is_new (Replied n m bytes) h x q is are = absurd (cc)
is_new (Junk n) h x q is are = absurd (cc)
is_new (Early n) h x q is are = absurd (cc)
is_new (Full n) h x q is are = absurd (cc)
is_new (Lost n) h x q is are = absurd (cc)
is_new (Down a) h x q is are = absurd (cc)

no_new_if : (o : Option ℕ) (g : Frame) (h : History) → request_if g o ≡ None → new_if h g o ≡ None
no_new_if None g h is = refl
no_new_if (Some file) g h is = absurd (cc)

pub no_new : (r : Remark) (h : History) → request_in r ≡ None → new_request h r ≡ None
no_new (Sent k g) h is = no_new_if (flush_in g.body) g h is
no_new (Did n at choice) h is = refl
no_new (Flush g) h is = refl
no_new (Verf v) h is = refl
no_new (Replied n m bytes) h is = refl
no_new (Junk n) h is = refl
no_new (Early n) h is = refl
no_new (Full n) h is = refl
no_new (Lost n) h is = refl
no_new (Down a) h is = refl

-- ---- the set

pub none_sent : (x : Requests) → x.sent.keys ≡ [] → AreRequestsOf [] x
unfolding was_sent
none_sent x none = record { sent = λ f file. ap (λ ks. list_any (is_at (request_cmp (request_for f file))) ks) none }

pub more_keys : (old new : BTreeSet FlushRequest) (q p : FlushRequest) → has_request new p ≡ cond (is_at (request_cmp q) p) true (has_request old p)
    → has_request new p ≡ (is_same_request q p || has_request old p)
more_keys old new q p is =
    one_more_key (has_request new p) (is_at (request_cmp q) p) (is_same_request q p) (has_request old p) is
    (same_four q.file p.file q.fence p.fence q.tag p.tag q.arrival p.arrival)

pub begun_sent : (past : History) (happening : Happening) (moment : Time) (x : Requests) → AreRequestsOf past x → AreRequestsOf (begun past happening moment) x
unfolding was_sent
begun_sent past happening moment x are = record { sent = λ f file. are.sent f file ∙ sym (or-false (was_sent past file f)) }
