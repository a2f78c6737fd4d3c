-- How the mints follow a turn and a note.
use Rattle.std.proofs.Common.{◌≡◌, ℕ, Bool, true, false, cond, [], ◌∷◌, refl, ap, sym, subst, ◌∙◌, ◌⊎◌, inl, inr, eqb-true, Option, Some, None}
use Rattle.std.proofs.lemmas.Bool.{cond-true, true≢false}
use Rattle.std.proofs.lemmas.Option.{same_Some}
use Rattle.std.specs.BTreeMap.{is_at}
use Rattle.std.specs.List.{list_any}
use Rattle.std.specs.Prelude.{◌==◌}
use Rattle.sl_defs.specs.Histories.{Happening}
use Rattle.sl_defs.specs.declared.setup.Time.{Time}
use Rattle.sl_frames.specs.declared.frame.Frame.{Frame}
use Rattle.sl_history.specs.Turns.{Remark, Sent, Turn, History, begun, noted}
use Rattle.sl_history.specs.Frames.{IsGivenIn, WasGiven, frame, given_by, is_up, sent_among}
use Rattle.sl_history.specs.Licensed.{IsTold, given_up, is_in, reaches}
use Rattle.sl_licence.specs.declared.mints.Ticket.{Ticket}
use Rattle.sl_licence.specs.declared.mints.Mints.{Mints}
use Rattle.sl_licence.specs.Mints.{AreMintsOf, Asks, AsksFor, IsNoneLeft, IsRefused, TellsIf, WasExhausted, has_ticket, numbers_at, ticket_cmp, ticket_of}
use Rattle.sl_licence.proofs.Histories.{frame-begun, frame-noted, given-noted, noted-given}

-- ---- what reaches an actor is given to it

up_or_none : (b : Bool) (f g : Frame) → cond b (Some f) None ≡ Some g → (f ≡ g) × (b ≡ true)
up_or_none true f g e = (same_Some f g e, refl)
up_or_none false f g e = absurd (cc)

given_parts : (past : History) (t : Turn) (o : Option Frame) (g : Frame) → given_up past t o ≡ Some g → (o ≡ Some g) × (is_up past g.to ≡ true)
given_parts past t None g e = absurd (cc)
given_parts past t (Some f) g e =
    let parts = up_or_none (is_up past f.to) f g e in
    (ap (λ (x : Frame). Some x) parts.0, ap (λ (x : Frame). is_up past x.to) (sym parts.0) ∙ parts.1)

pub given_reached : (past : History) (t : Turn) (g : Frame) → reaches past t ≡ Some g → IsGivenIn past t g
given_reached past t g e = let parts = given_parts past t (given_by past t) g e in record { gives = parts.0; up = parts.1 }

pub reached_given : (past : History) (t : Turn) (g : Frame) → IsGivenIn past t g → reaches past t ≡ Some g
reached_given past t g is = ap (given_up past t) is.gives ∙ cond-true (is_up past g.to) (Some g) None is.up

-- ---- a turn begins

opened : Happening → Time → Turn
opened happening moment = record { happening = happening; moment = moment; remarks = [] }

was_before : (past : History) (t : Turn) (q : Ticket) → WasExhausted past q → WasExhausted (t ∷ past) q
was_before past t q was = record { answer = was.answer; given = inr was.given; none = was.none; fence = was.fence; tag = was.tag }

same_ticket : (f : Frame) (q : Ticket) → ticket_of f ≡ q → (f.fence ≡ q.fence) × (f.tag ≡ q.tag)
same_ticket f q e = (ap (λ (x : Ticket). x.fence) e, ap (λ (x : Ticket). x.tag) e)

tells_forth : (past : History) (t : Turn) (g : Frame) (old : Mints) (q : Ticket) → reaches past t ≡ Some g → AreMintsOf past old
    → (IsNoneLeft g × (ticket_of g ≡ q)) ⊎ (has_ticket old.exhausted q ≡ true) → WasExhausted (t ∷ past) q
tells_forth past t g old q reached are (inl tells) =
    let same = same_ticket g q tells.1 in
    record { answer = g; given = inl (given_reached past t g reached); none = tells.0; fence = same.0; tag = same.1 }
tells_forth past t g old q reached are (inr had) = was_before past t q ((are.exhausted q).0 had)

ticket_from : (f : Frame) (q : Ticket) → f.fence ≡ q.fence → f.tag ≡ q.tag → ticket_of f ≡ q
ticket_from f q fence tag = ap (λ (x : ℕ). record { fence = x; tag = f.tag }) fence ∙ ap (λ (x : ℕ). record { fence = q.fence; tag = x }) tag

tells_back : (past : History) (t : Turn) (g : Frame) (old : Mints) (q : Ticket) (answer : Frame) → reaches past t ≡ Some g → AreMintsOf past old
    → IsNoneLeft answer → answer.fence ≡ q.fence → answer.tag ≡ q.tag → IsGivenIn past t answer ⊎ WasGiven past answer
    → (IsNoneLeft g × (ticket_of g ≡ q)) ⊎ (has_ticket old.exhausted q ≡ true)
tells_back past t g old q answer reached are none fence tag (inl now) =
    let same : answer ≡ g = same_Some answer g (sym (reached_given past t answer now) ∙ reached) in
    inl (subst (λ (x : Frame). IsNoneLeft x × (ticket_of x ≡ q)) same (none, ticket_from answer q fence tag))
tells_back past t g old q answer reached are none fence tag (inr before) =
    inr ((are.exhausted q).1 (record { answer = answer; given = before; none = none; fence = fence; tag = tag }))

pub begins_with : (past : History) (happening : Happening) (moment : Time) (g : Frame) (old new : Mints)
    → reaches past (record { happening = happening; moment = moment; remarks = [] }) ≡ Some g → TellsIf old new g → AreMintsOf past old → AreMintsOf (begun past happening moment) new
begins_with past happening moment g old new reached tells are =
    let t : Turn = record { happening = happening; moment = moment; remarks = [] } in
    record {
      numbers = λ k n f sent asks.
          ap (λ m. is_in k (numbers_at m n)) tells.0 ∙ are.numbers k n f (sym (frame-begun past happening moment k) ∙ sent) asks;
      exhausted = λ q. (
        λ had. tells_forth past t g old q reached are ((tells.1 q).0 had),
        λ was. (tells.1 q).1 (tells_back past t g old q was.answer reached are was.none was.fence was.tag was.given),
      );
    }

none_back : (past : History) (t : Turn) (old : Mints) (q : Ticket) (answer : Frame) → reaches past t ≡ None → AreMintsOf past old
    → IsNoneLeft answer → answer.fence ≡ q.fence → answer.tag ≡ q.tag → IsGivenIn past t answer ⊎ WasGiven past answer → has_ticket old.exhausted q ≡ true
none_back past t old q answer reached are none fence tag (inl now) =
    let never : None ≡ Some answer = sym reached ∙ reached_given past t answer now in
    absurd (cc)
none_back past t old q answer reached are none fence tag (inr before) =
    (are.exhausted q).1 (record { answer = answer; given = before; none = none; fence = fence; tag = tag })

pub begins_without : (past : History) (happening : Happening) (moment : Time) (x : Mints)
    → reaches past (record { happening = happening; moment = moment; remarks = [] }) ≡ None → AreMintsOf past x → AreMintsOf (begun past happening moment) x
begins_without past happening moment x reached are =
    let t : Turn = record { happening = happening; moment = moment; remarks = [] } in
    record {
      numbers = λ k n f sent asks. are.numbers k n f (sym (frame-begun past happening moment k) ∙ sent) asks;
      exhausted = λ q. (
        λ had. was_before past t q ((are.exhausted q).0 had),
        λ was. none_back past t x q was.answer reached are was.none was.fence was.tag was.given,
      );
    }

-- ---- a note

exhausted-noted : (t : Turn) (past : History) (r : Remark) (q : Ticket) → WasExhausted (t ∷ past) q → WasExhausted (noted (t ∷ past) r) q
exhausted-noted t past r q was =
    record { answer = was.answer; given = noted-given t past r was.answer was.given; none = was.none; fence = was.fence; tag = was.tag }

noted-exhausted : (t : Turn) (past : History) (r : Remark) (q : Ticket) → WasExhausted (noted (t ∷ past) r) q → WasExhausted (t ∷ past) q
noted-exhausted t past r q was =
    record { answer = was.answer; given = given-noted t past r was.answer was.given; none = was.none; fence = was.fence; tag = was.tag }

if_sent : (b : Bool) (f g : Frame) → cond b (Some f) None ≡ Some g → (b ≡ true) × (f ≡ g)
if_sent true f g e = (refl, same_Some f g e)
if_sent false f g e = absurd (cc)

pub sends : (t : Turn) (past : History) (k : ℕ) (f : Frame) (old new : Mints) → Asks old new k f → AreMintsOf (t ∷ past) old → AreMintsOf (noted (t ∷ past) (Sent k f)) new
sends t past k f old new asked are = record {
  numbers = λ j n g sent asks.
      elim (frame-noted t past (Sent k f) j g sent) as (λ w. is_in j (numbers_at new.numbers n) ≡ true) [
        | inl before ↦ asked.kept n j (are.numbers j n g before asks)
        | inr now ↦
            let same = if_sent (k == j) f g now in
            subst (λ (x : ℕ). is_in x (numbers_at new.numbers n) ≡ true) (eqb-true k j same.0) (asked.here n (subst (λ (x : Frame). AsksFor x n) (sym same.1) asks))
      ];
  exhausted = λ q. (
    λ had. exhausted-noted t past (Sent k f) q ((are.exhausted q).0 (ap (λ s. has_ticket s q) (sym asked.exhausted) ∙ had)),
    λ was. ap (λ s. has_ticket s q) asked.exhausted ∙ (are.exhausted q).1 (noted-exhausted t past (Sent k f) q was),
  );
}

pub noted_else : (t : Turn) (past : History) (r : Remark) (x : Mints) → ((k : ℕ) → sent_among (r ∷ []) k ≡ None) → AreMintsOf (t ∷ past) x → AreMintsOf (noted (t ∷ past) r) x
noted_else t past r x none are = record {
  numbers = λ j n g sent asks.
      elim (frame-noted t past r j g sent) as (λ w. is_in j (numbers_at x.numbers n) ≡ true) [
        | inl before ↦ are.numbers j n g before asks
        | inr now ↦ absurd (nothing g (sym (none j) ∙ now))
      ];
  exhausted = λ q. (
    λ had. exhausted-noted t past r q ((are.exhausted q).0 had),
    λ was. (are.exhausted q).1 (noted-exhausted t past r q was),
  );
}
  where
    nothing : (g : Frame) → None ≡ Some g → ⊥
    nothing g e = cc

-- ---- what is told

pub refused_told : (h : History) (m : Mints) (k n : ℕ) → AreMintsOf h m → IsRefused h m k n → IsTold h n
refused_told h m k n are is =
    let was = (are.exhausted (ticket_of is.asking)).0 is.told in
    record {
      asked_for = is.asking;
      answer = was.answer;
      sent = record { number = k; is = is.sent };
      site = is.asks.site;
      mint = is.asks.mint;
      arrival = is.asks.arrival;
      given = was.given;
      receiver = was.none.receiver;
      fence = was.fence;
      tag = was.tag;
      none = was.none.none;
    }

pub told_refused : (h : History) (m : Mints) (n : ℕ) → AreMintsOf h m → (told : IsTold h n) → (is_in told.sent.number (numbers_at m.numbers n) ≡ true) × IsRefused h m told.sent.number n
told_refused h m n are told =
    let asks : AsksFor told.asked_for n = record { site = told.site; mint = told.mint; arrival = told.arrival } in (
      are.numbers told.sent.number n told.asked_for told.sent.is asks,
      record {
        asking = told.asked_for;
        sent = told.sent.is;
        asks = asks;
        told = (are.exhausted (ticket_of told.asked_for)).1
            (record { answer = told.answer; given = told.given; none = record { receiver = told.receiver; none = told.none }; fence = told.fence; tag = told.tag });
      },
    )

-- ---- nothing yet

pub none_minted : (x : Mints) → x.exhausted.keys ≡ [] → AreMintsOf [] x
unfolding frame
none_minted x none = record {
  numbers = λ k n f sent asks. absurd (nothing f sent);
  exhausted = λ q. (
    λ had. absurd (true≢false (sym had ∙ ap (λ ks. list_any (is_at (ticket_cmp q)) ks) none)),
    λ was. absurd (was.given),
  );
}
  where
    nothing : (g : Frame) → None ≡ Some g → ⊥
    nothing g e = cc
