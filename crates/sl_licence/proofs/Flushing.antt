-- How the requests for flushes that were given follow a turn and a note.
use Rattle.std.proofs.Common.{◌≡◌, ℕ, suc, ◌+◌, ◌-◌, ◌<◌, ◌≤◌, eqb-true, Bool, true, false, cond, ◌||◌, ◌&&◌, List, [], ◌∷◌, length, refl, ap, sym, subst, ◌∙◌, arith, Option, Some, None, inl, inr}
use Rattle.std.proofs.lemmas.Bool.{and_parts, and_right, true≢false}
use Rattle.std.specs.BTreeMap.{is_at}
use Rattle.std.specs.List.{list_any}
use Rattle.std.specs.Map.{lookup}
use Rattle.std.specs.Ordering.{nat_cmp}
use Rattle.std.specs.Prelude.{◌==◌, not, unwrap_or}
use Rattle.sl_defs.specs.Histories.{Happening}
use Rattle.sl_defs.specs.declared.setup.Time.{Time}
use Rattle.sl_frames.specs.Actors.{is_coordinator}
use Rattle.sl_frames.specs.declared.frame.Frame.{Frame}
use Rattle.sl_history.specs.Turns.{Remark, Flush, Turn, History, begun, events, noted}
use Rattle.sl_history.specs.Licensed.{flush_in, flushes, flushes_among, is_flush_of, pair_in, reaches, requests_given, with_request}
use Rattle.sl_licence.specs.declared.flushes.FlushTicket.{FlushTicket}
use Rattle.sl_licence.specs.declared.flushes.Flushes.{Flushes}
use Rattle.sl_licence.specs.Flushes.{AreFlushesOf, Takes, TakesIf, count_at, has_ticket, is_same_ticket, ticket, ticket_cmp, ticket_if, ticket_in}
use Rattle.sl_licence.proofs.Histories.{few_requests, reached_in_event, flushes-begun, flushes-noted, requests-begun, requests-noted}
use Rattle.sl_licence.proofs.Keys.{flipped}

-- ---- a ticket is taken

pub takes_known : (old new : Flushes) (q : FlushTicket) → ((p : FlushTicket) → has_ticket new.given p ≡ (is_same_ticket q p || has_ticket old.given p))
    → has_ticket old.given q ≡ true → new.unused ≡ old.unused → Takes old new q
takes_known old new q given known same = record {
  given = given;
  unused = λ f.
      ap (λ m. count_at m f) same
      ∙ sym (ap (λ (b : Bool). cond (q.file == f && not b) (count_at old.unused f + 1) (count_at old.unused f)) known
      ∙ ap (λ (b : Bool). cond b (count_at old.unused f + 1) (count_at old.unused f)) (and_right (q.file == f) false refl));
}

and_true : (b : Bool) → (b && true) ≡ b
and_true true = refl
and_true false = refl

at_file : (m : ℕ → ℕ) (g f n k : ℕ) (b : Bool) → b ≡ (g == f) → n ≡ m g + 1 → k ≡ cond b n (m f) → k ≡ cond b (m f + 1) (m f)
at_file m g f n k true same n_is k_is = k_is ∙ n_is ∙ ap (λ (x : ℕ). m x + 1) (eqb-true g f (sym same))
at_file m g f n k false same n_is k_is = k_is

pub takes_new : (old new : Flushes) (q : FlushTicket) (n : ℕ) → ((p : FlushTicket) → has_ticket new.given p ≡ (is_same_ticket q p || has_ticket old.given p))
    → has_ticket old.given q ≡ false → ((f : ℕ) → count_at new.unused f ≡ cond (q.file == f) n (count_at old.unused f)) → n ≡ count_at old.unused q.file + 1 → Takes old new q
takes_new old new q n given unknown counts one_more = record {
  given = given;
  unused = λ f.
      at_file (count_at old.unused) q.file f n (count_at new.unused f) (q.file == f) refl one_more (counts f)
      ∙ sym (ap (λ (b : Bool). cond (q.file == f && not b) (count_at old.unused f + 1) (count_at old.unused f)) unknown
      ∙ ap (λ (b : Bool). cond b (count_at old.unused f + 1) (count_at old.unused f)) (and_true (q.file == f)));
}

-- ---- a turn begins

absorbed : (s v : Bool) → (s ≡ true → v ≡ true) → (s || v) ≡ v
absorbed true v h = sym (h refl)
absorbed false v h = refl

pair_more : (e m : Bool) (ps : List (ℕ × ℕ)) (q p : ℕ × ℕ) → (m ≡ true → (q.0 == p.0 && q.1 == p.1) ≡ true → pair_in ps p ≡ true)
    → ((e && (q.0 == p.0 && q.1 == p.1)) || pair_in ps p) ≡ pair_in (cond (e && not m) (q ∷ ps) ps) p
pair_more false m ps q p h = refl
pair_more true false ps q p h = refl
pair_more true true ps q p h = absorbed (q.0 == p.0 && q.1 == p.1) (pair_in ps p) (h refl)

same_pair : (a b : ℕ) (p : ℕ × ℕ) → (a == p.0 && b == p.1) ≡ true → (a, b) ≡ p
same_pair a b p same =
    let parts = and_parts (a == p.0) (b == p.1) same in
    ap (λ (x : ℕ). (x, b)) (eqb-true a p.0 parts.0) ∙ ap (λ (y : ℕ). (p.0, y)) (eqb-true b p.1 parts.1)

given_more : (c : Bool) (o : Option ℕ) (g : Frame) (old new : Flushes) (ps : List (ℕ × ℕ)) (f : ℕ) (p : ℕ × ℕ) → TakesIf old new (ticket_if g c o)
    → ((q : ℕ × ℕ) → has_ticket old.given (ticket f q) ≡ pair_in ps q)
    → has_ticket new.given (ticket f p) ≡ pair_in (cond (c && (is_flush_of f o && not (pair_in ps (g.fence, g.tag)))) ((g.fence, g.tag) ∷ ps) ps) p
given_more false o g old new ps f p takes was = ap (λ (x : Flushes). has_ticket x.given (ticket f p)) takes ∙ was p
given_more true None g old new ps f p takes was = ap (λ (x : Flushes). has_ticket x.given (ticket f p)) takes ∙ was p
given_more true (Some file) g old new ps f p takes was =
    takes.given (ticket f p)
    ∙ ap (λ (b : Bool). (file == f && (g.fence == p.0 && g.tag == p.1)) || b) (was p)
    ∙ ap (λ (b : Bool). (b && (g.fence == p.0 && g.tag == p.1)) || pair_in ps p) (flipped file f)
    ∙ pair_more (f == file) (pair_in ps (g.fence, g.tag)) ps (g.fence, g.tag) p
    (λ known same. ap (pair_in ps) (sym (same_pair g.fence g.tag p same)) ∙ known)

count_step : (e m k : Bool) (n i : ℕ) (q : ℕ × ℕ) (ps : List (ℕ × ℕ)) → (e ≡ true → k ≡ m) → n + i ≡ length ps
    → n + cond (e && not k) (i + 1) i ≡ length (cond (e && not m) (q ∷ ps) ps)
count_step false m k n i q ps same is = is
count_step true false false n i q ps same is = let goal : n + (i + 1) ≡ suc (length ps) = omega (arith, is) in goal
count_step true true true n i q ps same is = is
count_step true false true n i q ps same is = absurd (true≢false (same refl))
count_step true true false n i q ps same is = absurd (true≢false (sym (same refl)))

counted_more : (c : Bool) (o : Option ℕ) (g : Frame) (old new : Flushes) (ps : List (ℕ × ℕ)) (f n : ℕ) → TakesIf old new (ticket_if g c o)
    → ((q : ℕ × ℕ) → has_ticket old.given (ticket f q) ≡ pair_in ps q) → n + count_at old.unused f ≡ length ps
    → n + count_at new.unused f ≡ length (cond (c && (is_flush_of f o && not (pair_in ps (g.fence, g.tag)))) ((g.fence, g.tag) ∷ ps) ps)
counted_more false o g old new ps f n takes was is = ap (λ (x : Flushes). n + count_at x.unused f) takes ∙ is
counted_more true None g old new ps f n takes was is = ap (λ (x : Flushes). n + count_at x.unused f) takes ∙ is
counted_more true (Some file) g old new ps f n takes was is =
    ap (λ (k : ℕ). n + k) (takes.unused f)
    ∙ ap (λ (b : Bool). n + cond (b && not (has_ticket old.given (ticket file (g.fence, g.tag)))) (count_at old.unused f + 1) (count_at old.unused f)) (flipped file f)
    ∙ count_step (f == file) (pair_in ps (g.fence, g.tag)) (has_ticket old.given (ticket file (g.fence, g.tag))) n (count_at old.unused f) (g.fence, g.tag) ps
    (λ same. ap (λ (x : ℕ). has_ticket old.given (ticket x (g.fence, g.tag))) (sym (eqb-true f file same)) ∙ was (g.fence, g.tag)) is

opened : Happening → Time → Turn
opened happening moment = record { happening = happening; moment = moment; remarks = [] }

pub begins_with : (past : History) (happening : Happening) (moment : Time) (g : Frame) (old new : Flushes)
    → reaches past (record { happening = happening; moment = moment; remarks = [] }) ≡ Some g → TakesIf old new (ticket_in g) → AreFlushesOf past old
    → AreFlushesOf (begun past happening moment) new
begins_with past happening moment g old new reached takes are =
    let list : (f : ℕ) → requests_given (begun past happening moment) f ≡ with_request f (Some g) (requests_given past f) =
    λ f. requests-begun past happening moment f ∙ ap (λ (o : Option Frame). with_request f o (requests_given past f)) reached in
    record {
      given = λ f p.
          given_more (is_coordinator g.to) (flush_in g.body) g old new (requests_given past f) f p takes (are.given f)
          ∙ ap (λ (ps : List (ℕ × ℕ)). pair_in ps p) (sym (list f));
      unused = λ f.
          ap (λ (n : ℕ). n + count_at new.unused f) (flushes-begun past happening moment f)
          ∙ counted_more (is_coordinator g.to) (flush_in g.body) g old new (requests_given past f) f (flushes past f) takes (are.given f) (are.unused f)
          ∙ ap length (sym (list f));
    }

pub begins_without : (past : History) (happening : Happening) (moment : Time) (x : Flushes)
    → reaches past (record { happening = happening; moment = moment; remarks = [] }) ≡ None → AreFlushesOf past x → AreFlushesOf (begun past happening moment) x
begins_without past happening moment x reached are =
    let list : (f : ℕ) → requests_given (begun past happening moment) f ≡ requests_given past f =
    λ f. requests-begun past happening moment f ∙ ap (λ (o : Option Frame). with_request f o (requests_given past f)) reached in
    record {
      given = λ f p. are.given f p ∙ ap (λ (ps : List (ℕ × ℕ)). pair_in ps p) (sym (list f));
      unused = λ f. ap (λ (n : ℕ). n + count_at x.unused f) (flushes-begun past happening moment f) ∙ are.unused f ∙ ap length (sym (list f));
    }

-- ---- a note

pub noted_else : (t : Turn) (past : History) (r : Remark) (x : Flushes) → ((f : ℕ) → flushes_among f (r ∷ []) ≡ 0) → AreFlushesOf (t ∷ past) x → AreFlushesOf (noted (t ∷ past) r) x
noted_else t past r x none are = record {
  given = λ f p. are.given f p ∙ ap (λ (ps : List (ℕ × ℕ)). pair_in ps p) (sym (requests-noted t past r f));
  unused = λ f.
      let more = flushes-noted t past r f in
      let is = are.unused f in
      let no = none f in
      let goal : flushes (noted (t ∷ past) r) f + count_at x.unused f ≡ length (requests_given (t ∷ past) f) = omega (arith, more, is, no) in
      goal ∙ ap length (sym (requests-noted t past r f));
}

used_up : (b d : Bool) (n m i j k l : ℕ) → b ≡ d → n ≡ m + (cond b 1 0 + 0) → k ≡ cond d (j - 1) i → (d ≡ true → j ≡ i) → m + i ≡ l → (d ≡ true → m + 1 ≤ l) → n + k ≡ l
used_up true true n m i j k l same n_is k_is here is some =
    let at = here refl in
    let few = some refl in
    omega (arith, n_is, k_is, at, few, is)
used_up false false n m i j k l same n_is k_is here is some = omega (arith, n_is, k_is, is)
used_up true false n m i j k l same n_is k_is here is some = absurd (true≢false same)
used_up false true n m i j k l same n_is k_is here is some = absurd (true≢false (sym same))

pub flushed : (t : Turn) (past : History) (file : ℕ) (old new : Flushes) → new.given ≡ old.given
    → ((f : ℕ) → count_at new.unused f ≡ cond (file == f) (count_at old.unused file - 1) (count_at old.unused f)) → AreFlushesOf (t ∷ past) old
    → flushes (t ∷ past) file + 1 ≤ length (requests_given (t ∷ past) file) → AreFlushesOf (noted (t ∷ past) (Flush file)) new
flushed t past file old new same counts are some = record {
  given = λ f p. ap (λ s. has_ticket s (ticket f p)) same ∙ are.given f p ∙ ap (λ (ps : List (ℕ × ℕ)). pair_in ps p) (sym (requests-noted t past (Flush file) f));
  unused = λ f.
      used_up (f == file) (file == f) (flushes (noted (t ∷ past) (Flush file)) f) (flushes (t ∷ past) f) (count_at old.unused f) (count_at old.unused file) (count_at new.unused f) (length (requests_given (t ∷ past) f))
      (flipped f file) (flushes-noted t past (Flush file) f) (counts f) (λ e. ap (count_at old.unused) (eqb-true file f e)) (are.unused f)
      (λ e. subst (λ (x : ℕ). flushes (t ∷ past) x + 1 ≤ length (requests_given (t ∷ past) x)) (eqb-true file f e) some)
      ∙ ap length (sym (requests-noted t past (Flush file) f));
}

pub one_left : (h : History) (x : Flushes) (file : ℕ) → AreFlushesOf h x → 0 < count_at x.unused file → flushes h file + 1 ≤ length (requests_given h file)
one_left h x file are some = let is = are.unused file in omega (arith, is, some)

pub none_left : (h : History) (x : Flushes) (file : ℕ) → AreFlushesOf h x → count_at x.unused file ≤ 0 → flushes h file + 1 ≤ length (requests_given h file) → ⊥
none_left h x file are none some = let is = are.unused file in absurd (omega (arith, is, none, some))

pub none_given : (x : Flushes) → x.given.keys ≡ [] → x.unused.entries ≡ [] → AreFlushesOf [] x
unfolding requests_given flushes
none_given x none zero = record {
  given = λ f p. ap (λ ks. list_any (is_at (ticket_cmp (ticket f p))) ks) none;
  unused = λ f. let goal : 0 + count_at x.unused f ≡ 0 = ap (λ es. 0 + unwrap_or (lookup (is_at (nat_cmp f)) es) 0) zero in goal;
}

-- there are fewer unused requests than events, where a frame reaches an actor
pub few_unused : (past : History) (happening : Happening) (moment : Time) (g : Frame) (x : Flushes) (f k : ℕ)
    → reaches past (record { happening = happening; moment = moment; remarks = [] }) ≡ Some g → k ≡ events (begun past happening moment) → AreFlushesOf past x → count_at x.unused f < k
few_unused past happening moment g x f k reached newest are =
    let t : Turn = record { happening = happening; moment = moment; remarks = [] } in
    let few = few_requests past f in
    let is = are.unused f in
    elim (reached_in_event past t) as (λ w. count_at x.unused f < k) [
      | inl none ↦ absurd (nothing g (sym none ∙ reached))
      | inr one ↦
          let counts : k ≡ events past + 1 = newest ∙ ap (λ (n : ℕ). events past + n) one in
          omega (arith, few, is, counts)
    ]
  where
    nothing : (g : Frame) → None ≡ Some g → ⊥
    nothing g e = cc
