-- Ends of plans, from what the program's parts answer.
use Rattle.std.proofs.Common.{◌≡◌, List, [], ◌∷◌, ◌++◌, Bool, true, false, Result, Ok, Err, refl, sym, ap, subst, ◌∙◌}
use Rattle.std.specs.Prelude.{◌||◌}
use Rattle.std.specs.List.{list_any}
use Rattle.sl_types.specs.declared.kind.Status.{Status}
use Rattle.sl_model.specs.Plan.{and_then}
use Rattle.sl_model.specs.Volume as volume
use Rattle.sl_model.specs.Looking.{Outcome}
use Rattle.sl_plain.specs.declared.halt.Halt.{Halt}
use Rattle.sl_plain.specs.declared.halt.Halt.TheVariants as halt
use Rattle.sl_plain.specs.Steps.{refused}
use Rattle.sl_plain.specs.Outcomes.{is_past, ArePast, IsSpent, Counts, Makes, Has, Gives, GivesBy}

or_true : (b : Bool) → (b || true) ≡ true
or_true true = refl
or_true false = refl

-- a change among others puts a number that is past its type's end
pub past_at : (before : List volume.Change) (c : volume.Change) (after : List volume.Change) → is_past c ≡ true → ArePast (before ++ c ∷ after)
past_at [] c after h = ap (λ b. b || list_any is_past after) h
past_at (x ∷ xs) c after h = ap (λ b. is_past x || b) (past_at xs c after h) ∙ or_true (is_past x)

more_step : (b r s : Bool) → (r ≡ true → s ≡ true) → (b || r) ≡ true → (b || s) ≡ true
more_step true r s f h = refl
more_step false r s f h = f h

past_more : (xs ys : List volume.Change) → ArePast xs → ArePast (xs ++ ys)
past_more [] ys h = cc
past_more (x ∷ xs) ys h = more_step (is_past x) (list_any is_past xs) (list_any is_past (xs ++ ys)) (past_more xs ys) h

-- ---- where a part ends early

pub makes_err : {A : Type 0} (e : Halt) (past : A → Bool) (a : A) (before : List volume.Change) (c : volume.Change) (after : List volume.Change) → Counts past (Err e) a → is_past c ≡ past a → Makes (Err e) (before ++ c ∷ after)
makes_err (halt.Refused s) past a before c after h same = absurd h
makes_err halt.NoMemory past a before c after h same = tt
makes_err halt.Spent past a before c after h same = past_at before c after (same ∙ h)

pub has_err : (e : Halt) (o : Outcome) → Makes (Err e) o.changes → Has (Err e) o
has_err (halt.Refused s) o h = h
has_err halt.NoMemory o h = h
has_err halt.Spent o h = h

-- also where more changes follow
pub has_err_more : (e : Halt) (o : Outcome) (front more : List volume.Change) → o.changes ≡ front ++ more → Makes (Err e) front → Has (Err e) o
has_err_more (halt.Refused s) o front more is h = h
has_err_more halt.NoMemory o front more is h = h
has_err_more halt.Spent o front more is h = ap (list_any is_past) is ∙ past_more front more h

-- a number of one of the changes is past
pub has_err_at : {A : Type 0} (e : Halt) (past : A → Bool) (a : A) (o : Outcome) (before : List volume.Change) (c : volume.Change) (after : List volume.Change) → o.changes ≡ before ++ c ∷ after → Counts past (Err e) a → is_past c ≡ past a → Has (Err e) o
has_err_at (halt.Refused s) past a o before c after is h same = absurd h
has_err_at halt.NoMemory past a o before c after is h same = tt
has_err_at halt.Spent past a o before c after is h same = ap (list_any is_past) is ∙ past_at before c after (same ∙ h)

-- ---- the end of a plan

pub has_gives : (r : Result Outcome Halt) (o : Outcome) (end : Result Outcome Status) → Has r o → end ≡ Ok o → Gives r end
has_gives (Ok a) o end h is = is ∙ ap Ok (sym h)
has_gives (Err (halt.Refused s)) o end h is = absurd h
has_gives (Err halt.NoMemory) o end h is = tt
has_gives (Err halt.Spent) o end h is = subst IsSpent (sym is) h

pub gives_err : {A B : Type 0} (f : A → B) (e : Halt) (r : Result B Status) (rest : B → Result Outcome Status) (end : Result Outcome Status) → GivesBy f (Err e) r → end ≡ and_then r rest → Gives (Err e) end
gives_err f (halt.Refused s) r rest end h is = is ∙ ap (λ r. and_then r rest) h
gives_err f halt.NoMemory r rest end h is = tt
gives_err f halt.Spent r rest end h is = absurd h

pub gives_same : (r : Result Outcome Halt) (a b : Result Outcome Status) → Gives r a → b ≡ a → Gives r b
gives_same r a b h is = subst (Gives r) (sym is) h

-- what wasn't refused wasn't to be refused
pub not_refused : (b : Bool) (s : Status) (u : Unit {0}) → refused b s ≡ Ok u → b ≡ false
unfolding refused
not_refused true s u h = cc
not_refused false s u h = refl
