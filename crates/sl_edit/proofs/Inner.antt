-- A field inside larger parts of results: where reading finds it, and that the parts spell the same with another value there.
use Rattle.std.proofs.Common.{◌≡◌, ℕ, ◌^◌, ◌<◌, false, List, [], ◌++◌, Option, Some, None, refl, sym, ap, subst, ◌∙◌, append_assoc, append-nil, arith}
use Rattle.std.proofs.lemmas.Bool.{eq-eqb, ne_eqb}
use Rattle.sl_defs.specs.Items.{u32_text, ◌>>=◌}
use Rattle.sl_defs.specs.Parts.{◌⨾◌, IsOptional}
use Rattle.sl_defs.proofs.ItemLaws.{u32_found}
use Rattle.sl_types.specs.declared.kind.Status.{Status}
use Rattle.sl_types.specs.declared.kind.Status.TheVariants as status
use Rattle.sl_types.specs.Numbers.{status_number, is_ok_status}
use Rattle.sl_replies.specs.Results.{IsStatus}
use Rattle.sl_edit.specs.Spans.{word_at}

-- The field in a text that is in this relation, whatever follows the text.
pub record Inner {V : Type 0} (Spells : V → List ℕ → Type 0) (Is : V → List ℕ → Type 0) (from : List ℕ → Option (List ℕ)) (value : V) (text : List ℕ) : Type 0 where
  pub before : List ℕ
  pub field : List ℕ
  pub after : List ℕ
  pub is : Spells value field
  pub parts : text ≡ before ++ (field ++ after)
  pub found : (rest : List ℕ) → from (text ++ rest) ≡ Some (field ++ (after ++ rest))
  pub again : (other : V) (other_field : List ℕ) → Spells other other_field → Is other (before ++ (other_field ++ after))

-- the same of a field that may be absent: then reading finds none
abbrev pub InnerIf : {V : Type 0} → (V → List ℕ → Type 0) → (V → List ℕ → Type 0) → (List ℕ → Option (List ℕ)) → Option V → List ℕ → Type 0
InnerIf Spells Is from None text = (rest : List ℕ) → from (text ++ rest) ≡ None
InnerIf Spells Is from (Some value) text = Inner Spells Is from value text

-- The field in a text behind which nothing stands.
pub record At {V : Type 0} (Spells : V → List ℕ → Type 0) (Is : V → List ℕ → Type 0) (from : List ℕ → Option (List ℕ)) (value : V) (text : List ℕ) : Type 0 where
  pub before : List ℕ
  pub field : List ℕ
  pub after : List ℕ
  pub is : Spells value field
  pub parts : text ≡ before ++ (field ++ after)
  pub found : from text ≡ Some (field ++ after)
  pub again : (other : V) (other_field : List ℕ) → Spells other other_field → Is other (before ++ (other_field ++ after))

abbrev pub AtIf : {V : Type 0} → (V → List ℕ → Type 0) → (V → List ℕ → Type 0) → (List ℕ → Option (List ℕ)) → Option V → List ℕ → Type 0
AtIf Spells Is from None text = from text ≡ None
AtIf Spells Is from (Some value) text = At Spells Is from value text

pub at_end : {V : Type 0} (Spells Is : V → List ℕ → Type 0) (from : List ℕ → Option (List ℕ)) (o : Option V) (text : List ℕ) → InnerIf Spells Is from o text → AtIf Spells Is from o text
at_end Spells Is from None text none = ap from (sym (append-nil text)) ∙ none []
at_end Spells Is from (Some value) text i = record {
  before = i.before;
  field = i.field;
  after = i.after;
  is = i.is;
  parts = i.parts;
  found = ap from (sym (append-nil text)) ∙ i.found [] ∙ ap (λ (t : List ℕ). Some (i.field ++ t)) (append-nil i.after);
  again = i.again;
}

module _ {V : Type 0} (Spells : V → List ℕ → Type 0) where
  -- the field alone
  pub here : (value : V) (text : List ℕ) → Spells value text → InnerIf Spells Spells Some (Some value) text
  here value text is = record {
    before = [];
    field = text;
    after = [];
    is = is;
    parts = sym (append-nil text);
    found = λ rest. refl;
    again = λ other field is. subst (Spells other) (sym (append-nil field)) is;
  }

  -- with more behind it
  pub then_more : (Is : V → List ℕ → Type 0) (from : List ℕ → Option (List ℕ)) (Others : List ℕ → Type 0) (o : Option V) (text others : List ℕ) → Others others → InnerIf Spells Is from o text
      → InnerIf Spells (λ v. Is v ⨾ Others) from o (text ++ others)
  then_more Is from Others None text others is none = λ rest. ap from (append_assoc text others rest) ∙ none (others ++ rest)
  then_more Is from Others (Some value) text others is f = record {
    before = f.before;
    field = f.field;
    after = f.after ++ others;
    is = f.is;
    parts = ap (λ (t : List ℕ). t ++ others) f.parts ∙ append_assoc f.before (f.field ++ f.after) others ∙ ap (λ (t : List ℕ). f.before ++ t) (append_assoc f.field f.after others);
    found = λ rest. ap from (append_assoc text others rest) ∙ f.found (others ++ rest) ∙ ap (λ (t : List ℕ). Some (f.field ++ t)) (sym (append_assoc f.after others rest));
    again = λ other field is_field. (f.before ++ (field ++ f.after), others, f.again other field is_field, is, sym (append_assoc f.before (field ++ f.after) others ∙ ap (λ (t : List ℕ). f.before ++ t) (append_assoc field f.after others)));
  }

  -- behind a part that reading passes
  pub behind : (Is : V → List ℕ → Type 0) (pass from : List ℕ → Option (List ℕ)) (First : List ℕ → Type 0) (o : Option V) (first text : List ℕ) → First first → ((rest : List ℕ) → pass (first ++ rest) ≡ Some rest) → InnerIf Spells Is from o text
      → InnerIf Spells (λ v. First ⨾ Is v) (λ t. pass t >>= from) o (first ++ text)
  behind Is pass from First None first text is passes none = λ rest. ap (λ (t : List ℕ). pass t >>= from) (append_assoc first text rest) ∙ rw (passes (text ++ rest)) (none rest)
  behind Is pass from First (Some value) first text is passes f = record {
    before = first ++ f.before;
    field = f.field;
    after = f.after;
    is = f.is;
    parts = ap (λ (t : List ℕ). first ++ t) f.parts ∙ sym (append_assoc first f.before (f.field ++ f.after));
    found = λ rest. ap (λ (t : List ℕ). pass t >>= from) (append_assoc first text rest) ∙ rw (passes (text ++ rest)) (f.found rest);
    again = λ other field is_field. (first, f.before ++ (field ++ f.after), is, f.again other field is_field, append_assoc first f.before (field ++ f.after));
  }

  -- in a relation that follows
  pub turned : (Is To : V → List ℕ → Type 0) (from : List ℕ → Option (List ℕ)) (o : Option V) (text : List ℕ) → ((other : V) (text : List ℕ) → Is other text → To other text) → InnerIf Spells Is from o text → InnerIf Spells To from o text
  turned Is To from None text f none = none
  turned Is To from (Some value) text f i = record { before = i.before; field = i.field; after = i.after; is = i.is; parts = i.parts; found = i.found; again = λ other field is. f other (i.before ++ (field ++ i.after)) (i.again other field is) }

  -- in an equal text
  pub moved : (Is : V → List ℕ → Type 0) (from : List ℕ → Option (List ℕ)) (o : Option V) (text other : List ℕ) → other ≡ text → InnerIf Spells Is from o text → InnerIf Spells Is from o other
  moved Is from o text other same i = subst (λ (t : List ℕ). InnerIf Spells Is from o t) (sym same) i

-- ---- numbers that are told

-- the number is passed
pub passes_word : (k : ℕ) (rest : List ℕ) → k < 2 ^ 32 → word_at k (u32_text k ++ rest) ≡ Some rest
unfolding word_at
passes_word k rest fits = rw (u32_found k rest fits, eq-eqb k k refl) refl

-- and no other one
pub stops_word : (k n : ℕ) (rest : List ℕ) → n < 2 ^ 32 → (n ≡ k → ⊥) → word_at k (u32_text n ++ rest) ≡ None
unfolding word_at
stops_word k n rest fits other = rw (u32_found n rest fits, ne_eqb n k other) refl

-- ---- an optional part

pub flagged : {V : Type 0} (Spells : V → List ℕ → Type 0) (o : Option V) (text : List ℕ) → IsOptional Spells o text → InnerIf Spells (λ v. IsOptional Spells (Some v)) (word_at 1) o text
flagged Spells None text is = λ rest.
    ap (λ (t : List ℕ). word_at 1 (t ++ rest)) (is.4 ∙ ap (λ (t : List ℕ). t ++ is.1) is.2.0)
    ∙ ap (word_at 1) (append_assoc (u32_text 0) is.1 rest)
    ∙ stops_word 1 0 (is.1 ++ rest) (omega arith) (λ e. omega (arith, e))
flagged Spells (Some value) text is = record {
  before = u32_text 1;
  field = is.1;
  after = [];
  is = is.3;
  parts = is.4 ∙ ap (λ (t : List ℕ). t ++ is.1) is.2.0 ∙ ap (λ (t : List ℕ). u32_text 1 ++ t) (sym (append-nil is.1));
  found = λ rest. ap (λ (t : List ℕ). word_at 1 (t ++ rest)) (is.4 ∙ ap (λ (t : List ℕ). t ++ is.1) is.2.0) ∙ ap (word_at 1) (append_assoc (u32_text 1) is.1 rest) ∙ passes_word 1 (is.1 ++ rest) (omega arith);
  again = λ other field is_field. (u32_text 1, field ++ [], (refl, omega arith), subst (Spells other) (sym (append-nil field)) is_field, refl);
}

-- ---- results behind their status

status_fits : (s : Status) → status_number s < 2 ^ 32
status_fits status.Ok = omega arith
status_fits status.Perm = omega arith
status_fits status.NoEnt = omega arith
status_fits status.Acces = omega arith
status_fits status.Exist = omega arith
status_fits status.NotDir = omega arith
status_fits status.IsDir = omega arith
status_fits status.Inval = omega arith
status_fits status.FBig = omega arith
status_fits status.NoSpc = omega arith
status_fits status.MLink = omega arith
status_fits status.NameTooLong = omega arith
status_fits status.NotEmpty = omega arith
status_fits status.Stale = omega arith
status_fits status.BadHandle = omega arith
status_fits status.NotSync = omega arith
status_fits status.BadCookie = omega arith
status_fits status.TooSmall = omega arith
status_fits status.BadType = omega arith

not_zero : (s : Status) → is_ok_status s ≡ false → status_number s ≡ 0 → ⊥
not_zero status.Ok e = absurd cc
not_zero status.Perm e = λ z. omega (arith, z)
not_zero status.NoEnt e = λ z. omega (arith, z)
not_zero status.Acces e = λ z. omega (arith, z)
not_zero status.Exist e = λ z. omega (arith, z)
not_zero status.NotDir e = λ z. omega (arith, z)
not_zero status.IsDir e = λ z. omega (arith, z)
not_zero status.Inval e = λ z. omega (arith, z)
not_zero status.FBig e = λ z. omega (arith, z)
not_zero status.NoSpc e = λ z. omega (arith, z)
not_zero status.MLink e = λ z. omega (arith, z)
not_zero status.NameTooLong e = λ z. omega (arith, z)
not_zero status.NotEmpty e = λ z. omega (arith, z)
not_zero status.Stale e = λ z. omega (arith, z)
not_zero status.BadHandle e = λ z. omega (arith, z)
not_zero status.NotSync e = λ z. omega (arith, z)
not_zero status.BadCookie e = λ z. omega (arith, z)
not_zero status.TooSmall e = λ z. omega (arith, z)
not_zero status.BadType e = λ z. omega (arith, z)

-- status OK is passed
pub ok_passes : (text rest : List ℕ) → IsStatus status.Ok text → word_at 0 (text ++ rest) ≡ Some rest
ok_passes text rest is = ap (λ (t : List ℕ). word_at 0 (t ++ rest)) is ∙ passes_word 0 rest (omega arith)

-- another one stops the reading
pub fault_stops : (s : Status) (text rest : List ℕ) → is_ok_status s ≡ false → IsStatus s text → word_at 0 (text ++ rest) ≡ None
fault_stops s text rest failed is = ap (λ (t : List ℕ). word_at 0 (t ++ rest)) is ∙ stops_word 0 (status_number s) rest (status_fits s) (not_zero s failed)
