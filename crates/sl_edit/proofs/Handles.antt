-- The handles of a call stand where the grammar of its arguments puts them.
use Rattle.std.proofs.Common.{◌≡◌, ℕ, zero, suc, List, [], ◌++◌, Option, Some, None, refl, sym, ap, subst, ◌∙◌, append_assoc, append-nil}
use Rattle.sl_defs.specs.Parts.{◌⨾◌}
use Rattle.sl_types.specs.declared.call.Call.{Call}
use Rattle.sl_types.specs.declared.call.Call.TheVariants as call
use Rattle.sl_items.specs.Spelling.{IsFh}
use Rattle.sl_items.proofs.DataReaders.{fh_reader, bytes_reader}
use Rattle.sl_calls.specs.Args.{IsArgs, procedure_of}
use Rattle.sl_edit.specs.Fields.{first_handle, second_handle, handle_of, with_first, with_second, with_handle}
use Rattle.sl_edit.specs.Spans.{behind_handle, behind_entry, second_from, handle_from}

-- A text that begins with the item of a handle, and spells the same with the item of another handle there.
pub record Leads (fh : List ℕ) (Is : List ℕ → List ℕ → Type 0) (text : List ℕ) : Type 0 where
  pub item : List ℕ
  pub others : List ℕ
  pub is : IsFh fh item
  pub parts : text ≡ item ++ others
  pub again : (other other_item : List ℕ) → IsFh other other_item → Is other (other_item ++ others)

alone : (fh text : List ℕ) → IsFh fh text → Leads fh IsFh text
alone fh text is = record {
  item = text;
  others = [];
  is = is;
  parts = sym (append-nil text);
  again = λ other item is. subst (IsFh other) (sym (append-nil item)) is;
}

led : (fh : List ℕ) (Others : List ℕ → Type 0) (text : List ℕ) → (IsFh fh ⨾ Others) text → Leads fh (λ fh. IsFh fh ⨾ Others) text
led fh Others text is = record {
  item = is.0;
  others = is.1;
  is = is.2;
  parts = is.4;
  again = λ other item is_item. (item, is.1, is_item, is.3, refl);
}

-- where the handle and its name are one field of a larger structure
led_twice : (fh : List ℕ) (Name Others : List ℕ → Type 0) (text : List ℕ) → ((IsFh fh ⨾ Name) ⨾ Others) text → Leads fh (λ fh. (IsFh fh ⨾ Name) ⨾ Others) text
led_twice fh Name Others text is =
    let entry = is.2 in
    record {
      item = entry.0;
      others = entry.1 ++ is.1;
      is = entry.2;
      parts = is.4 ∙ ap (λ (t : List ℕ). t ++ is.1) entry.4 ∙ append_assoc entry.0 entry.1 is.1;
      again = λ other item is_item. (item ++ entry.1, is.1, (item, entry.1, is_item, entry.3, refl), is.3, sym (append_assoc item entry.1 is.1));
    }

-- Where a handle of a call stands in its arguments, and that reading finds it there.
pub record Stands (i : ℕ) (c : Call) (text fh : List ℕ) : Type 0 where
  pub front : List ℕ
  pub item : List ℕ
  pub others : List ℕ
  pub is : IsFh fh item
  pub parts : text ≡ front ++ (item ++ others)
  pub found : (rest : List ℕ) → handle_from i (procedure_of c) (text ++ rest) ≡ Some (item ++ (others ++ rest))
  pub again : (other other_item : List ℕ) → IsFh other other_item → IsArgs (with_handle i other c) (front ++ (other_item ++ others))
  pub same : (other : List ℕ) → procedure_of (with_handle i other c) ≡ procedure_of c

abbrev pub StandsIf : ℕ → Call → List ℕ → Option (List ℕ) → Type 0
StandsIf i c text None = (rest : List ℕ) → handle_from i (procedure_of c) (text ++ rest) ≡ None
StandsIf i c text (Some fh) = Stands i c text fh

-- a first handle
first : (c : Call) (fh text : List ℕ) → ((args : List ℕ) → handle_from 0 (procedure_of c) args ≡ Some args) → ((other : List ℕ) → procedure_of (with_first other c) ≡ procedure_of c) → Leads fh (λ fh. IsArgs (with_first fh c)) text → Stands 0 c text fh
first c fh text reads same l = record {
  front = [];
  item = l.item;
  others = l.others;
  is = l.is;
  parts = l.parts;
  found = λ rest. reads (text ++ rest) ∙ ap Some (ap (λ (t : List ℕ). t ++ rest) l.parts ∙ append_assoc l.item l.others rest);
  again = l.again;
  same = same;
}

first_stands : (c : Call) (text : List ℕ) → IsArgs c text → StandsIf 0 c text (first_handle c)
unfolding handle_from
first_stands call.Null text is = λ rest. refl
first_stands (call.Getattr object) text is = first (call.Getattr object) object text (λ args. refl) (λ other. refl) (alone object text is)
first_stands (call.Setattr object attributes guard) text is = first (call.Setattr object attributes guard) object text (λ args. refl) (λ other. refl) (led object _ text is)
first_stands (call.Lookup dir name) text is = first (call.Lookup dir name) dir text (λ args. refl) (λ other. refl) (led dir _ text is)
first_stands (call.Access object bits) text is = first (call.Access object bits) object text (λ args. refl) (λ other. refl) (led object _ text is)
first_stands (call.Readlink link) text is = first (call.Readlink link) link text (λ args. refl) (λ other. refl) (alone link text is)
first_stands (call.Read file offset count) text is = first (call.Read file offset count) file text (λ args. refl) (λ other. refl) (led file _ text is)
first_stands (call.Write file offset count stability bytes) text is = first (call.Write file offset count stability bytes) file text (λ args. refl) (λ other. refl) (led file _ text is)
first_stands (call.Create dir name how) text is = first (call.Create dir name how) dir text (λ args. refl) (λ other. refl) (led_twice dir _ _ text is)
first_stands (call.Mkdir dir name attributes) text is = first (call.Mkdir dir name attributes) dir text (λ args. refl) (λ other. refl) (led_twice dir _ _ text is)
first_stands (call.Symlink dir name attributes path) text is = first (call.Symlink dir name attributes path) dir text (λ args. refl) (λ other. refl) (led_twice dir _ _ text is)
first_stands (call.Mknod dir name what) text is = first (call.Mknod dir name what) dir text (λ args. refl) (λ other. refl) (led_twice dir _ _ text is)
first_stands (call.Remove dir name) text is = first (call.Remove dir name) dir text (λ args. refl) (λ other. refl) (led dir _ text is)
first_stands (call.Rmdir dir name) text is = first (call.Rmdir dir name) dir text (λ args. refl) (λ other. refl) (led dir _ text is)
first_stands (call.Rename from from_name to to_name) text is = first (call.Rename from from_name to to_name) from text (λ args. refl) (λ other. refl) (led_twice from _ _ text is)
first_stands (call.Link file dir name) text is = first (call.Link file dir name) file text (λ args. refl) (λ other. refl) (led file _ text is)
first_stands (call.Readdir dir cookie verifier count) text is = first (call.Readdir dir cookie verifier count) dir text (λ args. refl) (λ other. refl) (led dir _ text is)
first_stands (call.Readdirplus dir cookie verifier dircount maxcount) text is = first (call.Readdirplus dir cookie verifier dircount maxcount) dir text (λ args. refl) (λ other. refl) (led dir _ text is)
first_stands (call.Fsstat object) text is = first (call.Fsstat object) object text (λ args. refl) (λ other. refl) (alone object text is)
first_stands (call.Fsinfo object) text is = first (call.Fsinfo object) object text (λ args. refl) (λ other. refl) (alone object text is)
first_stands (call.Pathconf object) text is = first (call.Pathconf object) object text (λ args. refl) (λ other. refl) (alone object text is)
first_stands (call.Commit file offset count) text is = first (call.Commit file offset count) file text (λ args. refl) (λ other. refl) (led file _ text is)

-- a second handle, behind such a front
second : (c : Call) (fh front behind text : List ℕ) → text ≡ front ++ behind → ((rest : List ℕ) → handle_from 1 (procedure_of c) (front ++ rest) ≡ Some rest) → ((other : List ℕ) → procedure_of (with_second other c) ≡ procedure_of c) → Leads fh (λ fh behind. IsArgs (with_second fh c) (front ++ behind)) behind → Stands 1 c text fh
second c fh front behind text split reads same l = record {
  front = front;
  item = l.item;
  others = l.others;
  is = l.is;
  parts = split ∙ ap (λ (t : List ℕ). front ++ t) l.parts;
  found = λ rest. ap (λ (t : List ℕ). handle_from 1 (procedure_of c) (t ++ rest)) split ∙ ap (handle_from 1 (procedure_of c)) (append_assoc front behind rest) ∙ reads (behind ++ rest) ∙ ap Some (ap (λ (t : List ℕ). t ++ rest) l.parts ∙ append_assoc l.item l.others rest);
  again = l.again;
  same = same;
}

-- what leads in one relation leads in another that follows from it
turned : (fh : List ℕ) (Is To : List ℕ → List ℕ → Type 0) (text : List ℕ) → ((other text : List ℕ) → Is other text → To other text) → Leads fh Is text → Leads fh To text
turned fh Is To text f l = record { item = l.item; others = l.others; is = l.is; parts = l.parts; again = λ other item is. f other (item ++ l.others) (l.again other item is) }

second_stands : (c : Call) (text : List ℕ) → IsArgs c text → StandsIf 1 c text (second_handle c)
unfolding handle_from second_from
second_stands (call.Rename from from_name to to_name) text is =
    let entry = is.2 in
    let reads : (rest : List ℕ) → behind_entry (is.0 ++ rest) ≡ Some rest = λ rest. ap behind_entry (ap (λ (t : List ℕ). t ++ rest) entry.4 ∙ append_assoc entry.0 entry.1 rest) ∙ rw (fh_reader.found from entry.0 (entry.1 ++ rest) entry.2, bytes_reader.found from_name entry.1 rest entry.3) refl in
    second (call.Rename from from_name to to_name) to is.0 is.1 text is.4 reads (λ other. refl) (turned to _ _ is.1 (λ other behind t. (is.0, behind, is.2, t, refl)) (led to _ is.1 is.3))
second_stands (call.Link file dir name) text is =
    let reads : (rest : List ℕ) → behind_handle (is.0 ++ rest) ≡ Some rest = λ rest. rw (fh_reader.found file is.0 rest is.2) refl in
    second (call.Link file dir name) dir is.0 is.1 text is.4 reads (λ other. refl) (turned dir _ _ is.1 (λ other behind t. (is.0, behind, is.2, t, refl)) (led dir _ is.1 is.3))
second_stands other text is = λ rest. refl

pub handle_stands : (i : ℕ) (c : Call) (text : List ℕ) → IsArgs c text → StandsIf i c text (handle_of i c)
unfolding handle_from
handle_stands zero c text is = first_stands c text is
handle_stands (suc zero) c text is = second_stands c text is
handle_stands (suc (suc i)) c text is = λ rest. refl
