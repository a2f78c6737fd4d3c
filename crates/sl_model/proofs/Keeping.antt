-- What changes nothing.
use Rattle.std.proofs.Common.{◌≡◌, ℕ, List, [], Option, Some, None, Bool, true, false, Result, Ok, Err, refl, ap, cond}
use Rattle.std.specs.Prelude.{◌≢◌, ◌==◌, ◌&&◌, not, take}
use Rattle.sl_defs.specs.declared.setup.Time.{Time}
use Rattle.sl_defs.specs.declared.note.Choice.{Choice}
use Rattle.sl_types.specs.declared.kind.Status.{Status}
use Rattle.sl_types.specs.declared.kind.Status.TheVariants as status
use Rattle.sl_types.specs.declared.call.Stable.{Stable}
use Rattle.sl_types.specs.declared.call.CreateHow.{CreateHow}
use Rattle.sl_types.specs.declared.cred.Cred.{Cred}
use Rattle.sl_types.specs.declared.handle.Handle.{Handle}
use Rattle.sl_types.specs.declared.call.Call.{Call}
use Rattle.sl_types.specs.declared.call.Call.TheVariants as call
use Rattle.sl_model.specs.declared.node.Node.{Node}
use Rattle.sl_model.specs.declared.node.Entry.{Entry}
use Rattle.sl_model.specs.Plan.{run}
use Rattle.sl_model.specs.Volume.{sight, after_changes}
use Rattle.sl_model.specs.Checks.{is_dot, is_dot_dot}
use Rattle.sl_model.specs.Looking.{Outcome, lookup_in}
use Rattle.sl_model.specs.Changing.{write_in, is_unstable, unstable_write, stable_write, writing, writable, create_at, rename_in, is_one}
use Rattle.sl_model.specs.Procedures.{plan, fault, is_reading}
use Rattle.sl_model.specs.Perform.{ends, perform}
use Rattle.sl_model.specs.Laws.{status_of, ReadingKeeps, FailureKeeps}
use Rattle.sl_model.proofs.Leaves.{AllEnd, answer_has, then_all, either_all}

-- nothing changes
abbrev pub Quiet : Outcome → Type 0
Quiet o = o.changes ≡ []

-- the answer is OK
abbrev pub Fine : Outcome → Type 0
Fine o = status_of o.answer ≡ status.Ok

lookup_quiet : (h : Handle) (d : Node) (name : List ℕ) → AllEnd Quiet (lookup_in h d name)
unfolding lookup_in
lookup_quiet h d name = either_all Quiet (is_dot name) _ _ refl (either_all Quiet (is_dot_dot name) _ _ refl (then_all Quiet _ _ (λ e. then_all Quiet _ _ (λ n. refl))))

lookup_fine : (h : Handle) (d : Node) (name : List ℕ) → AllEnd Fine (lookup_in h d name)
unfolding lookup_in
lookup_fine h d name = either_all Fine (is_dot name) _ _ refl (either_all Fine (is_dot_dot name) _ _ refl (then_all Fine _ _ (λ e. then_all Fine _ _ (λ n. refl))))

reading_quiet : (c : Call) (cred : Cred) (now : Time) (choice : Choice) → is_reading c ≡ true → AllEnd Quiet (plan c cred now choice)
reading_quiet call.Null cred now choice r = refl
reading_quiet (call.Getattr object) cred now choice r = then_all Quiet _ _ (λ h. then_all Quiet _ _ (λ u. then_all Quiet _ _ (λ n. refl)))
reading_quiet (call.Lookup dir name) cred now choice r = then_all Quiet _ _ (λ h. then_all Quiet _ _ (λ u. then_all Quiet _ _ (λ w. then_all Quiet _ _ (λ d. lookup_quiet h d name))))
reading_quiet (call.Access object bits) cred now choice r = then_all Quiet _ _ (λ h. then_all Quiet _ _ (λ u. then_all Quiet _ _ (λ n. refl)))
reading_quiet (call.Readlink link) cred now choice r = then_all Quiet _ _ (λ h. then_all Quiet _ _ (λ n. then_all Quiet _ _ (λ u. then_all Quiet _ _ (λ t. refl))))
reading_quiet (call.Read file offset count) cred now choice r = then_all Quiet _ _ (λ h. then_all Quiet _ _ (λ o. then_all Quiet _ _ (λ u. then_all Quiet _ _ (λ n. then_all Quiet _ _ (λ b. refl)))))
reading_quiet (call.Readdir dir cookie verifier count) cred now choice r = then_all Quiet _ _ (λ h. then_all Quiet _ _ (λ l. refl))
reading_quiet (call.Readdirplus dir cookie verifier dircount maxcount) cred now choice r = then_all Quiet _ _ (λ h. then_all Quiet _ _ (λ l. refl))
reading_quiet (call.Fsstat object) cred now choice r = then_all Quiet _ _ (λ h. then_all Quiet _ _ (λ u. refl))
reading_quiet (call.Fsinfo object) cred now choice r = then_all Quiet _ _ (λ h. then_all Quiet _ _ (λ u. refl))
reading_quiet (call.Pathconf object) cred now choice r = then_all Quiet _ _ (λ h. then_all Quiet _ _ (λ u. refl))
reading_quiet (call.Setattr object attributes guard) cred now choice r = absurd cc
reading_quiet (call.Write file offset count asked bytes) cred now choice r = absurd cc
reading_quiet (call.Create dir name how) cred now choice r = absurd cc
reading_quiet (call.Mkdir dir name attributes) cred now choice r = absurd cc
reading_quiet (call.Symlink dir name attributes path) cred now choice r = absurd cc
reading_quiet (call.Mknod dir name what) cred now choice r = absurd cc
reading_quiet (call.Remove dir name) cred now choice r = absurd cc
reading_quiet (call.Rmdir dir name) cred now choice r = absurd cc
reading_quiet (call.Rename from name to to_name) cred now choice r = absurd cc
reading_quiet (call.Link file dir name) cred now choice r = absurd cc
reading_quiet (call.Commit file offset count) cred now choice r = absurd cc

writing_fine : (n : Node) (offset : ℕ) (bytes : List ℕ) (asked : Stable) (verifier : ℕ) (now : Time) (kept : Bool) → Fine (writing n offset bytes asked verifier now kept)
writing_fine n offset bytes asked verifier now kept = at (is_unstable asked) kept
  where
    at : (a k : Bool) → status_of (cond (a && not k) (unstable_write n offset bytes verifier now) (stable_write n offset bytes verifier now)).answer ≡ status.Ok
    at true true = refl
    at true false = refl
    at false k = refl

write_fine : (h : Handle) (offset count : ℕ) (asked : Stable) (bytes : List ℕ) (now : Time) (choice : Choice) → AllEnd Fine (write_in h offset count asked bytes now choice)
unfolding write_in
write_fine h offset count asked bytes now choice = either_all Fine (count == 0) _ _
    (then_all Fine _ _ (λ n. then_all Fine _ _ (λ v. refl)))
    (then_all Fine _ _ (λ u. then_all Fine _ _ (λ n. then_all Fine _ _ (λ v. writing_fine n offset (take (writable offset count) bytes) asked v now choice.kept))))

create_fine : (d : Node) (name : List ℕ) (h : CreateHow) (cred : Cred) (now : Time) (choice : Choice) (o : Option Entry) → AllEnd Fine (create_at d name h cred now choice o)
unfolding create_at
create_fine d name h cred now choice None = then_all Fine _ _ (λ u. refl)
create_fine d name h cred now choice (Some e) = then_all Fine _ _ (λ u. then_all Fine _ _ (λ n. then_all Fine _ _ (λ w. refl)))

rename_fine : (from : Node) (name : List ℕ) (to : Node) (to_name : List ℕ) (e : Entry) (o : Option Entry) (now : Time) → AllEnd Fine (rename_in from name to to_name e o now)
unfolding rename_in
rename_fine from name to to_name e o now = either_all Fine (is_one e o) _ _ refl
    (then_all Fine _ _ (λ b. then_all Fine _ _ (λ u. then_all Fine _ _ (λ n. then_all Fine _ _ (λ t. then_all Fine _ _ (λ w. then_all Fine _ _ (λ z. refl)))))))

plan_fine : (c : Call) (cred : Cred) (now : Time) (choice : Choice) → AllEnd Fine (plan c cred now choice)
plan_fine call.Null cred now choice = refl
plan_fine (call.Getattr object) cred now choice = then_all Fine _ _ (λ h. then_all Fine _ _ (λ u. then_all Fine _ _ (λ n. refl)))
plan_fine (call.Lookup dir name) cred now choice = then_all Fine _ _ (λ h. then_all Fine _ _ (λ u. then_all Fine _ _ (λ w. then_all Fine _ _ (λ d. lookup_fine h d name))))
plan_fine (call.Access object bits) cred now choice = then_all Fine _ _ (λ h. then_all Fine _ _ (λ u. then_all Fine _ _ (λ n. refl)))
plan_fine (call.Readlink link) cred now choice = then_all Fine _ _ (λ h. then_all Fine _ _ (λ n. then_all Fine _ _ (λ u. then_all Fine _ _ (λ t. refl))))
plan_fine (call.Read file offset count) cred now choice = then_all Fine _ _ (λ h. then_all Fine _ _ (λ o. then_all Fine _ _ (λ u. then_all Fine _ _ (λ n. then_all Fine _ _ (λ b. refl)))))
plan_fine (call.Readdir dir cookie verifier count) cred now choice = then_all Fine _ _ (λ h. then_all Fine _ _ (λ l. refl))
plan_fine (call.Readdirplus dir cookie verifier dircount maxcount) cred now choice = then_all Fine _ _ (λ h. then_all Fine _ _ (λ l. refl))
plan_fine (call.Fsstat object) cred now choice = then_all Fine _ _ (λ h. then_all Fine _ _ (λ u. refl))
plan_fine (call.Fsinfo object) cred now choice = then_all Fine _ _ (λ h. then_all Fine _ _ (λ u. refl))
plan_fine (call.Pathconf object) cred now choice = then_all Fine _ _ (λ h. then_all Fine _ _ (λ u. refl))
plan_fine (call.Commit file offset count) cred now choice = then_all Fine _ _ (λ h. then_all Fine _ _ (λ o. then_all Fine _ _ (λ u. then_all Fine _ _ (λ n. then_all Fine _ _ (λ v. refl)))))
plan_fine (call.Setattr object attributes guard) cred now choice = then_all Fine _ _ (λ h. then_all Fine _ _ (λ a. then_all Fine _ _ (λ b. then_all Fine _ _ (λ c. then_all Fine _ _ (λ d. then_all Fine _ _ (λ e. then_all Fine _ _ (λ n. refl)))))))
plan_fine (call.Write file offset count asked bytes) cred now choice = then_all Fine _ _ (λ h. then_all Fine _ _ (λ a. then_all Fine _ _ (λ b. write_fine h offset count asked bytes now choice)))
plan_fine (call.Create dir name how) cred now choice = then_all Fine _ _ (λ h. then_all Fine _ _ (λ a. then_all Fine _ _ (λ b. then_all Fine _ _ (λ w. then_all Fine _ _ (λ d. then_all Fine _ _ (λ e. then_all Fine _ _ (λ f. then_all Fine _ _ (λ o. create_fine d name how cred now choice o))))))))
plan_fine (call.Mkdir dir name attributes) cred now choice = then_all Fine _ _ (λ h. then_all Fine _ _ (λ a. then_all Fine _ _ (λ b. then_all Fine _ _ (λ w. then_all Fine _ _ (λ d. then_all Fine _ _ (λ e. then_all Fine _ _ (λ f. then_all Fine _ _ (λ g. refl))))))))
plan_fine (call.Symlink dir name attributes path) cred now choice = then_all Fine _ _ (λ h. then_all Fine _ _ (λ a. then_all Fine _ _ (λ b. then_all Fine _ _ (λ c. then_all Fine _ _ (λ w. then_all Fine _ _ (λ d. then_all Fine _ _ (λ e. then_all Fine _ _ (λ f. refl))))))))
plan_fine (call.Mknod dir name what) cred now choice = then_all Fine _ _ (λ h. then_all Fine _ _ (λ a. then_all Fine _ _ (λ b. then_all Fine _ _ (λ w. then_all Fine _ _ (λ d. then_all Fine _ _ (λ s. then_all Fine _ _ (λ e. then_all Fine _ _ (λ f. refl))))))))
plan_fine (call.Remove dir name) cred now choice = then_all Fine _ _ (λ h. then_all Fine _ _ (λ a. then_all Fine _ _ (λ w. then_all Fine _ _ (λ d. then_all Fine _ _ (λ b. then_all Fine _ _ (λ e. then_all Fine _ _ (λ c. then_all Fine _ _ (λ n. refl))))))))
plan_fine (call.Rmdir dir name) cred now choice = then_all Fine _ _ (λ h. then_all Fine _ _ (λ a. then_all Fine _ _ (λ w. then_all Fine _ _ (λ d. then_all Fine _ _ (λ b. then_all Fine _ _ (λ b'. then_all Fine _ _ (λ e. then_all Fine _ _ (λ c. then_all Fine _ _ (λ n. then_all Fine _ _ (λ z. refl))))))))))
plan_fine (call.Rename from name to to_name) cred now choice = then_all Fine _ _ (λ a. then_all Fine _ _ (λ b. then_all Fine _ _ (λ u. then_all Fine _ _ (λ w. then_all Fine _ _ (λ f. then_all Fine _ _ (λ d. then_all Fine _ _ (λ p. then_all Fine _ _ (λ q. then_all Fine _ _ (λ r. then_all Fine _ _ (λ s. then_all Fine _ _ (λ t. then_all Fine _ _ (λ e. then_all Fine _ _ (λ o. rename_fine f name d to_name e o now)))))))))))))
plan_fine (call.Link file dir name) cred now choice = then_all Fine _ _ (λ h. then_all Fine _ _ (λ to. then_all Fine _ _ (λ u. then_all Fine _ _ (λ w. then_all Fine _ _ (λ o. then_all Fine _ _ (λ d. then_all Fine _ _ (λ p. then_all Fine _ _ (λ q. then_all Fine _ _ (λ r. then_all Fine _ _ (λ s. then_all Fine _ _ (λ t. then_all Fine _ _ (λ x. then_all Fine _ _ (λ n. refl)))))))))))))

pub reading_keeps : ReadingKeeps
unfolding perform
reading_keeps v c cred now choice r = at (run (sight v) (plan c cred now choice)) refl
  where
    at : (e : Result Outcome Status) → run (sight v) (plan c cred now choice) ≡ e → (ends v (fault c) e).0 ≡ v
    at (Ok o) e = ap (λ cs. after_changes cs v) (answer_has Quiet (sight v) (plan c cred now choice) o (reading_quiet c cred now choice r) e)
    at (Err t) e = refl

pub failure_keeps : FailureKeeps
unfolding perform
failure_keeps v c cred now choice = at (run (sight v) (plan c cred now choice)) refl
  where
    at : (e : Result Outcome Status) → run (sight v) (plan c cred now choice) ≡ e → status_of (ends v (fault c) e).1 ≢ status.Ok → (ends v (fault c) e).0 ≡ v
    at (Ok o) e wrong = absurd (wrong (answer_has Fine (sight v) (plan c cred now choice) o (plan_fine c cred now choice) e))
    at (Err t) e wrong = refl
