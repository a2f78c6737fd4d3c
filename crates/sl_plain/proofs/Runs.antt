-- How plans run, step by step.
use Rattle.std.proofs.Common.{◌≡◌, ℕ, List, Option, Some, None, Bool, true, false, Ok, refl}
use Rattle.sl_types.specs.declared.kind.Status.{Status}
use Rattle.sl_types.specs.declared.handle.Handle.{Handle}
use Rattle.sl_types.specs.Handles.{handle_of}
use Rattle.sl_model.specs.Plan.{Plan, Done, Stop, Look, See, Find, Climb, Names, Text, Bytes, Verifier, Want, Key, Sight, run, and_then, ◌>>=◌}
use Rattle.sl_model.specs.Looking.{Outcome}
use Rattle.sl_model.specs.Procedures.{with_handle, with_handles}
use Rattle.sl_model.specs.Checks.{refuse, handle, handle_or, checked, checked_both, want, text_of, bytes_of, names_behind, find, verifier}
use Rattle.sl_plain.specs.Steps.{refused, checked_name, checked_names, handle_from, read_handle}

pub run_bind : {A B : Type 0} (s : Sight) (p : Plan A) (f : A → Plan B) → run s (p >>= f) ≡ and_then (run s p) (λ a. run s (f a))
unfolding run ◌>>=◌
run_bind s (Done a) f = refl
run_bind s (Stop t) f = refl
run_bind s (Look n k) f = run_bind s (k (s.look n)) f
run_bind s (See n k) f = run_bind s (k (s.see n)) f
run_bind s (Find d n k) f = run_bind s (k (s.find d n)) f
run_bind s (Climb a b k) f = run_bind s (k (s.below a b)) f
run_bind s (Names d c k) f = run_bind s (k (s.names d c)) f
run_bind s (Text n k) f = run_bind s (k (s.text n)) f
run_bind s (Bytes n a c k) f = run_bind s (k (s.bytes n a c)) f
run_bind s (Verifier k) f = run_bind s (k s.verifier) f
run_bind s (Want ks p) f = run_bind s p f

pub run_done : {A : Type 0} (s : Sight) (a : A) → run s (Done a) ≡ Ok a
unfolding run
run_done s a = refl

pub run_want : (s : Sight) (ks : List Key) → run s (want ks) ≡ Ok tt
unfolding run
run_want s ks = refl

pub run_refuse : (s : Sight) (b : Bool) (t : Status) → run s (refuse b t) ≡ refused b t
unfolding run refused
run_refuse s true t = refl
run_refuse s false t = refl

pub run_handle : (s : Sight) (bytes : List ℕ) → run s (handle bytes) ≡ read_handle bytes
unfolding run read_handle
run_handle s bytes = at (handle_of bytes)
  where
    at : (o : Option Handle) → run s (handle_or o) ≡ handle_from o
    at None = refl
    at (Some h) = refl

pub run_checked : (s : Sight) (name : List ℕ) → run s (checked name) ≡ checked_name name
unfolding checked_name checked
run_checked s name = simp (run_bind, run_refuse)

pub run_checked_both : (s : Sight) (a b : List ℕ) → run s (checked_both a b) ≡ checked_names a b
unfolding checked_names checked_both
run_checked_both s a b = simp (run_bind, run_refuse)

pub run_text : (s : Sight) (f : ℕ) → run s (text_of f) ≡ Ok (s.text f)
unfolding run
run_text s f = refl

pub run_bytes : (s : Sight) (f at count : ℕ) → run s (bytes_of f at count) ≡ Ok (s.bytes f at count)
unfolding run
run_bytes s f at count = refl

pub run_names : (s : Sight) (d cookie : ℕ) → run s (names_behind d cookie) ≡ Ok (s.names d cookie)
unfolding run
run_names s d cookie = refl

pub run_find : (s : Sight) (d : ℕ) (name : List ℕ) → run s (find d name) ≡ Ok (s.find d name)
unfolding run
run_find s d name = refl

pub run_verifier : (s : Sight) → run s verifier ≡ Ok s.verifier
unfolding run
run_verifier s = refl

pub ruleset runs = (run_bind, run_done, run_want, run_refuse, run_handle, run_checked, run_checked_both, run_text, run_bytes, run_names, run_find, run_verifier)

-- the handles are read first
pub with_handle_run : (eye : Sight) (bytes : List ℕ) (f : Handle → Plan Outcome) → run eye (with_handle bytes f) ≡
    and_then (read_handle bytes) (λ h. run eye (f h))
with_handle_run eye bytes f = simp runs

pub with_handles_run : (eye : Sight) (first second : List ℕ) (f : Handle → Handle → Plan Outcome) → run eye (with_handles first second f) ≡
    and_then (read_handle first) (λ a. and_then (read_handle second) (λ b. run eye (f a b)))
with_handles_run eye first second f = simp runs
