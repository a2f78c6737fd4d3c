-- What a call looks up, one thing after another, and how that ends. Each procedure is written once, as such a plan.
use Rattle.std.specs.Prelude.{ℕ, List, Option, Bool, Result, Ok, Err}
use Rattle.sl_types.specs.declared.kind.Status.{Status}
use Rattle.sl_model.specs.declared.node.Node.{Node}
use Rattle.sl_model.specs.declared.node.Entry.{Entry}
use Rattle.sl_model.specs.declared.node.Listed.{Listed}

-- where a server keeps what it knows: the node of a fileid, and what a name of a directory leads to
pub data Key : Type 0 where
  NodeKey : ℕ → Key
  NameKey : ℕ → List ℕ → Key

pub data Plan (A : Type 0) : Type 0 where
  -- an answer, or a status that isn't OK
  Done : A → Plan A
  Stop : Status → Plan A
  -- an object's node, for what no unstable write changes
  Look : ℕ → (Option Node → Plan A) → Plan A
  -- an object's node as its unstable writes make it: for what the call changes or gives the attributes of
  See : ℕ → (Option Node → Plan A) → Plan A
  -- what a name of a directory leads to
  Find : ℕ → List ℕ → (Option Entry → Plan A) → Plan A
  -- whether the second directory is the first or below it
  Climb : ℕ → ℕ → (Bool → Plan A) → Plan A
  -- a directory's names behind a cookie
  Names : ℕ → ℕ → (List Listed → Plan A) → Plan A
  -- a link's text
  Text : ℕ → (List ℕ → Plan A) → Plan A
  -- bytes of a file as its unstable writes make it: from an offset on, so many
  Bytes : ℕ → ℕ → ℕ → (List ℕ → Plan A) → Plan A
  -- the write verifier
  Verifier : (ℕ → Plan A) → Plan A
  -- these keys are asked for together, which doesn't matter to the answer
  Want : List Key → Plan A → Plan A

infixl 10 ◌>>=◌
unfoldable pub ◌>>=◌ : {A B : Type 0} → Plan A → (A → Plan B) → Plan B
(Done a) >>= f = f a
(Stop s) >>= f = Stop s
(Look n k) >>= f = Look n (λ o. k o >>= f)
(See n k) >>= f = See n (λ o. k o >>= f)
(Find d n k) >>= f = Find d n (λ o. k o >>= f)
(Climb a b k) >>= f = Climb a b (λ o. k o >>= f)
(Names d c k) >>= f = Names d c (λ o. k o >>= f)
(Text n k) >>= f = Text n (λ o. k o >>= f)
(Bytes n a c k) >>= f = Bytes n a c (λ o. k o >>= f)
(Verifier k) >>= f = Verifier (λ o. k o >>= f)
(Want ks p) >>= f = Want ks (p >>= f)

-- the answer to each question
pub record Sight : Type 0 where
  pub look : ℕ → Option Node
  pub see : ℕ → Option Node
  pub find : ℕ → List ℕ → Option Entry
  pub below : ℕ → ℕ → Bool
  pub names : ℕ → ℕ → List Listed
  pub text : ℕ → List ℕ
  pub bytes : ℕ → ℕ → ℕ → List ℕ
  pub verifier : ℕ

-- how a plan ends
unfoldable pub run : {A : Type 0} → Sight → Plan A → Result A Status
run s (Done a) = Ok a
run s (Stop e) = Err e
run s (Look n k) = run s (k (s.look n))
run s (See n k) = run s (k (s.see n))
run s (Find d n k) = run s (k (s.find d n))
run s (Climb a b k) = run s (k (s.below a b))
run s (Names d c k) = run s (k (s.names d c))
run s (Text n k) = run s (k (s.text n))
run s (Bytes n a c k) = run s (k (s.bytes n a c))
run s (Verifier k) = run s (k s.verifier)
run s (Want ks p) = run s p

-- the rest of a plan, after what its first part ended with
abbrev pub and_then : {A B : Type 0} → Result A Status → (A → Result B Status) → Result B Status
and_then (Ok a) f = f a
and_then (Err e) f = Err e
