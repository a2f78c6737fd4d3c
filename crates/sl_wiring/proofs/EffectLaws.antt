-- Where an effect stands, by the servers of what changes.
use Rattle.std.proofs.Common.{◌≡◌, ℕ, Bool, true, false, List, Option, Some, None, refl, ap, sym, subst, ◌∙◌, inl, inr, ◌⊎◌}
use Rattle.std.specs.Prelude.{if◌then◌else◌}
use Rattle.std.specs.List.{All, Contains}
use Rattle.std.proofs.lemmas.Bool.{eq-eqb, eqb-true}
use Rattle.std.proofs.lemmas.List.Elements.{All-contains}
use Rattle.sl_defs.specs.declared.setup.Setup.{Setup}
use Rattle.sl_frames.specs.Actors.{is_coordinator, is_directory}
use Rattle.sl_frames.specs.declared.frame.Frame.{Frame}
use Rattle.sl_frames.specs.declared.body.Body.{Body}
use Rattle.sl_frames.specs.declared.body.Body.TheVariants as body
use Rattle.sl_model.specs.Volume.{Volume}
use Rattle.sl_history.specs.Turns.{Turn, History}
use Rattle.sl_history.specs.Licensed.{reaches}
use Rattle.sl_history.specs.Placing.{byte_server, key_server}
use Rattle.sl_history.specs.Wired.{HasGranted, IsGranted, LiesWith, StandsRightly, acts, granted_by}
use Rattle.sl_wiring.specs.declared.grants.Grant.{Grant}
use Rattle.sl_wiring.specs.declared.grants.Grants.{Grants}
use Rattle.sl_wiring.specs.Dockets.{IsActorOf, is_this}
use Rattle.sl_wiring.specs.Given.{AreGrantsIn, GrantOne, WasGranted, granted_in}
use Rattle.sl_wiring.specs.Standing.{AreServersOf, directory_in}
use Rattle.sl_wiring.proofs.Serving.{some_is}
use Rattle.sl_wiring.proofs.Standings.{all_of}

-- ---- grants

-- what a frame grants
record IsGrantOf (f : Frame) (g : Grant) : Type 0 where
  kind : f.body ≡ body.Grant
  receiver : is_coordinator f.to ≡ true
  sender : f.from ≡ g.server
  operation : f.op ≡ g.op

granted_kind : (f : Frame) (b : Body) (g : Grant) → f.body ≡ b → granted_in f b ≡ Some g → (f.body ≡ body.Grant) × ((f.from ≡ g.server) × (f.op ≡ g.op))
granted_kind f body.Grant g is e =
    let same = some_is (record { op = f.op; server = f.from }) g e in
    (is, (ap (λ (x : Grant). x.server) same, ap (λ (x : Grant). x.op) same))
granted_kind f body.Hello g is e = cc
granted_kind f body.Welcome g is e = cc
granted_kind f (body.Forward c p) g is e = cc
granted_kind f (body.Packet p) g is e = cc
granted_kind f (body.Ask k) g is e = cc
granted_kind f (body.Found cs) g is e = cc
granted_kind f (body.List d k l) g is e = cc
granted_kind f (body.Listed cs m) g is e = cc
granted_kind f (body.Mint s) g is e = cc
granted_kind f (body.Minted n) g is e = cc
granted_kind f (body.Intent i) g is e = cc
granted_kind f (body.Decided d) g is e = cc
granted_kind f (body.Lock w) g is e = cc
granted_kind f body.Refuse g is e = cc
granted_kind f body.Apply g is e = cc
granted_kind f body.Release g is e = cc
granted_kind f body.Ack g is e = cc

grant_of_by : (f : Frame) (g : Grant) (b : Bool) → is_coordinator f.to ≡ b → (if b then granted_in f f.body else None) ≡ Some g → IsGrantOf f g
grant_of_by f g true to e = let parts = granted_kind f f.body g refl e in record { kind = parts.0; receiver = to; sender = parts.1.0; operation = parts.1.1 }
grant_of_by f g false to e = cc

has_granted : (h : History) (op server : ℕ) → WasGranted h (record { op = op; server = server }) → HasGranted h op server
has_granted h op server was =
    let of = grant_of_by was.grant (record { op = op; server = server }) (is_coordinator was.grant.to) refl was.is in
    record { grant = was.grant; given = was.given; kind = of.kind; receiver = of.receiver; sender = of.sender; operation = of.operation }

was_granted : (h : History) (op server : ℕ) → HasGranted h op server → WasGranted h (record { op = op; server = server })
was_granted h op server has = record {
  grant = has.grant;
  given = has.given;
  is = ap (λ (b : Bool). if b then granted_in has.grant has.grant.body else None) has.receiver ∙ ap (granted_in has.grant) has.kind
      ∙ ap (λ n. Some (record { op = n; server = has.grant.from })) has.operation ∙ ap (λ n. Some (record { op = op; server = n })) has.sender;
}

pub all_granted : (setup : Setup) (past : History) (t : Turn) (h : History) (v w : Volume) (servers : List ℕ) (grants : Grants) (given : Option ℕ) → AreServersOf setup v w servers → AreGrantsIn h grants
    → given ≡ granted_by (reaches past t) → GrantOne grants given servers → IsGranted setup past t h v w
all_granted setup past t h v w servers grants given are in_h is one = record {
  op = one.op;
  now = λ granted reach. one.now granted (is ∙ reach);
  cells = λ k differs. granted (key_server setup k) ((are (key_server setup k)).1 (inl (record { key = k; differs = differs; lies = refl })));
  bytes = λ f at differs. granted (byte_server setup f at) ((are (byte_server setup f at)).1 (inr (record { file = f; offset = at; differs = differs; lies = refl })));
}
  where
    granted : (s : ℕ) → Contains servers s → HasGranted h one.op s
    granted s has = has_granted h one.op s ((in_h (record { op = one.op; server = s })).0 (All-contains (λ server. Contains grants.items.keys (record { op = one.op; server = server })) servers s one.each has))

pub one_granted : (setup : Setup) (past : History) (t : Turn) (h : History) (v w : Volume) (servers : List ℕ) (grants : Grants) (given : Option ℕ) → AreServersOf setup v w servers → AreGrantsIn h grants
    → given ≡ granted_by (reaches past t) → IsGranted setup past t h v w → GrantOne grants given servers
one_granted setup past t h v w servers grants given are in_h same is = record { op = is.op; now = λ granted e. is.now granted (sym same ∙ e); each = all_of (λ server. Contains grants.items.keys (record { op = is.op; server = server })) servers each }
  where
    has : (s : ℕ) → HasGranted h is.op s → Contains grants.items.keys (record { op = is.op; server = s })
    has s granted = (in_h (record { op = is.op; server = s })).1 (was_granted h is.op s granted)

    each : (s : ℕ) → Contains servers s → Contains grants.items.keys (record { op = is.op; server = s })
    each s there = elim ((are s).0 there) [
      | inl cell ↦ subst (λ (z : ℕ). Contains grants.items.keys (record { op = is.op; server = z })) cell.lies (has (key_server setup cell.key) (is.cells cell.key cell.differs))
      | inr byte ↦ subst (λ (z : ℕ). Contains grants.items.keys (record { op = is.op; server = z })) byte.lies (has (byte_server setup byte.file byte.offset) (is.bytes byte.file byte.offset byte.differs))
    ]

-- ---- one server

pub lies_all : (setup : Setup) (v w : Volume) (servers : List ℕ) (server : ℕ) → AreServersOf setup v w servers → All (λ other. other ≡ server) servers → LiesWith setup v w server
lies_all setup v w servers server are all = record {
  cells = λ k differs. All-contains (λ other. other ≡ server) servers (key_server setup k) all ((are (key_server setup k)).1 (inl (record { key = k; differs = differs; lies = refl })));
  bytes = λ f at differs. All-contains (λ other. other ≡ server) servers (byte_server setup f at) all ((are (byte_server setup f at)).1 (inr (record { file = f; offset = at; differs = differs; lies = refl })));
}

pub all_lie : (setup : Setup) (v w : Volume) (servers : List ℕ) (server : ℕ) → AreServersOf setup v w servers → LiesWith setup v w server → All (λ other. other ≡ server) servers
all_lie setup v w servers server are lies = all_of (λ other. other ≡ server) servers each
  where
    each : (s : ℕ) → Contains servers s → s ≡ server
    each s there = elim ((are s).0 there) [
      | inl cell ↦ sym cell.lies ∙ lies.cells cell.key cell.differs
      | inr byte ↦ sym byte.lies ∙ lies.bytes byte.file byte.offset byte.differs
    ]

-- ---- who acts

pub this_one : (a : ℕ) (o : Option ℕ) → is_this a o ≡ true → o ≡ Some a
this_one a None e = cc
this_one a (Some b) e = ap (λ (n : ℕ). Some n) (eqb-true b a e)

pub acting_is : (past : History) (t : Turn) (actor : Option ℕ) (a : ℕ) → IsActorOf past t actor → acts past t.happening a ≡ true → actor ≡ Some a
acting_is past t actor a is acting = this_one a actor (sym (is a) ∙ acting)

pub is_acting : (past : History) (t : Turn) (actor : Option ℕ) (a : ℕ) → IsActorOf past t actor → actor ≡ Some a → acts past t.happening a ≡ true
is_acting past t actor a is same = is a ∙ ap (is_this a) same ∙ eq-eqb a a refl

directory_by : (a server : ℕ) (b : Bool) → is_directory a ≡ b → (if b then Some a else None) ≡ Some server → (is_directory server ≡ true) × (a ≡ server)
directory_by a server true is e = let same = some_is a server e in (ap is_directory (sym same) ∙ is, same)
directory_by a server false is e = cc

directory_is : (actor : Option ℕ) (server : ℕ) → directory_in actor ≡ Some server → (is_directory server ≡ true) × (actor ≡ Some server)
directory_is None server e = cc
directory_is (Some a) server e = let both = directory_by a server (is_directory a) refl e in (both.0, ap (λ (n : ℕ). Some n) both.1)

is_directory_in : (actor : Option ℕ) (server : ℕ) → is_directory server ≡ true → actor ≡ Some server → directory_in actor ≡ Some server
is_directory_in actor server is same = ap directory_in same ∙ ap (λ b. if b then Some server else None) is

-- ---- where it stands

pub stands_granted : (setup : Setup) (past : History) (t : Turn) (h : History) (v w : Volume) (servers : List ℕ) (grants : Grants) (actor given : Option ℕ) → IsActorOf past t actor
    → given ≡ granted_by (reaches past t) → AreServersOf setup v w servers → AreGrantsIn h grants → (actor ≡ Some 1) × GrantOne grants given servers → StandsRightly setup past t h v w
stands_granted setup past t h v w servers grants actor given is same are in_h both =
    inl (is_acting past t actor 1 is both.0, all_granted setup past t h v w servers grants given are in_h same both.1)

pub stands_alone : (setup : Setup) (past : History) (t : Turn) (h : History) (v w : Volume) (servers : List ℕ) (actor : Option ℕ) (server : ℕ) → IsActorOf past t actor → AreServersOf setup v w servers
    → directory_in actor ≡ Some server → All (λ other. other ≡ server) servers → StandsRightly setup past t h v w
stands_alone setup past t h v w servers actor server is are directory all =
    let acting = directory_is actor server directory in
    inr (server, acting.0, is_acting past t actor server is acting.1, lies_all setup v w servers server are all)

pub stood : (setup : Setup) (past : History) (t : Turn) (h : History) (v w : Volume) (servers : List ℕ) (grants : Grants) (actor given : Option ℕ) → IsActorOf past t actor
    → given ≡ granted_by (reaches past t) → AreServersOf setup v w servers → AreGrantsIn h grants → StandsRightly setup past t h v w
    → ((actor ≡ Some 1) × GrantOne grants given servers) ⊎ ((server : ℕ) × ((directory_in actor ≡ Some server) × All (λ other. other ≡ server) servers))
stood setup past t h v w servers grants actor given is same are in_h (inl granted) =
    inl (acting_is past t actor 1 is granted.0, one_granted setup past t h v w servers grants given are in_h same granted.1)
stood setup past t h v w servers grants actor given is same are in_h (inr (server, directory, acting, lies)) =
    inr (server, (is_directory_in actor server directory (acting_is past t actor server is acting), all_lie setup v w servers server are lies))
