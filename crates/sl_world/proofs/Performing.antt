-- What an event gives, from what each part of it does.
use Rattle.std.proofs.Common.{◌≡◌, ℕ, ◌≤◌, true, T, List, ◌∷◌, ◌++◌, Option, Some, None, Result, Ok, Err, IfOk, not, is_some, is_ok, unwrap_or, ◌⊎◌, inl, inr, refl, sym, ap, subst, ◌∙◌, arith}
use Rattle.std.specs.FinMap as map
use Rattle.std.specs.Ordering.{nat_cmp}
use Rattle.std.specs.FinMap.{FinMap}
use Rattle.sl_defs.specs.declared.event.Event.{Event}
use Rattle.sl_defs.specs.declared.event.Event.TheVariants as event
use Rattle.sl_history.specs.Turns.{Remark, History}
use Rattle.sl_machine.specs.World.{numbered}
use Rattle.sl_world.specs.declared.flight.Flying.{Flying}
use Rattle.sl_world.specs.declared.proxy.Proxy.{Proxy}
use Rattle.sl_world.specs.declared.step.Step.{Step}
use Rattle.sl_world.specs.declared.step.StepFault.{StepFault}
use Rattle.sl_world.specs.declared.step.StepFault.TheVariants as step
use Rattle.sl_world.specs.declared.world.World.{World}
use Rattle.sl_world.specs.declared.world.WorldFault.{WorldFault}
use Rattle.sl_world.specs.declared.world.WorldFault.TheVariants.{UnknownFrame}
use Rattle.sl_world.specs.Proxying.{GivesArrival}
use Rattle.sl_world.specs.Worlds.{Follows, GivesEvent, GoesOn, HasLastTag, IsBuiltFrame, ForProxy, ForCoordinator, ForDirectory, KnowsFrame, begun, landed, remarks, sending, turn}
use Rattle.sl_world.specs.Handling.{IsHanded, ToProxy, ToCoordinator, ToDirectory, ToNobody, fault_of}
use Rattle.sl_world.proofs.Mapping.{take_none}
use Rattle.sl_world.proofs.Events.{call_goes_on, goes_on}
use Rattle.sl_world.proofs.Handing.{proxies_go_on, coordinators_go_on, directories_go_on}

-- ---- options and results

none≢some : {A B : Type 0} {x : A} → ◌≡◌ {A = Option A} None (Some x) → B
none≢some e = absurd (subst (λ o. T (not (is_some o))) e tt)

ok≢err : {A E B : Type 0} {x : A} {e : E} → ◌≡◌ {A = Result A E} (Ok x) (Err e) → B
ok≢err e = absurd (subst (λ r. T (is_ok r)) e tt)

same_some : {A : Type 0} (x y : A) → Some x ≡ Some y → x ≡ y
same_some x y e = ap (λ o. unwrap_or o x) e

-- ---- what an event that goes on gives

pub follows_event : (v v' : World) (e : Event) (r : Result (List Remark) WorldFault) → GivesEvent v v' e r
    → IfOk r (λ notes. (h : History) → Follows v h → Follows v' (turn v e notes ∷ h))
follows_event v v' e (Ok notes) gives = λ h follows. goes_on v v' e notes gives.0 h follows
follows_event v v' e (Err fault) gives = tt

-- ---- a datagram arrives

names_none : (v : World) (client : ℕ) (bytes : List ℕ) → KnowsFrame v (event.Call client bytes)
names_none v client bytes = λ k e. none≢some e

pub call_gives : (v v' b m : World) (client : ℕ) (bytes : List ℕ) (s : Step) (notes : List Remark) → b ≡ begun v → GivesArrival b.proxy m.proxy b.event client bytes (Ok s)
    → m ≡ record b { proxy = m.proxy } → v' ≡ sending s.frames m → notes ≡ remarks m s.frames s.notes → GivesEvent v v' (event.Call client bytes) (Ok notes)
call_gives v v' b m client bytes s notes begins arrives is_now sends tells = (
  subst (λ rs. GoesOn v v' (event.Call client bytes) rs) (sym (tells ∙ ap (λ w. remarks w s.frames s.notes) so))
      (call_goes_on v v' m.proxy client bytes s (subst (λ w. GivesArrival w.proxy m.proxy w.event client bytes (Ok s)) begins arrives) (sends ∙ ap (sending s.frames) so)),
  names_none v client bytes,
)
  where
    so : m ≡ record (begun v) { proxy = m.proxy }
    so = is_now ∙ ap (λ (w : World). record w { proxy = m.proxy }) begins

one_server : (n : ℕ) → n ≡ 1 → (1 ≤ n) × (n ≤ 8)
one_server n one = (omega arith, omega arith)

pub call_fails : (v v' b : World) (p : Proxy) (client : ℕ) (bytes : List ℕ) (f : StepFault) → b ≡ begun v → GivesArrival b.proxy p b.event client bytes (Err f)
    → GivesEvent v v' (event.Call client bytes) (Err (fault_of f))
call_fails v v' b p client bytes step.NotBuilt begins fails = (
  names_none v client bytes,
  λ built. subst (λ w. GivesArrival w.proxy p w.event client bytes (Err step.NotBuilt)) begins fails
      (record { some = (one_server v.proxy.setup.dirs built.0).0; few = (one_server v.proxy.setup.dirs built.0).1 }) built.1,
)
call_fails v v' b p client bytes step.Spent begins fails = (names_none v client bytes, HasLastTag (sym (ap (λ w. w.proxy.next_tag) begins) ∙ fails))
call_fails v v' b p client bytes step.NoMemory begins fails = tt

-- ---- a frame is given

has : (flight : FinMap nat_cmp Flying) (k n : ℕ) (f : Flying) → map.get flight k ≡ Some f → k ≡ n → map.contains_key flight n ≡ true
has flight k n f is same = sym (ap (map.contains_key flight) same) ∙ ap is_some is

pub knows : (v : World) (k : ℕ) (f : Flying) → map.get v.flight k ≡ Some f → KnowsFrame v (event.Give k)
knows v k f is = λ n e. has v.flight k n f is (same_some k n e)

handed_on : (v v' m : World) (k : ℕ) (f : Flying) (s : Step) → map.get v.flight k ≡ Some f → IsHanded (landed (begun v) k) m f (Ok s) → v' ≡ sending s.frames m
    → GoesOn v v' (event.Give k) (remarks v s.frames s.notes)
handed_on v v' m k f s is (ToProxy to is_now gives) sends = proxies_go_on v v' m.proxy k f s is to gives (sends ∙ ap (sending s.frames) is_now)
handed_on v v' m k f s is (ToCoordinator to is_now gives) sends = coordinators_go_on v v' m.coordinator k f s is to gives (sends ∙ ap (sending s.frames) is_now)
handed_on v v' m k f s is (ToDirectory above to is_now gives) sends = directories_go_on v v' m.directory k f s is to gives (sends ∙ ap (sending s.frames) is_now)
handed_on v v' m k f s is (ToNobody above other none) sends = ok≢err none

-- the numbers are those from before
same_number : (v m : World) (k : ℕ) (f : Flying) (r : Result Step StepFault) → IsHanded (landed (begun v) k) m f r → (m.next_frame ≡ v.next_frame) ⊎ (r ≡ Err step.NotBuilt)
same_number v m k f r (ToProxy to is_now gives) = inl (ap (λ w. w.next_frame) is_now)
same_number v m k f r (ToCoordinator to is_now gives) = inl (ap (λ w. w.next_frame) is_now)
same_number v m k f r (ToDirectory above to is_now gives) = inl (ap (λ w. w.next_frame) is_now)
same_number v m k f r (ToNobody above other none) = inr none

pub give_gives : (v v' b m : World) (k : ℕ) (f : Flying) (s : Step) (notes : List Remark) → map.get v.flight k ≡ Some f → b ≡ landed (begun v) k → IsHanded b m f (Ok s)
    → v' ≡ sending s.frames m → notes ≡ remarks m s.frames s.notes → GivesEvent v v' (event.Give k) (Ok notes)
give_gives v v' b m k f s notes is begins handed sends tells =
    (subst (λ rs. GoesOn v v' (event.Give k) rs) (sym (tells ∙ numbers (same_number v m k f (Ok s) to))) (handed_on v v' m k f s is to sends), knows v k f is)
  where
    to : IsHanded (landed (begun v) k) m f (Ok s)
    to = subst (λ w. IsHanded w m f (Ok s)) begins handed

    numbers : (m.next_frame ≡ v.next_frame) ⊎ (Ok s ≡ Err step.NotBuilt) → remarks m s.frames s.notes ≡ remarks v s.frames s.notes
    numbers (inl same) = ap (λ n. numbered n s.frames ++ s.notes) same
    numbers (inr none) = ok≢err none

-- ---- a frame that isn't used

not_both : {B : Type 0} (n i j : ℕ) → n ≡ i → n ≡ j → 2 ≤ j → i ≤ 1 → B
not_both n i j a b high low = absurd (omega (arith, a, b, high, low))

zero_one : {B : Type 0} (n : ℕ) → n ≡ 0 → n ≡ 1 → B
zero_one n a b = absurd (omega (arith, a, b))

high_low : {B : Type 0} (n i : ℕ) → 2 ≤ n → n ≡ i → i ≤ 1 → B
high_low n i high same low = absurd (omega (arith, high, same, low))

unused : (v m : World) (k : ℕ) (f : Flying) → IsHanded (landed (begun v) k) m f (Err step.NotBuilt) → IsBuiltFrame v f.frame → ⊥
unused v m k f (ToProxy to is_now gives) (ForProxy to' usable) = gives usable
unused v m k f (ToProxy to is_now gives) (ForCoordinator to' hello) = zero_one f.frame.to to to'
unused v m k f (ToProxy to is_now gives) (ForDirectory to' above built) = not_both f.frame.to 0 v.directory.actor to to' above (omega arith)
unused v m k f (ToCoordinator to is_now gives) (ForProxy to' usable) = zero_one f.frame.to to' to
unused v m k f (ToCoordinator to is_now gives) (ForCoordinator to' hello) = gives hello
unused v m k f (ToCoordinator to is_now gives) (ForDirectory to' above built) = not_both f.frame.to 1 v.directory.actor to to' above (omega arith)
unused v m k f (ToDirectory high to is_now gives) (ForProxy to' usable) = high_low f.frame.to 0 high to' (omega arith)
unused v m k f (ToDirectory high to is_now gives) (ForCoordinator to' hello) = high_low f.frame.to 1 high to' (omega arith)
unused v m k f (ToDirectory high to is_now gives) (ForDirectory to' above built) = gives built
unused v m k f (ToNobody high other none) (ForProxy to' usable) = high_low f.frame.to 0 high to' (omega arith)
unused v m k f (ToNobody high other none) (ForCoordinator to' hello) = high_low f.frame.to 1 high to' (omega arith)
unused v m k f (ToNobody high other none) (ForDirectory to' above built) = other to'

never_spent : {B : Type 0} (v m : World) (f : Flying) → IsHanded v m f (Err step.Spent) → B
never_spent v m f (ToProxy to is_now gives) = absurd gives
never_spent v m f (ToCoordinator to is_now gives) = absurd gives
never_spent v m f (ToDirectory high to is_now gives) = absurd gives
never_spent v m f (ToNobody high other none) = absurd (subst is_spent none tt)
  where
    is_spent : Result Step StepFault → Type 0
    is_spent (Err step.Spent) = Unit {0}
    is_spent other = ⊥

pub give_fails : (v v' b m : World) (k : ℕ) (f : Flying) (fault : StepFault) → map.get v.flight k ≡ Some f → b ≡ landed (begun v) k → IsHanded b m f (Err fault)
    → GivesEvent v v' (event.Give k) (Err (fault_of fault))
give_fails v v' b m k f step.NotBuilt is begins handed = (
  knows v k f is,
  λ built. unused v m k f (subst (λ w. IsHanded w m f (Err step.NotBuilt)) begins handed)
      (subst (λ (g : Flying). IsBuiltFrame v g.frame) (same_some built.0 f (sym built.1 ∙ is)) built.2),
)
give_fails v v' b m k f step.Spent is begins handed = never_spent b m f handed
give_fails v v' b m k f step.NoMemory is begins handed = tt

-- what is returned for the fault of a step
pub give_failed : (v v' b m : World) (k : ℕ) (f : Flying) (r : Result Step StepFault) (fault : StepFault) (told : Result (List Remark) WorldFault) (y : WorldFault) → map.get v.flight k ≡ Some f
    → b ≡ landed (begun v) k → IsHanded b m f r → r ≡ Err fault → told ≡ Err y → y ≡ fault_of fault → GivesEvent v v' (event.Give k) told
give_failed v v' b m k f r fault told y is begins handed fails returned from =
    subst (λ x. GivesEvent v v' (event.Give k) x) (sym (returned ∙ ap (λ z. Err z) from)) (give_fails v v' b m k f fault is begins (subst (IsHanded b m f) fails handed))

pub begins_landed : (v b : World) (k : ℕ) (flight : FinMap nat_cmp Flying) → flight ≡ map.remove v.flight k → b ≡ begun (record v { flight = flight }) → b ≡ landed (begun v) k
begins_landed v b k flight taken begins = begins ∙ ap (λ (m : FinMap nat_cmp Flying). begun (record v { flight = m })) taken

-- ---- a frame that isn't in flight

nothing_there : (r : Option Flying) → ((f : Flying) → r ≡ Some f → ⊥) → r ≡ None
nothing_there None none = refl
nothing_there (Some f) none = absurd (none f refl)

-- where the frame isn't in flight, nothing was taken
pub unknown : (v : World) (k : ℕ) (flight : FinMap nat_cmp Flying) (r : Option Flying) → flight ≡ map.remove v.flight k → r ≡ map.get v.flight k → ((f : Flying) → r ≡ Some f → ⊥)
    → GivesEvent v (record v { flight = flight }) (event.Give k) (Err (UnknownFrame k))
unknown v k flight r taken value none = (refl, absent, ap (λ (m : FinMap nat_cmp Flying). record v { flight = m }) (taken ∙ take_none v.flight k absent))
  where
    absent : map.get v.flight k ≡ None
    absent = sym value ∙ nothing_there r none
