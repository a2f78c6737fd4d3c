-- Wired histories and others, by computing: an effect that is noted by another.
use Rattle.std.proofs.Common.{◌≡◌, ◌≢◌, ◌==◌, ◌&&◌, ℕ, refl, sym, ap, subst, ◌∙◌, [], ◌∷◌, Option, Some, None, inl, inr, Bool, true, false, true≢false, arith}
use Rattle.std.specs.FinMap.{get}
use Rattle.sl_defs.specs.Items.{u32_text, u64_text, u32_at, u64_at, opaque_at, opaque_text}
use Rattle.sl_defs.specs.Parts.{optional_at, part_at, optional_text}
use Rattle.sl_defs.specs.Rpc.{call_header_at, auth_at, zero_at, refusal_of, accepted_text}
use Rattle.sl_defs.specs.declared.event.Event.TheVariants as event
use Rattle.sl_types.specs.Handles.{form_text}
use Rattle.sl_items.specs.Reading.{fh_at, sattr_at, set_time_at, given_time_at, time_at}
use Rattle.sl_items.specs.Spelling.{sattr_text, set_time_text}
use Rattle.sl_calls.specs.Reading.{args_at, setattr_at}
use Rattle.sl_calls.specs.Args.{args_text}
use Rattle.sl_frames.specs.declared.frame.Frame.{Frame}
use Rattle.sl_model.specs.declared.node.Node.{Node}
use Rattle.sl_model.specs.Plan.{NodeKey}
use Rattle.sl_frames.specs.Actors.{is_directory}
use Rattle.sl_history.specs.Bodies.{is_grant}
use Rattle.sl_history.specs.Turns.{Turn, History, turn_of}
use Rattle.sl_history.specs.Frames.{is_up, frame}
use Rattle.sl_history.specs.Arrivals.{datagram, asked}
use Rattle.sl_history.specs.Volumes.{volume_after}
use Rattle.sl_history.specs.Placing.{carrier}
use Rattle.sl_history.specs.Wired.{Wired, LiesWith, HasGranted, StandsRightly, acts}
use Rattle.sl_examples.specs.Histories.{start, turn}
use Rattle.sl_refusals.specs.Places.{wide, asked_of, noted, changed_by, changed_down, forwarded, intended, PlacesAreToldApart}
use Rattle.sl_refusals.proofs.Given.{some_given, not_given}
use Rattle.sl_refusals.proofs.Effects.{root_is_there}
use Rattle.sl_refusals.proofs.Looks.{before, change_makes, root_is_changed}
use Rattle.sl_refusals.proofs.Places.{changed_now, by_first}

-- ---- by another

modes_differ : (f : ℕ) → f ≡ 1 → get before.nodes f ≢ get changed_now.nodes f
modes_differ f is same = absurd (omega (arith, mode_is))
  where
    mode_of : Option Node → ℕ
    mode_of None = 0
    mode_of (Some n) = n.mode

    same_root : get before.nodes 1 ≡ get changed_now.nodes 1
    same_root = subst (λ f. get before.nodes f ≡ get changed_now.nodes f) is same

    mode_is : ◌≡◌ {A = ℕ} 493 448
    mode_is = ap mode_of (sym root_is_there ∙ (same_root ∙ (ap (λ p. get p.0.nodes 1) change_makes ∙ root_is_changed)))

it_differs : before ≢ changed_now
it_differs same = modes_differ 1 refl (ap (λ v. get v.nodes 1) same)

first_has_root : (server : ℕ) → LiesWith wide before changed_now server → 16 ≡ server
unfolding carrier
first_has_root server lies = lies.cells (NodeKey 1) (inl (modes_differ 1 refl))

first_true : (a b : Bool) → (a && b) ≡ true → a ≡ true
first_true true b is = refl
first_true false b is = absurd (true≢false (sym is))

-- the turn is of this actor, which is no directory server with all of it
elsewhere : (past : History) (t : Turn) (to : ℕ) → ((b : ℕ) → acts past t.happening b ≡ ((to == b) && is_up past b)) → (to == 16) ≡ false
    → (server : ℕ) × (is_directory server ≡ true) × (acts past t.happening server ≡ true) × LiesWith wide before changed_now server → ⊥
elsewhere past t to is other x =
    true≢false (sym (ap (λ server. to == server) (first_has_root x.0 x.3) ∙ first_true (to == x.0) (is_up past x.0) (sym (is x.0) ∙ x.2)) ∙ other)

not_here : (past : History) (t : Turn) (h : History) (to : ℕ) → ((b : ℕ) → acts past t.happening b ≡ ((to == b) && is_up past b)) → (to == 1) ≡ false → (to == 16) ≡ false
    → StandsRightly wide past t h before changed_now → ⊥
not_here past t h to is no_coordinator other (inl x) = true≢false (sym (first_true (to == 1) (is_up past 1) (sym (is 1) ∙ x.0)) ∙ no_coordinator)
not_here past t h to is no_coordinator other (inr x) = elsewhere past t to is other x

by_second : Wired wide start (changed_by 17 forwarded) → ⊥
unfolding frame volume_after asked turn_of datagram call_header_at u32_text u32_at u64_text u64_at opaque_at opaque_text auth_at zero_at refusal_of accepted_text args_at setattr_at fh_at sattr_at optional_at part_at time_at set_time_at given_time_at args_text sattr_text set_time_text optional_text form_text
by_second wired = not_here (asked_of 17 forwarded) noted _ 17 (λ b. refl) refl refl (wired.1.may.0.stands it_differs)

by_data_server : Wired wide start (changed_by 32 forwarded) → ⊥
unfolding frame volume_after asked turn_of datagram call_header_at u32_text u32_at u64_text u64_at opaque_at opaque_text auth_at zero_at refusal_of accepted_text args_at setattr_at fh_at sattr_at optional_at part_at time_at set_time_at given_time_at args_text sattr_text set_time_text optional_text form_text
by_data_server wired = not_here (asked_of 32 forwarded) noted _ 32 (λ b. refl) refl refl (wired.1.may.0.stands it_differs)

-- ---- by the coordinator

abbrev pub grants : Frame → Bool
grants f = is_grant f.body

pub not_granted : (h : History) (op server : ℕ) → some_given grants h ≡ false → HasGranted h op server → ⊥
not_granted h op server none x = not_given grants h x.grant none (ap is_grant x.kind) x.given

ungranted : (past : History) (t : Turn) (h : History) → ((b : ℕ) → acts past t.happening b ≡ ((1 == b) && is_up past b)) → some_given grants h ≡ false
    → StandsRightly wide past t h before changed_now → ⊥
ungranted past t h is none (inl x) = not_granted h x.1.op _ none (x.1.cells (NodeKey 1) (inl (modes_differ 1 refl)))
ungranted past t h is none (inr x) = elsewhere past t 1 is refl x

by_coordinator : Wired wide start (changed_by 1 intended) → ⊥
unfolding frame volume_after asked turn_of datagram call_header_at u32_text u32_at u64_text u64_at opaque_at opaque_text auth_at zero_at refusal_of accepted_text args_at setattr_at fh_at sattr_at optional_at part_at time_at set_time_at given_time_at args_text sattr_text set_time_text optional_text form_text
by_coordinator wired = ungranted (asked_of 1 intended) noted _ (λ b. refl) refl (wired.1.may.0.stands it_differs)

-- ---- by the server while it is down

while_down : (past : History) (t : Turn) (h : History) → acts past t.happening 1 ≡ false → acts past t.happening 16 ≡ false → StandsRightly wide past t h before changed_now → ⊥
while_down past t h no_coordinator no_server (inl x) = true≢false (sym x.0 ∙ no_coordinator)
while_down past t h no_coordinator no_server (inr x) =
    true≢false (sym x.2 ∙ (ap (λ server. acts past t.happening server) (sym (first_has_root x.0 x.3)) ∙ no_server))

by_one_down : Wired wide start (changed_down forwarded) → ⊥
unfolding is_up frame volume_after asked turn_of datagram call_header_at u32_text u32_at u64_text u64_at opaque_at opaque_text auth_at zero_at refusal_of accepted_text args_at setattr_at fh_at sattr_at optional_at part_at time_at set_time_at given_time_at args_text sattr_text set_time_text optional_text form_text
by_one_down wired = while_down (turn (event.Stop 16 0) [] ∷ asked_of 16 forwarded) noted _ refl refl (wired.1.may.0.stands it_differs)

pub places_are_told_apart : PlacesAreToldApart
places_are_told_apart = (by_first, by_second, by_data_server, by_coordinator, by_one_down)
