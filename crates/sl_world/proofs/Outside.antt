-- Handles among the servers, as clients have them.
use Rattle.std.proofs.Common.{◌≡◌, ℕ, ◌/◌, ◌%◌, ◌^◌, ◌==◌, List, Option, Some, None, refl, ap, ◌∙◌, if◌then◌else◌}
use Rattle.sl_defs.specs.Items.{◌>>=◌}
use Rattle.sl_types.specs.declared.handle.Handle.{Handle}
use Rattle.sl_types.specs.declared.handle.InternalHandle.{InternalHandle}
use Rattle.sl_types.specs.Handles.{FitsHandle, form_at, handle_of, internal_of}
use Rattle.sl_types.proofs.HandleLaws.{handle_found}
use Rattle.sl_machine.specs.Packets.{outer, outer_text}

-- what a form tells among the servers
abbrev told : Handle × ℕ → InternalHandle
told form = record { handle = form.0; site = form.1 / 2 ^ 16; actor = form.1 % 2 ^ 16 }

no_form : (o : Option (Handle × ℕ)) → (o >>= (λ form. Some (told form))) ≡ None → (o >>= (λ form. if form.1 == 0 then Some form.0 else None)) ≡ None
no_form None none = refl
no_form (Some form) none = absurd cc

-- bytes that are no handle among the servers are none of a client's either
pub none_outside : (bytes : List ℕ) → internal_of bytes ≡ None → handle_of (outer bytes) ≡ None
unfolding handle_of internal_of
none_outside bytes none = ap (λ o. handle_of (outer_text bytes o)) none ∙ no_form (form_at bytes) none

pub one_outside : (bytes : List ℕ) (i : InternalHandle) → FitsHandle i.handle → internal_of bytes ≡ Some i → handle_of (outer bytes) ≡ Some i.handle
one_outside bytes i fits one = ap (λ o. handle_of (outer_text bytes o)) one ∙ handle_found i.handle fits
