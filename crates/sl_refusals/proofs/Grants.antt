-- Wired histories and others, by computing: a flush that both servers grant.
use Rattle.std.proofs.Common.{◌≡◌, ℕ, refl, sym, ap, subst, ◌∙◌, [], ◌∷◌, None, inl, inr, Bool, true, false, true≢false, unwrap_or, arith}
use Rattle.std.specs.Ordering.{eq_by_cmp}
use Rattle.std.specs.FinMap.{empty, get, get-empty}
use Rattle.sl_defs.specs.Items.{u32_text, u64_text, u32_at, u64_at, opaque_at, opaque_text}
use Rattle.sl_defs.specs.Rpc.{call_header_at, auth_at, zero_at, refusal_of, accepted_text}
use Rattle.sl_types.specs.Handles.{form_text}
use Rattle.sl_items.specs.Reading.{fh_at, bytes_at, stable_at}
use Rattle.sl_calls.specs.Reading.{args_at, write_at}
use Rattle.sl_calls.specs.Args.{args_text}
use Rattle.sl_defs.specs.declared.event.Event.TheVariants as event
use Rattle.sl_frames.specs.declared.body.Body.TheVariants as body
use Rattle.sl_model.specs.Volume.{place_cmp, flush}
use Rattle.sl_history.specs.Turns.{Sent, Flush, Turn, History, turn_of}
use Rattle.sl_history.specs.Frames.{is_up, frame, in_flight}
use Rattle.sl_history.specs.Arrivals.{datagram, asked}
use Rattle.sl_history.specs.Volumes.{volume_after}
use Rattle.sl_history.specs.Licensed.{request}
use Rattle.sl_history.specs.Placing.{carrier, byte_server}
use Rattle.sl_history.specs.Wired.{Wired, IsGranted, HasGranted, DiffersAt, frames}
use Rattle.sl_examples.specs.Histories.{setup, turn}
use Rattle.sl_refusals.specs.Volumes.{filed}
use Rattle.sl_refusals.specs.Frames.{reports}
use Rattle.sl_refusals.specs.Grants.{locking, granted_by_first, granted_by_both}
use Rattle.sl_refusals.proofs.Lookups.{put_here, put_past, places_total}
use Rattle.sl_refusals.proofs.Commits.{dirty, write_makes}
use Rattle.sl_refusals.proofs.UnstableEffects.{written, done_right}
use Rattle.sl_refusals.proofs.Differences.{exact_places}
use Rattle.sl_refusals.proofs.Sites.{cells_lie, is_equal}

-- ---- the byte that differs

no_byte : (f at : ℕ) → unwrap_or (get dirty.written (f, at)) 0 ≡ 0
no_byte f at = ap (λ o. unwrap_or o 0) (get-empty place_cmp (f, at))

place_is : (f at : ℕ) (same : Bool) → eq_by_cmp place_cmp (f, at) (2, 0) ≡ same → DiffersAt dirty (flush 2 dirty) f at → ◌≡◌ {A = ℕ × ℕ} (f, at) (2, 0)
place_is f at true is differ = exact_places (f, at) (2, 0) (is_equal _ is)
place_is f at false is differ =
    absurd (differ (no_byte f at ∙ sym (ap (λ o. unwrap_or o 0) (put_past places_total empty (2, 0) 120 (f, at) None is (get-empty place_cmp (f, at))))))

pub byte_differs : DiffersAt written (flush 2 written) 2 0
byte_differs same = absurd (omega (arith, byte_is))
  where
    now_120 : unwrap_or (get (flush 2 dirty).written (2, 0)) 0 ≡ 120
    now_120 = ap (λ o. unwrap_or o 0) (put_here places_total empty (2, 0) 120 refl)

    byte_is : ◌≡◌ {A = ℕ} 0 120
    byte_is =
        sym (no_byte 2 0)
        ∙ (ap (λ p. unwrap_or (get p.0.written (2, 0)) 0) (sym write_makes)
        ∙ (same ∙ (ap (λ p. unwrap_or (get (flush 2 p.0).written (2, 0)) 0) write_makes ∙ now_120)))

-- ---- both have granted

locking_is_wired : Wired setup filed (locking [])
unfolding frames frame in_flight is_up request volume_after
locking_is_wired = (
  (
    done_right,
    record { flying = tt; may = (record { number = refl; sender = refl; answer = λ is. absurd (true≢false (sym is)); quiet = refl }, tt); told = (tt, tt) },
  ),
  record {
    flying = refl;
    may = (
      record { number = refl; sender = refl; answer = λ is. absurd (true≢false (sym is)); quiet = refl },
      (record { number = refl; sender = refl; answer = λ is. absurd (true≢false (sym is)); quiet = refl }, tt),
    );
    told = (tt, (tt, tt));
  },
)

first_is_wired : Wired setup filed (granted_by_first [])
unfolding frames frame in_flight is_up request volume_after
first_is_wired = (
  (
    locking_is_wired,
    record {
      flying = refl;
      may = (
        record {
          number = refl;
          sender = refl;
          answer = λ is. record {
            asking = _;
            given = inl (record { gives = refl; up = refl });
            answers = record { kind = refl; sender = refl; receiver = refl; fence = refl; tag = refl; op = refl };
          };
          quiet = refl;
        },
        tt,
      );
      told = (tt, tt);
    },
  ),
  record { flying = refl; may = tt; told = tt },
)

abbrev granted_past : History
granted_past = turn (event.Give 7) (Sent 9 (reports 1 32 body.Grant) ∷ []) ∷ granted_by_first []

abbrev granted_turn : Turn
granted_turn = turn (event.Give 9) (Flush 2 ∷ [])

abbrev full : History
full = granted_by_both (Flush 2 ∷ [])

first_granted : HasGranted full 1 16
unfolding frame is_up
first_granted = record { grant = reports 1 16 body.Grant; given = inr (inr (inl (record { gives = refl; up = refl }))); kind = refl; receiver = refl; sender = refl; operation = refl }

second_granted : HasGranted full 1 32
unfolding frame is_up
second_granted = record { grant = reports 1 32 body.Grant; given = inl (record { gives = refl; up = refl }); kind = refl; receiver = refl; sender = refl; operation = refl }

byte_granted : (f at : ℕ) → DiffersAt dirty (flush 2 dirty) f at → HasGranted full 1 (byte_server setup f at)
unfolding carrier
byte_granted f at differ = subst (λ (p : ℕ × ℕ). HasGranted full 1 (byte_server setup p.0 p.1)) (sym (place_is f at _ refl differ)) second_granted

is_granted : IsGranted setup granted_past granted_turn full written (flush 2 written)
unfolding frame is_up
is_granted = subst (λ p. IsGranted setup granted_past granted_turn full p.0 (flush 2 p.0)) (sym write_makes) (record {
  op = 1;
  now = λ granted is. ap (λ o. unwrap_or o 0) is;
  cells = λ k differ. subst (HasGranted full 1) (sym (cells_lie k)) first_granted;
  bytes = byte_granted;
})

pub by_both : Wired setup filed full
unfolding frames frame in_flight is_up request volume_after asked turn_of datagram call_header_at u32_text u32_at u64_text u64_at opaque_at opaque_text auth_at zero_at refusal_of accepted_text args_at write_at stable_at bytes_at fh_at args_text form_text
by_both = (
  (
    first_is_wired,
    record {
      flying = refl;
      may = (
        record {
          number = refl;
          sender = refl;
          answer = λ is. record {
            asking = _;
            given = inl (record { gives = refl; up = refl });
            answers = record { kind = refl; sender = refl; receiver = refl; fence = refl; tag = refl; op = refl };
          };
          quiet = refl;
        },
        tt,
      );
      told = (tt, tt);
    },
  ),
  record { flying = refl; may = (record { coordinator = refl; granted = is_granted }, tt); told = tt },
)
