-- What the parts of notes spell.
use Rattle.std.proofs.Common.{◌≡◌, ℕ, ◌^◌, ◌<◌, Bool, true, false, eqb, List, Result, Ok, Err, refl, ap, subst, ◌∙◌, arith}
use Rattle.std.specs.Prelude.{if◌then◌else◌, MatchResult}
use Rattle.hex.specs.Hex.{decode_sized}
use Rattle.hex.specs.declared.error.FromHexError.{FromHexError}
use Rattle.hex.proofs.HexLemmas.{decode_sized-encode_lower}
use Rattle.std.specs.Int.{w64, from_be_bytes}
use Rattle.sl_defs.specs.Items.{u64_text}
use Rattle.sl_defs.proofs.ItemLaws.{AreBytes-u64_text, u64_again, length-u64_text}
use Rattle.sl_defs.specs.Transcripts.{verifier_text}

abbrev pub number_of_kept : Bool → ℕ
number_of_kept kept = if kept then 1 else 0

pub kept_fits : (kept : Bool) → number_of_kept kept < 2 ^ 64
kept_fits true = omega arith
kept_fits false = omega arith

pub kept_again : (kept : Bool) → eqb (number_of_kept kept) 1 ≡ kept
kept_again true = refl
kept_again false = refl

-- sixteen digits are the eight bytes of the verifier
pub verifier_decoded : (text : List ℕ) (v : ℕ) → text ≡ verifier_text v → decode_sized text 8 ≡ Ok (u64_text v)
unfolding verifier_text
verifier_decoded text v e = ap (λ (t : List ℕ). decode_sized t 8) e ∙ decode_sized-encode_lower (u64_text v) 8 (length-u64_text v) (AreBytes-u64_text v)

abbrev pub Decodes : Result (List ℕ) FromHexError → Result (Unit {0}) FromHexError → List ℕ → Type 0
Decodes decoded result out = MatchResult decoded (λ bytes. (result ≡ Ok tt) × (out ≡ bytes)) (λ e. result ≡ Err e)

pub verifier_read : (text : List ℕ) (v : ℕ) (result : Result (Unit {0}) FromHexError) (out : List ℕ) → text ≡ verifier_text v
    → Decodes (decode_sized text 8) result out → (result ≡ Ok tt) × (out ≡ u64_text v)
verifier_read text v result out e h = subst (λ (d : Result (List ℕ) FromHexError). Decodes d result out) (verifier_decoded text v e) h

pub verifier_again : (v : ℕ) (out : List ℕ) → v < 2 ^ 64 → out ≡ u64_text v → from_be_bytes w64 out ≡ v
verifier_again v out lt e = ap (from_be_bytes w64) e ∙ u64_again v lt
