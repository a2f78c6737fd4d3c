use Rattle.std.proofs.Common.{◌∙◌, ◌++◌, ◌∷◌, append_assoc, refl, arith}
use Rattle.std.specs.Prelude.{decimal}
use Rattle.sl_defs.specs.Schedules.{setup_text, policy_text, counts_text, policy_word, policy_number}
use Rattle.sl_text.proofs.WordLaws.{decimal_no_space, policy_word_no_space, policy_number_fits}
use Rattle.sl_sched.proofs.parts.setup_of.Goals as goal

pub returns : goal.returns
unfolding setup_text policy_text counts_text
returns c = λ s is e.
    let a = c.cut.ensures (decimal s.volume) (policy_text s.policy ++ 32 ∷ counts_text s) (decimal_no_space s.volume is.volume) e in
    let b = c.cut-2.ensures (policy_word s.policy) (decimal (policy_number s.policy) ++ 32 ∷ counts_text s) (policy_word_no_space s.policy) (a.1 ∙ append_assoc (policy_word s.policy) (32 ∷ decimal (policy_number s.policy)) (32 ∷ counts_text s)) in
    let d = c.cut-3.ensures (decimal (policy_number s.policy)) (counts_text s) (decimal_no_space (policy_number s.policy) (policy_number_fits s.policy is.policy)) b.1 in
    let f = c.cut-4.ensures (decimal s.dirs) (decimal s.small ++ 32 ∷ decimal s.nodes) (decimal_no_space s.dirs (omega (arith, is.dirs))) d.1 in
    let g = c.cut-5.ensures (decimal s.small) (decimal s.nodes) (decimal_no_space s.small (omega (arith, is.small))) f.1 in
    let volume = c.number_u64.ensures s.volume is.volume a.0 in
    let policy = c.policy_of.ensures s.policy is.policy b.0 d.0 in
    let dirs = c.number_u8.ensures s.dirs (omega (arith, is.dirs)) f.0 in
    let small = c.number_u8-2.ensures s.small (omega (arith, is.small)) g.0 in
    let nodes = c.number_u8-3.ensures s.nodes (omega (arith, is.nodes)) g.1 in
    rw (volume, policy, dirs, small, nodes) refl
