-- What frames grant, and the questions that answers answer.
use Rattle.std.proofs.Common.{ℕ, ap}
use Rattle.std.proofs.lemmas.Cmp.{nat_cmp_total, then_total, on_total}
use Rattle.std.proofs.lemmas.Map.Lookups.{CmpEqualImpliesEq, exact_pairs, exact_unsigned}
use Rattle.std.specs.Cmp.{IsTotalOrder}
use Rattle.std.specs.Ordering.{nat_cmp, ordering_then}
use Rattle.std.specs.declared.cmp.Ordering.{Ordering}
use Rattle.sl_wiring.specs.declared.question.Question.{Question}
use Rattle.sl_wiring.specs.declared.grants.Grant.{Grant}

-- ---- the orders of questions and grants

abbrev pub grant_cmp : Grant → Grant → Ordering
grant_cmp a b = ordering_then (nat_cmp a.op b.op) (nat_cmp a.server b.server)

pub grants_total : IsTotalOrder grant_cmp
grants_total = then_total (on_total (λ g. g.op) nat_cmp_total) (on_total (λ g. g.server) nat_cmp_total)

pub exact_grants : CmpEqualImpliesEq grant_cmp
exact_grants a b h = ap (λ (p : ℕ × ℕ). record { op = p.0; server = p.1 }) (exact_pairs nat_cmp nat_cmp exact_unsigned exact_unsigned (a.op, a.server) (b.op, b.server) h)

abbrev pub question_cmp : Question → Question → Ordering
question_cmp a b =
    ordering_then (nat_cmp a.asker b.asker) (ordering_then (nat_cmp a.asked b.asked) (ordering_then (nat_cmp a.fence b.fence)
    (ordering_then (nat_cmp a.tag b.tag) (ordering_then (nat_cmp a.op b.op) (nat_cmp a.kind b.kind)))))

pub questions_total : IsTotalOrder question_cmp
questions_total =
    then_total (on_total (λ q. q.asker) nat_cmp_total) (then_total (on_total (λ q. q.asked) nat_cmp_total) (then_total (on_total (λ q. q.fence) nat_cmp_total)
    (then_total (on_total (λ q. q.tag) nat_cmp_total) (then_total (on_total (λ q. q.op) nat_cmp_total) (on_total (λ q. q.kind) nat_cmp_total)))))

abbrev Two : Type 0
Two = ℕ × ℕ

abbrev Three : Type 0
Three = ℕ × Two

abbrev Four : Type 0
Four = ℕ × Three

abbrev Five : Type 0
Five = ℕ × Four

abbrev Six : Type 0
Six = ℕ × Five

abbrev two_cmp : Two → Two → Ordering
two_cmp x y = ordering_then (nat_cmp x.0 y.0) (nat_cmp x.1 y.1)

abbrev three_cmp : Three → Three → Ordering
three_cmp x y = ordering_then (nat_cmp x.0 y.0) (two_cmp x.1 y.1)

abbrev four_cmp : Four → Four → Ordering
four_cmp x y = ordering_then (nat_cmp x.0 y.0) (three_cmp x.1 y.1)

abbrev five_cmp : Five → Five → Ordering
five_cmp x y = ordering_then (nat_cmp x.0 y.0) (four_cmp x.1 y.1)

exact_two : CmpEqualImpliesEq two_cmp
exact_two = exact_pairs nat_cmp nat_cmp exact_unsigned exact_unsigned

exact_three : CmpEqualImpliesEq three_cmp
exact_three = exact_pairs nat_cmp two_cmp exact_unsigned exact_two

exact_four : CmpEqualImpliesEq four_cmp
exact_four = exact_pairs nat_cmp three_cmp exact_unsigned exact_three

exact_five : CmpEqualImpliesEq five_cmp
exact_five = exact_pairs nat_cmp four_cmp exact_unsigned exact_four

abbrev fields : Question → Six
fields q = (q.asker, (q.asked, (q.fence, (q.tag, (q.op, q.kind)))))

abbrev of_fields : Six → Question
of_fields p = record { asker = p.0; asked = p.1.0; fence = p.1.1.0; tag = p.1.1.1.0; op = p.1.1.1.1.0; kind = p.1.1.1.1.1 }

pub exact_questions : CmpEqualImpliesEq question_cmp
exact_questions a b h = ap of_fields (exact_pairs nat_cmp five_cmp exact_unsigned exact_five (fields a) (fields b) h)
