use Rattle.std.proofs.Common.{◌≡◌, sym, ap, ◌∙◌}
use Rattle.std.proofs.lemmas.Cmp.{nat_list_cmp_total, tied_itself}
use Rattle.pi_terms.specs.Order.{name_order}
use Rattle.pi_unify.proofs.order.order_of_names.Goals as goal

pub returns-then-j-k : goal.returns-then-j-k
returns-then-j-k g c = λ f h is_f is_h.
    let same : f ≡ h = cc (c.if-j-k.true) in
    sym (tied_itself nat_list_cmp_total f) ∙ ap (name_order f) same
