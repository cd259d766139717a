-- What a head names.
use Rattle.std.proofs.Common.{◌≡◌, ℕ, List, sym, ◌∙◌, ap}
use Rattle.pi_syntax.specs.Signature.{Signature, signature, exp_count}
use Rattle.pi_syntax.specs.ExpLists.{exps_of}
use Rattle.pi_syntax.proofs.ExpListLemmas.{exp_count-exps_of}
use Rattle.pi_rewrite_spec.specs.Clauses.{named_by}
use Rattle.pi_rewrite_slots.proofs.ExpTrees.{call-is}
use Rattle.pi_rewrite.proofs.preds.signature.Goals as goal

named : List ℕ → ℕ → Signature
named name k = record { name = name; arity = k }

pub returns-in_ok-arity-in-Call-clause-named : goal.returns-in_ok-arity-in-Call-clause-named
unfolding named
returns-in_ok-arity-in-Call-clause-named c =
    let count : exp_count (exps_of c.in-Call.args.items) ≡ c.in_ok-arity-in-Call.arity = exp_count-exps_of c.in-Call.args.items ∙ sym c.in-Call.args.ok.0 ∙ sym (c.in_ok-arity-in-Call.ensures ∙ c.len.ensures) in
    ap (λ t. named_by (signature t)) (call-is c.args.head.now c.in-Call.name c.in-Call.args c.in-Call.is)
    ∙ ap (λ name. named name (exp_count (exps_of c.in-Call.args.items))) (sym c.as_str-in-Call.ensures)
    ∙ ap (named c.as_str-in-Call.result.now) count
