use Rattle.std.proofs.Common.{◌≡◌, ℕ, Bool, List, Some, ap, sym, ◌∙◌, length, rules}
use Rattle.std.specs.Prelude.{Vec}
use Rattle.std.specs.declared.alloc.Global.{Global}
use Rattle.pi_syntax.proofs.ExpListLemmas.{call-tree, exp_count-exps_of}
use Rattle.pi_syntax.specs.ExpTree.{exp_tree}
use Rattle.pi_syntax.specs.Signature.{signature}
use Rattle.pi_syntax.specs.declared.exp.Exp as e
use Rattle.pi_syntax.specs.declared.exp.Exp.{Exp}
use Rattle.pi_prog_clauses.specs.Calls.{named}
use Rattle.pi_prog_clauses.specs.Verdict.{named_of}
use Rattle.pi_prog_clauses.proofs.names.named.Goals as goal

named_call : (x : Exp) (name : List ℕ) (es : Vec Exp Global) (shown : List ℕ) (k : ℕ) (f : Bool) → x ≡ e.Call name es → shown ≡ name → k ≡ length es.items → Some (named shown k f) ≡ named_of f (signature (exp_tree x))
named_call x name es shown k f is name_is count_is = sym (
    ap (λ y. named_of f (signature (exp_tree y))) is
    ∙ ap (λ t. named_of f (signature t)) (call-tree name es)
    ∙ ap (λ n. Some (named name n f)) (exp_count-exps_of es.items ∙ sym count_is)
    ∙ ap (λ n. Some (named n k f)) (sym name_is))

pub returns-in-Call : goal.returns-in-Call
returns-in-Call c =
    let count : c.len.result ≡ length c.in-Call.args.items = search rules in
    named_call _ _ _ _ _ c.args.is_function c.in-Call.is c.as_str-in-Call.ensures count
