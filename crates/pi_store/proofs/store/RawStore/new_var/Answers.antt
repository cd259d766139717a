use Rattle.std.proofs.Common.{◌≡◌, ◌∙◌, ◌<◌, ◌+◌, ◌^◌, [], ◌∷◌, Some, length, ap, sym, subst, arith, length-append}
use Rattle.pi_terms.specs.Tree.{var}
use Rattle.pi_region.specs.Image.{Image}
use Rattle.pi_store.specs.Holding.{heap_of}
use Rattle.pi_store.specs.Sound.{IsSound}
use Rattle.pi_store.proofs.SoundLemmas.{sound_variable}
use Rattle.pi_store.proofs.KeepLemmas.{gives_variable}
use Rattle.pi_store.proofs.PartLemmas.{refused}
use Rattle.pi_store.proofs.store.RawStore.new_var.Goals as goal

pub returns-in_err-push-clause-err : goal.returns-in_err-push-clause-err
returns-in_err-push-clause-err c = rw (← c.self.view_is) (refused c.from_residual.result c.self.inside.names c.self.inside.words c.push.new.self c.in_err-push.ensures.err)

pub invariant_of-self-2 : goal.invariant_of-self-2
invariant_of-self-2 c = subst (IsSound c.self.inside.names) (sym c.in_ok-push.ensures.ok) (sound_variable c.self.inside.names c.self.inside.words c.self.invariant)

pub returns-clause-ok : goal.returns-clause-ok
returns-clause-ok c =
    let t = c.self.inside.names in
    let i = c.self.inside.words in
    let j = c.push.new.self in
    let more : length j.variables ≡ length i.variables + 1 = ap (λ (k : Image). length k.variables) c.in_ok-push.ensures.ok ∙ length-append i.variables (0 ∷ []) in
    let count : c.count-number.result ≡ length i.variables = c.count-number.ensures.len in
    let small : c.count-number.result < 2 ^ 60 = c.count-number.ensures.small in
    let term = c.var_ref.ensures (heap_of t j) (omega arith) (omega arith) in
    rw (← c.self.view_is) (gives_variable t i j c.var_ref.result c.self.invariant c.in_ok-push.ensures.ok c.in_ok-push.ensures.advances (term ∙ ap (λ n. Some (var n)) count))
