use Rattle.std.proofs.Common.{refl, arith}
use Rattle.pi_store.specs.Holding.{heap_of}
use Rattle.pi_store.proofs.WaitLemmas.{activation_found}
use Rattle.pi_store.proofs.waiting.activation.Goals as goal

pub returns : goal.returns
returns c = λ at.
    let h = heap_of c.args.names.now c.args.words.now in
    activation_found h c.args.word c.number_at-agent.result c.number_at-watch.result c.in_ok-value.value (omega arith)
    (λ t is. (c.number_at-agent.ensures h t refl is, c.number_at-watch.ensures h t refl is, c.in_ok-value.ensures t is)) at
