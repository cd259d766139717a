-- A new variable is the product.
use Rattle.pi_prop_made.specs.Making.{with_variable}
use Rattle.pi_prop_made.proofs.ProductLemmas.{product_keeps, product_made}
use Rattle.pi_prop_made.proofs.making.Making.product_variable.Goals as goal

pub returns-in-Ok-keep : goal.returns-in-Ok-keep
returns-in-Ok-keep c = λ m s.
    product_made c.args.x c.args.y c.in-Ok.z m c.keep.new.self c.variable.result (c.in-Ok.ensures m s).0 (c.in-Ok-keep.ensures (with_variable m) (product_keeps c.in-Ok.z c.args.x c.args.y) (c.in-Ok.ensures m s).1)
    c.variable.ensures
