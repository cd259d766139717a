-- The left side, the right side behind it, and their product.
use Rattle.pi_prop_spec.specs.Steps.{side}
use Rattle.pi_prop_made.specs.Making.{Reads}
use Rattle.pi_prop_made.proofs.ProductLemmas.{still_below, sides_read}
use Rattle.pi_prop_made.proofs.making.Making.side_product.Goals as goal

pub returns : goal.returns
returns c = λ m s a b.
    let left : Reads (side c.args.left) m c.in-Ok.x c.side.new.self = c.in-Ok.ensures m s a in
    let right : Reads (side c.args.right) left.made c.in-Ok-side.y c.side-2.new.self = c.in-Ok-side.ensures left.made left.shown (still_below c.args.left m c.in-Ok.x c.side.new.self c.args.right.terms left b) in
    sides_read c.args.left c.args.right m c.in-Ok.x c.in-Ok-side.y c.side.new.self c.side-2.new.self c.product_variable.new.self c.product_variable.result left right (c.product_variable.ensures right.made right.shown)
