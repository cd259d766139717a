use Rattle.std.proofs.Common.{[], ap, sym, ◌∙◌}
use Rattle.pi_store_blocks.specs.Items.{item_numbers}
use Rattle.pi_store_blocks.specs.Terms.{term_numbers}
use Rattle.pi_store_blocks.specs.Constraint.{tail_of}
use Rattle.pi_store_blocks.proofs.BlockLemmas.{appended_none}
use Rattle.pi_store_blocks.proofs.KindLemmas.{tail_written}
use Rattle.pi_store_blocks.proofs.constraints.write.append_tail.Goals as goal

pub returns-in_ok-append_terms-in-Linear-clause-ok : goal.returns-in_ok-append_terms-in-Linear-clause-ok
returns-in_ok-append_terms-in-Linear-clause-ok c = tail_written _ _ c.args.constraint.now _ (ap tail_of c.in-Linear.is ∙ ap term_numbers (sym c.as_slice.ensures)) c.in_ok-append_terms-in-Linear.ensures.ok

pub returns-in_ok-append_items-in-Different-clause-ok : goal.returns-in_ok-append_items-in-Different-clause-ok
returns-in_ok-append_items-in-Different-clause-ok c = tail_written _ _ c.args.constraint.now _ (ap tail_of c.in-Different.is ∙ ap item_numbers (sym c.as_slice-in-Different.ensures)) c.in_ok-append_items-in-Different.ensures.ok

pub returns-in_ok-append_items-in-Element-clause-ok : goal.returns-in_ok-append_items-in-Element-clause-ok
returns-in_ok-append_items-in-Element-clause-ok c = tail_written _ _ c.args.constraint.now _ (ap tail_of c.in-Element.is ∙ ap item_numbers (sym c.as_slice-in-Element.ensures)) c.in_ok-append_items-in-Element.ensures.ok

pub returns-in_ok-append_terms-in-Reified-clause-ok : goal.returns-in_ok-append_terms-in-Reified-clause-ok
returns-in_ok-append_terms-in-Reified-clause-ok c = tail_written _ _ c.args.constraint.now _ (ap tail_of c.in-Reified.is ∙ ap term_numbers (sym c.as_slice-in-Reified.ensures)) c.in_ok-append_terms-in-Reified.ensures.ok

pub returns-in_ok-append_items-in-Distinct-clause-ok : goal.returns-in_ok-append_items-in-Distinct-clause-ok
returns-in_ok-append_items-in-Distinct-clause-ok c = tail_written _ _ c.args.constraint.now _ (ap tail_of c.in-Distinct.is ∙ ap item_numbers (sym c.as_slice-in-Distinct.ensures)) c.in_ok-append_items-in-Distinct.ensures.ok

pub returns-in-Product-clause-ok : goal.returns-in-Product-clause-ok
returns-in-Product-clause-ok c = tail_written _ _ c.args.constraint.now [] (ap tail_of c.in-Product.is) (appended_none _)

pub returns-in-Absolute-clause-ok : goal.returns-in-Absolute-clause-ok
returns-in-Absolute-clause-ok c = tail_written _ _ c.args.constraint.now [] (ap tail_of c.in-Absolute.is) (appended_none _)
