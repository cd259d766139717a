-- The slots of the head are those before the condition, and those of the condition stand before the body; so with the places and the helpers.
use Rattle.std.proofs.Common.{◌≡◌, length, map, refl, ap, None, ◌∙◌}
use Rattle.pi_syntax.specs.ProgramTree.{RuleTree, rule_tree}
use Rattle.pi_core.specs.CoreTree.{pred_tree}
use Rattle.pi_meaning.specs.OverNames.WrittenRules.{head_arguments}
use Rattle.pi_rewrite_spec.specs.Values.{slot_patterns}
use Rattle.pi_rewrite_spec.specs.Helpers.{goal_helpers}
use Rattle.pi_rewrite_spec.specs.Programs.{option_helpers, behind_option, rule_site}
use Rattle.pi_rewrite_spec.specs.Sites.{Site}
use Rattle.pi_rewrite_sites.specs.OwnNames.{own_name}
use Rattle.pi_rewrite_sites.specs.SiteOf.{site_of}
use Rattle.pi_rewrite.proofs.ClauseLemmas.{rule-is, rule-site-is, two-behind}
use Rattle.pi_rewrite.proofs.clauses.lower_rule.Goals as goal

pub returns-clause-is : goal.returns-clause-is
returns-clause-is c =
    let r : RuleTree = rule_tree c.args.rule.now in
    let begun = c.in_ok-begun.begun in
    rule-is (record { head = begun.patterns; guard = c.in_ok-guard.guard; back = c.args.rule.now.back; watches = c.new.result; body = c.in_ok-body.body; value = None; slots = c.in_ok-count.count }) r (own_name c.args.from.naming.now.prefix) c.args.from.count
    c.new-slots.result c.begin.new.slots c.guarded.new.slots c.lower_body.new.slots (site_of begun.site) (site_of c.guarded.new.site) c.new-slots.ensures c.in_ok-begun.ensures.patterns c.in_ok-begun.ensures.slots
    (rule-site-is r (own_name c.args.from.naming.now.prefix) c.args.from.count (length c.begin.new.slots) c.begin.new.slots (site_of begun.site)
    (c.in_ok-begun.ensures.slots ∙ ap (λ ns. (slot_patterns (head_arguments r.head) ns).names) c.new-slots.ensures) refl c.in_ok-begun.ensures.site)
    (rw c.cond.ensures at c.in_ok-guard.ensures.is) (rw c.cond.ensures at c.in_ok-guard.ensures.slots) (rw c.cond.ensures at c.in_ok-guard.ensures.site) refl c.new.ensures c.in_ok-body.ensures.is c.in_ok-body.ensures.slots refl c.in_ok-count.ensures

pub returns-clause-helpers : goal.returns-clause-helpers
returns-clause-helpers c =
    let r : RuleTree = rule_tree c.args.rule.now in
    let begun = c.in_ok-begun.begun in
    let here : site_of begun.site ≡ rule_site (own_name c.args.from.naming.now.prefix) c.args.from.count r =
    rule-site-is r (own_name c.args.from.naming.now.prefix) c.args.from.count (length c.begin.new.slots) c.begin.new.slots (site_of begun.site)
    (c.in_ok-begun.ensures.slots ∙ ap (λ ns. (slot_patterns (head_arguments r.head) ns).names) c.new-slots.ensures) refl c.in_ok-begun.ensures.site in
    two-behind (map pred_tree c.args.helpers.now.items) (map pred_tree c.guarded.new.helpers.items) (map pred_tree c.lower_body.new.helpers.items) _ _
    (option_helpers (site_of begun.site) r.cond) (goal_helpers (site_of c.guarded.new.site) r.body) (rw c.cond.ensures at c.in_ok-guard.ensures.helpers) c.in_ok-body.ensures.helpers
    (ap (λ (s : Site). option_helpers s r.cond) here) (ap (λ (s : Site). goal_helpers s r.body) ((rw c.cond.ensures at c.in_ok-guard.ensures.site) ∙ ap (λ (s : Site). behind_option s r.cond) here))
