-- Steps of the machine as the code takes them.
use Rattle.std.proofs.Common.{◌≡◌, Bool, true, false, List, refl, ◌∙◌, sym}
use Rattle.pi_syntax.specs.ExpTree.{ExpTree, ExpTrees, no_exps, exp as exp_before}
use Rattle.pi_syntax.specs.Terminals as t
use Rattle.pi_expr_phrases.specs.Machine as m
use Rattle.pi_expr_phrases.specs.Machine.{with_exp}
use Rattle.pi_expr_phrases.specs.Trees.{Shows, ShowsItems, is_none}
use Rattle.pi_expr_phrases.specs.Turns.{ShowsUnits}
use Rattle.pi_expr_phrases.specs.declared.built.Built.{Built}
use Rattle.pi_expr_phrases.specs.declared.items.Items.{Items}
use Rattle.pi_expr_phrases.specs.declared.frame.Closing.{Closing}
use Rattle.pi_expr_phrases.specs.declared.frame.Closing.TheVariants as closing

-- one more unit
pub units_with : (c : Closing) (xs ys : Items) (x : Built) (d : m.Closing) (es : ExpTrees) (e : ExpTree)
    → ((ts : ExpTrees) (a : ExpTree) → ShowsItems xs ts → Shows x a → ShowsItems ys (with_exp ts a))
    → ShowsUnits c xs d es → Shows x e → ShowsUnits c ys d (with_exp es e)
units_with (closing.Call name) xs ys x d es e more h i = (h.0, more es e h.1 i)
units_with (closing.Quote name) xs ys x d es e more h i = (h.0, more es e h.1 i)
units_with (closing.Method name) xs ys x d es e more h i = (h.0, (h.1.0, more (exp_before h.0 es) e h.1.1 i))
units_with closing.List xs ys x d es e more h i = (h.0, more es e h.1 i)
units_with closing.Array xs ys x d es e more h i = (h.0, more es e h.1 i)
units_with (closing.Collect b y) xs ys x d es e more h i = (h.0, (h.1.0, (h.1.1.0, more es e h.1.1.1 i)))
units_with closing.Foreach xs ys x d es e more h i = (h.0, more es e h.1 i)

pub collects : (b : Bool) (es : ExpTrees) (fs : List m.Frame) (e : ExpTree) (ts : List t.Terminal) → is_none es ≡ true
    → m.collect_by b es fs e ts ≡ m.opened (m.items (m.of_collect b e) no_exps) fs ts
collects b no_exps fs e ts h = refl
collects b (exp_before f es) fs e ts h = absurd (cc)

pub collects_no : (b : Bool) (es : ExpTrees) (fs : List m.Frame) (e : ExpTree) (ts : List t.Terminal) → is_none es ≡ false
    → m.collect_by b es fs e ts ≡ m.fail
collects_no b no_exps fs e ts h = absurd (cc)
collects_no b (exp_before f es) fs e ts h = refl

-- whether items that show these are none
pub none_is : (b : Bool) (es : ExpTrees) (n : Bool) → n ≡ is_none es → n ≡ b → is_none es ≡ b
none_is b es n p q = sym p ∙ q
