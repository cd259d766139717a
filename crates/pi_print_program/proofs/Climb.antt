-- What stands between signs, read as a line of the grammar that is looser, up to a unit.
use Rattle.std.proofs.Common.{ℕ, List, ◌∷◌, codes}
use Rattle.pi_syntax.specs.ExpTree.{ExpTree}
use Rattle.pi_syntax.specs.Terminals.{Line, equivalence, implication, constraint_or, constraint_xor, constraint_and, bit_or, bit_xor, bit_and, shift, sum, product, Terminal, relation, dots, power, plus, minus, complement, constraint_not, goal_sign, open_paren}
use Rattle.pi_syntax.specs.Grammar.{exp, conj, unit, line, negation, relating, range, unary, pow, post, prim, operand, Joins, call_one, call_two, Reads, branches, conjuncts, signed_goal, plain_unit, joined, negative, positive, unrelated, related, no_range, a_range, a_stepped_range, with_plus, with_minus, with_complement, unsigned, no_power, a_power, postfixes, last_branch, last_unit, no_more, join, no_postfix}
use Rattle.pi_syntax.specs.ExpTree.{range as range_of, range_by}

module _ {ts rest : List Terminal} {e : ExpTree} where
  abbrev pub post_prim : Reads prim ts e rest → Reads post ts e rest
  post_prim d = postfixes d no_postfix

  -- ---- down from what stands between signs

  abbrev pub pow_post : Reads post ts e rest → Reads pow ts e rest
  pow_post d = no_power d

  abbrev pub unary_post : Reads post ts e rest → Reads unary ts e rest
  unary_post d = unsigned (no_power d)

  abbrev product_post : Reads post ts e rest → Reads (line product) ts e rest
  product_post d = joined (unary_post d) no_more

  abbrev sum_post : Reads post ts e rest → Reads (line sum) ts e rest
  sum_post d = joined (product_post d) no_more

  abbrev shift_post : Reads post ts e rest → Reads (line shift) ts e rest
  shift_post d = joined (sum_post d) no_more

  abbrev and_post : Reads post ts e rest → Reads (line bit_and) ts e rest
  and_post d = joined (shift_post d) no_more

  abbrev xor_post : Reads post ts e rest → Reads (line bit_xor) ts e rest
  xor_post d = joined (and_post d) no_more

  abbrev pub or_post : Reads post ts e rest → Reads (line bit_or) ts e rest
  or_post d = joined (xor_post d) no_more

  abbrev pub range_post : Reads post ts e rest → Reads range ts e rest
  range_post d = no_range (or_post d)

  abbrev pub negation_post : Reads post ts e rest → Reads negation ts e rest
  negation_post d = positive (unrelated (range_post d))

  abbrev constraint_and_post : Reads post ts e rest → Reads (line constraint_and) ts e rest
  constraint_and_post d = joined (negation_post d) no_more

  abbrev constraint_xor_post : Reads post ts e rest → Reads (line constraint_xor) ts e rest
  constraint_xor_post d = joined (constraint_and_post d) no_more

  abbrev constraint_or_post : Reads post ts e rest → Reads (line constraint_or) ts e rest
  constraint_or_post d = joined (constraint_xor_post d) no_more

  abbrev implication_post : Reads post ts e rest → Reads (line implication) ts e rest
  implication_post d = joined (constraint_or_post d) no_more

  pub operand_post : (l : Line) → Reads post ts e rest → Reads (operand l) ts e rest
  operand_post equivalence d = implication_post d
  operand_post implication d = constraint_or_post d
  operand_post constraint_or d = constraint_xor_post d
  operand_post constraint_xor d = constraint_and_post d
  operand_post constraint_and d = negation_post d
  operand_post bit_or d = xor_post d
  operand_post bit_xor d = and_post d
  operand_post bit_and d = shift_post d
  operand_post shift d = sum_post d
  operand_post sum d = product_post d
  operand_post product d = unary_post d

  -- ---- up to a unit

  abbrev implication_up : Reads (line implication) ts e rest → Reads unit ts e rest
  implication_up d = plain_unit (joined d no_more)

  abbrev constraint_or_up : Reads (line constraint_or) ts e rest → Reads unit ts e rest
  constraint_or_up d = implication_up (joined d no_more)

  abbrev constraint_xor_up : Reads (line constraint_xor) ts e rest → Reads unit ts e rest
  constraint_xor_up d = constraint_or_up (joined d no_more)

  abbrev constraint_and_up : Reads (line constraint_and) ts e rest → Reads unit ts e rest
  constraint_and_up d = constraint_xor_up (joined d no_more)

  abbrev pub negation_up : Reads negation ts e rest → Reads unit ts e rest
  negation_up d = constraint_and_up (joined d no_more)

  abbrev pub relating_up : Reads relating ts e rest → Reads unit ts e rest
  relating_up d = negation_up (positive d)

  abbrev pub range_up : Reads range ts e rest → Reads unit ts e rest
  range_up d = relating_up (unrelated d)

  abbrev or_up : Reads (line bit_or) ts e rest → Reads unit ts e rest
  or_up d = range_up (no_range d)

  abbrev xor_up : Reads (line bit_xor) ts e rest → Reads unit ts e rest
  xor_up d = or_up (joined d no_more)

  abbrev and_up : Reads (line bit_and) ts e rest → Reads unit ts e rest
  and_up d = xor_up (joined d no_more)

  abbrev shift_up : Reads (line shift) ts e rest → Reads unit ts e rest
  shift_up d = and_up (joined d no_more)

  abbrev sum_up : Reads (line sum) ts e rest → Reads unit ts e rest
  sum_up d = shift_up (joined d no_more)

  abbrev product_up : Reads (line product) ts e rest → Reads unit ts e rest
  product_up d = sum_up (joined d no_more)

  abbrev pub unary_up : Reads unary ts e rest → Reads unit ts e rest
  unary_up d = product_up (joined d no_more)

  pub unit_line : (l : Line) → Reads (line l) ts e rest → Reads unit ts e rest
  unit_line equivalence d = plain_unit d
  unit_line implication d = implication_up d
  unit_line constraint_or d = constraint_or_up d
  unit_line constraint_xor d = constraint_xor_up d
  unit_line constraint_and d = constraint_and_up d
  unit_line bit_or d = or_up d
  unit_line bit_xor d = xor_up d
  unit_line bit_and d = and_up d
  unit_line shift d = shift_up d
  unit_line sum d = sum_up d
  unit_line product d = product_up d

  pub unit_post : Reads post ts e rest → Reads unit ts e rest
  unit_post d = relating_up (unrelated (range_post d))

  pub conj_unit : Reads unit ts e rest → Reads conj ts e rest
  conj_unit d = conjuncts (last_unit d)

  pub exp_unit : Reads unit ts e rest → Reads exp ts e rest
  exp_unit d = branches (last_branch (conj_unit d))

-- ---- a sign between two operands

pub joined_unit : {l : Line} {t : Terminal} {name : List ℕ} {ts mid rest : List Terminal} {a b : ExpTree} → Joins l t name → Reads post ts a (t ∷ mid)
    → Reads post mid b rest → Reads unit ts (call_two name a b) rest
joined_unit {l} j a b = unit_line l (joined (operand_post l a) (join j (operand_post l b) no_more))

pub related_unit : {name : List ℕ} {ts mid rest : List Terminal} {a b : ExpTree} → Reads post ts a (relation name ∷ mid) → Reads post mid b rest
    → Reads unit ts (call_two name a b) rest
related_unit a b = relating_up (related (range_post a) (range_post b))

pub power_unit : {ts mid rest : List Terminal} {a b : ExpTree} → Reads post ts a (power ∷ mid) → Reads post mid b rest
    → Reads unit ts (call_two (codes "**") a b) rest
power_unit a b = unary_up (unsigned (a_power a (unary_post b)))

pub range_unit : {ts mid rest : List Terminal} {a b : ExpTree} → Reads post ts a (dots ∷ mid) → Reads post mid b rest → Reads unit ts (range_of a b) rest
range_unit a b = range_up (a_range (or_post a) (or_post b))

pub stepped_unit : {ts mid end rest : List Terminal} {a b c : ExpTree} → Reads post ts a (dots ∷ mid) → Reads post mid b (dots ∷ end) → Reads post end c rest
    → Reads unit ts (range_by a b c) rest
stepped_unit a b c = range_up (a_stepped_range (or_post a) (or_post b) (or_post c))

-- ---- a sign before an operand

pub goal_sign_unit : {name : List ℕ} {ts rest : List Terminal} {e : ExpTree} → Reads post ts e rest → Reads unit (goal_sign name ∷ ts) (call_one name e) rest
goal_sign_unit d = signed_goal (unit_post d)

pub plus_unit : {ts rest : List Terminal} {e : ExpTree} → Reads post ts e rest → Reads unit (plus ∷ ts) (call_one (codes "+") e) rest
plus_unit d = unary_up (with_plus (unary_post d))

pub minus_unit : {ts rest : List Terminal} {e : ExpTree} → Reads post (open_paren ∷ ts) e rest → Reads unit (minus ∷ open_paren ∷ ts) (call_one (codes "-") e) rest
minus_unit d = unary_up (with_minus (unary_post d))

pub complement_unit : {ts rest : List Terminal} {e : ExpTree} → Reads post ts e rest → Reads unit (complement ∷ ts) (call_one (codes "~") e) rest
complement_unit d = unary_up (with_complement (unary_post d))

pub constraint_not_unit : {ts rest : List Terminal} {e : ExpTree} → Reads post ts e rest → Reads unit (constraint_not ∷ ts) (call_one (codes "#~") e) rest
constraint_not_unit d = negation_up (negative (negation_post d))
