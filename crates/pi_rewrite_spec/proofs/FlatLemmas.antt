-- Expressions without a call: over names they are the terms as they stand.
use Rattle.std.proofs.Common.{◌≡◌, Bool, true, false, List, [], ◌++◌, refl, ◌∙◌, ap}
use Rattle.std.specs.Prelude.{Option, Some, None, option_map, option_and_then, ◌&&◌, codes}
use Rattle.std.proofs.lemmas.Bool.{false≢true}
use Rattle.pi_terms.specs.Tree.{Tree, Trees}
use Rattle.pi_terms.specs.ListNames.{nil}
use Rattle.pi_syntax.specs.PrintTerm.{array_name}
use Rattle.pi_syntax.specs.ExpTree.{ExpTree, var, int, atom, str, list, list_onto, array, call, quote, range, range_by, ExpTrees, no_exps, exp}
use Rattle.pi_syntax.specs.Signature.{exp_count}
use Rattle.pi_traces.specs.Trace.{Trace, done, one, then}
use Rattle.pi_meaning.specs.Shared.Level.{Level}
use Rattle.pi_meaning.specs.Shared.Given.{Setting}
use Rattle.pi_meaning.specs.OverNames.Environment.{Valued, ValuedAll}
use Rattle.pi_meaning.specs.OverNames.Place.{Place}
use Rattle.pi_meaning.specs.OverNames.Texts.{Names, behind, places, places_all}
use Rattle.pi_meaning.specs.OverNames.Assigning.{place_of}
use Rattle.pi_meaning.specs.OverNames.Terms.{items_onto, made, list_made, with_front, nothing_behind, written_term, written_terms}
use Rattle.pi_meaning.specs.OverNames.Control.{Value, behind_all}
use Rattle.pi_meaning.specs.OverNames.Forms.{Reading, plain, operand, boolean, ranged, first_reading, later_readings, operand_readings, range_value}
use Rattle.pi_meaning.specs.OverNames.Goals.{term_value, value_of, values_of}
use Rattle.pi_rewrite_spec.specs.Values.{stays, is_flat_as, are_flat_as, is_flat, are_flat}
use Rattle.pi_rewrite_spec.proofs.ReadingLemmas.{structure-value}
use Rattle.pi_rewrite_spec.proofs.RunLemmas.{then-of-one}

abbrev pub terms_value : Option ValuedAll → Trace ValuedAll
terms_value None = done
terms_value (Some all) = one all

pub both : (a b : Bool) → a && b ≡ true → (a ≡ true) × (b ≡ true)
both true true h = (refl, refl)
both true false h = absurd (false≢true h)
both false b h = absurd (false≢true h)

made-value : (make : Trees → Tree) (o : Option ValuedAll) → then (terms_value o) (λ all. one (made make all)) ≡ term_value (option_map (made make) o)
unfolding then
made-value make None = refl
made-value make (Some all) = then-of-one all (λ all. one (made make all))

onto-value : (f : ValuedAll → Option Valued) (g : ValuedAll → Trace Valued) → ((all : ValuedAll) → g all ≡ term_value (f all)) → (o : Option ValuedAll) →
    then (terms_value o) (λ all. then (g all) (λ x. one (list_made all x))) ≡ term_value (option_and_then (λ all. option_map (list_made all) (f all)) o)
unfolding then
onto-value f g is None = refl
onto-value f g is (Some all) = then-of-one all (λ all. then (g all) (λ x. one (list_made all x))) ∙ ap (λ t. then t (λ x. one (list_made all x))) (is all) ∙ last (f all)
  where
    last : (o : Option Valued) → then (term_value o) (λ x. one (list_made all x)) ≡ term_value (option_map (list_made all) o)
    last None = refl
    last (Some x) = then-of-one x (λ x. one (list_made all x))

front-value : (f : Valued → Option ValuedAll) (g : Valued → Trace ValuedAll) → ((x : Valued) → g x ≡ terms_value (f x)) → (o : Option Valued) →
    then (term_value o) (λ x. then (g x) (λ all. one (with_front x all))) ≡ terms_value (option_and_then (λ x. option_map (with_front x) (f x)) o)
unfolding then
front-value f g is None = refl
front-value f g is (Some x) = then-of-one x (λ x. then (g x) (λ all. one (with_front x all))) ∙ ap (λ t. then t (λ all. one (with_front x all))) (is x) ∙ last (f x)
  where
    last : (o : Option ValuedAll) → then (terms_value o) (λ all. one (with_front x all)) ≡ terms_value (option_map (with_front x) o)
    last None = refl
    last (Some all) = then-of-one all (λ all. one (with_front x all))

-- the bounds of a range, and its step
two-values : (f : Valued → Option Valued) (g : Valued → Trace Valued) → ((x : Valued) → g x ≡ term_value (f x)) → (o : Option Valued) →
    then (term_value o) (λ x. then (then (g x) (λ y. then (one (nothing_behind y)) (λ all. one (with_front y all)))) (λ all. one (with_front x all)))
    ≡ terms_value (option_and_then (λ x. option_and_then (λ y. Some (with_front x (with_front y (nothing_behind y)))) (f x)) o)
unfolding then
two-values f g is None = refl
two-values f g is (Some x) =
    then-of-one x (λ x. then (then (g x) (λ y. then (one (nothing_behind y)) (λ all. one (with_front y all)))) (λ all. one (with_front x all)))
    ∙ ap (λ t. then (then t (λ y. then (one (nothing_behind y)) (λ all. one (with_front y all)))) (λ all. one (with_front x all))) (is x) ∙ last (f x)
  where
    last : (o : Option Valued) → then (then (term_value o) (λ y. then (one (nothing_behind y)) (λ all. one (with_front y all)))) (λ all. one (with_front x all))
        ≡ terms_value (option_and_then (λ y. Some (with_front x (with_front y (nothing_behind y)))) o)
    last None = refl
    last (Some y) =
        ap (λ t. then t (λ all. one (with_front x all))) (then-of-one y (λ y. then (one (nothing_behind y)) (λ all. one (with_front y all))) ∙ then-of-one (nothing_behind y) (λ all. one (with_front y all)))
        ∙ then-of-one (with_front y (nothing_behind y)) (λ all. one (with_front x all))

three-values : (f g : Valued → Option Valued) (u v : Valued → Trace Valued) → ((x : Valued) → u x ≡ term_value (f x)) → ((y : Valued) → v y ≡ term_value (g y)) → (o : Option Valued) →
    then (term_value o) (λ x. then (then (u x) (λ y. then (then (v y) (λ z. then (one (nothing_behind z)) (λ all. one (with_front z all)))) (λ all. one (with_front y all)))) (λ all. one (with_front x all)))
    ≡ terms_value (option_and_then (λ x. option_and_then (λ y. option_and_then (λ z. Some (with_front x (with_front y (with_front z (nothing_behind z))))) (g y)) (f x)) o)
unfolding then
three-values f g u v is are None = refl
three-values f g u v is are (Some x) =
    then-of-one x (λ x. then (then (u x) (λ y. then (then (v y) (λ z. then (one (nothing_behind z)) (λ all. one (with_front z all)))) (λ all. one (with_front y all)))) (λ all. one (with_front x all)))
    ∙ ap (λ t. then (then t (λ y. then (then (v y) (λ z. then (one (nothing_behind z)) (λ all. one (with_front z all)))) (λ all. one (with_front y all)))) (λ all. one (with_front x all))) (is x)
    ∙ ap (λ t. then t (λ all. one (with_front x all))) (two-values g v are (f x)) ∙ last (f x)
  where
    ends : (y : Valued) (o : Option Valued) →
        then (terms_value (option_and_then (λ z. Some (with_front y (with_front z (nothing_behind z)))) o)) (λ all. one (with_front x all))
        ≡ terms_value (option_and_then (λ z. Some (with_front x (with_front y (with_front z (nothing_behind z))))) o)
    ends y None = refl
    ends y (Some z) = then-of-one (with_front y (with_front z (nothing_behind z))) (λ all. one (with_front x all))

    last : (o : Option Valued) → then (terms_value (option_and_then (λ y. option_and_then (λ z. Some (with_front y (with_front z (nothing_behind z)))) (g y)) o)) (λ all. one (with_front x all))
        ≡ terms_value (option_and_then (λ y. option_and_then (λ z. Some (with_front x (with_front y (with_front z (nothing_behind z))))) (g y)) o)
    last None = refl
    last (Some y) = ends y (g y)

mutual
  unfolding is_flat_as value_of written_term range_value

  pub flat-value : (set : Setting) (r : Reading) (before : Names) (e : ExpTree) → is_flat_as r e ≡ true → (m : Level) (p : Place) → value_of set r before e m p ≡ term_value (written_term e p.names p.state)
  flat-value set r before (var name) flat m p = refl
  flat-value set r before (int n) flat m p = refl
  flat-value set r before (atom name) flat m p = refl
  flat-value set r before (str text) flat m p = refl
  flat-value set r before (list es) flat m p =
      ap (λ t. then t (λ all. one (made (λ ts. items_onto ts (Tree.atom nil)) all))) (flat-values set [] before es flat m p) ∙ made-value (λ ts. items_onto ts (Tree.atom nil)) (written_terms es p.names p.state)
  flat-value set r before (list_onto es e) flat m p =
      ap (λ t. then t (λ all. then (value_of set plain (behind before (places_all es)) e m (behind_all all)) (λ x. one (list_made all x)))) (flat-values set [] before es (both (are_flat es) (is_flat e) flat).0 m p)
      ∙ onto-value (λ all. written_term e all.names all.state) (λ all. value_of set plain (behind before (places_all es)) e m (behind_all all))
      (λ all. flat-value set plain (behind before (places_all es)) e (both (are_flat es) (is_flat e) flat).1 m (behind_all all)) (written_terms es p.names p.state)
  flat-value set r before (array es) flat m p =
      ap (λ t. then t (λ all. one (made (Tree.comp array_name) all))) (flat-values set [] before es flat m p) ∙ made-value (Tree.comp array_name) (written_terms es p.names p.state)
  flat-value set r before (quote e) flat m p = refl
  flat-value set r before (call name es) flat m p =
      ap (λ (v : Value). v m p) (structure-value set r name (exp_count es) _ (both (stays r name (exp_count es)) (are_flat_as (operand_readings r name (exp_count es)) es) flat).0)
      ∙ ap (λ t. then t (λ all. one (made (Tree.comp name) all))) (flat-values set (operand_readings r name (exp_count es)) before es (both (stays r name (exp_count es)) (are_flat_as (operand_readings r name (exp_count es)) es) flat).1 m p)
      ∙ made-value (Tree.comp name) (written_terms es p.names p.state)
  flat-value set ranged before (range first last) flat m p =
      let are : (is_flat first ≡ true) × (is_flat last ≡ true) = both (is_flat first) (is_flat last) flat in
      ap (λ t. then (then t (λ x. then (then (value_of set plain (behind before (places first)) last m (place_of x)) (λ y. then (one (nothing_behind y)) (λ all. one (with_front y all)))) (λ all. one (with_front x all))))
      (λ all. one (made (Tree.comp (codes "..")) all))) (flat-value set plain before first are.0 m p)
      ∙ ap (λ t. then t (λ all. one (made (Tree.comp (codes "..")) all)))
      (two-values (λ x. written_term last x.names x.state) (λ x. value_of set plain (behind before (places first)) last m (place_of x)) (λ x. flat-value set plain (behind before (places first)) last are.1 m (place_of x))
      (written_term first p.names p.state))
      ∙ made-value (Tree.comp (codes "..")) _
  flat-value set ranged before (range_by first step last) flat m p =
      let are : (is_flat first ≡ true) × (is_flat step && is_flat last ≡ true) = both (is_flat first) (is_flat step && is_flat last) flat in
      let two : (is_flat step ≡ true) × (is_flat last ≡ true) = both (is_flat step) (is_flat last) are.1 in
      ap (λ t. then (then t (λ x. then (then (value_of set plain (behind before (places first)) step m (place_of x)) (λ y. then (then (value_of set plain (behind before (places first ++ places step)) last m (place_of y))
      (λ z. then (one (nothing_behind z)) (λ all. one (with_front z all)))) (λ all. one (with_front y all)))) (λ all. one (with_front x all))))
      (λ all. one (made (Tree.comp (codes "..")) all))) (flat-value set plain before first are.0 m p)
      ∙ ap (λ t. then t (λ all. one (made (Tree.comp (codes "..")) all)))
      (three-values (λ x. written_term step x.names x.state) (λ y. written_term last y.names y.state) (λ x. value_of set plain (behind before (places first)) step m (place_of x))
      (λ y. value_of set plain (behind before (places first ++ places step)) last m (place_of y)) (λ x. flat-value set plain (behind before (places first)) step two.0 m (place_of x))
      (λ y. flat-value set plain (behind before (places first ++ places step)) last two.1 m (place_of y)) (written_term first p.names p.state))
      ∙ made-value (Tree.comp (codes "..")) _
  flat-value set plain before (range first last) flat m p = absurd (false≢true flat)
  flat-value set operand before (range first last) flat m p = absurd (false≢true flat)
  flat-value set boolean before (range first last) flat m p = absurd (false≢true flat)
  flat-value set plain before (range_by first step last) flat m p = absurd (false≢true flat)
  flat-value set operand before (range_by first step last) flat m p = absurd (false≢true flat)
  flat-value set boolean before (range_by first step last) flat m p = absurd (false≢true flat)
  flat-value set r before e flat m p = absurd (false≢true flat)

  pub flat-values : (set : Setting) (rs : List Reading) (before : Names) (es : ExpTrees) → are_flat_as rs es ≡ true → (m : Level) (p : Place) → values_of set rs before es m p ≡ terms_value (written_terms es p.names p.state)
  flat-values set rs before no_exps flat m p = refl
  flat-values set rs before (exp e es) flat m p =
      let are : (is_flat_as (first_reading rs) e ≡ true) × (are_flat_as (later_readings rs) es ≡ true) = both (is_flat_as (first_reading rs) e) (are_flat_as (later_readings rs) es) flat in
      ap (λ t. then t (λ x. then (values_of set (later_readings rs) (behind before (places e)) es m (place_of x)) (λ all. one (with_front x all)))) (flat-value set (first_reading rs) before e are.0 m p)
      ∙ front-value (λ x. written_terms es x.names x.state) (λ x. values_of set (later_readings rs) (behind before (places e)) es m (place_of x))
      (λ x. flat-values set (later_readings rs) (behind before (places e)) es are.1 m (place_of x)) (written_term e p.names p.state)
