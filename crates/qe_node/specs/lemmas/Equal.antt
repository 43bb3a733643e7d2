-- Nodes that the test tells equal are equal: so they feed a hasher the same, and have the same key.
use Rattle.std.specs.Prelude.{◌≡◌, refl, ℕ, true, ◌↔◌, IsTrue, eqb, List, [], ◌∷◌}
use Rattle.std.proofs.Common.{ap, sym, ◌∙◌, subst}
use Rattle.std.proofs.lemmas.Bool.{eqb-true}
use Rattle.std.specs.Ordering.{is_eq}
use Rattle.std.specs.Cmp.{IsEquivalence, on_equiv, and_equiv, eq_by_cmp_equiv}
use Rattle.std.specs.declared.cmp.Ordering.{Ordering}
use Rattle.std.specs.declared.cmp.Ordering.TheVariants.{Less, Equal, Greater}
use Rattle.std.proofs.lemmas.Cmp.{lists_equiv, nat_eq_equiv}
use Rattle.qe_ring.proofs.Bools.{no_way, both_hold}
use Rattle.qe_form.specs.Order.{formula_cmp}
use Rattle.qe_form.specs.OrderLaws.{formula_total, formula_same}
use Rattle.qe_node.specs.Node.{Sight}
use Rattle.qe_node.specs.key.Code.{sight_key, sight_of}
use Rattle.qe_node.specs.key.Equal.{same_sight, sight_fed}
use Rattle.qe_node.specs.lemmas.Code.{sight-back}
use lib.Pointwise.{pointwise}

pub same_sight_equiv : IsEquivalence same_sight
same_sight_equiv =
    and_equiv (on_equiv (λ n. n.vars) (lists_equiv nat_eq_equiv)) (on_equiv (λ n. n.form) (eq_by_cmp_equiv formula_total))

same_numbers : (xs ys : List ℕ) → pointwise eqb xs ys ≡ true → xs ≡ ys
same_numbers [] [] holds = refl
same_numbers [] (y ∷ ys) holds = no_way holds
same_numbers (x ∷ xs) [] holds = no_way holds
same_numbers (x ∷ xs) (y ∷ ys) holds =
    let parts = both_hold (eqb x y) (pointwise eqb xs ys) holds in
    λ i. eqb-true x y parts.0 i ∷ same_numbers xs ys parts.1 i

tie : (r : Ordering) → is_eq r ≡ true → r ≡ Equal
tie Less holds = no_way holds
tie Equal holds = refl
tie Greater holds = no_way holds

same_tells : (m n : Sight) → same_sight m n ≡ true → m ≡ n
same_tells m n holds =
    let parts = both_hold (pointwise eqb m.vars n.vars) (is_eq (formula_cmp m.form n.form)) holds in
    λ i. record {
      vars = same_numbers m.vars n.vars parts.0 i;
      form = formula_same m.form n.form (tie (formula_cmp m.form n.form) parts.1) i;
    }

pub sight_fed_alike : (m n : Sight) → same_sight m n ≡ true → sight_fed m ≡ sight_fed n
sight_fed_alike m n holds = ap sight_fed (same_tells m n holds)

-- nodes are equal exactly where their keys are
pub same_is_key : (m n : Sight) → IsTrue (same_sight m n) ↔ (sight_key m ≡ sight_key n)
same_is_key m n = (
  λ holds. ap sight_key (same_tells m n holds),
  λ same. subst (λ k. same_sight m k ≡ true) (sym (sight-back m) ∙ ap sight_of same ∙ sight-back n) (same_sight_equiv.refl m),
)
