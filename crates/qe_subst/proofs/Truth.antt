-- The substituted formula is true where the formula is, and false where it is, at the place of the test point.
use Rattle.std.proofs.Common.{ℕ, ◌≡◌, ◌∙◌, ◌≤◌, ◌<◌, ◌⊎◌, ◌↔◌, inl, inr, refl, sym, ap, subst, Bool, true, false, cond, eqb, Option, None, Some, arith}
use Rattle.std.proofs.lemmas.Bool.{eqb-true}
use Rattle.std.proofs.lemmas.Bool.Decides.{nat_tests}
use Rattle.qe_ring.specs.Sign.{Sign}
use Rattle.qe_tower.specs.Number.{sign_of, ValidNumber}
use Rattle.qe_tower.specs.Point.{Point, IsPoint}
use Rattle.qe_line.specs.Place.{Place}
use Rattle.qe_line.specs.Place as line
use Rattle.qe_line.specs.Numbers.{numbers}
use Rattle.qe_line.proofs.Places.{here, then, both, some}
use Rattle.qe_line.proofs.SignAt.{zero_near}
use Rattle.qe_poly.specs.Polynomial.{Polynomial, IsPolynomial}
use Rattle.qe_poly.specs.Coefficients.{degree_in}
use Rattle.qe_form.specs.declared.form.Atom as atom
use Rattle.qe_form.specs.declared.signs.Signs.{Signs}
use Rattle.qe_form.specs.Signs.{IsProper, is_even}
use Rattle.qe_form.specs.Formula.{Formula, Formulas, True, False, Atom, And, Or, no_more, more}
use Rattle.qe_form.specs.Measures.{degree, degree_of_some}
use Rattle.qe_form.specs.Plain.{IsPlainAndProper, ArePlainWith}
use Rattle.qe_form.specs.Value.{value}
use Rattle.qe_form.specs.Truth.{has_sign, Is, EachIs, SomeIs}
use Rattle.qe_root.specs.declared.point.Point as code
use Rattle.qe_root.specs.declared.point.Point.TheVariants.{Root, RootPlus, MinusInf}
use Rattle.qe_root.specs.Holds.{StandsAt, OwnIsZero, StandsFor}
use Rattle.qe_root.specs.Atoms.{HasCanonicalAtoms, HaveCanonicalAtoms}
use Rattle.qe_subst.specs.Substituted.{everywhere, near, at_point, for_atom, substituted, substituted_each}
use Rattle.qe_subst.proofs.ProperSigns.{strict_proper}
use Rattle.qe_root.proofs.TestFormulas.{Reads, rereads, reads_atom}
use Rattle.qe_root.proofs.OnLine.{at_number, coefficient, sign_with}
use Rattle.qe_subst.proofs.OnLine.{HoldsThere, sign_at_place, sign_there, sign_stays}
use Rattle.qe_subst.proofs.AtRoot.{at_root_reads}
use Rattle.qe_subst.proofs.JustAbove.{near_reads}
use Rattle.qe_subst.proofs.FarBelow.{everywhere_reads, below_reads}

same_way : {A : Type 0} → A ↔ A
same_way = ((λ t. t), (λ t. t))

in_both : {A B C D : Type 0} → A ↔ B → C ↔ D → (A × C) ↔ (B × D)
in_both p q = ((λ t. (p.0 t.0, q.0 t.1)), (λ t. (p.1 t.0, q.1 t.1)))

in_either : {A B C D : Type 0} → A ↔ B → C ↔ D → (A ⊎ C) ↔ (B ⊎ D)
in_either p q = ((λ t. elim t [ inl a ↦ inl (p.0 a) | inr a ↦ inr (q.0 a) ]), (λ t. elim t [ inl a ↦ inl (p.1 a) | inr a ↦ inr (q.1 a) ]))

module _ (x : ℕ) (p : Point) (valid : IsPoint p) (own : Option Polynomial) where
  -- ---- at a test point

  zero_at : (own : Option Polynomial) (v : ValidNumber) → OwnIsZero x own p (line.above v) → OwnIsZero x own p (line.at v)
  zero_at None v zero = tt
  zero_at (Some f) v zero = zero

  module _ (f : Polynomial) (canonical : IsPolynomial f) (positive : 0 < degree_in x f) (low : degree_in x f ≤ 2) (s : Signs) (proper : IsProper s) where
    point_reads : (point : code.Point) (k : Place ValidNumber) → StandsAt point p k → OwnIsZero x own p k → Reads p (has_sign s (sign_at_place x p valid k f)) (at_point x point own f s)
    point_reads (Root r) (line.at v) stands zero = rereads p (has_sign s (sign_of (value f (at_number x p valid v)))) (has_sign s (sign_at_place x p valid (line.at v) f)) (at_point x (Root r) own f s)
        (ap (has_sign s) (sign_with x p valid f canonical low v)) (at_root_reads x p valid r v stands own zero f canonical low s proper)
    point_reads (Root r) (line.above v) stands zero = absurd stands
    point_reads (Root r) line.below stands zero = absurd stands
    point_reads (RootPlus r) (line.above v) stands zero =
        elim (is_even s) as (λ b. is_even s ≡ b → Reads p (has_sign s (sign_at_place x p valid (line.above v) f)) (cond b (everywhere x f s) (near x own r (degree_in x f) f s))) [
          | true ↦ λ even. everywhere_reads x p valid f (sign_at_place x p valid (line.above v) f) (zero_near numbers (coefficient x p valid 2 f) (coefficient x p valid 1 f) (coefficient x p valid 0 f) v) s proper even positive low
          | false ↦ λ uneven. near_reads x p valid v r stands own (zero_at own v zero) s (strict_proper s uneven) (degree_in x f) f canonical refl low
        ] refl
    point_reads (RootPlus r) (line.at v) stands zero = absurd stands
    point_reads (RootPlus r) line.below stands zero = absurd stands
    point_reads MinusInf line.below stands zero = below_reads x p valid f s proper positive low
    point_reads MinusInf (line.at v) stands zero = absurd stands
    point_reads MinusInf (line.above v) stands zero = absurd stands

  -- ---- a formula that stands for another at a place

  module _ (point : code.Point) (k : Place ValidNumber) (stands : StandsAt point p k) (zero : OwnIsZero x own p k) where
    abbrev Stands : Formula → Formula → Type 0
    Stands f g = HoldsThere x p valid k (λ u. (t : Bool) → Is f t (at_number x p valid u) ↔ Is g t p)

    abbrev StandEach : Formulas → Formulas → Type 0
    StandEach fs gs = HoldsThere x p valid k (λ u. (t : Bool) → (EachIs fs t (at_number x p valid u) ↔ EachIs gs t p) × (SomeIs fs t (at_number x p valid u) ↔ SomeIs gs t p))

    and_stands : (fs gs : Formulas) → StandEach fs gs → Stands (And fs) (And gs)
    and_stands fs gs h = then numbers h (λ u e t. elim t as (λ t. Is (And fs) t (at_number x p valid u) ↔ Is (And gs) t p) [ true ↦ (e true).0 | false ↦ (e false).1 ])

    or_stands : (fs gs : Formulas) → StandEach fs gs → Stands (Or fs) (Or gs)
    or_stands fs gs h = then numbers h (λ u e t. elim t as (λ t. Is (Or fs) t (at_number x p valid u) ↔ Is (Or gs) t p) [ true ↦ (e true).1 | false ↦ (e false).0 ])

    -- an atom whose sign at the place is known
    atom_stands : (a : atom.Atom) (s : Sign) (g : Formula) → HoldsThere x p valid k (λ u. sign_of (value a.poly (at_number x p valid u)) ≡ s) → Reads p (has_sign a.signs s) g → Stands (Atom a) g
    atom_stands a s g h r = then numbers h (λ u q t. ((λ m. (r t).1 (sym (ap (has_sign a.signs) q) ∙ m)), (λ m. ap (has_sign a.signs) q ∙ (r t).0 m)))

    for_atom_stands : (a : atom.Atom) → IsPolynomial a.poly → degree_in x a.poly ≤ 2 → IsProper a.signs → Stands (Atom a) (for_atom x point own a)
    for_atom_stands a canonical low proper =
        elim (eqb (degree_in x a.poly) 0) as (λ b. eqb (degree_in x a.poly) 0 ≡ b → Stands (Atom a) (cond b (Atom a) (at_point x point own a.poly a.signs))) [
          | true ↦ λ none. let free : degree_in x a.poly < 1 = (let d = eqb-true (degree_in x a.poly) 0 none in omega (arith, d)) in
              atom_stands a (sign_of (value a.poly p)) (Atom a) (here numbers k (λ u. sign_with x p valid a.poly canonical low u ∙ sign_stays x p valid a.poly canonical free u))
              (reads_atom p a.poly a.signs (sign_of (value a.poly p)) refl)
          | false ↦ λ some. atom_stands a (sign_at_place x p valid k a.poly) (at_point x point own a.poly a.signs) (sign_there x p valid a.poly canonical low k)
              (point_reads a.poly canonical (positive (degree_in x a.poly) some) low a.signs proper point k stands zero)
        ] refl
      where
        positive : (i : ℕ) → eqb i 0 ≡ false → 0 < i
        positive i some = grind (arith, nat_tests)

    mutual
      substituted_stands : (f : Formula) → degree x f ≤ 2 → IsPlainAndProper f → HasCanonicalAtoms f → Stands f (substituted x point own f)
      substituted_stands True low plain canonical = here numbers k (λ u t. same_way)
      substituted_stands False low plain canonical = here numbers k (λ u t. same_way)
      substituted_stands (Atom a) low plain canonical = for_atom_stands a canonical low plain
      substituted_stands (And fs) low plain canonical = and_stands fs (substituted_each x point own fs) (each_stands fs low plain canonical)
      substituted_stands (Or fs) low plain canonical = or_stands fs (substituted_each x point own fs) (each_stands fs low plain canonical)
      substituted_stands f low plain canonical = absurd plain

      each_stands : (fs : Formulas) → degree_of_some x fs ≤ 2 → ArePlainWith (λ a. IsProper a.signs) fs → HaveCanonicalAtoms fs → StandEach fs (substituted_each x point own fs)
      each_stands no_more low plain canonical = here numbers k (λ u t. (same_way, same_way))
      each_stands (more f fs) low plain canonical =
          then numbers (both numbers (substituted_stands f (omega arith) plain.0 canonical.0) (each_stands fs (omega arith) plain.1 canonical.1))
          (λ u e t. (in_both (e.0 t) (e.1 t).0, in_either (e.0 t) (e.1 t).1))

    -- what stands for a formula is true at the point where the formula is true at the place, and false where it is false there
    settled : (f g : Formula) → Stands f g → (b : Bool) → Is g b p ↔ HoldsThere x p valid k (λ u. Is f b (at_number x p valid u))
    settled f g h b = ((λ t. then numbers h (λ u e. (e b).1 t)), (λ t. let w = some numbers (both numbers h t) in (w.1.0 b).0 w.1.1))

-- the law, for the formula of the definition
pub substituted_means : (x : ℕ) (point : code.Point) (own : Option Polynomial) (f : Formula) → degree x f ≤ 2 → IsPlainAndProper f → HasCanonicalAtoms f → StandsFor x point own f (substituted x point own f)
substituted_means x point own f low plain canonical at valid k stands zero b =
    let s = settled x at valid own point k stands zero f (substituted x point own f) (substituted_stands x at valid own point k stands zero f low plain canonical) b in
    ((λ t. (s.0 t).is), (λ t. s.1 (record { is = t })))

-- for the formula of the code
pub made_means : (x : ℕ) (point : code.Point) (own : Option Polynomial) (f g : Formula) → degree x f ≤ 2 → IsPlainAndProper f → HasCanonicalAtoms f → g ≡ substituted x point own f → StandsFor x point own f g
made_means x point own f g low plain canonical made = subst (λ h. StandsFor x point own f h) (sym made) (substituted_means x point own f low plain canonical)
