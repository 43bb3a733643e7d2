-- The atoms of a simplified formula are simple, and it is plain where the formula is.
use Rattle.std.proofs.Common.{◌≡◌, sym, refl, subst, Bool, true, false, cond, eqb, inl, inr, ℤ, List, [], ◌∷◌, Option, Some, None}
use Rattle.std.specs.List.{list_any}
use Rattle.qe_ring.specs.Sign.{int_sign}
use Rattle.qe_poly.specs.Polynomial.{Polynomial}
use Rattle.qe_form.specs.declared.form.Atom as atom
use Rattle.qe_form.specs.Signs.{bits, IsProper}
use Rattle.qe_form.specs.Formula.{Formula, Formulas, True, False, Atom, And, Or, Not, Implies, Iff, Ex, All, no_more, more}
use Rattle.qe_form.specs.Tree.{trees_of}
use Rattle.qe_form.specs.Truth.{has_sign}
use Rattle.qe_form.specs.Same.{HasNoQuantifier, HaveNoQuantifier}
use Rattle.qe_form.specs.Plain.{IsPlain, IsPlainWith, ArePlainWith, IsPlainAndProper}
use Rattle.qe_simp.specs.declared.connective.Connective.{Connective}
use Rattle.qe_simp.specs.declared.connective.Connective.TheVariants.{Conjunction, Disjunction}
use Rattle.qe_form.specs.Making.{constant as truth}
use Rattle.qe_simp.specs.Simplified.{as_number, on_number, simplified_atom, deciding, under, listed, parts_in, as_one, decides, united, joint, simplified, simplified_each}
use Rattle.qe_simp.specs.Shape.{IsPrimitive, IsSimple, IsSimplified, EachAtom, EachAtomOf, IsCanonicalAtom}
use Rattle.qe_simp.proofs.Atoms.{not_constant}
use Rattle.qe_simp.proofs.Parts.{Each, steps, steps-Each}
use Rattle.qe_simp.proofs.Sizes.{one_is}
use Rattle.qe_simp.proofs.Primitive.{primitive_of}
use Rattle.qe_simp.proofs.Stable.{Stable, StableParts, simplified_stable, unchanged}

-- ---- facts that joining keeps

module _ (Q : Formula → Type 0) (constants : (b : Bool) → Q (truth b)) (own : (k : Connective) (f : Formula) → Q f → Each Q (parts_in k f)) (one : (k : Connective) (f g h : Formula) → as_one k f g ≡ Some h → Q f → Q g → Q h)
    (whole : (k : Connective) (fs : List Formula) → Each Q fs → Q (under k fs)) where
  closed_keeps : (k : Connective) (fs : List Formula) → Each Q fs → Q (united k fs)
  closed_keeps Conjunction [] each = constants true
  closed_keeps Disjunction [] each = constants false
  closed_keeps k (f ∷ []) each = each.0
  closed_keeps k (f ∷ g ∷ gs) each = whole k (f ∷ g ∷ gs) each

  deciding_keeps : (k : Connective) → Q (deciding k)
  deciding_keeps Conjunction = constants false
  deciding_keeps Disjunction = constants true

  joint_keeps : (k : Connective) (fs : List Formula) → Each Q fs → Q (joint k fs)
  joint_keeps k fs each = elim (list_any (decides k) (steps k fs)) as (λ b. Q (cond b (deciding k) (united k (steps k fs)))) [
    | true ↦ deciding_keeps k
    | false ↦ closed_keeps k (steps k fs) (steps-Each Q Q k (own k) (one k) fs each)
  ]

-- ---- the atoms, by their polynomials

module _ (R : Polynomial → Type 0) where
  abbrev Has : Formula → Type 0
  Has = EachAtom (λ a. R a.poly)

  atoms_listed : (fs : Formulas) → EachAtomOf (λ a. R a.poly) fs → Each Has (listed fs)
  atoms_listed no_more h = tt
  atoms_listed (more f fs) h = (h.0, atoms_listed fs h.1)

  atoms_trees : (fs : List Formula) → Each Has fs → EachAtomOf (λ a. R a.poly) (trees_of fs)
  atoms_trees [] h = tt
  atoms_trees (f ∷ fs) h = (h.0, atoms_trees fs h.1)

  atoms_in : (k : Connective) (f : Formula) → Has f → Each Has (parts_in k f)
  atoms_in Conjunction True h = tt
  atoms_in Conjunction (And fs) h = atoms_listed fs h
  atoms_in Disjunction False h = tt
  atoms_in Disjunction (Or fs) h = atoms_listed fs h
  atoms_in k f h = (h, tt)

  atoms_one : (k : Connective) (f g h : Formula) → as_one k f g ≡ Some h → Has f → Has g → Has h
  atoms_one k f g h is first second = elim (one_is k f g h is) [
    | inl same ↦ subst Has (sym same) first
    | inr atoms ↦ subst Has (sym atoms.3) (subst Has atoms.2 first)
  ]

  atoms_constant : (b : Bool) → Has (truth b)
  atoms_constant true = tt
  atoms_constant false = tt

  atoms_connected : (k : Connective) (fs : List Formula) → Each Has fs → Has (under k fs)
  atoms_connected Conjunction fs h = atoms_trees fs h
  atoms_connected Disjunction fs h = atoms_trees fs h

  atoms_joint : (k : Connective) (fs : List Formula) → Each Has fs → Has (joint k fs)
  atoms_joint = joint_keeps Has atoms_constant atoms_in atoms_one atoms_connected

primitive_atoms : (a : atom.Atom) → IsCanonicalAtom a → EachAtom (λ b. IsPrimitive b.poly) (simplified_atom a)
primitive_atoms a canonical = by_tests (eqb (bits a.signs) 0) (eqb (bits a.signs) 7)
  where
    by_number : (o : Option ℤ) → as_number a.poly ≡ o → EachAtom (λ b. IsPrimitive b.poly) (on_number a o)
    by_number None is = primitive_of a.poly canonical (not_constant a.poly is)
    by_number (Some c) is = atoms_constant IsPrimitive (has_sign a.signs (int_sign c))

    by_tests : (s t : Bool) → EachAtom (λ b. IsPrimitive b.poly) (cond s False (cond t True (on_number a (as_number a.poly))))
    by_tests true t = tt
    by_tests false true = tt
    by_tests false false = by_number (as_number a.poly) refl

mutual
  pub simplified_primitive : (f : Formula) → EachAtom IsCanonicalAtom f → EachAtom (λ a. IsPrimitive a.poly) (simplified f)
  simplified_primitive True atoms = tt
  simplified_primitive False atoms = tt
  simplified_primitive (Atom a) atoms = primitive_atoms a atoms
  simplified_primitive (And fs) atoms = atoms_joint IsPrimitive Conjunction (simplified_each fs) (each_primitive fs atoms)
  simplified_primitive (Or fs) atoms = atoms_joint IsPrimitive Disjunction (simplified_each fs) (each_primitive fs atoms)
  simplified_primitive (Not f) atoms = tt
  simplified_primitive (Implies f g) atoms = tt
  simplified_primitive (Iff f g) atoms = tt
  simplified_primitive (Ex x f) atoms = tt
  simplified_primitive (All x f) atoms = tt

  each_primitive : (fs : Formulas) → EachAtomOf IsCanonicalAtom fs → Each (EachAtom (λ a. IsPrimitive a.poly)) (simplified_each fs)
  each_primitive no_more atoms = tt
  each_primitive (more f fs) atoms = (simplified_primitive f atoms.0, each_primitive fs atoms.1)

-- ---- plain formulas

plain_listed : (fs : Formulas) → ArePlainWith (λ a. Unit {0}) fs → Each IsPlain (listed fs)
plain_listed no_more h = tt
plain_listed (more f fs) h = (h.0, plain_listed fs h.1)

plain_trees : (fs : List Formula) → Each IsPlain fs → ArePlainWith (λ a. Unit {0}) (trees_of fs)
plain_trees [] h = tt
plain_trees (f ∷ fs) h = (h.0, plain_trees fs h.1)

plain_in : (k : Connective) (f : Formula) → IsPlain f → Each IsPlain (parts_in k f)
plain_in Conjunction True h = tt
plain_in Conjunction (And fs) h = plain_listed fs h
plain_in Disjunction False h = tt
plain_in Disjunction (Or fs) h = plain_listed fs h
plain_in k f h = (h, tt)

plain_one : (k : Connective) (f g h : Formula) → as_one k f g ≡ Some h → IsPlain f → IsPlain g → IsPlain h
plain_one k f g h is first second = elim (one_is k f g h is) [ inl same ↦ subst IsPlain (sym same) first | inr atoms ↦ subst IsPlain (sym atoms.3) tt ]

plain_constant : (b : Bool) → IsPlain (truth b)
plain_constant true = tt
plain_constant false = tt

plain_connected : (k : Connective) (fs : List Formula) → Each IsPlain fs → IsPlain (under k fs)
plain_connected Conjunction fs h = plain_trees fs h
plain_connected Disjunction fs h = plain_trees fs h

plain_joint : (k : Connective) (fs : List Formula) → Each IsPlain fs → IsPlain (joint k fs)
plain_joint = joint_keeps IsPlain plain_constant plain_in plain_one plain_connected

plain_atom : (a : atom.Atom) → IsPlain (simplified_atom a)
plain_atom a = by_tests (eqb (bits a.signs) 0) (eqb (bits a.signs) 7)
  where
    by_number : (o : Option ℤ) → IsPlain (on_number a o)
    by_number None = tt
    by_number (Some c) = plain_constant (has_sign a.signs (int_sign c))

    by_tests : (s t : Bool) → IsPlain (cond s False (cond t True (on_number a (as_number a.poly))))
    by_tests true t = tt
    by_tests false true = tt
    by_tests false false = by_number (as_number a.poly)

mutual
  pub simplified_plain : (f : Formula) → IsPlain f → IsPlain (simplified f)
  simplified_plain True h = tt
  simplified_plain False h = tt
  simplified_plain (Atom a) h = plain_atom a
  simplified_plain (And fs) h = plain_joint Conjunction (simplified_each fs) (each_plain fs h)
  simplified_plain (Or fs) h = plain_joint Disjunction (simplified_each fs) (each_plain fs h)
  simplified_plain (Not f) h = absurd h
  simplified_plain (Implies f g) h = absurd h
  simplified_plain (Iff f g) h = absurd h
  simplified_plain (Ex x f) h = absurd h
  simplified_plain (All x f) h = absurd h

  each_plain : (fs : Formulas) → ArePlainWith (λ a. Unit {0}) fs → Each IsPlain (simplified_each fs)
  each_plain no_more h = tt
  each_plain (more f fs) h = (simplified_plain f h.0, each_plain fs h.1)

module _ (P Q : atom.Atom → Type 0) (weaker : (a : atom.Atom) → P a → Q a) where
  mutual
    pub plain_weaker : (f : Formula) → IsPlainWith P f → IsPlainWith Q f
    plain_weaker True h = tt
    plain_weaker False h = tt
    plain_weaker (Atom a) h = weaker a h
    plain_weaker (And fs) h = each_weaker fs h
    plain_weaker (Or fs) h = each_weaker fs h
    plain_weaker f h = absurd h

    each_weaker : (fs : Formulas) → ArePlainWith P fs → ArePlainWith Q fs
    each_weaker no_more h = tt
    each_weaker (more f fs) h = (plain_weaker f h.0, each_weaker fs h.1)

module _ (P : atom.Atom → Type 0) where
  mutual
    pub plain_atoms : (f : Formula) → IsPlainWith P f → EachAtom P f
    plain_atoms (Atom a) h = h
    plain_atoms (And fs) h = plain_atoms_each fs h
    plain_atoms (Or fs) h = plain_atoms_each fs h
    plain_atoms f h = tt

    plain_atoms_each : (fs : Formulas) → ArePlainWith P fs → EachAtomOf P fs
    plain_atoms_each no_more h = tt
    plain_atoms_each (more f fs) h = (plain_atoms f h.0, plain_atoms_each fs h.1)

-- a plain formula has no quantifier
mutual
  pub plain_no_quantifier : (f : Formula) → IsPlain f → HasNoQuantifier f
  plain_no_quantifier (And fs) h = plain_no_quantifiers fs h
  plain_no_quantifier (Or fs) h = plain_no_quantifiers fs h
  plain_no_quantifier (Not f) h = absurd h
  plain_no_quantifier (Implies f g) h = absurd h
  plain_no_quantifier (Iff f g) h = absurd h
  plain_no_quantifier (Ex x f) h = absurd h
  plain_no_quantifier (All x f) h = absurd h
  plain_no_quantifier f h = tt

  plain_no_quantifiers : (fs : Formulas) → ArePlainWith (λ a. Unit {0}) fs → HaveNoQuantifier fs
  plain_no_quantifiers no_more h = tt
  plain_no_quantifiers (more f fs) h = (plain_no_quantifier f h.0, plain_no_quantifiers fs h.1)

-- ---- simplified formulas

-- a plain, stable formula on primitive polynomials has simple atoms
mutual
  simple_atoms : (f : Formula) → IsPlain f → Stable f → EachAtom (λ a. IsPrimitive a.poly) f → IsPlainWith IsSimple f
  simple_atoms True plain stable atoms = tt
  simple_atoms False plain stable atoms = tt
  simple_atoms (Atom a) plain stable atoms = record { primitive = atoms; proper = stable }
  simple_atoms (And fs) plain stable atoms = simple_atoms_each Conjunction fs plain stable.0 atoms
  simple_atoms (Or fs) plain stable atoms = simple_atoms_each Disjunction fs plain stable.0 atoms
  simple_atoms f plain stable atoms = absurd plain

  simple_atoms_each : (k : Connective) (fs : Formulas) → ArePlainWith (λ a. Unit {0}) fs → StableParts k fs → EachAtomOf (λ a. IsPrimitive a.poly) fs → ArePlainWith IsSimple fs
  simple_atoms_each k no_more plain parts atoms = tt
  simple_atoms_each k (more f fs) plain parts atoms = (simple_atoms f plain.0 parts.1 atoms.0, simple_atoms_each k fs plain.1 parts.2 atoms.1)

-- simplifying twice is simplifying once
pub simplified_twice : (f : Formula) → EachAtom IsCanonicalAtom f → simplified (simplified f) ≡ simplified f
simplified_twice f canonical = unchanged (simplified f) (simplified_stable f) (simplified_primitive f canonical)

pub simplified_is : (f : Formula) → IsPlain f → EachAtom IsCanonicalAtom f → IsSimplified (simplified f)
simplified_is f plain canonical = record {
  simple = simple_atoms (simplified f) (simplified_plain f plain) (simplified_stable f) (simplified_primitive f canonical);
  unchanged = simplified_twice f canonical;
}

pub simplified_is_plain : (f : Formula) → IsSimplified f → IsPlain f
simplified_is_plain f known = plain_weaker IsSimple (λ a. Unit {0}) (λ a h. tt) f known.simple

pub simplified_is_proper : (f : Formula) → IsSimplified f → IsPlainAndProper f
simplified_is_proper f known = plain_weaker IsSimple (λ a. IsProper a.signs) (λ a h. h.proper) f known.simple

pub simplified_no_quantifier : (f : Formula) → IsSimplified f → HasNoQuantifier f
simplified_no_quantifier f known = plain_no_quantifier f (simplified_is_plain f known)
