-- Simplifying keeps atoms on small linear polynomials whose signs have zero.
use Rattle.std.proofs.Common.{ℕ, zero, suc, ◌/◌, ◌≡◌, ◌≢◌, ◌≤◌, refl, sym, ap, subst, ◌∙◌, ◌⊎◌, inl, inr, Bool, true, false, cond, eqb, ◌&&◌, ◌||◌, List, [], ◌∷◌, Option, Some, None, ℤ, pos, negsuc, neg_ℤ, unsigned_abs, arith}
use Rattle.std.specs.List.{list_any}
use Rattle.std.specs.Int.RustNames.{int_div}
use Rattle.std.specs.Ordering.{is_eq, int_eq}
use Rattle.std.proofs.Math.Nat.{div-le_self}
use Rattle.std.proofs.lemmas.Bool.Decides.{Decides-int_eq}
use Rattle.qe_ring.specs.Sign.{int_sign}
use Rattle.qe_poly.specs.Polynomial.{Polynomial, constant}
use Rattle.qe_poly.specs.Primitive.{primitive, divided, leads_negative, negated_if, content}
use Rattle.qe_poly.specs.Equal.{poly_eq}
use Rattle.qe_poly.proofs.Sorted as each
use Rattle.qe_form.specs.declared.signs.Signs.{Signs}
use Rattle.qe_form.specs.declared.form.Atom as atom
use Rattle.qe_form.specs.Signs.{bits, mirror}
use Rattle.qe_form.specs.Formula.{Formula, Formulas, True, False, Atom, And, Or, Not, Implies, Iff, Ex, All, no_more, more}
use Rattle.qe_form.specs.Tree.{trees_of}
use Rattle.qe_form.specs.Truth.{has_sign}
use Rattle.qe_form.specs.Order.{formula_cmp}
use Rattle.qe_form.specs.Plain.{IsPlainWith, ArePlainWith}
use Rattle.qe_form.specs.Making.{constant as truth}
use Rattle.qe_simp.specs.declared.connective.Connective.{Connective}
use Rattle.qe_simp.specs.declared.connective.Connective.TheVariants.{Conjunction, Disjunction}
use Rattle.qe_simp.specs.Simplified.{as_number, on_number, simplified_atom, deciding, under, joined_signs, listed, parts_in, as_one, decides, united, joint, simplified, simplified_each}
use Rattle.qe_simp.proofs.Atoms.{not_constant}
use Rattle.qe_simp.proofs.Parts.{Each, steps, steps-Each}
use Rattle.qe_simp.proofs.Primitive.{primitive_of}
use Rattle.qe_linear.proofs.Small.{IsLinear, IsSmall}
use Rattle.qe_linear.proofs.Products.{IsConstant, zero_is, number_is}

-- ---- atoms

-- as they stand in a node's formula
abbrev pub IsGood : ℕ → atom.Atom → Type 0
IsGood s a = IsSmall s a.poly × (a.signs.zero ≡ true)

-- as they stand in what is to be simplified: an atom on a number may have any signs
abbrev pub IsReady : ℕ → atom.Atom → Type 0
IsReady s a = IsSmall s a.poly × ((a.signs.zero ≡ true) ⊎ IsConstant s a.poly)

-- ---- the primitive polynomial

abs_of_pos : (n : ℕ) → unsigned_abs (neg_ℤ (pos n)) ≡ n
abs_of_pos zero = refl
abs_of_pos (suc n) = refl

quotient_small : (c d : ℤ) → unsigned_abs (int_div c d) ≤ unsigned_abs c
quotient_small (pos a) (pos b) = div-le_self a b
quotient_small (pos a) (negsuc b) = subst (λ n. n ≤ a) (sym (abs_of_pos (a / suc b))) (div-le_self a (suc b))
quotient_small (negsuc a) (pos b) = subst (λ n. n ≤ suc a) (sym (abs_of_pos (suc a / b))) (div-le_self (suc a) b)
quotient_small (negsuc a) (negsuc b) = div-le_self (suc a) (suc b)

divided_linear : (d : ℤ) (p : Polynomial) → each.Each (λ t. IsLinear t.0) p → each.Each (λ t. IsLinear t.0) (divided d p)
divided_linear d [] h = tt
divided_linear d (t ∷ ts) h = (h.0, divided_linear d ts h.1)

divided_small : (s : ℕ) (d : ℤ) (p : Polynomial) → each.Each (λ t. unsigned_abs t.1 ≤ s) p → each.Each (λ t. unsigned_abs t.1 ≤ s) (divided d p)
divided_small s d [] h = tt
divided_small s d (t ∷ ts) h = let less = quotient_small t.1 d in (omega (arith, less, h.0), divided_small s d ts h.1)

primitive_small : (s : ℕ) (p : Polynomial) → IsSmall s p → ((c : ℤ) → p ≢ constant c) → IsSmall s (primitive p)
primitive_small s p h none =
    let d = negated_if (leads_negative p) (content p) in
    record { canonical = (primitive_of p h.canonical none).canonical; linear = divided_linear d p h.linear; small = divided_small s d p h.small }

-- ---- an atom

number_constant : (s : ℕ) (p : Polynomial) → IsConstant s p → (c : ℤ) × (p ≡ constant c)
number_constant s [] zero_is = (pos 0, refl)
number_constant s (_ ∷ []) (number_is c some le) = (c, by (int_eq c (pos 0)) refl)
  where
    by : (b : Bool) → int_eq c (pos 0) ≡ b → ◌≡◌ {A = Polynomial} (([], c) ∷ []) (cond b [] (([], c) ∷ []))
    by true test = absurd (some ((Decides-int_eq c (pos 0)).0 test))
    by false test = refl
number_constant s (_ ∷ (_ ∷ _)) shape = elim shape [ ]

truth_good : (s : ℕ) (b : Bool) → IsPlainWith (IsGood s) (truth b)
truth_good s true = tt
truth_good s false = tt

turned_zero : (b : Bool) (signs : Signs) → signs.zero ≡ true → (cond b (mirror signs) signs).zero ≡ true
turned_zero true signs h = h
turned_zero false signs h = h

atom_good : (s : ℕ) (a : atom.Atom) → IsReady s a → IsPlainWith (IsGood s) (simplified_atom a)
atom_good s a h = by_tests (eqb (bits a.signs) 0) (eqb (bits a.signs) 7)
  where
    zero_in : as_number a.poly ≡ None → (a.signs.zero ≡ true) ⊎ IsConstant s a.poly → a.signs.zero ≡ true
    zero_in is (inl stands) = stands
    zero_in is (inr number) = let same = number_constant s a.poly number in absurd (not_constant a.poly is same.0 same.1)

    by_number : (o : Option ℤ) → as_number a.poly ≡ o → IsPlainWith (IsGood s) (on_number a o)
    by_number None is = (primitive_small s a.poly h.0 (not_constant a.poly is), turned_zero (leads_negative a.poly) a.signs (zero_in is h.1))
    by_number (Some c) is = truth_good s (has_sign a.signs (int_sign c))

    by_tests : (t u : Bool) → IsPlainWith (IsGood s) (cond t False (cond u True (on_number a (as_number a.poly))))
    by_tests true u = tt
    by_tests false true = tt
    by_tests false false = by_number (as_number a.poly) refl

-- ---- parts

joined_zero : (k : Connective) (p q : Signs) → p.zero ≡ true → q.zero ≡ true → (joined_signs k p q).zero ≡ true
joined_zero Conjunction p q left right = ap (λ b. b && q.zero) left ∙ right
joined_zero Disjunction p q left right = ap (λ b. b || q.zero) left

module _ (s : ℕ) where
  abbrev Good : Formula → Type 0
  Good = IsPlainWith (IsGood s)

  good_one : (k : Connective) (f g h : Formula) → as_one k f g ≡ Some h → Good f → Good g → Good h
  good_one k (Atom a) (Atom b) h is left right = by_test (poly_eq a.poly b.poly) is
    where
      by_test : (t : Bool) → cond t (Some (Atom (record { poly = a.poly; signs = joined_signs k a.signs b.signs }))) None ≡ Some h → Good h
      by_test true same =
          let made : h ≡ Atom (record { poly = a.poly; signs = joined_signs k a.signs b.signs }) = cc in
          subst Good (sym made) (left.0, joined_zero k a.signs b.signs left.1 right.1)
      by_test false none = absurd (cc)
  good_one k f g h is left right = subst Good (sym (by_test (is_eq (formula_cmp f g)) is)) left
    where
      by_test : (t : Bool) → cond t (Some f) None ≡ Some h → h ≡ f
      by_test true same = cc
      by_test false none = absurd (cc)

  good_listed : (fs : Formulas) → ArePlainWith (IsGood s) fs → Each Good (listed fs)
  good_listed no_more h = tt
  good_listed (more f fs) h = (h.0, good_listed fs h.1)

  good_trees : (fs : List Formula) → Each Good fs → ArePlainWith (IsGood s) (trees_of fs)
  good_trees [] h = tt
  good_trees (f ∷ fs) h = (h.0, good_trees fs h.1)

  good_in : (k : Connective) (f : Formula) → Good f → Each Good (parts_in k f)
  good_in Conjunction True h = tt
  good_in Conjunction (And fs) h = good_listed fs h
  good_in Disjunction False h = tt
  good_in Disjunction (Or fs) h = good_listed fs h
  good_in k f h = (h, tt)

  good_under : (k : Connective) (fs : List Formula) → Each Good fs → Good (under k fs)
  good_under Conjunction fs h = good_trees fs h
  good_under Disjunction fs h = good_trees fs h

  good_united : (k : Connective) (fs : List Formula) → Each Good fs → Good (united k fs)
  good_united Conjunction [] h = tt
  good_united Disjunction [] h = tt
  good_united k (f ∷ []) h = h.0
  good_united k (f ∷ g ∷ gs) h = good_under k (f ∷ g ∷ gs) h

  good_deciding : (k : Connective) → Good (deciding k)
  good_deciding Conjunction = tt
  good_deciding Disjunction = tt

  good_joint : (k : Connective) (fs : List Formula) → Each Good fs → Good (joint k fs)
  good_joint k fs h = elim (list_any (decides k) (steps k fs)) as (λ b. Good (cond b (deciding k) (united k (steps k fs)))) [
    | true ↦ good_deciding k
    | false ↦ good_united k (steps k fs) (steps-Each Good Good k (good_in k) (good_one k) fs h)
  ]

  mutual
    pub simplified_good : (f : Formula) → IsPlainWith (IsReady s) f → Good (simplified f)
    simplified_good True h = tt
    simplified_good False h = tt
    simplified_good (Atom a) h = atom_good s a h
    simplified_good (And fs) h = good_joint Conjunction (simplified_each fs) (each_good fs h)
    simplified_good (Or fs) h = good_joint Disjunction (simplified_each fs) (each_good fs h)
    simplified_good (Not f) h = absurd h
    simplified_good (Implies f g) h = absurd h
    simplified_good (Iff f g) h = absurd h
    simplified_good (Ex x f) h = absurd h
    simplified_good (All x f) h = absurd h

    each_good : (fs : Formulas) → ArePlainWith (IsReady s) fs → Each Good (simplified_each fs)
    each_good no_more h = tt
    each_good (more f fs) h = (simplified_good f h.0, each_good fs h.1)
