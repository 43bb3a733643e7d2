-- The derivation of a formula's text stands for the formula, binds its names in their order, and has its free names.
use Rattle.std.proofs.Common.{ℕ, suc, ◌+◌, ◌≡◌, ◌<◌, refl, sym, ap, subst, ◌∙◌, Bool, false, List, [], ◌∷◌, ◌++◌, append-nil, map, length, length-append, Ok, arith}
use Rattle.std.specs.Prelude.{codes}
use Rattle.std.proofs.lemmas.List.{map-append, length-map}
use Rattle.qe_token.specs.declared.token.Name.{Name}
use Rattle.qe_token.specs.declared.token.Relation.{Relation}
use Rattle.qe_token.specs.declared.token.Relation.TheVariants as relation
use Rattle.qe_poly.specs.Polynomial.{Polynomial}
use Rattle.qe_form.specs.declared.form.Atom as atom
use Rattle.qe_form.specs.declared.signs.Signs.{Signs}
use Rattle.qe_form.specs.Fed.{size}
use Rattle.qe_form.specs.Signs.{bits}
use Rattle.qe_form.specs.Formula.{Formula, Formulas, True, False, Atom, And, Or, Not, Implies, Iff, Ex, All, no_more, more}
use Rattle.qe_print.specs.Polynomial.{name_of, polynomial_text}
use Rattle.qe_print.specs.Formula.{relation_to_zero, atom_text, bracketed, part, formula_text, parts_text}
use Rattle.qe_syntax.specs.Tree as tree
use Rattle.qe_syntax.specs.Tree.{FormulaTree, FormulaTrees}
use Rattle.qe_syntax.specs.Grammar.{term_tree, atom_tree, formula_tree, ands_trees, ors_trees, unary_tree, conjoined, disjoined}
use Rattle.qe_read.specs.declared.scope.Binder.{Binder}
use Rattle.qe_read.specs.Names.{Letters, letters, or_free, variable}
use Rattle.qe_read.specs.FreeNames.{free_in, free_names, free_names_each}
use Rattle.qe_read.specs.Numbered.{binders, binders_each}
use Rattle.qe_read.specs.Value.{proceed, at, subtracted}
use Rattle.qe_read.specs.Formula.{relation_signs, bound_names, names_bound_in, binder, pair_value, formula, formulas}
use Rattle.qe_read.proofs.Variables.{Have}
use Rattle.qe_read.proofs.Numbers.{names_of, names_of-push}
use Rattle.qe_roundtrip.proofs.Derived.{name_at, poly_at, relation_of, atom_at, part_at, formula_at, ands_at, ors_at}
use Rattle.qe_roundtrip.proofs.Legible.{IsStored, Scope, found, IsKnown, IsAtom, IsLegible, AreLegible}
use Rattle.qe_roundtrip.proofs.Stored.{more_taken}
use Rattle.qe_roundtrip.proofs.Sites.{At, at_front, at_behind, letters_here}
use Rattle.qe_roundtrip.proofs.PolynomialValue.{poly_value}
use Rattle.qe_roundtrip.proofs.PolynomialNames.{in_polynomial}
use Rattle.qe_roundtrip.proofs.Loose.{outside, loose, loose_each, scope_of, variable_in, scope_of-push, free_in-is}
use Rattle.qe_roundtrip.proofs.FormulaTokens.{is_more, related}

relation_back : (r : Relation) → relation_signs (relation_of (bits (relation_signs r))) ≡ relation_signs r
relation_back relation.Equal = refl
relation_back relation.NotEqual = refl
relation_back relation.Less = refl
relation_back relation.LessOrEqual = refl
relation_back relation.Greater = refl
relation_back relation.GreaterOrEqual = refl

module _ (names free : List Letters) (whole : List ℕ) where
  -- What the tree is worth inside of these binders, and which names it binds and leaves free.
  pub record Stands (bs : List Binder) (bound : List Name) (f : Formula) (t : FormulaTree) : Type 0 where
    pub is : formula whole free bs bound t ≡ Ok f
    pub bound_are : map (letters whole) (bound_names t) ≡ map (name_of names) (binders f)
    pub free_are : map (letters whole) (free_names whole (names_of bs) t) ≡ loose names (map (letters whole) (names_of bs)) f

  record StandEach (bs : List Binder) (bound : List Name) (fs : Formulas) (ts : FormulaTrees) : Type 0 where
    is : formulas whole free bs bound ts ≡ Ok fs
    bound_are : map (letters whole) (names_bound_in ts) ≡ map (name_of names) (binders_each fs)
    free_are : map (letters whole) (free_names_each whole (names_of bs) ts) ≡ loose_each names (map (letters whole) (names_of bs)) fs

  module _ (bs : List Binder) (bound : List Name) where
    stands_not : (f : Formula) (t : FormulaTree) → Stands bs bound f t → Stands bs bound (Not f) (tree.Not t)
    stands_not f t h = record { is = ap (λ v. proceed v (λ g. Ok (Not g))) h.is; bound_are = h.bound_are; free_are = h.free_are }

    stands_and : (fs : Formulas) (ts : FormulaTrees) → StandEach bs bound fs ts → Stands bs bound (And fs) (tree.And ts)
    stands_and fs ts h = record { is = ap (λ v. proceed v (λ gs. Ok (And gs))) h.is; bound_are = h.bound_are; free_are = h.free_are }

    stands_or : (fs : Formulas) (ts : FormulaTrees) → StandEach bs bound fs ts → Stands bs bound (Or fs) (tree.Or ts)
    stands_or fs ts h = record { is = ap (λ v. proceed v (λ gs. Ok (Or gs))) h.is; bound_are = h.bound_are; free_are = h.free_are }

    joined : (xs ys : List Name) (vs ws : List Letters) → map (letters whole) xs ≡ vs → map (letters whole) ys ≡ ws → map (letters whole) (xs ++ ys) ≡ vs ++ ws
    joined xs ys vs ws h k = map-append (letters whole) xs ys ∙ (λ i. h i ++ k i)

    bound_both : (xs ys : List Name) (ks ls : List ℕ) → map (letters whole) xs ≡ map (name_of names) ks → map (letters whole) ys ≡ map (name_of names) ls → map (letters whole) (xs ++ ys) ≡ map (name_of names) (ks ++ ls)
    bound_both xs ys ks ls h k = joined xs ys (map (name_of names) ks) (map (name_of names) ls) h k ∙ sym (map-append (name_of names) ks ls)

    stands_implies : (f g : Formula) (t u : FormulaTree) → Stands bs bound f t → Stands bs (bound ++ bound_names t) g u → Stands bs bound (Implies f g) (tree.Implies t u)
    stands_implies f g t u h k = record {
      is = (λ i. pair_value Implies (h.is i) (k.is i));
      bound_are = bound_both (bound_names t) (bound_names u) (binders f) (binders g) h.bound_are k.bound_are;
      free_are = joined (free_names whole (names_of bs) t) (free_names whole (names_of bs) u) _ _ h.free_are k.free_are;
    }

    stands_iff : (f g : Formula) (t u : FormulaTree) → Stands bs bound f t → Stands bs (bound ++ bound_names t) g u → Stands bs bound (Iff f g) (tree.Iff t u)
    stands_iff f g t u h k = record {
      is = (λ i. pair_value Iff (h.is i) (k.is i));
      bound_are = bound_both (bound_names t) (bound_names u) (binders f) (binders g) h.bound_are k.bound_are;
      free_are = joined (free_names whole (names_of bs) t) (free_names whole (names_of bs) u) _ _ h.free_are k.free_are;
    }

    stand_more : (f : Formula) (fs : Formulas) (t : FormulaTree) (ts : FormulaTrees) → Stands bs bound f t → StandEach bs (bound ++ bound_names t) fs ts → StandEach bs bound (more f fs) (tree.more t ts)
    stand_more f fs t ts h k = record {
      is = (λ i. proceed (h.is i) (λ g. proceed (k.is i) (λ gs. Ok (more g gs))));
      bound_are = bound_both (bound_names t) (names_bound_in ts) (binders f) (binders_each fs) h.bound_are k.bound_are;
      free_are = joined (free_names whole (names_of bs) t) (free_names_each whole (names_of bs) ts) _ _ h.free_are k.free_are;
    }

    -- inside of a binder
    around_one : (x : ℕ) (nm : Name) → letters whole nm ≡ name_of names x → map (letters whole) (names_of (bs ++ binder free bound nm ∷ [])) ≡ map (letters whole) (names_of bs) ++ name_of names x ∷ []
    around_one x nm e =
        ap (map (letters whole)) (names_of-push bs (binder free bound nm)) ∙ map-append (letters whole) (names_of bs) (nm ∷ []) ∙ ap (λ w. map (letters whole) (names_of bs) ++ w ∷ []) e

    free_inside : (x : ℕ) (nm : Name) (f : Formula) (t : FormulaTree) → letters whole nm ≡ name_of names x → Stands (bs ++ binder free bound nm ∷ []) (bound ++ nm ∷ []) f t
        → map (letters whole) (free_names whole (names_of bs ++ nm ∷ []) t) ≡ loose names (map (letters whole) (names_of bs) ++ name_of names x ∷ []) f
    free_inside x nm f t e h =
        ap (λ ns. map (letters whole) (free_names whole ns t)) (sym (names_of-push bs (binder free bound nm))) ∙ h.free_are ∙ ap (λ ws. loose names ws f) (around_one x nm e)

    stands_ex : (x : ℕ) (nm : Name) (f : Formula) (t : FormulaTree) → x ≡ length free + length bound → letters whole nm ≡ name_of names x → Stands (bs ++ binder free bound nm ∷ []) (bound ++ nm ∷ []) f t
        → Stands bs bound (Ex x f) (tree.Ex nm t)
    stands_ex x nm f t n e h = record {
      is = ap (λ v. proceed v (λ g. Ok (Ex (length free + length bound) g))) h.is ∙ ap (λ k. Ok (Ex k f)) (sym n);
      bound_are = (λ i. e i ∷ h.bound_are i);
      free_are = free_inside x nm f t e h;
    }

    stands_all : (x : ℕ) (nm : Name) (f : Formula) (t : FormulaTree) → x ≡ length free + length bound → letters whole nm ≡ name_of names x → Stands (bs ++ binder free bound nm ∷ []) (bound ++ nm ∷ []) f t
        → Stands bs bound (All x f) (tree.All nm t)
    stands_all x nm f t n e h = record {
      is = ap (λ v. proceed v (λ g. Ok (All (length free + length bound) g))) h.is ∙ ap (λ k. Ok (All k f)) (sym n);
      bound_are = (λ i. e i ∷ h.bound_are i);
      free_are = free_inside x nm f t e h;
    }

    -- ---- atoms

    module _ (scope : Scope) (scoped : scope_of whole bs ≡ scope) where
      finds : (place x : ℕ) → IsKnown names free scope x → At whole place (name_of names x) → variable whole free bs (name_at names place x) ≡ record { 0 = x }
      finds place x h s =
          variable_in whole free bs (name_at names place x)
          ∙ (λ i. or_free free (letters_here whole place (name_of names x) s i) (found (scoped i) (letters_here whole place (name_of names x) s i)))
          ∙ ap (λ (k : ℕ). record { 0 = k }) h.is

      no_right : (p : ℕ) (d : Polynomial) → IsStored d → subtracted p d [] ≡ Ok d
      no_right p d h =
          let r = more_taken d [] (subst (λ q. IsStored q) (sym (append-nil d)) h) in
          (λ i. at p (r.0 i) (r.1 i)) ∙ ap Ok (append-nil d)

      stands_atom_by : (place : ℕ) (r : Relation) (p : Polynomial) → IsStored p → Have (IsKnown names free scope) p → At whole place (atom_text names (record { poly = p; signs = relation_signs r }))
          → Stands bs bound (Atom (record { poly = p; signs = relation_signs r })) (atom_tree (atom_at names place (record { poly = p; signs = relation_signs r })))
      stands_atom_by place r p h k s =
          let here : At whole place (polynomial_text names p) = at_front whole place (polynomial_text names p) (relation_to_zero (bits (relation_signs r))) (subst (λ text. At whole place text) (related names free r p) s) in
          let after = place + length (polynomial_text names p) + 1 in
          let left = term_tree (poly_at names place p) in
          record {
            is = ap (λ v. proceed v (λ a. proceed (subtracted after a []) (λ d. Ok (Atom (record { poly = d; signs = relation_signs (relation_of (bits (relation_signs r))) })))))
                (poly_value names whole (variable whole free bs) (IsKnown names free scope) finds place p h k here)
                ∙ ap (λ v. proceed v (λ d. Ok (Atom (record { poly = d; signs = relation_signs (relation_of (bits (relation_signs r))) })))) (no_right after p h)
                ∙ ap (λ (z : Signs). Ok (Atom (record { poly = p; signs = z }))) (relation_back r);
            bound_are = refl;
            free_are = ap (map (letters whole)) (append-nil (free_in whole (names_of bs) left)) ∙ free_in-is whole (names_of bs) left ∙ ap (outside (map (letters whole) (names_of bs))) (in_polynomial names whole place p here);
          }

      stands_atom : (place : ℕ) (a : atom.Atom) → IsAtom names free scope a → At whole place (atom_text names a) → Stands bs bound (Atom a) (atom_tree (atom_at names place a))
      stands_atom place a h =
          subst (λ (z : Signs). At whole place (atom_text names (record { poly = a.poly; signs = z })) → Stands bs bound (Atom (record { poly = a.poly; signs = z })) (atom_tree (atom_at names place (record { poly = a.poly; signs = z }))))
          (sym h.signs) (stands_atom_by place h.relation a.poly h.stored h.known)

  -- ---- parts

  abbrev Standing : List Binder → List Name → Formula → Type 0
  Standing bs bound f = (place : ℕ) → At whole place (formula_text names f) → Stands bs bound f (formula_tree (formula_at names place f))

  in_brackets : (bs : List Binder) (bound : List Name) (f : Formula) → Standing bs bound f → (place : ℕ) → At whole place (codes "[" ++ formula_text names f ++ codes "]") → Stands bs bound f (formula_tree (formula_at names (place + 1) f))
  in_brackets bs bound f h place s = h (place + 1) (at_behind whole place (codes "[") (formula_text names f) (at_front whole place (codes "[" ++ formula_text names f) (codes "]") s))

  part_stands : (f : Formula) (bs : List Binder) (bound : List Name) → Standing bs bound f → (place : ℕ) → At whole place (bracketed f (formula_text names f)) → Stands bs bound f (unary_tree (part_at names place f (formula_at names (place + 1) f)))
  part_stands True bs bound h place s = h place s
  part_stands False bs bound h place s = h place s
  part_stands (Atom a) bs bound h place s = h place s
  part_stands (And fs) bs bound h place s = in_brackets bs bound (And fs) h place s
  part_stands (Or fs) bs bound h place s = in_brackets bs bound (Or fs) h place s
  part_stands (Not f) bs bound h place s = in_brackets bs bound (Not f) h place s
  part_stands (Implies f g) bs bound h place s = in_brackets bs bound (Implies f g) h place s
  part_stands (Iff f g) bs bound h place s = in_brackets bs bound (Iff f g) h place s
  part_stands (Ex x f) bs bound h place s = in_brackets bs bound (Ex x f) h place s
  part_stands (All x f) bs bound h place s = in_brackets bs bound (All x f) h place s

  ands_more : (place : ℕ) (u : FormulaTree) (f : Formula) (fs : Formulas) → 1 < size (more f fs) → tree.And (tree.more u (ands_trees (ands_at names place fs))) ≡ conjoined u (ands_trees (ands_at names place fs))
  ands_more place u f no_more h = absurd (omega arith)
  ands_more place u f (more g gs) h = refl

  ors_more : (place : ℕ) (u : FormulaTree) (f : Formula) (fs : Formulas) → 1 < size (more f fs) → tree.Or (tree.more u (ors_trees (ors_at names place fs))) ≡ disjoined u (ors_trees (ors_at names place fs))
  ors_more place u f no_more h = absurd (omega arith)
  ors_more place u f (more g gs) h = refl

  -- the number that follows after a first part
  numbered_on : (n : ℕ) (bs : List Binder) (bound : List Name) (f : Formula) (t : FormulaTree) → n ≡ length free + length bound → Stands bs bound f t → n + length (binders f) ≡ length free + length (bound ++ bound_names t)
  numbered_on n bs bound f t e h =
      omega (arith, e, length-append bound (bound_names t), ap length h.bound_are, length-map (bound_names t) (letters whole), length-map (binders f) (name_of names))

  numbered_in : (n : ℕ) (bound : List Name) (nm : Name) → n ≡ length free + length bound → suc n ≡ length free + length (bound ++ nm ∷ [])
  numbered_in n bound nm e = omega (arith, e, length-append bound (nm ∷ []))

  -- the scope inside of a binder
  scoped_in : (n : ℕ) (bs : List Binder) (bound : List Name) (scope : Scope) (x : ℕ) (nm : Name) → scope_of whole bs ≡ scope → x ≡ n → n ≡ length free + length bound → letters whole nm ≡ name_of names x
      → scope_of whole (bs ++ binder free bound nm ∷ []) ≡ scope ++ (name_of names x, record { 0 = x }) ∷ []
  scoped_in n bs bound scope x nm h k e l =
      let number : length free + length bound ≡ x = sym e ∙ sym k in
      scope_of-push whole bs (binder free bound nm) ∙ (λ i. h i ++ (l i, record { 0 = number i }) ∷ [])

  mutual
    pub stands : (f : Formula) (n : ℕ) (scope : Scope) → IsLegible names free n scope f → (bs : List Binder) (bound : List Name) → scope_of whole bs ≡ scope → n ≡ length free + length bound
        → (place : ℕ) → At whole place (formula_text names f) → Stands bs bound f (formula_tree (formula_at names place f))
    stands True n scope h bs bound c e place s = record { is = refl; bound_are = refl; free_are = refl }
    stands False n scope h bs bound c e place s = record { is = refl; bound_are = refl; free_are = refl }
    stands (Atom a) n scope h bs bound c e place s = stands_atom bs bound scope c place a h s
    stands (And no_more) n scope h bs bound c e place s = absurd (omega (arith, h.0))
    stands (And (more f fs)) n scope h bs bound c e place s =
        let s' : At whole place (bracketed f (formula_text names f) ++ parts_text names (codes " and ") false false fs) =
        subst (λ (alone : Bool). At whole place (part alone f (formula_text names f) ++ parts_text names (codes " and ") false alone fs)) (is_more names free f fs h.0) s in
        let one = part_stands f bs bound (stands f n scope h.1.0 bs bound c e) place (at_front whole place (bracketed f (formula_text names f)) (parts_text names (codes " and ") false false fs) s') in
        let t = unary_tree (part_at names place f (formula_at names (place + 1) f)) in
        let behind = place + length (bracketed f (formula_text names f)) in
        let rest = ands_stand fs (n + length (binders f)) scope h.1.1 bs (bound ++ bound_names t) c (numbered_on n bs bound f t e one) behind (at_behind whole place (bracketed f (formula_text names f)) (parts_text names (codes " and ") false false fs) s') in
        subst (λ (u : FormulaTree). Stands bs bound (And (more f fs)) u) (ands_more behind t f fs h.0) (stands_and bs bound (more f fs) (tree.more t (ands_trees (ands_at names behind fs))) (stand_more bs bound f fs t (ands_trees (ands_at names behind fs)) one rest))
    stands (Or no_more) n scope h bs bound c e place s = absurd (omega (arith, h.0))
    stands (Or (more f fs)) n scope h bs bound c e place s =
        let s' : At whole place (bracketed f (formula_text names f) ++ parts_text names (codes " or ") false false fs) =
        subst (λ (alone : Bool). At whole place (part alone f (formula_text names f) ++ parts_text names (codes " or ") false alone fs)) (is_more names free f fs h.0) s in
        let one = part_stands f bs bound (stands f n scope h.1.0 bs bound c e) place (at_front whole place (bracketed f (formula_text names f)) (parts_text names (codes " or ") false false fs) s') in
        let t = unary_tree (part_at names place f (formula_at names (place + 1) f)) in
        let behind = place + length (bracketed f (formula_text names f)) in
        let rest = ors_stand fs (n + length (binders f)) scope h.1.1 bs (bound ++ bound_names t) c (numbered_on n bs bound f t e one) behind (at_behind whole place (bracketed f (formula_text names f)) (parts_text names (codes " or ") false false fs) s') in
        subst (λ (u : FormulaTree). Stands bs bound (Or (more f fs)) u) (ors_more behind t f fs h.0) (stands_or bs bound (more f fs) (tree.more t (ors_trees (ors_at names behind fs))) (stand_more bs bound f fs t (ors_trees (ors_at names behind fs)) one rest))
    stands (Not f) n scope h bs bound c e place s =
        stands_not bs bound f _ (part_stands f bs bound (stands f n scope h bs bound c e) (place + 4) (at_behind whole place (codes "not ") (bracketed f (formula_text names f)) s))
    stands (Implies f g) n scope h bs bound c e place s =
        let first = bracketed f (formula_text names f) in
        let front = at_front whole place (first ++ codes " implies ") (bracketed g (formula_text names g)) s in
        let one = part_stands f bs bound (stands f n scope h.0 bs bound c e) place (at_front whole place first (codes " implies ") front) in
        let t = unary_tree (part_at names place f (formula_at names (place + 1) f)) in
        let two = part_stands g bs (bound ++ bound_names t) (stands g (n + length (binders f)) scope h.1 bs (bound ++ bound_names t) c (numbered_on n bs bound f t e one)) (place + length (first ++ codes " implies ")) (at_behind whole place (first ++ codes " implies ") (bracketed g (formula_text names g)) s) in
        stands_implies bs bound f g t _ one two
    stands (Iff f g) n scope h bs bound c e place s =
        let first = bracketed f (formula_text names f) in
        let front = at_front whole place (first ++ codes " iff ") (bracketed g (formula_text names g)) s in
        let one = part_stands f bs bound (stands f n scope h.0 bs bound c e) place (at_front whole place first (codes " iff ") front) in
        let t = unary_tree (part_at names place f (formula_at names (place + 1) f)) in
        let two = part_stands g bs (bound ++ bound_names t) (stands g (n + length (binders f)) scope h.1 bs (bound ++ bound_names t) c (numbered_on n bs bound f t e one)) (place + length (first ++ codes " iff ")) (at_behind whole place (first ++ codes " iff ") (bracketed g (formula_text names g)) s) in
        stands_iff bs bound f g t _ one two
    stands (Ex x f) n scope h bs bound c e place s =
        let name = name_of names x in
        let front = at_front whole place (codes "ex " ++ name ++ codes ". ") (formula_text names f) s in
        let nm = name_at names (place + 3) x in
        let l : letters whole nm ≡ name = letters_here whole (place + 3) name (at_behind whole place (codes "ex ") name (at_front whole place (codes "ex " ++ name) (codes ". ") front)) in
        stands_ex bs bound x nm f _ (h.0 ∙ e) l
        (stands f (suc n) (scope ++ (name, record { 0 = x }) ∷ []) h.2 (bs ++ binder free bound nm ∷ []) (bound ++ nm ∷ []) (scoped_in n bs bound scope x nm c h.0 e l) (numbered_in n bound nm e)
        (place + length (codes "ex " ++ name ++ codes ". ")) (at_behind whole place (codes "ex " ++ name ++ codes ". ") (formula_text names f) s))
    stands (All x f) n scope h bs bound c e place s =
        let name = name_of names x in
        let front = at_front whole place (codes "all " ++ name ++ codes ". ") (formula_text names f) s in
        let nm = name_at names (place + 4) x in
        let l : letters whole nm ≡ name = letters_here whole (place + 4) name (at_behind whole place (codes "all ") name (at_front whole place (codes "all " ++ name) (codes ". ") front)) in
        stands_all bs bound x nm f _ (h.0 ∙ e) l
        (stands f (suc n) (scope ++ (name, record { 0 = x }) ∷ []) h.2 (bs ++ binder free bound nm ∷ []) (bound ++ nm ∷ []) (scoped_in n bs bound scope x nm c h.0 e l) (numbered_in n bound nm e)
        (place + length (codes "all " ++ name ++ codes ". ")) (at_behind whole place (codes "all " ++ name ++ codes ". ") (formula_text names f) s))

    ands_stand : (fs : Formulas) (n : ℕ) (scope : Scope) → AreLegible names free n scope fs → (bs : List Binder) (bound : List Name) → scope_of whole bs ≡ scope → n ≡ length free + length bound
        → (place : ℕ) → At whole place (parts_text names (codes " and ") false false fs) → StandEach bs bound fs (ands_trees (ands_at names place fs))
    ands_stand no_more n scope h bs bound c e place s = record { is = refl; bound_are = refl; free_are = refl }
    ands_stand (more f fs) n scope h bs bound c e place s =
        let front = at_front whole place (codes " and " ++ bracketed f (formula_text names f)) (parts_text names (codes " and ") false false fs) s in
        let one = part_stands f bs bound (stands f n scope h.0 bs bound c e) (place + 5) (at_behind whole place (codes " and ") (bracketed f (formula_text names f)) front) in
        let t = unary_tree (part_at names (place + 5) f (formula_at names (place + 5 + 1) f)) in
        let behind = place + length (codes " and " ++ bracketed f (formula_text names f)) in
        let rest = ands_stand fs (n + length (binders f)) scope h.1 bs (bound ++ bound_names t) c (numbered_on n bs bound f t e one) behind (at_behind whole place (codes " and " ++ bracketed f (formula_text names f)) (parts_text names (codes " and ") false false fs) s) in
        stand_more bs bound f fs t (ands_trees (ands_at names behind fs)) one rest

    ors_stand : (fs : Formulas) (n : ℕ) (scope : Scope) → AreLegible names free n scope fs → (bs : List Binder) (bound : List Name) → scope_of whole bs ≡ scope → n ≡ length free + length bound
        → (place : ℕ) → At whole place (parts_text names (codes " or ") false false fs) → StandEach bs bound fs (ors_trees (ors_at names place fs))
    ors_stand no_more n scope h bs bound c e place s = record { is = refl; bound_are = refl; free_are = refl }
    ors_stand (more f fs) n scope h bs bound c e place s =
        let front = at_front whole place (codes " or " ++ bracketed f (formula_text names f)) (parts_text names (codes " or ") false false fs) s in
        let one = part_stands f bs bound (stands f n scope h.0 bs bound c e) (place + 4) (at_behind whole place (codes " or ") (bracketed f (formula_text names f)) front) in
        let t = unary_tree (part_at names (place + 4) f (formula_at names (place + 4 + 1) f)) in
        let behind = place + length (codes " or " ++ bracketed f (formula_text names f)) in
        let rest = ors_stand fs (n + length (binders f)) scope h.1 bs (bound ++ bound_names t) c (numbered_on n bs bound f t e one) behind (at_behind whole place (codes " or " ++ bracketed f (formula_text names f)) (parts_text names (codes " or ") false false fs) s) in
        stand_more bs bound f fs t (ors_trees (ors_at names behind fs)) one rest
