-- The formula that a tree stands for is legible.
use Rattle.std.proofs.Common.{ℕ, zero, suc, ◌+◌, ◌≡◌, ◌<◌, refl, sym, ap, subst, ◌∙◌, Bool, true, false, cond, List, [], ◌∷◌, ◌++◌, append_assoc, map, length, length-append, get_or, Option, Some, None, arith}
use Rattle.std.specs.List.{AllByRecursion, Contains}
use Rattle.std.specs.List.Sorted.{IsStrictlySortedBy}
use Rattle.std.specs.Option.{option_or}
use Rattle.std.specs.Ordering.{ordering_reverse}
use Rattle.std.specs.Cmp.Lexicographic.{bytes_decides, nat_list_cmp_total}
use Rattle.std.specs.declared.cmp.Ordering.{Ordering}
use Rattle.std.specs.declared.cmp.Ordering.TheVariants.{Less, Equal, Greater}
use Rattle.std.proofs.lemmas.List.{get_or_default, length-map, map-append}
use Rattle.qe_token.specs.declared.token.Name.{Name}
use Rattle.qe_token.specs.declared.token.Relation.{Relation}
use Rattle.qe_poly.specs.declared.monomial.Var.{Var}
use Rattle.qe_syntax.specs.Tree as tree
use Rattle.qe_syntax.specs.Tree.{TermTree, FormulaTree, FormulaTrees}
use Rattle.qe_form.specs.Formula.{Formula, Formulas}
use Rattle.qe_form.specs.Fed.{size}
use Rattle.qe_print.specs.Polynomial.{name_of}
use Rattle.qe_read.specs.declared.scope.Binder.{Binder}
use Rattle.qe_read.specs.Names.{Letters, letters, letters_cmp, is_same, names_before, bound_to, or_free, variable}
use Rattle.qe_read.specs.FreeNames.{is_bound, free_in, free_names, free_names_each}
use Rattle.qe_read.specs.Numbered.{binders, binders_each}
use Rattle.qe_read.specs.Value.{value, subtracted}
use Rattle.qe_read.specs.Formula.{bound_names, names_bound_in, binder, atom_value, formula, formulas}
use Rattle.qe_read.proofs.Named.{all_in, all_names, all_names_each}
use Rattle.qe_read.proofs.Kept.{front, behind}
use Rattle.qe_read.proofs.Ranks.{rank_found}
use Rattle.qe_read.proofs.Valued.{of_value}
use Rattle.qe_read.proofs.Valued as valued
use Rattle.qe_read.proofs.Numbers.{Gives, gives_next, gives_equal, names_of, names_of-push, Listed, Free, listed, unbound}
use Rattle.qe_roundtrip.proofs.Numerals.{IsName}
use Rattle.qe_roundtrip.proofs.Legible.{Scope, found, IsKnown, IsLegible, AreLegible}
use Rattle.qe_roundtrip.proofs.Loose.{scope_of, variable_in, found_in, scope_of-push}
use Rattle.qe_syntax.proofs.Shape.{tree_size, IsShaped, AreShaped, IsLowTerm}
use Rattle.qe_roundtrip.proofs.StoredValue.{of_added, stored_value}

-- ---- names by their numbers

pub name_front : (xs ys : List Letters) (k : ℕ) → k < length xs → name_of (xs ++ ys) k ≡ get_or xs k []
name_front [] ys k h = absurd (omega arith)
name_front (x ∷ xs) ys zero h = refl
name_front (x ∷ xs) ys (suc k) h = name_front xs ys k (omega arith)

pub name_next : (xs ys : List Letters) (w : Letters) → name_of (xs ++ w ∷ ys) (length xs) ≡ w
name_next [] ys w = refl
name_next (x ∷ xs) ys w = name_next xs ys w

mapped_same : (xs : List Letters) → map (λ w. w) xs ≡ xs
mapped_same [] = refl
mapped_same (x ∷ xs) = ap (λ ys. x ∷ ys) (mapped_same xs)

tied_back : (o : Ordering) → o ≡ ordering_reverse o → o ≡ Equal
tied_back Less e = absurd (cc)
tied_back Equal e = refl
tied_back Greater e = absurd (cc)

same_tied : (w : Letters) → letters_cmp w w ≡ Equal
same_tied w = tied_back (letters_cmp w w) (nat_list_cmp_total.antisymm w w)

-- the name at the place of a free name is that name
free_name : (free more : List Letters) (w : Letters) → IsStrictlySortedBy letters_cmp free → Contains free w → name_of (free ++ more) (names_before free w) ≡ w
free_name free more w s (k, h, e) =
    let keyed : IsStrictlySortedBy letters_cmp (map (λ v. v) free) = subst (λ l. IsStrictlySortedBy letters_cmp l) (sym (mapped_same free)) s in
    let at : names_before (map (λ v. v) free) w ≡ k =
    rank_found (λ (v : Letters). v) w free k keyed h (λ d. ap (λ v. letters_cmp v w) (get_or_default free k d w h ∙ e) ∙ same_tied w) in
    let place : names_before free w ≡ k = ap (λ l. names_before l w) (sym (mapped_same free)) ∙ at in
    ap (name_of (free ++ more)) place ∙ name_front free more k h ∙ get_or_default free k [] w h ∙ e

-- the name of a binder
bound_name : (free : List Letters) (spell : Name → Letters) (bound more : List Name) (x : Name) → name_of (free ++ map spell (bound ++ x ∷ more)) (length free + length bound) ≡ spell x
bound_name free spell bound more x =
    let split : free ++ map spell (bound ++ x ∷ more) ≡ (free ++ map spell bound) ++ spell x ∷ map spell more =
    ap (λ l. free ++ l) (map-append spell bound (x ∷ more)) ∙ sym (append_assoc free (map spell bound) (spell x ∷ map spell more)) in
    let count : length free + length bound ≡ length (free ++ map spell bound) = omega (arith, length-append free (map spell bound), length-map bound spell) in
    (λ i. name_of (split i) (count i)) ∙ name_next (free ++ map spell bound) (map spell more) (spell x)

module _ (names free : List Letters) (text : List ℕ) (sorted : IsStrictlySortedBy letters_cmp free) where
  abbrev IsNamed : Binder → Type 0
  IsNamed b = name_of names b.var.0 ≡ letters text b.name

  named_push : (bs : List Binder) (b : Binder) → AllByRecursion IsNamed bs → IsNamed b → AllByRecursion IsNamed (bs ++ b ∷ [])
  named_push [] b h k = (k, tt)
  named_push (a ∷ bs) b h k = (h.0, named_push bs b h.1 k)

  -- ---- variables

  one_binder : (b : Binder) (o : Option Var) (same : Bool) (w : Letters) (v : Var) → ((u : Var) → o ≡ Some u → name_of names u.0 ≡ w) → (same ≡ true → name_of names b.var.0 ≡ w)
      → option_or o (cond same (Some b.var) None) ≡ Some v → name_of names v.0 ≡ w
  one_binder b (Some u) same w v h k e = h v e
  one_binder b None true w v h k e = let f : b.var ≡ v = cc in ap (λ (z : Var). name_of names z.0) (sym f) ∙ k refl
  one_binder b None false w v h k e = absurd (cc)

  binder_name : (bs : List Binder) (w : Letters) (v : Var) → AllByRecursion IsNamed bs → bound_to text bs w ≡ Some v → name_of names v.0 ≡ w
  binder_name [] w v h e = absurd (cc)
  binder_name (b ∷ bs) w v h e =
      one_binder b (bound_to text bs w) (is_same (letters text b.name) w) w v (λ u f. binder_name bs w u h.1 f) (λ t. h.0 ∙ (bytes_decides (letters text b.name) w).0 t) e

  module _ (more : List Letters) (all : names ≡ free ++ more) where
    variable_name : (bs : List Binder) (x : Name) (o : Option Var) → bound_to text bs (letters text x) ≡ o → AllByRecursion IsNamed bs → (is_bound text (names_of bs) x ≡ false → Listed text free x)
        → name_of names (or_free free (letters text x) o).0 ≡ letters text x
    variable_name bs x (Some v) e h k = binder_name bs (letters text x) v h e
    variable_name bs x None e h k = ap (λ l. name_of l (names_before free (letters text x))) all ∙ free_name free more (letters text x) sorted (k (unbound text free bs (letters text x) e))

    known : (bs : List Binder) (x : Name) → AllByRecursion IsNamed bs → IsName (letters text x) → (is_bound text (names_of bs) x ≡ false → Listed text free x) → IsKnown names free (scope_of text bs) (variable text free bs x).0
    known bs x h w k =
        let e : name_of names (variable text free bs x).0 ≡ letters text x = variable_name bs x (bound_to text bs (letters text x)) refl h k in
        record {
          name = subst (λ v. IsName v) (sym e) w;
          is = ap (λ v. (or_free free v (found (scope_of text bs) v)).0) e ∙ ap (λ (z : Var). z.0) (sym (variable_in text free bs x));
          listed = λ n. subst (λ v. Contains free v) (sym e) (k (unbound text free bs (letters text x) (found_in text bs (letters text x) ∙ ap (found (scope_of text bs)) (sym e) ∙ n)));
        }

    all_known : (bs : List Binder) (ns : List Name) → AllByRecursion IsNamed bs → AllByRecursion (λ x. IsName (letters text x)) ns → AllByRecursion (Free text free (names_of bs)) ns
        → AllByRecursion (λ x. IsKnown names free (scope_of text bs) (variable text free bs x).0) ns
    all_known bs [] h w k = tt
    all_known bs (x ∷ xs) h w k = (known bs x h w.0 k.0, all_known bs xs h w.1 k.1)

  -- ---- formulas

  abbrev start : List Name → ℕ
  start bound = length free + length bound

  abbrev Legibly : List Binder → List Name → FormulaTree → Formula → Type 0
  Legibly bs bound t g = IsLegible names free (start bound) (scope_of text bs) g × (length (binders g) ≡ length (bound_names t))

  abbrev LegiblyEach : List Binder → List Name → FormulaTrees → Formulas → Type 0
  LegiblyEach bs bound ts gs = AreLegible names free (start bound) (scope_of text bs) gs × (length (binders_each gs) ≡ length (names_bound_in ts)) × (size gs ≡ tree_size ts)

  -- the number that follows after a first part
  goes_on : (bound : List Name) (a : Formula) (t : FormulaTree) → length (binders a) ≡ length (bound_names t) → start (bound ++ bound_names t) ≡ start bound + length (binders a)
  goes_on bound a t e = omega (arith, e, length-append bound (bound_names t))

  both_long : (ks ls : List ℕ) (xs ys : List Name) → length ks ≡ length xs → length ls ≡ length ys → length (ks ++ ls) ≡ length (xs ++ ys)
  both_long ks ls xs ys h k = omega (arith, h, k, length-append ks ls, length-append xs ys)

  abbrev spell : Name → Letters
  spell = letters text

  abbrev Words : List Name → Type 0
  Words = AllByRecursion (λ x. IsName (letters text x))

  -- all names, where these are bound before, here and later
  abbrev Total : List Name → List Name → List Name → Type 0
  Total bound here later = names ≡ free ++ map (letters text) (bound ++ (here ++ later))

  total_first : (bound xs ys later : List Name) → Total bound (xs ++ ys) later → Total bound xs (ys ++ later)
  total_first bound xs ys later e = e ∙ ap (λ l. free ++ map (letters text) (bound ++ l)) (append_assoc xs ys later)

  total_second : (bound xs ys later : List Name) → Total bound (xs ++ ys) later → Total (bound ++ xs) ys later
  total_second bound xs ys later e = total_first bound xs ys later e ∙ ap (λ l. free ++ map (letters text) l) (sym (append_assoc bound xs (ys ++ later)))

  abbrev FreeOf : List Name → Type 0
  FreeOf = AllByRecursion (Listed text free)

  legible_atom : (bs : List Binder) (bound later : List Name) (t u : TermTree) (p : ℕ) (r : Relation) → AllByRecursion IsNamed bs → IsLowTerm t → IsLowTerm u → Words (all_in t) → Words (all_in u)
      → FreeOf (free_in text (names_of bs) t) → FreeOf (free_in text (names_of bs) u) → Total bound [] later
      → Gives (Legibly bs bound (tree.Atom t p r u)) (atom_value p r (value (variable text free bs) t) (value (variable text free bs) u))
  legible_atom bs bound later t u p r h lt lu wt wu ft fu e =
      let more = map (letters text) (bound ++ ([] ++ later)) in
      gives_equal (Legibly bs bound (tree.Atom t p r u)) (value (variable text free bs) t) _ (λ a ea.
      gives_equal (Legibly bs bound (tree.Atom t p r u)) (value (variable text free bs) u) _ (λ b eb.
      gives_equal (Legibly bs bound (tree.Atom t p r u)) (subtracted p a b) _ (λ d ed. (
        record {
          relation = r;
          signs = refl;
          stored = of_added p true a b d (stored_value (variable text free bs) t a lt ea) (stored_value (variable text free bs) u b lu eb) ed;
          known = valued.of_added (IsKnown names free (scope_of text bs)) (variable text free bs) p true a b d
              (of_value (IsKnown names free (scope_of text bs)) (variable text free bs) t a (all_known more e bs (all_in t) h wt (listed text free (names_of bs) t ft)) ea)
              (of_value (IsKnown names free (scope_of text bs)) (variable text free bs) u b (all_known more e bs (all_in u) h wu (listed text free (names_of bs) u fu)) eb) ed;
        },
        refl,
      ))))

  -- inside of a binder
  module _ (bs : List Binder) (bound later : List Name) (y : Name) (inner : List Name) (e : Total bound (y ∷ inner) later) where
    its_name : name_of names (start bound) ≡ letters text y
    its_name = ap (λ l. name_of l (start bound)) e ∙ bound_name free (letters text) bound (inner ++ later) y

    total_inside : Total (bound ++ y ∷ []) inner later
    total_inside = e ∙ ap (λ l. free ++ map (letters text) l) (sym (append_assoc bound (y ∷ []) (inner ++ later)))

    legible_inside : (t : FormulaTree) (g : Formula) → Legibly (bs ++ binder free bound y ∷ []) (bound ++ y ∷ []) t g
        → IsLegible names free (suc (start bound)) (scope_of text bs ++ (name_of names (start bound), record { 0 = start bound }) ∷ []) g
    legible_inside t g h =
        let n : start (bound ++ y ∷ []) ≡ suc (start bound) = omega (arith, length-append bound (y ∷ [])) in
        let s : scope_of text (bs ++ binder free bound y ∷ []) ≡ scope_of text bs ++ (name_of names (start bound), record { 0 = start bound }) ∷ [] =
        scope_of-push text bs (binder free bound y) ∙ ap (λ (w : Letters). scope_of text bs ++ (w, record { 0 = start bound }) ∷ []) (sym its_name) in
        subst (λ k. IsLegible names free k (scope_of text bs ++ (name_of names (start bound), record { 0 = start bound }) ∷ []) g) n (subst (λ (sc : Scope). IsLegible names free (start (bound ++ y ∷ [])) sc g) s h.0)

  mutual
    pub legible : (bs : List Binder) (bound later : List Name) (t : FormulaTree) → AllByRecursion IsNamed bs → IsShaped t → Words (all_names t) → FreeOf (free_names text (names_of bs) t) → Total bound (bound_names t) later
        → Gives (λ g. IsLegible names free (length free + length bound) (scope_of text bs) g × (length (binders g) ≡ length (bound_names t))) (formula text free bs bound t)
    legible bs bound later tree.True h s w f e = (tt, refl)
    legible bs bound later tree.False h s w f e = (tt, refl)
    legible bs bound later (tree.Atom t p r u) h s w f e =
        legible_atom bs bound later t u p r h s.0 s.1 (front (λ x. IsName (letters text x)) (all_in t) (all_in u) w) (behind (λ x. IsName (letters text x)) (all_in t) (all_in u) w)
        (front (Listed text free) (free_in text (names_of bs) t) (free_in text (names_of bs) u) f) (behind (Listed text free) (free_in text (names_of bs) t) (free_in text (names_of bs) u) f) e
    legible bs bound later (tree.And ts) h s w f e =
        gives_next (LegiblyEach bs bound ts) (Legibly bs bound (tree.And ts)) (formulas text free bs bound ts) _ (legible_each bs bound later ts h s.1 w f e) (λ gs k. ((omega (arith, k.2, s.0), k.0), k.1))
    legible bs bound later (tree.Or ts) h s w f e =
        gives_next (LegiblyEach bs bound ts) (Legibly bs bound (tree.Or ts)) (formulas text free bs bound ts) _ (legible_each bs bound later ts h s.1 w f e) (λ gs k. ((omega (arith, k.2, s.0), k.0), k.1))
    legible bs bound later (tree.Not t) h s w f e = gives_next (Legibly bs bound t) (Legibly bs bound (tree.Not t)) (formula text free bs bound t) _ (legible bs bound later t h s w f e) (λ g k. k)
    legible bs bound later (tree.Implies t u) h s w f e =
        gives_next (Legibly bs bound t) (Legibly bs bound (tree.Implies t u)) (formula text free bs bound t) _
        (legible bs bound (bound_names u ++ later) t h s.0 (front (λ x. IsName (letters text x)) (all_names t) (all_names u) w) (front (Listed text free) (free_names text (names_of bs) t) (free_names text (names_of bs) u) f) (total_first bound (bound_names t) (bound_names u) later e)) (λ a k.
        gives_next (Legibly bs (bound ++ bound_names t) u) (Legibly bs bound (tree.Implies t u)) (formula text free bs (bound ++ bound_names t) u) _
        (legible bs (bound ++ bound_names t) later u h s.1 (behind (λ x. IsName (letters text x)) (all_names t) (all_names u) w) (behind (Listed text free) (free_names text (names_of bs) t) (free_names text (names_of bs) u) f) (total_second bound (bound_names t) (bound_names u) later e)) (λ b l.
        ((k.0, subst (λ n. IsLegible names free n (scope_of text bs) b) (goes_on bound a t k.1) l.0), both_long (binders a) (binders b) (bound_names t) (bound_names u) k.1 l.1)))
    legible bs bound later (tree.Iff t u) h s w f e =
        gives_next (Legibly bs bound t) (Legibly bs bound (tree.Iff t u)) (formula text free bs bound t) _
        (legible bs bound (bound_names u ++ later) t h s.0 (front (λ x. IsName (letters text x)) (all_names t) (all_names u) w) (front (Listed text free) (free_names text (names_of bs) t) (free_names text (names_of bs) u) f) (total_first bound (bound_names t) (bound_names u) later e)) (λ a k.
        gives_next (Legibly bs (bound ++ bound_names t) u) (Legibly bs bound (tree.Iff t u)) (formula text free bs (bound ++ bound_names t) u) _
        (legible bs (bound ++ bound_names t) later u h s.1 (behind (λ x. IsName (letters text x)) (all_names t) (all_names u) w) (behind (Listed text free) (free_names text (names_of bs) t) (free_names text (names_of bs) u) f) (total_second bound (bound_names t) (bound_names u) later e)) (λ b l.
        ((k.0, subst (λ n. IsLegible names free n (scope_of text bs) b) (goes_on bound a t k.1) l.0), both_long (binders a) (binders b) (bound_names t) (bound_names u) k.1 l.1)))
    legible bs bound later (tree.Ex y t) h s w f e =
        let b = binder free bound y in
        gives_next (Legibly (bs ++ b ∷ []) (bound ++ y ∷ []) t) (Legibly bs bound (tree.Ex y t)) (formula text free (bs ++ b ∷ []) (bound ++ y ∷ []) t) _
        (legible (bs ++ b ∷ []) (bound ++ y ∷ []) later t (named_push bs b h (its_name bs bound later y (bound_names t) e)) s w.1
        (subst (λ ns. FreeOf (free_names text ns t)) (sym (names_of-push bs b)) f) (total_inside bs bound later y (bound_names t) e))
        (λ g k. ((refl, subst (λ v. IsName v) (sym (its_name bs bound later y (bound_names t) e)) w.0, legible_inside bs bound later y (bound_names t) e t g k), ap suc k.1))
    legible bs bound later (tree.All y t) h s w f e =
        let b = binder free bound y in
        gives_next (Legibly (bs ++ b ∷ []) (bound ++ y ∷ []) t) (Legibly bs bound (tree.All y t)) (formula text free (bs ++ b ∷ []) (bound ++ y ∷ []) t) _
        (legible (bs ++ b ∷ []) (bound ++ y ∷ []) later t (named_push bs b h (its_name bs bound later y (bound_names t) e)) s w.1
        (subst (λ ns. FreeOf (free_names text ns t)) (sym (names_of-push bs b)) f) (total_inside bs bound later y (bound_names t) e))
        (λ g k. ((refl, subst (λ v. IsName v) (sym (its_name bs bound later y (bound_names t) e)) w.0, legible_inside bs bound later y (bound_names t) e t g k), ap suc k.1))

    legible_each : (bs : List Binder) (bound later : List Name) (ts : FormulaTrees) → AllByRecursion IsNamed bs → AreShaped ts → Words (all_names_each ts) → FreeOf (free_names_each text (names_of bs) ts) → Total bound (names_bound_in ts) later
        → Gives (λ gs. AreLegible names free (length free + length bound) (scope_of text bs) gs × (length (binders_each gs) ≡ length (names_bound_in ts)) × (size gs ≡ tree_size ts)) (formulas text free bs bound ts)
    legible_each bs bound later tree.no_more h s w f e = (tt, refl, refl)
    legible_each bs bound later (tree.more t ts) h s w f e =
        gives_next (Legibly bs bound t) (LegiblyEach bs bound (tree.more t ts)) (formula text free bs bound t) _
        (legible bs bound (names_bound_in ts ++ later) t h s.0 (front (λ x. IsName (letters text x)) (all_names t) (all_names_each ts) w) (front (Listed text free) (free_names text (names_of bs) t) (free_names_each text (names_of bs) ts) f) (total_first bound (bound_names t) (names_bound_in ts) later e)) (λ a k.
        gives_next (LegiblyEach bs (bound ++ bound_names t) ts) (LegiblyEach bs bound (tree.more t ts)) (formulas text free bs (bound ++ bound_names t) ts) _
        (legible_each bs (bound ++ bound_names t) later ts h s.1 (behind (λ x. IsName (letters text x)) (all_names t) (all_names_each ts) w) (behind (Listed text free) (free_names text (names_of bs) t) (free_names_each text (names_of bs) ts) f) (total_second bound (bound_names t) (names_bound_in ts) later e)) (λ b l.
        ((k.0, subst (λ n. AreLegible names free n (scope_of text bs) b) (goes_on bound a t k.1) l.0), both_long (binders a) (binders_each b) (bound_names t) (names_bound_in ts) k.1 l.1, ap suc l.2)))
