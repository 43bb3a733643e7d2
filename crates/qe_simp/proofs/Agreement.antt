-- A formula and its simplified form are true at the same points, and false at the same.
use Rattle.std.proofs.Common.{◌≡◌, ◌∙◌, sym, ap, refl, subst, Bool, true, false, not, cond, ◌&&◌, ◌||◌, ◌↔◌, ◌⊎◌, inl, inr, List, [], ◌∷◌, Some, None}
use Rattle.std.specs.List.{list_any}
use Rattle.std.specs.Ordering.{is_eq}
use Rattle.qe_ring.proofs.Ties.{equal_tie}
use Rattle.qe_ring.specs.Sign.{Sign, Minus, Zero, Plus}
use Rattle.qe_tower.specs.Number.{sign_of}
use Rattle.qe_tower.specs.Point.{Point, IsPoint}
use Rattle.qe_poly.specs.Equal.{poly_eq, poly_tells}
use Rattle.qe_form.specs.declared.signs.Signs.{Signs}
use Rattle.qe_form.specs.declared.form.Atom as atom
use Rattle.qe_form.specs.Formula.{Formula, Formulas, True, False, Atom, And, Or, Not, Implies, Iff, Ex, All, no_more, more}
use Rattle.qe_form.specs.Tree.{trees_of}
use Rattle.qe_form.specs.Value.{value}
use Rattle.qe_form.specs.Truth.{has_sign, Is, EachIs, SomeIs}
use Rattle.qe_form.specs.Order.{formula_cmp}
use Rattle.qe_form.specs.OrderLaws.{formula_same}
use Rattle.qe_simp.specs.declared.connective.Connective.{Connective}
use Rattle.qe_simp.specs.declared.connective.Connective.TheVariants.{Conjunction, Disjunction}
use Rattle.qe_simp.specs.Simplified.{neutral, deciding, under, joined_signs, listed, parts_in, as_one, decides, united, decided, joint, simplified, simplified_each}
use Rattle.qe_simp.specs.Shape.{EachAtom, EachAtomOf, IsCanonicalAtom}
use Rattle.qe_simp.proofs.Atoms.{never_has, always_has, canonical_agrees}
use Rattle.qe_simp.proofs.Parts.{Each, Any, steps, Each-steps, Any-steps, steps-Any}

-- the truth value that a formula with the connective has where each part has it
abbrev side : Connective → Bool
side Conjunction = true
side Disjunction = false

-- ---- joins of two truth values

abbrev meet : Connective → Bool → Bool → Bool
meet Conjunction a b = a && b
meet Disjunction a b = a || b

meet_sign : (k : Connective) (s t : Signs) (v : Sign) → has_sign (joined_signs k s t) v ≡ meet k (has_sign s v) (has_sign t v)
meet_sign Conjunction s t Minus = refl
meet_sign Conjunction s t Zero = refl
meet_sign Conjunction s t Plus = refl
meet_sign Disjunction s t Minus = refl
meet_sign Disjunction s t Zero = refl
meet_sign Disjunction s t Plus = refl

meet_both : (k : Connective) (a b : Bool) → (meet k a b ≡ side k) ↔ ((a ≡ side k) × (b ≡ side k))
meet_both Conjunction true b = ((λ e. (refl, e)), (λ e. e.1))
meet_both Conjunction false b = ((λ e. absurd (cc)), (λ e. e.0))
meet_both Disjunction true b = ((λ e. absurd (cc)), (λ e. e.0))
meet_both Disjunction false b = ((λ e. (refl, e)), (λ e. e.1))

meet_either : (k : Connective) (a b : Bool) → (meet k a b ≡ not (side k)) ↔ ((a ≡ not (side k)) ⊎ (b ≡ not (side k)))
meet_either Conjunction true b = ((λ e. inr e), (λ e. elim e [ inl x ↦ absurd (cc) | inr y ↦ y ]))
meet_either Conjunction false b = ((λ e. inl refl), (λ e. refl))
meet_either Disjunction true b = ((λ e. inl refl), (λ e. refl))
meet_either Disjunction false b = ((λ e. inr e), (λ e. elim e [ inl x ↦ absurd (cc) | inr y ↦ y ]))

module _ (p : Point) where
  -- what a part has where the whole has the connective's side, and where it has the other
  abbrev Kept : Connective → Formula → Type 0
  Kept k f = Is f (side k) p

  abbrev Other : Connective → Formula → Type 0
  Other k f = Is f (not (side k)) p

  -- ---- lists of parts

  each_trees : (b : Bool) (fs : List Formula) → EachIs (trees_of fs) b p ↔ Each (λ f. Is f b p) fs
  each_trees b [] = ((λ h. h), (λ h. h))
  each_trees b (f ∷ fs) = let rest = each_trees b fs in ((λ h. (h.0, rest.0 h.1)), (λ h. (h.0, rest.1 h.1)))

  some_trees : (b : Bool) (fs : List Formula) → SomeIs (trees_of fs) b p ↔ Any (λ f. Is f b p) fs
  some_trees b [] = ((λ h. h), (λ h. h))
  some_trees b (f ∷ fs) =
      let rest = some_trees b fs in ((λ h. elim h [ inl x ↦ inl x | inr y ↦ inr (rest.0 y) ]), (λ h. elim h [ inl x ↦ inl x | inr y ↦ inr (rest.1 y) ]))

  each_listed : (b : Bool) (fs : Formulas) → Each (λ f. Is f b p) (listed fs) ↔ EachIs fs b p
  each_listed b no_more = ((λ h. h), (λ h. h))
  each_listed b (more f fs) = let rest = each_listed b fs in ((λ h. (h.0, rest.0 h.1)), (λ h. (h.0, rest.1 h.1)))

  some_listed : (b : Bool) (fs : Formulas) → Any (λ f. Is f b p) (listed fs) ↔ SomeIs fs b p
  some_listed b no_more = ((λ h. h), (λ h. h))
  some_listed b (more f fs) =
      let rest = some_listed b fs in ((λ h. elim h [ inl x ↦ inl x | inr y ↦ inr (rest.0 y) ]), (λ h. elim h [ inl x ↦ inl x | inr y ↦ inr (rest.1 y) ]))

  -- ---- a formula and its parts

  own_each : (k : Connective) (f : Formula) → Each (Kept k) (parts_in k f) ↔ Kept k f
  own_each Conjunction True = ((λ h. refl), (λ h. tt))
  own_each Conjunction (And fs) = each_listed true fs
  own_each Disjunction False = ((λ h. refl), (λ h. tt))
  own_each Disjunction (Or fs) = each_listed false fs
  own_each k f = ((λ h. h.0), (λ h. (h, tt)))

  own_any : (k : Connective) (f : Formula) → Any (Other k) (parts_in k f) ↔ Other k f
  own_any Conjunction True = ((λ h. absurd h), (λ h. absurd (cc)))
  own_any Conjunction (And fs) = some_listed false fs
  own_any Disjunction False = ((λ h. absurd h), (λ h. absurd (cc)))
  own_any Disjunction (Or fs) = some_listed true fs
  own_any k f = ((λ h. elim h [ inl x ↦ x | inr y ↦ absurd y ]), (λ h. inl h))

  -- ---- two parts as one

  abbrev OneOf : Connective → Formula → Formula → Formula → Type 0
  OneOf k f g h = (Kept k h ↔ (Kept k f × Kept k g)) × (Other k h ↔ (Other k f ⊎ Other k g))

  one_atom : (k : Connective) (a b : atom.Atom) → a.poly ≡ b.poly → OneOf k (Atom a) (Atom b) (Atom (record { poly = a.poly; signs = joined_signs k a.signs b.signs }))
  one_atom k a b same =
      let v = sign_of (value a.poly p) in
      let met : has_sign (joined_signs k a.signs b.signs) v ≡ meet k (has_sign a.signs v) (has_sign b.signs v) = meet_sign k a.signs b.signs v in
      let moved : has_sign b.signs v ≡ has_sign b.signs (sign_of (value b.poly p)) = ap (λ q. has_sign b.signs (sign_of (value q p))) same in
      let both = meet_both k (has_sign a.signs v) (has_sign b.signs v) in
      let either = meet_either k (has_sign a.signs v) (has_sign b.signs v) in (
        ((λ e. let w = both.0 (sym met ∙ e) in (w.0, sym moved ∙ w.1)), (λ e. met ∙ both.1 (e.0, moved ∙ e.1))),
        ((λ e. elim (either.0 (sym met ∙ e)) [ inl x ↦ inl x | inr y ↦ inr (sym moved ∙ y) ]), (λ e. met ∙ either.1 (elim e [ inl x ↦ inl x | inr y ↦ inr (moved ∙ y) ]))),
      )

  one_of_atoms : (k : Connective) (a b : atom.Atom) (h : Formula) (t : Bool) → poly_eq a.poly b.poly ≡ t → cond t (Some (Atom (record { poly = a.poly; signs = joined_signs k a.signs b.signs }))) None ≡ Some h → OneOf k (Atom a) (Atom b) h
  one_of_atoms k a b h true test is =
      let same : Atom (record { poly = a.poly; signs = joined_signs k a.signs b.signs }) ≡ h = cc in subst (OneOf k (Atom a) (Atom b)) same (one_atom k a b (poly_tells a.poly b.poly test))
  one_of_atoms k a b h false test is = absurd (cc)

  one_twice : (k : Connective) (f : Formula) → OneOf k f f f
  one_twice k f = (((λ h. (h, h)), (λ h. h.0)), ((λ h. inl h), (λ h. elim h [ inl x ↦ x | inr y ↦ y ])))

  one_of_equals : (k : Connective) (f g h : Formula) (t : Bool) → is_eq (formula_cmp f g) ≡ t → cond t (Some f) None ≡ Some h → OneOf k f g h
  one_of_equals k f g h true test is =
      let same : f ≡ h = cc in
      subst (λ e. OneOf k f e h) (formula_same f g (equal_tie (formula_cmp f g) test)) (subst (λ e. OneOf k f f e) same (one_twice k f))
  one_of_equals k f g h false test is = absurd (cc)

  one_of : (k : Connective) (f g h : Formula) → as_one k f g ≡ Some h → OneOf k f g h
  one_of k (Atom a) (Atom b) h is = one_of_atoms k a b h (poly_eq a.poly b.poly) refl is
  one_of k f g h is = one_of_equals k f g h (is_eq (formula_cmp f g)) refl is

  -- ---- parts that decide

  deciding_is : (k : Connective) → (Kept k (deciding k) → ⊥) × Other k (deciding k)
  deciding_is Conjunction = ((λ h. absurd (cc)), refl)
  deciding_is Disjunction = ((λ h. absurd (cc)), refl)

  decides_is : (k : Connective) (f : Formula) → decides k f ≡ true → (Kept k f → ⊥) × Other k f
  decides_is Conjunction False test = ((λ h. absurd (cc)), refl)
  decides_is Conjunction (Atom a) test = let no = never_has a.signs (sign_of (value a.poly p)) test in ((λ h. absurd (cc)), no)
  decides_is Disjunction True test = ((λ h. absurd (cc)), refl)
  decides_is Disjunction (Atom a) test = let yes = always_has a.signs (sign_of (value a.poly p)) test in ((λ h. absurd (cc)), yes)
  decides_is k f test = absurd (cc)

  some_decides : (k : Connective) (fs : List Formula) → list_any (decides k) fs ≡ true → (Each (Kept k) fs → ⊥) × Any (Other k) fs
  some_decides k [] test = absurd (cc)
  some_decides k (f ∷ fs) test = by_first (decides k f) refl (some_decides k fs) test
    where
      by_first : (b : Bool) → decides k f ≡ b → (list_any (decides k) fs ≡ true → (Each (Kept k) fs → ⊥) × Any (Other k) fs) → (b || list_any (decides k) fs) ≡ true → (Each (Kept k) (f ∷ fs) → ⊥) × Any (Other k) (f ∷ fs)
      by_first true first rest either = let w = decides_is k f first in ((λ h. w.0 h.0), inl w.1)
      by_first false first rest either = let w = rest either in ((λ h. w.0 h.1), inr w.1)

  -- ---- what is left

  abbrev WholeIs : Connective → Formula → List Formula → Type 0
  WholeIs k f fs = (Kept k f ↔ Each (Kept k) fs) × (Other k f ↔ Any (Other k) fs)

  connected_is : (k : Connective) (fs : List Formula) → WholeIs k (under k fs) fs
  connected_is Conjunction fs = (each_trees true fs, some_trees false fs)
  connected_is Disjunction fs = (each_trees false fs, some_trees true fs)

  neutral_is : (k : Connective) → WholeIs k (neutral k) []
  neutral_is Conjunction = (((λ h. tt), (λ h. refl)), ((λ h. absurd (cc)), (λ h. absurd h)))
  neutral_is Disjunction = (((λ h. tt), (λ h. refl)), ((λ h. absurd (cc)), (λ h. absurd h)))

  closed_is : (k : Connective) (fs : List Formula) → WholeIs k (united k fs) fs
  closed_is k [] = neutral_is k
  closed_is k (f ∷ []) = (((λ h. (h, tt)), (λ h. h.0)), ((λ h. inl h), (λ h. elim h [ inl x ↦ x | inr y ↦ absurd y ])))
  closed_is k (f ∷ g ∷ gs) = connected_is k (f ∷ g ∷ gs)

  decided_is : (k : Connective) (fs : List Formula) → WholeIs k (decided k fs) fs
  decided_is k fs = by_test (list_any (decides k) fs) refl
    where
      by_test : (b : Bool) → list_any (decides k) fs ≡ b → WholeIs k (cond b (deciding k) (united k fs)) fs
      by_test true test =
          let parts = some_decides k fs test in
          let whole = deciding_is k in (((λ h. absurd (whole.0 h)), (λ h. absurd (parts.0 h))), ((λ h. parts.1), (λ h. whole.1)))
      by_test false test = closed_is k fs

  joint_is : (k : Connective) (fs : List Formula) → WholeIs k (joint k fs) fs
  joint_is k fs =
      let whole = decided_is k (steps k fs) in
      let each = Each-steps (Kept k) k (λ f g h is. (one_of k f g h is).0) (own_each k) fs in (
        ((λ h. each.0 (whole.0.0 h)), (λ h. whole.0.1 (each.1 h))),
        (
          (λ h. Any-steps (Other k) k (λ f g h is. (one_of k f g h is).1.0) (λ f. (own_any k f).0) fs (whole.1.0 h)),
          (λ h. whole.1.1 (steps-Any (Other k) k (λ f g h is. (one_of k f g h is).1.1) (λ f. (own_any k f).1) fs h)),
        ),
      )

  -- ---- the simplified form

  module _ (valid : IsPoint p) where
    mutual
      pub agrees : (f : Formula) → EachAtom IsCanonicalAtom f → (b : Bool) → Is f b p ↔ Is (simplified f) b p
      agrees True atoms b = ((λ h. h), (λ h. h))
      agrees False atoms b = ((λ h. h), (λ h. h))
      agrees (Atom a) canonical b = canonical_agrees a canonical p valid b
      agrees (And fs) atoms true = let parts = agree_each fs atoms true in let whole = (joint_is Conjunction (simplified_each fs)).0 in ((λ h. whole.1 (parts.0 h)), (λ h. parts.1 (whole.0 h)))
      agrees (And fs) atoms false = let parts = agree_some fs atoms false in let whole = (joint_is Conjunction (simplified_each fs)).1 in ((λ h. whole.1 (parts.0 h)), (λ h. parts.1 (whole.0 h)))
      agrees (Or fs) atoms true = let parts = agree_some fs atoms true in let whole = (joint_is Disjunction (simplified_each fs)).1 in ((λ h. whole.1 (parts.0 h)), (λ h. parts.1 (whole.0 h)))
      agrees (Or fs) atoms false = let parts = agree_each fs atoms false in let whole = (joint_is Disjunction (simplified_each fs)).0 in ((λ h. whole.1 (parts.0 h)), (λ h. parts.1 (whole.0 h)))
      agrees (Not f) atoms b = ((λ h. h), (λ h. h))
      agrees (Implies f g) atoms b = ((λ h. h), (λ h. h))
      agrees (Iff f g) atoms b = ((λ h. h), (λ h. h))
      agrees (Ex x f) atoms b = ((λ h. h), (λ h. h))
      agrees (All x f) atoms b = ((λ h. h), (λ h. h))

      agree_each : (fs : Formulas) → EachAtomOf IsCanonicalAtom fs → (b : Bool) → EachIs fs b p ↔ Each (λ g. Is g b p) (simplified_each fs)
      agree_each no_more atoms b = ((λ h. h), (λ h. h))
      agree_each (more f fs) atoms b =
          let first = agrees f atoms.0 b in
          let rest = agree_each fs atoms.1 b in ((λ h. (first.0 h.0, rest.0 h.1)), (λ h. (first.1 h.0, rest.1 h.1)))

      agree_some : (fs : Formulas) → EachAtomOf IsCanonicalAtom fs → (b : Bool) → SomeIs fs b p ↔ Any (λ g. Is g b p) (simplified_each fs)
      agree_some no_more atoms b = ((λ h. h), (λ h. h))
      agree_some (more f fs) atoms b =
          let first = agrees f atoms.0 b in
          let rest = agree_some fs atoms.1 b in (
            (λ h. elim h [ inl x ↦ inl (first.0 x) | inr y ↦ inr (rest.0 y) ]),
            (λ h. elim h [ inl x ↦ inl (first.1 x) | inr y ↦ inr (rest.1 y) ]),
          )
