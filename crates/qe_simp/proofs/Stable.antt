-- Simplified formulas are stable: their atoms have proper signs, each part of an And or Or is its own part, and together the parts are
-- the whole again. So simplifying changes at most their polynomials.
use Rattle.std.proofs.Common.{◌≡◌, ◌∙◌, sym, ap, refl, subst, ℕ, ◌<◌, eqb, Bool, true, false, cond, ◌&&◌, ◌||◌, inl, inr, ℤ, List, [], ◌∷◌, ◌++◌, Option, Some, None, arith}
use Rattle.std.specs.List.{flat_map, list_any}
use Rattle.std.proofs.lemmas.Bool.Decides.{nat_tests}
use Rattle.qe_ring.specs.Sign.{int_sign}
use Rattle.qe_poly.specs.Primitive.{leads_negative}
use Rattle.qe_form.specs.declared.signs.Signs.{Signs}
use Rattle.qe_form.specs.declared.form.Atom as atom
use Rattle.qe_form.specs.Signs.{bits, mirror, IsProper}
use Rattle.qe_form.specs.Formula.{Formula, Formulas, True, False, Atom, And, Or, Not, Implies, Iff, Ex, All, no_more, more}
use Rattle.qe_form.specs.Tree.{trees_of}
use Rattle.qe_form.specs.Truth.{has_sign}
use Rattle.qe_simp.specs.declared.connective.Connective.{Connective}
use Rattle.qe_simp.specs.declared.connective.Connective.TheVariants.{Conjunction, Disjunction}
use Rattle.qe_form.specs.Making.{constant as truth}
use Rattle.qe_simp.specs.Simplified.{as_number, on_number, simplified_atom, deciding, under, joined_signs, listed, parts_in, as_one, decides, united, decided, joint, simplified, simplified_each}
use Rattle.qe_simp.specs.Shape.{IsPrimitive, EachAtom, EachAtomOf}
use Rattle.qe_simp.proofs.Lists.{listed_back}
use Rattle.qe_simp.proofs.Atoms.{primitive_is}
use Rattle.qe_simp.proofs.Parts.{Each, steps, steps-Each}
use Rattle.qe_simp.proofs.Sizes.{one_is}
use Rattle.qe_simp.proofs.Contents.{Ascending, ascending_ordered, ordered_again}
use Rattle.qe_simp.proofs.Deciding.{whole, still_decides}

-- ---- stable formulas

-- the formula is the one part of itself
abbrev pub IsOwn : Connective → Formula → Type 0
IsOwn k f = parts_in k f ≡ f ∷ []

abbrev mutual
  pub Stable : Formula → Type 0
  Stable (Atom a) = IsProper a.signs
  Stable (And fs) = StableParts Conjunction fs × (whole Conjunction (listed fs) ≡ And fs)
  Stable (Or fs) = StableParts Disjunction fs × (whole Disjunction (listed fs) ≡ Or fs)
  Stable f = Unit {0}

  pub StableParts : Connective → Formulas → Type 0
  StableParts k no_more = Unit {0}
  StableParts k (more f fs) = IsOwn k f × Stable f × StableParts k fs

-- ---- proper signs

proper_from : (plus zero minus : Bool) → eqb (bits (record { plus = plus; zero = zero; minus = minus })) 0 ≡ false → eqb (bits (record { plus = plus; zero = zero; minus = minus })) 7 ≡ false → IsProper (record { plus = plus; zero = zero; minus = minus })
proper_from false false false some not_all = absurd (cc)
proper_from true true true some not_all = absurd (cc)
proper_from false false true some not_all = omega arith
proper_from false true false some not_all = omega arith
proper_from false true true some not_all = omega arith
proper_from true false false some not_all = omega arith
proper_from true false true some not_all = omega arith
proper_from true true false some not_all = omega arith

pub proper_if : (s : Signs) → eqb (bits s) 0 ≡ false → eqb (bits s) 7 ≡ false → IsProper s
proper_if s = proper_from s.plus s.zero s.minus

proper_some : (n : ℕ) → 0 < n → eqb n 0 ≡ false
proper_some n less = grind (arith, nat_tests)

proper_not_all : (n : ℕ) → n < 7 → eqb n 7 ≡ false
proper_not_all n less = grind (arith, nat_tests)

mirror_from : (plus zero minus : Bool) → eqb (bits (record { plus = plus; zero = zero; minus = minus })) 0 ≡ false → eqb (bits (record { plus = plus; zero = zero; minus = minus })) 7 ≡ false → IsProper (mirror (record { plus = plus; zero = zero; minus = minus }))
mirror_from false false false some not_all = absurd (cc)
mirror_from true true true some not_all = absurd (cc)
mirror_from false false true some not_all = omega arith
mirror_from false true false some not_all = omega arith
mirror_from false true true some not_all = omega arith
mirror_from true false false some not_all = omega arith
mirror_from true false true some not_all = omega arith
mirror_from true true false some not_all = omega arith

-- ---- pieces: what parts are like before those are merged

abbrev opposite : Connective → Connective
opposite Conjunction = Disjunction
opposite Disjunction = Conjunction

-- an atom whose signs do not leave it out, or another formula that is stable and its own part
abbrev Piece : Connective → Formula → Type 0
Piece k (Atom a) = decides (opposite k) (Atom a) ≡ false
Piece k f = IsOwn k f × Stable f

own_atom : (k : Connective) (a : atom.Atom) → IsOwn k (Atom a)
own_atom Conjunction a = refl
own_atom Disjunction a = refl

proper_piece : (k : Connective) (a : atom.Atom) → IsProper a.signs → Piece k (Atom a)
proper_piece Conjunction a proper = proper_not_all (bits a.signs) proper.1
proper_piece Disjunction a proper = proper_some (bits a.signs) proper.0

piece_from : (k : Connective) (f : Formula) → IsOwn k f → Stable f → Piece k f
piece_from k (Atom a) own stable = proper_piece k a stable
piece_from k f own stable = (own, stable)

pieces_listed : (k : Connective) (fs : Formulas) → StableParts k fs → Each (Piece k) (listed fs)
pieces_listed k no_more parts = tt
pieces_listed k (more f fs) parts = (piece_from k f parts.0 parts.1, pieces_listed k fs parts.2)

pub pieces_in : (k : Connective) (f : Formula) → Stable f → Each (Piece k) (parts_in k f)
pieces_in Conjunction True stable = tt
pieces_in Conjunction (And fs) stable = pieces_listed Conjunction fs stable.0
pieces_in Disjunction False stable = tt
pieces_in Disjunction (Or fs) stable = pieces_listed Disjunction fs stable.0
pieces_in k (Atom a) stable = subst (Each (Piece k)) (sym (own_atom k a)) (proper_piece k a stable, tt)
pieces_in k f stable = ((refl, stable), tt)

-- a piece that does not decide is stable
stable_piece : (k : Connective) (f : Formula) → Piece k f → decides k f ≡ false → IsOwn k f × Stable f
stable_piece Conjunction (Atom a) piece open_still = (refl, proper_if a.signs open_still piece)
stable_piece Disjunction (Atom a) piece open_still = (refl, proper_if a.signs piece open_still)
stable_piece k f piece open_still = piece

absorbed : (k : Connective) (s t : Signs) → joined_signs (opposite k) (joined_signs k s t) s ≡ s
absorbed Conjunction s t = λ i. record { plus = and_or s.plus t.plus i; zero = and_or s.zero t.zero i; minus = and_or s.minus t.minus i }
  where
    and_or : (a b : Bool) → ((a && b) || a) ≡ a
    and_or true true = refl
    and_or true false = refl
    and_or false b = refl
absorbed Disjunction s t = λ i. record { plus = or_and s.plus t.plus i; zero = or_and s.zero t.zero i; minus = or_and s.minus t.minus i }
  where
    or_and : (a b : Bool) → ((a || b) && a) ≡ a
    or_and true b = refl
    or_and false true = refl
    or_and false false = refl

joined_piece : (k : Connective) (a b : atom.Atom) → Piece k (Atom a) → Piece k (Atom (record { poly = a.poly; signs = joined_signs k a.signs b.signs }))
joined_piece k a b piece = by_test (decides (opposite k) made) refl
  where
    made : Formula
    made = Atom (record { poly = a.poly; signs = joined_signs k a.signs b.signs })

    by_test : (t : Bool) → decides (opposite k) (Atom (record { poly = a.poly; signs = joined_signs k a.signs b.signs })) ≡ t → decides (opposite k) (Atom (record { poly = a.poly; signs = joined_signs k a.signs b.signs })) ≡ false
    by_test true test =
        let back : decides (opposite k) (Atom a) ≡ true = sym (ap (λ s. decides (opposite k) (Atom (record { poly = a.poly; signs = s }))) (absorbed k a.signs b.signs))
        ∙ still_decides (opposite k) (Atom a) (joined_signs k a.signs b.signs) a.signs test in
        absurd (no_way (sym back ∙ piece))
      where
        no_way : true ≡ false → ⊥
        no_way same = absurd (cc)
    by_test false test = test

one_piece : (k : Connective) (f g h : Formula) → as_one k f g ≡ Some h → Piece k f → Piece k g → Piece k h
one_piece k f g h is first second = elim (one_is k f g h is) [
  | inl same ↦ subst (Piece k) (sym same) first
  | inr atoms ↦ subst (Piece k) (sym atoms.3) (joined_piece k atoms.0 atoms.1 (subst (Piece k) atoms.2 first))
]

-- ---- what is joined of stable formulas is stable

parts_stable : (k : Connective) (fs : List Formula) → Each (Piece k) fs → list_any (decides k) fs ≡ false → StableParts k (trees_of fs)
parts_stable k [] pieces test = tt
parts_stable k (f ∷ fs) pieces test = by_first (parts_stable k fs pieces.1) (decides k f) refl test
  where
    by_first : (list_any (decides k) fs ≡ false → StableParts k (trees_of fs)) → (b : Bool) → decides k f ≡ b → (b || list_any (decides k) fs) ≡ false → StableParts k (trees_of (f ∷ fs))
    by_first again true first neither = absurd (cc)
    by_first again false first rest = let w = stable_piece k f pieces.0 first in (w.0, w.1, again rest)

whole_again : (k : Connective) (fs : List Formula) → Ascending fs → list_any (decides k) fs ≡ false → whole k fs ≡ united k fs
whole_again k fs ascending test = ap (decided k) (ordered_again k fs ascending) ∙ ap (λ b. cond b (deciding k) (united k fs)) test

stable_connected : (k : Connective) (fs : List Formula) → StableParts k (trees_of fs) → whole k fs ≡ under k fs → Stable (under k fs)
stable_connected Conjunction fs parts same = (parts, ap (whole Conjunction) (listed_back fs) ∙ same)
stable_connected Disjunction fs parts same = (parts, ap (whole Disjunction) (listed_back fs) ∙ same)

stable_closed : (k : Connective) (fs : List Formula) → StableParts k (trees_of fs) → whole k fs ≡ united k fs → Stable (united k fs)
stable_closed Conjunction [] parts same = tt
stable_closed Disjunction [] parts same = tt
stable_closed k (f ∷ []) parts same = parts.1
stable_closed k (f ∷ g ∷ gs) parts same = stable_connected k (f ∷ g ∷ gs) parts same

stable_deciding : (k : Connective) → Stable (deciding k)
stable_deciding Conjunction = tt
stable_deciding Disjunction = tt

stable_joint : (k : Connective) (fs : List Formula) → Each Stable fs → Stable (joint k fs)
stable_joint k fs each = by_test (list_any (decides k) (steps k fs)) refl
  where
    by_test : (b : Bool) → list_any (decides k) (steps k fs) ≡ b → Stable (cond b (deciding k) (united k (steps k fs)))
    by_test true test = stable_deciding k
    by_test false test =
        let pieces = steps-Each (Piece k) Stable k (pieces_in k) (one_piece k) fs each in
        stable_closed k (steps k fs) (parts_stable k (steps k fs) pieces test) (whole_again k (steps k fs) (ascending_ordered k (flat_map (parts_in k) fs)) test)

-- ---- the parts of what is joined

piece_own : (k : Connective) (f : Formula) → Piece k f → IsOwn k f
piece_own k (Atom a) piece = own_atom k a
piece_own k f piece = piece.0

closed_parts : (k : Connective) (fs : List Formula) → Each (Piece k) fs → parts_in k (united k fs) ≡ fs
closed_parts Conjunction [] pieces = refl
closed_parts Disjunction [] pieces = refl
closed_parts k (f ∷ []) pieces = piece_own k f pieces.0
closed_parts Conjunction (f ∷ g ∷ gs) pieces = listed_back (f ∷ g ∷ gs)
closed_parts Disjunction (f ∷ g ∷ gs) pieces = listed_back (f ∷ g ∷ gs)

-- where none decides, the parts of the whole are the merged ones
pub own_closed : (k : Connective) (fs : List Formula) → Each Stable fs → parts_in k (united k (steps k fs)) ≡ steps k fs
own_closed k fs each = closed_parts k (steps k fs) (steps-Each (Piece k) Stable k (pieces_in k) (one_piece k) fs each)

whole_atom : (k : Connective) (a : atom.Atom) → IsProper a.signs → whole k (Atom a ∷ []) ≡ Atom a
whole_atom Conjunction a proper = ap (λ b. cond (b || false) False (Atom a)) (proper_some (bits a.signs) proper.0)
whole_atom Disjunction a proper = ap (λ b. cond (b || false) True (Atom a)) (proper_not_all (bits a.signs) proper.1)

-- a stable formula is the whole of its own parts
pub whole_parts : (k : Connective) (f : Formula) → Stable f → whole k (parts_in k f) ≡ f
whole_parts Conjunction True stable = refl
whole_parts Conjunction (And fs) stable = stable.1
whole_parts Disjunction False stable = refl
whole_parts Disjunction (Or fs) stable = stable.1
whole_parts k (Atom a) stable = ap (whole k) (own_atom k a) ∙ whole_atom k a stable
whole_parts k f stable = refl

-- ---- simplified formulas are stable

stable_truth : (b : Bool) → Stable (truth b)
stable_truth true = tt
stable_truth false = tt

stable_atom : (a : atom.Atom) → Stable (simplified_atom a)
stable_atom a = by_tests (eqb (bits a.signs) 0) (eqb (bits a.signs) 7) refl refl
  where
    by_number : eqb (bits a.signs) 0 ≡ false → eqb (bits a.signs) 7 ≡ false → (o : Option ℤ) → Stable (on_number a o)
    by_number some not_all None = elim (leads_negative a.poly) as (λ b. IsProper (cond b (mirror a.signs) a.signs)) [
      | true ↦ mirror_from a.signs.plus a.signs.zero a.signs.minus some not_all
      | false ↦ proper_if a.signs some not_all
    ]
    by_number some not_all (Some c) = stable_truth (has_sign a.signs (int_sign c))

    by_tests : (s t : Bool) → eqb (bits a.signs) 0 ≡ s → eqb (bits a.signs) 7 ≡ t → Stable (cond s False (cond t True (on_number a (as_number a.poly))))
    by_tests true t none all = tt
    by_tests false true none all = tt
    by_tests false false none all = by_number none all (as_number a.poly)

mutual
  pub simplified_stable : (f : Formula) → Stable (simplified f)
  simplified_stable True = tt
  simplified_stable False = tt
  simplified_stable (Atom a) = stable_atom a
  simplified_stable (And fs) = stable_joint Conjunction (simplified_each fs) (each_stable fs)
  simplified_stable (Or fs) = stable_joint Disjunction (simplified_each fs) (each_stable fs)
  simplified_stable (Not f) = tt
  simplified_stable (Implies f g) = tt
  simplified_stable (Iff f g) = tt
  simplified_stable (Ex x f) = tt
  simplified_stable (All x f) = tt

  pub each_stable : (fs : Formulas) → Each Stable (simplified_each fs)
  each_stable no_more = tt
  each_stable (more f fs) = (simplified_stable f, each_stable fs)

-- ---- stable formulas on primitive polynomials stay as they are

unchanged_atom : (a : atom.Atom) → IsPrimitive a.poly → IsProper a.signs → simplified_atom a ≡ Atom a
unchanged_atom a primitive proper = sym (primitive_is a a.poly a.signs (bits a.signs) (bits a.signs) refl (λ e. absurd (omega (arith, proper.0))) refl (λ e. absurd (omega (arith, proper.1))) primitive.no_number (sym primitive.itself)
    (sym (ap (λ b. cond b (mirror a.signs) a.signs) primitive.positive)))

own_parts : (k : Connective) (fs : Formulas) → StableParts k fs → flat_map (parts_in k) (listed fs) ≡ listed fs
own_parts k no_more parts = refl
own_parts k (more f fs) parts = (λ i. parts.0 i ++ own_parts k fs parts.2 i)

mutual
  pub unchanged : (f : Formula) → Stable f → EachAtom (λ a. IsPrimitive a.poly) f → simplified f ≡ f
  unchanged (Atom a) stable atoms = unchanged_atom a atoms stable
  unchanged (And fs) stable atoms = ap (joint Conjunction) (each_unchanged Conjunction fs stable.0 atoms) ∙ (ap (whole Conjunction) (own_parts Conjunction fs stable.0) ∙ stable.1)
  unchanged (Or fs) stable atoms = ap (joint Disjunction) (each_unchanged Disjunction fs stable.0 atoms) ∙ (ap (whole Disjunction) (own_parts Disjunction fs stable.0) ∙ stable.1)
  unchanged f stable atoms = refl

  each_unchanged : (k : Connective) (fs : Formulas) → StableParts k fs → EachAtomOf (λ a. IsPrimitive a.poly) fs → simplified_each fs ≡ listed fs
  each_unchanged k no_more parts atoms = refl
  each_unchanged k (more f fs) parts atoms = λ i. unchanged f parts.1 atoms.0 i ∷ each_unchanged k fs parts.2 atoms.1 i
