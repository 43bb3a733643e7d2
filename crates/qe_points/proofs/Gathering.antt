-- Loops over formulas, atoms and polynomials that make lists.
use Rattle.std.proofs.Common.{ℕ, zero, suc, ◌+◌, ◌≡◌, ◌∙◌, ◌<◌, ◌≤◌, inl, inr, ltb, sym, ap, subst, refl, Bool, true, false, not, cond, List, [], ◌∷◌, ◌++◌, map, length, get_or, drop, drop-cons, add-one, append_assoc, arith}
use Rattle.std.specs.Prelude.{◌&&◌, ◌⊎◌, nat_lt}
use Rattle.std.proofs.lemmas.List.{append-nil, drop_all}
use Rattle.std.proofs.lemmas.Bool.Decides.{nat_tests}
use Rattle.qe_poly.specs.Coefficients.{degree_in}
use Rattle.qe_form.specs.declared.form.Atom as atom
use Rattle.qe_form.specs.Formula.{Formula, Formulas, no_more, more}
use Rattle.qe_root.specs.Atoms.{atoms, atoms_of}
use Rattle.qe_points.specs.declared.candidate.Candidate.{Candidate}
use Rattle.qe_points.specs.declared.candidate.Candidate.TheVariants.{MinusInf}
use Rattle.qe_points.specs.Candidates.{Numbered, gives, numbered, distinct, with_one, roots_of, roots, candidates}
use Rattle.qe_points.proofs.Listing.{entered, entered_first}

-- ---- the atoms of parts

pub atoms_more : (new old all : List atom.Atom) (t : Formula) (left rest : Formulas) → left ≡ more t rest → new ≡ old ++ atoms t → old ++ atoms_of left ≡ all → new ++ atoms_of rest ≡ all
atoms_more new old all t left rest taken made before =
    ap (λ list. list ++ atoms_of rest) made ∙ (append_assoc old (atoms t) (atoms_of rest) ∙ (ap (λ fs. old ++ atoms_of fs) (sym taken) ∙ before))

pub atoms_all : (new all : List atom.Atom) (left : Formulas) → left ≡ no_more → new ++ atoms_of left ≡ all → new ≡ all
atoms_all new all left none before = sym (append-nil new) ∙ (ap (λ fs. new ++ atoms_of fs) (sym none) ∙ before)

-- ---- the polynomials of atoms

drop-map : {X Y : Type 0} (f : X → Y) (i : ℕ) (xs : List X) → drop i (map f xs) ≡ map f (drop i xs)
drop-map f zero xs = refl
drop-map f (suc i) [] = refl
drop-map f (suc i) (x ∷ xs) = drop-map f i xs

module _ {X : Type 0} (shown : X → atom.Atom) (x : ℕ) (zero_in : Bool) (all : List Numbered) (items : List X) where
  -- what is left decides
  abbrev pub IsLeft : ℕ → List Numbered → Type 0
  IsLeft i gs = entered gs (numbered x zero_in i (drop i (map shown items))) ≡ all

  entered_turn : (i : ℕ) (a : atom.Atom) (rest : List atom.Atom) (gs new : List Numbered) (b : Bool) → gives x zero_in a ≡ b → new ≡ cond b (with_one gs (a.poly, i)) gs
      → entered gs (numbered x zero_in i (a ∷ rest)) ≡ entered new (numbered x zero_in (suc i) rest)
  entered_turn i a rest gs new true given is =
      ap (λ b. entered gs (cond b ((a.poly, i) ∷ numbered x zero_in (suc i) rest) (numbered x zero_in (suc i) rest))) given
      ∙ ap (λ g. entered g (numbered x zero_in (suc i) rest)) (sym is)
  entered_turn i a rest gs new false given is =
      ap (λ b. entered gs (cond b ((a.poly, i) ∷ numbered x zero_in (suc i) rest) (numbered x zero_in (suc i) rest))) given
      ∙ ap (λ g. entered g (numbered x zero_in (suc i) rest)) (sym is)

  -- one turn, where the item a stands at i
  module _ (i : ℕ) (a : X) (within : i < length items) (here : a ≡ get_or items i a) (gs new : List Numbered) (before : IsLeft i gs) where
    next_left : drop i (map shown items) ≡ shown a ∷ drop (suc i) (map shown items)
    next_left = drop-map shown i items ∙ (ap (map shown) (drop-cons items i a within) ∙ λ j. shown (sym here j) ∷ sym (drop-map shown (suc i) items) j)

    turn : (b : Bool) → gives x zero_in (shown a) ≡ b → new ≡ cond b (with_one gs ((shown a).poly, i)) gs → IsLeft (i + 1) new
    turn b given is =
        rw add-one (sym (entered_turn i (shown a) (drop (suc i) (map shown items)) gs new b given is) ∙ (ap (λ list. entered gs (numbered x zero_in i list)) (sym next_left) ∙ before))

    -- an atom that gives its polynomial, one of the other group, and one without the variable
    pub turn_given : 0 < degree_in x (shown a).poly → cond zero_in (shown a).signs.zero (not (shown a).signs.zero) ≡ true → new ≡ with_one gs ((shown a).poly, i) → IsLeft (i + 1) new
    turn_given degree test is = turn true (λ j. above (degree_in x (shown a).poly) degree j && test j) is
      where
        above : (n : ℕ) → 0 < n → nat_lt 0 n ≡ true
        above n less = grind (arith, nat_tests)

    pub turn_other : cond zero_in (shown a).signs.zero (not (shown a).signs.zero) ≡ false → new ≡ gs → IsLeft (i + 1) new
    turn_other test is = turn false (and_false (nat_lt 0 (degree_in x (shown a).poly)) _ test) is
      where
        and_false : (a b : Bool) → b ≡ false → (a && b) ≡ false
        and_false true b e = e
        and_false false b e = refl

    pub turn_free : degree_in x (shown a).poly ≤ 0 → new ≡ gs → IsLeft (i + 1) new
    turn_free degree is = turn false (ap (λ b. b && cond zero_in (shown a).signs.zero (not (shown a).signs.zero)) (none (degree_in x (shown a).poly) degree)) is
      where
        none : (n : ℕ) → n ≤ 0 → nat_lt 0 n ≡ false
        none n less = grind (arith, nat_tests)

  -- at the end all are entered
  pub turn_end : (i : ℕ) (gs : List Numbered) → length items ≤ i → IsLeft i gs → gs ≡ all
  turn_end i gs past before = ap (λ list. entered gs (numbered x zero_in i list)) (sym (drop-map shown i items ∙ ap (map shown) (drop_all i items past))) ∙ before

-- before the first turn
pub turn_first : {X : Type 0} (shown : X → atom.Atom) (x : ℕ) (zero_in : Bool) (items : List X) (gs : List Numbered) → gs ≡ []
    → IsLeft shown x zero_in (distinct (numbered x zero_in 0 (map shown items))) items 0 gs
turn_first shown x zero_in items gs none = ap (λ g. entered g (numbered x zero_in 0 (map shown items))) none ∙ entered_first (numbered x zero_in 0 (map shown items))

-- ---- what holds of each item so far

get_or_any : {X : Type 0} (xs : List X) (i : ℕ) (d e : X) → i < length xs → get_or xs i d ≡ get_or xs i e
get_or_any [] i d e within = absurd (omega arith)
get_or_any (x ∷ xs) zero d e within = refl
get_or_any (x ∷ xs) (suc i) d e within = get_or_any xs i d e (omega arith)

pub each_more : {X : Type 0} (P : X → Type 0) (xs : List X) (i : ℕ) (a : X) → i < length xs → a ≡ get_or xs i a → P a → ((k : ℕ) (d : X) → k < i → P (get_or xs k d))
    → (k : ℕ) (d : X) → k < i + 1 → P (get_or xs k d)
each_more P xs i a within here holds before k d below = elim (earlier k i below) [
  | inl less ↦ before k d less
  | inr same ↦ subst (λ j. P (get_or xs j d)) (sym same) (subst P (here ∙ get_or_any xs i a d within) holds)
]
  where
    earlier : (k i : ℕ) → k < i + 1 → (k < i) ⊎ (k ≡ i)
    earlier k i below = elim (decide (ltb k i) refl) [ inl less ↦ inl less | inr same ↦ inr same ]
      where
        decide : (b : Bool) → ltb k i ≡ b → (k < i) ⊎ (k ≡ i)
        decide true test = let less : k < i = grind (arith, nat_tests) in inl less
        decide false test = let same : k ≡ i = grind (arith, nat_tests) in inr same

-- ---- the candidates of polynomials

pub roots_more : (x : ℕ) (plus : Bool) (new old all : List Candidate) (g : Numbered) (left rest : List Numbered) → left ≡ g ∷ rest → new ≡ old ++ roots_of x plus g
    → old ++ roots x plus left ≡ all → new ++ roots x plus rest ≡ all
roots_more x plus new old all g left rest taken made before =
    ap (λ cs. cs ++ roots x plus rest) made ∙ (append_assoc old (roots_of x plus g) (roots x plus rest) ∙ (ap (λ gs. old ++ roots x plus gs) (sym taken) ∙ before))

pub roots_all : (x : ℕ) (plus : Bool) (new all : List Candidate) (left : List Numbered) → left ≡ [] → new ++ roots x plus left ≡ all → new ≡ all
roots_all x plus new all left none before = sym (append-nil new) ∙ (ap (λ gs. new ++ roots x plus gs) (sym none) ∙ before)

-- all in their order
pub candidates_are : (x : ℕ) (f : Formula) (given : List atom.Atom) (zeros others : List Numbered) (none first second last : List Candidate) → given ≡ atoms f
    → zeros ≡ distinct (numbered x true 0 given) → others ≡ distinct (numbered x false 0 given)
    → none ≡ [] → first ≡ none ++ roots x false zeros → second ≡ first ++ roots x true others → last ≡ second ++ MinusInf ∷ [] → last ≡ candidates x f
candidates_are x f given zeros others none first second last atoms_is zeros_are others_are empty roots_are both pushed =
    pushed ∙ (ap (λ cs. cs ++ MinusInf ∷ []) (both ∙ λ i. firsts i ++ roots x true (rest i))
    ∙ append_assoc (roots x false (distinct (numbered x true 0 (atoms f)))) (roots x true (distinct (numbered x false 0 (atoms f)))) (MinusInf ∷ []))
  where
    firsts : first ≡ roots x false (distinct (numbered x true 0 (atoms f)))
    firsts = roots_are ∙ (λ i. empty i ++ roots x false ((zeros_are ∙ ap (λ list. distinct (numbered x true 0 list)) atoms_is) i))

    rest : others ≡ distinct (numbered x false 0 (atoms f))
    rest = others_are ∙ ap (λ list. distinct (numbered x false 0 list)) atoms_is
