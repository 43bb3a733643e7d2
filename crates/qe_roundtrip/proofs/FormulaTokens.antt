-- The text of a formula is the tokens of its derivation.
use Rattle.std.proofs.Common.{ℕ, suc, ◌+◌, ◌-◌, ◌^◌, ◌≡◌, ◌<◌, ◌≤◌, refl, sym, subst, Bool, true, false, List, [], ◌∷◌, ◌++◌, length, Some, ltb, arith}
use Rattle.std.specs.Prelude.{codes, unsigned_abs, if◌then◌else◌}
use Rattle.std.specs.List.{AllByRecursion}
use Rattle.std.proofs.lemmas.Bool.Decides.{nat_tests}
use Rattle.qe_token.specs.declared.token.Relation.{Relation}
use Rattle.qe_token.specs.declared.token.Relation.TheVariants as relation
use Rattle.qe_token.specs.declared.token.Token.TheVariants as token
use Rattle.qe_coef.specs.Range.{IsInRange}
use Rattle.qe_poly.specs.Monomial.{Monomial, is_high}
use Rattle.qe_poly.specs.Polynomial.{Polynomial}
use Rattle.qe_poly.proofs.Sorted.{Each}
use Rattle.qe_form.specs.declared.form.Atom as atom
use Rattle.qe_form.specs.declared.signs.Signs.{Signs}
use Rattle.qe_form.specs.Fed.{size}
use Rattle.qe_form.specs.Signs.{bits}
use Rattle.qe_form.specs.Formula.{Formula, Formulas, True, False, Atom, And, Or, Not, Implies, Iff, Ex, All, no_more, more}
use Rattle.qe_print.specs.Polynomial.{name_of, polynomial_text}
use Rattle.qe_print.specs.Formula.{relation_to_zero, atom_text, bracketed, part, is_single, formula_text, parts_text}
use Rattle.qe_read.specs.Formula.{relation_signs}
use Rattle.qe_read.specs.Numbered.{binders}
use Rattle.qe_read.proofs.Variables.{Have, Has}
use Rattle.qe_syntax.specs.Grammar as grammar
use Rattle.qe_syntax.specs.Grammar.{Occurrence, plain, opener, word, figure, literal}
use Rattle.qe_roundtrip.proofs.Pieces.{or_no, Parts, Open, Closed, opened, nothing, closed_open, open_closed, open_open, blank_token, one_token}
use Rattle.qe_roundtrip.proofs.Numerals.{zero_opens, name_opens}
use Rattle.qe_roundtrip.proofs.Derived.{name_at, poly_at, relation_of, atom_at, part_at, formula_at, ands_at, ors_at}
use Rattle.qe_roundtrip.proofs.PolynomialTokens.{bare_sign, PowerPrints, TermPrints, poly_opens}
use Rattle.qe_roundtrip.proofs.Legible.{IsStored, Scope, IsKnown, IsAtom, IsLegible, AreLegible}

-- ---- what is printed of a polynomial

at_most : (n : ℕ) → ltb 65535 n ≡ false → n ≤ 65535
at_most n h = grind (arith, nat_tests)

module _ (names free : List (List ℕ)) where
  powers_print : (scope : Scope) (m : Monomial) → is_high m ≡ false → Has (IsKnown names free scope) m → AllByRecursion (PowerPrints names) m
  powers_print scope [] h k = tt
  powers_print scope (a ∷ m) h k =
      let parts = or_no (ltb 65535 a.exponent) (is_high m) h in (record { name = k.0.name; low = at_most a.exponent parts.0 }, powers_print scope m parts.1 k.1)

  terms_print : (scope : Scope) (p : Polynomial) → Each (λ t. IsInRange t.1) p → Each (λ t. is_high t.0 ≡ false) p → Have (IsKnown names free scope) p → AllByRecursion (TermPrints names) p
  terms_print scope [] r l k = tt
  terms_print scope (t ∷ ts) r l k =
      let low : unsigned_abs t.1 ≤ 2 ^ 127 - 1 = omega (arith, r.0) in
      (record { powers = powers_print scope t.0 l.0 k.0; fits = low }, terms_print scope ts r.1 l.1 k.1)

  -- ---- atoms

  relation_opens : (place : ℕ) (r : Relation) → Open place (relation_to_zero (bits (relation_signs r))) (λ ms. plain (token.Relation (place + 1) (relation_of (bits (relation_signs r)))) ∷ figure 0 literal false ∷ ms)
  relation_opens place relation.Equal = closed_open place (codes " = ") (codes "0") (λ ms. plain (token.Relation (place + 1) relation.Equal) ∷ ms) (λ ms. figure 0 literal false ∷ ms)
      (blank_token place (codes " ") (codes "=") (codes " ") (plain (token.Relation (place + 1) relation.Equal)) (token.Relation (place + 1) relation.Equal) refl refl (λ rest. refl) refl (refl, refl) (refl, refl)) (zero_opens (place + 3) false)
  relation_opens place relation.NotEqual = closed_open place (codes " <> ") (codes "0") (λ ms. plain (token.Relation (place + 1) relation.NotEqual) ∷ ms) (λ ms. figure 0 literal false ∷ ms)
      (blank_token place (codes " ") (codes "<>") (codes " ") (plain (token.Relation (place + 1) relation.NotEqual)) (token.Relation (place + 1) relation.NotEqual) refl refl (λ rest. refl) refl (refl, refl) (refl, refl)) (zero_opens (place + 4) false)
  relation_opens place relation.Less = closed_open place (codes " < ") (codes "0") (λ ms. plain (token.Relation (place + 1) relation.Less) ∷ ms) (λ ms. figure 0 literal false ∷ ms)
      (blank_token place (codes " ") (codes "<") (codes " ") (plain (token.Relation (place + 1) relation.Less)) (token.Relation (place + 1) relation.Less) refl refl (λ rest. refl) refl (refl, refl) (refl, refl)) (zero_opens (place + 3) false)
  relation_opens place relation.LessOrEqual = closed_open place (codes " <= ") (codes "0") (λ ms. plain (token.Relation (place + 1) relation.LessOrEqual) ∷ ms) (λ ms. figure 0 literal false ∷ ms)
      (blank_token place (codes " ") (codes "<=") (codes " ") (plain (token.Relation (place + 1) relation.LessOrEqual)) (token.Relation (place + 1) relation.LessOrEqual) refl refl (λ rest. refl) refl (refl, refl) (refl, refl)) (zero_opens (place + 4) false)
  relation_opens place relation.Greater = closed_open place (codes " > ") (codes "0") (λ ms. plain (token.Relation (place + 1) relation.Greater) ∷ ms) (λ ms. figure 0 literal false ∷ ms)
      (blank_token place (codes " ") (codes ">") (codes " ") (plain (token.Relation (place + 1) relation.Greater)) (token.Relation (place + 1) relation.Greater) refl refl (λ rest. refl) refl (refl, refl) (refl, refl)) (zero_opens (place + 3) false)
  relation_opens place relation.GreaterOrEqual = closed_open place (codes " >= ") (codes "0") (λ ms. plain (token.Relation (place + 1) relation.GreaterOrEqual) ∷ ms) (λ ms. figure 0 literal false ∷ ms)
      (blank_token place (codes " ") (codes ">=") (codes " ") (plain (token.Relation (place + 1) relation.GreaterOrEqual)) (token.Relation (place + 1) relation.GreaterOrEqual) refl refl (λ rest. refl) refl (refl, refl) (refl, refl)) (zero_opens (place + 4) false)

  relation_parts : (r : Relation) (rest : List ℕ) → Parts (relation_to_zero (bits (relation_signs r)) ++ rest)
  relation_parts relation.Equal rest = refl
  relation_parts relation.NotEqual rest = refl
  relation_parts relation.Less rest = refl
  relation_parts relation.LessOrEqual rest = refl
  relation_parts relation.Greater rest = refl
  relation_parts relation.GreaterOrEqual rest = refl

  -- what is printed of an atom whose signs are those of a relation
  pub related : (r : Relation) (p : Polynomial) → atom_text names (record { poly = p; signs = relation_signs r }) ≡ polynomial_text names p ++ relation_to_zero (bits (relation_signs r))
  related relation.Equal p = refl
  related relation.NotEqual p = refl
  related relation.Less p = refl
  related relation.LessOrEqual p = refl
  related relation.Greater p = refl
  related relation.GreaterOrEqual p = refl

  atom_by : (place depth : ℕ) (scope : Scope) (r : Relation) (p : Polynomial) → IsStored p → Have (IsKnown names free scope) p
      → Open place (atom_text names (record { poly = p; signs = relation_signs r })) (grammar.comparison depth (atom_at names place (record { poly = p; signs = relation_signs r })))
  atom_by place depth scope r p h k =
      subst (λ text. Open place text (grammar.comparison depth (atom_at names place (record { poly = p; signs = relation_signs r })))) (sym (related r p))
      (open_open place (polynomial_text names p) (relation_to_zero (bits (relation_signs r))) (grammar.term depth true (poly_at names place p))
      (λ ms. plain (token.Relation (place + length (polynomial_text names p) + 1) (relation_of (bits (relation_signs r)))) ∷ figure 0 literal false ∷ ms)
      (poly_opens names place depth true p (terms_print scope p h.in_range h.low k)) (λ rest q. relation_parts r rest) (relation_opens (place + length (polynomial_text names p)) r))

  atom_opens : (place depth : ℕ) (scope : Scope) (a : atom.Atom) → IsAtom names free scope a → Open place (atom_text names a) (grammar.comparison depth (atom_at names place a))
  atom_opens place depth scope a h =
      subst (λ (s : Signs). Open place (atom_text names (record { poly = a.poly; signs = s })) (grammar.comparison depth (atom_at names place (record { poly = a.poly; signs = s })))) (sym h.signs)
      (atom_by place depth scope h.relation a.poly h.stored h.known)

  -- ---- parts

  abbrev Opens : Formula → Type 0
  Opens f = (place depth : ℕ) → Open place (formula_text names f) (grammar.formula depth (formula_at names place f))

  abbrev Brackets : Formula → Type 0
  Brackets f = (place depth : ℕ) → Open place (bracketed f (formula_text names f)) (grammar.unary depth (part_at names place f (formula_at names (place + 1) f)))

  open_bracket : (place depth : ℕ) → Closed place (codes "[") (λ ms. opener token.OpenBracket depth false ∷ ms)
  open_bracket place depth = bare_sign place (codes "[") (opener token.OpenBracket depth false) token.OpenBracket refl (refl, refl) refl (λ b. refl)

  close_bracket : (place : ℕ) → Closed place (codes "]") (λ ms. plain token.CloseBracket ∷ ms)
  close_bracket place = bare_sign place (codes "]") (plain token.CloseBracket) token.CloseBracket refl (refl, refl) refl (λ b. refl)

  in_brackets : (f : Formula) → Opens f → (place depth : ℕ) → Open place (codes "[" ++ formula_text names f ++ codes "]") (grammar.unary depth (grammar.bracket (formula_at names (place + 1) f)))
  in_brackets f h place depth =
      opened place (codes "[" ++ formula_text names f ++ codes "]") (grammar.unary depth (grammar.bracket (formula_at names (place + 1) f)))
      (open_closed place (codes "[" ++ formula_text names f) (codes "]") (λ ms. opener token.OpenBracket depth false ∷ grammar.formula (depth + 1) (formula_at names (place + 1) f) ms) (λ ms. plain token.CloseBracket ∷ ms)
      (closed_open place (codes "[") (formula_text names f) (λ ms. opener token.OpenBracket depth false ∷ ms) (grammar.formula (depth + 1) (formula_at names (place + 1) f)) (open_bracket place depth) (h (place + 1) (depth + 1)))
      (λ rest. refl) (close_bracket (place + length (codes "[" ++ formula_text names f))))

  part_opens : (f : Formula) → Opens f → Brackets f
  part_opens True h = h
  part_opens False h = h
  part_opens (Atom a) h = h
  part_opens (And fs) h = in_brackets (And fs) h
  part_opens (Or fs) h = in_brackets (Or fs) h
  part_opens (Not f) h = in_brackets (Not f) h
  part_opens (Implies f g) h = in_brackets (Implies f g) h
  part_opens (Iff f g) h = in_brackets (Iff f g) h
  part_opens (Ex x f) h = in_brackets (Ex x f) h
  part_opens (All x f) h = in_brackets (All x f) h

  -- ---- words

  constant_opens : (place depth : ℕ) (value : Bool) → Open place (if value then codes "true" else codes "false") (grammar.unary depth (grammar.constant value))
  constant_opens place depth true = one_token place (codes "true") (word token.True true) token.True refl (refl, refl) refl
  constant_opens place depth false = one_token place (codes "false") (word token.False true) token.False refl (refl, refl) refl

  and_closes : (place : ℕ) → Closed place (codes " and ") (λ ms. plain token.And ∷ ms)
  and_closes place = blank_token place (codes " ") (codes "and") (codes " ") (plain token.And) token.And refl refl (λ rest. refl) refl (refl, refl) refl

  or_closes : (place : ℕ) → Closed place (codes " or ") (λ ms. plain token.Or ∷ ms)
  or_closes place = blank_token place (codes " ") (codes "or") (codes " ") (plain token.Or) token.Or refl refl (λ rest. refl) refl (refl, refl) refl

  implies_closes : (place : ℕ) → Closed place (codes " implies ") (λ ms. plain token.Implies ∷ ms)
  implies_closes place = blank_token place (codes " ") (codes "implies") (codes " ") (plain token.Implies) token.Implies refl refl (λ rest. refl) refl (refl, refl) refl

  iff_closes : (place : ℕ) → Closed place (codes " iff ") (λ ms. plain token.Iff ∷ ms)
  iff_closes place = blank_token place (codes " ") (codes "iff") (codes " ") (plain token.Iff) token.Iff refl refl (λ rest. refl) refl (refl, refl) refl

  not_closes : (place depth : ℕ) → Closed place (codes "not ") (λ ms. opener token.Not depth false ∷ ms)
  not_closes place depth = blank_token place [] (codes "not") (codes " ") (opener token.Not depth false) token.Not refl refl (λ rest. refl) refl (refl, refl) refl

  ex_closes : (place : ℕ) → Closed place (codes "ex ") (λ ms. plain token.Ex ∷ ms)
  ex_closes place = blank_token place [] (codes "ex") (codes " ") (plain token.Ex) token.Ex refl refl (λ rest. refl) refl (refl, refl) refl

  all_closes : (place : ℕ) → Closed place (codes "all ") (λ ms. plain token.All ∷ ms)
  all_closes place = blank_token place [] (codes "all") (codes " ") (plain token.All) token.All refl refl (λ rest. refl) refl (refl, refl) refl

  dot_closes : (place : ℕ) → Closed place (codes ". ") (λ ms. plain token.Dot ∷ ms)
  dot_closes place = blank_token place [] (codes ".") (codes " ") (plain token.Dot) token.Dot refl refl (λ rest. refl) refl (refl, refl) refl

  -- ---- formulas

  pub is_more : (f : Formula) (fs : Formulas) → 1 < size (more f fs) → is_single (more f fs) ≡ false
  is_more f no_more h = absurd (omega arith)
  is_more f (more g gs) h = refl

  ands_part : (fs : Formulas) (rest : List ℕ) → Parts rest → Parts (parts_text names (codes " and ") false false fs ++ rest)
  ands_part no_more rest p = p
  ands_part (more f fs) rest p = refl

  ors_part : (fs : Formulas) (rest : List ℕ) → Parts rest → Parts (parts_text names (codes " or ") false false fs ++ rest)
  ors_part no_more rest p = p
  ors_part (more f fs) rest p = refl

  mutual
    pub formula_opens : (f : Formula) (n : ℕ) (scope : Scope) → IsLegible names free n scope f → (place depth : ℕ) → Open place (formula_text names f) (grammar.formula depth (formula_at names place f))
    formula_opens True n scope h place depth = constant_opens place depth true
    formula_opens False n scope h place depth = constant_opens place depth false
    formula_opens (Atom a) n scope h place depth = atom_opens place depth scope a h
    formula_opens (And no_more) n scope h place depth = absurd (omega (arith, h.0))
    formula_opens (And (more f fs)) n scope h place depth =
        subst (λ (alone : Bool). Open place (part alone f (formula_text names f) ++ parts_text names (codes " and ") false alone fs) (grammar.formula depth (formula_at names place (And (more f fs))))) (sym (is_more f fs h.0))
        (open_open place (bracketed f (formula_text names f)) (parts_text names (codes " and ") false false fs) (grammar.unary depth (part_at names place f (formula_at names (place + 1) f)))
        (grammar.andses depth (ands_at names (place + length (bracketed f (formula_text names f))) fs))
        (part_opens f (formula_opens f n scope h.1.0) place depth) (ands_part fs) (ands_open fs (n + length (binders f)) scope h.1.1 (place + length (bracketed f (formula_text names f))) depth))
    formula_opens (Or no_more) n scope h place depth = absurd (omega (arith, h.0))
    formula_opens (Or (more f fs)) n scope h place depth =
        subst (λ (alone : Bool). Open place (part alone f (formula_text names f) ++ parts_text names (codes " or ") false alone fs) (grammar.formula depth (formula_at names place (Or (more f fs))))) (sym (is_more f fs h.0))
        (open_open place (bracketed f (formula_text names f)) (parts_text names (codes " or ") false false fs) (grammar.unary depth (part_at names place f (formula_at names (place + 1) f)))
        (grammar.orses depth (ors_at names (place + length (bracketed f (formula_text names f))) fs))
        (part_opens f (formula_opens f n scope h.1.0) place depth) (ors_part fs) (ors_open fs (n + length (binders f)) scope h.1.1 (place + length (bracketed f (formula_text names f))) depth))
    formula_opens (Not f) n scope h place depth =
        closed_open place (codes "not ") (bracketed f (formula_text names f)) (λ ms. opener token.Not depth false ∷ ms) (grammar.unary (depth + 1) (part_at names (place + 4) f (formula_at names (place + 4 + 1) f)))
        (not_closes place depth) (part_opens f (formula_opens f n scope h) (place + 4) (depth + 1))
    formula_opens (Implies f g) n scope h place depth =
        let behind = place + length (bracketed f (formula_text names f) ++ codes " implies ") in
        let one : List Occurrence → List Occurrence = grammar.unary depth (part_at names place f (formula_at names (place + 1) f)) in
        closed_open place (bracketed f (formula_text names f) ++ codes " implies ") (bracketed g (formula_text names g)) (λ ms. one (plain token.Implies ∷ ms)) (grammar.unary depth (part_at names behind g (formula_at names (behind + 1) g)))
        (open_closed place (bracketed f (formula_text names f)) (codes " implies ") one (λ ms. plain token.Implies ∷ ms)
        (part_opens f (formula_opens f n scope h.0) place depth) (λ rest. refl) (implies_closes (place + length (bracketed f (formula_text names f)))))
        (part_opens g (formula_opens g (n + length (binders f)) scope h.1) behind depth)
    formula_opens (Iff f g) n scope h place depth =
        let behind = place + length (bracketed f (formula_text names f) ++ codes " iff ") in
        let one : List Occurrence → List Occurrence = grammar.unary depth (part_at names place f (formula_at names (place + 1) f)) in
        closed_open place (bracketed f (formula_text names f) ++ codes " iff ") (bracketed g (formula_text names g)) (λ ms. one (plain token.Iff ∷ ms)) (grammar.unary depth (part_at names behind g (formula_at names (behind + 1) g)))
        (open_closed place (bracketed f (formula_text names f)) (codes " iff ") one (λ ms. plain token.Iff ∷ ms)
        (part_opens f (formula_opens f n scope h.0) place depth) (λ rest. refl) (iff_closes (place + length (bracketed f (formula_text names f)))))
        (part_opens g (formula_opens g (n + length (binders f)) scope h.1) behind depth)
    formula_opens (Ex x f) n scope h place depth =
        let behind = place + length (codes "ex " ++ name_of names x ++ codes ". ") in
        let bound : List Occurrence → List Occurrence = λ ms. opener (token.Name (name_at names (place + 3) x)) depth true ∷ ms in
        closed_open place (codes "ex " ++ name_of names x ++ codes ". ") (formula_text names f) (λ ms. plain token.Ex ∷ bound (plain token.Dot ∷ ms)) (grammar.formula (depth + 1) (formula_at names behind f))
        (open_closed place (codes "ex " ++ name_of names x) (codes ". ") (λ ms. plain token.Ex ∷ bound ms) (λ ms. plain token.Dot ∷ ms)
        (closed_open place (codes "ex ") (name_of names x) (λ ms. plain token.Ex ∷ ms) bound (ex_closes place) (name_opens (place + 3) (name_of names x) (Some depth) true h.1))
        (λ rest. refl) (dot_closes (place + length (codes "ex " ++ name_of names x))))
        (formula_opens f (suc n) (scope ++ (name_of names x, record { 0 = x }) ∷ []) h.2 behind (depth + 1))
    formula_opens (All x f) n scope h place depth =
        let behind = place + length (codes "all " ++ name_of names x ++ codes ". ") in
        let bound : List Occurrence → List Occurrence = λ ms. opener (token.Name (name_at names (place + 4) x)) depth true ∷ ms in
        closed_open place (codes "all " ++ name_of names x ++ codes ". ") (formula_text names f) (λ ms. plain token.All ∷ bound (plain token.Dot ∷ ms)) (grammar.formula (depth + 1) (formula_at names behind f))
        (open_closed place (codes "all " ++ name_of names x) (codes ". ") (λ ms. plain token.All ∷ bound ms) (λ ms. plain token.Dot ∷ ms)
        (closed_open place (codes "all ") (name_of names x) (λ ms. plain token.All ∷ ms) bound (all_closes place) (name_opens (place + 4) (name_of names x) (Some depth) true h.1))
        (λ rest. refl) (dot_closes (place + length (codes "all " ++ name_of names x))))
        (formula_opens f (suc n) (scope ++ (name_of names x, record { 0 = x }) ∷ []) h.2 behind (depth + 1))

    ands_open : (fs : Formulas) (n : ℕ) (scope : Scope) → AreLegible names free n scope fs → (place depth : ℕ) → Open place (parts_text names (codes " and ") false false fs) (grammar.andses depth (ands_at names place fs))
    ands_open no_more n scope h place depth = opened place [] (λ ms. ms) (nothing place)
    ands_open (more f fs) n scope h place depth =
        let one : List Occurrence → List Occurrence = grammar.unary depth (part_at names (place + 5) f (formula_at names (place + 5 + 1) f)) in
        open_open place (codes " and " ++ bracketed f (formula_text names f)) (parts_text names (codes " and ") false false fs) (λ ms. plain token.And ∷ one ms)
        (grammar.andses depth (ands_at names (place + length (codes " and " ++ bracketed f (formula_text names f))) fs))
        (closed_open place (codes " and ") (bracketed f (formula_text names f)) (λ ms. plain token.And ∷ ms) one (and_closes place) (part_opens f (formula_opens f n scope h.0) (place + 5) depth))
        (ands_part fs) (ands_open fs (n + length (binders f)) scope h.1 (place + length (codes " and " ++ bracketed f (formula_text names f))) depth)

    ors_open : (fs : Formulas) (n : ℕ) (scope : Scope) → AreLegible names free n scope fs → (place depth : ℕ) → Open place (parts_text names (codes " or ") false false fs) (grammar.orses depth (ors_at names place fs))
    ors_open no_more n scope h place depth = opened place [] (λ ms. ms) (nothing place)
    ors_open (more f fs) n scope h place depth =
        let one : List Occurrence → List Occurrence = grammar.unary depth (part_at names (place + 4) f (formula_at names (place + 4 + 1) f)) in
        open_open place (codes " or " ++ bracketed f (formula_text names f)) (parts_text names (codes " or ") false false fs) (λ ms. plain token.Or ∷ one ms)
        (grammar.orses depth (ors_at names (place + length (codes " or " ++ bracketed f (formula_text names f))) fs))
        (closed_open place (codes " or ") (bracketed f (formula_text names f)) (λ ms. plain token.Or ∷ ms) one (or_closes place) (part_opens f (formula_opens f n scope h.0) (place + 4) depth))
        (ors_part fs) (ors_open fs (n + length (binders f)) scope h.1 (place + length (codes " or " ++ bracketed f (formula_text names f))) depth)
