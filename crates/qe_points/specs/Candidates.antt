-- The candidates of a formula: the roots of its atoms' polynomials, what is just above such roots,
-- and what is below all numbers.
use Rattle.std.specs.Prelude.{ℕ, suc, Bool, true, false, not, ◌&&◌, eqb, nat_lt, cond, List, [], ◌∷◌, ◌++◌}
use Rattle.std.specs.List.{filter, flat_map, list_any}
use Rattle.qe_poly.specs.Polynomial.{Polynomial}
use Rattle.qe_poly.specs.Coefficients.{degree_in}
use Rattle.qe_poly.specs.Equal.{poly_eq}
use Rattle.qe_form.specs.declared.form.Atom as atom
use Rattle.qe_form.specs.Formula.{Formula}
use Rattle.qe_root.specs.Atoms.{atoms}
use Rattle.qe_points.specs.declared.candidate.Which.TheVariants.{Linear, Upper, Lower}
use Rattle.qe_points.specs.declared.candidate.Candidate.{Candidate}
use Rattle.qe_points.specs.declared.candidate.Candidate.TheVariants.{Root, MinusInf}
use Rattle.qe_points.specs.declared.candidate.Spot.{Spot}
use Rattle.qe_points.specs.declared.candidate.Spot.TheVariants.{At, Above}

-- a polynomial with the number of an atom
abbrev pub Numbered : Type 0
Numbered = Polynomial × ℕ

-- whether the atom's polynomial has the variable, and its signs have zero or have it not, as asked
-- for
abbrev pub gives : ℕ → (zero : Bool) → atom.Atom → Bool
gives x zero a = nat_lt 0 (degree_in x a.poly) && cond zero a.signs.zero (not a.signs.zero)

-- the polynomials with the variable of the atoms whose signs have zero, or of those whose signs
-- have it not, with the atoms' numbers; the first atom has the number n
abbrev pub numbered : ℕ → (zero : Bool) → (n : ℕ) → List atom.Atom → List Numbered
numbered x zero n [] = []
numbered x zero n (a ∷ rest) =
    cond (gives x zero a) ((a.poly, n) ∷ numbered x zero (suc n) rest) (numbered x zero (suc n) rest)

-- each polynomial once, at its first place
abbrev pub distinct : List Numbered → List Numbered
distinct [] = []
distinct (g ∷ gs) = g ∷ filter (λ h. not (poly_eq g.0 h.0)) (distinct gs)

-- the candidates at the roots of a polynomial of degree one or two, or just above them
abbrev pub roots_of : ℕ → (plus : Bool) → Numbered → List Candidate
roots_of x plus g =
    cond (eqb (degree_in x g.0) 1) (Root g.0 g.1 Linear plus ∷ [])
    (cond (eqb (degree_in x g.0) 2)
    (Root g.0 g.1 Linear plus ∷ Root g.0 g.1 Upper plus ∷ Root g.0 g.1 Lower plus ∷ []) [])

-- at the roots of each
abbrev pub roots : ℕ → (plus : Bool) → List Numbered → List Candidate
roots x plus gs = flat_map (roots_of x plus) gs

-- the roots of the polynomials where zero is allowed, then what is just above those where it is
-- not, and last what is below all
abbrev pub candidates : ℕ → Formula → List Candidate
candidates x f =
    roots x false (distinct (numbered x true 0 (atoms f)))
    ++ (roots x true (distinct (numbered x false 0 (atoms f))) ++ MinusInf ∷ [])

-- ---- what the code keeps

-- one more at the end, unless its polynomial is there
abbrev pub with_one : List Numbered → Numbered → List Numbered
with_one gs g = cond (list_any (λ h. poly_eq g.0 h.0) gs) gs (gs ++ g ∷ [])

-- whether a candidate stands just above its root
abbrev pub is_above : Spot → Bool
is_above At = false
is_above Above = true
