-- The laws of the simplified form, stated.
use Rattle.std.specs.Prelude.{◌≡◌, List}
use Rattle.std.specs.List.{Contains}
use Rattle.qe_form.specs.Formula.{Formula, And, Or}
use Rattle.qe_form.specs.Tree.{trees_of}
use Rattle.qe_form.specs.Same.{HasNoQuantifier}
use Rattle.qe_form.specs.Plain.{IsPlain, IsPlainWith, IsPlainAndProper}
use Rattle.qe_simp.specs.Simplified.{simplified}
use Rattle.qe_simp.specs.Meaning.{Keeps}
use Rattle.qe_simp.specs.Shape.{IsSimplified, EachAtom, IsCanonicalAtom}
use Rattle.qe_simp.specs.Alike.{Alike}

-- where the polynomials are canonical, simplifying keeps truth and falsity, adds no free variable,
-- and leaves at most as many atoms and constants, or one
abbrev pub SimplifiedKeeps : Type 0
SimplifiedKeeps = (f : Formula) → EachAtom IsCanonicalAtom f → Keeps f (simplified f)

-- where the polynomials are canonical, simplifying twice is simplifying once
abbrev pub Idempotent : Type 0
Idempotent = (f : Formula) → EachAtom IsCanonicalAtom f → simplified (simplified f) ≡ simplified f

-- formulas that are the same up to the order, the nesting and repeats of parts have one simplified
-- form
abbrev pub AlikeIsEqual : Type 0
AlikeIsEqual = (f g : Formula) → Alike f g → simplified f ≡ simplified g

-- the same formulas stand in both lists, in whatever order and how often
abbrev pub HaveSameParts : List Formula → List Formula → Type 0
HaveSameParts fs gs =
    ((f : Formula) → Contains fs f → Contains gs f)
    × ((f : Formula) → Contains gs f → Contains fs f)

-- an And, or an Or, of the same parts has one simplified form
pub record SamePartsIsEqual : Type 0 where
  pub in_and : (fs gs : List Formula) → HaveSameParts fs gs
      → simplified (And (trees_of fs)) ≡ simplified (And (trees_of gs))
  pub in_or : (fs gs : List Formula) → HaveSameParts fs gs
      → simplified (Or (trees_of fs)) ≡ simplified (Or (trees_of gs))

-- what is known of the simplified form of a plain formula with canonical polynomials
pub record PlainIsSimplified : Type 0 where
  pub made : (f : Formula) → IsPlainWith IsCanonicalAtom f → IsSimplified (simplified f)
  pub plain : (f : Formula) → IsSimplified f → IsPlain f
  pub proper : (f : Formula) → IsSimplified f → IsPlainAndProper f
  pub no_quantifier : (f : Formula) → IsSimplified f → HasNoQuantifier f
