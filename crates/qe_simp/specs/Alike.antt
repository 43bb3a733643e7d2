-- Formulas that are the same up to the order, the nesting and repeats of parts.
use Rattle.std.specs.Prelude.{List, [], ◌∷◌, ◌++◌}
use Rattle.std.specs.List.{Contains}
use Rattle.qe_form.specs.Formula.{Formula}
use Rattle.qe_simp.specs.declared.connective.Connective.{Connective}
use Rattle.qe_simp.specs.Simplified.{under}

mutual
  -- An And of parts that are an And themselves is the And of all their parts, an And of one part is
  -- that part, and it does not matter in what order the parts of an And stand, nor how often; the
  -- same of Or.
  pub data Alike : Formula → Formula → Type 0 where
    itself : {f : Formula} → Alike f f
    back : {f g : Formula} → Alike f g → Alike g f
    onward : {f g h : Formula} → Alike f g → Alike g h → Alike f h
    flat : (k : Connective) (fs gs : List Formula)
        → Alike (under k (under k fs ∷ gs)) (under k (fs ++ gs))
    alone : (k : Connective) (f : Formula) → Alike (under k (f ∷ [])) f
    same_parts : (k : Connective) (fs gs : List Formula) → EachIsAmong fs gs → EachIsAmong gs fs
        → Alike (under k fs) (under k gs)

  -- each formula is alike to one of the others
  pub data EachIsAmong : List Formula → List Formula → Type 0 where
    none : {gs : List Formula} → EachIsAmong [] gs
    and_one : {f g : Formula} {fs gs : List Formula} → Contains gs g → Alike f g
        → EachIsAmong fs gs → EachIsAmong (f ∷ fs) gs
