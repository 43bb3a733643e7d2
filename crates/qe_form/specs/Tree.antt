-- The tree of a `Form` of the code.
use Rattle.std.specs.Prelude.{map, List, [], ◌∷◌}
use Rattle.qe_form.specs.Formula.{Formula, True, False, Atom, And, Or, Not, Implies, Iff, Ex, All, Formulas, no_more, more}
use Rattle.qe_form.specs.declared.form.Form as code
use Rattle.qe_form.specs.declared.form.Form.TheOpen as layer
use Rattle.qe_form.specs.declared.form.Form.TheFolds.{fold-Form}

-- formulas in order, as a list and as the parts of a formula
abbrev pub trees_of : List Formula → Formulas
trees_of [] = no_more
trees_of (t ∷ ts) = more t (trees_of ts)

-- the tree of a form whose parts are given by their trees
abbrev pub tree_step : layer.Form-F Formula → Formula
tree_step layer.Form-F.True = True
tree_step layer.Form-F.False = False
tree_step (layer.Form-F.Atom a) = Atom a
tree_step (layer.Form-F.And ts) = And (trees_of ts)
tree_step (layer.Form-F.Or ts) = Or (trees_of ts)
tree_step (layer.Form-F.Not t) = Not t.value
tree_step (layer.Form-F.Implies t u) = Implies t.value u.value
tree_step (layer.Form-F.Iff t u) = Iff t.value u.value
tree_step (layer.Form-F.Ex x t) = Ex x.0 t.value
tree_step (layer.Form-F.All x t) = All x.0 t.value

-- the tree of a form
abbrev pub tree : code.Form → Formula
tree = fold-Form Formula tree_step

-- the trees of a list of forms
abbrev pub trees : List code.Form → Formulas
trees fs = trees_of (map tree fs)

-- the trees of a list, and then others
abbrev pub followed : List code.Form → Formulas → Formulas
followed [] ts = ts
followed (f ∷ fs) ts = more (tree f) (followed fs ts)
