-- When the variables of a formula fit a list of names: said of formulas.
pub use Rattle.qe_form.specs.Numbered.{binders, binders_each, Occurs, OccursInOne, IsWellNumbered}
