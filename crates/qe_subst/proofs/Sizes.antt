-- No part of a formula is deeper than the formula.
use Rattle.std.proofs.Common.{ℕ, ◌≡◌, ◌<◌, ◌≤◌, sym, subst, List, length, get_or}
use Rattle.qe_form.specs.declared.form.Form.{Form}
use Rattle.qe_form.proofs.form.Form.TheLaws.{the_size}
use denote.Param.Weighed.{at_most, most}

pub part_size : (fs all : List Form) (i : ℕ) (f : Form) → fs ≡ all → i < length fs → f ≡ get_or fs i f → the_size f ≤ most the_size all
part_size fs all i f same h e =
    let r : the_size (get_or fs i f) ≤ most the_size fs = at_most {X = Form} the_size fs i f h in
    subst (λ gs. the_size f ≤ most the_size gs) same (subst (λ g. the_size g ≤ most the_size fs) (sym e) r)
