use Rattle.std.proofs.Common.{◌∙◌, sym, ap, not, true, false, Bor, arith}
use Rattle.qe_form.specs.declared.form.Atom as atom
use Rattle.qe_poly.specs.Polynomial.{IsPolynomial}
use Rattle.qe_points.proofs.Gathering.{turn_first, turn_given, turn_other, turn_free, turn_end, each_more}
use Rattle.qe_points.proofs.candidate_list.grouped.Goals.{then-degree_in-gt0+then-has_zero+in_ok-note, then-degree_in-gt0+else-has_zero+in_ok-note-2, else-degree_in-gt0}
use Rattle.qe_points.proofs.candidate_list.grouped.Goals as goal

pub loop-number-init : goal.loop-number-init
loop-number-init c = record {
  zero = turn_first (λ a. a.now) c.args.x.0 true c.args.atoms.now _ c.new-zero.ensures.empty;
  other = turn_first (λ a. a.now) c.args.x.0 false c.args.atoms.now _ c.new-other.ensures.empty;
  canonical = λ k d below. absurd (omega arith);
}

pub loop-number-preserved : goal.loop-number-preserved
loop-number-preserved c =
    let canonical = each_more (λ (a : Bor atom.Atom). IsPolynomial a.now.poly) c.args.atoms.now c.loop-number.number c.index-atoms-number.result c.loop-number-test.true c.index-atoms-number.is
    c.degree_in.ensures.canonical c.loop-number.invariant.canonical in
    elim c.if-degree_in-gt0.branch [
      | then-degree_in-gt0+then-has_zero+in_ok-note w ↦ record {
        zero = turn_given (λ a. a.now) c.args.x.0 true _ c.args.atoms.now c.loop-number.number c.index-atoms-number.result c.loop-number-test.true c.index-atoms-number.is _ _
            c.loop-number.invariant.zero (omega (arith, c.degree_in.ensures.degree)) (sym w.has_zero.ensures ∙ w.if-has_zero.true) (ap (λ m. m.entries) w.zero-is ∙ w.in_ok-note.ensures);
        other = turn_other (λ a. a.now) c.args.x.0 false _ c.args.atoms.now c.loop-number.number c.index-atoms-number.result c.loop-number-test.true c.index-atoms-number.is _ _
            c.loop-number.invariant.other (ap not (sym w.has_zero.ensures ∙ w.if-has_zero.true)) (ap (λ m. m.entries) w.other-is);
        canonical = canonical;
      }
      | then-degree_in-gt0+else-has_zero+in_ok-note-2 w ↦ record {
        zero = turn_other (λ a. a.now) c.args.x.0 true _ c.args.atoms.now c.loop-number.number c.index-atoms-number.result c.loop-number-test.true c.index-atoms-number.is _ _
            c.loop-number.invariant.zero (sym w.has_zero.ensures ∙ w.if-has_zero.false) (ap (λ m. m.entries) w.zero-is);
        other = turn_given (λ a. a.now) c.args.x.0 false _ c.args.atoms.now c.loop-number.number c.index-atoms-number.result c.loop-number-test.true c.index-atoms-number.is _ _
            c.loop-number.invariant.other (omega (arith, c.degree_in.ensures.degree)) (ap not (sym w.has_zero.ensures ∙ w.if-has_zero.false)) (ap (λ m. m.entries) w.other-is ∙ w.in_ok-note-2.ensures);
        canonical = canonical;
      }
      | else-degree_in-gt0 w ↦ record {
        zero = turn_free (λ a. a.now) c.args.x.0 true _ c.args.atoms.now c.loop-number.number c.index-atoms-number.result c.loop-number-test.true c.index-atoms-number.is _ _
            c.loop-number.invariant.zero (omega (arith, c.degree_in.ensures.degree)) (ap (λ m. m.entries) w.zero-is);
        other = turn_free (λ a. a.now) c.args.x.0 false _ c.args.atoms.now c.loop-number.number c.index-atoms-number.result c.loop-number-test.true c.index-atoms-number.is _ _
            c.loop-number.invariant.other (omega (arith, c.degree_in.ensures.degree)) (ap (λ m. m.entries) w.other-is);
        canonical = canonical;
      }
    ]

pub returns : goal.returns
returns c = record {
  zero = turn_end (λ a. a.now) c.args.x.0 true _ c.args.atoms.now c.loop-number.number _ c.loop-number-test.false c.loop-number.invariant.zero;
  other = turn_end (λ a. a.now) c.args.x.0 false _ c.args.atoms.now c.loop-number.number _ c.loop-number-test.false c.loop-number.invariant.other;
  canonical = λ k d within. c.loop-number.invariant.canonical k d (omega arith);
}
