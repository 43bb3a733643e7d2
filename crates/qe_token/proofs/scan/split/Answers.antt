use Rattle.std.proofs.Common.{◌∙◌, get_or, refl, sym}
use Rattle.qe_token.proofs.Scanned.{grew, ended_by_blank, ended_by_next}
use Rattle.qe_token.proofs.scan.split.Goals as goal
use Rattle.qe_token.proofs.scan.split.Goals.{then-not-goes_on+in_ok-finish+then-is_blank, then-not-goes_on+in_ok-finish+else-is_blank, else-not-goes_on}

pub loop-end-preserved : goal.loop-end-preserved
loop-end-preserved c =
    let bytes = c.args.bytes.now in
    let found = c.loop-end.tokens.items in
    let start = c.loop-end.start in
    let end = c.loop-end.end in
    let byte = get_or bytes end 0 in
    let before = c.loop-end.invariant in
    let inside = c.loop-end-test.true in
    elim c.if-not-goes_on.branch [
      | then-not-goes_on+in_ok-finish+then-is_blank w ↦ rw (w.tokens-is, w.start-is)
          (ended_by_blank bytes found _ start end byte before inside refl (sym c.goes_on.ensures ∙ w.if-not-goes_on.true) w.in_ok-finish.ensures (sym w.is_blank.ensures ∙ w.if-is_blank.true))
      | then-not-goes_on+in_ok-finish+else-is_blank w ↦ rw (w.tokens-is, w.start-is)
          (ended_by_next bytes found _ start end byte before inside refl (sym c.goes_on.ensures ∙ w.if-not-goes_on.true) w.in_ok-finish.ensures (sym w.is_blank.ensures ∙ w.if-is_blank.false))
      | else-not-goes_on w ↦ rw (w.tokens-is, w.start-is) (grew bytes found start end byte before inside refl (sym c.goes_on.ensures ∙ w.if-not-goes_on.false))
    ]
