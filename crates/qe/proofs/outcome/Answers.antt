use Rattle.std.proofs.Common.{◌≡◌, ◌≢◌, ap, sym, subst}
use Rattle.std.specs.Prelude.{map, IfOk}
use Rattle.std.specs.String.{string_bytes}
use Rattle.qe_program.specs.Asked.{AsksNothing, ReadsNothing}
use Rattle.qe_program.proofs.Caused.{not_ok}
use Rattle.qe_program.specs.declared.status.Status.TheVariants as status
use Rattle.qe.proofs.outcome.Goals as goal

pub returns-in-Ok-clause-words : goal.returns-in-Ok-clause-words
returns-in-Ok-clause-words g c =
    let same : map string_bytes c.in-Ok.words.items ≡ map string_bytes c.deref.result.now = ap (map string_bytes) (sym c.deref.ensures.value) in
    let kept : ReadsNothing (map string_bytes c.in-Ok.words.items) → c.run_alone.new.source ≡ c.args.source.now = λ none. c.run_alone.ensures.source_kept (subst ReadsNothing same none) in
    subst (λ w. IfOk w (λ all. ReadsNothing (map string_bytes all.items) → c.run_alone.new.source ≡ c.args.source.now)) (sym c.in-Ok.is) kept

pub returns-in-Ok-clause-answer : goal.returns-in-Ok-clause-answer
returns-in-Ok-clause-answer g c =
    let same : map string_bytes c.in-Ok.words.items ≡ map string_bytes c.deref.result.now = ap (map string_bytes) (sym c.deref.ensures.value) in
    let refused : AsksNothing (map string_bytes c.in-Ok.words.items) → c.run_alone.result ≢ status.Ok = λ nothing ok. not_ok _ _ c.run_alone.ensures.causes (subst AsksNothing same nothing) ok in
    subst (λ w. IfOk w (λ all. AsksNothing (map string_bytes all.items) → c.run_alone.result ≢ status.Ok)) (sym c.in-Ok.is) refused
