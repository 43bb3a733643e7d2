use Rattle.std.proofs.Common.{◌≡◌, ◌≤◌, length, subst, Ok, Err, arith}
use Rattle.std.specs.Prelude.{map}
use Rattle.std.specs.String.{string_bytes}
use Rattle.std.proofs.lemmas.Grind.{common_steps}
use Rattle.qe_program.specs.declared.asked.Request.TheVariants.{Eliminate, Make, Summary, Nothing}
use Rattle.qe_base.specs.declared.whole.ReadStop.TheVariants.{TooLong}
use Rattle.qe_program.specs.Asked.{IsAsked}
use Rattle.qe_program.proofs.Caused.{answered, too_many, refused_words, text_alone, nothing_read, nothing_read_for, one_limit}
use Rattle.qe_program.proofs.Told.{answers, headline, exact, constructive, is_done, none_for, kept_reply, kept_text}
use Rattle.qe_program.proofs.top.run_alone.Goals as goal

pub returns-in-Ok-Nothing-clause-causes : goal.returns-in-Ok-Nothing-clause-causes
returns-in-Ok-Nothing-clause-causes g c =
    let found : c.asked_for.result ≡ Ok Nothing = cc in
    let nothing = subst (IsAsked (map string_bytes c.args.words.now)) found c.asked_for.ensures in
    refused_words _ c.usage.result _ nothing c.usage.ensures c.deliver-in-Ok-Nothing.ensures.delivers

pub returns-in-Ok-Nothing-clause-headline : goal.returns-in-Ok-Nothing-clause-headline
returns-in-Ok-Nothing-clause-headline g c = λ limit asks ok.
    let found : c.asked_for.result ≡ Ok Nothing = cc in
    let nothing = subst (IsAsked (map string_bytes c.args.words.now)) found c.asked_for.ensures in
    absurd (nothing_read (map string_bytes c.args.words.now) nothing limit asks)

pub returns-in-Ok-Nothing-clause-exact : goal.returns-in-Ok-Nothing-clause-exact
returns-in-Ok-Nothing-clause-exact g c = λ limit asks ok.
    let found : c.asked_for.result ≡ Ok Nothing = cc in
    let nothing = subst (IsAsked (map string_bytes c.args.words.now)) found c.asked_for.ensures in
    absurd (nothing_read (map string_bytes c.args.words.now) nothing limit asks)

pub returns-in-Ok-Nothing-clause-constructive : goal.returns-in-Ok-Nothing-clause-constructive
returns-in-Ok-Nothing-clause-constructive g c = λ limit asks ok.
    let found : c.asked_for.result ≡ Ok Nothing = cc in
    let nothing = subst (IsAsked (map string_bytes c.args.words.now)) found c.asked_for.ensures in
    absurd (nothing_read (map string_bytes c.args.words.now) nothing limit asks)

pub returns-in-Ok-Nothing-clause-made : goal.returns-in-Ok-Nothing-clause-made
returns-in-Ok-Nothing-clause-made g c = λ number asks.
    let found : c.asked_for.result ≡ Ok Nothing = cc in
    let nothing = subst (IsAsked (map string_bytes c.args.words.now)) found c.asked_for.ensures in
    none_for (map string_bytes c.args.words.now) Nothing (Make number) nothing (λ e. cc) asks

pub returns-in-Ok-Nothing-clause-summary : goal.returns-in-Ok-Nothing-clause-summary
returns-in-Ok-Nothing-clause-summary g c = λ limit number asks.
    let found : c.asked_for.result ≡ Ok Nothing = cc in
    let nothing = subst (IsAsked (map string_bytes c.args.words.now)) found c.asked_for.ensures in
    none_for (map string_bytes c.args.words.now) Nothing (Summary limit number) nothing (λ e. cc) asks

pub returns-in-Ok-Make-clause-causes : goal.returns-in-Ok-Make-clause-causes
returns-in-Ok-Make-clause-causes g c =
    let found : c.asked_for.result ≡ Ok (Make c.in-Ok-Make.number) = cc in
    let asked = subst (IsAsked (map string_bytes c.args.words.now)) found c.asked_for.ensures in
    text_alone _ (Make c.in-Ok-Make.number) c.made.result _ (nothing_read_for (map string_bytes c.args.words.now) (Make c.in-Ok-Make.number) (λ l e. cc) asked.0.1) asked.0 c.made.ensures c.deliver.ensures.delivers

pub returns-in-Ok-Make-clause-headline : goal.returns-in-Ok-Make-clause-headline
returns-in-Ok-Make-clause-headline g c = λ limit asks ok.
    let found : c.asked_for.result ≡ Ok (Make c.in-Ok-Make.number) = cc in
    let asked = subst (IsAsked (map string_bytes c.args.words.now)) found c.asked_for.ensures in
    absurd (nothing_read_for (map string_bytes c.args.words.now) (Make c.in-Ok-Make.number) (λ l e. cc) asked.0.1 limit asks)

pub returns-in-Ok-Make-clause-exact : goal.returns-in-Ok-Make-clause-exact
returns-in-Ok-Make-clause-exact g c = λ limit asks ok.
    let found : c.asked_for.result ≡ Ok (Make c.in-Ok-Make.number) = cc in
    let asked = subst (IsAsked (map string_bytes c.args.words.now)) found c.asked_for.ensures in
    absurd (nothing_read_for (map string_bytes c.args.words.now) (Make c.in-Ok-Make.number) (λ l e. cc) asked.0.1 limit asks)

pub returns-in-Ok-Make-clause-constructive : goal.returns-in-Ok-Make-clause-constructive
returns-in-Ok-Make-clause-constructive g c = λ limit asks ok.
    let found : c.asked_for.result ≡ Ok (Make c.in-Ok-Make.number) = cc in
    let asked = subst (IsAsked (map string_bytes c.args.words.now)) found c.asked_for.ensures in
    absurd (nothing_read_for (map string_bytes c.args.words.now) (Make c.in-Ok-Make.number) (λ l e. cc) asked.0.1 limit asks)

pub returns-in-Ok-Make-clause-made : goal.returns-in-Ok-Make-clause-made
returns-in-Ok-Make-clause-made g c = λ number asks.
    let found : c.asked_for.result ≡ Ok (Make c.in-Ok-Make.number) = cc in
    let asked = subst (IsAsked (map string_bytes c.args.words.now)) found c.asked_for.ensures in
    is_done (Make c.in-Ok-Make.number) (Make number) _ _ _ _ c.made.result _ (asked.0.1 (Make number) asks) c.made.ensures c.deliver.ensures.delivers

pub returns-in-Ok-Make-clause-summary : goal.returns-in-Ok-Make-clause-summary
returns-in-Ok-Make-clause-summary g c = λ limit number asks.
    let found : c.asked_for.result ≡ Ok (Make c.in-Ok-Make.number) = cc in
    let asked = subst (IsAsked (map string_bytes c.args.words.now)) found c.asked_for.ensures in
    none_for (map string_bytes c.args.words.now) (Make c.in-Ok-Make.number) (Summary limit number) asked.0.1 (λ e. cc) asks

pub returns-in-Ok-Make-clause-sink_kept : goal.returns-in-Ok-Make-clause-sink_kept
returns-in-Ok-Make-clause-sink_kept g c = λ silence.
    kept_text (Make c.in-Ok-Make.number) _ _ _ _ c.made.result _ c.made.ensures c.deliver.ensures.delivers c.deliver.ensures.kept silence

pub returns-in-Ok-Summary-clause-causes : goal.returns-in-Ok-Summary-clause-causes
returns-in-Ok-Summary-clause-causes g c =
    let found : c.asked_for.result ≡ Ok (Summary c.in-Ok-Summary.limit c.in-Ok-Summary.number) = cc in
    let asked = subst (IsAsked (map string_bytes c.args.words.now)) found c.asked_for.ensures in
    text_alone _ (Summary c.in-Ok-Summary.limit c.in-Ok-Summary.number) c.summarized.result _ (nothing_read_for (map string_bytes c.args.words.now) (Summary c.in-Ok-Summary.limit c.in-Ok-Summary.number) (λ l e. cc) asked.0.1) asked.0 c.summarized.ensures c.deliver-in-Ok-Summary.ensures.delivers

pub returns-in-Ok-Summary-clause-headline : goal.returns-in-Ok-Summary-clause-headline
returns-in-Ok-Summary-clause-headline g c = λ limit asks ok.
    let found : c.asked_for.result ≡ Ok (Summary c.in-Ok-Summary.limit c.in-Ok-Summary.number) = cc in
    let asked = subst (IsAsked (map string_bytes c.args.words.now)) found c.asked_for.ensures in
    absurd (nothing_read_for (map string_bytes c.args.words.now) (Summary c.in-Ok-Summary.limit c.in-Ok-Summary.number) (λ l e. cc) asked.0.1 limit asks)

pub returns-in-Ok-Summary-clause-exact : goal.returns-in-Ok-Summary-clause-exact
returns-in-Ok-Summary-clause-exact g c = λ limit asks ok.
    let found : c.asked_for.result ≡ Ok (Summary c.in-Ok-Summary.limit c.in-Ok-Summary.number) = cc in
    let asked = subst (IsAsked (map string_bytes c.args.words.now)) found c.asked_for.ensures in
    absurd (nothing_read_for (map string_bytes c.args.words.now) (Summary c.in-Ok-Summary.limit c.in-Ok-Summary.number) (λ l e. cc) asked.0.1 limit asks)

pub returns-in-Ok-Summary-clause-constructive : goal.returns-in-Ok-Summary-clause-constructive
returns-in-Ok-Summary-clause-constructive g c = λ limit asks ok.
    let found : c.asked_for.result ≡ Ok (Summary c.in-Ok-Summary.limit c.in-Ok-Summary.number) = cc in
    let asked = subst (IsAsked (map string_bytes c.args.words.now)) found c.asked_for.ensures in
    absurd (nothing_read_for (map string_bytes c.args.words.now) (Summary c.in-Ok-Summary.limit c.in-Ok-Summary.number) (λ l e. cc) asked.0.1 limit asks)

pub returns-in-Ok-Summary-clause-summary : goal.returns-in-Ok-Summary-clause-summary
returns-in-Ok-Summary-clause-summary g c = λ limit number asks.
    let found : c.asked_for.result ≡ Ok (Summary c.in-Ok-Summary.limit c.in-Ok-Summary.number) = cc in
    let asked = subst (IsAsked (map string_bytes c.args.words.now)) found c.asked_for.ensures in
    is_done (Summary c.in-Ok-Summary.limit c.in-Ok-Summary.number) (Summary limit number) _ _ _ _ c.summarized.result _ (asked.0.1 (Summary limit number) asks) c.summarized.ensures c.deliver-in-Ok-Summary.ensures.delivers

pub returns-in-Ok-Summary-clause-made : goal.returns-in-Ok-Summary-clause-made
returns-in-Ok-Summary-clause-made g c = λ number asks.
    let found : c.asked_for.result ≡ Ok (Summary c.in-Ok-Summary.limit c.in-Ok-Summary.number) = cc in
    let asked = subst (IsAsked (map string_bytes c.args.words.now)) found c.asked_for.ensures in
    none_for (map string_bytes c.args.words.now) (Summary c.in-Ok-Summary.limit c.in-Ok-Summary.number) (Make number) asked.0.1 (λ e. cc) asks

pub returns-in-Ok-Summary-clause-sink_kept : goal.returns-in-Ok-Summary-clause-sink_kept
returns-in-Ok-Summary-clause-sink_kept g c = λ silence.
    kept_text (Summary c.in-Ok-Summary.limit c.in-Ok-Summary.number) _ _ _ _ c.summarized.result _ c.summarized.ensures c.deliver-in-Ok-Summary.ensures.delivers c.deliver-in-Ok-Summary.ensures.kept silence

pub returns-in-Ok-clause-causes : goal.returns-in-Ok-clause-causes
returns-in-Ok-clause-causes g c =
    let found : c.asked_for.result ≡ Ok (Eliminate c.in-Ok-Eliminate.limit) = cc in
    let asked = subst (IsAsked (map string_bytes c.args.words.now)) found c.asked_for.ensures in
    let few : length c.deref.result.now ≤ 1048576 = grind (arith, common_steps) in
    answered _ c.in-Ok-Eliminate.limit asked.0 _ c.deref.result.now c.reply_to.result (rw c.deref.ensures.value c.in-Ok.ensures.whole) few c.reply_to.ensures c.deliver-in-Ok.ensures.delivers

pub returns-in-Ok-clause-source_kept : goal.returns-in-Ok-clause-source_kept
returns-in-Ok-clause-source_kept g c = λ none.
    let found : c.asked_for.result ≡ Ok (Eliminate c.in-Ok-Eliminate.limit) = cc in
    let asked = subst (IsAsked (map string_bytes c.args.words.now)) found c.asked_for.ensures in
    absurd (none c.in-Ok-Eliminate.limit asked.0.0)

pub returns-in-Ok-clause-made : goal.returns-in-Ok-clause-made
returns-in-Ok-clause-made g c = λ number asks.
    let found : c.asked_for.result ≡ Ok (Eliminate c.in-Ok-Eliminate.limit) = cc in
    let asked = subst (IsAsked (map string_bytes c.args.words.now)) found c.asked_for.ensures in
    none_for (map string_bytes c.args.words.now) (Eliminate c.in-Ok-Eliminate.limit) (Make number) asked.0.1 (λ e. cc) asks

pub returns-in-Ok-clause-summary : goal.returns-in-Ok-clause-summary
returns-in-Ok-clause-summary g c = λ limit number asks.
    let found : c.asked_for.result ≡ Ok (Eliminate c.in-Ok-Eliminate.limit) = cc in
    let asked = subst (IsAsked (map string_bytes c.args.words.now)) found c.asked_for.ensures in
    none_for (map string_bytes c.args.words.now) (Eliminate c.in-Ok-Eliminate.limit) (Summary limit number) asked.0.1 (λ e. cc) asks

pub returns-in-Err-TooLong-clause-source_kept : goal.returns-in-Err-TooLong-clause-source_kept
returns-in-Err-TooLong-clause-source_kept g c = λ none.
    let found : c.asked_for.result ≡ Ok (Eliminate c.in-Ok-Eliminate.limit) = cc in
    let asked = subst (IsAsked (map string_bytes c.args.words.now)) found c.asked_for.ensures in
    absurd (none c.in-Ok-Eliminate.limit asked.0.0)

pub returns-in-Err-TooLong-clause-made : goal.returns-in-Err-TooLong-clause-made
returns-in-Err-TooLong-clause-made g c = λ number asks.
    let found : c.asked_for.result ≡ Ok (Eliminate c.in-Ok-Eliminate.limit) = cc in
    let asked = subst (IsAsked (map string_bytes c.args.words.now)) found c.asked_for.ensures in
    none_for (map string_bytes c.args.words.now) (Eliminate c.in-Ok-Eliminate.limit) (Make number) asked.0.1 (λ e. cc) asks

pub returns-in-Err-TooLong-clause-summary : goal.returns-in-Err-TooLong-clause-summary
returns-in-Err-TooLong-clause-summary g c = λ limit number asks.
    let found : c.asked_for.result ≡ Ok (Eliminate c.in-Ok-Eliminate.limit) = cc in
    let asked = subst (IsAsked (map string_bytes c.args.words.now)) found c.asked_for.ensures in
    none_for (map string_bytes c.args.words.now) (Eliminate c.in-Ok-Eliminate.limit) (Summary limit number) asked.0.1 (λ e. cc) asks

pub returns-in-Err-Fault-clause-source_kept : goal.returns-in-Err-Fault-clause-source_kept
returns-in-Err-Fault-clause-source_kept g c = λ none.
    let found : c.asked_for.result ≡ Ok (Eliminate c.in-Ok-Eliminate.limit) = cc in
    let asked = subst (IsAsked (map string_bytes c.args.words.now)) found c.asked_for.ensures in
    absurd (none c.in-Ok-Eliminate.limit asked.0.0)

pub returns-in-Err-Fault-clause-made : goal.returns-in-Err-Fault-clause-made
returns-in-Err-Fault-clause-made g c = λ number asks.
    let found : c.asked_for.result ≡ Ok (Eliminate c.in-Ok-Eliminate.limit) = cc in
    let asked = subst (IsAsked (map string_bytes c.args.words.now)) found c.asked_for.ensures in
    none_for (map string_bytes c.args.words.now) (Eliminate c.in-Ok-Eliminate.limit) (Make number) asked.0.1 (λ e. cc) asks

pub returns-in-Err-Fault-clause-summary : goal.returns-in-Err-Fault-clause-summary
returns-in-Err-Fault-clause-summary g c = λ limit number asks.
    let found : c.asked_for.result ≡ Ok (Eliminate c.in-Ok-Eliminate.limit) = cc in
    let asked = subst (IsAsked (map string_bytes c.args.words.now)) found c.asked_for.ensures in
    none_for (map string_bytes c.args.words.now) (Eliminate c.in-Ok-Eliminate.limit) (Summary limit number) asked.0.1 (λ e. cc) asks

pub returns-in-Err-OutOfMemory-clause-source_kept : goal.returns-in-Err-OutOfMemory-clause-source_kept
returns-in-Err-OutOfMemory-clause-source_kept g c = λ none.
    let found : c.asked_for.result ≡ Ok (Eliminate c.in-Ok-Eliminate.limit) = cc in
    let asked = subst (IsAsked (map string_bytes c.args.words.now)) found c.asked_for.ensures in
    absurd (none c.in-Ok-Eliminate.limit asked.0.0)

pub returns-in-Err-OutOfMemory-clause-made : goal.returns-in-Err-OutOfMemory-clause-made
returns-in-Err-OutOfMemory-clause-made g c = λ number asks.
    let found : c.asked_for.result ≡ Ok (Eliminate c.in-Ok-Eliminate.limit) = cc in
    let asked = subst (IsAsked (map string_bytes c.args.words.now)) found c.asked_for.ensures in
    none_for (map string_bytes c.args.words.now) (Eliminate c.in-Ok-Eliminate.limit) (Make number) asked.0.1 (λ e. cc) asks

pub returns-in-Err-OutOfMemory-clause-summary : goal.returns-in-Err-OutOfMemory-clause-summary
returns-in-Err-OutOfMemory-clause-summary g c = λ limit number asks.
    let found : c.asked_for.result ≡ Ok (Eliminate c.in-Ok-Eliminate.limit) = cc in
    let asked = subst (IsAsked (map string_bytes c.args.words.now)) found c.asked_for.ensures in
    none_for (map string_bytes c.args.words.now) (Eliminate c.in-Ok-Eliminate.limit) (Summary limit number) asked.0.1 (λ e. cc) asks

pub returns-in-Ok-clause-headline : goal.returns-in-Ok-clause-headline
returns-in-Ok-clause-headline g c = λ limit asks is. headline _ _ _ c.in-Ok-Eliminate.limit (answers _ _ _ c.in-Ok-Eliminate.limit _ _ _ c.deref.result.now _ c.reply_to.result _ c.deref.ensures.value c.in-Ok.ensures.whole c.reply_to.ensures c.deliver-in-Ok.ensures.delivers is)

pub returns-in-Ok-clause-exact : goal.returns-in-Ok-clause-exact
returns-in-Ok-clause-exact g c = λ limit asks is.
    let found : c.asked_for.result ≡ Ok (Eliminate c.in-Ok-Eliminate.limit) = cc in
    let asked = subst (IsAsked (map string_bytes c.args.words.now)) found c.asked_for.ensures in
    exact _ _ _ c.in-Ok-Eliminate.limit limit (one_limit (map string_bytes c.args.words.now) c.in-Ok-Eliminate.limit asked.0.1 limit asks) (answers _ _ _ c.in-Ok-Eliminate.limit _ _ _ c.deref.result.now _ c.reply_to.result _ c.deref.ensures.value c.in-Ok.ensures.whole c.reply_to.ensures c.deliver-in-Ok.ensures.delivers is)

pub returns-in-Ok-clause-constructive : goal.returns-in-Ok-clause-constructive
returns-in-Ok-clause-constructive g c = λ limit asks is. constructive _ _ _ c.in-Ok-Eliminate.limit (answers _ _ _ c.in-Ok-Eliminate.limit _ _ _ c.deref.result.now _ c.reply_to.result _ c.deref.ensures.value c.in-Ok.ensures.whole c.reply_to.ensures c.deliver-in-Ok.ensures.delivers is)

pub returns-in-Ok-clause-sink_kept : goal.returns-in-Ok-clause-sink_kept
returns-in-Ok-clause-sink_kept g c = λ silence.
    kept_reply _ _ _ _ c.in-Ok-Eliminate.limit c.deref.result.now c.reply_to.result _ c.reply_to.ensures c.deliver-in-Ok.ensures.delivers c.deliver-in-Ok.ensures.kept silence

pub returns-in-Err-TooLong-clause-causes : goal.returns-in-Err-TooLong-clause-causes
returns-in-Err-TooLong-clause-causes g c =
    let found : c.asked_for.result ≡ Ok (Eliminate c.in-Ok-Eliminate.limit) = cc in
    let asked = subst (IsAsked (map string_bytes c.args.words.now)) found c.asked_for.ensures in
    let stopped : c.read_all.result ≡ Err TooLong = cc in
    too_many _ c.in-Ok-Eliminate.limit asked.0 _ c.too_long.result (c.read_all.ensures.too_long stopped) c.too_long.ensures c.deliver-in-Err-TooLong.ensures.delivers
