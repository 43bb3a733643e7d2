use Rattle.std.proofs.Common.{Bor, List, ℕ, sym, subst}
use Rattle.std.specs.Str.{IsUtf8}
use Rattle.qe_read.proofs.Spelled.{utf8_at}
use Rattle.qe_read.proofs.reader.names_of.Goals as goal

pub spelled-requires : goal.spelled-requires
spelled-requires c =
    utf8_at {X = Bor (List ℕ)} (λ w. w.now) c.names-free-items.result.now c.args.context.now.free.now c.loop-free.free-index _ c.names-free-items.ensures c.requires.free c.loop-free-test.true

pub spelled-requires-in-loop-name : goal.spelled-requires-in-loop-name
spelled-requires-in-loop-name c = subst (λ w. IsUtf8 w) (sym c.letters.ensures) (c.requires.bound c.loop-name.name-index _ c.loop-name-test.true)
