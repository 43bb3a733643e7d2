use Rattle.std.proofs.Common.{◌≡◌, ◌∙◌, ap, sym, subst, map, cond, ◌∷◌, [], ◌++◌}
use Rattle.qe_board.specs.Machine.{among}
use Rattle.qe_board.specs.Shown.{condition, entries_of, AreCopies}
use Rattle.qe_board.proofs.Listed.{entry_keys, any_is, one_more_entry, one_more_copy}
use Rattle.qe_board.proofs.entries.Entries.append.Goals as goal
use Rattle.qe_board.proofs.entries.Entries.append.Goals.{After-push_reserved}
use Rattle.qe_board.proofs.entries.Entries.append.Given.{Over}

-- the pieces with the new one at the end
keys_are : (g : Over) (c : After-push_reserved g) → c.insert.new.self.keys ≡ c.self.inside.pieces.keys ++ c.args.piece ∷ []
keys_are g c =
    let old = entry_keys g.N.Piece.key c.self.inside.pieces.keys c.self.inside.progress.items c.self.invariant.1 in
    let none = any_is g.N.Piece.key g.N.PartialEq.eq g.met.N.Piece.eq_is_key c.args.piece c.self.inside.pieces.keys in
    let shown = ap (map (λ e. e.key)) c.self.view_is in
    c.in-Ok.ensures.keys ∙ ap (λ b. cond b c.self.inside.pieces.keys (c.self.inside.pieces.keys ++ c.args.piece ∷ []))
    (none ∙ (ap (among (g.N.Piece.key c.args.piece)) (sym old ∙ shown) ∙ c.requires.new))

-- what has become of each, with that of the new one at the end
progress_is : (g : Over) (c : After-push_reserved g) → c.push_reserved.new.self.items ≡ c.self.inside.progress.items ++ c.args.progress ∷ []
progress_is g c = c.push_reserved.ensures.items ∙ ap (λ ps. ps ++ c.args.progress ∷ []) c.in_ok-reserve.ensures.items

pub invariant_of-self-in-Ok : goal.invariant_of-self-in-Ok
invariant_of-self-in-Ok g c = (
  c.insert.ensures.unique,
  subst (λ ns. AreCopies g.N.Piece.key ns c.push_reserved.new.self.items) (sym (keys_are g c))
      (subst (λ ps. AreCopies g.N.Piece.key (c.self.inside.pieces.keys ++ c.args.piece ∷ []) ps) (sym (progress_is g c))
      (one_more_copy g.N.Piece.key c.self.inside.pieces.keys c.self.inside.progress.items c.args.piece c.args.progress c.self.invariant.1 c.requires.copy)),
)

pub returns-in-Ok-clause-ok : goal.returns-in-Ok-clause-ok
returns-in-Ok-clause-ok g c =
    ap (λ ns. entries_of g.N.Piece.key ns c.push_reserved.new.self.items) (keys_are g c)
    ∙ (ap (entries_of g.N.Piece.key (c.self.inside.pieces.keys ++ c.args.piece ∷ [])) (progress_is g c)
    ∙ (one_more_entry g.N.Piece.key c.self.inside.pieces.keys c.self.inside.progress.items c.args.piece c.args.progress c.self.invariant.1
    ∙ ap (λ es. es ++ record { key = g.N.Piece.key c.args.piece; condition = condition c.args.progress } ∷ []) c.self.view_is))
