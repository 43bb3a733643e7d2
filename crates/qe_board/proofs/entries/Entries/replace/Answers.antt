use Rattle.std.proofs.Common.{◌≡◌, ◌∙◌, ◌<◌, ◌^◌, ap, sym, subst, length, slice_get, slice_set, slice_index_or, Some, arith}
use Rattle.qe_board.specs.Machine.{put}
use Rattle.qe_board.specs.Shown.{condition, conditions, entries_of, AreCopies, IsCopyAt}
use Rattle.qe_board.proofs.Listed.{length_entries, changed_entry, changed_copies, own_copy, own_condition}
use Rattle.qe_board.proofs.entries.Entries.replace.Goals as goal
use Rattle.qe_board.proofs.entries.Entries.replace.Goals.{After-self-1}
use Rattle.qe_board.proofs.entries.Entries.replace.Given.{Over}

pub index_mut-requires : goal.index_mut-requires
index_mut-requires g c =
    subst (λ n. c.args.entry < n) (sym (c.self.inside.progress.ok.0 ∙ (sym (length_entries g.N.Piece.key c.self.inside.pieces.keys c.self.inside.progress.items c.self.invariant.1) ∙ ap length c.self.view_is))) c.requires.within

-- the number is one of what has become of the entries
is_within : (g : Over) (c : After-self-1 g) → c.args.entry < length c.self.inside.progress.items
is_within g c = subst (λ n. c.args.entry < n) (sym (sym (length_entries g.N.Piece.key c.self.inside.pieces.keys c.self.inside.progress.items c.self.invariant.1) ∙ ap length c.self.view_is)) c.requires.within

-- what is given back is what stood there
was : (g : Over) (c : After-self-1 g) → slice_index_or c.self.inside.progress.items c.args.entry c.index_mut.result.now ≡ c.replace.result
was g c = sym c.index_mut.ensures.value ∙ sym c.replace.ensures.value

pub invariant_of-self : goal.invariant_of-self
invariant_of-self g c = (
  c.self.invariant.0,
  subst (λ p. AreCopies g.N.Piece.key c.self.inside.pieces.keys (slice_set c.self.inside.progress.items c.args.entry p)) (sym c.replace.ensures.after)
      (changed_copies g.N.Piece.key c.self.inside.pieces.keys c.self.inside.progress.items c.args.entry c.args.progress c.self.invariant.1
      (subst (λ es. IsCopyAt g.N.Piece.key c.args.entry es c.args.progress) (sym c.self.view_is) c.requires.copy)),
)

pub returns-clause-changed : goal.returns-clause-changed
returns-clause-changed g c =
    ap (λ p. entries_of g.N.Piece.key c.self.inside.pieces.keys (slice_set c.self.inside.progress.items c.args.entry p)) c.replace.ensures.after
    ∙ (changed_entry g.N.Piece.key c.self.inside.pieces.keys c.self.inside.progress.items c.args.entry c.args.progress c.self.invariant.1
    ∙ ap (put c.args.entry (condition c.args.progress)) c.self.view_is)

pub returns-clause-was : goal.returns-clause-was
returns-clause-was g c =
    ap (λ es. slice_get (conditions es) c.args.entry) (sym c.self.view_is)
    ∙ (own_condition g.N.Piece.key c.self.inside.pieces.keys c.self.inside.progress.items c.args.entry c.index_mut.result.now c.self.invariant.1 (is_within g c)
    ∙ ap (λ p. Some (condition p)) (was g c))

pub returns-clause-copy : goal.returns-clause-copy
returns-clause-copy g c =
    subst (λ es. IsCopyAt g.N.Piece.key c.args.entry es c.replace.result) c.self.view_is
    (subst (λ p. IsCopyAt g.N.Piece.key c.args.entry (entries_of g.N.Piece.key c.self.inside.pieces.keys c.self.inside.progress.items) p) (was g c)
    (own_copy g.N.Piece.key c.self.inside.pieces.keys c.self.inside.progress.items c.args.entry c.index_mut.result.now c.self.invariant.1 (is_within g c)))

pub returns-clause-few : goal.returns-clause-few
returns-clause-few g c =
    let inside = c.self.inside.progress.ok in let small = c.self.inside.progress.small in
    subst (λ n. n < 2 ^ 63) (sym (length_entries g.N.Piece.key c.self.inside.pieces.keys c.self.inside.progress.items c.self.invariant.1) ∙ ap length c.self.view_is) (omega (arith, inside, small))
