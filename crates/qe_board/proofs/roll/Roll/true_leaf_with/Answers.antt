use Rattle.std.proofs.Common.{◌≡◌, ◌∙◌, sym, ap, length, Option, Some, None, ℕ, Bool, cond, ◌++◌, ◌∷◌, []}
use Rattle.qe_board.specs.State.{keys, Key, State}
use Rattle.qe_board.specs.Counted.{first_true}
use Rattle.qe_board.proofs.Counting.{first_more, or_last, length_keys}
use Rattle.qe_board.proofs.roll.Roll.true_leaf_with.Goals as goal

-- what the first of these and one more is
with_more : {F : Type 0} (truth : Key → Bool) (s t : State F) (o : Option ℕ) → o ≡ first_true truth (keys s) → s ≡ t → (k : Key) → or_last o (truth k) (length t.entries) ≡ first_true truth (keys t ++ k ∷ [])
with_more truth s t o first same k =
    ap (λ p. or_last p (truth k) (length t.entries)) (first ∙ ap (λ u. first_true truth (keys u)) same)
    ∙ (ap (or_last (first_true truth (keys t)) (truth k)) (sym (length_keys t.entries)) ∙ sym (first_more truth (keys t) k))

pub returns-in-Some-clause-leaf : goal.returns-in-Some-clause-leaf
returns-in-Some-clause-leaf g c =
    ap (λ o. or_last o (g.N.Piece.truth (g.N.Piece.key c.args.piece.now)) (length c.args.self.now.entries)) (sym c.in-Some.is)
    ∙ with_more g.N.Piece.truth (record { entries = c.self.inside.entries; stop = c.self.inside.stopping }) c.args.self.now c.self.inside.true_leaf c.self.invariant.first c.self.view_is (g.N.Piece.key c.args.piece.now)

pub returns-in-None-clause-leaf : goal.returns-in-None-clause-leaf
returns-in-None-clause-leaf g c =
    ap (λ n. Some n) c.len-entry.ensures.len ∙ (ap (λ b. cond b (Some (length c.args.self.now.entries)) None) c.if-is_true.ensures
    ∙ (ap (λ o. or_last o (g.N.Piece.truth (g.N.Piece.key c.args.piece.now)) (length c.args.self.now.entries)) (sym c.in-None.is)
    ∙ with_more g.N.Piece.truth (record { entries = c.self.inside.entries; stop = c.self.inside.stopping }) c.args.self.now c.self.inside.true_leaf c.self.invariant.first c.self.view_is (g.N.Piece.key c.args.piece.now)))

pub returns-in-None-2-clause-leaf : goal.returns-in-None-2-clause-leaf
returns-in-None-2-clause-leaf g c =
    ap (λ b. cond b (Some (length c.args.self.now.entries)) None) c.if-is_true.ensures
    ∙ (ap (λ o. or_last o (g.N.Piece.truth (g.N.Piece.key c.args.piece.now)) (length c.args.self.now.entries)) (sym c.in-None-2.is)
    ∙ with_more g.N.Piece.truth (record { entries = c.self.inside.entries; stop = c.self.inside.stopping }) c.args.self.now c.self.inside.true_leaf c.self.invariant.first c.self.view_is (g.N.Piece.key c.args.piece.now))
