-- What elimination answers for a generated input is what mode summary tells.
use Rattle.std.proofs.Common.{ℕ, ◌≡◌, ◌∙◌, ◌<◌, ◌≤◌, sym, refl, ap, subst, inr, List, Result, Err, Vec, Global, arith}
use Rattle.std.specs.Prelude.{IfOk, min}
use Rattle.std.specs.declared.alloc.AllocError.{AllocError}
use Rattle.std.proofs.lemmas.Result.{IfOk-weaker}
use Rattle.qe_form.specs.Formula.{Formula}
use Rattle.qe_form.specs.Tree.{tree}
use Rattle.qe_form.specs.Measures.{count}
use Rattle.qe_form.specs.Blocks.{Block}
use Rattle.qe_norm.specs.declared.blocks.Prenex.{Prenex}
use Rattle.qe_norm.specs.Prenex.{IsPrenexOf, prenex_size}
use Rattle.qe_tree.specs.Tree.{Step}
use Rattle.qe_elim.specs.Answer.{KeepsLimit, GoesOn, GoesBeyond}
use Rattle.qe_tree.specs.Block.{given, stopped, eliminated, EachBlock, AtBlock}
use Rattle.qe_node.specs.declared.stop.NodeStop.{NodeStop}
use Rattle.qe_node.specs.Successors.{expansion}
use Rattle.qe_elim.specs.declared.step.Step as code
use Rattle.qe_elim.specs.Search.{steps_of}
use Rattle.qe_elim.specs.declared.eliminate.ElimStop.{ElimStop}
use Rattle.qe_elim.specs.declared.eliminate.ElimStop.TheVariants as stop
use Rattle.qe_elim.specs.Answer.{IsElimination, IsNoLimit}
use Rattle.qe_gen.specs.Generated.{input_form, input_names}
use Rattle.qe_linear.proofs.Generated.{size_is}
use Rattle.qe_linear.proofs.Inputs.{input_gives}
use Rattle.qe_program.specs.declared.reply.Reply.{Reply}
use Rattle.qe_program.specs.declared.status.Status.TheVariants as status
use Rattle.qe_program.specs.declared.asked.Request.TheVariants.{Summary}
use Rattle.qe_program.specs.Outcome.{blocks, matrix}
use Rattle.qe_program.specs.Output.{summary_text, node_limit_line}
use Rattle.qe_program.specs.Made.{Summarizes, IsText}
use Rattle.qe_program.specs.Reply.{Says}

-- the prenex form of a generated input is small
pub small : (number : ℕ) → prenex_size (input_form number) ≤ 65536
small number = let size = size_is number in omega (arith, size)

pub never_large : (number : ℕ) (f : Formula) → f ≡ input_form number → 65536 < prenex_size f → ⊥
never_large number f is large = let size = ap prenex_size is ∙ size_is number in absurd (omega (arith, large, size))

module _ (limit number : ℕ) (p : Prenex) (is : IsPrenexOf (input_form number) input_names p) where
  -- what is said of the blocks and the matrix of the prenex form
  moved : (P : List Block → Formula → Type 0) → P p.blocks.items (tree p.matrix) → P (blocks (input_form number) input_names) (matrix (input_form number) input_names)
  moved P h = subst (λ bs. P bs (matrix (input_form number) input_names)) is.blocks (subst (P p.blocks.items) is.matrix h)

  pub told : (g : Formula) → eliminated expansion p.blocks.items (tree p.matrix) ≡ given g → EachBlock expansion (GoesOn limit) 1 p.blocks.items (tree p.matrix)
      → (n : ℕ) (text : List ℕ) → n ≡ min 65537 (count g) → text ≡ summary_text number n → Summarizes limit number text
  told g gives fits n text count_is text_is = record {
    result = g;
    is_given = moved (λ bs m. eliminated expansion bs m ≡ given g) gives;
    fits = moved (λ bs m. EachBlock expansion (GoesOn limit) 1 bs m) fits;
    written = text_is ∙ ap (summary_text number) count_is;
  }

  -- no node fails
  no_stop : (k : ℕ) (path : List Step) (s : NodeStop) → eliminated expansion p.blocks.items (tree p.matrix) ≡ stopped k path s → ⊥
  no_stop k path s stops =
      let found = input_gives number in
      let both : given found.0 ≡ stopped k path s = sym found.1 ∙ moved (λ bs m. eliminated expansion bs m ≡ stopped k path s) stops in
      cc

  abbrev Answered : ElimStop → Type 0
  Answered e = IsElimination limit p.blocks.items (tree p.matrix) (Err e)

  pub never_fails : (e : ElimStop) → (k : ℕ) (path : Vec code.Step Global) (s : NodeStop) → e ≡ stop.Node k path s → Answered e → ⊥
  never_fails e k path s same answer = let h = subst Answered same answer in no_stop k (steps_of path.items) s h.0

  abbrev IfWithin : ElimStop → Type 0
  IfWithin e = EachBlock expansion (KeepsLimit limit) 1 p.blocks.items (tree p.matrix) → IsNoLimit (Err e)

  pub too_many : (e : ElimStop) (k most : ℕ) → e ≡ stop.NodeLimit k most → Answered e → IfWithin e → (r : Result Reply AllocError) → IfOk r (Says status.NodeLimit (node_limit_line k most))
      → IfOk r (λ reply. IsText (Summary limit number) reply.status reply.text.items)
  too_many e k most same answer within r says =
      let h = subst Answered same answer in
      let none = subst IfWithin same within in
      IfOk-weaker r _ _ (λ reply s. inr (
        s.0,
        record {
          block = k;
          large = record { small = small number; most_is = refl; beyond = moved (λ bs m. AtBlock expansion (GoesBeyond limit) (GoesOn limit) k 1 bs m) h.1 };
          not_within = moved (λ bs m. EachBlock expansion (KeepsLimit limit) 1 bs m → ⊥) none;
          written = s.1 ∙ ap (node_limit_line k) h.0;
        },
      )) says
