-- What a reply to a prenex form, to a formula or to a fault says of the bytes.
use Rattle.std.proofs.Common.{ℕ, ◌≡◌, ◌≢◌, ◌∙◌, ◌<◌, sym, ap, refl, subst, inl, inr, List, length, Result, Ok, Err}
use Rattle.std.specs.Prelude.{IfOk}
use Rattle.std.specs.declared.alloc.AllocError.{AllocError}
use Rattle.qe_form.specs.declared.names.Input.{Input}
use Rattle.qe_form.specs.Formula.{Formula}
use Rattle.qe_form.specs.Tree.{tree}
use Rattle.qe_form.specs.Same.{IsFree, Same}
use Rattle.qe_form.specs.Holds.{HoldAlike}
use Rattle.qe_form.specs.Preserved.{Preserves, HasDecidedCore}
use Rattle.qe_form.proofs.Preservation.{preserves_is_preorder, cores_are_decided}
use Rattle.qe_form.proofs.Settling.{settles}
use Rattle.qe_form.proofs.Sameness.{same_is_preorder}
use Rattle.qe_read.specs.declared.fault.ReadFault.{ReadFault}
use Rattle.qe_read.specs.declared.fault.ReadFault.TheVariants as read
use Rattle.qe_read.specs.Names.{Letters}
use Rattle.qe_read.specs.Input.{IsInput, IsFirstFaultOf, IsReadAs}
use Rattle.qe_norm.specs.declared.blocks.Prenex.{Prenex}
use Rattle.qe_norm.specs.Prenex.{IsPrenexOf, stands_for}
use Rattle.qe_tree.specs.Block.{given, stopped}
use Rattle.qe_program.specs.declared.reply.Reply.{Reply}
use Rattle.qe_program.specs.Output.{line}
use Rattle.qe_program.specs.Outcome.{blocks, matrix, all_names}
use Rattle.qe_program.specs.Refusal.{IsSmall, HasAnswer, Refusal, fault, prenex_too_large, node, too_many_nodes, IsReason, IsSoOf, IsSo}
use Rattle.qe_program.proofs.Printed.{printed}
use Rattle.qe_program.specs.Reply.{RepliesByFormula, RepliesByNode, RepliesByLimit, RepliesToBlocks, RepliesToPrenex, RepliesToFormula, RepliesToFault, Replies}

-- ---- a prenex form

module _ (limit : ℕ) (f : Formula) (names : List Letters) (below : (x : ℕ) → IsFree x f → x < length names) (whole : Formula) (keeps : Preserves f whole) (alike : HoldAlike f whole) (same : HasDecidedCore f → Same f whole)
    (small : IsSmall f) (reply : Reply) where
  by_formula : RepliesByFormula limit (blocks f names) (matrix f names) (all_names f names) whole reply → RepliesToFormula limit f names reply
  by_formula r =
      let answers = settles f whole r.answer keeps.free alike r.same r.no_quantifier in
      let all_same : HasDecidedCore f → Same f r.answer = λ core. same_is_preorder.transitive f whole r.answer (same core) r.same in
      inl (
        r.says.0,
        record {
          exact = record { small = small; eliminated = r.answer; is_given = r.is_given; fits = r.fits; written = r.says.1 };
          constructive = record {
            is_answer = record {
              answer = r.answer;
              written = r.says.1 ∙ ap line (printed f names r.answer r.no_quantifier (λ x free. below x (answers.free x free)));
              no_quantifier = r.no_quantifier;
              settles = answers;
            };
            is_given = r.is_given;
            keeps = preserves_is_preorder.transitive f whole r.answer keeps (preserves_is_preorder.same whole r.answer r.same);
            same_points = all_same;
            same_outer = λ outer. all_same (cores_are_decided.outer f outer);
          };
        },
      )

  by_node : RepliesByNode limit (blocks f names) (matrix f names) (all_names f names) reply → RepliesToFormula limit f names reply
  by_node r = inr (record {
    why = node (all_names f names) r.block r.path r.why;
    is_so = record { small = small; all_are = refl; stops = r.stops; within = r.within };
    says = r.says;
    unanswered = λ a. let both : given a.answer ≡ stopped r.block r.path r.why = sym a.is_given ∙ r.stops in cc;
  })

  by_limit : RepliesByLimit limit (blocks f names) (matrix f names) reply → RepliesToFormula limit f names reply
  by_limit r = inr (record {
    why = too_many_nodes r.block limit;
    is_so = record { small = small; most_is = refl; beyond = r.beyond };
    says = r.says;
    unanswered = λ a. r.not_within a.within;
  })

  by_blocks : RepliesToBlocks limit (blocks f names) (matrix f names) (all_names f names) whole reply → RepliesToFormula limit f names reply
  by_blocks (inl r) = by_formula r
  by_blocks (inr (inl r)) = by_node r
  by_blocks (inr (inr r)) = by_limit r

pub prenex_replied : (limit : ℕ) (f : Formula) (names : List Letters) (p : Prenex) (r : Result Reply AllocError) → ((x : ℕ) → IsFree x f → x < length names) → IsSmall f → IsPrenexOf f names p → Preserves f (stands_for p) → HoldAlike f (stands_for p) → (HasDecidedCore f → Same f (stands_for p))
    → IfOk r (RepliesToPrenex limit p) → IfOk r (RepliesToFormula limit f names)
prenex_replied limit f names p (Err e) below small is keeps alike same h = tt
prenex_replied limit f names p (Ok reply) below small is keeps alike same h =
    by_blocks limit f names below (stands_for p) keeps alike same small reply
    (subst (λ bs. RepliesToBlocks limit bs (matrix f names) (all_names f names) (stands_for p) reply) is.blocks
    (subst (λ m. RepliesToBlocks limit p.blocks.items m (all_names f names) (stands_for p) reply) is.matrix
    (subst (λ all. RepliesToBlocks limit p.blocks.items (tree p.matrix) all (stands_for p) reply) is.names h)))

-- ---- the bytes

-- where bytes stand for a formula, nothing else is read from them
abbrev OnlyRead : List ℕ → Result Input ReadFault → Type 0
OnlyRead bytes result = (f : Formula) (names : List Letters) → IsInput bytes f names → IsReadAs f names result

-- a fault is not read from bytes that stand for a formula
no_fault : (f : Formula) (names : List Letters) (found : ReadFault) → found ≢ read.OutOfMemory → IsReadAs f names (Err found) → ⊥
no_fault f names (read.Syntax p) real h = h
no_fault f names (read.Wide p) real h = h
no_fault f names (read.Exponent p) real h = h
no_fault f names (read.TooDeep p) real h = h
no_fault f names (read.TooMany p) real h = h
no_fault f names (read.Overflow p wide) real h = h
no_fault f names (read.Polynomial p) real h = h
no_fault f names read.OutOfMemory real h = real refl

pub fault_replied : (limit : ℕ) (bytes : List ℕ) (found : ReadFault) (r : Result Reply AllocError) → IsFirstFaultOf bytes found → OnlyRead bytes (Err found) → IfOk r (RepliesToFault found) → IfOk r (Replies limit bytes)
fault_replied limit bytes found (Err e) first only h = tt
fault_replied limit bytes found (Ok reply) first only h =
    inr (record { why = fault found; reason = h.0; is_so = first; status_is = h.1.0; written = h.1.1 }, λ answered. no_fault answered.formula answered.names found h.0 (only answered.formula answered.names answered.is_input))

-- a reason that holds of the formula holds of the bytes
so_of_bytes : (limit : ℕ) (bytes : List ℕ) (f : Formula) (names : List Letters) (why : Refusal) → IsInput bytes f names → IsSoOf limit why f names → IsReason why × IsSo limit bytes why
so_of_bytes limit bytes f names (fault found) is so = absurd so
so_of_bytes limit bytes f names prenex_too_large is so = (tt, record { formula = f; names = names; is_input = is; holds = so })
so_of_bytes limit bytes f names (node all block path why) is so = (tt, record { formula = f; names = names; is_input = is; holds = so })
so_of_bytes limit bytes f names (too_many_nodes block most) is so = (tt, record { formula = f; names = names; is_input = is; holds = so })

pub formula_replied : (limit : ℕ) (bytes : List ℕ) (input : Input) (r : Result Reply AllocError) → IsInput bytes (tree input.form) input.names → OnlyRead bytes (Ok input) → IfOk r (RepliesToFormula limit (tree input.form) input.names) → IfOk r (Replies limit bytes)
formula_replied limit bytes input (Err e) is only h = tt
formula_replied limit bytes input (Ok reply) is only h =
    elim h [
      | inl good ↦ inl (good.0, record { formula = tree input.form; names = input.names; is_input = is; holds = good.1 })
      | inr bad ↦
          let so = so_of_bytes limit bytes (tree input.form) input.names bad.why is bad.is_so in
          inr (
            record { why = bad.why; reason = so.0; is_so = so.1; status_is = bad.says.0; written = bad.says.1 },
            λ answered.
                let same = only answered.formula answered.names answered.is_input in
                bad.unanswered (subst (λ f. HasAnswer limit f input.names) (sym same.0) (subst (λ ns. HasAnswer limit answered.formula ns) (sym same.1) answered.holds)),
          )
    ]
