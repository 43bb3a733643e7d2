-- The parts of an And or of an Or, read one after the other.
use Rattle.std.proofs.Common.{◌≡◌, ℕ, Bool, true, false, List, [], ◌∷◌, ◌++◌, refl, sym, ap, ◌∙◌}
use Rattle.std.specs.Prelude.{Err, Ok, Result}
use Rattle.qe_syntax.specs.declared.fault.TextFault.{TextFault}
use Rattle.qe_halt.specs.declared.halt.Halt.{Halt}
use Rattle.qe_syntax.specs.declared.tree.Formula as code
use Rattle.qe_syntax.specs.Tree.{FormulaTree, FormulaTrees, more}
use Rattle.qe_syntax.specs.Code.{tree_of, as_parts}
use Rattle.qe_syntax.specs.Grammar.{Occurrence}
use Rattle.qe_syntax.specs.Faults.{Tok}
use Rattle.qe_syntax.specs.Reading.{Stops, IsRead, Reads}
use Rattle.qe_syntax.proofs.Spelling.{IsOne}
use Rattle.qe_syntax.proofs.Chain.{chain, chain_tree, HasMore, IsChain, adds_nothing, start, turn, end, first_err, turn_err, chain-append, recast}

-- a single part alone, or the node of several
abbrev pub whole : (FormulaTrees → FormulaTree) → FormulaTree → List FormulaTree → FormulaTree
whole node f [] = f
whole node f (g ∷ gs) = node (more f (more g (as_parts gs)))

abbrev pub part_item : Unit {0} → FormulaTree → FormulaTree
part_item u f = f

-- a part of the grammar that is a chain of another
pub record Parts (A X : Type 0) : Type 0 where
  pub spell : A → List Occurrence → List Occurrence
  pub on : Tok → Bool
  pub of : A → FormulaTree
  pub spell' : X → List Occurrence → List Occurrence
  pub on' : Tok → Bool
  pub of' : X → FormulaTree
  pub mark : Unit {0} → Occurrence
  pub node : FormulaTrees → FormulaTree
  pub append : (a : A) (r q : List Occurrence) → spell a (r ++ q) ≡ spell a r ++ q
  pub one : IsOne spell on
  pub clean : adds_nothing mark
  pub stops : (u : Unit {0}) → on (mark u).token ≡ false
  pub goes : (u : Unit {0}) → on' (mark u).token ≡ true
  pub weak : (t : Tok) → on' t ≡ false → on t ≡ false
  pub to : A × List (Unit {0} × A) → X
  pub from : X → A × List (Unit {0} × A)
  pub to-spells : (c : A × List (Unit {0} × A)) (r : List Occurrence) → spell' (to c) r ≡ chain spell mark c r
  pub from-spells : (x : X) (r : List Occurrence) → chain spell mark (from x) r ≡ spell' x r
  pub to-tree : (c : A × List (Unit {0} × A)) → of' (to c) ≡ chain_tree of part_item (whole node) c

-- The parts that were read so far are these; there are two or more, or the next token goes on.
pub record IsParts {A X : Type 0} (k : Parts A X) (parts : List FormulaTree) (goes : Bool) (old new : List Tok) (b c : ℕ) : Type 0 where
  pub first : FormulaTree
  pub later : List FormulaTree
  pub are : parts ≡ first ∷ later
  pub read : IsChain k.spell k.on k.mark k.of part_item first later old new b c
  pub more : HasMore later goes

whole_more : (node : FormulaTrees → FormulaTree) (first : FormulaTree) (later : List FormulaTree) (goes : Bool) → HasMore later goes → goes ≡ false → node (as_parts (first ∷ later)) ≡ whole node first later
whole_more node first [] goes h g = let f : true ≡ false = sym h ∙ g in absurd cc
whole_more node first (x ∷ xs) goes h g = refl

more_snoc : (later : List FormulaTree) (f : FormulaTree) (goes : Bool) → HasMore (later ++ f ∷ []) goes
more_snoc [] f goes = tt
more_snoc (x ∷ xs) f goes = tt

module _ {A X : Type 0} (k : Parts A X) where
  parts_exit : (result : Result code.Formula (Halt TextFault)) (old new : List Tok) (b c : ℕ) → Reads (chain k.spell k.mark) k.on' (chain_tree k.of part_item (whole k.node)) tree_of result old new b c → Reads k.spell' k.on' k.of' tree_of result old new b c
  parts_exit result old new b c r =
      recast (chain k.spell k.mark) k.spell' k.on' k.to k.from k.to-spells k.from-spells (chain_tree k.of part_item (whole k.node)) k.of' tree_of k.to-tree
      (chain-append k.spell k.on k.on' k.mark k.of part_item k.append k.one k.clean k.stops k.goes k.weak) result old new b c r

  pub parts_first_err : (e : Halt TextFault) (old new : List Tok) (b c : ℕ) → Reads k.spell k.on k.of tree_of (Err e) old new b c → Reads k.spell' k.on' k.of' tree_of (Err e) old new b c
  parts_first_err e old new b c r = parts_exit (Err e) old new b c (first_err k.spell k.on k.on' k.mark k.of part_item k.append k.one k.clean k.stops k.goes k.weak tree_of tree_of (chain_tree k.of part_item (whole k.node)) e old new b c r)

  pub parts_turn_err : (e : Halt TextFault) (parts : List FormulaTree) (goes : Bool) (old mid mid' new : List Tok) (b c d : ℕ) → mid ≡ (k.mark tt).token ∷ mid' → IsParts k parts goes old mid b c → Reads k.spell k.on k.of tree_of (Err e) mid' new c d → Reads k.spell' k.on' k.of' tree_of (Err e) old new b d
  parts_turn_err e parts goes old mid mid' new b c d m p r = parts_exit (Err e) old new b d (turn_err k.spell k.on k.on' k.mark k.of part_item k.append k.one k.clean k.stops k.goes k.weak tree_of tree_of (chain_tree k.of part_item (whole k.node)) tt e p.first p.later old mid mid' new b c d m p.read r)

  pub parts_alone : (f : code.Formula) (old new : List Tok) (b c : ℕ) → Stops k.on' new → IsRead k.spell k.on k.of (tree_of f) old new b c → IsRead k.spell' k.on' k.of' (tree_of f) old new b c
  parts_alone f old new b c s r = parts_exit (Ok f) old new b c (
      end k.spell k.on k.on' k.mark k.of part_item k.append k.one k.clean k.stops k.goes k.weak (whole k.node) (tree_of f) (tree_of f) [] old new b c refl s
      (start k.spell k.on k.on' k.mark k.of part_item k.append k.one k.clean k.stops k.goes k.weak (tree_of f) old new b c r)
      )

  pub parts_start : (first : FormulaTree) (parts : List FormulaTree) (goes : Bool) (old new : List Tok) (b c : ℕ) → parts ≡ first ∷ [] → goes ≡ true → IsRead k.spell k.on k.of first old new b c → IsParts k parts goes old new b c
  parts_start first parts goes old new b c e g r = record { first = first; later = []; are = e; read = start k.spell k.on k.on' k.mark k.of part_item k.append k.one k.clean k.stops k.goes k.weak first old new b c r; more = g }

  pub parts_turn : (part : FormulaTree) (parts parts' : List FormulaTree) (goes goes' : Bool) (old mid mid' new : List Tok) (b c d : ℕ) → mid ≡ (k.mark tt).token ∷ mid' → parts' ≡ parts ++ part ∷ [] → IsParts k parts goes old mid b c → IsRead k.spell k.on k.of part mid' new c d → IsParts k parts' goes' old new b d
  parts_turn part parts parts' goes goes' old mid mid' new b c d m e p r = record {
    first = p.first;
    later = p.later ++ part ∷ [];
    are = e ∙ ap (λ (x : List FormulaTree). x ++ part ∷ []) p.are;
    read = turn k.spell k.on k.on' k.mark k.of part_item k.append k.one k.clean k.stops k.goes k.weak tt p.first part p.later (p.later ++ part ∷ []) old mid mid' new b c d m refl p.read r;
    more = more_snoc p.later part goes';
  }

  pub parts_end : (f : code.Formula) (parts : List FormulaTree) (goes : Bool) (old new : List Tok) (b c : ℕ) → tree_of f ≡ k.node (as_parts parts) → goes ≡ false → Stops k.on' new → IsParts k parts goes old new b c → IsRead k.spell' k.on' k.of' (tree_of f) old new b c
  parts_end f parts goes old new b c e g s p = parts_exit (Ok f) old new b c (
      end k.spell k.on k.on' k.mark k.of part_item k.append k.one k.clean k.stops k.goes k.weak (whole k.node) (tree_of f) p.first p.later old new b c
      (e ∙ ap (λ (x : List FormulaTree). k.node (as_parts x)) p.are ∙ whole_more k.node p.first p.later goes p.more g) s p.read
      )
