-- What is read from bytes.
use Rattle.std.proofs.Common.{ℕ, ◌+◌, ◌^◌, ◌≡◌, ◌<◌, ◌≤◌, sym, ap, subst, ◌∙◌, List, [], ◌++◌, length, map, Result, Ok, Err, arith, inr}
use Rattle.std.specs.List.{AllByRecursion, All}
use Rattle.qe_token.specs.declared.token.Located.{Located}
use Rattle.qe_token.specs.declared.token.Name.{Name}
use Rattle.qe_token.specs.Tokens.{AreTokens}
use Rattle.qe_syntax.specs.Tree.{FormulaTree}
use Rattle.qe_syntax.specs.Faults.{IsText}
use Rattle.qe_syntax.specs.Grammar.{with_end}
use Rattle.qe_poly.specs.declared.limit.PolyLimit.{PolyLimit}
use Rattle.qe_poly.specs.declared.limit.PolyLimit.TheVariants as limits
use Rattle.qe_form.specs.declared.names.Input.{Input}
use Rattle.qe_form.specs.Formula.{Formula}
use Rattle.qe_form.specs.Tree.{tree}
use Rattle.qe_read.specs.declared.fault.ReadFault.{ReadFault}
use Rattle.qe_read.specs.declared.fault.ReadFault.TheVariants as read
use Rattle.qe_read.specs.Names.{Letters, letters}
use Rattle.qe_read.specs.FreeNames.{AreLettersOf, free_names}
use Rattle.qe_read.specs.Formula.{formula, bound_names}
use Rattle.qe_read.specs.Input.{IsTextOf, IsValueFault, IsInput, Answers, IsReadFrom, IsMetIn, AnswersTree, IsReadAs}
use Rattle.qe_read.proofs.Unique.{same_names}
use Rattle.qe_read.proofs.Named.{in_text, named, all_names}
use Rattle.qe_read.proofs.Words.{IsTextIn, words_of}
use Rattle.qe_read.proofs.Kept.{free_each, bound_each, few_names}

-- the names of a tree that these tokens stand for
module _ (bytes : List ℕ) (tokens : List Located) (of : FormulaTree) (are : AreTokens 0 bytes tokens) (text : IsText tokens of) where
  the_names : named (with_end tokens) ≡ all_names of
  the_names = in_text text.derived tokens text.spelled ∙ ap all_names text.stands_for

  each : AllByRecursion (IsTextIn bytes) (all_names of)
  each = subst (λ ns. AllByRecursion (IsTextIn bytes) ns) the_names (words_of bytes tokens are).0

  pub free_are_text : All (IsTextIn bytes) (free_names bytes [] of)
  free_are_text = free_each (IsTextIn bytes) bytes of each

  pub bound_are_text : All (IsTextIn bytes) (bound_names of)
  bound_are_text = bound_each (IsTextIn bytes) of each

  pub names_are_few : length bytes ≤ 1048576 → length (free_names bytes [] of) + length (bound_names of) < 2 ^ 31
  names_are_few h = omega (arith, few_names (IsTextIn bytes) bytes of, ap length the_names, (words_of bytes tokens are).1)

same_letters : (bytes : List ℕ) (names : List Name) (v w : List Letters) → AreLettersOf bytes names v → AreLettersOf bytes names w → v ≡ w
same_letters bytes names v w a b = same_names v w a.sorted b.sorted (λ x. (λ c. (b.each x).1 ((a.each x).0 c), λ c. (a.each x).1 ((b.each x).0 c)))

-- an input of these bytes is one of their tree
input_of : (bytes : List ℕ) (tokens : List Located) (of : FormulaTree) → ((us : List Located) → AreTokens 0 bytes us → us ≡ tokens) → ((t : FormulaTree) → IsText tokens t → of ≡ t)
    → (f : Formula) (names : List Letters) → IsInput bytes f names → IsReadFrom bytes of f names
input_of bytes tokens of only one f names i =
    let e : of ≡ i.of = one i.of (subst (λ ts. IsText ts i.of) (only i.text.tokens i.text.are) i.text.text) in record {
      free = i.free;
      letters_of = subst (λ t. AreLettersOf bytes (free_names bytes [] t) i.free) (sym e) i.text.names;
      is = ap (λ t. formula bytes i.free [] [] t) e ∙ i.is;
      named = i.named ∙ ap (λ t. i.free ++ map (letters bytes) (bound_names t)) (sym e);
    }

not_met : (bytes : List ℕ) (of : FormulaTree) (limit : PolyLimit) (place : ℕ) (f : Formula) (names : List Letters) → IsMetIn bytes of limit place → IsReadFrom bytes of f names → ⊥
not_met bytes of limit place f names m i =
    let e = same_letters bytes (free_names bytes [] of) m.free i.free m.letters_of i.letters_of in
    let q : formula bytes i.free [] [] of ≡ Err (record { place = place; limit = limit }) = ap (λ v. formula bytes v [] [] of) (sym e) ∙ m.is in
    let r = i.is in cc

same_input : (bytes : List ℕ) (of : FormulaTree) (f g : Formula) (names others : List Letters) → IsReadFrom bytes of f names → IsReadFrom bytes of g others → (f ≡ g) × (names ≡ others)
same_input bytes of f g names others i j =
    let e = same_letters bytes (free_names bytes [] of) i.free j.free i.letters_of j.letters_of in
    let q : formula bytes j.free [] [] of ≡ Ok f = ap (λ v. formula bytes v [] [] of) (sym e) ∙ i.is in
    let r = j.is in
    let s : f ≡ g = cc in
    (s, i.named ∙ ap (λ v. v ++ map (letters bytes) (bound_names of)) e ∙ sym j.named)

read_as : (bytes : List ℕ) (of : FormulaTree) (r : Result Input ReadFault) → AnswersTree bytes of r → (f : Formula) (names : List Letters) → IsReadFrom bytes of f names → IsReadAs f names r
read_as bytes of (Ok input) a f names i = same_input bytes of (tree input.form) f input.names names a i
read_as bytes of (Err (read.Exponent p)) a f names i = not_met bytes of _ p f names a i
read_as bytes of (Err (read.Overflow p wide)) a f names i = not_met bytes of _ p f names a i
read_as bytes of (Err (read.Polynomial p)) a f names i = not_met bytes of _ p f names a i
read_as bytes of (Err read.OutOfMemory) a f names i = tt
read_as bytes of (Err fault) a f names i = absurd a

-- what the bytes stand for is what was read from their tree
pub read_only : (bytes : List ℕ) (tokens lent : List Located) (of : FormulaTree) (r : Result Input ReadFault) → ((us : List Located) → AreTokens 0 bytes us → us ≡ tokens)
    → lent ≡ tokens → ((t : FormulaTree) → IsText lent t → of ≡ t) → AnswersTree bytes of r → (f : Formula) (names : List Letters) → IsInput bytes f names → IsReadAs f names r
read_only bytes tokens lent of r only l one a f names i =
    read_as bytes of r a f names (input_of bytes tokens of only (λ t h. one t (subst (λ ts. IsText ts t) (sym l) h)) f names i)

-- what is answered for the tree is answered for the bytes
module _ (bytes : List ℕ) (tokens lent : List Located) (of : FormulaTree) (are : AreTokens 0 bytes tokens) (l : lent ≡ tokens) (t : IsText lent of) where
  text_of : (free : List Letters) → AreLettersOf bytes (free_names bytes [] of) free → IsTextOf bytes of free
  text_of free h = record { tokens = tokens; are = are; text = subst (λ ts. IsText ts of) l t; names = h }

  fault_of : (limit : PolyLimit) (place : ℕ) → IsMetIn bytes of limit place → IsValueFault bytes limit place
  fault_of limit place m = record { of = of; free = m.free; text = text_of m.free m.letters_of; is = m.is }

  pub answered : (r : Result Input ReadFault) → AnswersTree bytes of r → Answers bytes r
  answered (Ok input) a = record { of = of; free = a.free; text = text_of a.free a.letters_of; is = a.is; named = a.named }
  answered (Err (read.Exponent p)) a = inr (fault_of limits.Exponent p a)
  answered (Err (read.Overflow p wide)) a = fault_of (limits.Coefficient wide) p a
  answered (Err (read.Polynomial p)) a = fault_of limits.Monomials p a
  answered (Err read.OutOfMemory) a = tt
  answered (Err fault) a = absurd a
