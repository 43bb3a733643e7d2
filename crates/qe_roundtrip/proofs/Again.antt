-- What is printed reads again.
use Rattle.std.proofs.Common.{ℕ, suc, ◌+◌, ◌≡◌, ◌<◌, ◌≤◌, refl, sym, ap, subst, ◌∙◌, List, [], ◌∷◌, ◌++◌, append_assoc, append-nil, map, length, length-append, get_or, arith}
use Rattle.std.specs.List.{AllByRecursion, Contains}
use Rattle.std.proofs.lemmas.List.{get_or_default}
use Rattle.qe_token.specs.declared.token.Name.{Name}
use Rattle.qe_syntax.specs.Tree.{FormulaTree}
use Rattle.qe_syntax.specs.Grammar as grammar
use Rattle.qe_syntax.specs.Grammar.{Occurrence, the_end, input, formula_tree}
use Rattle.qe_syntax.specs.Faults.{counted, HasNoFault}
use Rattle.qe_syntax.specs.Reading.{IsClean}
use Rattle.qe_syntax.proofs.First.{no_fault_of}
use Rattle.qe_form.specs.Formula.{Formula}
use Rattle.qe_form.specs.Measures.{count}
use Rattle.qe_print.specs.Polynomial.{name_of}
use Rattle.qe_print.specs.Formula.{formula_text}
use Rattle.qe_read.specs.Names.{Letters, letters}
use Rattle.qe_read.specs.FreeNames.{AreLettersOf, free_names}
use Rattle.qe_read.specs.Formula.{bound_names, formula}
use Rattle.qe_read.specs.Numbered.{binders}
use Rattle.qe_read.specs.Input.{IsInput, IsReadFrom}
use Rattle.qe_read.proofs.Named.{all_names, in_text}
use Rattle.qe_read.proofs.Words.{each_word}
use Rattle.qe_read.proofs.Numbers.{given, numbered, among_contained, all_listed, the_binders, bound_between}
use Rattle.qe_roundtrip.specs.Laws.{FreeNamesOccur, OpensFewLevels, ReadsAgain}
use Rattle.qe_roundtrip.proofs.Pieces.{Reads}
use Rattle.qe_roundtrip.proofs.Numerals.{IsName}
use Rattle.qe_roundtrip.proofs.Derived.{formula_at}
use Rattle.qe_roundtrip.proofs.Legible.{IsLegible}
use Rattle.qe_roundtrip.proofs.FormulaTokens.{formula_opens}
use Rattle.qe_roundtrip.proofs.Sites.{at_start}
use Rattle.qe_roundtrip.proofs.Loose.{loose}
use Rattle.qe_roundtrip.proofs.FormulaMeaning.{Stands, stands}
use Rattle.qe_syntax.proofs.Shape.{IsShaped, shaped_text}
use Rattle.qe_roundtrip.proofs.Begun.{begun_in, count_formula}
use Rattle.qe_roundtrip.proofs.Counts.{counts}
use Rattle.qe_roundtrip.proofs.Original.{name_front, name_next, legible}
use Rattle.qe_syntax.proofs.Clean.{clean_text}
use Rattle.qe_roundtrip.proofs.Clean.{clean_most, clean_from}
use Rattle.qe_roundtrip.proofs.FreeAgain.{held, holds_contained, contained_holds, printed}
use Rattle.qe_roundtrip.proofs.FreeAgain as again

-- the names by the numbers of the binders are those that are bound
module _ (text : List ℕ) (free : List Letters) where
  names_by : (before : List Letters) (ns : List Name) → map (name_of (before ++ map (letters text) ns)) (numbered text free (length before) ns) ≡ map (letters text) ns
  names_by before [] = refl
  names_by before (x ∷ xs) =
      let w = letters text x in
      let further : before ++ w ∷ map (letters text) xs ≡ (before ++ w ∷ []) ++ map (letters text) xs = sym (append_assoc before (w ∷ []) (map (letters text) xs)) in
      let count : suc (length before) ≡ length (before ++ w ∷ []) = omega (arith, length-append before (w ∷ [])) in
      (λ i. name_next before (map (letters text) xs) w i ∷ (ap (λ l. map (name_of l) (numbered text free (suc (length before)) xs)) further
      ∙ ap (λ n. map (name_of ((before ++ w ∷ []) ++ map (letters text) xs)) (numbered text free n xs)) count ∙ names_by (before ++ w ∷ []) xs) i)

module _ (bytes : List ℕ) (f : Formula) (names : List Letters) (i : IsInput bytes f names) where
  -- ---- what was read

  abbrev from : IsReadFrom bytes i.of f names
  from = record { free = i.free; letters_of = i.text.names; is = i.is; named = i.named }

  clean : IsClean 0 (input i.text.text.derived)
  clean = clean_text i.text.tokens i.of i.text.text

  shaped : IsShaped i.of
  shaped = shaped_text i.text.tokens i.of i.text.text

  words : AllByRecursion (λ x. IsName (letters bytes x)) (all_names i.of)
  words =
      subst (λ ns. AllByRecursion (λ x. IsName (letters bytes x)) ns) (in_text i.text.text.derived i.text.tokens i.text.text.spelled ∙ ap all_names i.text.text.stands_for)
      (each_word IsName (λ w h k. record { word = h; other = k }) bytes i.text.tokens i.text.are).0

  total : names ≡ i.free ++ map (letters bytes) ([] ++ (bound_names i.of ++ []))
  total = i.named ∙ ap (λ l. i.free ++ map (letters bytes) l) (sym (append-nil (bound_names i.of)))

  its_legible : IsLegible names i.free (length i.free + 0) [] f
  its_legible =
      (given (λ g. IsLegible names i.free (length i.free + 0) [] g × (length (binders g) ≡ length (bound_names i.of))) (formula bytes i.free [] [] i.of) f i.is
      (legible names i.free bytes i.text.names.sorted [] [] [] i.of tt shaped words (all_listed bytes i.free (free_names bytes [] i.of) (λ w c. (i.text.names.each w).1 c)) total)).0

  begun : begun_in i.of ≤ 65536
  begun =
      let d = i.text.text.derived in
      let most : counted 0 (input d) ≤ 65536 = clean_most 0 (input d) clean (omega arith) in
      let same : counted 0 (input d) ≡ 0 + begun_in (formula_tree d) = count_formula 0 0 d (the_end ∷ []) in
      omega (arith, most, same, ap begun_in i.text.text.stands_for)

  bound_named : map (letters bytes) (bound_names i.of) ≡ map (name_of names) (binders f)
  bound_named =
      let n : length i.free + 0 ≡ length i.free = omega arith in
      sym (names_by bytes i.free i.free (bound_names i.of))
      ∙ (λ j. map (name_of (sym i.named j)) (numbered bytes i.free (sym n j) (bound_names i.of)))
      ∙ ap (map (name_of names)) (sym (the_binders bytes i.of f names from))

  -- ---- what is printed

  abbrev text : List ℕ
  text = formula_text names f

  abbrev derived : grammar.Formula
  derived = formula_at names 0 f

  abbrev printed_tree : FormulaTree
  printed_tree = formula_tree derived

  tokens : Reads 0 text (input derived)
  tokens =
      let start : Reads (0 + length text) [] (the_end ∷ []) = record { tokens = []; are = refl; spelled = refl; fit = ((refl, refl), tt) } in
      subst (λ bs. Reads 0 bs (input derived)) (append-nil text) ((formula_opens names i.free f (length i.free + 0) [] its_legible 0 0).reads [] (the_end ∷ []) refl start)

  meaning : Stands names i.free text [] [] f printed_tree
  meaning = stands names i.free text f (length i.free + 0) [] its_legible [] [] refl refl 0 (at_start text)

  few : counted 0 (input derived) ≤ 65536
  few =
      let same : counted 0 (input derived) ≡ 0 + begun_in printed_tree = count_formula 0 0 derived (the_end ∷ []) in
      let here : begun_in printed_tree ≡ count f = given (λ g. begun_in printed_tree ≡ count g) (formula text i.free [] [] printed_tree) f meaning.is (counts text i.free [] [] printed_tree) in
      let there : begun_in i.of ≡ count f = given (λ g. begun_in i.of ≡ count g) (formula bytes i.free [] [] i.of) f i.is (counts bytes i.free [] [] i.of) in
      omega (arith, same, here, there, begun)

  -- ---- the free names

  free_below : (k : ℕ) → k < length i.free → k < length names
  free_below k h = omega (arith, ap length i.named, length-append i.free (map (letters bytes) (bound_names i.of)))

  not_bound : (k : ℕ) → k < length i.free → Contains (binders f) k → ⊥
  not_bound k h c = absurd (let b = bound_between bytes i.of f names from k (among_contained bytes i.free (binders f) k c) in omega (arith, b.0))

  free_name : (k : ℕ) → k < length i.free → name_of names k ≡ get_or i.free k []
  free_name k h = ap (λ l. name_of l k) i.named ∙ name_front i.free (map (letters bytes) (bound_names i.of)) k h

  module _ (occur : FreeNamesOccur f names) where
    is_printed : (w : Letters) → Contains i.free w → Contains (loose names [] f) w
    is_printed w (k, h, e) =
        let name : name_of names k ≡ w = free_name k h ∙ get_or_default i.free k [] w h ∙ e in
        holds_contained w (loose names [] f) (subst (λ v. again.Holds v (loose names [] f)) name
        (printed names i.free k h f (length i.free + 0) [] its_legible tt (omega arith) (occur k (free_below k h) (not_bound k h))))

    is_free : (w : Letters) → Contains (loose names [] f) w → Contains i.free w
    is_free w c = held (λ v. Contains i.free v) w (loose names [] f) (again.all_listed names i.free f (length i.free + 0) [] its_legible) (contained_holds w (loose names [] f) c)

    free_again : AreLettersOf text (free_names text [] printed_tree) i.free
    free_again = record {
      sorted = i.text.names.sorted;
      each = λ w. (λ c. subst (λ l. Contains l w) (sym meaning.free_are) (is_printed w c), λ c. is_free w (subst (λ l. Contains l w) meaning.free_are c));
    }

    reads : OpensFewLevels text → IsInput text f names
    reads levels =
        let none : HasNoFault tokens.tokens = no_fault_of derived tokens.tokens tokens.spelled (clean_from 0 (input derived) tokens.fit (levels tokens.tokens derived tokens.are tokens.spelled) few) in
        record {
          of = printed_tree;
          free = i.free;
          text = record {
            tokens = tokens.tokens;
            are = tokens.are;
            text = record { derived = derived; spelled = tokens.spelled; stands_for = refl; no_fault = none };
            names = free_again;
          };
          is = meaning.is;
          named = i.named ∙ ap (λ l. i.free ++ l) (bound_named ∙ sym meaning.bound_are);
        }

pub reads_again : ReadsAgain
reads_again bytes f names i occur levels = reads bytes f names i occur levels
