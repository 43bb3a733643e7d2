-- Words that say something are items, perhaps with `--` and modes behind them, and items say their texts.
use Rattle.std.proofs.Common.{◌≡◌, ◌∙◌, ap, ap₂, sym, refl, subst, true, false, List, [], ◌∷◌, ◌++◌, Option, Some, None}
use Rattle.std.specs.Prelude.{map, if◌then◌else◌}
use Rattle.std.specs.Str.{bytes_eq}
use Rattle.std.proofs.lemmas.List.{append-nil, append_assoc}
use Rattle.qe_words.specs.declared.job.Mode.{Mode}
use Rattle.qe_words.specs.declared.job.Mode.TheVariants.{Eliminate, Answers, Summary, Make}
use Rattle.qe_words.specs.declared.choice.Choice.{Choice}
use Rattle.qe_words.specs.declared.choice.Choice.TheVariants.{Workers, Nodes, Number}
use Rattle.qe_words.specs.Text.{Text}
use Rattle.qe_words.specs.Line.{Item, apart, joined, named, name, mode_name, spelled, all_spelled, tail_spelled, tail_modes}
use Rattle.qe_words.specs.Job.{mode_named, mode_told}
use Rattle.qe_words.specs.Said.{Slot, of_option, of_mode, Said, Mark, two_dashes, flag, unknown, bare, Expected, anything, value_for, modes, one, tells, text_of, with_text, so_far, going, stepped_by, valued_by, read, mark}
use Rattle.qe_words.proofs.Read.{read_none}
use Rattle.qe_words.proofs.Seen.{Sees, found_passes, same_text, sees}
use Rattle.qe_words.proofs.Once.{AreFirst, first_text}

-- what an item says
abbrev pub item_says : Item → Said
item_says (apart option value) = one (of_option option) value
item_says (joined option value) = one (of_option option) value
item_says (named mode) = one of_mode (mode_name mode)

-- what a mode says
abbrev pub mode_says : Mode → Said
mode_says mode = one of_mode (mode_name mode)

-- what items and the modes behind them say
abbrev pub all_say : List Item → Option (List Mode) → List Said
all_say items rest = map item_says items ++ map mode_says (tail_modes rest)

-- any text will do
abbrev pub Any : Text → Type 0
Any text = Unit {0}

-- the words are items and modes, and say what was said in the end beyond what was said before
pub record Spelled (words : List Text) (before end : List Said) : Type 0 where
  pub items : List Item
  pub rest : Option (List Mode)
  pub words_are : words ≡ all_spelled items ++ tail_spelled rest
  pub end_is : end ≡ before ++ all_say items rest
  pub first : AreFirst Any before (all_say items rest)

-- the same, where the words are modes alone
pub record SpelledModes (words : List Text) (before end : List Said) : Type 0 where
  pub told : List Mode
  pub words_are : words ≡ map mode_name told
  pub end_is : end ≡ before ++ map mode_says told
  pub first : AreFirst Any before (map mode_says told)

-- ---- words that say something

-- a mode's text is its name
mode_is : (word : Text) (m : Mode) → mode_named word ≡ Some m → word ≡ mode_name m
mode_is word m e =
    same_text word (mode_name m) (found_passes (λ mode. bytes_eq word (mode_name mode)) (Eliminate ∷ Answers ∷ Summary ∷ Make ∷ []) m e)

-- an item before others
more_items : (item : Item) (words others : List Text) (before end : List Said) → words ≡ spelled item ++ others → tells (item_says item).slot before ≡ false
    → Spelled others (before ++ item_says item ∷ []) end → Spelled words before end
more_items item words others before end is free told = record {
  items = item ∷ told.items;
  rest = told.rest;
  words_are = is ∙ (ap (λ ws. spelled item ++ ws) told.words_are ∙ sym (append_assoc (spelled item) (all_spelled told.items) (tail_spelled told.rest)));
  end_is = told.end_is ∙ append_assoc before (item_says item ∷ []) (all_say told.items told.rest);
  first = (free, tt, told.first);
}

-- a mode before others
more_modes : (mode : Mode) (word : Text) (words : List Text) (before end : List Said) → word ≡ mode_name mode → tells of_mode before ≡ false
    → SpelledModes words (before ++ mode_says mode ∷ []) end → SpelledModes (word ∷ words) before end
more_modes mode word words before end is free told = record {
  told = mode ∷ told.told;
  words_are = ap₂ ◌∷◌ is told.words_are;
  end_is = told.end_is ∙ append_assoc before (mode_says mode ∷ []) (map mode_says told.told);
  first = (free, tt, told.first);
}

-- in the end the mode's text, if there is one, is a mode's name
module _ (end : List Said) (mode : Mode) (told : mode_told (text_of of_mode end) ≡ Some mode) where
  -- what is shown of words by what is to come
  abbrev Spells : Expected → List Text → List Said → Type 0
  Spells anything words before = Spelled words before end
  Spells (value_for option) words before = Spelled (name option ∷ words) before end
  Spells modes words before = SpelledModes words before end

  -- it holds from any state
  abbrev All : List Text → Type 0
  All words = (e : Expected) (before : List Said) → read words (Some (so_far e before)) ≡ Some end → Spells e words before

  -- a text was said of what had none, and the words go on
  record GoesOn (words : List Text) (e : Expected) (slot : Slot) (text : Text) (before : List Said) : Type 0 where
    free : tells slot before ≡ false
    on : read words (Some (so_far e (before ++ one slot text ∷ []))) ≡ Some end

  goes_on : (words : List Text) (e : Expected) (slot : Slot) (text : Text) (before : List Said) → read words (going e (with_text slot text before)) ≡ Some end
      → GoesOn words e slot text before
  goes_on words e slot text before is =
      elim (tells slot before) as (λ b. tells slot before ≡ b → read words (going e (if b then None else Some (before ++ one slot text ∷ []))) ≡ Some end → GoesOn words e slot text before) [
        | true ↦ λ there reads. let none = sym (read_none words) ∙ reads in absurd (cc)
        | false ↦ λ free reads. record { free = free; on = reads }
      ] refl is

  -- the mode's text is a mode's name
  is_named : (word : Text) (before more : List Said) → tells of_mode before ≡ false → end ≡ (before ++ one of_mode word ∷ []) ++ more → word ≡ mode_name mode
  is_named word before more free is =
      mode_is word mode (ap mode_told (sym (ap (text_of of_mode) is ∙ first_text of_mode word before more free)) ∙ told)

  named_item : (word : Text) (words : List Text) (before : List Said) → tells of_mode before ≡ false → Spelled words (before ++ one of_mode word ∷ []) end → Spelled (word ∷ words) before end
  named_item word words before free t =
      let is = is_named word before (all_say t.items t.rest) free t.end_is in
      more_items (named mode) (word ∷ words) words before end (ap (λ w. w ∷ words) is) free (subst (λ w. Spelled words (before ++ one of_mode w ∷ []) end) is t)

  named_mode : (word : Text) (words : List Text) (before : List Said) → tells of_mode before ≡ false → SpelledModes words (before ++ one of_mode word ∷ []) end → SpelledModes (word ∷ words) before end
  named_mode word words before free t =
      let is = is_named word before (map mode_says t.told) free t.end_is in
      more_modes mode word words before end is free (subst (λ w. SpelledModes words (before ++ one of_mode w ∷ []) end) is t)

  -- one word, where the others are spelled from any state
  module _ (word : Text) (words : List Text) (others : All words) where
    any_word : (look : Mark) (before : List Said) → Sees look word → read words (stepped_by look word before) ≡ Some end → Spelled (word ∷ words) before end
    any_word two_dashes before see is =
        let t : SpelledModes words before end = others modes before is in
        record { items = []; rest = Some t.told; words_are = ap₂ ◌∷◌ see t.words_are; end_is = t.end_is; first = t.first }
    any_word (flag option None) before see is =
        subst (λ w. Spelled (w ∷ words) before end) (sym see) (others (value_for option) before is)
    any_word (flag option (Some text)) before see is =
        let g = goes_on words anything (of_option option) text before is in
        more_items (joined option text) (word ∷ words) words before end (ap (λ w. w ∷ words) see) g.free (others anything _ g.on)
    any_word unknown before see is = let none = sym (read_none words) ∙ is in absurd (cc)
    any_word bare before see is =
        let g = goes_on words anything of_mode word before is in
        named_item word words before g.free (others anything _ g.on)

    value_word : (look : Mark) (option : Choice) (before : List Said) → read words (valued_by look option word before) ≡ Some end → Spelled (name option ∷ word ∷ words) before end
    value_word bare option before is =
        let g = goes_on words anything (of_option option) word before is in
        more_items (apart option word) (name option ∷ word ∷ words) words before end refl g.free (others anything _ g.on)
    value_word two_dashes option before is = let none = sym (read_none words) ∙ is in absurd (cc)
    value_word (flag other value) option before is = let none = sym (read_none words) ∙ is in absurd (cc)
    value_word unknown option before is = let none = sym (read_none words) ∙ is in absurd (cc)

    last_word : (before : List Said) → read words (going modes (with_text of_mode word before)) ≡ Some end → SpelledModes (word ∷ words) before end
    last_word before is =
        let g = goes_on words modes of_mode word before is in
        named_mode word words before g.free (others modes _ g.on)

  pub spells : (words : List Text) → All words
  spells [] anything before is = record { items = []; rest = None; words_are = refl; end_is = is_end is ∙ sym (append-nil before); first = tt }
    where
      is_end : Some before ≡ Some end → end ≡ before
      is_end e = cc
  spells [] (value_for option) before is = absurd (cc)
  spells [] modes before is = record { told = []; words_are = refl; end_is = is_end is ∙ sym (append-nil before); first = tt }
    where
      is_end : Some before ≡ Some end → end ≡ before
      is_end e = cc
  spells (word ∷ words) anything before is = any_word word words (spells words) (mark word) before (sees word) is
  spells (word ∷ words) (value_for option) before is = value_word word words (spells words) (mark word) option before is
  spells (word ∷ words) modes before is = last_word word words (spells words) before is

-- ---- items say their texts

-- the text is no option and not `--`
abbrev pub IsBare : Text → Type 0
IsBare text = mark text ≡ bare

says_text : (words : List Text) (e : Expected) (slot : Slot) (text : Text) (before more : List Said) → tells slot before ≡ false
    → read words (Some (so_far e (before ++ one slot text ∷ []))) ≡ Some ((before ++ one slot text ∷ []) ++ more) → read words (going e (with_text slot text before)) ≡ Some (before ++ one slot text ∷ more)
says_text words e slot text before more free is =
    ap (λ b. read words (going e (if b then None else Some (before ++ one slot text ∷ [])))) free ∙ (is ∙ ap Some (append_assoc before (one slot text ∷ []) more))

flag_mark : (option : Choice) → mark (name option) ≡ flag option None
flag_mark Workers = refl
flag_mark Nodes = refl
flag_mark Number = refl

joined_mark : (option : Choice) (value : Text) → mark (name option ++ 61 ∷ value) ≡ flag option (Some value)
joined_mark Workers value = refl
joined_mark Nodes value = refl
joined_mark Number value = refl

pub mode_mark : (mode : Mode) → IsBare (mode_name mode)
mode_mark Eliminate = refl
mode_mark Answers = refl
mode_mark Summary = refl
mode_mark Make = refl

modes_say : (told : List Mode) (before : List Said) → AreFirst IsBare before (map mode_says told) → read (map mode_name told) (Some (so_far modes before)) ≡ Some (before ++ map mode_says told)
modes_say [] before first = ap Some (sym (append-nil before))
modes_say (mode ∷ told) before first =
    says_text (map mode_name told) modes of_mode (mode_name mode) before (map mode_says told) first.0 (modes_say told (before ++ mode_says mode ∷ []) first.2)

pub items_say : (items : List Item) (rest : Option (List Mode)) (before : List Said) → AreFirst IsBare before (all_say items rest)
    → read (all_spelled items ++ tail_spelled rest) (Some (so_far anything before)) ≡ Some (before ++ all_say items rest)
items_say [] None before first = ap Some (sym (append-nil before))
items_say [] (Some told) before first = modes_say told before first
items_say (apart option value ∷ items) rest before first =
    let words = all_spelled items ++ tail_spelled rest in
    ap (λ look. read (value ∷ words) (stepped_by look (name option) before)) (flag_mark option)
    ∙ (ap (λ look. read words (valued_by look option value before)) first.1
    ∙ says_text words anything (of_option option) value before (all_say items rest) first.0 (items_say items rest (before ++ one (of_option option) value ∷ []) first.2))
items_say (joined option value ∷ items) rest before first =
    let words = all_spelled items ++ tail_spelled rest in
    ap (λ look. read words (stepped_by look (name option ++ 61 ∷ value) before)) (joined_mark option value)
    ∙ says_text words anything (of_option option) value before (all_say items rest) first.0 (items_say items rest (before ++ one (of_option option) value ∷ []) first.2)
items_say (named mode ∷ items) rest before first =
    let words = all_spelled items ++ tail_spelled rest in
    ap (λ look. read words (stepped_by look (mode_name mode) before)) (mode_mark mode)
    ∙ says_text words anything of_mode (mode_name mode) before (all_say items rest) first.0 (items_say items rest (before ++ mode_says mode ∷ []) first.2)
