-- Texts that are said one after the other, each of something of which none was said.
use Rattle.std.proofs.Common.{◌≡◌, ◌∙◌, ap, sym, refl, subst, Bool, true, false, List, [], ◌∷◌, ◌++◌, Some}
use Rattle.std.specs.Prelude.{◌||◌, is_some, slice_get, if◌then◌else◌}
use Rattle.qe_words.specs.declared.choice.Choice.TheVariants.{Workers, Nodes, Number}
use Rattle.qe_words.specs.Text.{Text}
use Rattle.qe_words.specs.Said.{Slot, of_option, of_mode, Said, one, same, tells, text_of, texts}

-- ---- one more text

pub tells_more : (s : Slot) (said : List Said) (x : Said) → tells s (said ++ x ∷ []) ≡ (tells s said || same x.slot s)
tells_more s [] x =
    elim (same x.slot s) as (λ b. is_some (slice_get (if b then x.text ∷ [] else []) 0) ≡ b) [ true ↦ refl | false ↦ refl ]
tells_more s (y ∷ ys) x =
    elim (same y.slot s) as (λ b. is_some (slice_get (if b then y.text ∷ texts s (ys ++ x ∷ []) else texts s (ys ++ x ∷ [])) 0)
    ≡ (is_some (slice_get (if b then y.text ∷ texts s ys else texts s ys) 0) || same x.slot s)) [
      | true ↦ refl
      | false ↦ tells_more s ys x
    ]

pub or_false : (b : Bool) → (b || false) ≡ b
or_false true = refl
or_false false = refl

pub or_true : (b : Bool) → (b || true) ≡ true
or_true true = refl
or_true false = refl

-- ---- each slot at most once

-- each text is the first that is said of its slot, and is such a text
abbrev pub AreFirst : (Text → Type 0) → List Said → List Said → Type 0
AreFirst P before [] = Unit {0}
AreFirst P before (next ∷ more) = (tells next.slot before ≡ false) × P next.text × AreFirst P (before ++ next ∷ []) more

-- one such text at most
abbrev pub AtMostOne : (Text → Type 0) → List Text → Type 0
AtMostOne P [] = Unit {0}
AtMostOne P (text ∷ []) = P text
AtMostOne P (text ∷ another ∷ more) = ⊥

pub itself : (slot : Slot) → same slot slot ≡ true
itself (of_option Workers) = refl
itself (of_option Nodes) = refl
itself (of_option Number) = refl
itself of_mode = refl

pub same_is : (slot other : Slot) → same slot other ≡ true → slot ≡ other
same_is (of_option Workers) (of_option Workers) e = refl
same_is (of_option Nodes) (of_option Nodes) e = refl
same_is (of_option Number) (of_option Number) e = refl
same_is of_mode of_mode e = refl
same_is (of_option Workers) (of_option Nodes) e = absurd (cc)
same_is (of_option Workers) (of_option Number) e = absurd (cc)
same_is (of_option Nodes) (of_option Workers) e = absurd (cc)
same_is (of_option Nodes) (of_option Number) e = absurd (cc)
same_is (of_option Number) (of_option Workers) e = absurd (cc)
same_is (of_option Number) (of_option Nodes) e = absurd (cc)
same_is (of_option option) of_mode e = absurd (cc)
same_is of_mode (of_option option) e = absurd (cc)

-- one more, of the same slot or of another
told_now : (slot : Slot) (before : List Said) (next : Said) → same next.slot slot ≡ true → tells slot (before ++ next ∷ []) ≡ true
told_now slot before next is = tells_more slot before next ∙ (ap (λ b. tells slot before || b) is ∙ or_true (tells slot before))

told_before : (slot : Slot) (before : List Said) (next : Said) → same next.slot slot ≡ false → tells slot (before ++ next ∷ []) ≡ tells slot before
told_before slot before next is = tells_more slot before next ∙ (ap (λ b. tells slot before || b) is ∙ or_false (tells slot before))

module _ (P : Text → Type 0) (slot : Slot) where
  -- after one, no more come
  no_more : (before more : List Said) → AreFirst P before more → tells slot before ≡ true → texts slot more ≡ []
  no_more before [] first there = refl
  no_more before (next ∷ more) first there =
      elim (same next.slot slot) as (λ b. same next.slot slot ≡ b → (if b then next.text ∷ texts slot more else texts slot more) ≡ []) [
        | true ↦ λ is. let free : tells slot before ≡ false = subst (λ s. tells s before ≡ false) (same_is next.slot slot is) first.0 in absurd (cc)
        | false ↦ λ is. no_more (before ++ next ∷ []) more first.2 (told_before slot before next is ∙ there)
      ] refl

  pub at_most_one : (before more : List Said) → AreFirst P before more → AtMostOne P (texts slot more)
  at_most_one before [] first = tt
  at_most_one before (next ∷ more) first =
      elim (same next.slot slot) as (λ b. same next.slot slot ≡ b → AtMostOne P (if b then next.text ∷ texts slot more else texts slot more)) [
        | true ↦ λ is. subst (λ ts. AtMostOne P (next.text ∷ ts)) (sym (no_more (before ++ next ∷ []) more first.2 (told_now slot before next is))) first.1
        | false ↦ λ is. at_most_one (before ++ next ∷ []) more first.2
      ] refl

-- what is told before is not said again, and each slot has one text at most
abbrev HasOne : (Text → Type 0) → List Said → List Said → Slot → Type 0
HasOne P before more slot = (tells slot before ≡ true → texts slot more ≡ []) × AtMostOne P (texts slot more)

module _ (P : Text → Type 0) where
  head_text : (text : Text) (more : List Text) → AtMostOne P (text ∷ more) → P text × (more ≡ [])
  head_text text [] h = (h, refl)
  head_text text (another ∷ more) h = absurd h

  -- the same, once one more is said
  has_one_on : (before more : List Said) (next : Said) (slot : Slot) → HasOne P before (next ∷ more) slot → HasOne P (before ++ next ∷ []) more slot
  has_one_on before more next slot has =
      elim (same next.slot slot) as (λ b. same next.slot slot ≡ b → (tells slot before ≡ true → (if b then next.text ∷ texts slot more else texts slot more) ≡ [])
      → AtMostOne P (if b then next.text ∷ texts slot more else texts slot more) → HasOne P (before ++ next ∷ []) more slot) [
        | true ↦ λ is none one. let ends = (head_text next.text (texts slot more) one).1 in (λ there. ends, subst (AtMostOne P) (sym ends) tt)
        | false ↦ λ is none one. (λ there. none (sym (told_before slot before next is) ∙ there), one)
      ] refl has.0 has.1

  own_texts : (next : Said) (more : List Said) → texts next.slot (next ∷ more) ≡ next.text ∷ texts next.slot more
  own_texts next more = ap (λ b. if b then next.text ∷ texts next.slot more else texts next.slot more) (itself next.slot)

  first_of_its : (before more : List Said) (next : Said) → HasOne P before (next ∷ more) next.slot → (tells next.slot before ≡ false) × P next.text
  first_of_its before more next has = (
    elim (tells next.slot before) as (λ b. tells next.slot before ≡ b → b ≡ false) [
      | true ↦ λ there. let none : next.text ∷ texts next.slot more ≡ [] = sym (own_texts next more) ∙ has.0 there in absurd (cc)
      | false ↦ λ there. refl
    ] refl,
    (head_text next.text (texts next.slot more) (subst (AtMostOne P) (own_texts next more) has.1)).0,
  )

  pub are_first : (before more : List Said) → ((slot : Slot) → HasOne P before more slot) → AreFirst P before more
  are_first before [] has = tt
  are_first before (next ∷ more) has =
      let first = first_of_its before more next (has next.slot) in
      (first.0, first.1, are_first (before ++ next ∷ []) more (λ slot. has_one_on before more next slot (has slot)))

-- a text that is the first of its slot is the text of that slot
pub first_text : (slot : Slot) (text : Text) (before more : List Said) → tells slot before ≡ false → text_of slot ((before ++ one slot text ∷ []) ++ more) ≡ Some text
first_text slot text [] more free = ap (λ b. slice_get (if b then text ∷ texts slot more else texts slot more) 0) (itself slot)
first_text slot text (x ∷ xs) more free =
    elim (same x.slot slot) as (λ b. is_some (slice_get (if b then x.text ∷ texts slot xs else texts slot xs) 0) ≡ false
    → slice_get (if b then x.text ∷ texts slot ((xs ++ one slot text ∷ []) ++ more) else texts slot ((xs ++ one slot text ∷ []) ++ more)) 0 ≡ Some text) [
      | true ↦ λ none. absurd (cc)
      | false ↦ λ none. first_text slot text xs more none
    ] free
