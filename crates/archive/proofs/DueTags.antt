-- The tags that are due, by their numbers: `none_due` and `due_is`.
use Rattle.std.proofs.Common.{◌≡◌, ℕ, false, List, [], ◌∷◌, refl, ap, ◌∙◌}
use Rattle.std.specs.Prelude.{◌==◌, ◌||◌}
use Rattle.std.specs.List.{list_any}
use Rattle.std.proofs.lemmas.Bool.{ne_eqb}
use Rattle.archive.specs.contracts.fields.TagPartialEq.TheImpl as derived
use Rattle.archive.specs.declared.fields.Tag.{Tag}
use Rattle.archive.specs.declared.fields.Tag.TheVariants as tag
use Rattle.archive.specs.Fields.{tag_number, due_tag}

-- a derived == compares the tags' numbers
abbrev SameTag : Tag → Tag → Type 0
SameTag s t = (derived.ghosts).eq s t ≡ (tag_number s == tag_number t)

same_tag : (s t : Tag) → SameTag s t
same_tag tag.Date t = elim t as (SameTag tag.Date) [ tag.Date ↦ refl | tag.Plan ↦ refl | tag.Title ↦ refl | tag.Rows ↦ refl | tag.Last ↦ refl ]
same_tag tag.Plan t = elim t as (SameTag tag.Plan) [ tag.Date ↦ refl | tag.Plan ↦ refl | tag.Title ↦ refl | tag.Rows ↦ refl | tag.Last ↦ refl ]
same_tag tag.Title t = elim t as (SameTag tag.Title) [ tag.Date ↦ refl | tag.Plan ↦ refl | tag.Title ↦ refl | tag.Rows ↦ refl | tag.Last ↦ refl ]
same_tag tag.Rows t = elim t as (SameTag tag.Rows) [ tag.Date ↦ refl | tag.Plan ↦ refl | tag.Title ↦ refl | tag.Rows ↦ refl | tag.Last ↦ refl ]
same_tag tag.Last t = elim t as (SameTag tag.Last) [ tag.Date ↦ refl | tag.Plan ↦ refl | tag.Title ↦ refl | tag.Rows ↦ refl | tag.Last ↦ refl ]

pub none_due : (due : List Tag) (byte : ℕ) → ((t : Tag) → tag_number t ≡ byte → ⊥) → due_tag due byte ≡ false
none_due [] byte none = refl
none_due (t ∷ due) byte none = rw (ne_eqb (tag_number t) byte (none t), none_due due byte none) refl

pub due_is : (due : List Tag) (t : Tag) (byte : ℕ) → tag_number t ≡ byte → list_any (λ s. (derived.ghosts).eq s t) due ≡ due_tag due byte
due_is [] t byte e = refl
due_is (s ∷ due) t byte e = λ i. (same_tag s t ∙ ap (λ n. tag_number s == n) e) i || due_is due t byte e i
